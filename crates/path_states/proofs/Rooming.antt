-- There is room for what is remembered, where a state or a move is added.
use Rattle.std.proofs.Common.{◌≡◌, ℕ, ◌+◌, ◌<◌, ◌≤◌, ◌^◌, min, Bool, true, List, [], ◌∷◌, ◌++◌, length, take, drop, refl, ◌∙◌, ap, inl, inr, arith}
use Rattle.std.specs.List.{sum_by}
use Rattle.std.proofs.lemmas.List.{length-append, length-take-le, take_all}
use Rattle.std.proofs.lemmas.List.Sums.{sum_by_push}
use Rattle.path_states.specs.Moves.{GrowsIf}
use Rattle.path_states.specs.Room.{HasRoomLeft, HasRoomForState, IsWithinRoom, slot_bytes, state_bytes}
use Rattle.path_states.specs.State.{StateView}
use Rattle.path_states.specs.declared.moves.Moves.{Moves}
use Rattle.path_states.specs.declared.remembered.Remembered.{Remembered}

-- the same states are kept, and the same moves
pub room_same : (before now : Remembered) → take now.kept now.states.items ≡ take before.kept before.states.items → now.kept ≡ before.kept → now.moves ≡ before.moves → now.bytes ≡ before.bytes → now.bound ≡ before.bound
    → HasRoomLeft before → HasRoomLeft now
room_same before now states kept moves bytes bound h =
    let e = ap (λ (z : List StateView). sum_by state_bytes (drop 1 z)) states in
    let m = ap (λ (z : Moves). length z.slots.items) moves in
    let s = ap (λ z. z.states) bound in
    let b = ap (λ z. z.bytes) bound in
    record {
      some = (let l = h.some in omega arith);
      count = (let l = h.count in omega arith);
      counted = (let l = h.counted in omega arith);
      within = elim h.within [ inl l ↦ inl (omega arith) | inr p ↦ (let k = p.0 in let l = p.1 in inr (omega arith, omega arith)) ];
    }

-- other slots for moves
pub room_moved : (known : Remembered) (moves : Moves) (may_grow : Bool) → GrowsIf may_grow (length known.moves.slots.items) (length moves.slots.items)
    → (may_grow ≡ true → HasRoomForState known (slot_bytes (length known.moves.slots.items))) → HasRoomLeft known → HasRoomLeft (record known { moves = moves })
room_moved known moves may_grow grows room h = record {
  some = h.some;
  count = h.count;
  counted = h.counted;
  within = elim grows [
    | inl e ↦ elim h.within [ inl l ↦ inl (omega arith) | inr p ↦ (let l = p.1 in inr (p.0, omega arith)) ]
    | inr g ↦ (let e = g.1 in let l = (room g.0).0 in inl (omega arith))
  ];
}

drop_push : (xs : List StateView) (y : StateView) → 0 < length xs → drop 1 (xs ++ y ∷ []) ≡ drop 1 xs ++ y ∷ []
drop_push [] y l = absurd (omega arith)
drop_push (x ∷ xs) y l = refl

-- what is counted, where it is within the bound
pub bytes_hold : (size bytes taken bound : ℕ) → min size 18446744073709551615 ≤ bytes → taken + bytes < bound → bound < 2 ^ 64 → size ≤ bytes
bytes_hold size bytes taken bound m l r = omega arith

pub bytes_added : (before bytes slots bound sum : ℕ) → sum ≡ min (before + bytes) 18446744073709551615 → before + slots + bytes < bound → bound < 2 ^ 64 → sum ≡ before + bytes
bytes_added before bytes slots bound sum e l r = omega arith

pub slots_double : (taken slots bytes bound : ℕ) → bytes ≡ min slots 18446744073709551615 → taken + bytes < bound → bound < 2 ^ 64 → taken + slots < bound
slots_double taken slots bytes bound e l r = omega arith

-- a state more is kept
pub room_kept : (before now : Remembered) (state : StateView) (bytes : ℕ) → now.states.items ≡ before.states.items ++ state ∷ [] → before.kept ≡ length before.states.items → now.kept ≡ length now.states.items
    → now.moves ≡ before.moves → now.bytes ≡ before.bytes + bytes → now.bound ≡ before.bound → before.kept < before.bound.states → HasRoomForState before bytes → state_bytes state ≤ bytes → HasRoomLeft before → HasRoomLeft now
room_kept before now state bytes states was kept moves counted bound few room large h =
    let old = before.states.items in
    let long = ap length states in
    let more = length-append old (state ∷ []) in
    let m = ap (λ (z : Moves). length z.slots.items) moves in
    let s = ap (λ z. z.states) bound in
    let b = ap (λ z. z.bytes) bound in
    let some : 0 < length old = (let l = h.some in omega arith) in
    let free = room.0 in
    let whole : take now.kept now.states.items ≡ old ++ state ∷ [] = take_all now.kept now.states.items (omega arith) ∙ states in
    let same : take before.kept old ≡ old = take_all before.kept old (omega arith) in
    let sum = ap (λ (z : List StateView). sum_by state_bytes (drop 1 z)) whole ∙ (ap (sum_by state_bytes) (drop_push old state some) ∙ sum_by_push state_bytes (drop 1 old) state) in
    let before_sum = ap (λ (z : List StateView). sum_by state_bytes (drop 1 z)) same in
    record {
      some = omega arith;
      count = omega arith;
      counted = (let l = h.counted in omega arith);
      within = inl (omega arith);
    }

-- the first state alone
pub room_first : (known : Remembered) (first : StateView) → known.states.items ≡ first ∷ [] → known.kept ≡ 1 → length known.moves.slots.items ≡ 64 → HasRoomLeft known
room_first known first states kept slots =
    let one : take known.kept known.states.items ≡ first ∷ [] = ap (λ (z : ℕ). take z known.states.items) kept ∙ ap (take 1) states in
    let none = ap (λ (z : List StateView). sum_by state_bytes (drop 1 z)) one in
    record {
      some = omega arith;
      count = omega arith;
      counted = omega arith;
      within = inr (kept, omega arith);
    }

-- what is kept is within the bound
pub within_room : (known : Remembered) (kept : List StateView) (slots : ℕ) → HasRoomLeft known → known.kept ≤ length known.states.items → kept ≡ take known.kept known.states.items → slots ≡ length known.moves.slots.items
    → IsWithinRoom known.bound.states known.bound.bytes kept slots
within_room known kept slots h l e s =
    let long = ap length e ∙ length-take-le known.kept known.states.items l in
    let sum = ap (λ (z : List StateView). sum_by state_bytes (drop 1 z)) e in
    record {
      count = (let c = h.count in omega arith);
      bytes = elim h.within [ inl a ↦ (let c = h.counted in inl (omega arith)) | inr p ↦ (let k = p.0 in let m = p.1 in inr (omega arith, omega arith)) ];
    }
