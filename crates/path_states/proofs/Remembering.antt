-- Remembered states and moves stay right where a state or a move is added.
use Rattle.std.proofs.Common.{◌≡◌, ℕ, zero, suc, ◌<◌, ◌≤◌, List, [], ◌∷◌, ◌++◌, length, take, refl, sym, ◌∙◌, ap, subst, inl, inr, ◌⊎◌, arith, Some}
use Rattle.std.specs.Prelude.{slice_get}
use Rattle.std.proofs.lemmas.List.{append-nil, length-append, take-append-le}
use Rattle.tree_laws.proofs.Lists.{In}
use Rattle.path_states.specs.Active.{ActiveBelow, Tells, Waits}
use Rattle.path_states.specs.Lists.{From, Gains, Holds}
use Rattle.path_states.specs.Moves.{AreKnown, AreRight, HasNone, HasParts, IsMove, IsStep, LeadsOn, MayAdd, Remembers}
use Rattle.path_states.specs.Room.{HasRoomLeft}
use Rattle.path_states.specs.State.{StateView, HaveSameParts, IsMade, whole_roles}
use Rattle.path_states.specs.declared.branches.StepIndex.{StepIndex}
use Rattle.path_states.specs.declared.moves.Move.{Move}
use Rattle.path_states.specs.declared.paths.PathState.{PathState}
use Rattle.path_states.specs.declared.remembered.Remembered.{Remembered}
use Rattle.path_states.proofs.Growing.{at_front, at_seam}
use Rattle.path_states.proofs.Looking.{in_at, one_at}
use Rattle.path_states.proofs.Rooming.{room_first, room_same}

at_two : {X : Type 0} (xs ys : List X) (i : ℕ) (x : X) → slice_get (xs ++ ys) i ≡ Some x → (slice_get xs i ≡ Some x) ⊎ In x ys
at_two [] ys i x e = inr (in_at ys i x e)
at_two (z ∷ xs) ys zero x e = inl e
at_two (z ∷ xs) ys (suc i) x e = at_two xs ys i x e

module _ (tree : List PathState) (names : List (List ℕ)) where
  -- what leads to a state leads to one of the same parts
  step_same : (states : List StateView) (from number : ℕ) (k s : StateView) → HaveSameParts k s → IsStep tree names states from number s → IsStep tree names states from number k
  step_same states from number k s h step above kind at is =
      let m = step above kind at is in
      record {
        active = subst (λ (z : List ℕ). Holds z (ActiveBelow tree above.active above.pending kind)) (sym h.active) m.active;
        gathers = record {
          pending = subst (λ (z : List ℕ). Gains above.pending k.pending (From z (Waits tree))) (sym h.active) (subst (λ (z : List ℕ). Gains above.pending z (From s.active (Waits tree))) (sym h.pending) m.gathers.pending);
          whole = subst (λ (z : List ℕ). Gains above.whole k.whole (From z (Tells whole_roles tree))) (sym h.active) (subst (λ (z : List ℕ). Gains above.whole z (From s.active (Tells whole_roles tree))) (sym h.whole) m.gathers.whole);
        };
      }

  -- with more states it leads there still
  step_longer : (states more : List StateView) (from number : ℕ) (s : StateView) → from < length states → IsStep tree names states from number s → IsStep tree names (states ++ more) from number s
  step_longer states more from number s l step above kind at = step above kind (sym (at_front states more from l) ∙ at)

  module _ (before now : Remembered) (more : List StateView) (states : now.states.items ≡ before.states.items ++ more) where
    as_before : (n : ℕ) (s : StateView) → n < length before.states.items → slice_get now.states.items n ≡ Some s → slice_get before.states.items n ≡ Some s
    as_before n s l at = sym (at_front before.states.items more n l) ∙ (ap (λ (z : List StateView). slice_get z n) (sym states) ∙ at)

    step_now : (from number : ℕ) (s : StateView) → from < length before.states.items → IsStep tree names before.states.items from number s → IsStep tree names now.states.items from number s
    step_now from number s l step = subst (λ (z : List StateView). IsStep tree names z from number s) (sym states) (step_longer before.states.items more from number s l step)

    move_stays : AreRight tree names before → before.kept ≤ now.kept → (m : Move) → IsMove tree names before m → IsMove tree names now m
    move_stays r k m h =
        let b = r.kept in
        let f = h.starts in
        let t = h.ends in
        record {
          starts = omega arith;
          ends = omega arith;
          leads = λ s at. step_now m.from m.number s (omega arith) (h.leads s (as_before m.to s (omega arith) at));
        }

    pub right_more : HasRoomLeft now → AreRight tree names before → ((s : StateView) → In s more → IsMade tree s) → before.kept ≤ now.kept → now.kept ≤ length now.states.items
        → ((m : Move) → In (Some m) now.moves.slots.items → In (Some m) before.moves.slots.items ⊎ IsMove tree names now m) → AreRight tree names now
    right_more room r made k l moves = record {
      kept = l;
      room = room;
      made = λ n s at. elim (at_two before.states.items more n s (subst (λ (z : List StateView). slice_get z n ≡ Some s) states at)) [ inl a ↦ r.made n s a | inr j ↦ made s j ];
      moves = λ m j. elim (moves m j) [ inl i ↦ move_stays r k m (r.moves m i) | inr h ↦ h ];
    }

    -- a move that is added
    pub move_added : (from number to : ℕ) (state : StateView) → from < length before.states.items → from < now.kept → to < now.kept → IsStep tree names before.states.items from number state
        → ((s : StateView) → slice_get now.states.items to ≡ Some s → HaveSameParts s state) → (m : Move) → (m.from ≡ from) × ((m.number ≡ number) × (m.to ≡ to)) → IsMove tree names now m
    move_added from number to state l f t step parts m q =
        let e = q.0 in
        let d = q.1.1 in
        record {
          starts = omega arith;
          ends = omega arith;
          leads = λ s at. (
              let same = parts s (subst (λ (z : ℕ). slice_get now.states.items z ≡ Some s) q.1.1 at) in
              let leads = step_same now.states.items from number s state same (step_now from number state l step) in
              subst (λ (z : ℕ). IsStep tree names now.states.items z m.number s) (sym q.0) (subst (λ (z : ℕ). IsStep tree names now.states.items from z s) (sym q.1.0) leads));
        }

-- the same parts
pub same_parts : (s : StateView) → HaveSameParts s s
same_parts s = record { active = refl; pending = refl; whole = refl }

pub parts_by : (k s : StateView) → k ≡ s → HaveSameParts k s
parts_by k s e = subst (λ (z : StateView). HaveSameParts k z) e (same_parts k)

-- the first state alone
pub right_first : (known : Remembered) (first : StateView) → known.states.items ≡ first ∷ [] → known.kept ≡ 1 → HasNone known.moves.slots.items → length known.moves.slots.items ≡ 64
    → (tree : List PathState) (names : List (List ℕ)) → IsMade tree first → AreRight tree names known
right_first known first states kept none slots tree names made = record {
  kept = (let e = ap length states in omega arith);
  room = room_first known first states kept slots;
  made = λ n s at. (let j = in_at (first ∷ []) n s (subst (λ (z : List StateView). slice_get z n ≡ Some s) states at) in elim j [ inl e ↦ subst (IsMade tree) e made | inr b ↦ absurd b ]);
  moves = λ m j. absurd (none m j);
}

-- a state more, at the end, and maybe kept, with the move to it
module _ (before now : Remembered) (state : StateView) (from number to : ℕ) (states : now.states.items ≡ before.states.items ++ state ∷ []) (is_to : to ≡ length before.states.items)
    (tree : List PathState) (names : List (List ℕ)) (a : MayAdd tree names before from number state) where
  long : length now.states.items ≡ suc (length before.states.items)
  long = let e = ap length states in let f = length-append before.states.items (state ∷ []) in omega arith

  at_to : (s : StateView) → slice_get now.states.items to ≡ Some s → state ≡ s
  at_to s at =
      let e : slice_get now.states.items to ≡ Some state = ap (λ (z : List StateView). slice_get z to) states ∙ (ap (slice_get (before.states.items ++ state ∷ [])) is_to ∙ at_seam before.states.items state) in
      one_at now.states.items to state s e at

  made_more : (s : StateView) → In s (state ∷ []) → IsMade tree s
  made_more s j = elim j [ inl e ↦ subst (IsMade tree) e a.made | inr b ↦ absurd b ]

  leads_to : (s : StateView) → slice_get now.states.items to ≡ Some s → IsStep tree names before.states.items from number s
  leads_to s at = subst (λ (z : StateView). IsStep tree names before.states.items from number z) (at_to s at) a.step

  -- it isn't kept
  pub leads_last : now.kept ≡ before.kept → now.moves ≡ before.moves → now.bytes ≡ before.bytes → now.bound ≡ before.bound → LeadsOn tree names before now from number to
  leads_last kept moves bytes bound =
      let b = a.right.kept in
      let l = long in
      let front : take now.kept now.states.items ≡ take before.kept before.states.items =
      ap (λ (z : ℕ). take z now.states.items) kept ∙ (ap (take before.kept) states ∙ take-append-le before.kept before.states.items (state ∷ []) b) in
      record {
        more = state ∷ [];
        states = states;
        one = inr (refl, is_to);
        kept = omega arith;
        all = inl kept;
        bound = bound;
        right = right_more tree names before now (state ∷ []) states (room_same before now front kept moves bytes bound a.right.room) a.right made_more (omega arith) (omega arith) (λ m j. inl (subst (λ z. In (Some m) z.slots.items) moves j));
        there = omega arith;
        place = inr is_to;
        leads = leads_to;
      }

  -- it is kept
  pub leads_kept : HasRoomLeft now → now.bound ≡ before.bound → before.kept ≡ length before.states.items → now.kept ≡ length now.states.items
      → ((m : Move) → In (Some m) now.moves.slots.items → In (Some m) before.moves.slots.items ⊎ ((m.from ≡ from) × ((m.number ≡ number) × (m.to ≡ to)))) → LeadsOn tree names before now from number to
  leads_kept room bound was kept moves =
      let l = long in
      let f = a.there in
      let from_kept : from < now.kept = omega arith in
      let to_kept : to < now.kept = omega arith in
      record {
        more = state ∷ [];
        states = states;
        one = inr (refl, is_to);
        kept = omega arith;
        all = inr (omega arith);
        bound = bound;
        right = right_more tree names before now (state ∷ []) states room a.right made_more (omega arith) (omega arith) (λ m j. elim (moves m j) [
          | inl i ↦ inl i
          | inr q ↦ inr (move_added tree names before now (state ∷ []) states from number to state a.there from_kept to_kept a.step (λ s at. parts_by s state (sym (at_to s at))) m q)
        ]);
        there = omega arith;
        place = inl to_kept;
        leads = leads_to;
      }

-- a kept state of the same parts, with the move to it
pub leads_same : (before now : Remembered) (state : StateView) (from number to : ℕ) → (HasRoomLeft before → HasRoomLeft now) → now.bound ≡ before.bound → now.states ≡ before.states → now.kept ≡ before.kept → (before.kept < length before.states.items → ⊥) → to < before.kept → HasParts before.states.items to state
    → ((m : Move) → In (Some m) now.moves.slots.items → In (Some m) before.moves.slots.items ⊎ ((m.from ≡ from) × ((m.number ≡ number) × (m.to ≡ to))))
    → (tree : List PathState) (names : List (List ℕ)) → MayAdd tree names before from number state → LeadsOn tree names before now from number to
leads_same before now state from number to room bound same_states kept all t parts moves tree names a =
    let states : now.states.items ≡ before.states.items = ap (λ z. z.items) same_states in
    let more : now.states.items ≡ before.states.items ++ [] = states ∙ sym (append-nil before.states.items) in
    let b = a.right.kept in
    let f = a.there in
    let l = ap length states in
    let full : before.kept ≡ length before.states.items = equal_from before.kept (length before.states.items) b all in
    let from_kept : from < now.kept = omega arith in
    let to_kept : to < now.kept = omega arith in
    let is : (s : StateView) → slice_get now.states.items to ≡ Some s → HaveSameParts s state = λ s at. subst (λ (z : StateView). HaveSameParts z state) (one_at before.states.items to parts.known s parts.is (subst (λ (z : List StateView). slice_get z to ≡ Some s) states at)) parts.same in
    record {
      more = [];
      states = more;
      one = inl refl;
      kept = omega arith;
      all = inl kept;
      bound = bound;
      right = right_more tree names before now [] more (room a.right.room) a.right (λ s j. absurd j) (omega arith) (omega arith) (λ m j. elim (moves m j) [
        | inl i ↦ inl i
        | inr q ↦ inr (move_added tree names before now [] more from number to state a.there from_kept to_kept a.step is m q)
      ]);
      there = omega arith;
      place = inl to_kept;
      leads = λ s at. step_same tree names before.states.items from number s state (is s at) a.step;
    }
  where
    less_or : (i j : ℕ) → (i < j) ⊎ (j ≤ i)
    less_or i zero = inr (omega arith)
    less_or zero (suc j) = inl (omega arith)
    less_or (suc i) (suc j) = elim (less_or i j) [ inl a ↦ inl (omega arith) | inr a ↦ inr (omega arith) ]

    equal_from : (i j : ℕ) → i ≤ j → (i < j → ⊥) → i ≡ j
    equal_from i j le above = elim (less_or i j) [ inl l ↦ absurd (above l) | inr l ↦ omega arith ]

-- by a remembered move
pub leads_known : (known : Remembered) (from number to : ℕ) → Remembers known.moves from number to → (tree : List PathState) (steps : StepIndex) → AreKnown tree steps known → LeadsOn tree steps.names.items known known from number to
leads_known known from number to r tree steps a =
    let names = steps.names.items in
    let m = a.right.moves r.move r.among in
    let t = m.ends in
    let e = r.ends in
    let b = a.right.kept in
    record {
      more = [];
      states = sym (append-nil known.states.items);
      one = inl refl;
      kept = omega arith;
      all = inl refl;
      bound = refl;
      right = a.right;
      there = omega arith;
      place = inl (omega arith);
      leads = λ s at. subst (λ (z : ℕ). IsStep tree names known.states.items z number s) r.starts
          (subst (λ (z : ℕ). IsStep tree names known.states.items r.move.from z s) r.by (m.leads s (subst (λ (z : ℕ). slice_get known.states.items z ≡ Some s) (sym r.ends) at)));
    }
