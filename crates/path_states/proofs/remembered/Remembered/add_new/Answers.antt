use Rattle.std.proofs.Common.{◌≡◌, ℕ, ◌≤◌, ◌+◌, min, ◌++◌, ◌∷◌, [], length, sym, ◌∙◌, ap, subst, inl, inr, arith, Some}
use Rattle.gcx_model.specs.Members.{In}
use Rattle.path_states.specs.declared.moves.Moves.{Moves}
use Rattle.path_states.specs.Room.{HasRoomLeft, slot_bytes, state_bytes}
use Rattle.path_states.specs.declared.remembered.Remembered.{Remembered}
use Rattle.path_states.proofs.Remembering.{leads_last, leads_kept}
use Rattle.path_states.proofs.Rooming.{bytes_added, bytes_hold, room_kept}
use Rattle.path_states.proofs.remembered.Remembered.add_new.Goals as goal

pub returns-then-not-is_room-clause-ok : goal.returns-then-not-is_room-clause-ok
returns-then-not-is_room-clause-ok c = λ tree names a. leads_last c.args.self.now c.add_last.new.self c.args.state c.args.from c.args.number c.in_ok-to.to c.in_ok-to.ensures.ok c.in_ok-to.ensures.number tree names a c.in_ok-to.ensures.kept c.in_ok-to.ensures.moves c.in_ok-to.ensures.bytes c.in_ok-to.ensures.bound

pub returns-clause-ok : goal.returns-clause-ok
returns-clause-ok c = λ tree names a.
    let before = c.args.self.now in
    let now = c.remember.new.self in
    let items = ap (λ v. v.items) c.remember.ensures.states in
    let states : now.states.items ≡ before.states.items ++ c.args.state ∷ [] = items ∙ c.in_ok-to.ensures.ok in
    let low = a.right.kept in
    let high = c.requires.all in
    let was : before.kept ≡ length before.states.items = omega arith in
    let kept : now.kept ≡ length now.states.items = c.remember.ensures.kept ∙ (c.len-self.ensures ∙ (c.add_last.new.self.states.ok.0 ∙ sym (ap length items))) in
    let mid : Remembered = record { states = c.add_last.new.self.states; kept = c.len-self.result; moves = c.add_last.new.self.moves; homes = c.put.new.self; bytes = c.saturating_add-self.result; bound = c.add_last.new.self.bound } in
    let room = c.may_keep-is_room.ensures.room c.if-not-is_room.false in
    let few = c.may_keep-is_room.ensures.states c.if-not-is_room.false in
    let bytes = c.bytes_of-bytes.result in
    let slots = slot_bytes (length before.moves.slots.items) in
    let large : state_bytes c.args.state ≤ bytes = bytes_hold (state_bytes c.args.state) bytes (before.bytes + slots) before.bound.bytes c.bytes_of-bytes.ensures room.0 room.1 in
    let counted : c.saturating_add-self.result ≡ before.bytes + bytes =
    bytes_added before.bytes bytes slots before.bound.bytes c.saturating_add-self.result (c.saturating_add-self.ensures ∙ ap (λ (z : ℕ). min (z + bytes) 18446744073709551615) c.in_ok-to.ensures.bytes) room.0 room.1 in
    let mid_kept : mid.kept ≡ length mid.states.items = c.len-self.ensures ∙ c.add_last.new.self.states.ok.0 in
    let has : HasRoomLeft now = c.remember.ensures.room (room_kept before mid c.args.state c.bytes_of-bytes.result c.in_ok-to.ensures.ok was mid_kept c.in_ok-to.ensures.moves counted c.in_ok-to.ensures.bound few room large a.right.room) in
    leads_kept before now c.args.state c.args.from c.args.number c.in_ok-to.to states c.in_ok-to.ensures.number tree names a has (c.remember.ensures.bound ∙ c.in_ok-to.ensures.bound) was kept
    (λ m j. elim (c.remember.ensures.moves m j) [ inl i ↦ inl (subst (λ (z : Moves). In (Some m) z.slots.items) c.in_ok-to.ensures.moves i) | inr q ↦ inr q ])
