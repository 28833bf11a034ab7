use Rattle.std.proofs.Common.{◌≡◌, ℕ, List, sym, subst, refl, arith, Some}
use Rattle.std.specs.Prelude.{slice_get}
use Rattle.path_states.specs.Lists.{Climbs, Parted}
use Rattle.path_states.proofs.Gaining.{gains_insert, gains_push}
use Rattle.path_states.proofs.Climbing.{climbs_insert, climbs_push, not_there}
use Rattle.path_states.proofs.rising.rise.Goals as goal

pub returns-in_ok-push : goal.returns-in_ok-push
returns-in_ok-push c = record {
  gains = gains_push c.args.numbers.now.items c.push.new.self.items c.args.number (λ y. c.args.number ≡ y) c.in_ok-push.ensures.items refl (λ y e. e);
  climbs = λ h. climbs_push c.args.numbers.now.items c.push.new.self.items c.place-place.result c.args.number c.in_ok-push.ensures.items (omega arith) h
      (subst (λ (z : List ℕ). Climbs z → Parted z c.place-place.result c.args.number) c.deref.ensures.value c.place-place.ensures.parts h);
}

pub returns-in_ok-insert-clause-gains : goal.returns-in_ok-insert-clause-gains
returns-in_ok-insert-clause-gains c = gains_insert c.args.numbers.now.items c.insert.new.self.items c.place-place.result c.args.number c.in_ok-insert.ensures.items

pub returns-in_ok-insert-clause-climbs : goal.returns-in_ok-insert-clause-climbs
returns-in_ok-insert-clause-climbs c = λ h.
    let parts = subst (λ (z : List ℕ). Climbs z → Parted z c.place-place.result c.args.number) c.deref.ensures.value c.place-place.ensures.parts h in
    climbs_insert c.args.numbers.now.items c.insert.new.self.items c.place-place.result c.args.number c.in_ok-insert.ensures.items h parts
    (not_there c.args.numbers.now.items c.place-place.result c.args.number h parts
    (λ e. c.is_at.ensures.no c.if-not-is_at.true (subst (λ (z : List ℕ). slice_get z c.place-place.result ≡ Some c.args.number) (sym c.deref-else-place-len.ensures.value) e)))
