use Rattle.std.proofs.Common.{◌≡◌, ℕ, refl, sym, ◌∙◌, ap}
use Rattle.matcher.specs.Frames.{FoundAt}
use Rattle.matcher.specs.declared.frames.Found.{Found}
use Rattle.path_states.proofs.Gaining.{gains_none, gains_push}
use Rattle.matcher.proofs.found.put_one.Goals as goal

found_same : (f g : Found) → f.role ≡ g.role → f.level ≡ g.level → f ≡ g
found_same f g e h = ap (λ (z : ℕ). record { role = z; level = f.level }) e ∙ ap (λ (z : ℕ). record { role = g.role; level = z }) h

pub returns-in_ok-push : goal.returns-in_ok-push
returns-in_ok-push c =
    let x : Found = record { role = c.args.role; level = c.args.level } in
    gains_push c.args.found.now.items c.push.new.self.items x (FoundAt c.args.frames.now c.args.role c.args.level) c.in_ok-push.ensures.ok
    (record { of = refl; at = refl; open_yet = c.is_unfound.ensures.yes c.if-is_unfound.true })
    (λ y q. found_same x y (sym q.of) (sym q.at))

pub returns-else-is_unfound : goal.returns-else-is_unfound
returns-else-is_unfound c = gains_none c.args.found.now.items (FoundAt c.args.frames.now c.args.role c.args.level) (λ y q. c.is_unfound.ensures.no c.if-is_unfound.false q.open_yet)
