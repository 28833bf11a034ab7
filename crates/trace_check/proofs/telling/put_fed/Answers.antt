use Rattle.std.proofs.Common.{◌≡◌, ℕ, suc, ◌+◌, [], ◌∷◌, sym, subst, arith}
use Rattle.trace_check.specs.Telling.{Puts, fed_told, line_in}
use Rattle.trace_check.specs.declared.timed.Fed.{Fed}
use Rattle.trace_check.proofs.telling.put_fed.Goals as goal

pub returns-in_ok-put_opened-in-Opened-clause-puts : goal.returns-in_ok-put_opened-in-Opened-clause-puts
returns-in_ok-put_opened-in-Opened-clause-puts c plan ts is =
    let opened : ℕ = c.args.told.now.opened in
    let next : opened + 1 ≡ suc opened = omega arith in
    subst (λ (f : Fed). Puts c.args.text.now.items c.put_opened.new.text.items (fed_told plan c.args.course.now (suc opened) f)) (sym c.in-Opened.is)
    (subst (λ (n : ℕ). Puts c.args.text.now.items c.put_opened.new.text.items (line_in plan c.args.course.now n ∷ [])) next (c.in_ok-put_opened-in-Opened.ensures plan ts is))
