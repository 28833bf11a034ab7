use Rattle.std.proofs.Common.{◌≡◌, ◌∙◌, ℕ, false, length, ap, rules, subst}
use Rattle.outside.specs.Places.{Few}
use Rattle.run_part.proofs.lines.TraceLinesLines.may_wait.Goals as goal

pub returns : goal.returns
returns g c = λ yes.
    let count : c.len.result ≡ length c.self.inside.text.items = search rules in
    subst (λ (n : ℕ). Few (g.O.Outside.most c.args.to.now false) n) (count ∙ ap length c.self.view_is) (c.may_wait.ensures yes)
