use Rattle.std.proofs.Common.{◌≡◌, sym, ◌∙◌, ap}
use Rattle.value_pairs.specs.Extremes.{ends_tell}
use Rattle.value_pairs.proofs.Bounds.{told_law}
use Rattle.value_pairs.proofs.ends.Ends.found.Goals as goal

pub returns : goal.returns
returns c = λ rel ls rs t differ.
    let law = told_law c.args.self.now.left c.args.self.now.right ls rs t.left t.right rel differ in
    let e : c.told.result ≡ ends_tell rel c.args.self.now.left c.args.self.now.right = c.told.ensures ∙ ap (λ z. ends_tell z c.args.self.now.left c.args.self.now.right) t.relation in
    ((λ h. law.0 (sym e ∙ h)), (λ p. e ∙ law.1 p))
