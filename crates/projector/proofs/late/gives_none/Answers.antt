use Rattle.std.proofs.Common.{Some, ◌∙◌, ap}
use Rattle.std.proofs.lemmas.Bool.{eqb-true}
use Rattle.projector.proofs.late.gives_none.Goals as goal

pub returns-in-Some : goal.returns-in-Some
returns-in-Some c = λ y. c.in-Some.is ∙ ap Some (eqb-true c.in-Some.count 0 y)
