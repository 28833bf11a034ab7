use Rattle.std.proofs.Common.{List, [], ◌∷◌, ◌++◌, ◌∙◌, ap}
use Rattle.matcher.specs.Parts.{NodeMarks, new_marks}
use Rattle.matcher.proofs.Bare.{bare_next}
use Rattle.matcher.proofs.open_frames.OpenFrames.add_bare.Goals as goal

pub returns-clause-added : goal.returns-clause-added
returns-clause-added c = bare_next c.self.inside.made c.self.inside.count c.self.invariant ∙ ap (λ (z : List NodeMarks). z ++ new_marks [] [] ∷ []) c.self.view_is
