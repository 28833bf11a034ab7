use Rattle.std.proofs.Common.{List, length, sym, ◌∙◌, ap}
use Rattle.matcher.specs.Parts.{NodeMarks}
use Rattle.matcher.proofs.Bare.{bare_length}
use Rattle.matcher.proofs.open_frames.OpenFrames.len.Goals as goal

pub returns : goal.returns
returns c = sym (bare_length c.self.inside.made c.self.inside.count c.self.invariant) ∙ ap (λ (z : List NodeMarks). length z) c.self.view_is
