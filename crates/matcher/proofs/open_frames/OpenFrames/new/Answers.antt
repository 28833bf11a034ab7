use Rattle.std.proofs.Common.{List, length, ap, arith}
use Rattle.matcher.specs.Bare.{with_bare}
use Rattle.matcher.specs.Parts.{NodeMarks}
use Rattle.matcher.proofs.open_frames.OpenFrames.new.Goals as goal

pub invariant_of-result : goal.invariant_of-result
invariant_of-result c = let none = ap (λ (z : List NodeMarks). length z) c.new-made.ensures in omega arith

pub returns : goal.returns
returns c = ap (λ (z : List NodeMarks). with_bare z 0) c.new-made.ensures
