use Rattle.std.proofs.Common.{List, subst}
use Rattle.matcher.specs.Bare.{with_bare}
use Rattle.matcher.specs.Parts.{NodeMarks}
use Rattle.matcher.specs.Stacks.{AreMatched}
use Rattle.matcher.proofs.Bare.{bare_matched}
use Rattle.matcher.proofs.open_frames.OpenFrames.note_found.Goals as goal

pub invariant_of-self : goal.invariant_of-self
invariant_of-self c = (bare_matched c.args.found.now c.self.inside.made c.note_found.new.self c.self.inside.count c.self.invariant c.note_found.ensures).0

pub returns : goal.returns
returns c =
    subst (λ (z : List NodeMarks). AreMatched c.args.found.now z (with_bare c.note_found.new.self c.self.inside.count)) c.self.view_is
    (bare_matched c.args.found.now c.self.inside.made c.note_found.new.self c.self.inside.count c.self.invariant c.note_found.ensures).1
