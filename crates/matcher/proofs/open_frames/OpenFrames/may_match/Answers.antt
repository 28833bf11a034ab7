use Rattle.std.proofs.Common.{List, sym, subst}
use Rattle.gcx_model.specs.Members.{In}
use Rattle.matcher.specs.Parts.{NodeMarks}
use Rattle.matcher.proofs.Bare.{unmatched_made}
use Rattle.matcher.proofs.open_frames.OpenFrames.may_match.Goals as goal

pub returns : goal.returns
returns c = record {
  no = λ h one j u. (
      let there = subst (λ (z : List NodeMarks). In one z) (sym c.self.view_is) j in
      c.may_match.ensures.no h one (unmatched_made c.self.inside.made c.self.inside.count one c.args.role there u) u);
}
