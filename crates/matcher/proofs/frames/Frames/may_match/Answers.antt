use Rattle.std.proofs.Common.{List, sym, subst}
use Rattle.gcx_model.specs.Members.{In}
use Rattle.matcher.specs.Parts.{IsUnmatched, NodeMarks, marks_at}
use Rattle.matcher.specs.declared.frames.Context.{Context}
use Rattle.matcher.proofs.Matching.{unmatched_there}
use Rattle.matcher.proofs.Places.{map_at, place_of}
use Rattle.matcher.proofs.frames.Frames.may_match.Goals as goal

pub returns : goal.returns
returns c = record {
  no = λ h one j u. (
      let s = c.self.inside in
      let cs = s.contexts.items in
      let there = subst (λ (v : List NodeMarks). In one v) (sym c.self.view_is) j in
      let i = place_of _ one there in
      let q = map_at (marks_at cs s.found.items) s.nodes.items i.0 one i.1 in
      let part = subst (λ (z : NodeMarks). IsUnmatched z.contexts c.args.role) (sym q.2) u in
      c.has_unmatched.ensures.no h (subst (λ (z : List Context). IsUnmatched z c.args.role) (sym c.deref.ensures.value) (unmatched_there q.0.contexts cs c.args.role part)));
}
