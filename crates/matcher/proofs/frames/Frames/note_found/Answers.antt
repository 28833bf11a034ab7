use Rattle.std.proofs.Common.{◌≡◌, ◌++◌, List, length, take, drop, sym, ◌∙◌, ap, subst}
use Rattle.path_states.proofs.Growing.{take_written}
use Rattle.matcher.specs.Parts.{NodeMarks, marks_of}
use Rattle.matcher.specs.Stacks.{AreMatched, FoundNoted}
use Rattle.matcher.specs.declared.frames.Context.{Context}
use Rattle.matcher.specs.declared.frames.Frame.{Frame}
use Rattle.matcher.proofs.Matching.{marks_matched}
use Rattle.matcher.proofs.frames.Frames.note_found.Goals as goal

pub returns-then-not-is_empty : goal.returns-then-not-is_empty
returns-then-not-is_empty c =
    let s = c.self.inside in
    let cs = s.contexts.items in
    let fs = s.found.items in
    let now = c.note_found.new.contexts in
    let found = c.args.found.now in
    let noted = subst (λ (z : List Frame). FoundNoted z found cs now) c.deref.ensures.value (subst (λ (z : List Context). FoundNoted c.deref.result.now found z now) c.deref_mut.ensures.value c.note_found.ensures) in
    let many : length now ≡ s.contexts.len = c.note_found.ensures.as_many ∙ (ap length c.deref_mut.ensures.value ∙ sym s.contexts.ok.0) in
    let written : take s.contexts.len (now ++ drop (length now) cs) ≡ now = take_written s.contexts.len now (drop (length now) cs) many in
    subst (λ (v : List NodeMarks). AreMatched found v (marks_of (take s.contexts.len (now ++ drop (length now) cs)) fs s.nodes.items)) c.self.view_is
    (subst (λ (z : List Context). AreMatched found (marks_of cs fs s.nodes.items) (marks_of z fs s.nodes.items)) (sym written) (marks_matched cs now fs found s.nodes.items c.self.invariant noted))
