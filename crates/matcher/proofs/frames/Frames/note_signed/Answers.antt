use Rattle.std.proofs.Common.{◌≡◌, ◌++◌, List, length, take, drop, sym, ◌∙◌, ap, subst}
use Rattle.path_states.proofs.Growing.{take_written}
use Rattle.matcher.specs.Parts.{NodeMarks, marks_of}
use Rattle.matcher.specs.Stacks.{AreStacked, IsNoted, IsSigned}
use Rattle.matcher.specs.declared.frames.Frame.{Frame}
use Rattle.matcher.proofs.Matching.{noted_marks}
use Rattle.matcher.proofs.Ranges.{stacked_noted}
use Rattle.matcher.proofs.frames.Frames.note_signed.Goals as goal

pub invariant_of-self : goal.invariant_of-self
invariant_of-self c =
    let s = c.self.inside in
    let cs = s.contexts.items in
    let fs = s.found.items in
    let now = c.note_signed.new.nodes in
    let nodes = s.nodes.items in
    let noted = subst (λ (z : List Frame). IsNoted z now c.args.level) c.deref_mut.ensures.value c.note_signed.ensures in
    let many : length now ≡ s.nodes.len = c.note_signed.ensures.count ∙ (ap length c.deref_mut.ensures.value ∙ sym s.nodes.ok.0) in
    let written : take s.nodes.len (now ++ drop (length now) nodes) ≡ now = take_written s.nodes.len now (drop (length now) nodes) many in
    subst (λ (z : List Frame). AreStacked cs fs z) (sym written) (stacked_noted cs fs nodes now c.args.level noted c.self.invariant)

pub returns : goal.returns
returns c =
    let s = c.self.inside in
    let cs = s.contexts.items in
    let fs = s.found.items in
    let now = c.note_signed.new.nodes in
    let nodes = s.nodes.items in
    let noted = subst (λ (z : List Frame). IsNoted z now c.args.level) c.deref_mut.ensures.value c.note_signed.ensures in
    let many : length now ≡ s.nodes.len = c.note_signed.ensures.count ∙ (ap length c.deref_mut.ensures.value ∙ sym s.nodes.ok.0) in
    let written : take s.nodes.len (now ++ drop (length now) nodes) ≡ now = take_written s.nodes.len now (drop (length now) nodes) many in
    subst (λ (v : List NodeMarks). IsSigned v (marks_of cs fs (take s.nodes.len (now ++ drop (length now) nodes))) c.args.level) c.self.view_is
    (subst (λ (z : List Frame). IsSigned (marks_of cs fs nodes) (marks_of cs fs z) c.args.level) (sym written) (noted_marks cs fs nodes now c.args.level noted))
