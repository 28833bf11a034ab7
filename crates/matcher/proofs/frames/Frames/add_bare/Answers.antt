use Rattle.std.proofs.Common.{false, List, [], ◌∷◌, ◌++◌, refl, sym, ◌∙◌, ap, subst, arith}
use Rattle.std.proofs.lemmas.List.{append-nil}
use Rattle.matcher.specs.Parts.{NodeMarks, marks_of, new_marks}
use Rattle.matcher.specs.Stacks.{AreStacked}
use Rattle.matcher.specs.declared.frames.Frame.{Frame}
use Rattle.matcher.proofs.Stacking.{marks_more, stacked_more}
use Rattle.matcher.proofs.frames.Frames.add_bare.Goals as goal

pub invariant_of-self-2 : goal.invariant_of-self-2
invariant_of-self-2 c =
    let s = c.self.inside in
    let cs = s.contexts.items in
    let fs = s.found.items in
    let frame : Frame = record { contexts = record { from = c.len-contexts.result; to = c.len-contexts.result }; found = record { from = c.len-found.result; to = c.len-found.result }; signed = false } in
    subst (λ (z : List Frame). AreStacked cs fs z) (sym c.in_ok-push.ensures.items)
    (stacked_more cs cs fs fs s.nodes.items frame (omega arith) (omega arith) (omega arith) (omega arith) (omega arith) (omega arith) c.self.invariant)

pub returns-clause-added : goal.returns-clause-added
returns-clause-added c =
    let s = c.self.inside in
    let cs = s.contexts.items in
    let fs = s.found.items in
    let frame : Frame = record { contexts = record { from = c.len-contexts.result; to = c.len-contexts.result }; found = record { from = c.len-found.result; to = c.len-found.result }; signed = false } in
    ap (marks_of cs fs) c.in_ok-push.ensures.items
    ∙ (marks_more cs cs fs fs s.nodes.items [] [] frame c.self.invariant (sym (append-nil cs)) (sym (append-nil fs)) (omega arith) (omega arith) (omega arith) (omega arith) refl
    ∙ ap (λ (v : List NodeMarks). v ++ new_marks [] [] ∷ []) c.self.view_is)
