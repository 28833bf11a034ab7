use Rattle.std.proofs.Common.{◌≡◌, false, List, ◌∷◌, [], ◌++◌, length, map, refl, sym, ◌∙◌, ap, subst, arith}
use Rattle.std.proofs.lemmas.List.{length-append}
use Rattle.matcher.specs.Parts.{NodeMarks, marks_of, new_marks, open_context}
use Rattle.matcher.specs.Stacks.{AreStacked}
use Rattle.matcher.specs.declared.frames.Context.{Context}
use Rattle.matcher.specs.declared.frames.Frame.{Frame}
use Rattle.matcher.proofs.Stacking.{marks_more, stacked_more}
use Rattle.matcher.proofs.frames.Frames.add_marked.Goals as goal

pub invariant_of-self-2 : goal.invariant_of-self-2
invariant_of-self-2 c =
    let s = c.self.inside in
    let cs = s.contexts.items in
    let fs = s.found.items in
    let cs2 = c.put_contexts.new.contexts.items in
    let fs2 = c.extend_from_slice.new.self.items in
    let contexts : cs2 ≡ cs ++ map open_context c.args.roles.now = c.put_contexts.ensures ∙ ap (λ (z : List Context). z ++ map open_context c.args.roles.now) c.reserve-2.ensures.items in
    let found : fs2 ≡ fs ++ c.args.found.now = c.in_ok-extend_from_slice.ensures.items in
    let frame : Frame = record { contexts = record { from = c.len-contexts_from.result; to = c.len.result }; found = record { from = c.len-found_from.result; to = c.len-2.result }; signed = false } in
    let long_c = ap length contexts in
    let more_c = length-append cs (map open_context c.args.roles.now) in
    let long_f = ap length found in
    let more_f = length-append fs c.args.found.now in
    let nodes : c.push_reserved.new.self.items ≡ s.nodes.items ++ frame ∷ [] = c.push_reserved.ensures.items ∙ ap (λ (z : List Frame). z ++ frame ∷ []) c.reserve.ensures.items in
    subst (λ (z : List Frame). AreStacked cs2 fs2 z) (sym nodes)
    (stacked_more cs cs2 fs fs2 s.nodes.items frame (omega arith) (omega arith) (omega arith) (omega arith) (omega arith) (omega arith) c.self.invariant)

pub returns-clause-added : goal.returns-clause-added
returns-clause-added c =
    let s = c.self.inside in
    let cs = s.contexts.items in
    let fs = s.found.items in
    let cs2 = c.put_contexts.new.contexts.items in
    let fs2 = c.extend_from_slice.new.self.items in
    let contexts : cs2 ≡ cs ++ map open_context c.args.roles.now = c.put_contexts.ensures ∙ ap (λ (z : List Context). z ++ map open_context c.args.roles.now) c.reserve-2.ensures.items in
    let found : fs2 ≡ fs ++ c.args.found.now = c.in_ok-extend_from_slice.ensures.items in
    let frame : Frame = record { contexts = record { from = c.len-contexts_from.result; to = c.len.result }; found = record { from = c.len-found_from.result; to = c.len-2.result }; signed = false } in
    let nodes : c.push_reserved.new.self.items ≡ s.nodes.items ++ frame ∷ [] = c.push_reserved.ensures.items ∙ ap (λ (z : List Frame). z ++ frame ∷ []) c.reserve.ensures.items in
    ap (marks_of cs2 fs2) nodes
    ∙ (marks_more cs cs2 fs fs2 s.nodes.items c.args.roles.now c.args.found.now frame c.self.invariant contexts found (omega arith) (omega arith) (omega arith) (omega arith) refl
    ∙ ap (λ (v : List NodeMarks). v ++ new_marks c.args.roles.now c.args.found.now ∷ []) c.self.view_is)
