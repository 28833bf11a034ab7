use Rattle.std.proofs.Common.{◌≡◌, ℕ, List, length, map, max, get_or, slice_index_or, rules, sym, ◌∙◌, ap, subst, arith}
use Rattle.gcx_base.specs.declared.kind.Kind.TheVariants.{Element}
use Rattle.gcx_model.specs.Answer.{children}
use Rattle.gcx_model.specs.Tree.{Node, serial_of, kind_of}
use Rattle.doc_tree.specs.Rows.{node_at}
use Rattle.trace_check.specs.Acting.{Adds, whole_copy, copies_below}
use Rattle.trace_check.specs.Timing.{clock_in}
use Rattle.trace_check.proofs.Reached.{if_ok}
use Rattle.trace_check.proofs.Walked.{document_copied, element_copied, kid_more, kid_there, kids_end}
use Rattle.trace_check.proofs.acts.Acts.+copies.Goals as goal

pub copy-returns-in_ok-write_end-in-Some-Element : goal.copy-returns-in_ok-write_end-in-Some-Element
copy-returns-in_ok-write_end-in-Some-Element t c =
    let C = c.args.timed.now.tree in
    let kind : Element c.in-Some-Element.name ≡ kind_of (node_at C.nodes c.args.node) = search rules in
    element_copied (clock_in c.args.timed.now) C c.requires.grown c.args.node c.requires.there c.in-Some-Element.name kind c.args.now
    c.args.self.now.acts.items c.write_start.new.self.acts.items c.copy_below.new.self.acts.items c.write_end.new.self.acts.items c.in_ok-done-in-Some-Element.done
    c.in_ok-write_start-in-Some-Element.ensures c.in_ok-done-in-Some-Element.ensures c.in_ok-write_end-in-Some-Element.ensures

pub copy-returns-in-None : goal.copy-returns-in-None
copy-returns-in-None t c =
    let C = c.args.timed.now.tree in
    let old = c.args.self.now.acts.items in
    let new = c.copy_below-in-None.new.self.acts.items in
    let n : Node = node_at C.nodes c.args.node in
    if_ok c.copy_below-in-None.result (Adds old new (copies_below (clock_in c.args.timed.now) C n c.args.now)) (Adds old new (whole_copy (clock_in c.args.timed.now) C n c.args.now))
    c.copy_below-in-None.ensures (λ u h. document_copied (clock_in c.args.timed.now) C c.requires.grown c.args.node c.requires.there c.in-None.ensures c.args.now old new u h)

pub copy_below-copy-requires : goal.copy_below-copy-requires
copy_below-copy-requires t c =
    let C = c.args.timed.now.tree in
    let numbers : List ℕ = map serial_of (children C (node_at C.nodes c.args.node)) in
    let same : c.deref-child-items.result.now ≡ numbers = c.deref-child-items.ensures.value ∙ c.in_ok-children.ensures in
    let long = ap length same in
    let k = kid_there (clock_in c.args.timed.now) C c.requires.grown c.args.node c.requires.there c.loop-child.child-index
    (slice_index_or c.deref-child-items.result.now c.loop-child.child-index 0) (omega (arith, long)) (ap (λ (l : List ℕ). get_or l c.loop-child.child-index 0) same) in
    let low = k.0 in
    let high = k.1 in
    let d = c.decreases in
    (omega (arith, low, high, d), (c.requires.grown, low))

pub copy_below-loop-child-preserved : goal.copy_below-loop-child-preserved
copy_below-loop-child-preserved t c =
    let C = c.args.timed.now.tree in
    let clock = clock_in c.args.timed.now in
    let k = c.loop-child.child-index in
    let child = slice_index_or c.deref-child-items.result.now k 0 in
    let mid = c.loop-child.self.acts.items in
    let new = c.copy.new.self.acts.items in
    let numbers : List ℕ = map serial_of (children C (node_at C.nodes c.args.node)) in
    let same : c.deref-child-items.result.now ≡ numbers = c.deref-child-items.ensures.value ∙ c.in_ok-children.ensures in
    let long = ap length same in
    let greater : c.max.result ≡ max c.loop-child.done c.opened_at.result = search rules in
    kid_more clock C c.requires.grown c.args.node c.requires.there k child c.args.now c.args.self.now.acts.items mid new c.loop-child.done c.in_ok-done.done
    (omega (arith, long)) (ap (λ (l : List ℕ). get_or l k 0) same) c.loop-child.invariant
    (subst (λ (x : ℕ). Adds mid new (whole_copy clock C (node_at C.nodes child) x) c.in_ok-done.done) (greater ∙ ap (max c.loop-child.done) c.opened_at.ensures) c.in_ok-done.ensures)

pub copy_below-returns : goal.copy_below-returns
copy_below-returns t c =
    let C = c.args.timed.now.tree in
    let clock = clock_in c.args.timed.now in
    let new = c.loop-child.self.acts.items in
    let numbers : List ℕ = map serial_of (children C (node_at C.nodes c.args.node)) in
    let same : c.deref-child-items.result.now ≡ numbers = c.deref-child-items.ensures.value ∙ c.in_ok-children.ensures in
    let long = ap length same in
    let greater : c.max-2.result ≡ max c.loop-child.done c.closed_at.result = search rules in
    subst (λ (x : ℕ). Adds c.args.self.now.acts.items new (copies_below clock C (node_at C.nodes c.args.node) c.args.now) x) (sym (greater ∙ ap (max c.loop-child.done) c.closed_at.ensures))
    (kids_end clock C c.requires.grown c.args.node c.requires.there c.loop-child.child-index c.args.now c.args.self.now.acts.items new c.loop-child.done (omega (arith, long)) c.loop-child.invariant)
