use Rattle.std.proofs.Common.{◌≡◌, ◌↔◌, ℕ, ◌+◌, ◌-◌, ◌<◌, ◌≤◌, true, List, ◌∷◌, [], ◌++◌, get_or, take, rules, sym, ◌∙◌, ap, subst, arith}
use Rattle.gcx_model.specs.Members.{In}
use Rattle.gcx_model.specs.Tree.{Node, serial_of, within}
use Rattle.trace_check.specs.declared.reach.Range.{Range}
use Rattle.trace_check.proofs.Ranges.{HasSubtrees, set_more, set_node, set_rises, subtrees_in, subtrees_new}
use Rattle.trace_check.proofs.reach.subtrees.Goals as goal
use Rattle.trace_check.proofs.reach.subtrees.Goals.{then-done-node+in_ok-push, else-done-node}

pub loop-node-preserved : goal.loop-node-preserved
loop-node-preserved c f e =
    let ns : List ℕ = c.args.nodes.now in
    let k : ℕ = c.loop-node.node-index in
    let before : List ℕ = take k ns in
    let m = set_node c.args.tree.now f ns e k c.loop-node-test.true in
    let at : serial_of m.0 ≡ get_or ns k 0 = m.2 in
    let more : before ++ serial_of m.0 ∷ [] ≡ take (k + 1) ns = set_more ns k (serial_of m.0) c.loop-node-test.true at in
    subst (λ (x : List ℕ). HasSubtrees c.args.tree.now x c.if-done-node.done c.if-done-node.ranges.items) more
    (elim c.if-done-node.branch [
      | then-done-node+in_ok-push w ↦
          (let behind : c.loop-node.done ≤ serial_of m.0 = (let t = w.if-done-node.true in omega (arith, t, at)) in
          let last : w.saturating_sub.result ≡ w.end-done.result - 1 = search rules in
          subst (λ (d : ℕ). HasSubtrees c.args.tree.now (before ++ serial_of m.0 ∷ []) d c.if-done-node.ranges.items) (sym w.done-is)
          (subst (λ (x : List Range). HasSubtrees c.args.tree.now (before ++ serial_of m.0 ∷ []) w.end-done.result x) (sym (ap (λ v. v.items) w.ranges-is ∙ w.in_ok-push.ensures.items))
          (subtrees_new c.args.tree.now c.requires before c.loop-node.done c.loop-node.ranges.items (c.loop-node.invariant f e) m.0 m.1 behind w.end-done.result
          (subst (λ (x : ℕ). (n : Node) → In n c.args.tree.now.nodes → (within x n ≡ true) ↔ ((x ≤ serial_of n) × (serial_of n < w.end-done.result))) (sym at) w.end-done.ensures)
          _ (sym at) last)))
      | else-done-node w ↦
          (let inside : serial_of m.0 < c.loop-node.done = (let t = w.if-done-node.false in omega (arith, t, at)) in
          subst (λ (d : ℕ). HasSubtrees c.args.tree.now (before ++ serial_of m.0 ∷ []) d c.if-done-node.ranges.items) (sym w.done-is)
          (subst (λ (x : List Range). HasSubtrees c.args.tree.now (before ++ serial_of m.0 ∷ []) c.loop-node.done x) (sym (ap (λ v. v.items) w.ranges-is))
          (subtrees_in c.args.tree.now c.requires before c.loop-node.done c.loop-node.ranges.items (c.loop-node.invariant f e) m.0 m.1 inside
          (λ x i. let h = set_rises c.args.tree.now c.requires f ns e k c.loop-node-test.true x i in omega (arith, h, at)))))
    ])
