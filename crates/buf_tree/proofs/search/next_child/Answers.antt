use Rattle.std.proofs.Common.{sym, ◌∙◌, ap, Some, None}
use Rattle.gcx_base.specs.Tests.{passes}
use Rattle.buf_tree.specs.Row.{Row}
use Rattle.buf_tree.specs.Shape.{num, cells}
use Rattle.buf_tree.specs.Match.{IsChild}
use Rattle.buf_tree.proofs.Shaping.{rising_same}
use Rattle.buf_tree.proofs.Kin.{row_of_place}
use Rattle.buf_tree.proofs.Seeking.{answered, lies_child, child_lies, cell_row, used_there}
use Rattle.buf_tree.proofs.Going.{child_next, high_less, on_start, on_next, on_found, on_end, from_kid}
use Rattle.buf_tree.proofs.search.next_child.Goals as goal

pub on-init : goal.on-init
on-init g c d h i j e f = on_start _ (IsChild d) c.args.step.now.test (num h) (rising_same _ c.requires.shape.rising) _ (c.child_after-at.ensures d h i j e f (from_kid _ _ d h c.requires.axis (c.requires.from d h i j e f)))

pub payload-requires : goal.payload-requires
payload-requires g c =
    let d = row_of_place _ _ c.requires.shape _ c.requires.top in
    let h = row_of_place _ _ c.requires.shape _ c.requires.used in
    let v = rw c.in-Some.is at (c.on.invariant d.0 h.0 d.1 h.1 d.2 h.2) in
    used_there _ c.requires.shape v.2.0 v.2.1 _ v.2.2

pub on-smaller : goal.on-smaller
on-smaller g c =
    let d = row_of_place _ _ c.requires.shape _ c.requires.top in
    let h = row_of_place _ _ c.requires.shape _ c.requires.used in
    let v = rw c.in-Some.is at (c.on.invariant d.0 h.0 d.1 h.1 d.2 h.2) in
    rw c.in-Some.is (high_less _ c.requires.shape (IsChild d.0) v.2.0 v.2.1 _ v.2.2 _ (child_next _ c.requires.shape d.0 v.2.0 d.1 v.2.1 v.2.3 _ v.2.2 _ c.next-at.ensures.value))

pub on-preserved : goal.on-preserved
on-preserved g c d h i j e f =
    let v = rw c.in-Some.is at (c.on.invariant d h i j e f) in
    let r = cell_row _ c.requires.shape v.2.0 v.2.1 _ v.2.2 _ c.payload.ensures in
    let next = child_next _ c.requires.shape d v.2.0 i v.2.1 v.2.3 _ v.2.2 _ c.next-at.ensures.value in
    on_next _ (IsChild d) c.args.step.now.test (num h) (rising_same _ c.requires.shape.rising) _ v (ap (λ (x : Row). passes c.args.step.now.test x.kind) r ∙ sym (c.passes.ensures ∙ ap (passes c.args.step.now.test) c.kind.ensures) ∙ c.if-passes.false) _ next

pub returns-then-passes : goal.returns-then-passes
returns-then-passes g c d h i j e f =
    let v = rw c.in-Some.is at (c.on.invariant d h i j e f) in
    let r = cell_row _ c.requires.shape v.2.0 v.2.1 _ v.2.2 _ c.payload.ensures in
    answered (cells (g.N.NodeStore.rows c.args.nodes.now)) d c.args.step.now (num h) (IsChild d) (λ x j k. lies_child (cells (g.N.NodeStore.rows c.args.nodes.now)) _ d x c.requires.axis k) (λ x j k. child_lies (cells (g.N.NodeStore.rows c.args.nodes.now)) _ d x c.requires.axis k) (Some c.in-Some.here)
    (on_found _ (IsChild d) c.args.step.now.test (num h) (rising_same _ c.requires.shape.rising) _ v (ap (λ (x : Row). passes c.args.step.now.test x.kind) r ∙ sym (c.passes.ensures ∙ ap (passes c.args.step.now.test) c.kind.ensures) ∙ c.if-passes.true))

pub returns : goal.returns
returns g c d h i j e f =
    answered (cells (g.N.NodeStore.rows c.args.nodes.now)) d c.args.step.now (num h) (IsChild d) (λ x j k. lies_child (cells (g.N.NodeStore.rows c.args.nodes.now)) _ d x c.requires.axis k) (λ x j k. child_lies (cells (g.N.NodeStore.rows c.args.nodes.now)) _ d x c.requires.axis k) None
    (on_end _ (IsChild d) c.args.step.now.test (num h) (rising_same _ c.requires.shape.rising) (rw c.in_default.is at (c.on.invariant d h i j e f)))
