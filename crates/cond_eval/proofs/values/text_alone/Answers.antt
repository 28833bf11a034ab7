use Rattle.std.proofs.Common.{◌≡◌, Some, sym, ◌∙◌, ap}
use Rattle.std.specs.FinMap.{get}
use Rattle.gcx_base.specs.Kinds.{is_text}
use Rattle.node_store.specs.Rows.{head_of, children_in}
use Rattle.node_store.specs.declared.store.Place.{Place}
use Rattle.buf_tree.specs.Shape.{Store}
use Rattle.cond_eval.proofs.Alone.{no_more, only_alone}
use Rattle.cond_eval.proofs.Cursors.{same_shape}
use Rattle.cond_eval.proofs.Stored.{kind_here}
use Rattle.cond_eval.proofs.values.text_alone.Goals as goal

pub returns-then-is_text : goal.returns-then-is_text
returns-then-is_text g c =
    let child = c.in_ok-child.child in
    let m : Store = g.N.NodeStore.rows child.store.now in
    let same : m ≡ g.N.NodeStore.rows c.at.result.store.now = ap g.N.NodeStore.rows c.in_ok-child.ensures.store in
    let shape = same_shape _ m c.args.buffer.now.kept same c.at.ensures.store in
    let first : head_of (children_in (get m c.args.place.0)) ≡ Some child.place.0 =
    ap (λ (z : Store). head_of (children_in (get z c.args.place.0))) same
    ∙ sym (c.in_ok-child.ensures.place ∙ ap (λ (z : Place). head_of (children_in (get (g.N.NodeStore.rows c.at.result.store.now) z.0))) c.at.ensures.place) in
    only_alone m c.args.buffer.now.kept c.args.buffer.now.rows shape c.at.ensures.alike c.args.place.0 child.place.0 c.requires first
    (no_more _ _ c.is_some.result _ c.is_some.ensures c.if-is_some.false c.next.ensures.place)
    (λ d i e. ap is_text (kind_here c.args.buffer.now.kept c.args.buffer.now.rows c.at.ensures.alike m shape _ _ _ c.payload.ensures (sym c.kind.ensures) d i e) ∙ (sym c.is_text.ensures ∙ c.if-is_text.true))
