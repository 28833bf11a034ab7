use Rattle.std.proofs.Common.{arith, ap, length, vec_capacity, ◌∙◌, ◌++◌, ◌∷◌, []}
use Rattle.buf_tree.specs.Rows.{serials}
use Rattle.buf_tree.proofs.BornViews.{covers_born, covers_still, there, level_here, bare_opened, bare_stands, kept_born, born_opened, born_stands}
use Rattle.buf_tree.proofs.Keeping.{kept_bare, kept_same, serials_push, length_serials}
use Rattle.buf_tree.proofs.buffer.Buffer.open_child.Goals as goal

pub payload-above-requires : goal.payload-above-requires
payload-above-requires g c = there c.self.inside.spread _ _ _ _ _ _ _ _ _ _ c.self.view_is c.self.invariant.0 c.self.invariant.1 _ c.requires.parent

pub new_child-row-requires-clause-level : goal.new_child-row-requires-clause-level
new_child-row-requires-clause-level g c =
    let e = level_here c.self.inside.spread _ _ _ _ _ _ _ _ _ _ c.self.view_is c.self.invariant.0 c.self.invariant.1 _ c.requires.parent _ c.payload-above.ensures in
    omega (arith, e, c.requires.depth)

pub invariant_of-self-then-bare : goal.invariant_of-self-then-bare
invariant_of-self-then-bare g c = (
  kept_bare _ _ _ c.self.inside.count _ _ _ _ c.self.invariant.0
      (ap serials c.push_reserved.ensures.items ∙ serials_push _ _ ∙ ap (λ (xs : _). serials xs ++ c.self.inside.count ∷ []) c.reserve.ensures.items)
      (omega (arith, c.in_ok-reserve.ensures.ok, c.reserve.new.self.ok.0, c.push_reserved.ensures.capacity, length_serials c.self.inside.gone.items, ap length c.reserve.ensures.items)),
  c.self.invariant.1,
)

pub returns-then-bare-clause-ok : goal.returns-then-bare-clause-ok
returns-then-bare-clause-ok g c roles opens =
    bare_opened c.self.inside.spread _ _ _ _ _ _ _ _ _ _ c.self.view_is c.self.invariant.0 c.self.invariant.1 _ c.requires.parent c.args.kind c.requires.kind _ roles _ opens c.args.ahead c.if-bare.true _ _
    (ap serials c.push_reserved.ensures.items ∙ serials_push _ _ ∙ ap (λ (xs : _). serials xs ++ c.self.inside.count ∷ []) c.reserve.ensures.items)
    c.saturating_add-self-inside.ensures

pub returns-then-bare-clause-stands : goal.returns-then-bare-clause-stands
returns-then-bare-clause-stands g c roles opens =
    bare_stands c.self.inside.spread _ _ _ _ _ _ _ _ _ _ c.self.view_is c.self.invariant.0 c.self.invariant.1 _ c.requires.parent c.args.kind c.requires.kind _ roles _ opens c.args.ahead c.if-bare.true _ _
    (ap serials c.push_reserved.ensures.items ∙ serials_push _ _ ∙ ap (λ (xs : _). serials xs ++ c.self.inside.count ∷ []) c.reserve.ensures.items)
    c.saturating_add-self-inside.ensures

pub invariant_of-self-in_err-place : goal.invariant_of-self-in_err-place
invariant_of-self-in_err-place g c = (
  kept_same _ _ _ _ _ _ _ _ c.in_err-place.ensures.err.0 (ap serials c.reserve.ensures.items) c.reserve.ensures.capacity c.self.invariant.0,
  covers_still c.self.inside.spread _ _ c.in_err-place.ensures.err.0 c.self.invariant.1,
)

pub invariant_of-self-2 : goal.invariant_of-self-2
invariant_of-self-2 g c = (
  kept_born c.self.inside.spread _ _ _ _ _ _ _ _ _ _ c.self.view_is c.self.invariant.0 c.self.invariant.1 _ c.requires.parent c.args.kind c.requires.kind _ _ _ c.requires.opens.1 c.args.ahead c.if-bare.false _
      c.payload-above.ensures _ _ c.new_child-row.ensures c.covers-covered.ensures _ c.in_ok-place.ensures.free _ c.in_ok-place.ensures.ok _ (vec_capacity c.reserve.new.self) (ap serials c.reserve.ensures.items)
      (omega (arith, c.in_ok-reserve.ensures.ok, c.reserve.new.self.ok.0, length_serials c.reserve.new.self.items, length_serials c.self.inside.gone.items, ap length c.reserve.ensures.items)),
  covers_born c.self.inside.spread _ _ _ _ _ _ _ _ _ _ c.self.view_is c.self.invariant.0 c.self.invariant.1 _ c.requires.parent c.args.kind c.requires.kind _ _ _ c.requires.opens.1 c.args.ahead c.if-bare.false _
      c.payload-above.ensures _ _ c.new_child-row.ensures c.covers-covered.ensures _ c.in_ok-place.ensures.free _ c.in_ok-place.ensures.ok _ (vec_capacity c.reserve.new.self) (ap serials c.reserve.ensures.items)
      (omega (arith, c.in_ok-reserve.ensures.ok, c.reserve.new.self.ok.0, length_serials c.reserve.new.self.items, length_serials c.self.inside.gone.items, ap length c.reserve.ensures.items)),
)

pub returns-clause-ok : goal.returns-clause-ok
returns-clause-ok g c roles opens =
    born_opened c.self.inside.spread _ _ _ _ _ _ _ _ _ _ c.self.view_is c.self.invariant.0 c.self.invariant.1 _ c.requires.parent c.args.kind c.requires.kind _ roles _ opens c.args.ahead c.if-bare.false _
    c.payload-above.ensures _ _ c.new_child-row.ensures c.covers-covered.ensures _ c.in_ok-place.ensures.free _ c.in_ok-place.ensures.ok _ (vec_capacity c.reserve.new.self) (ap serials c.reserve.ensures.items)
    (omega (arith, c.in_ok-reserve.ensures.ok, c.reserve.new.self.ok.0, length_serials c.reserve.new.self.items, length_serials c.self.inside.gone.items, ap length c.reserve.ensures.items))
    _ _ _ c.saturating_add-self-inside-2.ensures c.in_ok-place.ensures.most

pub returns-clause-stands : goal.returns-clause-stands
returns-clause-stands g c roles opens =
    born_stands c.self.inside.spread _ _ _ _ _ _ _ _ _ _ c.self.view_is c.self.invariant.0 c.self.invariant.1 _ c.requires.parent c.args.kind c.requires.kind _ roles _ opens c.args.ahead c.if-bare.false _
    c.payload-above.ensures _ _ c.new_child-row.ensures c.covers-covered.ensures _ c.in_ok-place.ensures.free _ c.in_ok-place.ensures.ok _ (vec_capacity c.reserve.new.self) (ap serials c.reserve.ensures.items)
    (omega (arith, c.in_ok-reserve.ensures.ok, c.reserve.new.self.ok.0, length_serials c.reserve.new.self.items, length_serials c.self.inside.gone.items, ap length c.reserve.ensures.items))
    _ _ _ c.saturating_add-self-inside-2.ensures c.in_ok-place.ensures.most
