use Rattle.std.proofs.Common.{arith, sym, ◌∙◌, ap, subst}
use Rattle.gcx_base.specs.declared.kind.Kind.TheVariants.{Element}
use Rattle.role_set.specs.NodeRoles.{NodeSets}
use Rattle.buf_tree.specs.Rows.{serials, below_row, covered_by}
use Rattle.buf_tree.specs.Shape.{Store, cells}
use Rattle.buf_tree.specs.Spread.{TellsCovered}
use Rattle.buf_tree.proofs.Keeping.{kept_same, length_serials}
use Rattle.buf_tree.proofs.BornViews.{there, level_here}
use Rattle.buf_tree.proofs.PassedViews.{kept_then, covers_late, opened_then, rests_then}
use Rattle.buf_tree.proofs.buffer.Buffer.open_passed.Goals as goal

pub payload-above-requires : goal.payload-above-requires
payload-above-requires g c = there c.self.inside.spread _ _ _ _ _ _ _ _ _ _ c.self.view_is c.self.invariant.0 c.self.invariant.1 _ c.requires.parent

pub new_child-row-requires-clause-level : goal.new_child-row-requires-clause-level
new_child-row-requires-clause-level g c =
    let e = level_here c.self.inside.spread _ _ _ _ _ _ _ _ _ _ c.self.view_is c.self.invariant.0 c.self.invariant.1 _ c.requires.parent _ c.payload-above.ensures in
    omega (arith, e, c.requires.depth)

pub new_child-row-requires-clause-signed : goal.new_child-row-requires-clause-signed
new_child-row-requires-clause-signed g c = ap (λ (s : NodeSets). s.signed) c.new.ensures

pub invariant_of-self-in_err-place : goal.invariant_of-self-in_err-place
invariant_of-self-in_err-place g c = (
  kept_same _ _ _ _ _ _ _ _ c.in_err-place.ensures.err.0 (ap serials c.reserve.ensures.items) c.reserve.ensures.capacity c.self.invariant.0,
  subst (λ (m : Store). TellsCovered c.self.inside.spread (cells m)) (sym c.in_err-place.ensures.err.0) c.self.invariant.1,
)

pub invariant_of-self-2 : goal.invariant_of-self-2
invariant_of-self-2 g c =
    let row = c.new_child-row.ensures ∙ ap (λ (s : NodeSets). covered_by c.covers-covered.result (below_row c.payload-above.result.now.serial c.payload-above.result.now.level c.args.serial.0 (Element c.args.name) s.held)) c.new.ensures in (
      kept_then c.self.inside.spread _ _ _ _ _ _ _ _ _ _ c.self.view_is c.self.invariant.0 c.self.invariant.1 _ c.requires.parent (record { name = c.args.name; serial = c.args.serial.0 }) c.requires.behind c.requires.passed c.requires.spread _ c.payload-above.ensures _ c.covers-covered.ensures
          _ row _ c.in_ok-place.ensures.free _ c.in_ok-place.ensures.ok _ _ (omega (arith, c.in_ok-reserve.ensures.ok, c.reserve.new.self.ok.0, length_serials c.reserve.new.self.items)),
      covers_late c.self.inside.spread _ _ _ _ _ _ _ _ _ _ c.self.view_is c.self.invariant.0 c.self.invariant.1 _ c.requires.parent (record { name = c.args.name; serial = c.args.serial.0 }) c.requires.behind c.requires.passed c.requires.spread _ c.payload-above.ensures _ c.covers-covered.ensures
          _ row _ c.in_ok-place.ensures.free _ c.in_ok-place.ensures.ok,
    )

pub returns-clause-opened : goal.returns-clause-opened
returns-clause-opened g c =
    let row = c.new_child-row.ensures ∙ ap (λ (s : NodeSets). covered_by c.covers-covered.result (below_row c.payload-above.result.now.serial c.payload-above.result.now.level c.args.serial.0 (Element c.args.name) s.held)) c.new.ensures in
    opened_then c.self.inside.spread _ _ _ _ _ _ _ _ _ _ c.self.view_is c.self.invariant.0 c.self.invariant.1 _ c.requires.parent (record { name = c.args.name; serial = c.args.serial.0 }) c.requires.behind c.requires.passed c.requires.spread _ c.payload-above.ensures _ c.covers-covered.ensures
    _ row _ c.in_ok-place.ensures.free _ c.in_ok-place.ensures.ok _ (ap serials c.reserve.ensures.items) _ _ c.in_ok-place.ensures.most

pub returns-clause-stands : goal.returns-clause-stands
returns-clause-stands g c =
    let row = c.new_child-row.ensures ∙ ap (λ (s : NodeSets). covered_by c.covers-covered.result (below_row c.payload-above.result.now.serial c.payload-above.result.now.level c.args.serial.0 (Element c.args.name) s.held)) c.new.ensures in
    rests_then c.self.inside.spread _ _ _ _ _ _ _ _ _ _ c.self.view_is c.self.invariant.0 c.self.invariant.1 _ c.requires.parent (record { name = c.args.name; serial = c.args.serial.0 }) c.requires.behind c.requires.passed c.requires.spread _ c.payload-above.ensures _ c.covers-covered.ensures
    _ row _ c.in_ok-place.ensures.free _ c.in_ok-place.ensures.ok _ (ap serials c.reserve.ensures.items) _ _ c.in_ok-place.ensures.most
