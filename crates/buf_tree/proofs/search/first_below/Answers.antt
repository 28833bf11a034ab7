use Rattle.std.proofs.Common.{arith, sym, ◌∙◌, ap, subst, cond, Some, ◌≤◌, ◌<◌}
use Rattle.std.specs.Prelude.{option_map}
use Rattle.gcx_base.specs.Tests.{passes}
use Rattle.node_store.specs.declared.store.Place.{Place}
use Rattle.buf_tree.specs.Row.{Row}
use Rattle.buf_tree.specs.Shape.{num, cells}
use Rattle.buf_tree.specs.Walk.{Back, Inside}
use Rattle.buf_tree.proofs.Shaping.{rising_same}
use Rattle.buf_tree.proofs.Kin.{row_of_place}
use Rattle.buf_tree.proofs.Seeking.{below_start, back_start, back_on, back_end, back_stop, answered, lies_below, below_lies, low_less, cell_row, used_there}
use Rattle.buf_tree.proofs.search.first_below.Goals as goal

pub back-init : goal.back-init
back-init g c d i e =
    let r = below_start _ c.requires.shape d i _ (c.last_below-at.ensures d i e) in
    back_start _ (Inside (cells (g.N.NodeStore.rows c.args.nodes.now)) d) c.args.step.now.test c.args.bound (rising_same _ c.requires.shape.rising) r.0 _ r.1 r.2

pub payload-row-requires : goal.payload-row-requires
payload-row-requires g c =
    let d = row_of_place _ _ c.requires.shape _ c.requires.there in
    let v = rw c.in-Some.is at (c.back.invariant d.0 d.1 d.2) in
    used_there _ c.requires.shape v.1.0 v.1.1 _ v.1.2

pub back-smaller : goal.back-smaller
back-smaller g c =
    let d = row_of_place _ _ c.requires.shape _ c.requires.there in
    let v = rw c.in-Some.is at (c.back.invariant d.0 d.1 d.2) in
    rw c.in-Some.is (low_less _ c.requires.shape (Inside (cells (g.N.NodeStore.rows c.args.nodes.now)) d.0) v.1.0 v.1.1 _ v.1.2 _ (c.before_below-at.ensures d.0 v.1.0 d.1 v.1.1 d.2 v.1.2 v.1.3))

pub back-preserved : goal.back-preserved
back-preserved g c d i e =
    let v = rw c.in-Some.is at (c.back.invariant d i e) in
    let r = cell_row _ c.requires.shape v.1.0 v.1.1 _ v.1.2 _ c.payload-row.ensures in
    let low = ap (λ (x : Row). x.serial) r ∙ sym c.serial.ensures in
    let high : c.args.bound < num v.1.0 = omega (arith, low, c.if-serial-bound.false) in
    let next = c.before_below-at.ensures d v.1.0 i v.1.1 e v.1.2 v.1.3 in
    subst (λ f. Back (cells (g.N.NodeStore.rows c.args.nodes.now)) (Inside (cells (g.N.NodeStore.rows c.args.nodes.now)) d) c.args.step.now.test c.args.bound (option_map (λ (p : Place). p.0) c.before_below-at.result) f)
    (ap (λ (x : Row). cond (passes c.args.step.now.test x.kind) (Some c.in-Some.here.0) (option_map (λ (p : Place). p.0) c.back.found)) r ∙ sym c.pick-found.ensures)
    (back_on _ (Inside (cells (g.N.NodeStore.rows c.args.nodes.now)) d) c.args.step.now.test c.args.bound (rising_same _ c.requires.shape.rising) _ _ v high _ next)

pub returns-then-serial-bound : goal.returns-then-serial-bound
returns-then-serial-bound g c d i e =
    let v = rw c.in-Some.is at (c.back.invariant d i e) in
    let r = cell_row _ c.requires.shape v.1.0 v.1.1 _ v.1.2 _ c.payload-row.ensures in
    let low = ap (λ (x : Row). x.serial) r ∙ sym c.serial.ensures in
    let under : num v.1.0 ≤ c.args.bound = omega (arith, low, c.if-serial-bound.true) in
    answered _ d c.args.step.now c.args.bound (Inside (cells (g.N.NodeStore.rows c.args.nodes.now)) d) (λ x j k. lies_below _ c.requires.shape c.requires.nested _ d x c.requires.axis i j k) (λ x j k. below_lies _ c.requires.shape c.requires.nested _ d x c.requires.axis i j k) _
    (back_stop _ (Inside (cells (g.N.NodeStore.rows c.args.nodes.now)) d) c.args.step.now.test c.args.bound _ _ v under)

pub returns-in_default : goal.returns-in_default
returns-in_default g c d i e =
    answered _ d c.args.step.now c.args.bound (Inside (cells (g.N.NodeStore.rows c.args.nodes.now)) d) (λ x j k. lies_below _ c.requires.shape c.requires.nested _ d x c.requires.axis i j k) (λ x j k. below_lies _ c.requires.shape c.requires.nested _ d x c.requires.axis i j k) _
    (back_end _ (Inside (cells (g.N.NodeStore.rows c.args.nodes.now)) d) c.args.step.now.test c.args.bound _ (rw c.in_default.is at (c.back.invariant d i e)))
