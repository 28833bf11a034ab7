use Rattle.std.proofs.Common.{sym, ◌∙◌, refl}
use Rattle.std.proofs.lemmas.Bool.{false≢true}
use Rattle.buf_tree.specs.Shape.{cells}
use Rattle.buf_tree.specs.Walk.{Inside}
use Rattle.buf_tree.proofs.Kin.{row_of_place}
use Rattle.buf_tree.proofs.Seeking.{below_start, low_less, used_there}
use Rattle.buf_tree.proofs.OtherBases.{backwards_start, backwards_found, backwards_on, backwards_end}
use Rattle.buf_tree.proofs.sweep.has_base_below.Goals as goal

pub back-init : goal.back-init
back-init g c d i e = backwards_start _ c.requires.shape c.requires.nested c.args.off.now d _ (below_start _ c.requires.shape d i _ (c.last_below-at.ensures d i e))

pub payload-requires : goal.payload-requires
payload-requires g c =
    let d = row_of_place _ _ c.requires.shape _ c.requires.there in
    let v = rw c.in-Some.is at (c.back.invariant d.0 d.1 d.2) in
    used_there _ c.requires.shape v.1.0 v.1.1 _ v.1.2

pub back-smaller : goal.back-smaller
back-smaller g c =
    let d = row_of_place _ _ c.requires.shape _ c.requires.there in
    let v = rw c.in-Some.is at (c.back.invariant d.0 d.1 d.2) in
    rw c.in-Some.is (low_less _ c.requires.shape (Inside (cells (g.N.NodeStore.rows c.args.nodes.now)) d.0) v.1.0 v.1.1 _ v.1.2 _ (c.before_below-at.ensures d.0 v.1.0 d.1 v.1.1 d.2 v.1.2 v.1.3))

pub back-preserved : goal.back-preserved
back-preserved g c d i e =
    let v = rw c.in-Some.is at (c.back.invariant d i e) in
    backwards_on _ c.requires.shape c.requires.nested c.args.off.now d _ v _ c.payload.ensures (sym c.is_waiting.ensures ∙ c.if-is_waiting.false) _ (c.before_below-at.ensures d v.1.0 i v.1.1 e v.1.2 v.1.3)

pub returns-then-is_waiting : goal.returns-then-is_waiting
returns-then-is_waiting g c d i e = (
  (λ _. backwards_found _ c.requires.shape c.requires.nested c.args.off.now d _ (rw c.in-Some.is at (c.back.invariant d i e)) _ c.payload.ensures (sym c.is_waiting.ensures ∙ c.if-is_waiting.true)),
  (λ _. refl),
)

pub returns : goal.returns
returns g c d i e = (
  (λ z. absurd (false≢true z)),
  (λ b. absurd (backwards_end _ c.requires.shape c.requires.nested c.args.off.now d (rw c.in_default.is at (c.back.invariant d i e)) b)),
)
