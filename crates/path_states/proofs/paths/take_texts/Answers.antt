use Rattle.std.proofs.Common.{◌≡◌, get_or, sym, subst, inl, inr, arith, false, ℕ, Some}
use Rattle.std.specs.Prelude.{slice_get}
use Rattle.std.proofs.lemmas.Option.{slice_get_within, slice_get-get_or}
use Rattle.gcx_base.specs.declared.kind.Kind.TheVariants.{Text}
use Rattle.gcx_base.specs.Tests.{passes}
use Rattle.path_states.specs.declared.paths.PathState.{PathState}
use Rattle.path_states.proofs.Climbing.{less_or}
use Rattle.path_states.proofs.Looking.{one_at}
use Rattle.path_states.proofs.paths.take_texts.Goals as goal

pub loop-i-preserved : goal.loop-i-preserved
loop-i-preserved c = λ k s b e pos l. elim (less_or k c.loop-i.i l) [
  | inl m ↦ c.loop-i.invariant k s b e pos m
  | inr d ↦ (
      let x : PathState = get_or c.args.tree.now c.loop-i.i c.index-tree-i.result in
      let at = slice_get-get_or c.args.tree.now c.loop-i.i c.index-tree-i.result c.loop-i-test.true in
      let f = subst (λ (z : ℕ). slice_get c.args.tree.now z ≡ Some s) (sym d) e in
      subst (λ (z : PathState). passes z.step.test (Text b) ≡ false) (one_at c.args.tree.now c.loop-i.i x s at f) (c.takes_texts.ensures c.if-takes_texts.false b))
]

pub returns : goal.returns
returns c = λ _ k s b e pos. let l = slice_get_within c.args.tree.now k s e in let m = c.loop-i-test.false in c.loop-i.invariant k s b e pos (omega arith)
