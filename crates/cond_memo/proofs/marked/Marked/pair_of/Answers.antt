use Rattle.std.proofs.Common.{◌≡◌, ◌<◌, ◌++◌, ◌∷◌, [], List, length, map, inl, inr, refl, sym, ◌∙◌, ap, subst, arith}
use Rattle.std.proofs.lemmas.Bool.{false≢true}
use Rattle.gcx_base.specs.declared.ids.VarId.{VarId}
use Rattle.gcx_base.specs.declared.rel.Rel.{Rel}
use Rattle.gcx_base.specs.declared.steps.Step.{Step}
use Rattle.gcx_model.specs.Members.{In}
use Rattle.cond_eval.proofs.Kept.{key_in, keys_push, none_in, none_more}
use Rattle.cond_memo.specs.Pairs.{paths, paths_of}
use Rattle.cond_memo.specs.declared.pair.Pair.{Pair}
use Rattle.cond_memo.proofs.PairAsks.{are_paths, pair_added, paths_are}
use Rattle.cond_memo.proofs.marked.Marked.pair_of.Goals as goal

pub pairs-preserved : goal.pairs-preserved
pairs-preserved c =
    let ps = c.args.self.now.pairs in
    let q = c.index.result.now in
    let low : c.pairs.index < length ps.items = omega (arith, c.pairs-test.true, ps.ok.0) in
    let key = paths c.args.left.0 c.args.left.1.now c.args.rel c.args.right.0 c.args.right.1.now in
    let other : paths_of q ≡ key → ⊥ = λ e. false≢true (sym c.if-is_pair_of.false ∙ c.is_pair_of.ensures.all (paths_are q c.args.left.0 c.args.right.0 c.args.left.1.now c.args.right.1.now c.args.rel e)) in
    record { low = omega arith; none = none_more paths_of ps.items c.pairs.index q key (low, c.index.ensures) other c.pairs.invariant.none }

pub returns-then-is_pair_of-clause-count : goal.returns-then-is_pair_of-clause-count
returns-then-is_pair_of-clause-count c =
    let ps = c.args.self.now.pairs in
    let q = c.index.result.now in
    let low : c.pairs.index < length ps.items = omega (arith, c.pairs-test.true, ps.ok.0) in
    inl (
      key_in paths_of ps.items c.pairs.index q (paths c.args.left.0 c.args.left.1.now c.args.rel c.args.right.0 c.args.right.1.now) (low, c.index.ensures)
          (are_paths q c.args.left.0 c.args.right.0 c.args.left.1.now c.args.right.1.now c.args.rel (c.is_pair_of.ensures.is c.if-is_pair_of.true)),
      refl,
    )

pub returns-clause-stays : goal.returns-clause-stays
returns-clause-stays c P k =
    let ps = c.args.self.now.pairs in
    let q = c.in_ok-pair.pair in
    let key = paths c.args.left.0 c.args.left.1.now c.args.rel c.args.right.0 c.args.right.1.now in
    let none : In key (map paths_of ps.items) → ⊥ = none_in paths_of ps.items c.pairs.index key (omega (arith, c.pairs-test.false, ps.ok.0)) c.pairs.invariant.none in
    let same = are_paths q c.args.left.0 c.args.right.0 c.args.left.1.now c.args.right.1.now c.args.rel c.in_ok-pair.ensures.about in
    (k.0, pair_added ps.items c.push.new.self.items q c.in_ok-push.ensures.items (subst (λ (s : VarId × List Step × Rel × VarId × List Step). In s (map paths_of ps.items) → ⊥) (sym same) none) c.in_ok-pair.ensures.pair P k.1)

pub returns-clause-count : goal.returns-clause-count
returns-clause-count c =
    let ps = c.args.self.now.pairs in
    let q = c.in_ok-pair.pair in
    let key = paths c.args.left.0 c.args.left.1.now c.args.rel c.args.right.0 c.args.right.1.now in
    let none : In key (map paths_of ps.items) → ⊥ = none_in paths_of ps.items c.pairs.index key (omega (arith, c.pairs-test.false, ps.ok.0)) c.pairs.invariant.none in
    let same = are_paths q c.args.left.0 c.args.right.0 c.args.left.1.now c.args.right.1.now c.args.rel c.in_ok-pair.ensures.about in
    inr (
      none,
      ap (λ (zs : List Pair). map paths_of zs) c.in_ok-push.ensures.items ∙ (keys_push paths_of ps.items q ∙ ap (λ (s : VarId × List Step × Rel × VarId × List Step). map paths_of ps.items ++ s ∷ []) same),
    )
