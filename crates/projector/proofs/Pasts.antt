-- The pasts that matchers have behind them.
use Rattle.std.proofs.Common.{◌≡◌, true, refl, sym, ◌∙◌, ap, arith, Some, None, Option}
use Rattle.std.proofs.lemmas.Bool.{false≢true}
use Rattle.gcx_model.specs.Tree.{Node, Tree, TreeToken}
use Rattle.gcx_model.specs.Run.{Offed}
use Rattle.gcx_model.specs.Growth.{may_come, may_come_at}
use Rattle.gcx_model.specs.Past.{Past, IsPast, is_ahead, reopen, reopened}
use Rattle.tree_laws.proofs.Lists.{In-filter}
use Rattle.tree_laws.proofs.Growing.{tree_same}
use Rattle.projector.specs.Projector.{ahead_in}

-- some node is open where a token may come
pub is_open : (P : Tree) (t : TreeToken) → may_come t P ≡ true → (a : Node) × (P.at ≡ Some a)
is_open P t m = go P.at refl m
  where
    go : (o : Option Node) → P.at ≡ o → may_come_at o t P.nodes ≡ true → (a : Node) × (P.at ≡ Some a)
    go None e h = absurd (false≢true h)
    go (Some a) e h = (a, e)

-- a tree whose document node is open stays as it is
pub reopened_same : (P : Tree) (a : Node) → P.at ≡ Some a → reopened P ≡ P
reopened_same P a e = tree_same (reopened P) P refl (ap reopen e ∙ sym e)

-- with fewer actions there is a past too
pub fewer : (past : Past) → IsPast past → IsPast (ahead_in past.tree past.acts past)
fewer past is = record {
  core = is.core;
  good = is.good;
  placed = is.placed;
  grown = is.grown;
  stated = λ o m i. is.stated o m (In-filter (is_ahead past.tree) (Offed o m) past.acts i).0;
  within = omega arith;
}
