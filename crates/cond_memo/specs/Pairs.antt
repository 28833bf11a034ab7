-- What is kept of the values of two paths that are compared (this project's: each value is looked at once).
use Rattle.std.specs.Prelude.{ℕ, List, map}
use Rattle.gcx_base.specs.declared.ids.VarId.{VarId}
use Rattle.gcx_base.specs.declared.rel.Rel.{Rel}
use Rattle.gcx_base.specs.declared.steps.Step.{Step}
use Rattle.gcx_model.specs.Members.{In, Once}
use Rattle.gcx_model.specs.Tree.{Tree}
use Rattle.value_pairs.specs.Taken.{TookBoth}
use Rattle.cond_memo.specs.Taking.{IsTaken}
use Rattle.cond_memo.specs.declared.pair.Pair.{Pair}

-- of each side these values were taken, from the node that it is about, and the comparison took the same
pub record IsPair (q : Pair) (P : Tree) : Type 0 where
  pub lefts : List (List ℕ)
  pub rights : List (List ℕ)
  pub took : TookBoth q.compared q.rel lefts rights
  pub left : IsTaken q.left P lefts
  pub right : IsTaken q.right P rights

-- a comparison of two paths: of each the variable and the steps
abbrev pub paths : VarId → List Step → Rel → VarId → List Step → VarId × List Step × Rel × VarId × List Step
paths x left rel y right = (x, left, rel, y, right)

-- that of a pair
abbrev pub paths_of : Pair → VarId × List Step × Rel × VarId × List Step
paths_of q = paths q.var q.left.steps q.rel q.other q.right.steps

-- each of the pairs tells what is so of the tree, and no two are about the same
pub record ArePairs (qs : List Pair) (P : Tree) : Type 0 where
  pub each : (q : Pair) → In q qs → IsPair q P
  pub once : Once (map paths_of qs)
