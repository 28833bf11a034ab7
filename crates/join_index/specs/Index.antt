-- What an index keeps, and what it tells of an open tree.
use Rattle.std.specs.Prelude.{◌≡◌, ◌⊎◌, ◌+◌, ◌-◌, ◌^◌, ◌==◌, ℕ, zero, suc, Bool, true, false, cond, min, ltb, List, [], ◌∷◌, Option, Some, None, option_map}
use Rattle.std.specs.FinMap.{get}
use Rattle.gcx_base.specs.declared.rel.Rel.TheVariants.{Eq}
use Rattle.gcx_model.specs.Tree.{Tree, is_closed}
use Rattle.gcx_model.specs.Members.{In}
use Rattle.gcx_model.specs.Core.{OperandTree, Path, Str, Num, CondTree, CondTrees, Always, Exists, Compare, Not, AllOf, AnyOf, no_cond, more_conds}
use Rattle.gcx_model.specs.declared.truth.Truth.{Truth}
use Rattle.gcx_model.specs.declared.truth.Truth.TheVariants.{True, False}
use Rattle.gcx_model.specs.Truth.{Env, truth}
use Rattle.pass_laws.specs.ValueLists.{IsListOf}
use Rattle.buf_tree.specs.View.{View}
use Rattle.cond_eval.specs.Bindings.{Bindings}
use Rattle.cond_eval.specs.Asking.{Asked, Over, AnswersOver}
use Rattle.cond_memo.specs.Marks.{AreMarks}
use Rattle.cond_memo.specs.Taking.{IsTaken}
use Rattle.cond_memo.specs.Waiting.{Fits}
use Rattle.cond_memo.specs.declared.marked.Marked.{Marked}
use Rattle.cond_memo.specs.declared.taken.Taken.{Taken}
use Rattle.join_index.specs.declared.equality.Side.{Side}
use Rattle.join_index.specs.declared.equality.Listed.{Listed}
use Rattle.join_index.specs.declared.equality.Equality.{Equality}
use Rattle.join_index.specs.Equalities.{HasEquality, inner_of, path_of_side}

-- marks, the equalities with their lists, and how many lists were made
pub record IndexView : Type 0 where
  pub marked : Marked
  pub equalities : List Equality
  pub built : ℕ

-- the path whose variable has the smaller number
abbrev pub outer_of : Equality → Side
outer_of q = cond (ltb q.left.var.0 q.right.var.0) q.left q.right

-- Index stands for: each kept list is that of the distinct values of the outer path at the node of its serial, which is closed
abbrev pub AreLists : List Equality → Tree → Type 0
AreLists qs P = (q : Equality) → In q qs → (l : Listed) → q.list ≡ Some l → IsListOf P (outer_of q).steps l.of.0 l.values

-- none of these values is in the list
abbrev pub NoneListed : (vs list : List (List ℕ)) → Type 0
NoneListed vs list = (v : List ℕ) → In v vs → In v list → ⊥

-- values were taken of the matches of a path, and looked up in the list: none is there
pub record HasLooked (seen : Taken) (P : Tree) (list : List (List ℕ)) : Type 0 where
  pub values : List (List ℕ)
  pub taken : IsTaken seen P values
  pub none : NoneListed values list

-- so it is of the inner path and the list that is kept
pub record IsLooked (q : Equality) (P : Tree) : Type 0 where
  pub steps : q.seen.steps ≡ (inner_of q).steps
  pub fits : Fits q.seen.steps q.seen.last
  pub told : (l : Listed) → q.list ≡ Some l → HasLooked q.seen P l.values

abbrev pub AreLooked : List Equality → Tree → Type 0
AreLooked qs P = (q : Equality) → In q qs → IsLooked q P

abbrev pub IsIndex : IndexView → Tree → Type 0
IsIndex k P = AreMarks k.marked P × AreLists k.equalities P × AreLooked k.equalities P

-- ---- which lists are kept

-- the serial of the node whose list is kept
abbrev pub serial_kept : Equality → Option ℕ
serial_kept q = option_map (λ (l : Listed). l.of.0) q.list

-- that of the node to which a variable is bound
abbrev pub serial_bound : Bindings → ℕ → Option ℕ
serial_bound bound x = option_map (λ b. b.1) (get bound x)

-- the truth of the condition comes to the equality of these two: the members before it let it come
abbrev mutual
  pub ReachesEquality : (left right : OperandTree) → CondTree → Env → Tree → Type 0
  ReachesEquality l r Always env P = ⊥
  ReachesEquality l r (Exists x steps) env P = ⊥
  ReachesEquality l r (Compare left rel right) env P = (left ≡ l) × (rel ≡ Eq) × (right ≡ r)
  ReachesEquality l r (Not c) env P = ReachesEquality l r c env P
  ReachesEquality l r (AllOf cs) env P = ReachesAll l r cs env P
  ReachesEquality l r (AnyOf cs) env P = ReachesAny l r cs env P

  pub ReachesAll : (left right : OperandTree) → CondTrees → Env → Tree → Type 0
  ReachesAll l r no_cond env P = ⊥
  ReachesAll l r (more_conds c cs) env P = ReachesEquality l r c env P ⊎ ((truth c env P ≡ True) × ReachesAll l r cs env P)

  pub ReachesAny : (left right : OperandTree) → CondTrees → Env → Tree → Type 0
  ReachesAny l r no_cond env P = ⊥
  ReachesAny l r (more_conds c cs) env P = ReachesEquality l r c env P ⊎ ((truth c env P ≡ False) × ReachesAny l r cs env P)

-- the list of the equality of these two is that of the node to which its outer variable is bound
pub record HasItsList (bound : Bindings) (qs : List Equality) (l r : OperandTree) : Type 0 where
  pub equality : Equality
  pub among : In equality qs
  pub left : path_of_side equality.left ≡ l
  pub right : path_of_side equality.right ≡ r
  pub kept : serial_kept equality ≡ serial_bound bound (outer_of equality).var.0

-- the variable of a path
abbrev pub variable_of : OperandTree → ℕ
variable_of (Path x steps) = x
variable_of (Str b) = 0
variable_of (Num u) = 0

-- the node of the outer one of two paths takes no more nodes
abbrev pub IsOuterClosed : (left right : OperandTree) → Env → Tree → Type 0
IsOuterClosed l r env P = is_closed P (env (min (variable_of l) (variable_of r))) ≡ true

-- so it is of each equality of the plan that was reached with a closed outer node
abbrev pub KeepsLists : View → (stands : Tree → Type 0) → Bindings → CondTree → (before now : List Equality) → Type 0
KeepsLists v stands bound c before now = (P : Tree) (env : Env) → Over v.nodes stands P → Asked v.rows bound c P env
    → (l r : OperandTree) → ReachesEquality l r c env P → HasEquality before l r → IsOuterClosed l r env P → HasItsList bound now l r

-- ---- how many lists were made

abbrev pub same_serial : Option ℕ → Option ℕ → Bool
same_serial None None = true
same_serial None (Some t) = false
same_serial (Some s) None = false
same_serial (Some s) (Some t) = s == t

-- over each tree and environment for which the condition is asked its truth comes to the equality of these two, and the outer node is closed
abbrev pub IsReached : View → (stands : Tree → Type 0) → Bindings → CondTree → (left right : OperandTree) → Type 0
IsReached v stands bound c l r = (P : Tree) (env : Env) → Over v.nodes stands P → Asked v.rows bound c P env → ReachesEquality l r c env P × IsOuterClosed l r env P

-- The equalities are the same. A list that is another one is of an equality that may get one, and that of the node to which the outer variable is bound.
pub record ChangesList (bound : Bindings) (may : OperandTree → OperandTree → Type 0) (q p : Equality) : Type 0 where
  pub left : p.left ≡ q.left
  pub right : p.right ≡ q.right
  pub list : (serial_kept p ≡ serial_kept q) ⊎ ((serial_kept p ≡ serial_bound bound (outer_of q).var.0) × may (path_of_side q.left) (path_of_side q.right))

abbrev pub HaveMoved : Bindings → (may : OperandTree → OperandTree → Type 0) → (before now : List Equality) → Type 0
HaveMoved bound may [] [] = Unit {0}
HaveMoved bound may [] (p ∷ ps) = ⊥
HaveMoved bound may (q ∷ qs) [] = ⊥
HaveMoved bound may (q ∷ qs) (p ∷ ps) = ChangesList bound may q p × HaveMoved bound may qs ps

-- how many lists are other ones
abbrev pub changes : (before now : List Equality) → ℕ
changes [] ps = 0
changes (q ∷ qs) [] = 0
changes (q ∷ qs) (p ∷ ps) = cond (same_serial (serial_kept q) (serial_kept p)) (changes qs ps) (suc (changes qs ps))

-- a count that rose so many times. It stands still at its end.
abbrev pub raised : (count times : ℕ) → ℕ
raised count zero = count
raised count (suc n) = min (raised count n + 1) (2 ^ 64 - 1)

-- what a question changes
pub record GoesAfterQuestion (bound : Bindings) (may : OperandTree → OperandTree → Type 0) (k l : IndexView) : Type 0 where
  pub moved : HaveMoved bound may k.equalities l.equalities
  pub built : l.built ≡ raised k.built (changes k.equalities l.equalities)

-- what a question of the condition tells, and what it changes
pub record TellsTruthOf (v : View) (bound : Bindings) (c : CondTree) (k l : IndexView) (t : Truth) : Type 0 where
  pub answers : AnswersOver v (IsIndex k) (IsIndex l) bound c t
  pub goes : GoesAfterQuestion bound (IsReached v (IsIndex k) bound c) k l
  pub kept : KeepsLists v (IsIndex k) bound c k.equalities l.equalities
