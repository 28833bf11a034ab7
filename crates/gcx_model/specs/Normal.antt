-- The core of a query (this project's, after the normal forms of ICDE 2007).
use Rattle.std.specs.Prelude.{ℕ, suc, ◌+◌, Bool, true, false, cond, ◌||◌, List, [], ◌∷◌, length, bytes_eq, Option, Some, None}
use Rattle.gcx_base.specs.declared.steps.Step.{Step}
use Rattle.gcx_model.specs.declared.query.Clause.{Clause}
use Rattle.gcx_model.specs.declared.query.QOperand.{QOperand}
use Rattle.gcx_model.specs.declared.query.QOperand.TheVariants as operand
use Rattle.gcx_model.specs.Tree.{Tree}
use Rattle.gcx_model.specs.Written.{start_tag, end_tag}
use Rattle.gcx_model.specs.Query as query
use Rattle.gcx_model.specs.Query.{ExprTree, ExprTrees, exprs_of}
use Rattle.gcx_model.specs.Core.{OperandTree, Path, Str, Num, CondTree, CondTrees, Always, Exists, Compare, Not, AllOf, AnyOf, no_cond, more_conds, ItemTree, Write, Copy, For, If, SignOff, BodyTree, Nil, Then}
use Rattle.gcx_model.specs.Run.{bytes_written}

-- one body behind another
abbrev pub join : BodyTree → BodyTree → BodyTree
join Nil b = b
join (Then i a) b = Then i (join a b)

abbrev pub one : ItemTree → BodyTree
one i = Then i Nil

-- Conditions

-- the variable of each name
abbrev pub Names : Type 0
Names = List ℕ → ℕ

abbrev pub named : Names → List ℕ → ℕ → Names
named names x v = λ y. cond (bytes_eq x y) v (names y)

-- an absolute path begins at variable 0
abbrev pub start_var : Names → Option (List ℕ) → ℕ
start_var names None = 0
start_var names (Some x) = names x

-- exists of a variable alone is true
abbrev pub normal_exists : ℕ → List Step → CondTree
normal_exists x [] = Always
normal_exists x (s ∷ rest) = Exists x (s ∷ rest)

abbrev pub normal_operand : QOperand → Names → OperandTree
normal_operand (operand.Path path) names = Path (start_var names path.start) path.steps
normal_operand (operand.Str bytes) names = Str bytes
normal_operand (operand.Num units) names = Num units

abbrev mutual
  pub normal_cond : query.QueryCondTree → Names → CondTree
  normal_cond query.QueryAlways names = Always
  normal_cond (query.QueryExists path) names = normal_exists (start_var names path.start) path.steps
  normal_cond (query.QueryCompare left rel right) names = Compare (normal_operand left names) rel (normal_operand right names)
  normal_cond (query.QueryNot c) names = Not (normal_cond c names)
  normal_cond (query.QueryAll cs) names = AllOf (normal_conds cs names)
  normal_cond (query.QueryAny cs) names = AnyOf (normal_conds cs names)

  pub normal_conds : query.QueryCondTrees → Names → CondTrees
  normal_conds query.no_query_cond names = no_cond
  normal_conds (query.more_query_conds c cs) names = more_conds (normal_cond c names) (normal_conds cs names)

-- An If, moved inside the loops of its branches

-- a loop is an item of it; of an If that stays no branch has a loop
abbrev pub has_loop : BodyTree → Bool
has_loop Nil = false
has_loop (Then (Write s) d) = has_loop d
has_loop (Then (Copy x) d) = has_loop d
has_loop (Then (For x y s e) d) = true
has_loop (Then (If c a b) d) = has_loop d
has_loop (Then (SignOff o) d) = has_loop d

-- an If of which one branch is empty: `first` tells whether the body is the first one
abbrev pub half : CondTree → (first : Bool) → BodyTree → ItemTree
half c true d = If c d Nil
half c false d = If c Nil d

-- A branch in pieces: a longest run of items that aren't loops, or a loop.
pub data BranchPart : Type 0 where
  Run : (items : BodyTree) → BranchPart
  Loop : (item : ItemTree) → BranchPart

-- an item that is no loop, in front of pieces
abbrev pub begin : ItemTree → List BranchPart → List BranchPart
begin i [] = Run (one i) ∷ []
begin i (Run r ∷ ps) = Run (Then i r) ∷ ps
begin i (Loop l ∷ ps) = Run (one i) ∷ (Loop l ∷ ps)

abbrev pub pieces : BodyTree → List BranchPart
pieces Nil = []
pieces (Then (Write s) d) = begin (Write s) (pieces d)
pieces (Then (Copy x) d) = begin (Copy x) (pieces d)
pieces (Then (For x y s e) d) = Loop (For x y s e) ∷ pieces d
pieces (Then (If k a b) d) = begin (If k a b) (pieces d)
pieces (Then (SignOff o) d) = begin (SignOff o) (pieces d)

-- each run becomes an If with c, each loop stays
abbrev pub halved : CondTree → (first : Bool) → List BranchPart → BodyTree
halved c first [] = Nil
halved c first (Run r ∷ ps) = Then (half c first r) (halved c first ps)
halved c first (Loop l ∷ ps) = Then l (halved c first ps)

-- the body of each loop becomes what stands for an If with c and that body
abbrev pub turned_in : CondTree → (first : Bool) → BodyTree → BodyTree
turned_in c first Nil = Nil
turned_in c first (Then (Write s) d) = Then (Write s) (turned_in c first d)
turned_in c first (Then (Copy x) d) = Then (Copy x) (turned_in c first d)
turned_in c first (Then (For x y s e) d) = Then (For x y s (cond (has_loop e) (halved c first (pieces (turned_in c first e))) (one (half c first e)))) (turned_in c first d)
turned_in c first (Then (If k a b) d) = Then (If k a b) (turned_in c first d)
turned_in c first (Then (SignOff o) d) = Then (SignOff o) (turned_in c first d)

-- the items that stand for an If of which the body is one branch: each of its longest runs as an If, and its loops, in the bodies of which the same was done
abbrev pub spread : CondTree → (first : Bool) → BodyTree → BodyTree
spread c first d = halved c first (pieces (turned_in c first d))

-- what stands for an If: itself where its branches have no loop, else the items of the first branch and then those of the other
abbrev pub branch : CondTree → (this other : BodyTree) → BodyTree
branch c a b = cond (has_loop a || has_loop b) (join (spread c true a) (spread c false b)) (one (If c a b))

-- Expressions. Variables are numbered in the order in which their loops begin; k is the next number.

-- nested loops over the steps, from y on; the last variable is handed to what stands inside
abbrev pub nest : (y : ℕ) → List Step → (k : ℕ) → (inner : ℕ → BodyTree) → BodyTree
nest y [] k inner = inner y
nest y (s ∷ ss) k inner = one (For k y s (nest k ss (suc k) inner))

-- the loops of the clauses, one inside the other; the names and the next number are handed to what stands inside
abbrev pub normal_clauses : List Clause → Names → (k : ℕ) → (inner : Names → ℕ → BodyTree) → BodyTree
normal_clauses [] names k inner = inner names k
normal_clauses (c ∷ cs) names k inner = nest (start_var names c.path.start) c.path.steps k (λ y. normal_clauses cs (named names c.var y) (k + length c.path.steps) inner)

-- `where` is an If with an empty other branch
abbrev pub guarded : Option query.QueryCondTree → Names → BodyTree → BodyTree
guarded None names d = d
guarded (Some c) names d = branch (normal_cond c names) d Nil

-- how many loops the core of it has
abbrev pub clause_loops : List Clause → ℕ
clause_loops [] = 0
clause_loops (c ∷ cs) = length c.path.steps + clause_loops cs

abbrev mutual
  pub loops : ExprTree → ℕ
  loops query.Empty = 0
  loops (query.Seq es) = all_loops es
  loops (query.Elem name es) = all_loops es
  loops (query.QueryPath path) = length path.steps
  loops (query.QueryFor cs filter e) = clause_loops cs + loops e
  loops (query.QueryIf c a b) = loops a + loops b

  pub all_loops : ExprTrees → ℕ
  all_loops query.no_expr = 0
  all_loops (query.more_exprs e es) = loops e + all_loops es

abbrev mutual
  pub normal_expr : ExprTree → Names → (k : ℕ) → BodyTree
  normal_expr query.Empty names k = Nil
  normal_expr (query.Seq es) names k = normal_exprs es names k
  normal_expr (query.Elem name es) names k = Then (Write (start_tag name)) (join (normal_exprs es names k) (one (Write (end_tag name))))
  normal_expr (query.QueryPath path) names k = nest (start_var names path.start) path.steps k (λ y. one (Copy y))
  normal_expr (query.QueryFor cs filter e) names k = normal_clauses cs names k (λ inner j. guarded filter inner (normal_expr e inner j))
  normal_expr (query.QueryIf c a b) names k = branch (normal_cond c names) (normal_expr a names k) (normal_expr b names (k + loops a))

  pub normal_exprs : ExprTrees → Names → (k : ℕ) → BodyTree
  normal_exprs query.no_expr names k = Nil
  normal_exprs (query.more_exprs e es) names k = join (normal_expr e names k) (normal_exprs es names (k + loops e))

abbrev pub no_names : Names
no_names = λ x. 0

-- Normal(q)
abbrev pub normal : List ExprTree → BodyTree
normal q = normal_exprs (exprs_of q) no_names 1

-- Known(q, P): the bytes settled over the open tree
abbrev pub known : List ExprTree → Tree → List ℕ
known q P = bytes_written (normal q) P
