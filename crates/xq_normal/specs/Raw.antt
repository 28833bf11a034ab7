-- This follows the code, for its proofs: no public clause speaks of it.
-- A query as loops of single steps, with each If where the query has it; and the If moved inside the loops of its branches.
use Rattle.std.specs.Prelude.{ℕ, zero, suc, ◌+◌, Bool, cond, List, Option, Some, None}
use Rattle.gcx_model.specs.declared.query.Clause.{Clause}
use Rattle.gcx_model.specs.Written.{start_tag, end_tag}
use Rattle.gcx_model.specs.Query as query
use Rattle.gcx_model.specs.Query.{ExprTree, ExprTrees}
use Rattle.gcx_model.specs.Core.{CondTree, ItemTree, Write, Copy, For, If, SignOff, BodyTree, Nil, Then}
use Rattle.gcx_model.specs.Normal.{join, one, Names, start_var, normal_cond, has_loop, half, branch, nest, normal_clauses, loops}

abbrev pub raw_filtered : Option query.QueryCondTree → Names → BodyTree → BodyTree
raw_filtered None names d = d
raw_filtered (Some c) names d = one (If (normal_cond c names) d Nil)

-- Variables are numbered in the order in which their loops begin; k is the next number.
abbrev mutual
  pub raw_expr : ExprTree → Names → (k : ℕ) → BodyTree
  raw_expr query.Empty names k = Nil
  raw_expr (query.Seq es) names k = raw_exprs es names k
  raw_expr (query.Elem name es) names k = Then (Write (start_tag name)) (join (raw_exprs es names k) (one (Write (end_tag name))))
  raw_expr (query.QueryPath path) names k = nest (start_var names path.start) path.steps k (λ y. one (Copy y))
  raw_expr (query.QueryFor cs filter e) names k = normal_clauses cs names k (λ inner j. raw_filtered filter inner (raw_expr e inner j))
  raw_expr (query.QueryIf c a b) names k = one (If (normal_cond c names) (raw_expr a names k) (raw_expr b names (k + loops a)))

  pub raw_exprs : ExprTrees → Names → (k : ℕ) → BodyTree
  raw_exprs query.no_expr names k = Nil
  raw_exprs (query.more_exprs e es) names k = join (raw_expr e names k) (raw_exprs es names (k + loops e))

-- Each If is replaced, after those inside it.
abbrev mutual
  pub moved_item : ItemTree → BodyTree
  moved_item (Write s) = one (Write s)
  moved_item (Copy x) = one (Copy x)
  moved_item (For x y s d) = one (For x y s (moved d))
  moved_item (If c a b) = branch c (moved a) (moved b)
  moved_item (SignOff o) = one (SignOff o)

  pub moved : BodyTree → BodyTree
  moved Nil = Nil
  moved (Then i d) = join (moved_item i) (moved d)

-- the loops of the clauses, with the filter and the body inside
abbrev pub raw_turns : List Clause → Option query.QueryCondTree → ExprTree → Names → (k : ℕ) → BodyTree
raw_turns cs filter e names k = normal_clauses cs names k (λ inner j. raw_filtered filter inner (raw_expr e inner j))

-- the variable of the innermost of nested loops from y on, the first of which has the number k
abbrev pub innermost : (y n k : ℕ) → ℕ
innermost y zero k = y
innermost y (suc n) k = k + n

-- no If for an empty run
abbrev pub flush : CondTree → (first : Bool) → (run : BodyTree) → BodyTree → BodyTree
flush c first Nil d = d
flush c first (Then i r) d = Then (half c first (Then i r)) d

-- What stands for an If of which the body is one branch, read item by item; `run` are the items of the run so far.
abbrev pub spread_on : CondTree → (first : Bool) → (run : BodyTree) → BodyTree → BodyTree
spread_on c first run Nil = flush c first run Nil
spread_on c first run (Then (Write s) d) = spread_on c first (join run (one (Write s))) d
spread_on c first run (Then (Copy x) d) = spread_on c first (join run (one (Copy x))) d
spread_on c first run (Then (For x y s e) d) = flush c first run (Then (For x y s (cond (has_loop e) (spread_on c first Nil e) (one (half c first e)))) (spread_on c first Nil d))
spread_on c first run (Then (If k a b) d) = spread_on c first (join run (one (If k a b))) d
spread_on c first run (Then (SignOff o) d) = spread_on c first (join run (one (SignOff o))) d

-- the body of a loop with an If moved into it
abbrev pub turn_of : CondTree → (first : Bool) → BodyTree → BodyTree
turn_of c first e = cond (has_loop e) (spread_on c first Nil e) (one (half c first e))
