-- What the turns of a loop write.
use Rattle.std.specs.Prelude.{ℕ, cond, List, [], flat_map, Option}
use Rattle.gcx_model.specs.declared.query.Clause.{Clause}
use Rattle.gcx_model.specs.Tree.{Tree}
use Rattle.gcx_model.specs.Query.{QueryCondTree, ExprTree}
use Rattle.gcx_model.specs.Answer.{Scope, turns, filtered, answer_expr}

abbrev pub turn_bytes : Option QueryCondTree → ExprTree → Tree → Scope → List ℕ
turn_bytes filter body P s = cond (filtered filter s P) (answer_expr body s P) []

abbrev pub turns_bytes : List Clause → Option QueryCondTree → ExprTree → Scope → Tree → List ℕ
turns_bytes clauses filter body scope P = flat_map (turn_bytes filter body P) (turns clauses scope P)
