-- The text of a query spells the query again.
use Rattle.std.specs.Prelude.{ℕ, ◌≤◌, List, length}
use Rattle.gcx_model.specs.Query.{ExprTree}
use Rattle.xq_parse.specs.Spelling.{QuerySpells}

-- Where some text spells the query, this one does, if it is no longer than a query may be.
abbrev pub ReadsBack : (text : List ℕ) (q : List ExprTree) → Type 0
ReadsBack text q = (read : List ℕ) → QuerySpells read q → length text ≤ 1048576 → QuerySpells text q
