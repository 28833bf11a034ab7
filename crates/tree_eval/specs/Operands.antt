-- The values that are compared.
use Rattle.std.specs.Prelude.{ℕ}
use Rattle.gcx_model.specs.Tree.{Tree}
use Rattle.gcx_model.specs.Paths.{value}
use Rattle.gcx_model.specs.Values as model
use Rattle.tree_eval.specs.declared.conditions.Value.{Value}
use Rattle.tree_eval.specs.declared.conditions.Value.TheVariants as compared
use Rattle.doc_tree.specs.Rows.{node_at}

abbrev pub value_in : Value → model.ComparedValue
value_in (compared.Bytes bytes) = model.Bytes bytes.items
value_in (compared.Units units) = model.Units units

-- the value of the node with this number
abbrev pub values_at : Tree → ℕ → model.ComparedValue
values_at P i = model.Bytes (value P (node_at P.nodes i))
