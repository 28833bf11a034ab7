-- The rows of a whole tree, and what is written for parts of it.
use Rattle.std.specs.Prelude.{ℕ, List, [], ◌∷◌, None, drop}
use Rattle.std.specs.List.{filter, flat_map}
use Rattle.gcx_model.specs.Tree.{Node, Tree}
use Rattle.gcx_model.specs.Paths.{hits, text_of}
use Rattle.gcx_model.specs.Answer.{child_step, children, copy_of}
use Rattle.doc_tree.specs.declared.row.Row.{Row}
use Rattle.doc_tree.specs.Rows.{kind_in, node_at, nodes_of}

abbrev pub whole : List Row → Tree
whole rows = record { nodes = nodes_of rows; at = None }

-- the children of the node n among the nodes from the number i on
abbrev pub kids : List Row → ℕ → ℕ → List Node
kids rows n i = filter (hits n (child_step ∷ [])) (drop i (nodes_of rows))

-- all that is written below the node n
abbrev pub bytes_below : List Row → ℕ → List ℕ
bytes_below rows n = flat_map (copy_of (whole rows)) (children (whole rows) (node_at (nodes_of rows) n))

-- the texts of rows, one behind another
abbrev pub row_text : Row → List ℕ
row_text r = text_of (kind_in r.content)

abbrev pub row_texts : List Row → List ℕ
row_texts rows = flat_map row_text rows
