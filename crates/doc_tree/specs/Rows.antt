-- Rows of nodes, each with its parent's number, as the nodes of an open tree.
use Rattle.std.specs.Prelude.{◌≡◌, ℕ, zero, suc, ◌≤◌, ◌<◌, true, false, List, [], ◌∷◌, ◌++◌, length, set, Option, Some, None, option_map, unwrap_or, is_some, not, slice_get}
use Rattle.std.proofs.Common.{get_or}
use Rattle.gcx_base.specs.declared.kind.Kind.{Kind}
use Rattle.gcx_base.specs.declared.kind.Kind.TheVariants.{Document, Element, Text}
use Rattle.gcx_base.specs.Kinds.{is_text}
use Rattle.gcx_model.specs.Tree.{Node, Root, Under, kind_of, within, is_open_at}
use Rattle.gcx_model.specs.Tree as model
use Rattle.doc_tree.specs.declared.row.Content.{Content}
use Rattle.doc_tree.specs.declared.row.Content.TheVariants as content
use Rattle.doc_tree.specs.declared.row.Row.{Row}

abbrev pub kind_in : Content → Kind
kind_in (content.Element name) = Element name
kind_in (content.Text bytes) = Text bytes

-- the node with this number, the document node where there is none
abbrev pub node_at : List Node → ℕ → Node
node_at ns i = get_or ns i Root

abbrev pub with_row : List Node → Row → List Node
with_row ns r = ns ++ Under (node_at ns r.parent) (length ns) (kind_in r.content) ∷ []

-- the nodes, and behind them those of the rows
abbrev pub nodes_from : List Node → List Row → List Node
nodes_from ns [] = ns
nodes_from ns (r ∷ rs) = nodes_from (with_row ns r) rs

-- the document node, and the nodes of the rows
abbrev pub nodes_of : List Row → List Node
nodes_of rows = nodes_from (Root ∷ []) rows

abbrev pub tree_of_rows : List Row → Option ℕ → model.Tree
tree_of_rows rows at = record { nodes = nodes_of rows; at = option_map (node_at (nodes_of rows)) at }

abbrev pub no_row : Row
no_row = record { parent = 0; end = None; content = content.Text [] }

-- the parent's number in the row with this index
abbrev pub parent_in : List Row → ℕ → ℕ
parent_in rows k = (get_or rows k no_row).parent

-- the parent's number, if the node isn't the document node
abbrev pub parent_of : List Row → ℕ → Option ℕ
parent_of rows zero = None
parent_of rows (suc k) = Some (parent_in rows k)

-- the parent's number, 0 where there is no parent
abbrev pub parent_at : List Row → ℕ → ℕ
parent_at rows zero = 0
parent_at rows (suc k) = parent_in rows k

-- the kind that is told by what is kept of a node; nothing is kept of the document node
abbrev pub kind_told : Option Content → Kind
kind_told None = Document
kind_told (Some c) = kind_in c

-- the kind of the node with this number, that of the document node where there is none
abbrev pub kind_at : List Row → ℕ → Kind
kind_at rows zero = Document
kind_at rows (suc k) = unwrap_or (option_map (λ r. kind_in r.content) (slice_get rows k)) Document

-- the end that is kept in the row with this index
abbrev pub end_in : List Row → ℕ → Option ℕ
end_in rows k = (get_or rows k no_row).end

-- the end that is kept for a node; the document node has no row
abbrev pub end_kept : List Row → ℕ → Option ℕ
end_kept rows zero = None
end_kept rows (suc k) = end_in rows k

-- the index of the first row behind those below a node: what is kept, and of an open node the end of the rows
abbrev pub end_at : List Row → ℕ → ℕ
end_at rows n = unwrap_or (end_kept rows n) (length rows)

-- the row with this end
abbrev pub closed_at : Row → ℕ → Row
closed_at r n = record { parent = r.parent; end = Some n; content = r.content }

-- the rows where the node ends behind all of them
abbrev pub with_end : List Row → ℕ → List Row
with_end rows zero = rows
with_end rows (suc k) = set rows k (closed_at (get_or rows k no_row) (length rows))

-- the node that may get a child: no text, and nothing stands behind an open node that isn't in it
pub record IsOpen (rows : List Row) (p : ℕ) : Type 0 where
  pub there : p ≤ length rows
  pub holder : is_text (kind_of (node_at (nodes_of rows) p)) ≡ false
  pub behind : (i j : ℕ) → within i (node_at (nodes_of rows) p) ≡ true → i ≤ j → j < length rows → i ≤ parent_in rows j

abbrev pub IsOpenAt : List Row → Option ℕ → Type 0
IsOpenAt rows None = Unit {0}
IsOpenAt rows (Some p) = IsOpen rows p

-- the rows behind those in the node p begin at this index
pub record IsBehind (rows : List Row) (p next : ℕ) : Type 0 where
  pub from : p ≤ next
  pub to : next ≤ length rows
  pub inside : (k : ℕ) → p ≤ k → k < next → p ≤ parent_in rows k
  pub outside : next < length rows → parent_in rows next < p

-- a parent stands before its children and isn't a text, behind a node that isn't in the node i there is no child of i,
-- and the rows below a node end at its end
pub record IsNested (rows : List Row) : Type 0 where
  pub low : (k : ℕ) → k < length rows → parent_in rows k ≤ k
  pub holders : (k : ℕ) → k < length rows → is_text (kind_of (node_at (nodes_of rows) (parent_in rows k))) ≡ false
  pub nested : (i j l : ℕ) → i ≤ j → j ≤ l → l < length rows → parent_in rows j < i → parent_in rows l ≡ i → ⊥
  pub ends : (n : ℕ) → n ≤ length rows → IsBehind rows n (end_at rows n)

-- an end is kept of each node that is closed
pub record IsTree (rows : List Row) (at : Option ℕ) : Type 0 where
  pub nested : IsNested rows
  pub innermost : IsOpenAt rows at
  pub closed : (k : ℕ) → k < length rows → is_some (end_in rows k) ≡ not (is_open_at (tree_of_rows rows at).at (suc k))
