-- What is told of a node by its number.
use Rattle.std.proofs.Common.{◌≡◌, ◌↔◌, ℕ, zero, suc, ◌+◌, ◌<◌, ◌≤◌, true, false, List, [], ◌∷◌, length, get_or, Option, Some, None, refl, sym, ◌∙◌, ap, subst, inl, inr, arith}
use Rattle.std.specs.Prelude.{IfSome, unwrap_or, option_map}
use Rattle.std.proofs.lemmas.Bool.{cases_lt, false≢true}
use Rattle.std.proofs.lemmas.List.{get_or_past}
use Rattle.std.proofs.lemmas.Option.{slice_get-get_or, slice_get_past}
use Rattle.gcx_base.specs.declared.kind.Kind.{Kind}
use Rattle.gcx_base.specs.declared.kind.Kind.TheVariants.{Document}
use Rattle.gcx_model.specs.Members.{In}
use Rattle.gcx_model.specs.Tree.{Node, Root, Under, serial_of, kind_of, within}
use Rattle.doc_tree.specs.declared.row.Row.{Row}
use Rattle.doc_tree.specs.Rows.{kind_in, kind_at, node_at, nodes_of, no_row, parent_in, parent_at, end_at, IsOpenAt, IsNested}
use Rattle.doc_tree.proofs.Nodes.{are_nodes, length-nodes_of}
use Rattle.doc_tree.proofs.Steps.{within_low}
use Rattle.doc_tree.proofs.Order.{row_node, number, rises, within_self, inside, outside}

place : (ns : List Node) (m : Node) → In m ns → (i : ℕ) × (i < length ns) × (get_or ns i Root ≡ m)
place [] m i = absurd i
place (x ∷ xs) m (inl e) = (0, omega arith, e)
place (x ∷ xs) m (inr i) = let r = place xs m i in (suc r.0, (let l = r.1 in omega arith), r.2)

-- a node stands at its number
pub stands_at : (rows : List Row) (m : Node) → In m (nodes_of rows) → (serial_of m ≤ length rows) × (node_at (nodes_of rows) (serial_of m) ≡ m)
stands_at rows m i =
    let r = place (nodes_of rows) m i in
    let s : serial_of m ≡ r.0 = ap serial_of (sym r.2) ∙ (are_nodes rows).number r.0 r.1 in
    let l = r.1 in
    (omega (arith, length-nodes_of rows), ap (node_at (nodes_of rows)) s ∙ r.2)

pub open_there : (rows : List Row) (at : Option ℕ) → IsOpenAt rows at → IfSome at (λ p. p < length (nodes_of rows))
open_there rows None h = tt
open_there rows (Some p) h = let t = h.there in omega (arith, length-nodes_of rows)

pub kind_told_at : (rows : List Row) → IsNested rows → (n : ℕ) → kind_at rows n ≡ kind_of (node_at (nodes_of rows) n)
kind_told_at rows nested zero = sym (ap kind_of (are_nodes rows).first)
kind_told_at rows nested (suc k) = elim (cases_lt k (length rows)) [
  | inl h ↦ ap (λ (o : Option Row). unwrap_or (option_map (λ (r : Row). kind_in r.content) o) Document) (slice_get-get_or rows k no_row h) ∙ sym (ap kind_of (row_node rows nested k h))
  | inr h ↦
      ap (λ (o : Option Row). unwrap_or (option_map (λ (r : Row). kind_in r.content) o) Document) (slice_get_past rows k h)
      ∙ sym (ap kind_of (get_or_past (nodes_of rows) (suc k) Root (omega (arith, length-nodes_of rows))))
]

pub parent_told : (rows : List Row) → IsNested rows → (n : ℕ) (p : Node) (k : Kind) → In (Under p n k) (nodes_of rows) → parent_at rows n ≡ serial_of p
parent_told rows nested zero p k i = let e : Root ≡ Under p 0 k = sym (are_nodes rows).first ∙ (stands_at rows (Under p 0 k) i).1 in cc
parent_told rows nested (suc j) p k i =
    let s = stands_at rows (Under p (suc j) k) i in
    let h = s.0 in
    let lt : j < length rows = omega arith in
    let low = nested.low j lt in
    let e : Under (node_at (nodes_of rows) (parent_in rows j)) (suc j) (kind_in (get_or rows j no_row).content) ≡ Under p (suc j) k = sym (row_node rows nested j lt) ∙ s.1 in
    let same : node_at (nodes_of rows) (parent_in rows j) ≡ p = cc in
    sym (number rows nested (parent_in rows j) (omega arith)) ∙ ap serial_of same

module _ (rows : List Row) (nested : IsNested rows) (n : ℕ) where
  abbrev node : ℕ → Node
  node i = node_at (nodes_of rows) i

  early : (i : ℕ) → i ≤ length rows → i < n → within n (node i) ≡ false
  early i le lt = within_low n (node i) (rises rows nested i le) (omega (arith, number rows nested i le))

  late : (i : ℕ) → i ≤ length rows → n ≤ length rows → end_at rows n < i → within n (node i) ≡ false
  late zero le there lt = absurd (omega arith)
  late (suc l) le there lt =
      let b = nested.ends n there in
      outside rows nested n (end_at rows n) l b.from (omega arith) (omega arith) (b.outside (omega arith))

  here : (i : ℕ) → i ≤ length rows → n ≤ i → i ≤ end_at rows n → within n (node i) ≡ true
  here zero le low high = within_self n (node 0) (number rows nested 0 le ∙ omega arith)
  here (suc l) le low high = elim (cases_lt n (suc l)) [
    | inl g ↦ (let b = nested.ends n (omega arith) in inside rows nested n l (omega arith) (omega arith) (λ k x y. b.inside k x (omega arith)))
    | inr g ↦ within_self n (node (suc l)) (number rows nested (suc l) le ∙ omega arith)
  ]

  ranges : (i : ℕ) → i ≤ length rows → within n (node i) ≡ true → (n ≤ i) × (i < end_at rows n + 1)
  ranges i le w = elim (cases_lt i n) [
    | inl lt ↦ absurd (false≢true (sym (early i le lt) ∙ w))
    | inr low ↦ elim (cases_lt (end_at rows n) i) [
      | inl lt ↦ absurd (false≢true (sym (late i le (omega arith) lt) ∙ w))
      | inr high ↦ (omega arith, omega arith)
    ]
  ]

-- a node's subtree is a range of numbers
pub in_range : (rows : List Row) → IsNested rows → (n : ℕ) (m : Node) → In m (nodes_of rows)
    → (within n m ≡ true) ↔ ((n ≤ serial_of m) × (serial_of m < end_at rows n + 1))
in_range rows nested n m i =
    let s = stands_at rows m i in (
      λ w. ranges rows nested n (serial_of m) s.0 (ap (within n) s.1 ∙ w),
      λ r. ap (within n) (sym s.1) ∙ here rows nested n (serial_of m) s.0 r.0 (let h = r.1 in omega arith),
    )
