-- The nodes that rows stand for.
use Rattle.std.proofs.Common.{◌≡◌, ◌⊎◌, ℕ, zero, suc, ◌+◌, ◌<◌, ◌≤◌, List, [], ◌∷◌, ◌++◌, length, get_or, refl, sym, ◌∙◌, ap, subst, inl, inr, arith, length-append}
use Rattle.std.proofs.lemmas.List.{get_or_append_left, get_or_push, get_or_past}
use Rattle.std.proofs.lemmas.Bool.{cases_lt}
use Rattle.gcx_model.specs.Tree.{Node, Root, Under, serial_of}
use Rattle.doc_tree.specs.declared.row.Row.{Row}
use Rattle.doc_tree.specs.Rows.{kind_in, node_at, with_row, nodes_from, nodes_of, no_row, parent_in}

-- the numbers fall along the ancestors
abbrev pub Rises : Node → Type 0
Rises Root = Unit {0}
Rises (Under p s k) = (serial_of p < s) × Rises p

pub nodes_from-push : (ns : List Node) (rs : List Row) (r : Row) → nodes_from ns (rs ++ r ∷ []) ≡ with_row (nodes_from ns rs) r
nodes_from-push ns [] r = refl
nodes_from-push ns (x ∷ rs) r = nodes_from-push (with_row ns x) rs r

pub nodes_of-push : (rs : List Row) (r : Row) → nodes_of (rs ++ r ∷ []) ≡ with_row (nodes_of rs) r
nodes_of-push rs r = nodes_from-push (Root ∷ []) rs r

length_with : (ns : List Node) (r : Row) → length (with_row ns r) ≡ length ns + 1
length_with ns r = length-append ns _

pub length-nodes_from : (ns : List Node) (rs : List Row) → length (nodes_from ns rs) ≡ length ns + length rs
length-nodes_from ns [] = omega arith
length-nodes_from ns (r ∷ rs) = omega (arith, length-nodes_from (with_row ns r) rs, length_with ns r)

pub length-nodes_of : (rs : List Row) → length (nodes_of rs) ≡ length rs + 1
length-nodes_of rs = omega (arith, length-nodes_from (Root ∷ []) rs)

-- a node stays where it is
pub node_stays : (ns : List Node) (rs : List Row) (i : ℕ) → i < length ns → node_at (nodes_from ns rs) i ≡ node_at ns i
node_stays ns [] i h = refl
node_stays ns (r ∷ rs) i h = node_stays (with_row ns r) rs i (omega (arith, length_with ns r)) ∙ get_or_append_left ns _ Root i h

-- what holds of the nodes of rows
pub record AreNodes (ns : List Node) : Type 0 where
  pub some : 0 < length ns
  pub first : node_at ns 0 ≡ Root
  pub number : (i : ℕ) → i < length ns → serial_of (node_at ns i) ≡ i
  pub rises : (i : ℕ) → i < length ns → Rises (node_at ns i)

-- also past the last node
pub low_number : (ns : List Node) → AreNodes ns → (i : ℕ) → serial_of (node_at ns i) < length ns
low_number ns a i = elim (cases_lt i (length ns)) [
  | inl h ↦ omega (arith, a.number i h)
  | inr h ↦ (let e = ap serial_of (get_or_past ns i Root h) in let s = a.some in omega (arith, e, s))
]

pub any_rises : (ns : List Node) → AreNodes ns → (i : ℕ) → Rises (node_at ns i)
any_rises ns a i = elim (cases_lt i (length ns)) [
  | inl h ↦ a.rises i h
  | inr h ↦ subst Rises (sym (get_or_past ns i Root h)) tt
]

with_row_nodes : (ns : List Node) (r : Row) → AreNodes ns → AreNodes (with_row ns r)
with_row_nodes ns r a = record {
  some = omega (arith, length_with ns r);
  first = get_or_append_left ns _ Root 0 a.some ∙ a.first;
  number = λ i h. number i h (cases_lt i (length ns));
  rises = λ i h. rises i h (cases_lt i (length ns));
}
  where
    last : (i : ℕ) → i < length (with_row ns r) → length ns ≤ i → node_at (with_row ns r) i ≡ Under (node_at ns r.parent) (length ns) (kind_in r.content)
    last i h g = get_or_push ns _ Root i (omega (arith, length_with ns r))

    number : (i : ℕ) → i < length (with_row ns r) → (i < length ns) ⊎ (length ns ≤ i) → serial_of (node_at (with_row ns r) i) ≡ i
    number i h (inl g) = ap serial_of (get_or_append_left ns _ Root i g) ∙ a.number i g
    number i h (inr g) = ap serial_of (last i h g) ∙ omega (arith, length_with ns r)

    rises : (i : ℕ) → i < length (with_row ns r) → (i < length ns) ⊎ (length ns ≤ i) → Rises (node_at (with_row ns r) i)
    rises i h (inl g) = subst Rises (sym (get_or_append_left ns _ Root i g)) (a.rises i g)
    rises i h (inr g) = subst Rises (sym (last i h g)) (low_number ns a r.parent, any_rises ns a r.parent)

from_nodes : (ns : List Node) (rs : List Row) → AreNodes ns → AreNodes (nodes_from ns rs)
from_nodes ns [] a = a
from_nodes ns (r ∷ rs) a = from_nodes (with_row ns r) rs (with_row_nodes ns r a)

root_nodes : AreNodes (Root ∷ [])
root_nodes = record { some = omega arith; first = refl; number = number; rises = rises }
  where
    number : (i : ℕ) → i < 1 → serial_of (node_at (Root ∷ []) i) ≡ i
    number zero h = refl
    number (suc i) h = absurd (omega arith)

    rises : (i : ℕ) → i < 1 → Rises (node_at (Root ∷ []) i)
    rises zero h = tt
    rises (suc i) h = absurd (omega arith)

pub are_nodes : (rs : List Row) → AreNodes (nodes_of rs)
are_nodes rs = from_nodes (Root ∷ []) rs root_nodes

-- the node of a row, where its parent stands before it
pub node_in : (ns : List Node) (rs : List Row) (k i : ℕ) → i ≡ length ns + k → k < length rs → parent_in rs k < i
    → node_at (nodes_from ns rs) i ≡ Under (node_at (nodes_from ns rs) (parent_in rs k)) i (kind_in (get_or rs k no_row).content)
node_in ns [] k i e h low = absurd (omega arith)
node_in ns (r ∷ rs) zero i e h low =
    let f : length (with_row ns r) ≡ length ns + 1 = length_with ns r in
    let g : r.parent < length ns = omega arith in
    node_stays (with_row ns r) rs i (omega arith)
    ∙ get_or_push ns _ Root i (omega arith)
    ∙ ap (λ n. Under (node_at ns r.parent) n (kind_in r.content)) (omega arith)
    ∙ ap (λ p. Under p i (kind_in r.content)) (sym (node_stays ns (r ∷ rs) r.parent g))
node_in ns (r ∷ rs) (suc k) i e h low = node_in (with_row ns r) rs k i (omega (arith, length_with ns r)) (omega arith) low

pub node_of_row : (rs : List Row) (k : ℕ) → k < length rs → parent_in rs k ≤ k
    → node_at (nodes_of rs) (suc k) ≡ Under (node_at (nodes_of rs) (parent_in rs k)) (suc k) (kind_in (get_or rs k no_row).content)
node_of_row rs k h low = node_in (Root ∷ []) rs k (suc k) (omega arith) h (omega arith)
