-- The children of a set's nodes, node by node, and then in order.
use Rattle.std.proofs.Common.{◌≡◌, ◌⊎◌, ℕ, zero, suc, ◌+◌, ◌<◌, ◌≤◌, Bool, true, false, cond, ◌&&◌, List, [], ◌∷◌, ◌++◌, length, get_or, take, refl, sym, ◌∙◌, ap, subst, inl, inr, arith, eqb, append-nil, Some}
use Rattle.std.specs.Prelude.{flat_map}
use Rattle.std.specs.Bool.{MatchBool}
use Rattle.std.specs.Ordering.{nat_cmp, is_le, is_some_and}
use Rattle.std.specs.List.{sum_by, IsAllAdjacentAnswer}
use Rattle.std.specs.List.Sorted.{IsPermutation, IsNonDecreasing}
use Rattle.std.proofs.lemmas.List.{take_more}
use Rattle.std.proofs.lemmas.List.Sums.{sum_by-cons}
use Rattle.std.proofs.lemmas.List.Sorted.{sum_by-IsPermutation, non_decreasing_from_is_sorted}
use Rattle.std.proofs.lemmas.Grind.{flat_map-append}
use Rattle.std.proofs.lemmas.Bool.{cases_order, ne_eqb, eq-eqb, false≢true}
use Rattle.gcx_base.specs.declared.steps.Test.{Test}
use Rattle.gcx_model.specs.Tree.{Node, Root, Under, serial_of}
use Rattle.gcx_base.specs.Tests.{passes}
use Rattle.gcx_model.specs.Paths.{reach}
use Rattle.base_laws.proofs.Counts.{as_number, count, count_append, Up, AllFrom, from_less, same_up}
use Rattle.doc_tree.specs.declared.row.Row.{Row}
use Rattle.doc_tree.specs.Rows.{kind_in, node_at, nodes_of, no_row, parent_in, IsNested}
use Rattle.doc_tree.specs.Sets.{members, to_children, stepped}
use Rattle.doc_tree.proofs.Nodes.{are_nodes}
use Rattle.doc_tree.proofs.Order.{number, row_node}
use Rattle.doc_tree.proofs.Numbers.{rest, rest_at, rest_on, rest_past, rest_none, members_same}
use Rattle.doc_tree.proofs.Children.{row_reach}

counted : (c : ℕ) (xs : List ℕ) → count c xs ≡ sum_by (λ x. as_number (eqb x c)) xs
counted c [] = refl
counted c (x ∷ xs) = omega (arith, sum_by-cons (λ x. as_number (eqb x c)) x xs, counted c xs)

count_moved : (c : ℕ) (xs ys : List ℕ) → IsPermutation xs ys → count c ys ≡ count c xs
count_moved c xs ys p = counted c ys ∙ (sum_by-IsPermutation (λ x. as_number (eqb x c)) xs ys p ∙ sym (counted c xs))

all_from : (n : ℕ) (xs : List ℕ) → ((k : ℕ) → k < length xs → n ≤ get_or xs k 0) → AllFrom n xs
all_from n [] h = tt
all_from n (x ∷ xs) h = (h 0 (omega arith), all_from n xs (λ k l. h (suc k) (omega arith)))

up_by : (xs : List ℕ) → ((i j : ℕ) → i ≤ j → j < length xs → get_or xs i 0 ≤ get_or xs j 0) → Up xs
up_by [] h = tt
up_by (x ∷ xs) h = (all_from x xs (λ k l. h 0 (suc k) (omega arith) (omega arith)), up_by xs (λ i j a b. h (suc i) (suc j) (omega arith) (omega arith)))

-- whether j is at least i
abbrev is_from : ℕ → ℕ → Bool
is_from zero j = true
is_from (suc i) zero = false
is_from (suc i) (suc j) = is_from i j

from_yes : (i j : ℕ) → i ≤ j → is_from i j ≡ true
from_yes zero j l = refl
from_yes (suc i) zero l = absurd (omega arith)
from_yes (suc i) (suc j) l = from_yes i j (omega arith)

from_no : (i j : ℕ) → j < i → is_from i j ≡ false
from_no zero j l = absurd (omega arith)
from_no (suc i) zero l = refl
from_no (suc i) (suc j) l = from_no i j (omega arith)

module _ (rows : List Row) (nested : IsNested rows) where
  abbrev node : ℕ → Node
  node i = node_at (nodes_of rows) i

  -- the numbers of a set are in order
  rest_up : (f : Node → Bool) (d i : ℕ) → i + d ≡ suc (length rows) → AllFrom i (rest rows f i) × Up (rest rows f i)
  rest_up f zero i h = subst (λ (l : List ℕ). AllFrom i l × Up l) (sym (rest_past rows nested f i (omega arith))) (tt, tt)
  rest_up f (suc d) i h = subst (λ (l : List ℕ). AllFrom i l × Up l) (sym (rest_on rows nested f i (omega arith))) (go (f (node i)) (rest_up f d (suc i) (omega arith)))
    where
      go : (b : Bool) → AllFrom (suc i) (rest rows f (suc i)) × Up (rest rows f (suc i)) → AllFrom i (cond b (i ∷ rest rows f (suc i)) (rest rows f (suc i))) × Up (cond b (i ∷ rest rows f (suc i)) (rest rows f (suc i)))
      go true r = ((omega arith, from_less i (suc i) (rest rows f (suc i)) (omega arith) r.0), (from_less i (suc i) (rest rows f (suc i)) (omega arith) r.0, r.1))
      go false r = (from_less i (suc i) (rest rows f (suc i)) (omega arith) r.0, r.1)

  split_step : (x y z : Bool) (i c : ℕ) (X Y Z : List ℕ) → as_number x ≡ as_number y + as_number z → count c X ≡ count c Y + count c Z → count c (cond x (i ∷ X) X) ≡ count c (cond y (i ∷ Y) Y) + count c (cond z (i ∷ Z) Z)
  split_step true true true i c X Y Z e h = absurd (omega arith)
  split_step true true false i c X Y Z e h = omega arith
  split_step true false true i c X Y Z e h = omega arith
  split_step true false false i c X Y Z e h = absurd (omega arith)
  split_step false true true i c X Y Z e h = absurd (omega arith)
  split_step false true false i c X Y Z e h = absurd (omega arith)
  split_step false false true i c X Y Z e h = absurd (omega arith)
  split_step false false false i c X Y Z e h = h

  -- a set of two that share no node
  split : (h f g : Node → Bool) (c d i : ℕ) → i + d ≡ suc (length rows) → ((k : ℕ) → k ≤ length rows → as_number (h (node k)) ≡ as_number (f (node k)) + as_number (g (node k)))
      → count c (rest rows h i) ≡ count c (rest rows f i) + count c (rest rows g i)
  split h f g c zero i e all =
      let x = ap (count c) (rest_past rows nested h i (omega arith)) in
      let y = ap (count c) (rest_past rows nested f i (omega arith)) in
      let z = ap (count c) (rest_past rows nested g i (omega arith)) in
      omega arith
  split h f g c (suc d) i e all =
      let x = ap (count c) (rest_on rows nested h i (omega arith)) in
      let y = ap (count c) (rest_on rows nested f i (omega arith)) in
      let z = ap (count c) (rest_on rows nested g i (omega arith)) in
      let s = split_step (h (node i)) (f (node i)) (g (node i)) i c (rest rows h (suc i)) (rest rows f (suc i)) (rest rows g (suc i)) (all i (omega arith)) (split h f g c d (suc i) (omega arith) all) in
      omega arith

  module _ (t : Test) (f : Node → Bool) where
    -- the nodes of the set from the number i on
    abbrev from : ℕ → Node → Bool
    from i m = f m && is_from i (serial_of m)

    abbrev kids : ℕ → List ℕ
    kids n = members (reach n (to_children t)) rows

    at_row : (i k : ℕ) → k < length rows → stepped (to_children t) (from i) (node (suc k)) ≡ (passes t (kind_in (get_or rows k no_row).content) && (f (node (parent_in rows k)) && is_from i (parent_in rows k)))
    at_row i k h =
        let l = nested.low k h in
        ap (stepped (to_children t) (from i)) (row_node rows nested k h)
        ∙ ap (λ n. passes t (kind_in (get_or rows k no_row).content) && (f (node (parent_in rows k)) && is_from i n)) (number rows nested (parent_in rows k) (omega arith))

    at_root : (i : ℕ) → stepped (to_children t) (from i) (node 0) ≡ false
    at_root i = ap (stepped (to_children t) (from i)) (are_nodes rows).first

    root_no_child : (i : ℕ) → reach i (to_children t) (node 0) ≡ false
    root_no_child i = ap (reach i (to_children t)) (are_nodes rows).first

    -- a node of the set, and the later ones
    parted : (i k : ℕ) → f (node i) ≡ true → k ≤ length rows → as_number (stepped (to_children t) (from i) (node k)) ≡ as_number (reach i (to_children t) (node k)) + as_number (stepped (to_children t) (from (suc i)) (node k))
    parted i zero e h = rw (at_root i, root_no_child i, at_root (suc i)) refl
    parted i (suc k) e h = rw (at_row i k (omega arith), row_reach rows nested t i k (omega arith), at_row (suc i) k (omega arith)) (go (passes t (kind_in (get_or rows k no_row).content)) (cases_order (parent_in rows k) i))
      where
        go : (p : Bool) → (parent_in rows k ≡ i) ⊎ ((parent_in rows k < i) ⊎ (i < parent_in rows k))
            → as_number (p && (f (node (parent_in rows k)) && is_from i (parent_in rows k))) ≡ as_number (p && eqb (parent_in rows k) i) + as_number (p && (f (node (parent_in rows k)) && is_from (suc i) (parent_in rows k)))
        go false o = refl
        go true (inl s) = rw (from_yes i (parent_in rows k) (omega arith), from_no (suc i) (parent_in rows k) (omega arith), eq-eqb _ _ s, ap (λ n. f (node n)) s ∙ e) refl
        go true (inr (inl l)) = rw (from_no i (parent_in rows k) (omega arith), from_no (suc i) (parent_in rows k) (omega arith), ne_eqb (parent_in rows k) i (λ e. omega arith)) (both (f (node (parent_in rows k))))
          where
            both : (b : Bool) → as_number (b && false) ≡ as_number false + as_number (b && false)
            both true = refl
            both false = refl
        go true (inr (inr l)) = rw (from_yes i (parent_in rows k) (omega arith), from_yes (suc i) (parent_in rows k) (omega arith), ne_eqb (parent_in rows k) i (λ e. omega arith)) (omega arith)

    -- what isn't in the set has no part in it
    unparted : (i k : ℕ) → f (node i) ≡ false → k ≤ length rows → as_number (stepped (to_children t) (from i) (node k)) ≡ as_number false + as_number (stepped (to_children t) (from (suc i)) (node k))
    unparted i zero e h = rw (at_root i, at_root (suc i)) refl
    unparted i (suc k) e h =
        let x = ap as_number (at_row i k (omega arith)) in
        let y = ap as_number (at_row (suc i) k (omega arith)) in
        let z = ap (λ b. as_number (passes t (kind_in (get_or rows k no_row).content) && b)) (go (cases_order (parent_in rows k) i)) in
        omega arith
      where
        go : (parent_in rows k ≡ i) ⊎ ((parent_in rows k < i) ⊎ (i < parent_in rows k)) → (f (node (parent_in rows k)) && is_from i (parent_in rows k)) ≡ (f (node (parent_in rows k)) && is_from (suc i) (parent_in rows k))
        go (inl s) = rw (ap (λ n. f (node n)) s ∙ e) refl
        go (inr (inl l)) = rw (from_no i (parent_in rows k) (omega arith), from_no (suc i) (parent_in rows k) (omega arith)) refl
        go (inr (inr l)) = rw (from_yes i (parent_in rows k) (omega arith), from_yes (suc i) (parent_in rows k) (omega arith)) refl

    nowhere : (c d i : ℕ) → i + d ≡ suc (length rows) → count c (rest rows (λ m. false) i) ≡ 0
    nowhere c zero i e = ap (count c) (rest_past rows nested (λ m. false) i (omega arith))
    nowhere c (suc d) i e = ap (count c) (rest_at rows nested (λ m. false) i false (omega arith) refl) ∙ nowhere c d (suc i) (omega arith)

    -- each child of the set stands with its parent
    counts_by : (c d i : ℕ) → i + d ≡ suc (length rows) → count c (flat_map kids (rest rows f i)) ≡ count c (members (stepped (to_children t) (from i)) rows)
    counts_by c zero i e =
        ap (λ l. count c (flat_map kids l)) (rest_past rows nested f i (omega arith))
        ∙ sym (ap (count c) (rest_none rows nested (stepped (to_children t) (from i)) 0 (λ k a h. out k h)))
      where
        out : (k : ℕ) → k ≤ length rows → stepped (to_children t) (from i) (node k) ≡ false
        out zero h = at_root i
        out (suc k) h = let l = nested.low k (omega arith) in at_row i k (omega arith) ∙ (ap (λ b. passes t (kind_in (get_or rows k no_row).content) && (f (node (parent_in rows k)) && b)) (from_no i (parent_in rows k) (omega arith)) ∙ none (passes t (kind_in (get_or rows k no_row).content)) (f (node (parent_in rows k))))
          where
            none : (a b : Bool) → (a && (b && false)) ≡ false
            none true true = refl
            none true false = refl
            none false b = refl
    counts_by c (suc d) i e = go (f (node i)) refl (counts_by c d (suc i) (omega arith))
      where
        go : (b : Bool) → f (node i) ≡ b → count c (flat_map kids (rest rows f (suc i))) ≡ count c (members (stepped (to_children t) (from (suc i))) rows) → count c (flat_map kids (rest rows f i)) ≡ count c (members (stepped (to_children t) (from i)) rows)
        go true h z =
            let x = ap (λ l. count c (flat_map kids l)) (rest_at rows nested f i true (omega arith) h) in
            let y = count_append c (kids i) (flat_map kids (rest rows f (suc i))) in
            let w = split (stepped (to_children t) (from i)) (reach i (to_children t)) (stepped (to_children t) (from (suc i))) c (suc (length rows)) 0 (omega arith) (λ k l. parted i k h l) in
            omega arith
        go false h z =
            let x = ap (λ l. count c (flat_map kids l)) (rest_at rows nested f i false (omega arith) h) in
            let w = split (stepped (to_children t) (from i)) (λ m. false) (stepped (to_children t) (from (suc i))) c (suc (length rows)) 0 (omega arith) (λ k l. unparted i k h l) in
            let v = nowhere c (suc (length rows)) 0 (omega arith) in
            omega arith

    all_from_first : members (stepped (to_children t) (from 0)) rows ≡ members (stepped (to_children t) f) rows
    all_from_first = members_same rows _ _ (λ i l. same (node i))
      where
        true_and : (b : Bool) → (b && true) ≡ b
        true_and true = refl
        true_and false = refl

        same : (m : Node) → stepped (to_children t) (from 0) m ≡ stepped (to_children t) f m
        same Root = refl
        same (Under p s k) = ap (λ b. passes t k && b) (true_and (f p))

    -- the children in order
    pub in_order : (set found ordered : List ℕ) → set ≡ members f rows → found ≡ flat_map kids set → IsPermutation found ordered → IsNonDecreasing ordered → ordered ≡ members (stepped (to_children t) f) rows
    in_order set found ordered e p q r =
        same_up ordered (members (stepped (to_children t) f) rows) (up_by ordered (λ i j a b. r i j 0 a b)) (rest_up (stepped (to_children t) f) (suc (length rows)) 0 (omega arith)).1
        (λ c. count_moved c found ordered q ∙ (ap (count c) (p ∙ ap (flat_map kids) e) ∙ (counts_by c (suc (length rows)) 0 (omega arith) ∙ ap (count c) all_from_first)))

picked : (A B : Type 0) (r : Bool) → MatchBool r A B → r ≡ true → A
picked A B true h e = h
picked A B false h e = absurd (false≢true e)

-- what a test for order says
pub are_in_order : (xs ys : List ℕ) (r : Bool) → IsAllAdjacentAnswer (λ x y b. is_some_and is_le (Some (nat_cmp x y)) ≡ b) xs r → r ≡ true → xs ≡ ys → IsNonDecreasing ys
are_in_order xs ys r h e s = subst IsNonDecreasing s (picked _ _ r (non_decreasing_from_is_sorted xs r h) e)

-- the children of one node more
pub more_children : (kids : ℕ → List ℕ) (set found more : List ℕ) (k n : ℕ) → k < length set → n ≡ get_or set k 0 → found ≡ flat_map kids (take k set) → more ≡ found ++ kids n → more ≡ flat_map kids (take (k + 1) set)
more_children kids set found more k n h read p q =
    q ∙ (ap (λ l. l ++ kids n) p
    ∙ sym (ap (flat_map kids) (take_more set k 0 h ∙ ap (λ x. take k set ++ x ∷ []) (sym read)) ∙ (flat_map-append kids (take k set) (n ∷ []) ∙ ap (λ l. flat_map kids (take k set) ++ l) (append-nil (kids n)))))
