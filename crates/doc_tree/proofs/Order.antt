-- Where the nodes below a node stand: right behind it, up to the first row whose parent stands before it.
use Rattle.std.proofs.Common.{◌≡◌, ℕ, zero, suc, ◌+◌, ◌<◌, ◌≤◌, true, false, List, ◌∷◌, length, get_or, drop, refl, sym, ◌∙◌, ap, subst, inl, inr, arith}
use Rattle.std.proofs.lemmas.Bool.{cases_lt, cases_order, ne_eqb, eq-eqb, or_left, or_right}
use Rattle.std.proofs.lemmas.List.{drop_more}
use Rattle.gcx_model.specs.Tree.{Node, Root, Under, serial_of, within}
use Rattle.doc_tree.specs.declared.row.Row.{Row}
use Rattle.doc_tree.specs.Rows.{kind_in, node_at, nodes_of, no_row, parent_in, IsNested}
use Rattle.doc_tree.proofs.Nodes.{Rises, are_nodes, length-nodes_of, node_of_row}
use Rattle.doc_tree.proofs.Steps.{within_low}

pub within_self : (n : ℕ) (m : Node) → serial_of m ≡ n → within n m ≡ true
within_self n Root e = eq-eqb 0 n e
within_self n (Under p s k) e = or_left _ _ (eq-eqb s n e)

module _ (rows : List Row) (nested : IsNested rows) where
  abbrev node : ℕ → Node
  node i = node_at (nodes_of rows) i

  pub row_node : (k : ℕ) → k < length rows → node (suc k) ≡ Under (node (parent_in rows k)) (suc k) (kind_in (get_or rows k no_row).content)
  row_node k h = node_of_row rows k h (nested.low k h)

  pub number : (i : ℕ) → i ≤ length rows → serial_of (node i) ≡ i
  number i h = (are_nodes rows).number i (omega (arith, length-nodes_of rows))

  pub rises : (i : ℕ) → i ≤ length rows → Rises (node i)
  rises i h = (are_nodes rows).rises i (omega (arith, length-nodes_of rows))

  pub drop_on : (i : ℕ) → i ≤ length rows → drop i (nodes_of rows) ≡ node i ∷ drop (suc i) (nodes_of rows)
  drop_on i h = let e : i + 1 ≡ suc i = omega arith in drop_more (nodes_of rows) i Root (omega (arith, length-nodes_of rows)) ∙ ap (λ k. node i ∷ drop k (nodes_of rows)) e

  inside_by : (b n j : ℕ) → j < b → n ≤ j → j < length rows → ((k : ℕ) → n ≤ k → k ≤ j → n ≤ parent_in rows k) → within n (node (suc j)) ≡ true
  inside_by zero n j lt le h all = absurd (omega arith)
  inside_by (suc b) n j lt le h all =
      subst (λ (m : Node). within n m ≡ true) (sym (row_node j h)) (or_right _ _ (parent (parent_in rows j) refl (λ i f g. inside_by b n i (let t = nested.low j h in omega arith) g (let t = nested.low j h in omega arith) (λ k x y. all k x (let t = nested.low j h in omega arith)))))
    where
      parent : (q : ℕ) → parent_in rows j ≡ q → ((i : ℕ) → suc i ≡ parent_in rows j → n ≤ i → within n (node (suc i)) ≡ true) → within n (node q) ≡ true
      parent zero e earlier = let a = all j le (omega arith) in let l = nested.low j h in within_self n (node 0) (number 0 (omega arith) ∙ omega arith)
      parent (suc i) e earlier =
          let a = all j le (omega arith) in
          let l = nested.low j h in
          elim (cases_lt i n) [
            | inl g ↦ within_self n (node (suc i)) (number (suc i) (omega arith) ∙ omega arith)
            | inr g ↦ earlier i (sym e) g
          ]

  -- where no row from n on has a parent before n, the last of them is in n
  pub inside : (n j : ℕ) → n ≤ j → j < length rows → ((k : ℕ) → n ≤ k → k ≤ j → n ≤ parent_in rows k) → within n (node (suc j)) ≡ true
  inside n j le h all = inside_by (suc j) n j (omega arith) le h all

  outside_by : (b n j l : ℕ) → l < b → n ≤ j → j ≤ l → l < length rows → parent_in rows j < n → within n (node (suc l)) ≡ false
  outside_by zero n j l lt le to h low = absurd (omega arith)
  outside_by (suc b) n j l lt le to h low =
      subst (λ (m : Node). within n m ≡ false) (sym (row_node l h)) (rw (ne_eqb (suc l) n (λ e. omega arith)) (parent (parent_in rows l) refl (λ i f g. outside_by b n j i (let t = nested.low l h in omega arith) le g (let t = nested.low l h in omega arith) low)))
    where
      parent : (q : ℕ) → parent_in rows l ≡ q → ((i : ℕ) → suc i ≡ parent_in rows l → j ≤ i → within n (node (suc i)) ≡ false) → within n (node q) ≡ false
      parent q e earlier = elim (cases_order q n) [
        | inl same ↦ absurd (nested.nested n j l le to h low (e ∙ same))
        | inr other ↦ elim other [
          | inl before ↦ (let t = nested.low l h in within_low n (node q) (rises q (omega arith)) (let f = number q (omega arith) in omega arith))
          | inr behind ↦ later q e behind
        ]
      ]
        where
          later : (q : ℕ) → parent_in rows l ≡ q → n < q → within n (node q) ≡ false
          later zero e behind = absurd (omega arith)
          later (suc i) e behind =
              elim (cases_lt i j) [
                | inl g ↦ absurd (nested.nested (suc i) j l (omega arith) to h (omega arith) e)
                | inr g ↦ earlier i (sym e) g
              ]

  -- behind a row from n on with a parent before n, nothing is in n
  pub outside : (n j l : ℕ) → n ≤ j → j ≤ l → l < length rows → parent_in rows j < n → within n (node (suc l)) ≡ false
  outside n j l le to h low = outside_by (suc l) n j l (omega arith) le to h low
