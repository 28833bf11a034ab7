-- The children of a node, found from each to the row behind those below it; and those of a set, in order.
use Rattle.std.proofs.Common.{◌≡◌, ℕ, zero, suc, ◌+◌, ◌<◌, ◌≤◌, Bool, true, false, cond, ◌&&◌, List, [], ◌∷◌, ◌++◌, length, get_or, refl, sym, ◌∙◌, ap, subst, inl, inr, arith, eqb, append_assoc, append-nil}
use Rattle.std.specs.Prelude.{unwrap_or}
use Rattle.std.proofs.lemmas.List.{get_or_past, get_or_default}
use Rattle.std.proofs.lemmas.Bool.{cases_lt, ne_eqb, eq-eqb, and_right}
use Rattle.gcx_base.specs.declared.steps.Axis.TheVariants.{Child}
use Rattle.gcx_base.specs.declared.steps.Test.{Test}
use Rattle.gcx_model.specs.Tree.{Node}
use Rattle.gcx_base.specs.Tests.{passes}
use Rattle.gcx_model.specs.Paths.{reach}
use Rattle.doc_tree.specs.declared.row.Row.{Row}
use Rattle.doc_tree.specs.Rows.{kind_in, node_at, nodes_of, no_row, parent_in, end_at, IsNested, IsBehind}
use Rattle.doc_tree.specs.Sets.{members, to_children}
use Rattle.doc_tree.proofs.Steps.{lies_low}
use Rattle.doc_tree.proofs.Order.{number, rises, row_node}
use Rattle.doc_tree.proofs.Numbers.{rest, rest_at, rest_skip, rest_none}

pub and_yes : (a b : Bool) → b ≡ true → (a && b) ≡ a
and_yes true b e = e
and_yes false b e = refl

-- no end is behind the rows
pub end_low : (rows : List Row) (n : ℕ) → IsNested rows → end_at rows n ≤ length rows
end_low rows zero nested = omega arith
end_low rows (suc k) nested = elim (cases_lt k (length rows)) [
  | inl h ↦ (nested.ends (suc k) (omega arith)).to
  | inr h ↦ (let e : end_at rows (suc k) ≡ length rows = ap (λ (r : Row). unwrap_or r.end (length rows)) (get_or_past rows k no_row h) in omega arith)
]

module _ (rows : List Row) (nested : IsNested rows) (t : Test) where
  abbrev node : ℕ → Node
  node i = node_at (nodes_of rows) i

  abbrev kids : ℕ → Node → Bool
  kids n = reach n (to_children t)

  -- whether the node of a row is a child that passes
  pub row_reach : (n k : ℕ) → k < length rows → kids n (node (suc k)) ≡ (passes t (kind_in (get_or rows k no_row).content) && eqb (parent_in rows k) n)
  row_reach n k h =
      let l = nested.low k h in
      ap (kids n) (row_node rows nested k h) ∙ ap (λ i. passes t (kind_in (get_or rows k no_row).content) && eqb i n) (number rows nested (parent_in rows k) (omega arith))

  no_child : (n k : ℕ) → k < length rows → (parent_in rows k ≡ n → ⊥) → kids n (node (suc k)) ≡ false
  no_child n k h other = row_reach n k h ∙ and_right _ _ (ne_eqb _ _ other)

  no_child_at : (n i : ℕ) → n < i → i ≤ length rows → ((k : ℕ) → suc k ≡ i → parent_in rows k ≡ n → ⊥) → kids n (node i) ≡ false
  no_child_at n zero lt le other = absurd (omega arith)
  no_child_at n (suc k) lt le other = no_child n k (omega arith) (other k refl)

  early : (n i : ℕ) → i ≤ n → i ≤ length rows → kids n (node i) ≡ false
  early n i le h = and_right _ _ (lies_low Child n (node i) (rises rows nested i h) (let e = number rows nested i h in omega arith))

-- Looking for the children of n: the next row is no deeper than they are, and what was found and what is to come are all.
pub record Finds (rows : List Row) (t : Test) (n next : ℕ) (before found : List ℕ) : Type 0 where
  pub from : n ≤ next
  pub low : next < length rows → parent_in rows next ≤ n
  pub all : found ++ rest rows (reach n (to_children t)) (suc next) ≡ before ++ members (reach n (to_children t)) rows

pub finds_none : (rows : List Row) (t : Test) (n : ℕ) (before : List ℕ) → IsNested rows → Finds rows t n n before before
finds_none rows t n before nested = record {
  from = omega arith;
  low = λ h. nested.low n h;
  all = ap (λ l. before ++ l) (sym (rest_skip rows nested (reach n (to_children t)) 0 (suc n) (omega arith) (λ k a b c. early rows nested t n k (omega arith) c)));
}

push_all : (b : Bool) (found xs ys : List ℕ) (i j : ℕ) → i ≡ j → xs ≡ cond b (i ∷ ys) ys → cond b (found ++ j ∷ []) found ++ ys ≡ found ++ xs
push_all true found xs ys i j e f = append_assoc found (j ∷ []) ys ∙ (ap (λ k. found ++ k ∷ ys) (sym e) ∙ ap (λ l. found ++ l) (sym f))
push_all false found xs ys i j e f = ap (λ l. found ++ l) (sym f)

pub finds_more : (rows : List Row) (t : Test) (n next end : ℕ) (before found : List ℕ) (row : Row) (b : Bool) → IsNested rows → Finds rows t n next before found
    → next < end_at rows n → passes t (kind_in (get_or rows next row).content) ≡ b → end ≡ end_at rows (next + 1) → Finds rows t n end before (cond b (found ++ (next + 1) ∷ []) found)
finds_more rows t n next end before found row b nested w lt p q =
    let at : next + 1 ≡ suc next = omega arith in
    let f = w.from in
    let all_rows = end_low rows n nested in
    let h : next < length rows = omega arith in
    let own = nested.ends n (omega arith) in
    let over : IsBehind rows (suc next) end = subst (IsBehind rows (suc next)) (sym (q ∙ ap (end_at rows) at)) (nested.ends (suc next) (omega arith)) in
    let child : parent_in rows next ≡ n = (let x = own.inside next f lt in let y = w.low h in omega arith) in
    let here : rest rows (reach n (to_children t)) (suc next) ≡ cond b (suc next ∷ rest rows (reach n (to_children t)) (suc (suc next))) (rest rows (reach n (to_children t)) (suc (suc next)))
    = rest_at rows nested (reach n (to_children t)) (suc next) b (omega arith)
    (row_reach rows nested t n next h ∙ (and_yes _ _ (eq-eqb _ _ child) ∙ (ap (λ (r : Row). passes t (kind_in r.content)) (get_or_default rows next no_row row h) ∙ p))) in
    let on : rest rows (reach n (to_children t)) (suc (suc next)) ≡ rest rows (reach n (to_children t)) (suc end)
    = rest_skip rows nested (reach n (to_children t)) (suc (suc next)) (suc end) (let x = over.from in omega arith)
    (λ i a z c. no_child_at rows nested t n i (omega arith) c (λ k e g. let x = over.inside k (omega arith) (omega arith) in omega arith)) in
    record {
      from = let x = over.from in omega arith;
      low = λ g. elim (cases_lt n (parent_in rows end)) [
        | inl l ↦ (let x = over.outside g in let y = over.from in absurd (nested.nested (parent_in rows end) next end (omega arith) (omega arith) g (omega arith) refl))
        | inr l ↦ l
      ];
      all = ap (λ l. cond b (found ++ (next + 1) ∷ []) found ++ l) (sym on) ∙ (push_all b found _ _ (suc next) (next + 1) (sym at) here ∙ w.all);
    }

pub finds_all : (rows : List Row) (t : Test) (n next : ℕ) (before found : List ℕ) → IsNested rows → Finds rows t n next before found → end_at rows n ≤ next → found ≡ before ++ members (reach n (to_children t)) rows
finds_all rows t n next before found nested w past =
    sym (append-nil found)
    ∙ (ap (λ l. found ++ l) (sym (rest_none rows nested (reach n (to_children t)) (suc next) (λ i a c. no_child_at rows nested t n i (let f = w.from in omega arith) c (λ k e g. gone k (omega arith) (omega arith) g))))
    ∙ w.all)
  where
    gone : (k : ℕ) → next ≤ k → k < length rows → parent_in rows k ≡ n → ⊥
    gone k a c g =
        let f = w.from in
        let own = nested.ends n (omega arith) in
        let x = own.outside (omega arith) in
        nested.nested n (end_at rows n) k own.from (omega arith) c x g
