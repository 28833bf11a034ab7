-- The nodes below those of a set, found range by range.
use Rattle.std.proofs.Common.{◌≡◌, ℕ, zero, suc, ◌+◌, ◌-◌, ◌<◌, ◌≤◌, Bool, true, false, cond, ◌||◌, List, [], ◌∷◌, ◌++◌, length, map, max, get_or, take, drop, refl, sym, ◌∙◌, ap, subst, inl, inr, arith, eqb, append_assoc, append-nil}
use Rattle.std.specs.List.{filter}
use Rattle.std.proofs.lemmas.List.{drop_more, drop_all, take_more, get_or-drop, get_or_default, map-append, length-drop}
use Rattle.std.proofs.lemmas.List.Elements.{filter-append}
use Rattle.std.proofs.lemmas.Bool.{cases_lt, ne_eqb, eq-eqb, eqb-true, or_cases, or_left, or_right, false≢true, false_from_ne_true, and_right}
use Rattle.gcx_base.specs.declared.steps.Test.{Test}
use Rattle.gcx_model.specs.Tree.{Node, Root, serial_of, kind_of, above, within}
use Rattle.gcx_base.specs.Tests.{passes}
use Rattle.gcx_model.specs.Paths.{any}
use Rattle.doc_tree.specs.declared.row.Row.{Row}
use Rattle.doc_tree.specs.Rows.{kind_in, node_at, nodes_of, no_row, parent_in, end_at, IsNested}
use Rattle.doc_tree.specs.Sets.{members, passing, to_descendants, below, stepped}
use Rattle.doc_tree.proofs.Nodes.{are_nodes, length-nodes_of}
use Rattle.doc_tree.proofs.Order.{number, row_node, drop_on, inside, outside}
use Rattle.doc_tree.proofs.Numbers.{rest, map_cond, rest_at, rest_skip, rest_none, Heads, head_of, ends_of}
use Rattle.doc_tree.proofs.Children.{and_yes, end_low}

-- a node of the set that the node i is in
record Above (rows : List Row) (f : Node → Bool) (i : ℕ) : Type 0 where
  pub at : ℕ
  pub to : at ≤ i
  pub in_set : f (node_at (nodes_of rows) at) ≡ true
  pub holds : within at (node_at (nodes_of rows) i) ≡ true

module _ (rows : List Row) (nested : IsNested rows) (f : Node → Bool) where
  abbrev node : ℕ → Node
  node i = node_at (nodes_of rows) i

  some_by : (b i : ℕ) → i < b → i ≤ length rows → any f (above (node i)) ≡ true → Above rows f i
  some_by zero i lt le h = absurd (omega arith)
  some_by (suc b) zero lt le h =
      let first : node 0 ≡ Root = (are_nodes rows).first in
      record {
        at = 0;
        to = omega arith;
        in_set = ap f first ∙ (elim (or_cases _ _ (ap (λ (m : Node). any f (above m)) (sym first) ∙ h)) [ inl x ↦ x | inr x ↦ absurd (false≢true x) ]);
        holds = ap (within 0) first;
      }
  some_by (suc b) (suc k) lt le h =
      let l = nested.low k (omega arith) in
      let e = row_node rows nested k (omega arith) in
      elim (or_cases _ _ (ap (λ (m : Node). any f (above m)) (sym e) ∙ h)) [
        | inl own ↦ record { at = suc k; to = omega arith; in_set = ap f e ∙ own; holds = ap (within (suc k)) e ∙ or_left _ _ (self (suc k)) }
        | inr up ↦ (let r = some_by b (parent_in rows k) (omega arith) (omega arith) up in record { at = r.at; to = let t = r.to in omega arith; in_set = r.in_set; holds = ap (within r.at) e ∙ or_right _ _ r.holds })
      ]
    where
      self : (n : ℕ) → eqb n n ≡ true
      self n = eq-eqb n n refl

  any_by : (b i n : ℕ) → i < b → i ≤ length rows → f (node n) ≡ true → within n (node i) ≡ true → any f (above (node i)) ≡ true
  any_by zero i n lt le h w = absurd (omega arith)
  any_by (suc b) zero n lt le h w =
      let first : node 0 ≡ Root = (are_nodes rows).first in
      let z : 0 ≡ n = eqb-true 0 n (ap (within n) (sym first) ∙ w) in
      ap (λ (m : Node). any f (above m)) first ∙ or_left _ _ (ap f (sym first) ∙ (ap (λ i. f (node i)) z ∙ h))
  any_by (suc b) (suc k) n lt le h w =
      let l = nested.low k (omega arith) in
      let e = row_node rows nested k (omega arith) in
      ap (λ (m : Node). any f (above m)) e
      ∙ (elim (or_cases _ _ (ap (within n) (sym e) ∙ w)) [
        | inl own ↦ (let z : suc k ≡ n = eqb-true (suc k) n own in or_left _ _ (ap f (sym e) ∙ (ap (λ i. f (node i)) z ∙ h)))
        | inr up ↦ or_right _ _ (any_by b (parent_in rows k) n (omega arith) (omega arith) h up)
      ])

  below_is : (k : ℕ) → k < length rows → below f (node (suc k)) ≡ any f (above (node (parent_in rows k)))
  below_is k h = ap (below f) (row_node rows nested k h)

  -- a row in the range of a node of the set
  pub below_in : (n k : ℕ) → n ≤ k → k < end_at rows n → f (node n) ≡ true → below f (node (suc k)) ≡ true
  below_in n k le lt h =
      let all_rows = end_low rows n nested in
      let l = nested.low k (omega arith) in
      let own = nested.ends n (omega arith) in
      let w : within n (node (suc k)) ≡ true = inside rows nested n k le (omega arith) (λ j a c. own.inside j a (omega arith)) in
      let up : within n (node (parent_in rows k)) ≡ true = sym (ap (within n) (row_node rows nested k (omega arith)) ∙ ap (λ b. b || within n (node (parent_in rows k))) (ne_eqb (suc k) n (λ e. omega arith))) ∙ w in
      below_is k (omega arith) ∙ any_by (suc (parent_in rows k)) (parent_in rows k) n (omega arith) (omega arith) h up

  -- a row behind the ranges of all nodes of the set before it
  pub below_out : (k : ℕ) → k < length rows → ((n : ℕ) → n ≤ k → f (node n) ≡ true → end_at rows n ≤ k) → below f (node (suc k)) ≡ false
  below_out k h all = below_is k h ∙ false_from_ne_true _ (λ t. none (some_by (suc (parent_in rows k)) (parent_in rows k) (omega arith) (let l = nested.low k h in omega arith) t))
    where
      none : Above rows f (parent_in rows k) → ⊥
      none r =
          let l = nested.low k h in
          let to = r.to in
          let e = all r.at (omega arith) r.in_set in
          let own = nested.ends r.at (omega arith) in
          let low = own.outside (omega arith) in
          false≢true (sym (outside rows nested r.at (end_at rows r.at) k own.from e h low) ∙ (ap (within r.at) (row_node rows nested k h) ∙ or_right _ _ r.holds))

module _ (rows : List Row) (nested : IsNested rows) (t : Test) (f : Node → Bool) where
  abbrev reached : Node → Bool
  reached = stepped (to_descendants t) f

  not_reached : (k : ℕ) → k < length rows → ((n : ℕ) → n ≤ k → f (node_at (nodes_of rows) n) ≡ true → end_at rows n ≤ k) → reached (node_at (nodes_of rows) (suc k)) ≡ false
  not_reached k h all = and_right _ _ (below_out rows nested f k h all)

  root_not_reached : reached (node_at (nodes_of rows) 0) ≡ false
  root_not_reached = ap reached (are_nodes rows).first

  not_reached_at : (i : ℕ) → i ≤ length rows → ((k n : ℕ) → suc k ≡ i → n ≤ k → f (node_at (nodes_of rows) n) ≡ true → end_at rows n ≤ k) → reached (node_at (nodes_of rows) i) ≡ false
  not_reached_at zero h all = root_not_reached
  not_reached_at (suc k) h all = not_reached k (omega arith) (λ n a c. all k n refl a c)

  -- within a range those that pass are reached
  run : (d s : ℕ) → s + d ≤ length rows → ((k : ℕ) → s ≤ k → k < s + d → below f (node_at (nodes_of rows) (suc k)) ≡ true)
      → rest rows reached (suc s) ≡ map serial_of (filter (λ m. passes t (kind_of m)) (take d (drop (suc s) (nodes_of rows)))) ++ rest rows reached (suc (s + d))
  run zero s h all = let z : s ≡ s + 0 = omega arith in ap (λ k. rest rows reached (suc k)) z
  run (suc d) s h all =
      let z : suc s + d ≡ s + suc d = omega arith in
      let ok : reached (node_at (nodes_of rows) (suc s)) ≡ passes t (kind_of (node_at (nodes_of rows) (suc s))) = and_yes _ _ (all s (omega arith) (omega arith)) in
      rest_at rows nested reached (suc s) _ (omega arith) ok
      ∙ (go (passes t (kind_of (node_at (nodes_of rows) (suc s)))) (rest rows reached (suc (suc s))) _ _ (run d (suc s) (omega arith) (λ k a c. all k (omega arith) (omega arith)) ∙ ap (λ k. map serial_of (filter (λ m. passes t (kind_of m)) (take d (drop (suc (suc s)) (nodes_of rows)))) ++ rest rows reached (suc k)) z)
      ∙ ap (λ l. l ++ rest rows reached (suc (s + suc d))) (sym (ap (λ l. map serial_of (filter (λ m. passes t (kind_of m)) (take (suc d) l))) (drop_on rows nested (suc s) (omega arith)) ∙ map_cond (passes t (kind_of (node_at (nodes_of rows) (suc s)))) (node_at (nodes_of rows) (suc s)) (suc s) _ (number rows nested (suc s) (omega arith)))))
    where
      go : (b : Bool) (x y w : List ℕ) → x ≡ y ++ w → cond b (suc s ∷ x) x ≡ cond b (suc s ∷ y) y ++ w
      go true x y w e = ap (λ l. suc s ∷ l) e
      go false x y w e = e

-- the nodes of a range, one row more
pub passing_more : (rows : List Row) (t : Test) (start k : ℕ) (row : Row) (b : Bool) (before found : List ℕ) → IsNested rows → start ≤ k → k < length rows → passes t (kind_in (get_or rows k row).content) ≡ b
    → found ≡ before ++ passing t rows start k → cond b (found ++ (k + 1) ∷ []) found ≡ before ++ passing t rows start (k + 1)
passing_more rows t start k row b before found nested le lt p e =
    let z : (k + 1) - start ≡ (k - start) + 1 = omega arith in
    let y : suc start + (k - start) ≡ suc k = omega arith in
    let ns : List Node = drop (suc start) (nodes_of rows) in
    let l : k - start < length ns = omega (arith, length-drop (suc start) (nodes_of rows), length-nodes_of rows) in
    let m : get_or ns (k - start) Root ≡ node_at (nodes_of rows) (suc k) = get_or-drop (suc start) (nodes_of rows) (k - start) Root ∙ ap (node_at (nodes_of rows)) y in
    let own : passes t (kind_of (node_at (nodes_of rows) (suc k))) ≡ b = ap (λ n. passes t (kind_of n)) (row_node rows nested k lt) ∙ (ap (λ (r : Row). passes t (kind_in r.content)) (get_or_default rows k no_row row lt) ∙ p) in
    let taken : passing t rows start (k + 1) ≡ passing t rows start k ++ cond b (suc k ∷ []) []
    = ap (λ d. map serial_of (filter (λ n. passes t (kind_of n)) (take d ns))) z
    ∙ (ap (λ l. map serial_of (filter (λ n. passes t (kind_of n)) l)) (take_more ns (k - start) Root l ∙ ap (λ n. take (k - start) ns ++ n ∷ []) m)
    ∙ (ap (map serial_of) (filter-append (λ n. passes t (kind_of n)) (take (k - start) ns) (node_at (nodes_of rows) (suc k) ∷ []))
    ∙ (map-append serial_of (filter (λ n. passes t (kind_of n)) (take (k - start) ns)) (filter (λ n. passes t (kind_of n)) (node_at (nodes_of rows) (suc k) ∷ []))
    ∙ ap (λ l. passing t rows start k ++ l) (map_cond (passes t (kind_of (node_at (nodes_of rows) (suc k)))) (node_at (nodes_of rows) (suc k)) (suc k) [] (number rows nested (suc k) (omega arith)) ∙ ap (λ c. cond c (suc k ∷ []) []) own)))) in
    go b e ∙ ap (λ l. before ++ l) (sym taken)
  where
    go : (b : Bool) → found ≡ before ++ passing t rows start k → cond b (found ++ (k + 1) ∷ []) found ≡ before ++ (passing t rows start k ++ cond b (suc k ∷ []) [])
    go true e = let at : k + 1 ≡ suc k = omega arith in ap (λ l. l ++ (k + 1) ∷ []) e ∙ (append_assoc before (passing t rows start k) ((k + 1) ∷ []) ∙ ap (λ n. before ++ (passing t rows start k ++ n ∷ [])) at)
    go false e = e ∙ ap (λ l. before ++ l) (sym (append-nil (passing t rows start k)))

pub passing_none : (rows : List Row) (t : Test) (start end : ℕ) → end ≤ start → passing t rows start end ≡ []
passing_none rows t start end h = let z : end - start ≡ 0 = omega arith in ap (λ d. map serial_of (filter (λ n. passes t (kind_of n)) (take d (drop (suc start) (nodes_of rows))))) z

pub passing_all : (rows : List Row) (t : Test) (start index end : ℕ) → start ≤ index → end ≤ index → index ≤ max start end → passing t rows start index ≡ passing t rows start end
passing_all rows t start index end f g h = let z : index - start ≡ end - start = omega arith in ap (λ d. map serial_of (filter (λ n. passes t (kind_of n)) (take d (drop (suc start) (nodes_of rows))))) z

-- Going over a set: the rows before `done` are done, those below the set's nodes before the number i among them.
pub record Covers (rows : List Row) (t : Test) (f : Node → Bool) (i done : ℕ) (found : List ℕ) : Type 0 where
  pub ends : (n : ℕ) → n < i → n ≤ length rows → f (node_at (nodes_of rows) n) ≡ true → end_at rows n ≤ done
  pub all : found ++ rest rows (stepped (to_descendants t) f) (suc done) ≡ members (stepped (to_descendants t) f) rows

pub covers_none : (rows : List Row) (t : Test) (f : Node → Bool) → IsNested rows → Covers rows t f 0 0 []
covers_none rows t f nested = record {
  ends = λ n a b c. absurd (omega arith);
  all = sym (rest_at rows nested (stepped (to_descendants t) f) 0 false (omega arith) (root_not_reached rows nested t f));
}

pub covers_more : (rows : List Row) (t : Test) (f : Node → Bool) (i done x : ℕ) (xs found : List ℕ) → IsNested rows → Covers rows t f i done found → Heads rows f i x xs
    → Covers rows t f (suc x) (max done (end_at rows x)) (found ++ passing t rows (max done x) (end_at rows x))
covers_more rows t f i done x xs found nested w head = record {
  ends = λ n a b c. elim (cases_lt n i) [
    | inl g ↦ (let e = w.ends n g b c in omega arith)
    | inr g ↦ elim (cases_lt n x) [
      | inl l ↦ absurd (head.between n g l c)
      | inr l ↦ (let s : n ≡ x = omega arith in let e = ap (end_at rows) s in omega arith)
    ]
  ];
  all =
      append_assoc found _ _
      ∙ (ap (λ l. found ++ l) (sym (skipped ∙ ranged)) ∙ w.all);
}
  where
    to : x ≤ length rows
    to = head.to

    from : x ≤ end_at rows x
    from = (nested.ends x to).from

    low : end_at rows x ≤ length rows
    low = (nested.ends x to).to

    skipped : rest rows (stepped (to_descendants t) f) (suc done) ≡ rest rows (stepped (to_descendants t) f) (suc (max done x))
    skipped = rest_skip rows nested (stepped (to_descendants t) f) (suc done) (suc (max done x)) (omega arith) (λ j a b c. not_reached_at rows nested t f j c (λ k n e le h. elim (cases_lt n i) [
      | inl s ↦ (let y = w.ends n s (omega arith) h in omega arith)
      | inr s ↦ absurd (head.between n s (omega arith) h)
    ]))

    ranged : rest rows (stepped (to_descendants t) f) (suc (max done x)) ≡ passing t rows (max done x) (end_at rows x) ++ rest rows (stepped (to_descendants t) f) (suc (max done (end_at rows x)))
    ranged = let fr = from in let lo = low in elim (cases_lt (max done x) (end_at rows x)) [
      | inl l ↦ (let z : max done x + (end_at rows x - max done x) ≡ max done (end_at rows x) = omega arith in run rows nested t f (end_at rows x - max done x) (max done x) (omega arith) (λ k a b. below_in rows nested f x k (omega arith) (omega arith) head.in_set) ∙ ap (λ k. passing t rows (max done x) (end_at rows x) ++ rest rows (stepped (to_descendants t) f) (suc k)) z)
      | inr l ↦ (let z : end_at rows x - max done x ≡ 0 = omega arith in let y : max done x ≡ max done (end_at rows x) = omega arith in ap (λ k. rest rows (stepped (to_descendants t) f) (suc k)) y ∙ ap (λ d. map serial_of (filter (λ m. passes t (kind_of m)) (take d (drop (suc (max done x)) (nodes_of rows)))) ++ rest rows (stepped (to_descendants t) f) (suc (max done (end_at rows x)))) (sym z))
    ]

pub covers_all : (rows : List Row) (t : Test) (f : Node → Bool) (i done : ℕ) (found : List ℕ) → IsNested rows → Covers rows t f i done found → rest rows f i ≡ [] → found ≡ members (stepped (to_descendants t) f) rows
covers_all rows t f i done found nested w e =
    sym (append-nil found)
    ∙ (ap (λ l. found ++ l) (sym (rest_none rows nested (stepped (to_descendants t) f) (suc done) (λ j a c. not_reached_at rows nested t f j c (λ k n s le h. elim (cases_lt n i) [
      | inl l ↦ (let y = w.ends n l (omega arith) h in omega arith)
      | inr l ↦ absurd (ends_of rows nested f i n e l (omega arith) h)
    ]))))
    ∙ w.all)

-- One node of the set more, as a loop over its numbers has it.
pub record Goes (rows : List Row) (t : Test) (f : Node → Bool) (left : List ℕ) (done : ℕ) (found : List ℕ) : Type 0 where
  pub at : ℕ
  pub left_is : left ≡ rest rows f at
  pub covers : Covers rows t f at done found

pub goes_more : (rows : List Row) (t : Test) (f : Node → Bool) (set found more : List ℕ) (k x done start end next : ℕ) → IsNested rows → k < length set → x ≡ get_or set k 0 → Goes rows t f (drop k set) done found
    → end ≡ end_at rows x → start ≡ max done x → more ≡ found ++ passing t rows start end → next ≡ max done end → Goes rows t f (drop (k + 1) set) next more
goes_more rows t f set found more k x done start end next nested lt read w e m p q =
    let head = head_of rows nested f w.at x (drop (k + 1) set) (sym w.left_is ∙ (drop_more set k 0 lt ∙ ap (λ y. y ∷ drop (k + 1) set) (sym read))) in
    let c = covers_more rows t f w.at done x (drop (k + 1) set) found nested w.covers head in
    record {
      at = suc x;
      left_is = head.others;
      covers = subst (λ (y : ℕ). Covers rows t f (suc x) y more) (sym (q ∙ ap (max done) e)) (subst (λ (l : List ℕ). Covers rows t f (suc x) (max done (end_at rows x)) l) (sym (p ∙ (ap (λ y. found ++ passing t rows y end) m ∙ ap (λ y. found ++ passing t rows (max done x) y) e))) c);
    }

pub goes_all : (rows : List Row) (t : Test) (f : Node → Bool) (set found : List ℕ) (k done : ℕ) → IsNested rows → length set ≤ k → Goes rows t f (drop k set) done found → found ≡ members (stepped (to_descendants t) f) rows
goes_all rows t f set found k done nested le w = covers_all rows t f w.at done found nested w.covers (sym w.left_is ∙ drop_all k set le)
