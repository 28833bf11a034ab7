-- Sets of nodes, as their numbers in document order.
use Rattle.std.proofs.Common.{◌≡◌, ℕ, zero, suc, ◌+◌, ◌-◌, ◌<◌, ◌≤◌, Bool, true, false, cond, List, [], ◌∷◌, ◌++◌, length, map, get_or, take, drop, refl, sym, ◌∙◌, ap, inl, inr, arith}
use Rattle.std.specs.List.{filter}
use Rattle.std.proofs.lemmas.List.{drop_all, take_more}
use Rattle.std.proofs.lemmas.Bool.{cases_lt, ne_eqb, eq-eqb, false≢true}
use Rattle.gcx_base.specs.declared.steps.Step.{Step}
use Rattle.gcx_model.specs.Tree.{Node, serial_of}
use Rattle.gcx_model.specs.Paths.{hits}
use Rattle.doc_tree.specs.declared.row.Row.{Row}
use Rattle.doc_tree.specs.Rows.{node_at, nodes_of, IsNested}
use Rattle.doc_tree.specs.Sets.{members, stepped}
use Rattle.doc_tree.proofs.Nodes.{are_nodes, any_rises, length-nodes_of}
use Rattle.doc_tree.proofs.Steps.{hits-push}
use Rattle.doc_tree.proofs.Order.{number, drop_on}

-- the numbers of the set's nodes, of those from the number i on
abbrev pub rest : List Row → (Node → Bool) → ℕ → List ℕ
rest rows f i = map serial_of (filter f (drop i (nodes_of rows)))

pub map_cond : (b : Bool) (m : Node) (i : ℕ) (ms : List Node) → serial_of m ≡ i → map serial_of (cond b (m ∷ ms) ms) ≡ cond b (i ∷ map serial_of ms) (map serial_of ms)
map_cond true m i ms e = ap (λ k. k ∷ map serial_of ms) e
map_cond false m i ms e = refl

module _ (rows : List Row) (nested : IsNested rows) (f : Node → Bool) where
  abbrev node : ℕ → Node
  node i = node_at (nodes_of rows) i

  pub rest_on : (i : ℕ) → i ≤ length rows → rest rows f i ≡ cond (f (node i)) (i ∷ rest rows f (suc i)) (rest rows f (suc i))
  rest_on i h = ap (λ l. map serial_of (filter f l)) (drop_on rows nested i h) ∙ map_cond (f (node i)) (node i) i (filter f (drop (suc i) (nodes_of rows))) (number rows nested i h)

  pub rest_at : (i : ℕ) (b : Bool) → i ≤ length rows → f (node i) ≡ b → rest rows f i ≡ cond b (i ∷ rest rows f (suc i)) (rest rows f (suc i))
  rest_at i b h e = rest_on i h ∙ ap (λ b. cond b (i ∷ rest rows f (suc i)) (rest rows f (suc i))) e

  pub rest_past : (i : ℕ) → length rows < i → rest rows f i ≡ []
  rest_past i h = ap (λ l. map serial_of (filter f l)) (drop_all i (nodes_of rows) (omega (arith, length-nodes_of rows)))

  rest_out : (i : ℕ) → (i ≤ length rows → f (node i) ≡ false) → rest rows f i ≡ rest rows f (suc i)
  rest_out i e = elim (cases_lt (length rows) i) [
    | inl past ↦ rest_past i past ∙ sym (rest_past (suc i) (omega arith))
    | inr here ↦ rest_at i false here (e here)
  ]

  skip : (d i : ℕ) → ((k : ℕ) → i ≤ k → k < i + d → k ≤ length rows → f (node k) ≡ false) → rest rows f i ≡ rest rows f (i + d)
  skip zero i none = let z : i ≡ i + 0 = omega arith in ap (rest rows f) z
  skip (suc d) i none =
      let z : suc i + d ≡ i + suc d = omega arith in
      rest_out i (λ h. none i (omega arith) (omega arith) h) ∙ (skip d (suc i) (λ k a b c. none k (omega arith) (omega arith) c) ∙ ap (rest rows f) z)

  -- where none of the set stands, the rest is the same
  pub rest_skip : (i j : ℕ) → i ≤ j → ((k : ℕ) → i ≤ k → k < j → k ≤ length rows → f (node k) ≡ false) → rest rows f i ≡ rest rows f j
  rest_skip i j le none =
      let z : i + (j - i) ≡ j = omega arith in
      skip (j - i) i (λ k a b c. none k a (omega arith) c) ∙ ap (rest rows f) z

  pub rest_none : (i : ℕ) → ((k : ℕ) → i ≤ k → k ≤ length rows → f (node k) ≡ false) → rest rows f i ≡ []
  rest_none i none =
      let z : length rows < i + suc (length rows) = omega arith in
      skip (suc (length rows)) i (λ k a b c. none k a c) ∙ rest_past (i + suc (length rows)) z

-- the first of the rest
pub record Heads (rows : List Row) (f : Node → Bool) (i n : ℕ) (ns : List ℕ) : Type 0 where
  pub from : i ≤ n
  pub to : n ≤ length rows
  pub in_set : f (node_at (nodes_of rows) n) ≡ true
  pub between : (k : ℕ) → i ≤ k → k < n → f (node_at (nodes_of rows) k) ≡ true → ⊥
  pub others : ns ≡ rest rows f (suc n)

module _ (rows : List Row) (nested : IsNested rows) (f : Node → Bool) where
  head_by : (d i n : ℕ) (ns : List ℕ) → i + d ≡ suc (length rows) → rest rows f i ≡ n ∷ ns → Heads rows f i n ns
  head_by zero i n ns h e = let z = sym (rest_past rows nested f i (omega arith)) ∙ e in cc
  head_by (suc d) i n ns h e = go (f (node_at (nodes_of rows) i)) refl (λ q. head_by d (suc i) n ns (omega arith) q)
    where
      go : (b : Bool) → f (node_at (nodes_of rows) i) ≡ b → (rest rows f (suc i) ≡ n ∷ ns → Heads rows f (suc i) n ns) → Heads rows f i n ns
      go true t later =
          let z = sym (rest_at rows nested f i true (omega arith) t) ∙ e in
          let s : i ≡ n = cc in
          record {
            from = omega arith;
            to = omega arith;
            in_set = sym (ap (λ k. f (node_at (nodes_of rows) k)) s) ∙ t;
            between = λ k a b c. absurd (omega arith);
            others = (let o : rest rows f (suc i) ≡ ns = cc in sym o) ∙ ap (λ k. rest rows f (suc k)) s;
          }
      go false t later =
          let r = later (sym (rest_at rows nested f i false (omega arith) t) ∙ e) in
          record {
            from = let l = r.from in omega arith;
            to = r.to;
            in_set = r.in_set;
            between = λ k a b c. elim (cases_lt i k) [
              | inl g ↦ r.between k (omega arith) b c
              | inr g ↦ (let s : k ≡ i = omega arith in false≢true (sym t ∙ (sym (ap (λ j. f (node_at (nodes_of rows) j)) s) ∙ c)))
            ];
            others = r.others;
          }

  pub head_of : (i n : ℕ) (ns : List ℕ) → rest rows f i ≡ n ∷ ns → Heads rows f i n ns
  head_of i n ns e = elim (cases_lt (length rows) i) [
    | inl past ↦ (let z = sym (rest_past rows nested f i past) ∙ e in cc)
    | inr here ↦ head_by (suc (length rows) - i) i n ns (omega arith) e
  ]

  ends_by : (d i k : ℕ) → i + d ≡ suc (length rows) → rest rows f i ≡ [] → i ≤ k → k ≤ length rows → f (node_at (nodes_of rows) k) ≡ true → ⊥
  ends_by zero i k h e a b c = omega arith
  ends_by (suc d) i k h e a b c = go (f (node_at (nodes_of rows) i)) refl (λ q g. ends_by d (suc i) k (omega arith) q g b c)
    where
      go : (x : Bool) → f (node_at (nodes_of rows) i) ≡ x → (rest rows f (suc i) ≡ [] → suc i ≤ k → ⊥) → ⊥
      go true t later = let z = sym (rest_at rows nested f i true (omega arith) t) ∙ e in cc
      go false t later = elim (cases_lt i k) [
        | inl g ↦ later (sym (rest_at rows nested f i false (omega arith) t) ∙ e) (omega arith)
        | inr g ↦ (let s : k ≡ i = omega arith in false≢true (sym t ∙ (sym (ap (λ j. f (node_at (nodes_of rows) j)) s) ∙ c)))
      ]

  -- behind the last of the set there is none
  pub ends_of : (i k : ℕ) → rest rows f i ≡ [] → i ≤ k → k ≤ length rows → f (node_at (nodes_of rows) k) ≡ true → ⊥
  ends_of i k e a b c = ends_by (suc (length rows) - i) i k (omega arith) e a b c

-- a set is known by its nodes
members_by : (f g : Node → Bool) (ns : List Node) → ((i : ℕ) → i < length ns → f (node_at ns i) ≡ g (node_at ns i)) → map serial_of (filter f ns) ≡ map serial_of (filter g ns)
members_by f g [] e = refl
members_by f g (x ∷ xs) e = rw (e 0 (omega arith)) (go (g x) (members_by f g xs (λ i l. e (suc i) (omega arith))))
  where
    go : (b : Bool) → map serial_of (filter f xs) ≡ map serial_of (filter g xs) → map serial_of (cond b (x ∷ filter f xs) (filter f xs)) ≡ map serial_of (cond b (x ∷ filter g xs) (filter g xs))
    go true r = ap (λ l. serial_of x ∷ l) r
    go false r = r

pub members_same : (rows : List Row) (f g : Node → Bool) → ((i : ℕ) → i ≤ length rows → f (node_at (nodes_of rows) i) ≡ g (node_at (nodes_of rows) i)) → members f rows ≡ members g rows
members_same rows f g e = members_by f g (nodes_of rows) (λ i l. e i (omega (arith, length-nodes_of rows)))

-- one step more
pub hits_more : (rows : List Row) (n : ℕ) (steps : List Step) (k : ℕ) (s : Step) → k < length steps → s ≡ get_or steps k s
    → members (stepped s (hits n (take k steps))) rows ≡ members (hits n (take (k + 1) steps)) rows
hits_more rows n steps k s h e =
    members_same rows _ _ (λ i l. sym (ap (λ p. hits n p (node_at (nodes_of rows) i)) (take_more steps k s h ∙ ap (λ x. take k steps ++ x ∷ []) (sym e)) ∙ hits-push n (take k steps) s (node_at (nodes_of rows) i) (any_rises (nodes_of rows) (are_nodes rows) i)))

-- the node alone
pub alone : (rows : List Row) (n : ℕ) → IsNested rows → n ≤ length rows → n ∷ [] ≡ members (hits (serial_of (node_at (nodes_of rows) n)) []) rows
alone rows n nested le =
    let f : Node → Bool = hits (serial_of (node_at (nodes_of rows) n)) [] in
    let other : (k : ℕ) → (k ≡ n → ⊥) → k ≤ length rows → f (node_at (nodes_of rows) k) ≡ false = λ k apart h. rw (number rows nested n le, number rows nested k h) (ne_eqb k n apart) in
    sym (rest_skip rows nested f 0 n (omega arith) (λ k a b c. other k (λ e. omega arith) c)
    ∙ (rest_at rows nested f n true le (eq-eqb _ _ refl) ∙ ap (λ l. n ∷ l) (rest_none rows nested f (suc n) (λ k a c. other k (λ e. omega arith) c))))

by_numbers : (rows : List Row) (nested : IsNested rows) (h : Node → Bool) (d i : ℕ) → i + d ≡ suc (length rows) → map (node_at (nodes_of rows)) (rest rows h i) ≡ filter h (drop i (nodes_of rows))
by_numbers rows nested h zero i e =
    let z : length (nodes_of rows) ≤ i = omega (arith, length-nodes_of rows) in
    ap (λ l. map (node_at (nodes_of rows)) (map serial_of (filter h l))) (drop_all i (nodes_of rows) z) ∙ sym (ap (filter h) (drop_all i (nodes_of rows) z))
by_numbers rows nested h (suc d) i e =
    let le : i ≤ length rows = omega arith in
    ap (map (node_at (nodes_of rows))) (rest_on rows nested h i le) ∙ (go (h (node_at (nodes_of rows) i)) (by_numbers rows nested h d (suc i) (omega arith)) ∙ sym (ap (filter h) (drop_on rows nested i le)))
  where
    go : (b : Bool) → map (node_at (nodes_of rows)) (rest rows h (suc i)) ≡ filter h (drop (suc i) (nodes_of rows))
        → map (node_at (nodes_of rows)) (cond b (i ∷ rest rows h (suc i)) (rest rows h (suc i))) ≡ cond b (node_at (nodes_of rows) i ∷ filter h (drop (suc i) (nodes_of rows))) (filter h (drop (suc i) (nodes_of rows)))
    go true r = ap (λ l. node_at (nodes_of rows) i ∷ l) r
    go false r = r

-- the nodes of the numbers
pub members_nodes : (rows : List Row) (h : Node → Bool) → IsNested rows → map (node_at (nodes_of rows)) (members h rows) ≡ filter h (nodes_of rows)
members_nodes rows h nested = by_numbers rows nested h (suc (length rows)) 0 (omega arith)
