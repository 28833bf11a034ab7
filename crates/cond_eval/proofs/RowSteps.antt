-- Steps from row to row are those from node to node.
use Rattle.std.proofs.Common.{◌≡◌, ℕ, zero, suc, ◌<◌, ◌≤◌, Bool, true, false, cond, List, [], ◌∷◌, refl, sym, ◌∙◌, ap, subst, inl, inr, arith, eqb, ltb}
use Rattle.std.specs.List.{filter}
use Rattle.std.proofs.lemmas.Bool.{or_cases, or_right, and_parts, and_from, false≢true, eqb-true, eq-eqb, lt-ltb, ltb-true}
use Rattle.gcx_base.specs.declared.kind.Kind.{Kind}
use Rattle.gcx_base.specs.declared.steps.Axis.{Axis}
use Rattle.gcx_base.specs.declared.steps.Axis.TheVariants.{Child, Descendant}
use Rattle.gcx_base.specs.declared.steps.Step.{Step}
use Rattle.gcx_model.specs.Tree.{Node, Root, Under, serial_of, kind_of, within, Tree}
use Rattle.gcx_base.specs.Tests.{passes}
use Rattle.gcx_model.specs.Paths.{lies, reach, hits, matches}
use Rattle.gcx_model.specs.Points.{later}
use Rattle.base_laws.proofs.Members.{none_in, filter_all}
use Rattle.move_laws.specs.Kept.{only}
use Rattle.tree_laws.proofs.Lists.{In, In-filter, In-kept}
use Rattle.tree_laws.proofs.Matches.{Rising, Rising-filter}
use Rattle.tree_laws.proofs.Chains.{hits_one, hits_one_from}
use Rattle.tree_laws.proofs.Freeze.{within_self}
use Rattle.tree_laws.proofs.Departures.{rising_filter}
use Rattle.move_laws.proofs.Keeping.{matches_kept, later_kept}
use Rattle.buf_tree.specs.Shape.{Cell, num}
use Rattle.buf_tree.specs.Match.{IsChild, DescendsFrom, Lies, Reached, Unreached, FirstReached, IsFrom}
use Rattle.cond_eval.specs.Asking.{RowsOf}
use Rattle.cond_eval.specs.Reads.{NodeAt}
use Rattle.cond_eval.proofs.Rows.{OfNode, grown_tree, node_for, row_for, same_row, serial_told, kind_told, child_of, parent_for, node_at}

-- the nodes with a serial above this one
abbrev pub beyond : ℕ → List Node → List Node
beyond after ms = filter (λ m. ltb after (serial_of m)) ms

-- what the step reaches from the node with serial n among the nodes that are kept
abbrev pub kept_matches : Tree → (Node → Bool) → ℕ → Step → List Node
kept_matches P keep n s = matches (only keep P) n (s ∷ [])

-- ---- lists

-- the least of rising nodes is their first
pub least_first : (xs : List Node) (m : Node) → Rising xs → In m xs → ((j : Node) → In j xs → serial_of m ≤ serial_of j) → (rest : List Node) × (xs ≡ m ∷ rest)
least_first [] m r i l = absurd i
least_first (x ∷ xs) m r (inl e) l = (xs, ap (λ z. z ∷ xs) e)
least_first (x ∷ xs) m r (inr i) l = let a = r.0 m i in let b = l x (inl refl) in absurd (omega arith)

module _ (rows : List Cell) (P : Tree) (keep : Node → Bool) (of : RowsOf rows P keep) where
  -- ---- one step

  rises_to : (k : ℕ) (c d : Cell) (n m : Node) → OfNode P keep c n → OfNode P keep d m → DescendsFrom rows k c d → lies Descendant (serial_of n) m ≡ true
  rises_to zero c d n m o u r =
      let p = child_of rows P keep of c d n m o u r in
      subst (λ (x : Node). lies Descendant (serial_of n) x ≡ true) (sym p.2) (within_self (serial_of n) n (eq-eqb _ _ refl))
  rises_to (suc k) c d n m o u r =
      let q = node_for rows P keep of r.0 r.1 in
      let p = child_of rows P keep of r.0 d q.0 m q.1 u r.2 in
      subst (λ (x : Node). lies Descendant (serial_of n) x ≡ true) (sym p.2) (below q.0 (rises_to k c r.0 n q.0 o q.1 r.3))
    where
      below : (q : Node) → lies Descendant (serial_of n) q ≡ true → within (serial_of n) q ≡ true
      below Root h = absurd (false≢true h)
      below (Under p s w) h = or_right (eqb s (serial_of n)) (within (serial_of n) p) h

  rises_from : (p : Node) (s : ℕ) (w : Kind) (c d : Cell) (n : Node) → In c rows → In d rows → OfNode P keep c n → OfNode P keep d (Under p s w) → within (serial_of n) p ≡ true → (k : ℕ) × DescendsFrom rows k c d
  rises_from Root s w c d n i j o u h =
      let e = parent_for rows P keep of d Root s w j u in
      let is : serial_of n ≡ 0 = sym (eqb-true 0 (serial_of n) h) in
      let same = same_row rows P keep of e.0 c e.1 i (serial_told rows P keep of e.0 Root e.2 ∙ sym is ∙ sym (serial_told rows P keep of c n o)) in
      (0, subst (λ (x : Cell). IsChild x d) same e.3)
  rises_from (Under q t v) s w c d n i j o u h =
      let e = parent_for rows P keep of d (Under q t v) s w j u in
      elim (or_cases (eqb t (serial_of n)) (within (serial_of n) q) h) [
        | inl f ↦ (
            let is : t ≡ serial_of n = eqb-true t (serial_of n) f in
            let same = same_row rows P keep of e.0 c e.1 i (serial_told rows P keep of e.0 (Under q t v) e.2 ∙ is ∙ sym (serial_told rows P keep of c n o)) in
            (0, subst (λ (x : Cell). IsChild x d) same e.3))
        | inr f ↦ (let r = rises_from q t v c e.0 n i e.1 o e.2 f in (suc r.0, (e.0, e.1, e.3, r.1)))
      ]

  pub lies_to : (a : Axis) (c d : Cell) (n m : Node) → OfNode P keep c n → OfNode P keep d m → Lies rows a c d → lies a (serial_of n) m ≡ true
  lies_to Child c d n m o u l =
      let p = child_of rows P keep of c d n m o u l in
      subst (λ (x : Node). lies Child (serial_of n) x ≡ true) (sym p.2) (eq-eqb _ _ refl)
  lies_to Descendant c d n m o u l = rises_to l.0 c d n m o u l.1

  pub lies_from : (a : Axis) (c d : Cell) (n m : Node) → In c rows → In d rows → OfNode P keep c n → OfNode P keep d m → lies a (serial_of n) m ≡ true → Lies rows a c d
  lies_from Child c d n Root i j o u l = absurd (false≢true l)
  lies_from Descendant c d n Root i j o u l = absurd (false≢true l)
  lies_from Child c d n (Under p s w) i j o u l =
      let e = parent_for rows P keep of d p s w j u in
      let is : serial_of p ≡ serial_of n = eqb-true _ _ l in
      let same = same_row rows P keep of e.0 c e.1 i (serial_told rows P keep of e.0 p e.2 ∙ is ∙ sym (serial_told rows P keep of c n o)) in
      subst (λ (x : Cell). IsChild x d) same e.3
  lies_from Descendant c d n (Under p s w) i j o u l = rises_from p s w c d n i j o u l

  -- a row that is reached has a node that is
  pub reached_to : (c d : Cell) (n : Node) (s : Step) (after : ℕ) → OfNode P keep c n → Reached rows c s after d → (m : Node) × OfNode P keep d m × (reach (serial_of n) s m ≡ true) × (after < serial_of m)
  reached_to c d n s after o r =
      let m = node_for rows P keep of d r.among in
      let e = serial_told rows P keep of d m.0 m.1 in
      let l = r.behind in
      let test : passes s.test (kind_of m.0) ≡ true = subst (λ (k : Kind). passes s.test k ≡ true) (kind_told rows P keep of d m.0 m.1) r.passed in
      (m.0, m.1, and_from _ _ test (lies_to s.axis c d n m.0 o m.1 r.axis), omega arith)

  -- and the row of a node that is reached is
  pub reached_from : (c d : Cell) (n m : Node) (s : Step) (after : ℕ) → In c rows → In d rows → OfNode P keep c n → OfNode P keep d m → reach (serial_of n) s m ≡ true → after < serial_of m → Reached rows c s after d
  reached_from c d n m s after i j o u r l =
      let a = and_parts (passes s.test (kind_of m)) (lies s.axis (serial_of n) m) r in
      let e = serial_told rows P keep of d m u in
      record {
        among = j;
        axis = lies_from s.axis c d n m i j o u a.1;
        passed = subst (λ (k : Kind). passes s.test k ≡ true) (sym (kind_told rows P keep of d m u)) a.0;
        behind = omega arith;
      }

  -- ---- matches

  pub match_in : (n : ℕ) (s : Step) (m : Node) → In m (kept_matches P keep n s) → In m P.nodes × (keep m ≡ true) × (reach n s m ≡ true)
  match_in n s m i =
      let h = In-filter (hits n (s ∷ [])) m (filter keep P.nodes) i in
      let k = In-filter keep m P.nodes h.0 in
      (k.0, k.1, hits_one P (grown_tree rows P keep of) n s m k.0 h.1)

  pub match_from : (n : ℕ) (s : Step) (m : Node) → In m P.nodes → keep m ≡ true → reach n s m ≡ true → In m (kept_matches P keep n s)
  match_from n s m i k r = In-kept (hits n (s ∷ [])) m (filter keep P.nodes) (In-kept keep m P.nodes i k) (hits_one_from P (grown_tree rows P keep of) n s m r)

  within_high : (n : ℕ) (m : Node) → In m P.nodes → within n m ≡ true → n ≤ serial_of m
  within_high n Root i h = let e = eqb-true 0 n h in omega arith
  within_high n (Under p s w) i h = elim (or_cases (eqb s n) (within n p) h) [
    | inl e ↦ (let f = eqb-true s n e in omega arith)
    | inr e ↦ (
        let up = (grown_tree rows P keep of).upward p s w i in
        let f = within_high n p up e in
        let g = (grown_tree rows P keep of).below p s w i in
        omega arith)
  ]

  lies_high : (a : Axis) (n : ℕ) (m : Node) → In m P.nodes → lies a n m ≡ true → n < serial_of m
  lies_high Child n Root i l = absurd (false≢true l)
  lies_high Descendant n Root i l = absurd (false≢true l)
  lies_high Child n (Under p s w) i l = let e = eqb-true (serial_of p) n l in let g = (grown_tree rows P keep of).below p s w i in omega arith
  lies_high Descendant n (Under p s w) i l =
      let e = within_high n p ((grown_tree rows P keep of).upward p s w i) l in
      let g = (grown_tree rows P keep of).below p s w i in
      omega arith

  -- a match has a greater serial than the node from which it is reached
  pub match_high : (n : ℕ) (m : Node) (s : Step) → In m P.nodes → reach n s m ≡ true → n < serial_of m
  match_high n m s i r = lies_high s.axis n m i (and_parts (passes s.test (kind_of m)) (lies s.axis n m) r).1

  -- ---- searches

  beyond_rising : (after n : ℕ) (s : Step) → Rising (beyond after (kept_matches P keep n s))
  beyond_rising after n s = rising_filter (λ m. ltb after (serial_of m)) _ (rising_filter (hits n (s ∷ [])) _ (Rising-filter 0 keep P.nodes (grown_tree rows P keep of).numbered))

  -- a match that is kept is the node of a row that is reached
  beyond_row : (c : Cell) (n : Node) (s : Step) (after : ℕ) → In c rows → OfNode P keep c n → (m : Node) → In m (beyond after (kept_matches P keep (serial_of n) s)) → (d : Cell) × OfNode P keep d m × Reached rows c s after d
  beyond_row c n s after i o m j =
      let b = In-filter (λ (x : Node). ltb after (serial_of x)) m (kept_matches P keep (serial_of n) s) j in
      let k = match_in (serial_of n) s m b.0 in
      let d = row_for rows P keep of m k.0 k.1 in
      (d.0, d.2, reached_from c d.0 n m s after i d.1 o d.2 k.2 (ltb-true after (serial_of m) b.1))

  -- a search finds the first match with a serial above `after`,
  pub found : (c : Cell) (n : Node) (s : Step) (after p : ℕ) → In c rows → OfNode P keep c n → FirstReached rows c s after p
      → (m : Node) × (rest : List Node) × (beyond after (kept_matches P keep (serial_of n) s) ≡ m ∷ rest) × NodeAt rows P keep p m
  found c n s after p i o f =
      let m = reached_to c f.cell n s after o f.reached in
      let here = In-kept (λ (x : Node). ltb after (serial_of x)) m.0 (kept_matches P keep (serial_of n) s) (match_from (serial_of n) s m.0 m.1.among m.1.kept m.2) (lt-ltb after (serial_of m.0) m.3) in
      let first = least_first _ m.0 (beyond_rising after (serial_of n) s) here (λ j k.
      let d = beyond_row c n s after i o j k in
      let l = f.least d.0 d.2 in
      let x = serial_told rows P keep of d.0 j d.1 in
      let y = serial_told rows P keep of f.cell m.0 m.1 in
      omega arith) in
      (m.0, first.0, first.1, subst (λ q. NodeAt rows P keep q m.0) f.place (node_at rows P keep of f.cell m.0 f.reached.among m.1))

  -- or there is none
  pub not_found : (c : Cell) (n : Node) (s : Step) (after : ℕ) → In c rows → OfNode P keep c n → Unreached rows c s after → beyond after (kept_matches P keep (serial_of n) s) ≡ []
  not_found c n s after i o u = none_in _ (λ m j. let d = beyond_row c n s after i o m j in u.none d.0 d.2)

  -- above the node itself are all its matches
  pub all_beyond : (n : ℕ) (s : Step) → beyond n (kept_matches P keep n s) ≡ kept_matches P keep n s
  all_beyond n s = filter_all (λ (m : Node). ltb n (serial_of m)) (kept_matches P keep n s) (λ m i. let k = match_in n s m i in lt-ltb n (serial_of m) (match_high n m s k.0 k.2))

  -- Where all matches are kept, a search behind the node itself tells the first one, or that there is none,
  pub first_found : (c : Cell) (n : Node) (s : Step) (p : ℕ) → In c rows → OfNode P keep c n → ((m : Node) → In m (matches P (serial_of n) (s ∷ [])) → keep m ≡ true) → FirstReached rows c s (num c) p
      → (m : Node) × (rest : List Node) × (matches P (serial_of n) (s ∷ []) ≡ m ∷ rest) × NodeAt rows P keep p m
  first_found c n s p i o k f =
      let h = found c n s (num c) p i o f in
      let e : num c ≡ serial_of n = serial_told rows P keep of c n o in
      let same = sym (matches_kept P keep (serial_of n) (s ∷ []) k) ∙ (sym (all_beyond (serial_of n) s) ∙ ap (λ a. beyond a (kept_matches P keep (serial_of n) s)) (sym e)) in
      (h.0, h.1, same ∙ h.2, h.3)

  pub none_found : (c : Cell) (n : Node) (s : Step) → In c rows → OfNode P keep c n → ((m : Node) → In m (matches P (serial_of n) (s ∷ [])) → keep m ≡ true) → Unreached rows c s (num c) → matches P (serial_of n) (s ∷ []) ≡ []
  none_found c n s i o k u =
      let e : num c ≡ serial_of n = serial_told rows P keep of c n o in
      sym (matches_kept P keep (serial_of n) (s ∷ []) k) ∙ (sym (all_beyond (serial_of n) s) ∙ (ap (λ a. beyond a (kept_matches P keep (serial_of n) s)) (sym e) ∙ not_found c n s (num c) i o u))

  -- and where those behind a node are kept, a search behind it the next one.
  pub later_found : (c : Cell) (n present : Node) (s : Step) (after p : ℕ) → In c rows → OfNode P keep c n → after ≡ serial_of present → ((m : Node) → In m (later present (matches P (serial_of n) (s ∷ []))) → keep m ≡ true) → FirstReached rows c s after p
      → (m : Node) × (rest : List Node) × (later present (matches P (serial_of n) (s ∷ [])) ≡ m ∷ rest) × NodeAt rows P keep p m
  later_found c n present s after p i o e k f =
      let h = found c n s after p i o f in
      (h.0, h.1, sym (later_kept P keep (serial_of n) (s ∷ []) present k) ∙ (ap (λ a. beyond a (kept_matches P keep (serial_of n) s)) (sym e) ∙ h.2), h.3)

  pub none_later : (c : Cell) (n present : Node) (s : Step) (after : ℕ) → In c rows → OfNode P keep c n → after ≡ serial_of present → ((m : Node) → In m (later present (matches P (serial_of n) (s ∷ []))) → keep m ≡ true) → Unreached rows c s after → later present (matches P (serial_of n) (s ∷ [])) ≡ []
  none_later c n present s after i o e k u = sym (later_kept P keep (serial_of n) (s ∷ []) present k) ∙ (ap (λ a. beyond a (kept_matches P keep (serial_of n) s)) (sym e) ∙ not_found c n s after i o u)

  -- the same with any serial up to which there is no match behind the present one
  skipped : (n present : Node) (s : Step) (after : ℕ) → ((m : Node) → In m (later present (matches P (serial_of n) (s ∷ []))) → (keep m ≡ true) × (after < serial_of m)) → serial_of present ≤ after
      → later present (matches P (serial_of n) (s ∷ [])) ≡ beyond after (kept_matches P keep (serial_of n) s)
  skipped n present s after k l =
      let same = later_kept P keep (serial_of n) (s ∷ []) present (λ m i. (k m i).0) in
      sym same ∙ by_test (kept_matches P keep (serial_of n) s) (λ m i. (k m (subst (λ (ms : List Node). In m ms) same i)).1)
    where
      by_test : (ms : List Node) → ((m : Node) → In m (later present ms) → after < serial_of m) → later present ms ≡ beyond after ms
      by_test [] h = refl
      by_test (m ∷ ms) h = go (ltb (serial_of present) (serial_of m)) (ltb after (serial_of m)) refl refl h (by_test ms)
        where
          go : (a b : Bool) → ltb (serial_of present) (serial_of m) ≡ a → ltb after (serial_of m) ≡ b → ((j : Node) → In j (cond a (m ∷ later present ms) (later present ms)) → after < serial_of j)
              → (((j : Node) → In j (later present ms) → after < serial_of j) → later present ms ≡ beyond after ms) → cond a (m ∷ later present ms) (later present ms) ≡ cond b (m ∷ beyond after ms) (beyond after ms)
          go true true e f h ih = ap (λ z. m ∷ z) (ih (λ j i. h j (inr i)))
          go true false e f h ih = absurd (false≢true (sym f ∙ lt-ltb after (serial_of m) (h m (inl refl))))
          go false true e f h ih = let x = ltb-true after (serial_of m) f in absurd (false≢true (sym e ∙ lt-ltb (serial_of present) (serial_of m) (omega arith)))
          go false false e f h ih = ih h

  pub seen_found : (c : Cell) (n present : Node) (s : Step) (after p : ℕ) → In c rows → OfNode P keep c n
      → ((m : Node) → In m (later present (matches P (serial_of n) (s ∷ []))) → (keep m ≡ true) × (after < serial_of m)) → serial_of present ≤ after → FirstReached rows c s after p
      → (m : Node) × (rest : List Node) × (later present (matches P (serial_of n) (s ∷ [])) ≡ m ∷ rest) × NodeAt rows P keep p m
  seen_found c n present s after p i o k l f = let h = found c n s after p i o f in (h.0, h.1, skipped n present s after k l ∙ h.2, h.3)

  pub none_seen : (c : Cell) (n present : Node) (s : Step) (after : ℕ) → In c rows → OfNode P keep c n
      → ((m : Node) → In m (later present (matches P (serial_of n) (s ∷ []))) → (keep m ≡ true) × (after < serial_of m)) → serial_of present ≤ after → Unreached rows c s after → later present (matches P (serial_of n) (s ∷ [])) ≡ []
  none_seen c n present s after i o k l u = skipped n present s after k l ∙ not_found c n s after i o u

  -- from where a search may go on: the node itself, or one of its matches
  pub from_match : (c d : Cell) (n m : Node) (s : Step) → In c rows → In d rows → OfNode P keep c n → OfNode P keep d m → reach (serial_of n) s m ≡ true → IsFrom rows s.axis c d
  from_match c d n m s i j o u r = inr (lies_from s.axis c d n m i j o u (and_parts (passes s.test (kind_of m)) (lies s.axis (serial_of n) m) r).1)
