-- What isn't held stays so: what the buffer drops is never needed again.
use Rattle.std.proofs.Common.{◌≡◌, ℕ, ◌<◌, ◌≤◌, Bool, true, false, cond, not, ◌&&◌, ◌||◌, List, [], ◌∷◌, ◌++◌, length, refl, sym, ◌∙◌, ap, subst, inl, inr, ◌⊎◌, arith, Some, None, Option}
use Rattle.std.specs.List.{filter}
use Rattle.std.proofs.lemmas.Bool.{or_cases, or_left, or_right, or_from, and_parts, and_from, true≢false, false≢true, ne_eqb, not-true, false_from_ne_true, cases_Bool}
use Rattle.std.proofs.Math.Bool.{or-false}
use Rattle.gcx_model.specs.Tree.{Node, Root, Under, serial_of, above, within, Tree, TreeToken, Start, Chars, End, grow, is_open_at}
use Rattle.gcx_model.specs.Paths.{any, all, hits, matches, first, head}
use Rattle.gcx_base.specs.declared.steps.Step.{Step}
use Rattle.gcx_model.specs.Core.{RoleTarget, Own, First, Whole, OffTree, RoleRowTree}
use Rattle.gcx_model.specs.Run.{Action}
use Rattle.tree_laws.proofs.Reading.{Reading, given, signed, taken, live_some, is_live, is_held, held}
use Rattle.gcx_model.specs.Held.{is_node, gives}
use Rattle.tree_laws.proofs.Lists.{In, In-append, In-filter, In-kept, any_in, any_from}
use Rattle.tree_laws.proofs.Matches.{Grown, Numbered-high, added, added_at, Matches-grow, Matches-in, grow_nodes}
use Rattle.tree_laws.proofs.Freeze.{stays_closed, closed_added, hits_within}
use Rattle.tree_laws.proofs.Chains.{above_in}

pub any-append : {X : Type 0} (p : X → Bool) (xs ys : List X) → any p (xs ++ ys) ≡ (any p xs || any p ys)
any-append p [] ys = refl
any-append p (x ∷ xs) ys = ap (λ z. p x || z) (any-append p xs ys) ∙ or-assoc (p x) (any p xs) (any p ys)
  where
    or-assoc : (a b c : Bool) → (a || (b || c)) ≡ ((a || b) || c)
    or-assoc true b c = refl
    or-assoc false b c = refl

pub any_none : {X : Type 0} (p : X → Bool) (xs : List X) → ((x : X) → In x xs → p x ≡ false) → any p xs ≡ false
any_none p [] h = refl
any_none p (x ∷ xs) h = rw (h x (inl refl)) (any_none p xs (λ y i. h y (inr i)))

pub any_same : {X : Type 0} (p q : X → Bool) (xs : List X) → ((x : X) → In x xs → p x ≡ q x) → any p xs ≡ any q xs
any_same p q [] h = refl
any_same p q (x ∷ xs) h = rw (h x (inl refl), any_same p q xs (λ y i. h y (inr i))) refl

pub all_in : {X : Type 0} (p : X → Bool) (xs : List X) → all p xs ≡ true → (x : X) → In x xs → p x ≡ true
all_in p [] h x i = absurd i
all_in p (y ∷ ys) h x (inl e) = ap p (sym e) ∙ (and_parts (p y) (all p ys) h).0
all_in p (y ∷ ys) h x (inr i) = all_in p ys (and_parts (p y) (all p ys) h).1 x i

pub all_from : {X : Type 0} (p : X → Bool) (xs : List X) → ((x : X) → In x xs → p x ≡ true) → all p xs ≡ true
all_from p [] h = refl
all_from p (y ∷ ys) h = and_from _ _ (h y (inl refl)) (all_from p ys (λ x i. h x (inr i)))

module _ (t : TreeToken) (P : Tree) (w : Grown P) where
  -- a new node has the next number
  pub new_serial : (j : Node) → In j (added t P) → serial_of j ≡ length P.nodes
  new_serial j i = go P.at t i
    where
      go : (at : Option Node) (t : TreeToken) → In j (added_at at t P) → serial_of j ≡ length P.nodes
      go None t i = absurd i
      go (Some p) (Start name) (inl e) = ap serial_of (sym e)
      go (Some p) (Start name) (inr i) = absurd i
      go (Some p) (Chars b) (inl e) = ap serial_of (sym e)
      go (Some p) (Chars b) (inr i) = absurd i
      go (Some p) End i = absurd i

  old : (n : Node) → In n P.nodes → serial_of n < length P.nodes
  old n i = let r = Numbered-high 0 P.nodes w.numbered n i in omega arith

  -- no old node lies within a new one
  not_in_new : (k : ℕ) (n : Node) → In n P.nodes → length P.nodes ≤ k → within k n ≡ false
  not_in_new k Root i l = ne_eqb 0 k (λ e. let r = old Root i in absurd (omega arith))
  not_in_new k (Under p s kd) i l = or_from _ _ (ne_eqb s k (λ e. let r = old (Under p s kd) i in absurd (omega arith))) (not_in_new k p (w.upward p s kd i) l)

  no_hits_new : (k : ℕ) (path : List Step) (n : Node) → In n P.nodes → length P.nodes ≤ k → hits k path n ≡ false
  no_hits_new k path n i l = false_from_ne_true _ (λ e. false≢true (sym (not_in_new k n i l) ∙ hits_within k path n e))

  first_old : (n : Node) (k : ℕ) (tail : List Step) → In n P.nodes → is_node (serial_of n) (first (grow t P) k tail) ≡ is_node (serial_of n) (first P k tail)
  first_old n k tail i = ap (λ xs. is_node (serial_of n) (head xs)) (Matches-grow t P k tail) ∙ go (matches P k tail) (filter (hits k tail) (added t P)) (λ x j. new_serial x (In-filter (hits k tail) x (added t P) j).0)
    where
      go : (xs ys : List Node) → ((x : Node) → In x ys → serial_of x ≡ length P.nodes) → is_node (serial_of n) (head (xs ++ ys)) ≡ is_node (serial_of n) (head xs)
      go [] [] h = refl
      go [] (y ∷ ys) h = ne_eqb (serial_of y) (serial_of n) (λ e. let r = old n i in let q = h y (inl refl) in absurd (omega arith))
      go (x ∷ xs) ys h = refl

  first_new : (n : Node) (k : ℕ) (tail : List Step) → In n P.nodes → length P.nodes ≤ k → is_node (serial_of n) (first (grow t P) k tail) ≡ false
  first_new n k tail i l = first_old n k tail i ∙ false_from_ne_true _ (λ e. go (matches P k tail) (λ x j. j) e)
    where
      go : (xs : List Node) → ((x : Node) → In x xs → In x (matches P k tail)) → is_node (serial_of n) (head xs) ≡ true → ⊥
      go [] h e = false≢true e
      go (x ∷ xs) h e =
          let q = Matches-in P k tail x (h x (inl refl)) in
          false≢true (sym (no_hits_new k tail x q.0 l) ∙ q.1)

  -- the way in which a node is given a role is final
  pub gives_same : (m : ℕ) (rel tail : List Step) (k : RoleTarget) (n : Node) → In n P.nodes → gives (grow t P) m rel tail k n ≡ gives P m rel tail k n
  gives_same m rel tail Own n i = refl
  gives_same m rel tail Whole n i = refl
  gives_same m rel tail First n i =
      ap (any (λ j. is_node (serial_of n) (first (grow t P) (serial_of j) tail))) (Matches-grow t P m rel)
      ∙ (any-append (λ (j : Node). is_node (serial_of n) (first (grow t P) (serial_of j) tail)) (matches P m rel) (filter (hits m rel) (added t P))
      ∙ (ap (λ z. any (λ j. is_node (serial_of n) (first (grow t P) (serial_of j) tail)) (matches P m rel) || z)
      (any_none (λ (j : Node). is_node (serial_of n) (first (grow t P) (serial_of j) tail)) (filter (hits m rel) (added t P))
      (λ j q. let e = new_serial j (In-filter (hits m rel) j (added t P) q).0 in first_new n (serial_of j) tail i (omega arith)))
      ∙ (or-false _
      ∙ any_same (λ (j : Node). is_node (serial_of n) (first (grow t P) (serial_of j) tail)) (λ (j : Node). is_node (serial_of n) (first P (serial_of j) tail)) (matches P m rel) (λ j q. first_old n (serial_of j) tail i))))

  pub gives_new : (m : ℕ) (rel tail : List Step) (k : RoleTarget) (n : Node) → In n P.nodes → length P.nodes ≤ m → gives (grow t P) m rel tail k n ≡ false
  gives_new m rel tail Own n i l = no_hits_new m rel n i l
  gives_new m rel tail Whole n i l = any_none (hits m (rel ++ tail)) (above n) (λ j q. no_hits_new m (rel ++ tail) j (above_in P w n j i q) l)
  gives_new m rel tail First n i l = gives_same m rel tail First n i ∙ any_none (λ (j : Node). is_node (serial_of n) (first P (serial_of j) tail)) (matches P m rel) (λ j q.
      let r = Matches-in P m rel j q in absurd (false≢true (sym (no_hits_new m rel j r.0 l) ∙ r.1)))

  signed_stays : (A : List Action) (o : OffTree) (m : Node) → In m P.nodes → signed P A o m ≡ true → signed (grow t P) A o m ≡ true
  signed_stays A o m i h = h

  -- what is taken stays taken
  pub taken_stays : (p : Reading) (A : List Action) (n : Node) (r : RoleRowTree) (o : OffTree) → In n P.nodes → taken p P A n r o ≡ true → taken p (grow t P) A n r o ≡ true
  taken_stays p A n r o i h =
      let base : List Step = p.paths o.base in
      let a = and_parts (given p P n r) (all (λ m. not (gives P (serial_of m) o.rel o.tail o.kind n) || signed P A o m) (matches P 0 base)) h in
      and_from _ _ (gives_same 0 (p.paths r.var) r.tail r.kind n i ∙ a.0)
      (all_from (λ (m : Node). not (gives (grow t P) (serial_of m) o.rel o.tail o.kind n) || signed (grow t P) A o m) (matches (grow t P) 0 base)
      (λ m q. elim (In-append m P.nodes (added t P) (subst (λ (z : List Node). In m z) (grow_nodes t P) (Matches-in (grow t P) 0 base m q).0)) [
        | inl j ↦ (
            let hit = (Matches-in (grow t P) 0 base m q).1 in
            let b = all_in (λ (m : Node). not (gives P (serial_of m) o.rel o.tail o.kind n) || signed P A o m) (matches P 0 base) a.1 m (In-kept (hits 0 base) m P.nodes j hit) in
            elim (or_cases (not (gives P (serial_of m) o.rel o.tail o.kind n)) (signed P A o m) b) [
              | inl c ↦ or_left _ _ (ap not (gives_same (serial_of m) o.rel o.tail o.kind n i) ∙ c)
              | inr c ↦ or_right _ _ (signed_stays A o m j c)
            ])
        | inr j ↦ (let e = new_serial m j in or_left _ _ (ap not (gives_new (serial_of m) o.rel o.tail o.kind n i (omega arith))))
      ]))

  live_back : (p : Reading) (A : List Action) (n : Node) → In n P.nodes → (rs : List RoleRowTree) (os : List OffTree) → live_some p (grow t P) A n rs os ≡ true → live_some p P A n rs os ≡ true
  live_back p A n i [] os h = h
  live_back p A n i (r ∷ rs) [] h = h
  live_back p A n i (r ∷ rs) (o ∷ os) h = elim (or_cases (given p (grow t P) n r && not (taken p (grow t P) A n r o)) (live_some p (grow t P) A n rs os) h) [
    | inl k ↦ (
        let a = and_parts (given p (grow t P) n r) (not (taken p (grow t P) A n r o)) k in
        or_left _ _ (and_from _ _ (sym (gives_same 0 (p.paths r.var) r.tail r.kind n i) ∙ a.0)
        (ap not (false_from_ne_true (taken p P A n r o) (λ e. false≢true (sym (not-true _ a.1) ∙ taken_stays p A n r o i e))))))
    | inr k ↦ or_right _ _ (live_back p A n i rs os k)
  ]

  -- an old node that is held after the token was held before it
  pub held_back : (p : Reading) (A : List Action) (n : Node) → In n P.nodes → is_held p (grow t P) A n ≡ true → is_held p P A n ≡ true
  held_back p A n i h = elim (or_cases (is_open_at (grow t P).at (serial_of n)) (any (λ m. within (serial_of n) m && is_live p (grow t P) A m) (grow t P).nodes) h) [
    | inl o ↦ or_left _ _ (was_open (cases_Bool (is_open_at P.at (serial_of n))) o)
    | inr l ↦ (
        let r = any_in (λ (m : Node). within (serial_of n) m && is_live p (grow t P) A m) (grow t P).nodes l in
        let a = and_parts (within (serial_of n) r.0) (is_live p (grow t P) A r.0) r.2 in
        elim (In-append r.0 P.nodes (added t P) (subst (λ (z : List Node). In r.0 z) (grow_nodes t P) r.1)) [
          | inl j ↦ or_right _ _ (any_from (λ (m : Node). within (serial_of n) m && is_live p P A m) r.0 P.nodes j (and_from _ _ a.0 (live_back p A r.0 j p.roles p.offs a.1)))
          | inr j ↦ or_left _ _ (by_new r.0 j a.0 (cases_Bool (is_open_at P.at (serial_of n))))
        ])
  ]
    where
      was_open : (is_open_at P.at (serial_of n) ≡ true) ⊎ (is_open_at P.at (serial_of n) ≡ false) → is_open_at (grow t P).at (serial_of n) ≡ true → is_open_at P.at (serial_of n) ≡ true
      was_open (inl e) o = e
      was_open (inr e) o = absurd (true≢false (sym o ∙ not-true _ (stays_closed t P n (old n i) (ap not e))))

      by_new : (m : Node) → In m (added t P) → within (serial_of n) m ≡ true → (is_open_at P.at (serial_of n) ≡ true) ⊎ (is_open_at P.at (serial_of n) ≡ false) → is_open_at P.at (serial_of n) ≡ true
      by_new m j h (inl e) = e
      by_new m j h (inr e) = absurd (true≢false (sym h ∙ closed_added t P n (old n i) (ap not e) m j))

  -- so the rows after a token come from those before it and the new one
  pub held_feed : (p : Reading) (A : List Action) → held p (grow t P) A ≡ filter (is_held p (grow t P) A) (held p P A ++ added t P)
  held_feed p A = ap (filter (is_held p (grow t P) A)) (grow_nodes t P) ∙ go P.nodes (λ x i. i)
    where
      go : (xs : List Node) → ((x : Node) → In x xs → In x P.nodes) → filter (is_held p (grow t P) A) (xs ++ added t P) ≡ filter (is_held p (grow t P) A) (filter (is_held p P A) xs ++ added t P)
      go [] h = refl
      go (x ∷ xs) h = step (is_held p (grow t P) A x) (is_held p P A x) refl refl (go xs (λ y i. h y (inr i)))
        where
          step : (b c : Bool) → is_held p (grow t P) A x ≡ b → is_held p P A x ≡ c → filter (is_held p (grow t P) A) (xs ++ added t P) ≡ filter (is_held p (grow t P) A) (filter (is_held p P A) xs ++ added t P) → cond b (x ∷ filter (is_held p (grow t P) A) (xs ++ added t P)) (filter (is_held p (grow t P) A) (xs ++ added t P)) ≡ filter (is_held p (grow t P) A) (cond c (x ∷ filter (is_held p P A) xs) (filter (is_held p P A) xs) ++ added t P)
          step true true e f i = rw e (ap (λ z. x ∷ z) i)
          step true false e f i = absurd (true≢false (sym (held_back p A x (h x (inl refl)) e) ∙ f))
          step false true e f i = rw e i
          step false false e f i = i
