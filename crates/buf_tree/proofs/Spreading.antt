-- The rows that contracts see, of those kept: what edits of the one make of the other.
use Rattle.std.proofs.Common.{◌≡◌, ℕ, ◌<◌, Bool, true, false, cond, not, ◌&&◌, ◌||◌, List, [], ◌∷◌, ◌++◌, map, refl, sym, ◌∙◌, ap, subst, inl, inr, ◌⊎◌, arith, eqb, append_assoc}
use Rattle.std.specs.Prelude.{◌↔◌}
use Rattle.std.specs.List.{filter}
use Rattle.std.specs.Ordering.{nat_cmp}
use Rattle.std.specs.Cmp.{nat_cmp_total, unsigned_tied}
use Rattle.std.specs.FinSet.{FinSet, empty, contains, retain, union, remove, len, same_set, empty_of_len, len-empty, contains-empty, contains-union, contains-retain, contains-remove, nat_cmp-IsAntisymmetric}
use Rattle.std.proofs.lemmas.List.{append-nil, map-append}
use Rattle.std.proofs.lemmas.Bool.{or_parts, and_parts, true≢false, false≢true, eqb-true, eqb-false, eq-eqb, ne_eqb, cases_Bool}
use Rattle.base_laws.proofs.Lists.{nil_cons}
use Rattle.base_laws.proofs.Members.{map_same}
use Rattle.tree_laws.proofs.Lists.{In, In-filter}
use Rattle.buf_tree.specs.Rows.{untaken, IsDead}
use Rattle.buf_tree.specs.Shape.{Cell, num, CellsRise, Above}
use Rattle.buf_tree.specs.Sweep.{taken_by}
use Rattle.buf_tree.specs.Spread.{roles_at, with_roles, with_above, is_covered}
use Rattle.buf_tree.specs.Recount.{uncovered, is_lost}

abbrev pub Roles : Type 0
Roles = FinSet nat_cmp

-- ---- sets

pub in_union : (s t : Roles) (q : ℕ) → contains (union s t) q ≡ (contains s q || contains t q)
in_union s t q = contains-union nat_cmp_total s t q

pub in_retain : (s : Roles) (p : ℕ → Bool) (q : ℕ) → contains (retain s p) q ≡ (contains s q && p q)
in_retain s p q = contains-retain s p q (λ x e. ap p (sym (nat_cmp-IsAntisymmetric q x e)))

pub in_remove : (s : Roles) (k q : ℕ) → contains (remove s k) q ≡ (not (eqb q k) && contains s q)
in_remove s k q = contains-remove nat_cmp_total s k q ∙ ap (λ b. not b && contains s q) (unsigned_tied q k)

pub same_roles : (s t : Roles) → ((q : ℕ) → contains s q ≡ contains t q) → s ≡ t
same_roles s t h = same_set nat_cmp_total nat_cmp-IsAntisymmetric s t h

pub retain_empty : (p : ℕ → Bool) → retain (empty {R = nat_cmp}) p ≡ empty
retain_empty p = same_roles (retain empty p) empty (λ q. in_retain empty p q ∙ ap (λ b. b && p q) (contains-empty nat_cmp q) ∙ sym (contains-empty nat_cmp q))

retain_twice : (s : Roles) (p : ℕ → Bool) → retain (retain s p) p ≡ retain s p
retain_twice s p = same_roles (retain (retain s p) p) (retain s p) (λ q. in_retain (retain s p) p q ∙ (ap (λ b. b && p q) (in_retain s p q) ∙ (twice (contains s q) (p q) ∙ sym (in_retain s p q))))
  where
    twice : (a b : Bool) → ((a && b) && b) ≡ (a && b)
    twice true true = refl
    twice true false = refl
    twice false b = refl

pub retained_in : (s : Roles) (p : ℕ → Bool) (k : ℕ) → retain s p ≡ s → p k ≡ false → contains s k ≡ false
retained_in s p k e f = ap (λ z. contains z k) (sym e) ∙ (in_retain s p k ∙ (ap (λ b. contains s k && b) f ∙ never (contains s k)))
  where
    never : (a : Bool) → (a && false) ≡ false
    never true = refl
    never false = refl

-- ---- rows by their serials

roles_left : (xs ys : List Cell) (k : ℕ) → In k (map num xs) → roles_at (xs ++ ys) k ≡ roles_at xs k
roles_left [] ys k i = absurd i
roles_left (x ∷ xs) ys k i = go (eqb (num x) k) refl i (roles_left xs ys k)
  where
    go : (b : Bool) → eqb (num x) k ≡ b → (num x ≡ k) ⊎ In k (map num xs) → (In k (map num xs) → roles_at (xs ++ ys) k ≡ roles_at xs k) → cond b x.row.roles (roles_at (xs ++ ys) k) ≡ cond b x.row.roles (roles_at xs k)
    go true e j ih = refl
    go false e (inl f) ih = absurd (false≢true (sym e ∙ eq-eqb (num x) k f))
    go false e (inr j) ih = ih j

pub roles_self : (xs : List Cell) → CellsRise xs → (c : Cell) → In c xs → roles_at xs (num c) ≡ c.row.roles
roles_self [] r c i = absurd i
roles_self (x ∷ xs) r c (inl e) = ap (λ b. cond b x.row.roles (roles_at xs (num c))) (eq-eqb (num x) (num c) (ap num e)) ∙ ap (λ (z : Cell). z.row.roles) e
roles_self (x ∷ xs) r c (inr j) =
    let l = r.0 c j in
    ap (λ b. cond b x.row.roles (roles_at xs (num c))) (ne_eqb (num x) (num c) (λ e. omega arith)) ∙ roles_self xs r.1 c j

map-map : {X Y Z : Type 0} (f : X → Y) (g : Y → Z) (xs : List X) → map g (map f xs) ≡ map (λ x. g (f x)) xs
map-map f g [] = refl
map-map f g (x ∷ xs) = ap (λ z. g (f x) ∷ z) (map-map f g xs)

filter_map_same : (q : Cell → Bool) (f : Cell → Cell) → ((c : Cell) → q (f c) ≡ q c) → (xs : List Cell) → filter q (map f xs) ≡ map f (filter q xs)
filter_map_same q f h [] = refl
filter_map_same q f h (x ∷ xs) = ap (λ b. cond b (f x ∷ filter q (map f xs)) (filter q (map f xs))) (h x) ∙ go (q x) (filter_map_same q f h xs)
  where
    go : (b : Bool) → filter q (map f xs) ≡ map f (filter q xs) → cond b (f x ∷ filter q (map f xs)) (filter q (map f xs)) ≡ map f (cond b (x ∷ filter q xs) (filter q xs))
    go true e = ap (λ z. f x ∷ z) e
    go false e = e

-- ---- each row's parent stands before it

-- the row is the document node's, and the first one, or its parent has one of these serials
abbrev pub NextUp : List ℕ → Cell → Type 0
NextUp before c = ((num c ≡ 0) × (before ≡ [])) ⊎ ((num c ≡ 0 → ⊥) × In c.row.parent before)

abbrev pub Upward : List ℕ → List Cell → Type 0
Upward before [] = Unit {0}
Upward before (c ∷ cs) = NextUp before c × Upward (before ++ num c ∷ []) cs

-- so it is where the rows are linked upwards
module _ (all : List Cell) (up : (c : Cell) → In c all → (num c ≡ 0) ⊎ Above all c) where
  upward_from : (before : List ℕ) (xs : List Cell) → CellsRise xs → ((c : Cell) → In c xs → In c all) → ((k : ℕ) → In k before → (c : Cell) → In c xs → k < num c) → ((c : Cell) → In c all → In (num c) before ⊎ In c xs) → Upward before xs
  upward_from before [] r i l s = tt
  upward_from before (c ∷ cs) r i l s = (
    next,
    upward_from (before ++ num c ∷ []) cs r.1 (λ d j. i d (inr j)) low here,
  )
    where
      in_last : (k : ℕ) (ks : List ℕ) → In k (ks ++ k ∷ [])
      in_last k [] = inl refl
      in_last k (j ∷ ks) = inr (in_last k ks)

      in_front : (j k : ℕ) (ks : List ℕ) → In j ks → In j (ks ++ k ∷ [])
      in_front j k [] h = absurd h
      in_front j k (m ∷ ks) (inl e) = inl e
      in_front j k (m ∷ ks) (inr h) = inr (in_front j k ks h)

      which : (j k : ℕ) (ks : List ℕ) → In j (ks ++ k ∷ []) → In j ks ⊎ (k ≡ j)
      which j k [] (inl e) = inr e
      which j k [] (inr h) = absurd h
      which j k (m ∷ ks) (inl e) = inl (inl e)
      which j k (m ∷ ks) (inr h) = elim (which j k ks h) [ inl a ↦ inl (inr a) | inr a ↦ inr a ]

      low : (k : ℕ) → In k (before ++ num c ∷ []) → (d : Cell) → In d cs → k < num d
      low k h d j = elim (which k (num c) before h) [
        | inl a ↦ l k a d (inr j)
        | inr e ↦ subst (λ (z : ℕ). z < num d) e (r.0 d j)
      ]

      here : (d : Cell) → In d all → In (num d) (before ++ num c ∷ []) ⊎ In d cs
      here d j = elim (s d j) [
        | inl a ↦ inl (in_front (num d) (num c) before a)
        | inr a ↦ elim a [
          | inl e ↦ inl (subst (λ (z : ℕ). In z (before ++ num c ∷ [])) (ap num e) (in_last (num c) before))
          | inr k ↦ inr k
        ]
      ]

      first : (ks : List ℕ) → ((k : ℕ) → In k ks → k < num c) → num c ≡ 0 → ks ≡ []
      first [] h e = refl
      first (k ∷ ks) h e = let z = h k (inl refl) in absurd (omega arith)

      next : NextUp before c
      next = elim (cases_Bool (eqb (num c) 0)) [
        | inl b ↦ inl (eqb-true (num c) 0 b, first before (λ k h. l k h c (inl refl)) (eqb-true (num c) 0 b))
        | inr b ↦ elim (up c (i c (inl refl))) [
          | inl z ↦ absurd (eqb-false (num c) 0 b z)
          | inr a ↦ inr (
            eqb-false (num c) 0 b,
            elim (s a.0 a.1) [
              | inl h ↦ subst (λ (z : ℕ). In z before) a.2 h
              | inr h ↦ elim h [
                | inl e ↦ (let f = ap num e in let z = a.3 in absurd (omega arith))
                | inr j ↦ (let z = a.3 in let y = r.0 a.0 j in absurd (omega arith))
              ]
            ],
          )
        ]
      ]

pub upward : (xs : List Cell) → CellsRise xs → ((c : Cell) → In c xs → (num c ≡ 0) ⊎ Above xs c) → Upward [] xs
upward xs r up = upward_from xs up [] xs r (λ c i. i) (λ k h c i. absurd h) (λ c i. inr i)

-- ---- the rows with the roles from above, as an equation that tells them

module _ (sp : ℕ → Bool) where
  -- what a row has from above, where the rows have these roles
  abbrev pub from_above : List Cell → Cell → Roles
  from_above rs c = cond (eqb (num c) 0) empty (retain (roles_at rs c.row.parent) sp)

  abbrev pub spread_cell : List Cell → Cell → Cell
  spread_cell rs c = with_roles (from_above rs c) c

  from_is : (done rest : List Cell) (c : Cell) → NextUp (map num done) c → retain (roles_at done c.row.parent) sp ≡ from_above (done ++ rest) c
  from_is [] rest c (inl h) = retain_empty sp ∙ ap (λ b. cond b empty (retain (roles_at rest c.row.parent) sp)) (sym (eq-eqb (num c) 0 h.0))
  from_is (d ∷ ds) rest c (inl h) = absurd (nil_cons (num d) (map num ds) (sym h.1))
  from_is done rest c (inr h) =
      ap (λ z. retain z sp) (sym (roles_left done rest c.row.parent h.1)) ∙ ap (λ b. cond b empty (retain (roles_at (done ++ rest) c.row.parent) sp)) (sym (ne_eqb (num c) 0 h.0))

  next_up : (done cs : List Cell) (c : Cell) (X : Roles) → Upward (map num done ++ num c ∷ []) cs → Upward (map num (done ++ with_roles X c ∷ [])) cs
  next_up done cs c X u = subst (λ (z : List ℕ). Upward z cs) (sym (map-append num done (with_roles X c ∷ []))) u

  above_from : (done ks : List Cell) → Upward (map num done) ks → with_above sp done ks ≡ done ++ map (spread_cell (with_above sp done ks)) ks
  above_from done [] u = sym (append-nil done)
  above_from done (c ∷ cs) u = step (above_from (done ++ with_roles (retain (roles_at done c.row.parent) sp) c ∷ []) cs (next_up done cs c (retain (roles_at done c.row.parent) sp) u.1))
    where
      c' : Cell
      c' = with_roles (retain (roles_at done c.row.parent) sp) c

      all : List Cell
      all = with_above sp done (c ∷ cs)

      step : all ≡ (done ++ c' ∷ []) ++ map (spread_cell all) cs → all ≡ done ++ spread_cell all c ∷ map (spread_cell all) cs
      step e =
          let flat : all ≡ done ++ c' ∷ map (spread_cell all) cs = e ∙ append_assoc done (c' ∷ []) (map (spread_cell all) cs) in
          let here : c' ≡ spread_cell all c = ap (λ (X : Roles). with_roles X c) (from_is done (c' ∷ map (spread_cell all) cs) c u.0 ∙ ap (λ (z : List Cell). from_above z c) (sym flat)) in
          flat ∙ ap (λ (d : Cell). done ++ d ∷ map (spread_cell all) cs) here

  from_above_is : (done ks rs : List Cell) → Upward (map num done) ks → rs ≡ done ++ map (spread_cell rs) ks → rs ≡ with_above sp done ks
  from_above_is done [] rs u e = e ∙ append-nil done
  from_above_is done (c ∷ cs) rs u e = from_above_is (done ++ c' ∷ []) cs rs (next_up done cs c (retain (roles_at done c.row.parent) sp) u.1) flat
    where
      c' : Cell
      c' = with_roles (retain (roles_at done c.row.parent) sp) c

      here : spread_cell rs c ≡ c'
      here = ap (λ (X : Roles). with_roles X c) (ap (λ (z : List Cell). from_above z c) e ∙ sym (from_is done (map (spread_cell rs) (c ∷ cs)) c u.0))

      flat : rs ≡ (done ++ c' ∷ []) ++ map (spread_cell rs) cs
      flat = e ∙ (ap (λ (d : Cell). done ++ d ∷ map (spread_cell rs) cs) here ∙ sym (append_assoc done (c' ∷ []) (map (spread_cell rs) cs)))

  -- the equation, and that no other rows fulfil it
  pub above_is : (ks : List Cell) → Upward [] ks → with_above sp [] ks ≡ map (spread_cell (with_above sp [] ks)) ks
  above_is ks u = above_from [] ks u

  pub is_above : (ks rs : List Cell) → Upward [] ks → rs ≡ map (spread_cell rs) ks → rs ≡ with_above sp [] ks
  is_above ks rs u e = from_above_is [] ks rs u e

  -- ---- a new last row

  push_from : (done ks : List Cell) (c : Cell) → with_above sp done (ks ++ c ∷ []) ≡ with_above sp done ks ++ with_roles (retain (roles_at (with_above sp done ks) c.row.parent) sp) c ∷ []
  push_from done [] c = refl
  push_from done (k ∷ ks) c = push_from (done ++ with_roles (retain (roles_at done k.row.parent) sp) k ∷ []) ks c

  pub above_push : (ks : List Cell) (c : Cell) → with_above sp [] (ks ++ c ∷ []) ≡ with_above sp [] ks ++ with_roles (retain (roles_at (with_above sp [] ks) c.row.parent) sp) c ∷ []
  above_push ks c = push_from [] ks c

  -- ---- what a kept row says of those above doesn't count

  bare_from : (done ks : List Cell) → with_above sp done (map uncovered ks) ≡ with_above sp done ks
  bare_from done [] = refl
  bare_from done (c ∷ cs) = bare_from (done ++ with_roles (retain (roles_at done c.row.parent) sp) c ∷ []) cs

  pub above_bare : (ks js : List Cell) → map uncovered ks ≡ map uncovered js → with_above sp [] ks ≡ with_above sp [] js
  above_bare ks js e = sym (bare_from [] ks) ∙ (ap (with_above sp []) e ∙ bare_from [] js)

  -- what comes from above is spread
  pub from_in : (rs : List Cell) (c : Cell) → retain (from_above rs c) sp ≡ from_above rs c
  from_in rs c = go (eqb (num c) 0)
    where
      go : (b : Bool) → retain (cond b empty (retain (roles_at rs c.row.parent) sp)) sp ≡ cond b empty (retain (roles_at rs c.row.parent) sp)
      go true = retain_empty sp
      go false = retain_twice (roles_at rs c.row.parent) sp

  -- ---- an edit of rows that leaves their spread roles

  module _ (g : Cell → Cell) (n : (c : Cell) → num (g c) ≡ num c) (p : (c : Cell) → (g c).row.parent ≡ c.row.parent) (r : (c : Cell) → retain (g c).row.roles sp ≡ retain c.row.roles sp) where
    retained : (rs : List Cell) (k : ℕ) → retain (roles_at (map g rs) k) sp ≡ retain (roles_at rs k) sp
    retained [] k = refl
    retained (c ∷ cs) k = ap (λ (z : ℕ). retain (cond (eqb z k) (g c).row.roles (roles_at (map g cs) k)) sp) (n c) ∙ go (eqb (num c) k) (retained cs k)
      where
        go : (b : Bool) → retain (roles_at (map g cs) k) sp ≡ retain (roles_at cs k) sp → retain (cond b (g c).row.roles (roles_at (map g cs) k)) sp ≡ retain (cond b c.row.roles (roles_at cs k)) sp
        go true e = r c
        go false e = e

    pub from_same : (rs : List Cell) (c : Cell) → from_above (map g rs) (g c) ≡ from_above rs c
    from_same rs c =
        (λ t. cond (eqb (n c t) 0) empty (retain (roles_at (map g rs) (p c t)) sp))
        ∙ ap (λ (z : Roles). cond (eqb (num c) 0) empty z) (retained rs c.row.parent)

    pub upward_map : (before : List ℕ) (ks : List Cell) → Upward before ks → Upward before (map g ks)
    upward_map before [] u = tt
    upward_map before (c ∷ cs) u = (
      elim u.0 [
        | inl h ↦ inl (n c ∙ h.0, h.1)
        | inr h ↦ inr ((λ e. h.0 (sym (n c) ∙ e)), subst (λ (z : ℕ). In z before) (sym (p c)) h.1)
      ],
      subst (λ (z : ℕ). Upward (before ++ z ∷ []) (map g cs)) (sym (n c)) (upward_map (before ++ num c ∷ []) cs u.1),
    )

    -- and that may be made of each row before or behind
    pub above_map : ((X : Roles) (c : Cell) → retain X sp ≡ X → g (with_roles X c) ≡ with_roles X (g c)) → (ks : List Cell) → Upward [] ks → with_above sp [] (map g ks) ≡ map g (with_above sp [] ks)
    above_map w ks u = sym (is_above (map g ks) (map g rs) (upward_map [] ks u) fixed)
      where
        rs : List Cell
        rs = with_above sp [] ks

        each : (c : Cell) → g (spread_cell rs c) ≡ spread_cell (map g rs) (g c)
        each c = w (from_above rs c) c (from_in rs c) ∙ ap (λ (X : Roles). with_roles X (g c)) (sym (from_same rs c))

        fixed : map g rs ≡ map (spread_cell (map g rs)) (map g ks)
        fixed =
            ap (map g) (above_is ks u)
            ∙ (map-map (spread_cell rs) g ks
            ∙ (map_same (λ c. g (spread_cell rs c)) (λ c. spread_cell (map g rs) (g c)) ks (λ c i. each c)
            ∙ sym (map-map g (spread_cell (map g rs)) ks)))

    pub covered_map : (rs : List Cell) (c : Cell) → is_covered sp (map g rs) (g c) ≡ is_covered sp rs c
    covered_map rs c =
        (λ t. not (eqb (n c t) 0) && not (eqb (len (retain (roles_at (map g rs) (p c t)) sp)) 0))
        ∙ ap (λ (z : Roles). not (eqb (num c) 0) && not (eqb (len z) 0)) (retained rs c.row.parent)

  -- ---- rows that leave with all below them

  module _ (q : ℕ → Bool) where
    abbrev stays : Cell → Bool
    stays c = q (num c)

    roles_kept : (rs : List Cell) (k : ℕ) → q k ≡ true → roles_at (filter stays rs) k ≡ roles_at rs k
    roles_kept [] k e = refl
    roles_kept (c ∷ cs) k e = go (q (num c)) refl (roles_kept cs k e)
      where
        go : (b : Bool) → q (num c) ≡ b → roles_at (filter stays cs) k ≡ roles_at cs k → roles_at (cond b (c ∷ filter stays cs) (filter stays cs)) k ≡ cond (eqb (num c) k) c.row.roles (roles_at cs k)
        go true f ih = ap (λ (z : Roles). cond (eqb (num c) k) c.row.roles z) ih
        go false f ih = ih ∙ ap (λ b. cond b c.row.roles (roles_at cs k)) (sym (ne_eqb (num c) k (λ h. true≢false (sym e ∙ (ap q (sym h) ∙ f)))))

    -- the parent of a row that stays does so too
    abbrev pub UpStays : List Cell → Type 0
    UpStays ks = (c : Cell) → In c ks → q (num c) ≡ true → (num c ≡ 0) ⊎ (q c.row.parent ≡ true)

    pub above_filter : (ks : List Cell) → Upward [] ks → Upward [] (filter stays ks) → UpStays ks → with_above sp [] (filter stays ks) ≡ filter stays (with_above sp [] ks)
    above_filter ks u v h = sym (is_above (filter stays ks) (filter stays rs) v fixed)
      where
        rs : List Cell
        rs = with_above sp [] ks

        from : (c : Cell) → (num c ≡ 0) ⊎ (q c.row.parent ≡ true) → from_above rs c ≡ from_above (filter stays rs) c
        from c (inl z) =
            ap (λ b. cond b empty (retain (roles_at rs c.row.parent) sp)) (eq-eqb (num c) 0 z)
            ∙ sym (ap (λ b. cond b empty (retain (roles_at (filter stays rs) c.row.parent) sp)) (eq-eqb (num c) 0 z))
        from c (inr z) = ap (λ (s : Roles). cond (eqb (num c) 0) empty (retain s sp)) (sym (roles_kept rs c.row.parent z))

        each : (c : Cell) → In c (filter stays ks) → spread_cell rs c ≡ spread_cell (filter stays rs) c
        each c i =
            let f = In-filter stays c ks i in
            ap (λ (X : Roles). with_roles X c) (from c (h c f.0 f.1))

        fixed : filter stays rs ≡ map (spread_cell (filter stays rs)) (filter stays ks)
        fixed =
            ap (filter stays) (above_is ks u)
            ∙ (filter_map_same stays (spread_cell rs) (λ c. refl) ks
            ∙ map_same (spread_cell rs) (spread_cell (filter stays rs)) (filter stays ks) each)

    pub covered_filter : (rs : List Cell) (c : Cell) → (num c ≡ 0) ⊎ (q c.row.parent ≡ true) → is_covered sp (filter stays rs) c ≡ is_covered sp rs c
    covered_filter rs c (inl z) =
        ap (λ b. not b && not (eqb (len (retain (roles_at (filter stays rs) c.row.parent) sp)) 0)) (eq-eqb (num c) 0 z)
        ∙ sym (ap (λ b. not b && not (eqb (len (retain (roles_at rs c.row.parent) sp)) 0)) (eq-eqb (num c) 0 z))
    covered_filter rs c (inr z) = ap (λ (s : Roles). not (eqb (num c) 0) && not (eqb (len (retain s sp)) 0)) (roles_kept rs c.row.parent z)

  -- ---- what nothing keeps is the same of both

  empty_len : (s : Roles) → eqb (len s) 0 ≡ false → s ≡ empty → ⊥
  empty_len s h e = false≢true (sym h ∙ eq-eqb (len s) 0 (ap len e ∙ len-empty nat_cmp))

  pub union_empty : (s t : Roles) → union s t ≡ empty → (s ≡ empty) × (t ≡ empty)
  union_empty s t e = (same_roles s empty (λ q. (parts q).0 ∙ sym (contains-empty nat_cmp q)), same_roles t empty (λ q. (parts q).1 ∙ sym (contains-empty nat_cmp q)))
    where
      parts : (q : ℕ) → (contains s q ≡ false) × (contains t q ≡ false)
      parts q = or_parts (contains s q) (contains t q) (sym (in_union s t q) ∙ (ap (λ (z : Roles). contains z q) e ∙ contains-empty nat_cmp q))

  pub empty_union : (s t : Roles) → s ≡ empty → t ≡ empty → union s t ≡ empty
  empty_union s t e f = (λ i. union (e i) (f i)) ∙ same_roles (union empty empty) empty (λ q. in_union empty empty q ∙ (ap (λ b. b || b) (contains-empty nat_cmp q) ∙ sym (contains-empty nat_cmp q)))

  -- the row has nothing from above exactly where it isn't covered
  pub uncovered_from : (rs : List Cell) (c : Cell) → is_covered sp rs c ≡ false → from_above rs c ≡ empty
  uncovered_from rs c h = go (eqb (num c) 0) (cases_Bool (eqb (len (retain (roles_at rs c.row.parent) sp)) 0)) h
    where
      go : (b : Bool) → (eqb (len (retain (roles_at rs c.row.parent) sp)) 0 ≡ true) ⊎ (eqb (len (retain (roles_at rs c.row.parent) sp)) 0 ≡ false) → (not b && not (eqb (len (retain (roles_at rs c.row.parent) sp)) 0)) ≡ false
          → cond b empty (retain (roles_at rs c.row.parent) sp) ≡ empty
      go true z k = refl
      go false (inl z) k = empty_of_len (retain (roles_at rs c.row.parent) sp) (eqb-true _ 0 z)
      go false (inr z) k = absurd (true≢false (sym (ap not z) ∙ k))

  pub from_uncovered : (rs : List Cell) (c : Cell) → from_above rs c ≡ empty → is_covered sp rs c ≡ false
  from_uncovered rs c h = go (eqb (num c) 0) (cases_Bool (eqb (len (retain (roles_at rs c.row.parent) sp)) 0)) h
    where
      go : (b : Bool) → (eqb (len (retain (roles_at rs c.row.parent) sp)) 0 ≡ true) ⊎ (eqb (len (retain (roles_at rs c.row.parent) sp)) 0 ≡ false) → cond b empty (retain (roles_at rs c.row.parent) sp) ≡ empty
          → (not b && not (eqb (len (retain (roles_at rs c.row.parent) sp)) 0)) ≡ false
      go true z k = refl
      go false (inl z) k = ap not z
      go false (inr z) k = absurd (empty_len (retain (roles_at rs c.row.parent) sp) z k)

  pub dead_same : (rs : List Cell) (c : Cell) → c.row.covered ≡ is_covered sp rs c → IsDead c.row ↔ IsDead (spread_cell rs c).row
  dead_same rs c k = (
    (λ d. (d.0, empty_union c.row.roles (from_above rs c) d.1 (uncovered_from rs c (sym k ∙ d.2)), refl)),
    (λ d. let u = union_empty c.row.roles (from_above rs c) d.1 in (d.0, u.0, k ∙ from_uncovered rs c u.1)),
  )

  -- ---- a spread role taken from some of the rows that keep it

  -- the role k fewer at most, and the others the same
  abbrev pub Less : ℕ → Roles → Roles → Type 0
  Less k s t = ((x : ℕ) → (x ≡ k → ⊥) → contains s x ≡ contains t x) × (contains s k ≡ true → contains t k ≡ true)

  -- row by row, and all else the same
  abbrev Lessened : ℕ → List Cell → List Cell → Type 0
  Lessened k [] [] = Unit {0}
  Lessened k [] (y ∷ ys) = ⊥
  Lessened k (x ∷ xs) [] = ⊥
  Lessened k (x ∷ xs) (y ∷ ys) = (x ≡ record { place = y.place; row = record y.row { roles = x.row.roles } }) × Less k x.row.roles y.row.roles × Lessened k xs ys

  less_refl : (k : ℕ) (s : Roles) → Less k s s
  less_refl k s = ((λ x h. refl), (λ h. h))

  less_union : (k : ℕ) (a b s t : Roles) → Less k a b → Less k s t → Less k (union a s) (union b t)
  less_union k a b s t l m = (
    (λ x h. in_union a s x ∙ ((λ i. l.0 x h i || m.0 x h i) ∙ sym (in_union b t x))),
    (λ h. in_union b t k ∙ go (contains a k) refl (contains s k) refl (sym (in_union a s k) ∙ h)),
  )
    where
      or_is : (x y : Bool) → y ≡ true → (x || y) ≡ true
      or_is true y e = refl
      or_is false y e = e

      go : (x : Bool) → contains a k ≡ x → (y : Bool) → contains s k ≡ y → (x || y) ≡ true → (contains b k || contains t k) ≡ true
      go true e y f h = ap (λ z. z || contains t k) (l.1 e)
      go false e true f h = or_is (contains b k) (contains t k) (m.1 f)
      go false e false f h = absurd (false≢true h)

  less_retain : (k : ℕ) (s t : Roles) → Less k s t → Less k (retain s sp) (retain t sp)
  less_retain k s t l = (
    (λ x h. in_retain s sp x ∙ (ap (λ b. b && sp x) (l.0 x h) ∙ sym (in_retain t sp x))),
    (λ h. let a = and_parts (contains s k) (sp k) (sym (in_retain s sp k) ∙ h) in in_retain t sp k ∙ (λ i. l.1 a.0 i && a.1 i)),
  )

  less_at : (k : ℕ) (xs ys : List Cell) → Lessened k xs ys → (j : ℕ) → Less k (roles_at xs j) (roles_at ys j)
  less_at k [] [] l j = less_refl k empty
  less_at k [] (y ∷ ys) l j = absurd l
  less_at k (x ∷ xs) [] l j = absurd l
  less_at k (x ∷ xs) (y ∷ ys) l j = subst (λ (z : ℕ). Less k (cond (eqb z j) x.row.roles (roles_at xs j)) (cond (eqb (num y) j) y.row.roles (roles_at ys j))) (sym (ap num l.0)) (go (eqb (num y) j) (less_at k xs ys l.2 j))
    where
      go : (b : Bool) → Less k (roles_at xs j) (roles_at ys j) → Less k (cond b x.row.roles (roles_at xs j)) (cond b y.row.roles (roles_at ys j))
      go true h = l.1
      go false h = h

  less_push : (k : ℕ) (xs ys : List Cell) (x y : Cell) → Lessened k xs ys → x ≡ record { place = y.place; row = record y.row { roles = x.row.roles } } → Less k x.row.roles y.row.roles → Lessened k (xs ++ x ∷ []) (ys ++ y ∷ [])
  less_push k [] [] x y l e m = (e, m, tt)
  less_push k [] (z ∷ ys) x y l e m = absurd l
  less_push k (z ∷ xs) [] x y l e m = absurd l
  less_push k (w ∷ xs) (z ∷ ys) x y l e m = (l.0, l.1, less_push k xs ys x y l.2 e m)

  module _ (k : ℕ) (loses : Cell → Bool) where
    abbrev thin : Cell → Cell
    thin c = cond (loses c) (record { place = c.place; row = untaken k c.row }) c

    thin_is : (c : Cell) → thin c ≡ record { place = c.place; row = record c.row { roles = (thin c).row.roles } }
    thin_is c = go (loses c)
      where
        go : (b : Bool) → cond b (record { place = c.place; row = untaken k c.row }) c ≡ record { place = c.place; row = record c.row { roles = (cond b (record { place = c.place; row = untaken k c.row }) c).row.roles } }
        go true = refl
        go false = refl

    thin_less : (c : Cell) → Less k (thin c).row.roles c.row.roles
    thin_less c = go (loses c)
      where
        go : (b : Bool) → Less k (cond b (record { place = c.place; row = untaken k c.row }) c).row.roles c.row.roles
        go true = (
          (λ x h. in_remove c.row.roles k x ∙ ap (λ z. not z && contains c.row.roles x) (ne_eqb x k h)),
          (λ h. absurd (false≢true (sym (in_remove c.row.roles k k ∙ ap (λ z. not z && contains c.row.roles k) (eq-eqb k k refl)) ∙ h))),
        )
        go false = less_refl k c.row.roles

    less_from : (done done' ks : List Cell) → Lessened k done' done → Lessened k (with_above sp done' (taken_by loses k ks)) (with_above sp done ks)
    less_from done done' [] l = l
    less_from done done' (c ∷ cs) l =
        less_from (done ++ d ∷ []) (done' ++ d' ∷ []) cs (less_push k done' done d' d l same less)
      where
        d : Cell
        d = with_roles (retain (roles_at done c.row.parent) sp) c

        d' : Cell
        d' = with_roles (retain (roles_at done' (thin c).row.parent) sp) (thin c)

        parent : (thin c).row.parent ≡ c.row.parent
        parent = ap (λ (z : Cell). z.row.parent) (thin_is c)

        same : d' ≡ record { place = d.place; row = record d.row { roles = d'.row.roles } }
        same = ap (λ (z : Cell). record { place = z.place; row = record z.row { roles = d'.row.roles; covered = false } }) (thin_is c)

        less : Less k d'.row.roles d.row.roles
        less = subst (λ (z : ℕ). Less k (union (thin c).row.roles (retain (roles_at done' z) sp)) d.row.roles) (sym parent)
            (less_union k (thin c).row.roles c.row.roles (retain (roles_at done' c.row.parent) sp) (retain (roles_at done c.row.parent) sp) (thin_less c) (less_retain k (roles_at done' c.row.parent) (roles_at done c.row.parent) (less_at k done' done l c.row.parent)))

  -- what is lost is what the rows had and have no more
  less_taken : (k : ℕ) (s t : Roles) → Less k s t → s ≡ cond (contains t k && not (contains s k)) (remove t k) t
  less_taken k s t l = go (contains t k) refl (contains s k) refl
    where
      others : (x : ℕ) → (eqb x k ≡ true) ⊎ (eqb x k ≡ false) → contains s k ≡ contains t k → contains s x ≡ contains t x
      others x (inl e) h = subst (λ (z : ℕ). contains s z ≡ contains t z) (sym (eqb-true x k e)) h
      others x (inr e) h = l.0 x (eqb-false x k e)

      gone : contains s k ≡ false → (x : ℕ) → (eqb x k ≡ true) ⊎ (eqb x k ≡ false) → contains s x ≡ (not (eqb x k) && contains t x)
      gone h x (inl e) = subst (λ (z : ℕ). contains s z ≡ false) (sym (eqb-true x k e)) h ∙ sym (ap (λ b. not b && contains t x) e)
      gone h x (inr e) = l.0 x (eqb-false x k e) ∙ sym (ap (λ b. not b && contains t x) e)

      go : (b : Bool) → contains t k ≡ b → (c : Bool) → contains s k ≡ c → s ≡ cond (b && not c) (remove t k) t
      go true e true f = same_roles s t (λ x. others x (cases_Bool (eqb x k)) (f ∙ sym e))
      go true e false f = same_roles s (remove t k) (λ x. gone f x (cases_Bool (eqb x k)) ∙ sym (in_remove t k x))
      go false e true f = absurd (false≢true (sym e ∙ l.1 f))
      go false e false f = same_roles s t (λ x. others x (cases_Bool (eqb x k)) (f ∙ sym e))

  taken_from : (k : ℕ) (all xs ys : List Cell) → ((c : Cell) → In c xs → roles_at all (num c) ≡ c.row.roles) → Lessened k xs ys → xs ≡ taken_by (is_lost k all) k ys
  taken_from k all [] [] h l = refl
  taken_from k all [] (y ∷ ys) h l = absurd l
  taken_from k all (x ∷ xs) [] h l = absurd l
  taken_from k all (x ∷ xs) (y ∷ ys) h l = λ i. here i ∷ taken_from k all xs ys (λ c j. h c (inr j)) l.2 i
    where
      roles : roles_at all (num y) ≡ x.row.roles
      roles = ap (roles_at all) (sym (ap num l.0)) ∙ h x (inl refl)

      lost : is_lost k all y ≡ (contains y.row.roles k && not (contains x.row.roles k))
      lost = ap (λ (z : Roles). contains y.row.roles k && not (contains z k)) roles

      put : (b : Bool) → record { place = y.place; row = record y.row { roles = cond b (remove y.row.roles k) y.row.roles } } ≡ cond b (record { place = y.place; row = untaken k y.row }) y
      put true = refl
      put false = refl

      here : x ≡ cond (is_lost k all y) (record { place = y.place; row = untaken k y.row }) y
      here =
          l.0
          ∙ (ap (λ (z : Roles). record { place = y.place; row = record y.row { roles = z } }) (less_taken k x.row.roles y.row.roles l.1)
          ∙ (put (contains y.row.roles k && not (contains x.row.roles k))
          ∙ ap (λ b. cond b (record { place = y.place; row = untaken k y.row }) y) (sym lost)))

  pub above_taken : (k : ℕ) (loses : Cell → Bool) (ks : List Cell) → CellsRise (with_above sp [] (taken_by loses k ks)) → with_above sp [] (taken_by loses k ks) ≡ taken_by (is_lost k (with_above sp [] (taken_by loses k ks))) k (with_above sp [] ks)
  above_taken k loses ks r = taken_from k now now (with_above sp [] ks) (roles_self now r) (less_from k loses [] [] ks tt)
    where
      now : List Cell
      now = with_above sp [] (taken_by loses k ks)
