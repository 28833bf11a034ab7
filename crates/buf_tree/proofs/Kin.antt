-- What the links of the store tell of children and siblings.
use Rattle.std.proofs.Common.{◌≡◌, ◌≢◌, ◌==◌, ℕ, ◌<◌, ◌≤◌, Bool, true, false, cond, not, List, [], ◌∷◌, map, refl, sym, ◌∙◌, ap, subst, inl, inr, arith, Some, None}
use Rattle.std.specs.Prelude.{option_map, option_and_then, IsSome}
use Rattle.std.specs.List.{filter}
use Rattle.std.specs.FinMap.{get}
use Rattle.std.proofs.lemmas.Bool.{and_parts, and_from, false≢true, eqb-true, eq-eqb, ne_eqb, cases_eq}
use Rattle.tree_laws.proofs.Lists.{In, In-filter, In-kept}
use Rattle.node_store.specs.Rows.{StoreRow, parent_of, next_of, prev_of, after, before, head_of, last_of, children_in, children_of}
use Rattle.buf_tree.specs.Shape.{Store, Cell, num, CellsRise, is_under, place_for, at_serial, Shape}
use Rattle.buf_tree.specs.Match.{IsChild}
use Rattle.buf_tree.proofs.Shaping.{get_of, held_in, at_serial_is}
use Rattle.buf_tree.proofs.Changes.{Rising-filtered}
use Rattle.buf_tree.proofs.Purging.{some_entry}

abbrev places : List Cell → List ℕ
places cs = map (λ (d : Cell). d.place) cs

abbrev Apart : List Cell → Type 0
Apart xs = (a b : Cell) → In a xs → In b xs → a.place ≡ b.place → a ≡ b

-- ---- lists of children

first_of : (zs : List Cell) → CellsRise zs → (s : ℕ) → head_of (places zs) ≡ Some s → (e : Cell) × In e zs × (e.place ≡ s) × ((d : Cell) → In d zs → num e ≤ num d)
first_of [] r s h = absurd (cc)
first_of (z ∷ zs) r s h =
    let is : z.place ≡ s = cc in
    (z, inl refl, is, λ d j. elim j [ inl f ↦ (let k = ap num f in omega arith) | inr k ↦ (let l = r.0 d k in omega arith) ])

no_first : (zs : List Cell) → head_of (places zs) ≡ None → (d : Cell) → In d zs → ⊥
no_first [] h d j = j
no_first (z ∷ zs) h d j = cc

last_there : (zs : List ℕ) (z : ℕ) → last_of (z ∷ zs) ≡ None → ⊥
last_there zs z h = cc

last_cell : (zs : List Cell) → CellsRise zs → (s : ℕ) → last_of (places zs) ≡ Some s → (e : Cell) × In e zs × (e.place ≡ s) × ((d : Cell) → In d zs → num d ≤ num e)
last_cell [] r s h = absurd (cc)
last_cell (z ∷ []) r s h =
    let is : z.place ≡ s = cc in
    (z, inl refl, is, λ d j. elim j [ inl f ↦ (let k = ap num f in omega arith) | inr k ↦ absurd k ])
last_cell (z ∷ (y ∷ ys)) r s h =
    let e = last_cell (y ∷ ys) r.1 s h in
    let l = r.0 e.0 e.1 in
    (e.0, inr e.1, e.2, λ d j. elim j [ inl f ↦ (let k = ap num f in omega arith) | inr k ↦ e.3 d k ])

no_last : (zs : List Cell) → last_of (places zs) ≡ None → (d : Cell) → In d zs → ⊥
no_last [] h d j = j
no_last (z ∷ zs) h d j = last_there (places zs) z.place h

-- the child after one
next_in : (zs : List Cell) → CellsRise zs → Apart zs → (c : Cell) → In c zs → (s : ℕ) → after c.place (places zs) ≡ Some s
    → (e : Cell) × In e zs × (e.place ≡ s) × (num c < num e) × ((d : Cell) → In d zs → num c < num d → num e ≤ num d)
next_in [] r a c i s h = absurd i
next_in (z ∷ zs) r a c i s h = go (z.place == c.place) refl i h (λ j k. next_in zs r.1 (λ x y t u. a x y (inr t) (inr u)) c j s k)
  where
    go : (b : Bool) → (z.place == c.place) ≡ b → In c (z ∷ zs) → cond b (head_of (places zs)) (after c.place (places zs)) ≡ Some s
        → (In c zs → after c.place (places zs) ≡ Some s → (e : Cell) × In e zs × (e.place ≡ s) × (num c < num e) × ((d : Cell) → In d zs → num c < num d → num e ≤ num d))
        → (e : Cell) × In e (z ∷ zs) × (e.place ≡ s) × (num c < num e) × ((d : Cell) → In d (z ∷ zs) → num c < num d → num e ≤ num d)
    go true f j k ih =
        let is : z ≡ c = a z c (inl refl) j (eqb-true _ _ f) in
        let n = ap num is in
        let e = first_of zs r.1 s k in
        let l = r.0 e.0 e.1 in
        (e.0, inr e.1, e.2, omega arith, λ d t m. elim t [ inl g ↦ (let o = ap num g in absurd (omega arith)) | inr g ↦ e.3 d g ])
    go false f (inl g) k ih = absurd (false≢true (sym f ∙ eq-eqb z.place c.place (ap (λ (x : Cell). x.place) g)))
    go false f (inr j) k ih =
        let e = ih j k in
        let l = r.0 c j in
        (e.0, inr e.1, e.2, e.3, λ d t m. elim t [ inl g ↦ (let o = ap num g in absurd (omega arith)) | inr g ↦ e.4 d g m ])

-- and none after the last
no_next : (zs : List Cell) → CellsRise zs → Apart zs → (c : Cell) → In c zs → after c.place (places zs) ≡ None → (d : Cell) → In d zs → num c < num d → ⊥
no_next [] r a c i h d j l = i
no_next (z ∷ zs) r a c i h d j l = go (z.place == c.place) refl i h j (λ k t u. no_next zs r.1 (λ x y v w. a x y (inr v) (inr w)) c k t d u l)
  where
    go : (b : Bool) → (z.place == c.place) ≡ b → In c (z ∷ zs) → cond b (head_of (places zs)) (after c.place (places zs)) ≡ None → In d (z ∷ zs) → (In c zs → after c.place (places zs) ≡ None → In d zs → ⊥) → ⊥
    go true f i k (inl g) ih = let is : z ≡ c = a z c (inl refl) i (eqb-true _ _ f) in let n = ap num (sym g ∙ is) in absurd (omega arith)
    go true f i k (inr g) ih = no_first zs k d g
    go false f (inl g) k j ih = false≢true (sym f ∙ eq-eqb z.place c.place (ap (λ (x : Cell). x.place) g))
    go false f (inr i) k (inl g) ih = let l2 = r.0 c i in let n = ap num g in absurd (omega arith)
    go false f (inr i) k (inr g) ih = ih i k g

-- the child before one: it is before the head of a list alone
not_before : (zs : List Cell) → CellsRise zs → Apart zs → (c : Cell) → ((d : Cell) → In d zs → d.place ≢ c.place) → before c.place (places zs) ≡ None
not_before [] r a c h = refl
not_before (z ∷ []) r a c h = refl
not_before (z ∷ (y ∷ ys)) r a c h =
    ap (λ b. cond b (Some z.place) (before c.place (places (y ∷ ys)))) (ne_eqb y.place c.place (h y (inr (inl refl))))
    ∙ not_before (y ∷ ys) r.1 (λ p q t u. a p q (inr t) (inr u)) c (λ d j. h d (inr j))

prev_in : (zs : List Cell) → CellsRise zs → Apart zs → (c : Cell) → In c zs → (s : ℕ) → before c.place (places zs) ≡ Some s
    → (e : Cell) × In e zs × (e.place ≡ s) × (num e < num c) × ((d : Cell) → In d zs → num d < num c → num d ≤ num e)
prev_in [] r a c i s h = absurd i
prev_in (z ∷ []) r a c i s h = absurd (cc)
prev_in (z ∷ (y ∷ ys)) r a c i s h = elim (cases_eq y.place c.place) [
  | inl f ↦ (
      let is : y ≡ c = same (y ≡ c) i f in
      let n = ap num is in
      let k : Some z.place ≡ Some s = sym (ap (λ b. cond b (Some z.place) (before c.place (places (y ∷ ys)))) (eq-eqb y.place c.place f)) ∙ h in
      let p : z.place ≡ s = cc in
      let l = r.0 y (inl refl) in (
        z,
        inl refl,
        p,
        omega arith,
        λ d t m. elim t [
          | inl g ↦ (let o = ap num g in omega arith)
          | inr g ↦ elim g [ inl x ↦ (let o = ap num x in absurd (omega arith)) | inr x ↦ (let o = r.1.0 d x in absurd (omega arith)) ]
        ],
      ))
  | inr f ↦ (
      let k : before c.place (places (y ∷ ys)) ≡ Some s = sym (ap (λ b. cond b (Some z.place) (before c.place (places (y ∷ ys)))) (ne_eqb y.place c.place f)) ∙ h in
      elim i [
        | inl g ↦ absurd (none_some (sym (not_before (y ∷ ys) r.1 (λ p q t u. a p q (inr t) (inr u)) c (λ d j e.
            let x = a d c (inr j) (inl g) e in let l = r.0 d j in let o = ap num x in let w = ap num g in absurd (omega arith))) ∙ k))
        | inr g ↦ (
            let e = prev_in (y ∷ ys) r.1 (λ p q t u. a p q (inr t) (inr u)) c g s k in
            let l = r.0 e.0 e.1 in
            (e.0, inr e.1, e.2, e.3, λ d t m. elim t [ inl x ↦ (let o = ap num x in omega arith) | inr x ↦ e.4 d x m ]))
      ])
]
  where
    none_some : None ≡ Some s → ⊥
    none_some e = cc

    same : (T : Type 0) → In c (z ∷ (y ∷ ys)) → y.place ≡ c.place → y ≡ c
    same T j f = a y c (inr (inl refl)) j f

no_prev : (zs : List Cell) → CellsRise zs → Apart zs → (c : Cell) → In c zs → before c.place (places zs) ≡ None → (d : Cell) → In d zs → num d < num c → ⊥
no_prev [] r a c i h d j l = i
no_prev (z ∷ []) r a c i h d j l = elim i [
  | inl f ↦ elim j [ inl g ↦ (let x = ap num f in let y = ap num g in absurd (omega arith)) | inr g ↦ absurd g ]
  | inr f ↦ absurd f
]
no_prev (z ∷ (y ∷ ys)) r a c i h d j l = elim (cases_eq y.place c.place) [
  | inl f ↦ absurd (some_none (sym (ap (λ b. cond b (Some z.place) (before c.place (places (y ∷ ys)))) (eq-eqb y.place c.place f)) ∙ h))
  | inr f ↦ (
      let k : before c.place (places (y ∷ ys)) ≡ None = sym (ap (λ b. cond b (Some z.place) (before c.place (places (y ∷ ys)))) (ne_eqb y.place c.place f)) ∙ h in
      elim i [
        | inl g ↦ elim j [
          | inl x ↦ (let o = ap num g in let w = ap num x in absurd (omega arith))
          | inr x ↦ (let o = ap num g in let w = r.0 d x in absurd (omega arith))
        ]
        | inr g ↦ elim g [
          | inl x ↦ absurd (f (ap (λ (q : Cell). q.place) x))
          | inr x ↦ (let w = r.1.0 c x in no_prev (y ∷ ys) r.1 (λ p q t u. a p q (inr t) (inr u)) c (inr x) k y (inl refl) w)
        ]
      ])
]
  where
    some_none : Some z.place ≡ None → ⊥
    some_none e = cc

-- ---- rows

module _ (m : Store) (xs : List Cell) (s : Shape m xs) where
  pub in_store : (c : Cell) → In c xs → IsSome (get m c.place)
  in_store c i = subst (λ o. IsSome o) (sym (get_of m xs s c i)) refl

  pub row_of_place : (p : ℕ) → IsSome (get m p) → (c : Cell) × In c xs × (c.place ≡ p)
  row_of_place p h =
      let e = some_entry (get m p) h in
      let c = held_in m xs s p e.0 e.1 in
      (c.0, c.1, c.2)

  -- a child of c among the rows
  pub kid_listed : (c d : Cell) → In d xs → IsChild c d → In d (filter (is_under (num c)) xs)
  kid_listed c d i k = In-kept (is_under (num c)) d xs i (and_from _ _ (ap not (ne_eqb (num d) 0 (λ z. let l = k.1 in absurd (omega arith)))) (eq-eqb d.row.parent (num c) k.0))

  pub listed_kid : (c d : Cell) → In c xs → In d (filter (is_under (num c)) xs) → In d xs × IsChild c d
  listed_kid c d ic i =
      let f = In-filter (is_under (num c)) d xs i in
      let a = and_parts (not (num d == 0)) (d.row.parent == num c) f.1 in
      let e = eqb-true d.row.parent (num c) a.1 in (
        f.0,
        (
          e,
          elim (s.up d f.0) [
            | inl z ↦ absurd (false≢true (ap not (sym (eq-eqb (num d) 0 z)) ∙ a.0))
            | inr u ↦ (let l = u.3 in let q = u.2 in omega arith)
          ],
        ),
      )

  abbrev kids : Cell → List Cell
  kids c = filter (is_under (num c)) xs

  kids_rise : (c : Cell) → CellsRise (kids c)
  kids_rise c = Rising-filtered (is_under (num c)) xs s.rising

  kids_apart : (c : Cell) → Apart (kids c)
  kids_apart c a b i j e = s.apart a b (In-filter (is_under (num c)) a xs i).0 (In-filter (is_under (num c)) b xs j).0 e

  children : (c : Cell) → In c xs → children_in (get m c.place) ≡ places (kids c)
  children c i = ap children_in (get_of m xs s c i)

  pub first_kid : (c : Cell) → In c xs → (p : ℕ) → head_of (children_in (get m c.place)) ≡ Some p → (e : Cell) × In e xs × IsChild c e × (e.place ≡ p) × ((d : Cell) → In d xs → IsChild c d → num e ≤ num d)
  first_kid c i p h =
      let e = first_of (kids c) (kids_rise c) p (ap head_of (sym (children c i)) ∙ h) in
      let k = listed_kid c e.0 i e.1 in
      (e.0, k.0, k.1, e.2, λ d j x. e.3 d (kid_listed c d j x))

  pub last_kid : (c : Cell) → In c xs → (p : ℕ) → last_of (children_in (get m c.place)) ≡ Some p → (e : Cell) × In e xs × IsChild c e × (e.place ≡ p) × ((d : Cell) → In d xs → IsChild c d → num d ≤ num e)
  last_kid c i p h =
      let e = last_cell (kids c) (kids_rise c) p (ap last_of (sym (children c i)) ∙ h) in
      let k = listed_kid c e.0 i e.1 in
      (e.0, k.0, k.1, e.2, λ d j x. e.3 d (kid_listed c d j x))

  pub no_first_kid : (c : Cell) → In c xs → head_of (children_in (get m c.place)) ≡ None → (d : Cell) → In d xs → IsChild c d → ⊥
  no_first_kid c i h d j x = no_first (kids c) (ap head_of (sym (children c i)) ∙ h) d (kid_listed c d j x)

  pub no_last_kid : (c : Cell) → In c xs → last_of (children_in (get m c.place)) ≡ None → (d : Cell) → In d xs → IsChild c d → ⊥
  no_last_kid c i h d j x = no_last (kids c) (ap last_of (sym (children c i)) ∙ h) d (kid_listed c d j x)

  -- parents
  parent_link : (c : Cell) → In c xs → parent_of m c.place ≡ place_for xs c.row
  parent_link c i = ap (option_and_then (λ (x : StoreRow _). x.parent)) (get_of m xs s c i)

  up_link : (c p : Cell) → In p xs → IsChild p c → place_for xs c.row ≡ Some p.place
  up_link c p i k =
      ap (λ b. cond b None (option_map (λ (d : Cell). d.place) (at_serial c.row.parent xs))) (ne_eqb (num c) 0 (λ z. let l = k.1 in absurd (omega arith)))
      ∙ ap (option_map (λ (d : Cell). d.place)) (at_serial_is xs s.rising p c.row.parent i (sym k.0))

  pub parent_row : (c : Cell) → In c xs → (q : ℕ) → parent_of m c.place ≡ Some q → (p : Cell) × In p xs × IsChild p c × (p.place ≡ q)
  parent_row c i q h = elim (s.up c i) [
    | inl z ↦ absurd (none_some (sym (parent_link c i ∙ ap (λ b. cond b None (option_map (λ (d : Cell). d.place) (at_serial c.row.parent xs))) (eq-eqb (num c) 0 z)) ∙ h))
    | inr u ↦ (
        let k : IsChild u.0 c = (sym u.2, u.3) in
        let e : Some u.0.place ≡ Some q = sym (parent_link c i ∙ up_link c u.0 u.1 k) ∙ h in
        let f : u.0.place ≡ q = cc in
        (u.0, u.1, k, f))
  ]
    where
      none_some : None ≡ Some q → ⊥
      none_some e = cc

  pub no_parent : (c : Cell) → In c xs → parent_of m c.place ≡ None → num c ≡ 0
  no_parent c i h = elim (s.up c i) [
    | inl z ↦ z
    | inr u ↦ absurd (some_none u.0.place (sym (parent_link c i ∙ up_link c u.0 u.1 (sym u.2, u.3)) ∙ h))
  ]
    where
      some_none : (q : ℕ) → Some q ≡ None → ⊥
      some_none q e = cc

  siblings : (c p : Cell) → In c xs → In p xs → IsChild p c → children_of m (parent_of m c.place) ≡ places (kids p)
  siblings c p i j k = ap (children_of m) (parent_link c i ∙ up_link c p j k) ∙ children p j

  no_siblings : (c : Cell) → In c xs → num c ≡ 0 → children_of m (parent_of m c.place) ≡ []
  no_siblings c i z = ap (children_of m) (parent_link c i ∙ ap (λ b. cond b None (option_map (λ (d : Cell). d.place) (at_serial c.row.parent xs))) (eq-eqb (num c) 0 z))

  -- siblings; a row without a parent has none
  pub next_kid : (c : Cell) → In c xs → (q : ℕ) → next_of m c.place ≡ Some q
      → (p : Cell) × In p xs × IsChild p c × ((e : Cell) × In e xs × IsChild p e × (e.place ≡ q) × (num c < num e) × ((d : Cell) → In d xs → IsChild p d → num c < num d → num e ≤ num d))
  next_kid c i q h = elim (s.up c i) [
    | inl z ↦ absurd (none_some (sym (ap (after c.place) (no_siblings c i z)) ∙ h))
    | inr u ↦ (
        let k : IsChild u.0 c = (sym u.2, u.3) in
        let e = next_in (kids u.0) (kids_rise u.0) (kids_apart u.0) c (kid_listed u.0 c i k) q (ap (after c.place) (sym (siblings c u.0 i u.1 k)) ∙ h) in
        let l = listed_kid u.0 e.0 u.1 e.1 in
        (u.0, u.1, k, (e.0, l.0, l.1, e.2, e.3, λ d j x y. e.4 d (kid_listed u.0 d j x) y)))
  ]
    where
      none_some : None ≡ Some q → ⊥
      none_some e = cc

  pub no_next_kid : (c p : Cell) → In c xs → In p xs → IsChild p c → next_of m c.place ≡ None → (d : Cell) → In d xs → IsChild p d → num c < num d → ⊥
  no_next_kid c p i j k h d x y z = no_next (kids p) (kids_rise p) (kids_apart p) c (kid_listed p c i k) (ap (after c.place) (sym (siblings c p i j k)) ∙ h) d (kid_listed p d x y) z

  pub prev_kid : (c : Cell) → In c xs → (q : ℕ) → prev_of m c.place ≡ Some q
      → (p : Cell) × In p xs × IsChild p c × ((e : Cell) × In e xs × IsChild p e × (e.place ≡ q) × (num e < num c) × ((d : Cell) → In d xs → IsChild p d → num d < num c → num d ≤ num e))
  prev_kid c i q h = elim (s.up c i) [
    | inl z ↦ absurd (none_some (sym (ap (before c.place) (no_siblings c i z)) ∙ h))
    | inr u ↦ (
        let k : IsChild u.0 c = (sym u.2, u.3) in
        let e = prev_in (kids u.0) (kids_rise u.0) (kids_apart u.0) c (kid_listed u.0 c i k) q (ap (before c.place) (sym (siblings c u.0 i u.1 k)) ∙ h) in
        let l = listed_kid u.0 e.0 u.1 e.1 in
        (u.0, u.1, k, (e.0, l.0, l.1, e.2, e.3, λ d j x y. e.4 d (kid_listed u.0 d j x) y)))
  ]
    where
      none_some : None ≡ Some q → ⊥
      none_some e = cc

  pub no_prev_kid : (c p : Cell) → In c xs → In p xs → IsChild p c → prev_of m c.place ≡ None → (d : Cell) → In d xs → IsChild p d → num d < num c → ⊥
  no_prev_kid c p i j k h d x y z = no_prev (kids p) (kids_rise p) (kids_apart p) c (kid_listed p c i k) (ap (before c.place) (sym (siblings c p i j k)) ∙ h) d (kid_listed p d x y) z
