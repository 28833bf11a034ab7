-- What planting, appending, unlinking and a change of a row make of the list of rows.
use Rattle.std.proofs.Common.{◌≡◌, ◌≢◌, ◌==◌, ℕ, ◌+◌, Bool, true, false, cond, List, [], ◌∷◌, length, refl, sym, ◌∙◌, ap, subst, inl, inr, ◌⊎◌, arith, Some, None, Option, ltb, is_some}
use Rattle.std.specs.Prelude.{option_map}
use Rattle.std.specs.List.{list_any}
use Rattle.std.specs.Ordering.{nat_cmp, eq_by_cmp}
use Rattle.std.specs.Cmp.{nat_cmp_total, unsigned_tied}
use Rattle.std.specs.FinMap.{empty, get, keys, insert, get-empty, get-insert, contains_key-keys, len, len-empty, len-insert, same_map, nat_cmp-IsAntisymmetric}
use Rattle.std.proofs.lemmas.Bool.{or_cases, false≢true, eqb-true, eq-eqb, ne_eqb, cases_eq, ltb-true, ltb-false}
use Rattle.tree_laws.proofs.Lists.{In}
use Rattle.node_store.specs.Rows.{StoreRow}
use Rattle.buf_tree.specs.Row.{Row}
use Rattle.buf_tree.specs.Shape.{Store, Cell, num, put, put_entry, gather, cells, CellsRise, Above, at_place, at_serial, entry_in, Shape, Shaped}

-- ---- lists by rising serials

pub rising_same : (xs : List Cell) → CellsRise xs → (a b : Cell) → In a xs → In b xs → num a ≡ num b → a ≡ b
rising_same [] r a b i j e = absurd i
rising_same (x ∷ xs) r a b (inl f) (inl g) e = sym f ∙ g
rising_same (x ∷ xs) r a b (inl f) (inr j) e = let l = r.0 b j in let m = ap num f in absurd (omega arith)
rising_same (x ∷ xs) r a b (inr i) (inl g) e = let l = r.0 a i in let m = ap num g in absurd (omega arith)
rising_same (x ∷ xs) r a b (inr i) (inr j) e = rising_same xs r.1 a b i j e

-- two such lists with the same members are one
pub same_rising : (xs ys : List Cell) → CellsRise xs → CellsRise ys → ((c : Cell) → In c xs → In c ys) → ((c : Cell) → In c ys → In c xs) → xs ≡ ys
same_rising [] [] r s f g = refl
same_rising [] (y ∷ ys) r s f g = absurd (g y (inl refl))
same_rising (x ∷ xs) [] r s f g = absurd (f x (inl refl))
same_rising (x ∷ xs) (y ∷ ys) r s f g =
    let e : x ≡ y = heads (f x (inl refl)) (g y (inl refl)) in
    let t : xs ≡ ys = same_rising xs ys r.1 s.1
    (λ c i. elim (f c (inr i)) [ inl h ↦ (let l = r.0 c i in let m = ap num (e ∙ h) in absurd (omega arith)) | inr j ↦ j ])
    (λ c i. elim (g c (inr i)) [ inl h ↦ (let l = s.0 c i in let m = ap num (sym e ∙ h) in absurd (omega arith)) | inr j ↦ j ]) in
    cc
  where
    heads : In x (y ∷ ys) → In y (x ∷ xs) → x ≡ y
    heads (inl e) j = sym e
    heads (inr i) (inl e) = e
    heads (inr i) (inr j) = let l = s.0 x i in let m = r.0 y j in absurd (omega arith)

put_in : (c : Cell) (xs : List Cell) (y : Cell) → In y (put c xs) → (c ≡ y) ⊎ In y xs
put_in c [] y (inl e) = inl e
put_in c [] y (inr h) = absurd h
put_in c (x ∷ xs) y h = go (ltb (num c) (num x)) (ltb (num x) (num c)) (put_in c xs y) h
  where
    go : (a b : Bool) → (In y (put c xs) → (c ≡ y) ⊎ In y xs) → In y (cond a (c ∷ x ∷ xs) (cond b (x ∷ put c xs) (x ∷ xs))) → (c ≡ y) ⊎ In y (x ∷ xs)
    go true b ih (inl e) = inl e
    go true b ih (inr k) = inr k
    go false true ih (inl e) = inr (inl e)
    go false true ih (inr k) = elim (ih k) [ inl e ↦ inl e | inr i ↦ inr (inr i) ]
    go false false ih k = inr k

put_keeps : (c : Cell) (xs : List Cell) (y : Cell) → In y xs → In y (put c xs)
put_keeps c [] y h = absurd h
put_keeps c (x ∷ xs) y h = go (ltb (num c) (num x)) (ltb (num x) (num c)) (put_keeps c xs y) h
  where
    go : (a b : Bool) → (In y xs → In y (put c xs)) → In y (x ∷ xs) → In y (cond a (c ∷ x ∷ xs) (cond b (x ∷ put c xs) (x ∷ xs)))
    go true b ih k = inr k
    go false true ih (inl e) = inl e
    go false true ih (inr k) = inr (ih k)
    go false false ih k = k

put_has : (c : Cell) (xs : List Cell) → (y : Cell) × In y (put c xs) × (num y ≡ num c)
put_has c [] = (c, inl refl, refl)
put_has c (x ∷ xs) = go (ltb (num c) (num x)) (ltb (num x) (num c)) refl refl (put_has c xs)
  where
    go : (a b : Bool) → ltb (num c) (num x) ≡ a → ltb (num x) (num c) ≡ b → ((y : Cell) × In y (put c xs) × (num y ≡ num c)) → (y : Cell) × In y (cond a (c ∷ x ∷ xs) (cond b (x ∷ put c xs) (x ∷ xs))) × (num y ≡ num c)
    go true b e f ih = (c, inl refl, refl)
    go false true e f ih = (ih.0, inr ih.1, ih.2)
    go false false e f ih = (x, inl refl, omega (arith, ltb-false (num c) (num x) e, ltb-false (num x) (num c) f))

put_rising : (c : Cell) (xs : List Cell) → CellsRise xs → CellsRise (put c xs)
put_rising c [] r = (λ y i. absurd i, tt)
put_rising c (x ∷ xs) r = go (ltb (num c) (num x)) (ltb (num x) (num c)) refl refl (put_rising c xs r.1)
  where
    go : (a b : Bool) → ltb (num c) (num x) ≡ a → ltb (num x) (num c) ≡ b → CellsRise (put c xs) → CellsRise (cond a (c ∷ x ∷ xs) (cond b (x ∷ put c xs) (x ∷ xs)))
    go true b e f ih =
        let l = ltb-true (num c) (num x) e in
        (λ y i. elim i [ inl g ↦ (let m = ap num g in omega arith) | inr k ↦ (let m = r.0 y k in omega arith) ], r)
    go false true e f ih =
        let l = ltb-true (num x) (num c) f in
        (λ y i. elim (put_in c xs y i) [ inl g ↦ (let m = ap num g in omega arith) | inr k ↦ r.0 y k ], ih)
    go false false e f ih = r

-- ---- the list that a store holds

abbrev Held_by : Store → Cell → Type 0
Held_by m c = (e : StoreRow Row) × (get m c.place ≡ Some e) × (e.payload ≡ c.row)

gather_rising : (m : Store) (ps : List ℕ) → CellsRise (gather m ps)
gather_rising m [] = tt
gather_rising m (p ∷ ps) = go (get m p) (gather_rising m ps)
  where
    go : (o : Option (StoreRow Row)) → CellsRise (gather m ps) → CellsRise (put_entry p o (gather m ps))
    go None r = r
    go (Some e) r = put_rising (record { place = p; row = e.payload }) (gather m ps) r

gather_in : (m : Store) (ps : List ℕ) (c : Cell) → In c (gather m ps) → Held_by m c
gather_in m [] c h = absurd h
gather_in m (p ∷ ps) c h = go (get m p) refl (gather_in m ps c) h
  where
    go : (o : Option (StoreRow Row)) → get m p ≡ o → (In c (gather m ps) → Held_by m c) → In c (put_entry p o (gather m ps)) → Held_by m c
    go None e ih k = ih k
    go (Some d) e ih k = elim (put_in (record { place = p; row = d.payload }) (gather m ps) c k) [
      | inl f ↦ (d, subst (λ (x : Cell). get m x.place ≡ Some d) f e, ap (λ (x : Cell). x.row) f)
      | inr i ↦ ih i
    ]

gather_has : (m : Store) (ps : List ℕ) (p : ℕ) (d : StoreRow Row) → get m p ≡ Some d → In p ps → (y : Cell) × In y (gather m ps) × (num y ≡ d.payload.serial)
gather_has m [] p d e i = absurd i
gather_has m (q ∷ ps) p d e i = go (get m q) refl (gather_has m ps p d e) i
  where
    go : (o : Option (StoreRow Row)) → get m q ≡ o → (In p ps → (y : Cell) × In y (gather m ps) × (num y ≡ d.payload.serial)) → In p (q ∷ ps) → (y : Cell) × In y (put_entry q o (gather m ps)) × (num y ≡ d.payload.serial)
    go None f ih (inl g) = let bad : None ≡ Some d = sym f ∙ ap (get m) g ∙ e in absurd (cc)
    go None f ih (inr k) = ih k
    go (Some h) f ih (inl g) =
        let same : Some h ≡ Some d = sym f ∙ ap (get m) g ∙ e in
        let is : h ≡ d = cc in
        let r = put_has (record { place = q; row = h.payload }) (gather m ps) in
        (r.0, r.1, r.2 ∙ ap (λ (x : StoreRow Row). x.payload.serial) is)
    go (Some h) f ih (inr k) =
        let r = ih k in
        (r.0, put_keeps (record { place = q; row = h.payload }) (gather m ps) r.0 r.1, r.2)

key_in : (ps : List ℕ) (p : ℕ) → list_any (eq_by_cmp nat_cmp p) ps ≡ true → In p ps
key_in [] p h = absurd (false≢true h)
key_in (q ∷ ps) p h = elim (or_cases (eq_by_cmp nat_cmp p q) (list_any (eq_by_cmp nat_cmp p) ps) h) [
  | inl e ↦ inl (sym (eqb-true p q (sym (unsigned_tied p q) ∙ e)))
  | inr k ↦ inr (key_in ps p k)
]

key_of : (m : Store) (p : ℕ) (d : StoreRow Row) → get m p ≡ Some d → In p (keys m)
key_of m p d e = key_in (keys m) p (sym (contains_key-keys m p) ∙ ap is_some e)

-- ---- places

pub at_place_in : (p : ℕ) (xs : List Cell) (c : Cell) → at_place p xs ≡ Some c → In c xs × (c.place ≡ p)
at_place_in p [] c h = absurd (cc)
at_place_in p (x ∷ xs) c h = go (x.place == p) refl (at_place_in p xs c) h
  where
    go : (b : Bool) → (x.place == p) ≡ b → (at_place p xs ≡ Some c → In c xs × (c.place ≡ p)) → cond b (Some x) (at_place p xs) ≡ Some c → In c (x ∷ xs) × (c.place ≡ p)
    go true e ih k = let f : x ≡ c = cc in (inl f, ap (λ (y : Cell). y.place) (sym f) ∙ eqb-true x.place p e)
    go false e ih k = let r = ih k in (inr r.0, r.1)

pub at_place_none : (p : ℕ) (xs : List Cell) → ((c : Cell) → In c xs → c.place ≢ p) → at_place p xs ≡ None
at_place_none p [] h = refl
at_place_none p (x ∷ xs) h = rw (ne_eqb x.place p (h x (inl refl))) (at_place_none p xs (λ c i. h c (inr i)))

abbrev Apart : List Cell → Type 0
Apart xs = (a b : Cell) → In a xs → In b xs → a.place ≡ b.place → a ≡ b

pub at_place_is : (xs : List Cell) → Apart xs → (c : Cell) → In c xs → at_place c.place xs ≡ Some c
at_place_is [] a c i = absurd i
at_place_is (x ∷ xs) a c i = go (x.place == c.place) refl (at_place_is xs (λ s t j l. a s t (inr j) (inr l)) c) i
  where
    go : (b : Bool) → (x.place == c.place) ≡ b → (In c xs → at_place c.place xs ≡ Some c) → In c (x ∷ xs) → cond b (Some x) (at_place c.place xs) ≡ Some c
    go true e ih k = ap (λ y. Some y) (a x c (inl refl) i (eqb-true x.place c.place e))
    go false e ih (inl f) = absurd (false≢true (sym e ∙ eq-eqb x.place c.place (ap (λ (y : Cell). y.place) f)))
    go false e ih (inr k) = ih k

pub at_serial_is : (xs : List Cell) → CellsRise xs → (c : Cell) (k : ℕ) → In c xs → num c ≡ k → at_serial k xs ≡ Some c
at_serial_is [] r c k i f = absurd i
at_serial_is (x ∷ xs) r c k (inl e) f = rw (eq-eqb (num x) k (ap num e ∙ f)) (ap (λ y. Some y) e)
at_serial_is (x ∷ xs) r c k (inr i) f = rw (ne_eqb (num x) k (λ e. let l = r.0 c i in absurd (omega arith))) (at_serial_is xs r.1 c k i f)

-- ---- the list is the store's, and no other is

module _ (m : Store) (xs : List Cell) (s : Shape m xs) where
  pub held_in : (p : ℕ) (e : StoreRow Row) → get m p ≡ Some e → (c : Cell) × In c xs × (c.place ≡ p) × (e ≡ entry_in xs c)
  held_in p e g = go (at_place p xs) refl
    where
      go : (o : Option Cell) → at_place p xs ≡ o → (c : Cell) × In c xs × (c.place ≡ p) × (e ≡ entry_in xs c)
      go None f =
          let bad : Some e ≡ None = sym g ∙ s.gets p ∙ ap (option_map (entry_in xs)) f in
          absurd (cc)
      go (Some c) f =
          let a = at_place_in p xs c f in
          let is : Some e ≡ Some (entry_in xs c) = sym g ∙ s.gets p ∙ ap (option_map (entry_in xs)) f in
          (c, a.0, a.1, some_is _ _ is)
        where
          some_is : (x y : StoreRow Row) → Some x ≡ Some y → x ≡ y
          some_is x y h = cc

  pub get_of : (c : Cell) → In c xs → get m c.place ≡ Some (entry_in xs c)
  get_of c i = s.gets c.place ∙ ap (option_map (entry_in xs)) (at_place_is xs s.apart c i)

  pub cells_is : cells m ≡ xs
  unfolding cells
  cells_is = same_rising (gather m (keys m)) xs (gather_rising m (keys m)) s.rising fwd bwd
    where
      fwd : (c : Cell) → In c (gather m (keys m)) → In c xs
      fwd c i =
          let h = gather_in m (keys m) c i in
          let r = held_in c.place h.0 h.1 in
          let rows : r.0.row ≡ c.row = sym (ap (λ (x : StoreRow Row). x.payload) r.3) ∙ h.2 in
          let places : r.0.place ≡ c.place = r.2 in
          let same : r.0 ≡ c = λ t. record { place = places t; row = rows t } in
          subst (λ (x : Cell). In x xs) same r.1

      bwd : (c : Cell) → In c xs → In c (gather m (keys m))
      bwd c i =
          let g = get_of c i in
          let r = gather_has m (keys m) c.place (entry_in xs c) g (key_of m c.place (entry_in xs c) g) in
          subst (λ (x : Cell). In x (gather m (keys m))) (rising_same xs s.rising r.0 c (fwd r.0 r.1) i r.2) r.1

  pub shaped : Shaped m
  shaped = subst (λ (ys : List Cell). Shape m ys) (sym cells_is) s

-- the number of rows
module _ (xs : List Cell) where
  pub built : List Cell → Store
  built [] = empty
  built (c ∷ cs) = insert (built cs) c.place (entry_in xs c)

  get_built : (cs : List Cell) (q : ℕ) → get (built cs) q ≡ option_map (entry_in xs) (at_place q cs)
  unfolding built
  get_built [] q = get-empty nat_cmp q
  get_built (c ∷ cs) q = get-insert nat_cmp_total (built cs) c.place (entry_in xs c) q ∙ ap (λ b. cond b (Some (entry_in xs c)) (get (built cs) q)) (unsigned_tied q c.place ∙ flip q c.place) ∙ go (c.place == q) (get_built cs q)
    where
      flip : (a b : ℕ) → (a == b) ≡ (b == a)
      flip a b = elim (cases_eq a b) [ inl e ↦ rw e refl | inr n ↦ ne_eqb a b n ∙ sym (ne_eqb b a (λ e. n (sym e))) ]

      go : (b : Bool) → get (built cs) q ≡ option_map (entry_in xs) (at_place q cs) → cond b (Some (entry_in xs c)) (get (built cs) q) ≡ option_map (entry_in xs) (cond b (Some c) (at_place q cs))
      go true h = refl
      go false h = h

  len_built : (cs : List Cell) → CellsRise cs → Apart cs → len (built cs) ≡ length cs
  unfolding built
  len_built [] r a = len-empty nat_cmp (StoreRow Row)
  len_built (c ∷ cs) r a =
      let none : is_some (get (built cs) c.place) ≡ false =
      ap is_some (get_built cs c.place ∙ ap (option_map (entry_in xs)) (at_place_none c.place cs (λ z i e. let l = r.0 z i in let m = ap num (a z c (inr i) (inl refl) e) in absurd (omega arith)))) in
      len-insert nat_cmp_total (built cs) c.place (entry_in xs c) ∙ ap (λ b. cond b (len (built cs)) (len (built cs) + 1)) none
      ∙ omega (arith, len_built cs r.1 (λ s t i j. a s t (inr i) (inr j)))

pub rows_number : (m : Store) (xs : List Cell) → Shape m xs → len m ≡ length xs
rows_number m xs s =
    ap len (same_map nat_cmp_total nat_cmp-IsAntisymmetric m (built xs xs) (λ q. s.gets q ∙ sym (get_built xs xs q))) ∙ len_built xs xs s.rising s.apart

-- a store that holds exactly these rows
pub built_shape : (xs : List Cell) → CellsRise xs → Apart xs → ((c : Cell) → In c xs → (num c ≡ 0) ⊎ Above xs c) → Shape (built xs xs) xs
built_shape xs r a u = record { gets = get_built xs xs; rising = r; apart = a; up = u }
