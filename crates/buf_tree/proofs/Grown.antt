-- The list of rows with one more.
use Rattle.std.proofs.Common.{◌≡◌, ◌≢◌, ◌==◌, ℕ, ◌<◌, Bool, true, false, cond, not, List, [], ◌∷◌, ◌++◌, map, refl, sym, ◌∙◌, ap, subst, inl, inr, arith, Some, None, Option}
use Rattle.std.specs.Prelude.{option_map}
use Rattle.std.specs.List.{filter}
use Rattle.std.specs.Ordering.{nat_cmp}
use Rattle.std.specs.FinMap.{empty, get, insert, get-empty}
use Rattle.std.proofs.lemmas.List.{append-nil, map-append}
use Rattle.std.proofs.lemmas.List.Elements.{filter-append}
use Rattle.std.proofs.lemmas.Bool.{and_parts, true≢false, false≢true, eqb-true, eq-eqb, ne_eqb, cases_eq, false_from_ne_true}
use Rattle.tree_laws.proofs.Lists.{In, In-left, In-append, filter_none}
use Rattle.node_store.specs.Rows.{StoreRow, leaf, with_child, planted, appended}
use Rattle.buf_tree.specs.Row.{Row}
use Rattle.buf_tree.specs.Shape.{Store, Cell, num, CellsRise, at_place, at_serial, place_for, is_under, entry_in, Shape}
use Rattle.buf_tree.proofs.Shaping.{at_place_in, at_place_is, at_serial_is}
use Rattle.buf_tree.proofs.Changes.{get_put, get_changed, none_either}

pub Rising-push : (xs : List Cell) (n : Cell) → CellsRise xs → ((x : Cell) → In x xs → num x < num n) → CellsRise (xs ++ n ∷ [])
Rising-push [] n r h = (λ y i. absurd i, tt)
Rising-push (x ∷ xs) n r h = (
  λ y i. elim (In-append y xs (n ∷ []) i) [
    | inl k ↦ r.0 y k
    | inr k ↦ elim k [ inl e ↦ (let l = h x (inl refl) in let m = ap num e in omega arith) | inr z ↦ absurd z ]
  ],
  Rising-push xs n r.1 (λ y i. h y (inr i)),
)

at_serial-append : (k : ℕ) (xs zs : List Cell) (d : Cell) → at_serial k xs ≡ Some d → at_serial k (xs ++ zs) ≡ Some d
at_serial-append k [] zs d e = absurd (cc)
at_serial-append k (x ∷ xs) zs d e = go (num x == k) (at_serial-append k xs zs d) e
  where
    go : (b : Bool) → (at_serial k xs ≡ Some d → at_serial k (xs ++ zs) ≡ Some d) → cond b (Some x) (at_serial k xs) ≡ Some d → cond b (Some x) (at_serial k (xs ++ zs)) ≡ Some d
    go true ih h = h
    go false ih h = ih h

abbrev pub or_else : Option Cell → Option Cell → Option Cell
or_else (Some c) o = Some c
or_else None o = o

at_place-push : (r : ℕ) (xs : List Cell) (n : Cell) → at_place r (xs ++ n ∷ []) ≡ or_else (at_place r xs) (cond (n.place == r) (Some n) None)
at_place-push r [] n = refl
at_place-push r (x ∷ xs) n = go (x.place == r) (at_place-push r xs n)
  where
    go : (b : Bool) → at_place r (xs ++ n ∷ []) ≡ or_else (at_place r xs) (cond (n.place == r) (Some n) None) → cond b (Some x) (at_place r (xs ++ n ∷ [])) ≡ or_else (cond b (Some x) (at_place r xs)) (cond (n.place == r) (Some n) None)
    go true h = refl
    go false h = h

module _ (m : Store) (xs : List Cell) (s : Shape m xs) (c0 : Cell) (i0 : In c0 xs) (p : ℕ) (row : Row) (free : get m p ≡ None)
    (under : row.parent ≡ num c0) (last : (x : Cell) → In x xs → num x < row.serial) where
  abbrev new : Cell
  new = record { place = p; row = row }

  abbrev ys : List Cell
  ys = xs ++ record { place = p; row = row } ∷ []

  none_there : at_place p xs ≡ None
  none_there = go (at_place p xs) refl
    where
      go : (o : Option Cell) → at_place p xs ≡ o → o ≡ None
      go None e = refl
      go (Some c) e = let bad : None ≡ Some (entry_in xs c) = sym free ∙ s.gets p ∙ ap (option_map (entry_in xs)) e in absurd (cc)

  away : (c : Cell) → In c xs → c.place ≢ p
  away c i e =
      let bad : None ≡ Some c = sym none_there ∙ ap (λ z. at_place z xs) (sym e) ∙ at_place_is xs s.apart c i in
      absurd (cc)

  not_root : (row.serial == 0) ≡ false
  not_root = ne_eqb row.serial 0 (λ e. let l = last c0 i0 in absurd (omega arith))

  place_for-kept : (c : Cell) → In c xs → place_for ys c.row ≡ place_for xs c.row
  place_for-kept c i = elim (s.up c i) [
    | inl z ↦ rw (eq-eqb (num c) 0 z) refl
    | inr h ↦ (let a = at_serial_is xs s.rising h.0 c.row.parent h.1 h.2 in
        ap (λ o. cond (num c == 0) None (option_map (λ (d : Cell). d.place) o)) (at_serial-append c.row.parent xs (new ∷ []) h.0 a ∙ sym a))
  ]

  -- the children of a row that was there
  children-more : (c : Cell) → map (λ (d : Cell). d.place) (filter (is_under (num c)) ys) ≡ map (λ (d : Cell). d.place) (filter (is_under (num c)) xs) ++ cond (num c == num c0) (p ∷ []) []
  children-more c =
      ap (map (λ (d : Cell). d.place)) (filter-append (is_under (num c)) xs (new ∷ []))
      ∙ map-append (λ (d : Cell). d.place) (filter (is_under (num c)) xs) (filter (is_under (num c)) (new ∷ []))
      ∙ ap (λ z. map (λ (d : Cell). d.place) (filter (is_under (num c)) xs) ++ z) (one (num c == num c0) refl)
    where
      test : is_under (num c) new ≡ (num c == num c0)
      test = rw not_root (rw under (flip (num c0) (num c)))
        where
          flip : (a b : ℕ) → (a == b) ≡ (b == a)
          flip a b = elim (cases_eq a b) [
            | inl e ↦ rw e refl
            | inr n ↦ ne_eqb a b n ∙ sym (ne_eqb b a (λ e. n (sym e)))
          ]

      one : (b : Bool) → (num c == num c0) ≡ b → map (λ (d : Cell). d.place) (cond (is_under (num c) new) (new ∷ []) []) ≡ cond b (p ∷ []) []
      one true e = rw (test ∙ e) refl
      one false e = rw (test ∙ e) refl

  entry-kept : (c : Cell) → In c xs → num c ≢ num c0 → entry_in ys c ≡ entry_in xs c
  entry-kept c i n = λ t. record {
    parent = place_for-kept c i t;
    children = kids t;
    payload = c.row;
  }
    where
      kids : map (λ (d : Cell). d.place) (filter (is_under (num c)) ys) ≡ map (λ (d : Cell). d.place) (filter (is_under (num c)) xs)
      kids = children-more c ∙ ap (λ b. map (λ (d : Cell). d.place) (filter (is_under (num c)) xs) ++ cond b (p ∷ []) []) (ne_eqb (num c) (num c0) n) ∙ append-nil (map (λ (d : Cell). d.place) (filter (is_under (num c)) xs))

  entry-parent : entry_in ys c0 ≡ with_child p (entry_in xs c0)
  entry-parent = λ t. record {
    parent = place_for-kept c0 i0 t;
    children = kids t;
    payload = c0.row;
  }
    where
      kids : map (λ (d : Cell). d.place) (filter (is_under (num c0)) ys) ≡ map (λ (d : Cell). d.place) (filter (is_under (num c0)) xs) ++ p ∷ []
      kids = children-more c0 ∙ ap (λ b. map (λ (d : Cell). d.place) (filter (is_under (num c0)) xs) ++ cond b (p ∷ []) []) (eq-eqb (num c0) (num c0) refl)

  entry-new : entry_in ys new ≡ leaf (Some c0.place) row
  entry-new = λ t. record { parent = par t; children = none t; payload = row }
    where
      par : place_for ys row ≡ Some c0.place
      par = rw not_root (ap (option_map (λ (d : Cell). d.place)) (at_serial-append row.parent xs (new ∷ []) c0 (at_serial_is xs s.rising c0 row.parent i0 (sym under))))

      none : map (λ (d : Cell). d.place) (filter (is_under row.serial) ys) ≡ []
      none = ap (map (λ (d : Cell). d.place)) (filter_none (is_under row.serial) ys (λ d i. false_from_ne_true _ (λ u.
          let a = and_parts (not (num d == 0)) (d.row.parent == row.serial) u in
          let e = eqb-true d.row.parent row.serial a.1 in
          elim (In-append d xs (new ∷ []) i) [
            | inl j ↦ elim (s.up d j) [
              | inl z ↦ false≢true (ap not (sym (eq-eqb (num d) 0 z)) ∙ a.0)
              | inr h ↦ (let l = last d j in absurd (omega (arith, h.2, h.3)))
            ]
            | inr j ↦ elim j [ inl f ↦ (let l = last c0 i0 in let g = ap (λ (x : Cell). x.row.parent) f in absurd (omega arith)) | inr z ↦ absurd z ]
          ])))

  pub shape_appended : Shape (appended m c0.place p row) ys
  shape_appended = record {
    gets = λ r. get_changed (with_child p) c0.place (insert m p (leaf (Some c0.place) row)) r
        ∙ rw (get_put m p (leaf (Some c0.place) row) r) (rw (s.gets r) (each r (at_place r xs) refl (r == p) refl (r == c0.place) refl))
        ∙ ap (option_map (entry_in ys)) (sym (at_place-push r xs new));
    rising = Rising-push xs new s.rising last;
    apart = λ a b i j e. elim (In-append a xs (new ∷ []) i) [
      | inl k ↦ elim (In-append b xs (new ∷ []) j) [
        | inl l ↦ s.apart a b k l e
        | inr l ↦ elim l [ inl f ↦ absurd (away a k (e ∙ ap (λ (x : Cell). x.place) (sym f))) | inr z ↦ absurd z ]
      ]
      | inr k ↦ elim k [
        | inl f ↦ elim (In-append b xs (new ∷ []) j) [
          | inl l ↦ absurd (away b l (sym e ∙ ap (λ (x : Cell). x.place) (sym f)))
          | inr l ↦ elim l [ inl g ↦ sym f ∙ g | inr z ↦ absurd z ]
        ]
        | inr z ↦ absurd z
      ]
    ];
    up = λ c i. elim (In-append c xs (new ∷ []) i) [
      | inl k ↦ elim (s.up c k) [ inl z ↦ inl z | inr h ↦ inr (h.0, In-left h.0 xs (new ∷ []) h.1, h.2, h.3) ]
      | inr k ↦ elim k [
        | inl f ↦ inr (c0, In-left c0 xs (new ∷ []) i0, sym under ∙ ap (λ (x : Cell). x.row.parent) f, subst (λ (x : Cell). num c0 < num x) f (last c0 i0))
        | inr z ↦ absurd z
      ]
    ];
  }
    where
      each : (r : ℕ) (o : Option Cell) → at_place r xs ≡ o → (a : Bool) → (r == p) ≡ a → (b : Bool) → (r == c0.place) ≡ b
          → cond (r == c0.place) (option_map (with_child p) (cond (r == p) (Some (leaf (Some c0.place) row)) (option_map (entry_in xs) o))) (cond (r == p) (Some (leaf (Some c0.place) row)) (option_map (entry_in xs) o))
          ≡ option_map (entry_in ys) (or_else o (cond (p == r) (Some new) None))
      each r o e true f true g = absurd (away c0 i0 (sym (eqb-true _ _ g) ∙ eqb-true _ _ f))
      each r None e true f false g = rw (g, f, eq-eqb p r (sym (eqb-true r p f))) (ap (λ z. Some z) (sym entry-new))
      each r None e false f b g = rw (f, ne_eqb p r (λ h. true≢false (sym (eq-eqb r p (sym h)) ∙ f))) (none_either (r == c0.place))
      each r (Some c) e true f b g = absurd (away c (at_place_in r xs c e).0 ((at_place_in r xs c e).1 ∙ eqb-true _ _ f))
      each r (Some c) e false f true g =
          let k = at_place_in r xs c e in
          let is : c ≡ c0 = s.apart c c0 k.0 i0 (k.1 ∙ eqb-true _ _ g) in
          rw (g, f) (ap (λ z. Some z) (ap (λ (x : Cell). with_child p (entry_in xs x)) is ∙ sym entry-parent ∙ ap (entry_in ys) (sym is)))
      each r (Some c) e false f false g =
          let k = at_place_in r xs c e in
          rw (g, f) (ap (λ z. Some z) (sym (entry-kept c k.0 (λ n. true≢false (sym (eq-eqb r c0.place (sym k.1 ∙ ap (λ (x : Cell). x.place) (same c k.0 n))) ∙ g)))))
        where
          same : (c : Cell) → In c xs → num c ≡ num c0 → c ≡ c0
          same c i n =
              let a = at_serial_is xs s.rising c (num c0) i n in
              let b = at_serial_is xs s.rising c0 (num c0) i0 refl in
              let ab : Some c ≡ Some c0 = sym a ∙ b in
              cc

-- the first row
pub shape_planted : (p : ℕ) (row : Row) → row.serial ≡ 0 → Shape (planted empty p row) (record { place = p; row = row } ∷ [])
shape_planted p row z = record {
  gets = λ r. get_put empty p (leaf None row) r ∙ rw (get-empty {X = StoreRow Row} nat_cmp r) (each r (r == p) refl);
  rising = (λ y i. absurd i, tt);
  apart = λ a b i j e. elim i [ inl f ↦ elim j [ inl g ↦ sym f ∙ g | inr k ↦ absurd k ] | inr k ↦ absurd k ];
  up = λ c i. elim i [ inl f ↦ inl (ap num (sym f) ∙ z) | inr k ↦ absurd k ];
}
  where
    self : entry_in (record { place = p; row = row } ∷ []) (record { place = p; row = row }) ≡ leaf None row
    self = rw (eq-eqb row.serial 0 z) refl

    each : (r : ℕ) (b : Bool) → (r == p) ≡ b → cond (r == p) (Some (leaf None row)) None ≡ option_map (entry_in (record { place = p; row = row } ∷ [])) (cond (p == r) (Some (record { place = p; row = row })) None)
    each r true f = rw (f, eq-eqb p r (sym (eqb-true r p f))) (ap (λ y. Some y) (sym self))
    each r false f = rw (f, ne_eqb p r (λ h. true≢false (sym (eq-eqb r p (sym h)) ∙ f))) refl
