-- The list of rows after each call of the store.
use Rattle.std.proofs.Common.{◌≡◌, ◌≢◌, ◌==◌, ℕ, ◌<◌, Bool, true, false, cond, not, ◌&&◌, List, [], ◌∷◌, map, refl, sym, ◌∙◌, ap, subst, inl, inr, ◌⊎◌, arith, Some, None, Option}
use Rattle.std.specs.Prelude.{option_map, option_and_then}
use Rattle.std.specs.List.{filter}
use Rattle.std.specs.Cmp.{nat_cmp_total, unsigned_tied}
use Rattle.std.specs.FinMap.{get, insert, remove, get-insert, get-remove}
use Rattle.std.proofs.lemmas.Bool.{and_parts, and_from, true≢false, false≢true, eqb-true, eq-eqb, ne_eqb, false_from_ne_true}
use Rattle.base_laws.proofs.Members.{filter_all, in_map, from_map}
use Rattle.tree_laws.proofs.Lists.{In, In-filter, In-kept}
use Rattle.node_store.specs.Rows.{StoreRow, without_child, changed, changed_at, parent_of, left_by, unlinked, paid_by}
use Rattle.buf_tree.specs.Row.{Row}
use Rattle.buf_tree.specs.Shape.{Store, Cell, num, CellsRise, at_place, at_serial, place_for, is_under, entry_in, Above, Shape, with_at, without}
use Rattle.buf_tree.proofs.Shaping.{at_place_in, at_serial_is, held_in, get_of}

-- ---- reading a changed map

pub get_put : (m : Store) (k : ℕ) (v : StoreRow Row) (r : ℕ) → get (insert m k v) r ≡ cond (r == k) (Some v) (get m r)
get_put m k v r = get-insert nat_cmp_total m k v r ∙ ap (λ b. cond b (Some v) (get m r)) (unsigned_tied r k)

get_out : (m : Store) (k r : ℕ) → get (remove m k) r ≡ cond (r == k) None (get m r)
get_out m k r = get-remove nat_cmp_total m k r ∙ ap (λ b. cond b None (get m r)) (unsigned_tied r k)

pub get_changed : (f : StoreRow Row → StoreRow Row) (q : ℕ) (m : Store) (r : ℕ) → get (changed_at f q m) r ≡ cond (r == q) (option_map f (get m r)) (get m r)
get_changed f q m r = go (get m q) refl (r == q) refl
  where
    go : (o : Option (StoreRow Row)) → get m q ≡ o → (b : Bool) → (r == q) ≡ b → get (changed f q m o) r ≡ cond b (option_map f (get m r)) (get m r)
    go None e false g = refl
    go None e true g = let is : get m r ≡ None = ap (get m) (eqb-true r q g) ∙ e in rw is refl
    go (Some d) e b g = get_put m q (f d) r ∙ (rw g (last b g))
      where
        last : (b : Bool) → (r == q) ≡ b → cond b (Some (f d)) (get m r) ≡ cond b (option_map f (get m r)) (get m r)
        last false h = refl
        last true h = let is : get m r ≡ Some d = ap (get m) (eqb-true r q h) ∙ e in rw is refl

-- ---- lists

pub none_either : {X : Type 0} (b : Bool) → ◌≡◌ {A = Option X} (cond b None None) None
none_either true = refl
none_either false = refl

map_alike : {X Y : Type 0} (f g : X → Y) (xs : List X) → ((x : X) → f x ≡ g x) → map f xs ≡ map g xs
map_alike f g [] h = refl
map_alike f g (x ∷ xs) h = λ t. h x t ∷ map_alike f g xs h t

pub map-map : {X Y Z : Type 0} (f : X → Y) (g : Y → Z) (xs : List X) → map g (map f xs) ≡ map (λ x. g (f x)) xs
map-map f g [] = refl
map-map f g (x ∷ xs) = ap (λ z. g (f x) ∷ z) (map-map f g xs)

pub Rising-filtered : (p : Cell → Bool) (xs : List Cell) → CellsRise xs → CellsRise (filter p xs)
Rising-filtered p [] r = tt
Rising-filtered p (x ∷ xs) r = go (p x) (Rising-filtered p xs r.1)
  where
    go : (b : Bool) → CellsRise (filter p xs) → CellsRise (cond b (x ∷ filter p xs) (filter p xs))
    go true h = (λ y i. r.0 y (In-filter p y xs i).0, h)
    go false h = h

-- ---- a changed row

module _ (f : Row → Row) (p : ℕ) (keeps : (r : Row) → ((f r).serial ≡ r.serial) × ((f r).parent ≡ r.parent)) where
  abbrev g : Cell → Cell
  g c = with_at f p c

  pub g_place : (c : Cell) → (g c).place ≡ c.place
  g_place c = go (c.place == p)
    where
      go : (b : Bool) → (cond b (record { place = c.place; row = f c.row }) c).place ≡ c.place
      go true = refl
      go false = refl

  pub g_num : (c : Cell) → num (g c) ≡ num c
  g_num c = go (c.place == p)
    where
      go : (b : Bool) → num (cond b (record { place = c.place; row = f c.row }) c) ≡ num c
      go true = (keeps c.row).0
      go false = refl

  pub g_parent : (c : Cell) → (g c).row.parent ≡ c.row.parent
  g_parent c = go (c.place == p)
    where
      go : (b : Bool) → (cond b (record { place = c.place; row = f c.row }) c).row.parent ≡ c.row.parent
      go true = (keeps c.row).1
      go false = refl

  at_place-g : (r : ℕ) (xs : List Cell) → at_place r (map g xs) ≡ option_map g (at_place r xs)
  at_place-g r [] = refl
  at_place-g r (x ∷ xs) = ap (λ z. cond (z == r) (Some (g x)) (at_place r (map g xs))) (g_place x) ∙ go (x.place == r) (at_place-g r xs)
    where
      go : (b : Bool) → at_place r (map g xs) ≡ option_map g (at_place r xs) → cond b (Some (g x)) (at_place r (map g xs)) ≡ option_map g (cond b (Some x) (at_place r xs))
      go true h = refl
      go false h = h

  at_serial-g : (k : ℕ) (xs : List Cell) → at_serial k (map g xs) ≡ option_map g (at_serial k xs)
  at_serial-g k [] = refl
  at_serial-g k (x ∷ xs) = ap (λ z. cond (z == k) (Some (g x)) (at_serial k (map g xs))) (g_num x) ∙ go (num x == k) (at_serial-g k xs)
    where
      go : (b : Bool) → at_serial k (map g xs) ≡ option_map g (at_serial k xs) → cond b (Some (g x)) (at_serial k (map g xs)) ≡ option_map g (cond b (Some x) (at_serial k xs))
      go true h = refl
      go false h = h

  under-g : (k : ℕ) (xs : List Cell) → filter (is_under k) (map g xs) ≡ map g (filter (is_under k) xs)
  under-g k [] = refl
  under-g k (x ∷ xs) = ap (λ z. cond z (g x ∷ filter (is_under k) (map g xs)) (filter (is_under k) (map g xs))) same ∙ go (is_under k x) (under-g k xs)
    where
      same : is_under k (g x) ≡ is_under k x
      same = λ t. not (g_num x t == 0) && (g_parent x t == k)

      go : (b : Bool) → filter (is_under k) (map g xs) ≡ map g (filter (is_under k) xs) → cond b (g x ∷ filter (is_under k) (map g xs)) (filter (is_under k) (map g xs)) ≡ map g (cond b (x ∷ filter (is_under k) xs) (filter (is_under k) xs))
      go true h = ap (λ z. g x ∷ z) h
      go false h = h

  place_for-g : (xs : List Cell) (c : Cell) → place_for (map g xs) (g c).row ≡ place_for xs c.row
  place_for-g xs c =
      (λ t. cond (g_num c t == 0) None (option_map (λ (d : Cell). d.place) (at_serial (g_parent c t) (map g xs))))
      ∙ ap (λ z. cond (num c == 0) None (option_map (λ (d : Cell). d.place) z)) (at_serial-g c.row.parent xs)
      ∙ ap (λ z. cond (num c == 0) None z) (go (at_serial c.row.parent xs))
    where
      go : (o : Option Cell) → option_map (λ (d : Cell). d.place) (option_map g o) ≡ option_map (λ (d : Cell). d.place) o
      go None = refl
      go (Some d) = ap (λ z. Some z) (g_place d)

  children-g : (xs : List Cell) (c : Cell) → map (λ (d : Cell). d.place) (filter (is_under (num (g c))) (map g xs)) ≡ map (λ (d : Cell). d.place) (filter (is_under (num c)) xs)
  children-g xs c =
      ap (λ k. map (λ (d : Cell). d.place) (filter (is_under k) (map g xs))) (g_num c)
      ∙ ap (map (λ (d : Cell). d.place)) (under-g (num c) xs)
      ∙ map-map g (λ (d : Cell). d.place) (filter (is_under (num c)) xs)
      ∙ map_alike (λ (d : Cell). (g d).place) (λ (d : Cell). d.place) (filter (is_under (num c)) xs) g_place

  entry-g : (xs : List Cell) (c : Cell) → entry_in (map g xs) (g c) ≡ record { parent = place_for xs c.row; children = map (λ (d : Cell). d.place) (filter (is_under (num c)) xs); payload = (g c).row }
  entry-g xs c = λ t. record { parent = place_for-g xs c t; children = children-g xs c t; payload = (g c).row }

  pub shape_changed : (m : Store) (xs : List Cell) → Shape m xs → Shape (changed_at (paid_by f) p m) (map g xs)
  shape_changed m xs s = record {
    gets = λ r. get_changed (paid_by f) p m r ∙ (rw (s.gets r) (each r (at_place r xs) refl)) ∙ ap (option_map (entry_in (map g xs))) (sym (at_place-g r xs));
    rising = rise xs s.rising;
    apart = λ a b i j e.
        let x = from_map g a xs i in
        let y = from_map g b xs j in
        let same : x.0 ≡ y.0 = s.apart x.0 y.0 x.1 y.1 (sym (g_place x.0) ∙ ap (λ (z : Cell). z.place) x.2 ∙ e ∙ sym (ap (λ (z : Cell). z.place) y.2) ∙ g_place y.0) in
        sym x.2 ∙ ap g same ∙ y.2;
    up = λ a i. let x = from_map g a xs i in subst (λ (z : Cell). (num z ≡ 0) ⊎ Above (map g xs) z) x.2 (upper x.0 (s.up x.0 x.1));
  }
    where
      each : (r : ℕ) (o : Option Cell) → at_place r xs ≡ o → cond (r == p) (option_map (paid_by f) (option_map (entry_in xs) o)) (option_map (entry_in xs) o) ≡ option_map (entry_in (map g xs)) (option_map g o)
      each r None e = none_either (r == p)
      each r (Some c) e = subst (λ z. cond (z == p) (Some (paid_by f (entry_in xs c))) (Some (entry_in xs c)) ≡ Some (entry_in (map g xs) (g c))) (at_place_in r xs c e).1
          (go (c.place == p) refl ∙ ap (λ z. Some z) (sym (entry-g xs c)))
        where
          go : (b : Bool) → (c.place == p) ≡ b → cond b (Some (paid_by f (entry_in xs c))) (Some (entry_in xs c)) ≡ Some (record { parent = place_for xs c.row; children = map (λ (d : Cell). d.place) (filter (is_under (num c)) xs); payload = (g c).row })
          go true h = rw h refl
          go false h = rw h refl

      rise : (ys : List Cell) → CellsRise ys → CellsRise (map g ys)
      rise [] r = tt
      rise (y ∷ ys) r = (λ z i. let x = from_map g z ys i in let l = r.0 x.0 x.1 in let a = g_num y in let b = g_num x.0 in let d = ap num x.2 in omega arith, rise ys r.1)

      upper : (x : Cell) → (num x ≡ 0) ⊎ Above xs x → (num (g x) ≡ 0) ⊎ Above (map g xs) (g x)
      upper x (inl e) = inl (g_num x ∙ e)
      upper x (inr h) =
          let a = g_num h.0 in
          let b = g_num x in
          inr (g h.0, in_map g h.0 xs h.1, a ∙ h.2 ∙ sym (g_parent x), omega (arith, h.3))

-- ---- a leaf less

module _ (m : Store) (xs : List Cell) (s : Shape m xs) (c0 : Cell) (i0 : In c0 xs) (spare : (d : Cell) → In d xs → is_under (num c0) d ≡ false) where
  abbrev ys : List Cell
  ys = without c0.place xs

  other : (c : Cell) → In c xs → c.place ≢ c0.place → In c ys
  other c i n = In-kept (λ (d : Cell). not (d.place == c0.place)) c xs i (ap not (ne_eqb c.place c0.place n))

  left : (c : Cell) → In c ys → In c xs × (c.place ≢ c0.place)
  left c i = let r = In-filter (λ (d : Cell). not (d.place == c0.place)) c xs i in (r.0, λ e. false≢true (ap not (sym (eq-eqb c.place c0.place e)) ∙ r.1))

  -- the node above one that stays isn't the leaf
  above_stays : (c d : Cell) → In c xs → In d xs → num d ≡ c.row.parent → num d < num c → d.place ≢ c0.place
  above_stays c d i j e l same =
      let is : d ≡ c0 = s.apart d c0 j i0 same in
      let k : num d ≡ num c0 = ap num is in
      false≢true (sym (spare c i) ∙ and_from _ _ (ap not (ne_eqb (num c) 0 (λ z. absurd (omega arith)))) (eq-eqb c.row.parent (num c0) (sym e ∙ k)))

  place_for-left : (c : Cell) → In c xs → place_for ys c.row ≡ place_for xs c.row
  place_for-left c i = elim (s.up c i) [
    | inl z ↦ rw (eq-eqb (num c) 0 z) refl
    | inr h ↦ ap (λ o. cond (num c == 0) None (option_map (λ (d : Cell). d.place) o))
        (at_serial_is ys (Rising-filtered (λ (d : Cell). not (d.place == c0.place)) xs s.rising) h.0 c.row.parent (other h.0 h.1 (above_stays c h.0 i h.1 h.2 h.3)) h.2
        ∙ sym (at_serial_is xs s.rising h.0 c.row.parent h.1 h.2))
  ]

  children-left : (k : ℕ) (zs : List Cell) → map (λ (d : Cell). d.place) (filter (is_under k) (without c0.place zs)) ≡ filter (λ q. not (q == c0.place)) (map (λ (d : Cell). d.place) (filter (is_under k) zs))
  children-left k [] = refl
  children-left k (z ∷ zs) = go (not (z.place == c0.place)) (is_under k z) refl refl (children-left k zs)
    where
      pl : Cell → ℕ
      pl = λ d. d.place

      go : (a b : Bool) → not (z.place == c0.place) ≡ a → is_under k z ≡ b → map (λ (d : Cell). d.place) (filter (is_under k) (without c0.place zs)) ≡ filter (λ q. not (q == c0.place)) (map (λ (d : Cell). d.place) (filter (is_under k) zs))
          → map (λ (d : Cell). d.place) (filter (is_under k) (cond a (z ∷ without c0.place zs) (without c0.place zs))) ≡ filter (λ q. not (q == c0.place)) (map (λ (d : Cell). d.place) (cond b (z ∷ filter (is_under k) zs) (filter (is_under k) zs)))
      go true true e f h = rw (f, e) (ap (λ t. z.place ∷ t) h)
      go true false e f h = rw f h
      go false true e f h = rw e h
      go false false e f h = h

  -- a row that isn't the leaf's parent keeps its children
  same_children : (c : Cell) → is_under (num c) c0 ≡ false → without_child c0.place (entry_in xs c) ≡ entry_in xs c
  same_children c n = ap (λ z. record { parent = place_for xs c.row; children = z; payload = c.row })
      (filter_all (λ q. not (q == c0.place)) (map (λ (d : Cell). d.place) (filter (is_under (num c)) xs)) (λ q i.
      let r = from_map (λ (d : Cell). d.place) q (filter (is_under (num c)) xs) i in
      let f = In-filter (is_under (num c)) r.0 xs r.1 in
      ap not (ne_eqb q c0.place (λ e.
      let is : r.0 ≡ c0 = s.apart r.0 c0 f.0 i0 (r.2 ∙ e) in
      false≢true (sym n ∙ subst (λ (z : Cell). is_under (num c) z ≡ true) is f.1)))))

  get_left : (r : ℕ) → get (unlinked m c0.place) r ≡ cond (r == c0.place) None (option_map (without_child c0.place) (get m r))
  get_left r = ap (λ o. get (left_by (remove m c0.place) c0.place o) r) par ∙ go (place_for xs c0.row) refl (get m r) refl (r == c0.place) refl
    where
      par : parent_of m c0.place ≡ place_for xs c0.row
      par = ap (option_and_then (λ (e : StoreRow Row). e.parent)) (get_of m xs s c0 i0)

      -- the parent's place is known of the leaf's
      parent_at : (c : Cell) → In c xs → is_under (num c) c0 ≡ true → place_for xs c0.row ≡ Some c.place
      parent_at c i u =
          let a = and_parts (not (num c0 == 0)) (c0.row.parent == num c) u in
          rw (at_serial_is xs s.rising c c0.row.parent i (sym (eqb-true _ _ a.1))) (go2 (num c0 == 0) a.0)
        where
          go2 : (b : Bool) → not b ≡ true → cond b None (Some c.place) ≡ Some c.place
          go2 false h = refl
          go2 true h = absurd (false≢true h)

      unchanged : (o : Option ℕ) → place_for xs c0.row ≡ o → (g : Option (StoreRow Row)) → get m r ≡ g → (o ≡ Some r → ⊥) → option_map (without_child c0.place) g ≡ g
      unchanged o e None h n = refl
      unchanged o e (Some d) h n =
          let k = held_in m xs s r d h in
          ap (λ z. Some z) (ap (without_child c0.place) k.3 ∙ same_children k.0 (false_from_ne_true _ (λ u. n (sym e ∙ parent_at k.0 k.1 u ∙ ap (λ z. Some z) k.2))) ∙ sym k.3)

      go : (o : Option ℕ) → place_for xs c0.row ≡ o → (g : Option (StoreRow Row)) → get m r ≡ g → (b : Bool) → (r == c0.place) ≡ b → get (left_by (remove m c0.place) c0.place o) r ≡ cond b None (option_map (without_child c0.place) (get m r))
      go None e g h b f = get_out m c0.place r ∙ rw f (last b)
        where
          last : (b : Bool) → cond b None (get m r) ≡ cond b None (option_map (without_child c0.place) (get m r))
          last true = refl
          last false = sym (rw h (unchanged None e g h (λ z. absurd (cc))))
      go (Some q) e g h b f = get_changed (without_child c0.place) q (remove m c0.place) r ∙ rw (get_out m c0.place r) (rw f (last b (r == q) refl))
        where
          last : (b a : Bool) → (r == q) ≡ a → cond a (option_map (without_child c0.place) (cond b None (get m r))) (cond b None (get m r)) ≡ cond b None (option_map (without_child c0.place) (get m r))
          last true true k = refl
          last true false k = refl
          last false true k = refl
          last false false k = sym (rw h (unchanged (Some q) e g h (λ z. let is : q ≡ r = cc in true≢false (sym (eq-eqb r q (sym is)) ∙ k))))

  at_place-left : (r : ℕ) (zs : List Cell) → at_place r (without c0.place zs) ≡ cond (r == c0.place) None (at_place r zs)
  at_place-left r [] = sym (none_either (r == c0.place))
  at_place-left r (z ∷ zs) = go (z.place == c0.place) (z.place == r) (r == c0.place) refl refl refl (at_place-left r zs)
    where
      go : (a b c : Bool) → (z.place == c0.place) ≡ a → (z.place == r) ≡ b → (r == c0.place) ≡ c → at_place r (without c0.place zs) ≡ cond (r == c0.place) None (at_place r zs)
          → at_place r (cond (not a) (z ∷ without c0.place zs) (without c0.place zs)) ≡ cond c None (cond b (Some z) (at_place r zs))
      go true true true e f g h = h ∙ rw g refl
      go true true false e f g h = absurd (true≢false (sym (eq-eqb r c0.place (sym (eqb-true _ _ f) ∙ eqb-true _ _ e)) ∙ g))
      go true false true e f g h = h ∙ rw g refl
      go true false false e f g h = h ∙ rw g refl
      go false true true e f g h = absurd (true≢false (sym (eq-eqb z.place c0.place (eqb-true _ _ f ∙ eqb-true _ _ g)) ∙ e))
      go false true false e f g h = rw f refl
      go false false true e f g h = rw f (h ∙ rw g refl)
      go false false false e f g h = rw f (h ∙ rw g refl)

  pub shape_unlinked : Shape (unlinked m c0.place) ys
  shape_unlinked = record {
    gets = λ r. get_left r ∙ rw (s.gets r) (each r (at_place r xs) refl (r == c0.place) refl) ∙ ap (option_map (entry_in ys)) (sym (at_place-left r xs));
    rising = Rising-filtered (λ (d : Cell). not (d.place == c0.place)) xs s.rising;
    apart = λ a b i j e. s.apart a b (left a i).0 (left b j).0 e;
    up = λ c i. let l = left c i in elim (s.up c l.0) [
      | inl z ↦ inl z
      | inr h ↦ inr (h.0, other h.0 h.1 (above_stays c h.0 l.0 h.1 h.2 h.3), h.2, h.3)
    ];
  }
    where
      each : (r : ℕ) (o : Option Cell) → at_place r xs ≡ o → (b : Bool) → (r == c0.place) ≡ b → cond (r == c0.place) None (option_map (without_child c0.place) (option_map (entry_in xs) o)) ≡ option_map (entry_in ys) (cond (r == c0.place) None o)
      each r o e true f = rw f refl
      each r None e false f = rw f refl
      each r (Some c) e false f = rw f (ap (λ z. Some z) (λ t. record { parent = sym (place_for-left c (at_place_in r xs c e).0) t; children = sym (children-left (num c) xs) t; payload = c.row }))
