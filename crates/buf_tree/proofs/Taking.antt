-- Rows from which a role is taken, one by one.
use Rattle.std.proofs.Common.{◌≡◌, ◌≢◌, ◌==◌, ℕ, suc, ◌+◌, ◌<◌, Bool, true, false, cond, not, ◌&&◌, ◌||◌, List, [], ◌∷◌, length, map, refl, sym, ◌∙◌, ap, subst, inl, inr, arith}
use Rattle.std.specs.List.{filter}
use Rattle.std.proofs.lemmas.Bool.{false≢true, eqb-true, eq-eqb, ne_eqb}
use Rattle.base_laws.proofs.Members.{in_map, from_map, map_same}
use Rattle.tree_laws.proofs.Lists.{In, filter_same}
use Rattle.buf_tree.specs.Row.{Row}
use Rattle.buf_tree.specs.Rows.{IsDead, untaken}
use Rattle.buf_tree.specs.Shape.{Cell, num, CellsRise, is_under, with_at}
use Rattle.buf_tree.specs.Purge.{is_gone, Keeps, Leaves}
use Rattle.buf_tree.specs.Sweep.{taken_by}
use Rattle.buf_tree.proofs.Changes.{g_num, g_parent}
use Rattle.buf_tree.proofs.Upto.{Alike}

filter_map : {X Y : Type 0} (f : X → Y) (p : Y → Bool) (xs : List X) → filter p (map f xs) ≡ map f (filter (λ x. p (f x)) xs)
filter_map f p [] = refl
filter_map f p (x ∷ xs) = go (p (f x)) (filter_map f p xs)
  where
    go : (b : Bool) → filter p (map f xs) ≡ map f (filter (λ y. p (f y)) xs) → cond b (f x ∷ filter p (map f xs)) (filter p (map f xs)) ≡ map f (cond b (x ∷ filter (λ y. p (f y)) xs) (filter (λ y. p (f y)) xs))
    go true h = ap (λ z. f x ∷ z) h
    go false h = h

pub length_map : {X Y : Type 0} (f : X → Y) (xs : List X) → length (map f xs) ≡ length xs
length_map f [] = refl
length_map f (x ∷ xs) = ap suc (length_map f xs)

pub some_member : {X : Type 0} (x : X) (xs : List X) → In x xs → 0 < length xs
some_member x [] i = absurd i
some_member x (y ∷ ys) i = omega arith

-- ---- the rows without the role

module _ (lost : Cell → Bool) (k : ℕ) where
  -- a row of them
  abbrev pub bare : Cell → Cell
  bare c = cond (lost c) (record { place = c.place; row = untaken k c.row }) c

  pub bare_alike : (c : Cell) → Alike c (bare c)
  bare_alike c = go (lost c)
    where
      go : (b : Bool) → Alike c (cond b (record { place = c.place; row = untaken k c.row }) c)
      go true = record { place = refl; serial = refl; parent = refl; kind = refl }
      go false = record { place = refl; serial = refl; parent = refl; kind = refl }

  pub bare_not : (c : Cell) → lost c ≡ false → bare c ≡ c
  bare_not c e = ap (λ b. cond b (record { place = c.place; row = untaken k c.row }) c) e

  pub was_bare : (d : Cell) (xs : List Cell) → In d (taken_by lost k xs) → (c : Cell) × In c xs × (bare c ≡ d)
  was_bare d xs i = from_map bare d xs i

  pub bare_rising : (xs : List Cell) → CellsRise xs → CellsRise (taken_by lost k xs)
  bare_rising [] r = tt
  bare_rising (x ∷ xs) r = (
    λ y i.
        let z = was_bare y xs i in
        let l = r.0 z.0 z.1 in
        let a = (bare_alike x).serial in
        let b = (bare_alike z.0).serial in
        let e = ap num z.2 in
        omega arith,
    bare_rising xs r.1,
  )

  pub bare_apart : (xs : List Cell) → ((a b : Cell) → In a xs → In b xs → a.place ≡ b.place → a ≡ b) → (a b : Cell) → In a (taken_by lost k xs) → In b (taken_by lost k xs) → a.place ≡ b.place → a ≡ b
  bare_apart xs apart a b i j e =
      let x = was_bare a xs i in
      let y = was_bare b xs j in
      let same : x.0 ≡ y.0 = apart x.0 y.0 x.1 y.1 ((bare_alike x.0).place ∙ ap (λ (c : Cell). c.place) x.2 ∙ e ∙ sym (ap (λ (c : Cell). c.place) y.2) ∙ sym (bare_alike y.0).place) in
      sym x.2 ∙ ap bare same ∙ y.2

-- from no row
pub none_bare : (k : ℕ) (xs : List Cell) → taken_by (λ _. false) k xs ≡ xs
none_bare k [] = refl
none_bare k (x ∷ xs) = ap (λ z. x ∷ z) (none_bare k xs)

pub none_counted : (xs : List Cell) → 0 ≡ length (filter (λ (_ : Cell). false) xs)
none_counted [] = refl
none_counted (x ∷ xs) = none_counted xs

-- from the row h too
abbrev pub and_at : ℕ → (Cell → Bool) → Cell → Bool
and_at k lost d = lost d || (num d == k)

pub one_more : (lost : Cell → Bool) (h : Cell) → lost h ≡ false → (xs : List Cell) → CellsRise xs → In h xs → length (filter (and_at (num h) lost) xs) ≡ length (filter lost xs) + 1
one_more lost h n [] r i = absurd i
one_more lost h n (x ∷ xs) r (inl e) =
    ap (λ b. length (cond b (x ∷ filter (and_at (num h) lost) xs) (filter (and_at (num h) lost) xs))) is
    ∙ ap (λ zs. suc (length zs)) same
    ∙ omega (arith, ap (λ b. length (cond b (x ∷ filter lost xs) (filter lost xs))) (ap lost e ∙ n))
  where
    is : and_at (num h) lost x ≡ true
    is = ap (λ b. b || (num x == num h)) (ap lost e ∙ n) ∙ eq-eqb (num x) (num h) (ap num e)

    none : (b : Bool) → (b || false) ≡ b
    none true = refl
    none false = refl

    same : filter (and_at (num h) lost) xs ≡ filter lost xs
    same = filter_same (and_at (num h) lost) lost xs (λ y j. ap (λ b. lost y || b) (ne_eqb (num y) (num h) (λ f. let l = r.0 y j in let g = ap num e in absurd (omega arith))) ∙ none (lost y))
one_more lost h n (x ∷ xs) r (inr i) =
    ap (λ b. length (cond b (x ∷ filter (and_at (num h) lost) xs) (filter (and_at (num h) lost) xs))) is ∙ go (lost x) (one_more lost h n xs r.1 i)
  where
    none : (b : Bool) → (b || false) ≡ b
    none true = refl
    none false = refl

    is : and_at (num h) lost x ≡ lost x
    is = ap (λ b. lost x || b) (ne_eqb (num x) (num h) (λ f. let l = r.0 h i in absurd (omega arith))) ∙ none (lost x)

    go : (b : Bool) → length (filter (and_at (num h) lost) xs) ≡ length (filter lost xs) + 1 → length (cond b (x ∷ filter (and_at (num h) lost) xs) (filter (and_at (num h) lost) xs)) ≡ length (cond b (x ∷ filter lost xs) (filter lost xs)) + 1
    go true e = omega arith
    go false e = e

-- the role is taken from the row h
pub one_bare : (lost : Cell → Bool) (k : ℕ) (h : Cell) → lost h ≡ false → (xs : List Cell) → CellsRise xs → ((a b : Cell) → In a xs → In b xs → a.place ≡ b.place → a ≡ b) → ((a b : Cell) → In a xs → In b xs → num a ≡ num b → a ≡ b) → In h xs
    → taken_by (and_at (num h) lost) k xs ≡ map (with_at (untaken k) h.place) (taken_by lost k xs)
one_bare lost k h n xs rise apart same i = map_same (bare (and_at (num h) lost) k) (λ d. with_at (untaken k) h.place (bare lost k d)) xs each ∙ sym (twice xs)
  where
    twice : (zs : List Cell) → map (with_at (untaken k) h.place) (taken_by lost k zs) ≡ map (λ d. with_at (untaken k) h.place (bare lost k d)) zs
    twice [] = refl
    twice (z ∷ zs) = ap (λ w. with_at (untaken k) h.place (bare lost k z) ∷ w) (twice zs)

    each : (d : Cell) → In d xs → bare (and_at (num h) lost) k d ≡ with_at (untaken k) h.place (bare lost k d)
    each d j = go (lost d) refl (num d == num h) refl
      where
        here : (d.place == h.place) ≡ true → lost d ≡ true → ⊥
        here e f = false≢true (sym n ∙ sym (ap lost (apart d h j i (eqb-true _ _ e))) ∙ f)

        at : (b : Bool) → (d.place == h.place) ≡ b → (num d == num h) ≡ b
        at true e = eq-eqb _ _ (ap num (apart d h j i (eqb-true _ _ e)))
        at false e = ne_eqb _ _ (λ f. false≢true (sym e ∙ eq-eqb _ _ (ap (λ (x : Cell). x.place) (same d h j i f))))

        go : (b : Bool) → lost d ≡ b → (a : Bool) → (num d == num h) ≡ a → cond (b || a) (record { place = d.place; row = untaken k d.row }) d ≡ with_at (untaken k) h.place (cond b (record { place = d.place; row = untaken k d.row }) d)
        go true e a f = sym (ap (λ z. cond z (record { place = d.place; row = untaken k (untaken k d.row) }) (record { place = d.place; row = untaken k d.row })) (other (d.place == h.place) refl))
          where
            other : (z : Bool) → (d.place == h.place) ≡ z → (d.place == h.place) ≡ false
            other true g = absurd (here g e)
            other false g = g
        go false e a f = ap (λ z. cond z (record { place = d.place; row = untaken k d.row }) d) (sym f ∙ sym (places (d.place == h.place) refl))
          where
            places : (z : Bool) → (d.place == h.place) ≡ z → (d.place == h.place) ≡ (num d == num h)
            places z g = g ∙ sym (at z g)

-- ---- what has gone, and what is kept, behind a change of one row

module _ (f : Row → Row) (p : ℕ) (keeps : (r : Row) → ((f r).serial ≡ r.serial) × ((f r).parent ≡ r.parent)) where
  abbrev g : Cell → Cell
  g c = with_at f p c

  pub g_not : (c : Cell) → c.place ≢ p → g c ≡ c
  g_not c n = ap (λ b. cond b (record { place = c.place; row = f c.row }) c) (ne_eqb c.place p n)

  gone_g : (gone : List ℕ) (c : Cell) → is_gone gone (g c) ≡ is_gone gone c
  gone_g gone c = go gone (g_num f p keeps c)
    where
      go : (ks : List ℕ) → num (g c) ≡ num c → is_gone ks (g c) ≡ is_gone ks c
      go [] e = refl
      go (k ∷ ks) e = λ t. (e t == k) || go ks e t

  under_g : (c d : Cell) → is_under (num (g c)) (g d) ≡ is_under (num c) d
  under_g c d = λ t. not (g_num f p keeps d t == 0) && (g_parent f p keeps d t == g_num f p keeps c t)

  pub leaves_changed : (xs ys : List Cell) (gone : List ℕ) → ((c : Cell) → In c xs → is_gone gone c ≡ true → c.place ≢ p) → Leaves xs ys gone → Leaves (map g xs) (map g ys) gone
  leaves_changed xs ys gone n l = record {
    rows =
        ap (map g) (l.rows ∙ filter_same (λ c. not (is_gone gone c)) (λ c. not (is_gone gone (g c))) xs (λ c i. sym (ap not (gone_g gone c))))
        ∙ sym (filter_map g (λ c. not (is_gone gone c)) xs);
    dead = λ c i e.
        let x = from_map g c xs i in
        let d : is_gone gone x.0 ≡ true = sym (gone_g gone x.0) ∙ ap (is_gone gone) x.2 ∙ e in
        subst (λ (z : Cell). IsDead z.row) (sym (g_not x.0 (n x.0 x.1 d)) ∙ x.2) (l.dead x.0 x.1 d);
    down = λ c d i j e u.
        let x = from_map g c xs i in
        let y = from_map g d xs j in
        let a : is_gone gone x.0 ≡ true = sym (gone_g gone x.0) ∙ ap (is_gone gone) x.2 ∙ e in
        let b : is_under (num x.0) y.0 ≡ true = sym (under_g x.0 y.0) ∙ (λ t. is_under (num (x.2 t)) (y.2 t)) ∙ u in
        ap (is_gone gone) (sym y.2) ∙ gone_g gone y.0 ∙ l.down x.0 y.0 x.1 y.1 a b;
    falling = l.falling;
    known = λ k i. let c = l.known k i in (g c.0, in_map g c.0 xs c.1, g_num f p keeps c.0 ∙ c.2);
  }

  pub keeps_changed : (ys : List Cell) (d : Cell) → d.place ≢ p → Keeps ys d → Keeps (map g ys) (g d)
  keeps_changed ys d n (inl alive) = inl (subst (λ (z : Cell). IsDead z.row → ⊥) (sym (g_not d n)) alive)
  keeps_changed ys d n (inr e) = inr (g e.0, in_map g e.0 ys e.1, under_g d e.0 ∙ e.2)
