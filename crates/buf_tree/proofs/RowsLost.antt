-- Rows of which some have lost a role: what they have of it still, their own or from above.
use Rattle.std.proofs.Common.{◌≡◌, ℕ, Bool, true, false, cond, not, ◌&&◌, ◌||◌, List, map, refl, sym, ◌∙◌, ap, subst, inl, inr, ◌⊎◌, Option, eqb}
use Rattle.std.specs.Prelude.{◌↔◌}
use Rattle.std.specs.FinSet.{contains, retain, len}
use Rattle.std.proofs.lemmas.Bool.{and_parts, and_from, not-true, eq-eqb, ne_eqb, cases_eq, cases_Bool, true≢false, false_from_ne_true}
use Rattle.gcx_model.specs.declared.item.Off.{Off}
use Rattle.base_laws.proofs.Bools.{same_bools}
use Rattle.base_laws.proofs.Members.{in_map}
use Rattle.tree_laws.proofs.Lists.{In}
use Rattle.buf_tree.specs.Rows.{untaken}
use Rattle.buf_tree.specs.Shape.{Cell, num, CellsRise, Above}
use Rattle.buf_tree.specs.Walk.{Nested, Inside, Within}
use Rattle.buf_tree.specs.Ways.{is_waiting}
use Rattle.buf_tree.specs.Recount.{uncovered, is_lost}
use Rattle.buf_tree.specs.Spread.{SpreadView, is_spread_in, roles_at, is_covered, seen_rows}
use Rattle.buf_tree.specs.Sweep.{taken_by}
use Rattle.buf_tree.proofs.Lifting.{seen_in, seen_rising}
use Rattle.buf_tree.proofs.Lines.{child_inside, within_trans}
use Rattle.buf_tree.proofs.SeenBack.{bare_up}
use Rattle.buf_tree.proofs.SeenHas.{seen_has}
use Rattle.buf_tree.proofs.Shaping.{rising_same}
use Rattle.buf_tree.proofs.Spreading.{Roles, in_remove, in_retain, same_roles, roles_self, spread_cell, upward}
use Rattle.buf_tree.proofs.Standing.{pair_left}
use Rattle.buf_tree.proofs.Taking.{bare, bare_alike, bare_rising, was_bare}
use Rattle.buf_tree.proofs.Upto.{Alike, Thinned, inside_thinned, nested_thinned}

never : (a : Bool) → (a && false) ≡ false
never true = refl
never false = refl

always : (a : Bool) → (a && true) ≡ a
always true = refl
always false = refl

-- the row x, without the role where it is lost, is the row y, but for what they say of rows above
abbrev pub Now : (lost : Cell → Bool) (k : ℕ) → Cell → Cell → Type 0
Now lost k x y = uncovered y ≡ uncovered (bare lost k x)

-- it has the role and hasn't lost it
abbrev pub keeps_now : (lost : Cell → Bool) (k : ℕ) → Cell → Bool
keeps_now lost k x = contains x.row.roles k && not (lost x)

-- ---- one row

module _ (lost : Cell → Bool) (k : ℕ) (x y : Cell) (now : Now lost k x y) where
  pub now_alike : Alike x y
  now_alike =
      let a = bare_alike lost k x in
      record {
        place = a.place ∙ sym (ap (λ (z : Cell). z.place) now);
        serial = a.serial ∙ sym (ap num now);
        parent = a.parent ∙ sym (ap (λ (z : Cell). z.row.parent) now);
        kind = a.kind ∙ sym (ap (λ (z : Cell). z.row.kind) now);
      }

  now_roles : y.row.roles ≡ (bare lost k x).row.roles
  now_roles = ap (λ (z : Cell). z.row.roles) now

  now_signed : y.row.signed ≡ x.row.signed
  now_signed = ap (λ (z : Cell). z.row.signed) now ∙ go (lost x)
    where
      go : (b : Bool) → (cond b (record { place = x.place; row = untaken k x.row }) x).row.signed ≡ x.row.signed
      go true = refl
      go false = refl

  pub own_role : contains y.row.roles k ≡ keeps_now lost k x
  own_role = ap (λ z. contains z k) now_roles ∙ go (lost x)
    where
      go : (b : Bool) → contains (cond b (record { place = x.place; row = untaken k x.row }) x).row.roles k ≡ (contains x.row.roles k && not b)
      go true = in_remove x.row.roles k k ∙ (ap (λ b. not b && contains x.row.roles k) (eq-eqb k k refl) ∙ sym (never (contains x.row.roles k)))
      go false = sym (always (contains x.row.roles k))

  pub other_role : (q : ℕ) → (q ≡ k → ⊥) → contains y.row.roles q ≡ contains x.row.roles q
  other_role q n = ap (λ z. contains z q) now_roles ∙ go (lost x)
    where
      go : (b : Bool) → contains (cond b (record { place = x.place; row = untaken k x.row }) x).row.roles q ≡ contains x.row.roles q
      go true = in_remove x.row.roles k q ∙ ap (λ b. not b && contains x.row.roles q) (ne_eqb q k n)
      go false = refl

  -- a base by another role waits as before
  pub now_waits : (off : Off) → (off.own.0 ≡ k → ⊥) → is_waiting x.row off ≡ is_waiting y.row off
  now_waits off n = sym (λ i. (other_role off.own.0 n i || contains (now_signed i) off.own.0) && not (contains (now_signed i) off.role.0))

  -- what it has of a role
  pub now_has : (q : ℕ) → contains y.row.roles q ≡ true → (contains x.row.roles q ≡ true) × (q ≡ k → lost x ≡ false)
  now_has q h = elim (cases_eq q k) [
    | inl e ↦ (
        let p = and_parts (contains x.row.roles k) (not (lost x)) (sym own_role ∙ ap (λ (z : ℕ). contains y.row.roles z) (sym e) ∙ h) in
        (ap (λ (z : ℕ). contains x.row.roles z) e ∙ p.0, λ _. not-true (lost x) p.1))
    | inr n ↦ (sym (other_role q n) ∙ h, λ e. absurd (n e))
  ]

  pub has_now : (q : ℕ) → contains x.row.roles q ≡ true → (q ≡ k → lost x ≡ false) → contains y.row.roles q ≡ true
  has_now q h l = elim (cases_eq q k) [
    | inl e ↦ ap (λ (z : ℕ). contains y.row.roles z) e ∙ own_role ∙ and_from (contains x.row.roles k) (not (lost x)) (ap (λ (z : ℕ). contains x.row.roles z) (sym e) ∙ h) (ap not (l e))
    | inr n ↦ other_role q n ∙ h
  ]

-- ---- the rows

-- a row above x, or x, has the role q
abbrev pub Has : List Cell → (q : ℕ) → Cell → Type 0
Has xs q x = (a : Cell) × In a xs × Within xs a x × (contains a.row.roles q ≡ true)

-- and, where that is k, hasn't lost it
abbrev pub HasStill : List Cell → (lost : Cell → Bool) → (k q : ℕ) → Cell → Type 0
HasStill xs lost k q x = (a : Cell) × In a xs × Within xs a x × (contains a.row.roles q ≡ true) × (q ≡ k → lost a ≡ false)

-- the row x had the role k, and has it no more
abbrev pub Went : List Cell → (k : ℕ) → (lost : Cell → Bool) → Cell → Type 0
Went xs k lost x = Has xs k x × (HasStill xs lost k k x → ⊥)

module _ (lost : Cell → Bool) (k : ℕ) (xs ys : List Cell) (rise : CellsRise xs) (rise' : CellsRise ys) (nest : Nested xs) (up : (c : Cell) → In c xs → (num c ≡ 0) ⊎ Above xs c) (up' : (c : Cell) → In c ys → (num c ≡ 0) ⊎ Above ys c)
    (same : map uncovered ys ≡ map uncovered (taken_by lost k xs)) where
  pub was_now : (y : Cell) → In y ys → (x : Cell) × In x xs × Now lost k x y
  was_now y i =
      let a = pair_left uncovered uncovered ys (taken_by lost k xs) same y i in
      let b = was_bare lost k a.0 xs a.1 in
      (b.0, b.1, a.2 ∙ ap uncovered (sym b.2))

  pub is_now : (x : Cell) → In x xs → (y : Cell) × In y ys × Now lost k x y
  is_now x i =
      let a = pair_left uncovered uncovered (taken_by lost k xs) ys (sym same) (bare lost k x) (in_map (bare lost k) x xs i) in
      (a.0, a.1, sym a.2)

  -- which row is that of x
  pub now_at : (x y : Cell) → In x xs → In y ys → num x ≡ num y → Now lost k x y
  now_at x y i j e =
      let z = was_now y j in
      subst (λ (w : Cell). Now lost k w y) (rising_same xs rise z.0 x z.1 i ((now_alike lost k z.0 y z.2).serial ∙ sym e)) z.2

  pub rows_thinned : Thinned xs ys
  rows_thinned = record { each = λ y i. let x = was_now y i in (x.0, x.1, now_alike lost k x.0 y x.2); up = up' }

  pub rows_back : (x : Cell) → In x xs → (y : Cell) × In y ys × Alike x y
  rows_back x i = let y = is_now x i in (y.0, y.1, now_alike lost k x y.0 y.2)

  rows_thick : Thinned ys xs
  rows_thick = record {
    each = λ x i.
        let y = rows_back x i in
        (y.0, y.1, record { place = sym y.2.place; serial = sym y.2.serial; parent = sym y.2.parent; kind = sym y.2.kind });
    up = up;
  }

  pub rows_nested : Nested ys
  rows_nested = nested_thinned xs ys rise rows_thinned nest

  pub inside_on : (a d b y : Cell) → num a ≡ num b → num d ≡ num y → Inside xs a d → Inside ys b y
  inside_on a d b y e f n = inside_thinned xs ys rise rows_thinned a d b y e f n

  pub inside_back : (a d b y : Cell) → num a ≡ num b → num d ≡ num y → Inside ys b y → Inside xs a d
  inside_back a d b y e f n = inside_thinned ys xs rise' rows_thick b y a d (sym e) (sym f) n

  pub within_on : (a d b y : Cell) → In b ys → In y ys → num a ≡ num b → num d ≡ num y → Within xs a d → Within ys b y
  within_on a d b y i j e f (inl q) = inl (rising_same ys rise' b y i j (sym e ∙ (ap num q ∙ f)))
  within_on a d b y i j e f (inr n) = inr (inside_on a d b y e f n)

  within_back : (a d b y : Cell) → In a xs → In d xs → num a ≡ num b → num d ≡ num y → Within ys b y → Within xs a d
  within_back a d b y i j e f (inl q) = inl (rising_same xs rise a d i j (e ∙ (ap num q ∙ sym f)))
  within_back a d b y i j e f (inr n) = inr (inside_back a d b y e f n)

  -- a row above one of ys has the role where that of xs has it still
  pub has_still : (q : ℕ) (x y : Cell) → In x xs → In y ys → num x ≡ num y → Has ys q y ↔ HasStill xs lost k q x
  has_still q x y i j e = (
    (λ h.
        let a = was_now h.0 h.1 in
        let l = now_has lost k a.0 h.0 a.2 q h.3 in
        (a.0, a.1, within_back a.0 x h.0 y a.1 i (now_alike lost k a.0 h.0 a.2).serial e h.2, l.0, l.1)),
    (λ h.
        let b = is_now h.0 h.1 in
        (b.0, b.1, within_on h.0 x b.0 y b.1 j (now_alike lost k h.0 b.0 b.2).serial e h.2, has_now lost k h.0 b.0 b.2 q h.3 h.4)),
  )

-- ---- the rows that contracts see

module _ (s : Option SpreadView) (xs : List Cell) (rise : CellsRise xs) (nest : Nested xs) (up : (c : Cell) → In c xs → (num c ≡ 0) ⊎ Above xs c) (k : ℕ) where
  abbrev sp : ℕ → Bool
  sp = is_spread_in s

  abbrev rs : (Cell → Bool) → List Cell
  rs lost = seen_rows s (taken_by lost k xs)

  module _ (lost : Cell → Bool) (q : ℕ) (spread : is_spread_in s q ≡ true) (x : Cell) (i : In x xs) where
    abbrev zs : List Cell
    zs = taken_by lost k xs

    rise_z : CellsRise (taken_by lost k xs)
    rise_z = bare_rising lost k xs rise

    up_z : (c : Cell) → In c (taken_by lost k xs) → (num c ≡ 0) ⊎ Above (taken_by lost k xs) c
    up_z = bare_up lost k xs up

    nest_z : Nested (taken_by lost k xs)
    nest_z = rows_nested lost k xs (taken_by lost k xs) rise rise_z nest up up_z refl

    z_in : In (bare lost k x) (taken_by lost k xs)
    z_in = in_map (bare lost k) x xs i

    roles_z : roles_at (seen_rows s (taken_by lost k xs)) (num x) ≡ (spread_cell (is_spread_in s) (seen_rows s (taken_by lost k xs)) (bare lost k x)).row.roles
    roles_z =
        ap (roles_at (rs lost)) (bare_alike lost k x).serial
        ∙ roles_self (rs lost) (seen_rising s zs (upward zs rise_z up_z) rise_z) (spread_cell sp (rs lost) (bare lost k x)) (seen_in s zs (upward zs rise_z up_z) (bare lost k x) z_in)

    -- what a row has of a spread role then
    pub seen_still : (contains (roles_at (seen_rows s (taken_by lost k xs)) (num x)) q ≡ true) ↔ HasStill xs lost k q x
    seen_still =
        let a = seen_has s (taken_by lost k xs) rise_z nest_z up_z q spread (bare lost k x) z_in in
        let b = has_still lost k xs (taken_by lost k xs) rise rise_z nest up up_z refl q x (bare lost k x) i z_in (bare_alike lost k x).serial in
        ((λ h. b.0 (a.0 (ap (λ (S : Roles). contains S q) (sym roles_z) ∙ h))), (λ h. ap (λ (S : Roles). contains S q) roles_z ∙ a.1 (b.1 h)))

  -- a row is covered as before where none above it has lost the role
  pub covered_as : (lost lost' : Cell → Bool) (x : Cell) → In x xs → ((a : Cell) → In a xs → Inside xs a x → lost a ≡ lost' a)
      → is_covered (is_spread_in s) (seen_rows s (taken_by lost k xs)) x ≡ is_covered (is_spread_in s) (seen_rows s (taken_by lost' k xs)) x
  covered_as lost lost' x i agree = elim (up x i) [
    | inl z ↦ (
        let e = eq-eqb (num x) 0 z in
        ap (λ b. not b && not (eqb (len (retain (roles_at (rs lost) x.row.parent) sp)) 0)) e
        ∙ sym (ap (λ b. not b && not (eqb (len (retain (roles_at (rs lost') x.row.parent) sp)) 0)) e))
    | inr p ↦ ap (λ (S : Roles). not (eqb (num x) 0) && not (eqb (len S) 0)) (subst (λ (z : ℕ). retain (roles_at (rs lost) z) sp ≡ retain (roles_at (rs lost') z) sp) p.2 (retained p))
  ]
    where
      retained : (p : Above xs x) → retain (roles_at (rs lost) (num p.0)) sp ≡ retain (roles_at (rs lost') (num p.0)) sp
      retained p = same_roles _ _ (λ q. in_retain (roles_at (rs lost) (num p.0)) sp q ∙ (go q (cases_Bool (sp q)) ∙ sym (in_retain (roles_at (rs lost') (num p.0)) sp q)))
        where
          above : (a : Cell) → Within xs a p.0 → Inside xs a x
          above a w = within_trans xs rise nest up a p.0 x w (child_inside xs rise nest up p.0 x p.1 i (sym p.2, p.3))

          to : (q : ℕ) → HasStill xs lost k q p.0 → HasStill xs lost' k q p.0
          to q h = (h.0, h.1, h.2, h.3, λ e. sym (agree h.0 h.1 (above h.0 h.2)) ∙ h.4 e)

          from : (q : ℕ) → HasStill xs lost' k q p.0 → HasStill xs lost k q p.0
          from q h = (h.0, h.1, h.2, h.3, λ e. agree h.0 h.1 (above h.0 h.2) ∙ h.4 e)

          go : (q : ℕ) → (sp q ≡ true) ⊎ (sp q ≡ false) → (contains (roles_at (rs lost) (num p.0)) q && sp q) ≡ (contains (roles_at (rs lost') (num p.0)) q && sp q)
          go q (inl e) = ap (λ b. b && sp q) (same_bools _ _ (λ h. (seen_still lost' q e p.0 p.1).1 (to q ((seen_still lost q e p.0 p.1).0 h))) (λ h. (seen_still lost q e p.0 p.1).1 (from q ((seen_still lost' q e p.0 p.1).0 h))))
          go q (inr e) =
              ap (λ b. contains (roles_at (rs lost) (num p.0)) q && b) e
              ∙ (never (contains (roles_at (rs lost) (num p.0)) q)
              ∙ sym (ap (λ b. contains (roles_at (rs lost') (num p.0)) q && b) e ∙ never (contains (roles_at (rs lost') (num p.0)) q)))

  -- what contracts see of a row that has lost the role
  pub went_lost : is_spread_in s k ≡ true → (lost : Cell → Bool) (x : Cell) → In x xs → (is_lost k (seen_rows s (taken_by lost k xs)) (spread_cell (is_spread_in s) (seen_rows s xs) x) ≡ true) ↔ Went xs k lost x
  went_lost e lost x i =
      let had = seen_has s xs rise nest up k e x i in
      let has = seen_still lost k e x i in (
        (λ h.
            let p = and_parts (contains (spread_cell (is_spread_in s) (seen_rows s xs) x).row.roles k) (not (contains (roles_at (rs lost) (num x)) k)) h in
            (had.0 p.0, λ w. true≢false (sym (has.1 w) ∙ not-true _ p.1))),
        (λ w. and_from _ _ (had.1 w.0) (ap not (false_from_ne_true _ (λ h. w.1 (has.0 h))))),
      )
