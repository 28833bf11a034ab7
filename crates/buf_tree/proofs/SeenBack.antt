-- What is taken back from the rows kept, and what that takes from the rows that contracts see.
use Rattle.std.proofs.Common.{◌≡◌, ℕ, suc, Bool, true, false, cond, not, ◌&&◌, ◌||◌, List, [], ◌∷◌, map, length, refl, sym, ◌∙◌, ap, subst, inl, inr, ◌⊎◌, Option, eqb, arith}
use Rattle.std.specs.List.{filter}
use Rattle.std.specs.FinSet.{contains, retain, union, remove}
use Rattle.std.proofs.lemmas.Bool.{eqb-true, cases_Bool}
use Rattle.base_laws.proofs.Lists.{nil_cons}
use Rattle.base_laws.proofs.Members.{in_map, map_same}
use Rattle.tree_laws.proofs.Lists.{In, filter_same}
use Rattle.buf_tree.specs.Rows.{untaken}
use Rattle.buf_tree.specs.Shape.{Store, Cell, num, cells, CellsRise, Above, Shaped}
use Rattle.buf_tree.specs.Purge.{Purged}
use Rattle.buf_tree.specs.Recount.{uncovered, is_lost}
use Rattle.buf_tree.specs.Spread.{SpreadView, is_spread_in, seen_rows, with_roles, is_covered, TellsCovered}
use Rattle.buf_tree.specs.Sweep.{taken_by}
use Rattle.buf_tree.specs.Withdraw.{TakenBack, SpreadBack}
use Rattle.buf_tree.proofs.Lifting.{purged_lift, seen_is, seen_rising}
use Rattle.buf_tree.proofs.Spreading.{Roles, in_union, in_retain, in_remove, same_roles, retained_in, Upward, upward, spread_cell, from_above, from_in, above_map, above_bare, above_taken, covered_map}
use Rattle.buf_tree.proofs.Standing.{pair_left}
use Rattle.buf_tree.proofs.Taking.{bare, bare_alike, bare_rising, was_bare}

-- the rows that lose a role stand as before
pub bare_up : (loses : Cell → Bool) (k : ℕ) (xs : List Cell) → ((c : Cell) → In c xs → (num c ≡ 0) ⊎ Above xs c) → (c : Cell) → In c (taken_by loses k xs) → (num c ≡ 0) ⊎ Above (taken_by loses k xs) c
bare_up loses k xs up c i =
    let x = was_bare loses k c xs i in
    subst (λ (z : Cell). (num z ≡ 0) ⊎ Above (taken_by loses k xs) z) x.2 (elim (up x.0 x.1) [
      | inl e ↦ inl (sym (bare_alike loses k x.0).serial ∙ e)
      | inr a ↦ (
          let s = (bare_alike loses k a.0).serial in
          let t = (bare_alike loses k x.0).serial in
          let l = a.3 in
          inr (bare loses k a.0, in_map (bare loses k) a.0 xs a.1, sym s ∙ (a.2 ∙ (bare_alike loses k x.0).parent), omega arith))
    ])

-- a role that isn't spread, without which a row has the same spread ones
pub removed_same : (sp : ℕ → Bool) (k : ℕ) → sp k ≡ false → (s : Roles) → retain (remove s k) sp ≡ retain s sp
removed_same sp k h s = same_roles (retain (remove s k) sp) (retain s sp) (λ q. in_retain (remove s k) sp q ∙ (ap (λ b. b && sp q) (in_remove s k q) ∙ (go q (cases_Bool (eqb q k)) ∙ sym (in_retain s sp q))))
  where
    none : (a b : Bool) → b ≡ false → ((not true && a) && b) ≡ (a && b)
    none true b e = sym e
    none false b e = refl

    go : (q : ℕ) → (eqb q k ≡ true) ⊎ (eqb q k ≡ false) → ((not (eqb q k) && contains s q) && sp q) ≡ (contains s q && sp q)
    go q (inl e) = ap (λ b. (not b && contains s q) && sp q) e ∙ none (contains s q) (sp q) (ap sp (eqb-true q k e) ∙ h)
    go q (inr e) = ap (λ b. (not b && contains s q) && sp q) e

pub removed_union : (k : ℕ) (s x : Roles) → contains x k ≡ false → remove (union s x) k ≡ union (remove s k) x
removed_union k s x h = same_roles (remove (union s x) k) (union (remove s k) x) (λ q.
    in_remove (union s x) k q ∙ (ap (λ b. not (eqb q k) && b) (in_union s x q) ∙ (go q (cases_Bool (eqb q k)) ∙ sym (in_union (remove s k) x q ∙ ap (λ b. b || contains x q) (in_remove s k q)))))
  where
    go : (q : ℕ) → (eqb q k ≡ true) ⊎ (eqb q k ≡ false) → (not (eqb q k) && (contains s q || contains x q)) ≡ ((not (eqb q k) && contains s q) || contains x q)
    go q (inl e) = ap (λ b. not b && (contains s q || contains x q)) e ∙ (sym (ap (contains x) (eqb-true q k e) ∙ h) ∙ sym (ap (λ b. (not b && contains s q) || contains x q) e))
    go q (inr e) = ap (λ b. not b && (contains s q || contains x q)) e ∙ sym (ap (λ b. (not b && contains s q) || contains x q) e)

module _ (sv : Option SpreadView) (m1 m2 : Store) (s1 : Shaped m1) (s2 : Shaped m2) (cov : TellsCovered sv (cells m1)) (k : ℕ) (loses : Cell → Bool) (g0 g : List ℕ) (count : ℕ) where
  abbrev ks : List Cell
  ks = cells m1

  abbrev sp : ℕ → Bool
  sp = is_spread_in sv

  abbrev thin : Cell → Cell
  thin = bare loses k

  up : Upward [] (cells m1)
  up = upward (cells m1) s1.rising s1.up

  -- ---- of a role that isn't spread

  module _ (plain : is_spread_in sv k ≡ false) (even : (X : Roles) (c : Cell) → contains X k ≡ false → loses (with_roles X c) ≡ loses c) where
    thin_num : (c : Cell) → num (thin c) ≡ num c
    thin_num c = sym (bare_alike loses k c).serial

    thin_parent : (c : Cell) → (thin c).row.parent ≡ c.row.parent
    thin_parent c = sym (bare_alike loses k c).parent

    thin_spread : (c : Cell) → retain (thin c).row.roles sp ≡ retain c.row.roles sp
    thin_spread c = go (loses c)
      where
        go : (b : Bool) → retain (cond b (record { place = c.place; row = untaken k c.row }) c).row.roles sp ≡ retain c.row.roles sp
        go true = removed_same sp k plain c.row.roles
        go false = refl

    thin_covered : (c : Cell) → (thin c).row.covered ≡ c.row.covered
    thin_covered c = go (loses c)
      where
        go : (b : Bool) → (cond b (record { place = c.place; row = untaken k c.row }) c).row.covered ≡ c.row.covered
        go true = refl
        go false = refl

    thin_with : (X : Roles) (c : Cell) → retain X sp ≡ X → thin (with_roles X c) ≡ with_roles X (thin c)
    thin_with X c e =
        let h = retained_in X sp k e plain in
        ap (λ b. cond b (record { place = c.place; row = untaken k (with_roles X c).row }) (with_roles X c)) (even X c h) ∙ go h (loses c)
      where
        go : contains X k ≡ false → (b : Bool) → cond b (record { place = c.place; row = untaken k (with_roles X c).row }) (with_roles X c) ≡ with_roles X (cond b (record { place = c.place; row = untaken k c.row }) c)
        go h true = ap (λ (z : Roles). record { place = c.place; row = record c.row { roles = z; covered = false } }) (removed_union k c.row.roles X h)
        go h false = refl

    thin_seen : seen_rows sv (taken_by loses k ks) ≡ taken_by loses k (seen_rows sv ks)
    thin_seen = above_map sp thin thin_num thin_parent thin_spread thin_with ks up

    thin_covers : TellsCovered sv (taken_by loses k ks)
    thin_covers c i =
        let x = was_bare loses k c ks i in
        subst (λ (z : Cell). z.row.covered ≡ is_covered sp (seen_rows sv (taken_by loses k ks)) z) x.2
        (thin_covered x.0 ∙ (cov x.0 x.1 ∙ (sym (covered_map sp thin thin_num thin_parent thin_spread (seen_rows sv ks) x.0) ∙ ap (λ (zs : List Cell). is_covered sp zs (thin x.0)) (sym thin_seen))))

    -- as many rows are counted
    same_count : length (filter loses (seen_rows sv ks)) ≡ length (filter loses ks)
    same_count = ap (λ (zs : List Cell). length (filter loses zs)) (seen_is sv ks up) ∙ go ks
      where
        each : (c : Cell) → loses (spread_cell sp (seen_rows sv ks) c) ≡ loses c
        each c = even (from_above sp (seen_rows sv ks) c) c (retained_in (from_above sp (seen_rows sv ks) c) sp k (from_in sp (seen_rows sv ks) c) plain)

        go : (xs : List Cell) → length (filter loses (map (spread_cell sp (seen_rows sv ks)) xs)) ≡ length (filter loses xs)
        go [] = refl
        go (x ∷ xs) = ap (λ b. length (cond b (spread_cell sp (seen_rows sv ks) x ∷ filter loses (map (spread_cell sp (seen_rows sv ks)) xs)) (filter loses (map (spread_cell sp (seen_rows sv ks)) xs)))) (each x) ∙ step (loses x) (go xs)
          where
            step : (b : Bool) → length (filter loses (map (spread_cell sp (seen_rows sv ks)) xs)) ≡ length (filter loses xs)
                → length (cond b (spread_cell sp (seen_rows sv ks) x ∷ filter loses (map (spread_cell sp (seen_rows sv ks)) xs)) (filter loses (map (spread_cell sp (seen_rows sv ks)) xs))) ≡ length (cond b (x ∷ filter loses xs) (filter loses xs))
            step true h = ap suc h
            step false h = h

    -- what leaves of the rows kept leaves of those seen
    pub plain_back : (b : TakenBack m1 m2 loses k g0 g count) → Purged (taken_by loses k (seen_rows sv (cells m1))) (seen_rows sv (cells m2)) b.left.0 × TellsCovered sv (cells m2) × (count ≡ length (filter loses (seen_rows sv (cells m1))))
    plain_back b =
        let r = purged_lift sv (taken_by loses k ks) (cells m2) b.left.0 (bare_rising loses k ks s1.rising) s2.rising (bare_up loses k ks s1.up) s2.up thin_covers b.left.2 in
        (subst (λ (zs : List Cell). Purged zs (seen_rows sv (cells m2)) b.left.0) thin_seen r.0, r.1, b.taken ∙ sym same_count)

  -- ---- of a spread one

  module _ (b : SpreadBack sv m1 m2 loses k g0 g count) where
    -- the rows in between stand as those kept do
    from_thin : (c : Cell) → In c b.between → (x : Cell) × In x (taken_by loses k ks) × (uncovered c ≡ uncovered x)
    from_thin c i = pair_left uncovered uncovered b.between (taken_by loses k ks) b.rows c i

    to_thin : (x : Cell) → In x (taken_by loses k ks) → (c : Cell) × In c b.between × (uncovered x ≡ uncovered c)
    to_thin x i = pair_left uncovered uncovered (taken_by loses k ks) b.between (sym b.rows) x i

    between_rising : CellsRise b.between
    between_rising = rising_as b.between (taken_by loses k ks) b.rows (bare_rising loses k ks s1.rising)
      where
        rising_as : (xs ys : List Cell) → map uncovered xs ≡ map uncovered ys → CellsRise ys → CellsRise xs
        rising_as [] ys e r = tt
        rising_as (x ∷ xs) [] e r = absurd (nil_cons (uncovered x) (map uncovered xs) (sym e))
        rising_as (x ∷ xs) (y ∷ ys) e r =
            let h : uncovered x ≡ uncovered y = cc in
            let t : map uncovered xs ≡ map uncovered ys = cc in (
              (λ z i.
                  let w = pair_left uncovered uncovered xs ys t z i in
                  let l = r.0 w.0 w.1 in
                  let a = ap num h in
                  let c = ap num w.2 in
                  omega arith),
              rising_as xs ys t r.1,
            )

    between_up : (c : Cell) → In c b.between → (num c ≡ 0) ⊎ Above b.between c
    between_up c i =
        let x = from_thin c i in
        elim (bare_up loses k ks s1.up x.0 x.1) [
          | inl e ↦ inl (ap num x.2 ∙ e)
          | inr a ↦ (
              let d = to_thin a.0 a.1 in
              let s = ap num d.2 in
              let t = ap num x.2 in
              let l = a.3 in
              inr (d.0, d.1, sym s ∙ (a.2 ∙ sym (ap (λ (z : Cell). z.row.parent) x.2)), omega arith))
        ]

    -- the rows seen then
    abbrev now : List Cell
    now = seen_rows sv b.between

    between_seen : seen_rows sv b.between ≡ taken_by (is_lost k (seen_rows sv b.between)) k (seen_rows sv ks)
    between_seen =
        let e : seen_rows sv b.between ≡ seen_rows sv (taken_by loses k ks) = above_bare sp b.between (taken_by loses k ks) b.rows in
        let r : CellsRise (seen_rows sv (taken_by loses k ks)) = seen_rising sv (taken_by loses k ks) (upward (taken_by loses k ks) (bare_rising loses k ks s1.rising) (bare_up loses k ks s1.up)) (bare_rising loses k ks s1.rising) in
        e ∙ (above_taken sp k loses ks r ∙ ap (λ (zs : List Cell). taken_by (is_lost k zs) k (seen_rows sv ks)) (sym e))

    -- what leaves of the rows kept leaves of those seen, where `lost` tells which of these lose the role
    pub spread_back : (lost : Cell → Bool) → ((c : Cell) → In c (seen_rows sv (cells m1)) → is_lost k (seen_rows sv b.between) c ≡ lost c)
        → Purged (taken_by lost k (seen_rows sv (cells m1))) (seen_rows sv (cells m2)) b.left.0 × TellsCovered sv (cells m2) × (count ≡ length (filter lost (seen_rows sv (cells m1))))
    spread_back lost h =
        let r = purged_lift sv b.between (cells m2) b.left.0 between_rising s2.rising between_up s2.up b.covers b.left.2 in
        let same : taken_by (is_lost k now) k (seen_rows sv ks) ≡ taken_by lost k (seen_rows sv ks) = map_same (bare (is_lost k now) k) (bare lost k) (seen_rows sv ks) (λ c i. ap (λ z. cond z (record { place = c.place; row = untaken k c.row }) c) (h c i)) in (
          subst (λ (zs : List Cell). Purged zs (seen_rows sv (cells m2)) b.left.0) (between_seen ∙ same) r.0,
          r.1,
          b.taken ∙ ap length (filter_same (is_lost k now) lost (seen_rows sv ks) h),
        )
