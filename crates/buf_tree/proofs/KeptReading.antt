-- What a store that has the rows as they are kept tells of those that contracts see, which differ in their roles alone.
use Rattle.std.proofs.Common.{◌≡◌, ◌==◌, ◌<◌, ℕ, Bool, true, false, cond, List, [], ◌∷◌, map, refl, sym, ◌∙◌, ap, subst, Option, Some, None}
use Rattle.std.specs.Prelude.{option_map, option_and_then}
use Rattle.std.specs.FinMap.{get}
use Rattle.gcx_model.specs.Members.{In}
use Rattle.base_laws.proofs.Members.{in_map, from_map}
use Rattle.node_store.specs.Rows.{StoreRow, parent_of}
use Rattle.buf_tree.specs.Row.{Row}
use Rattle.buf_tree.specs.Shape.{Store, Cell, num, CellsRise, Shape, at_serial, place_for}
use Rattle.buf_tree.specs.Match.{IsChild}
use Rattle.buf_tree.specs.Spread.{SameButRoles, bare_cell}
use Rattle.buf_tree.proofs.Kin.{parent_row, no_parent}
use Rattle.buf_tree.proofs.Shaping.{get_of, rising_same}
use Rattle.buf_tree.proofs.Standing.{pair_left}

rising_bare : (xs : List Cell) → CellsRise xs → CellsRise (map bare_cell xs)
rising_bare [] r = tt
rising_bare (x ∷ xs) r = ((λ y i. let z = from_map bare_cell y xs i in subst (λ (c : Cell). num x < num c) z.2 (r.0 z.0 z.1)), rising_bare xs r.1)

bare_rising : (xs : List Cell) → CellsRise (map bare_cell xs) → CellsRise xs
bare_rising [] r = tt
bare_rising (x ∷ xs) r = ((λ y i. r.0 (bare_cell y) (in_map bare_cell y xs i)), bare_rising xs r.1)

-- the place of a serial doesn't depend on roles
place_bare : (k : ℕ) (xs : List Cell) → option_map (λ (c : Cell). c.place) (at_serial k xs) ≡ option_map (λ (c : Cell). c.place) (at_serial k (map bare_cell xs))
place_bare k [] = refl
place_bare k (x ∷ xs) = go (num x == k) (place_bare k xs)
  where
    go : (b : Bool) → option_map (λ (c : Cell). c.place) (at_serial k xs) ≡ option_map (λ (c : Cell). c.place) (at_serial k (map bare_cell xs))
        → option_map (λ (c : Cell). c.place) (cond b (Some x) (at_serial k xs)) ≡ option_map (λ (c : Cell). c.place) (cond b (Some (bare_cell x)) (at_serial k (map bare_cell xs)))
    go true h = refl
    go false h = h

module _ (ks rs : List Cell) (same : SameButRoles ks rs) where
  -- the row as it is kept
  pub kept_of : (c : Cell) → In c rs → (k : Cell) × In k ks × (bare_cell k ≡ bare_cell c)
  kept_of c i = let r = pair_left bare_cell bare_cell rs ks (sym same) c i in (r.0, r.1, sym r.2)

  -- and as it is seen
  pub seen_of : (k : Cell) → In k ks → (c : Cell) × In c rs × (bare_cell k ≡ bare_cell c)
  seen_of k i = pair_left bare_cell bare_cell ks rs same k i

module _ (m : Store) (ks rs : List Cell) (s : Shape m ks) (same : SameButRoles ks rs) where
  pub seen_rise : CellsRise rs
  seen_rise = bare_rising rs (subst (λ (zs : List Cell). CellsRise zs) same (rising_bare ks s.rising))

  pub seen_stand_apart : (a b : Cell) → In a rs → In b rs → a.place ≡ b.place → a ≡ b
  seen_stand_apart a b i j e =
      let k = kept_of ks rs same a i in
      let l = kept_of ks rs same b j in
      let one : k.0 ≡ l.0 = s.apart k.0 l.0 k.1 l.1 (ap (λ (z : Cell). z.place) k.2 ∙ (e ∙ sym (ap (λ (z : Cell). z.place) l.2))) in
      rising_same rs seen_rise a b i j (sym (ap num k.2) ∙ (ap num one ∙ ap num l.2))

  -- what the store has at the row's place is the row but for its roles
  payload_here : (p : ℕ) (r : Row) → option_map (λ (e : StoreRow Row). e.payload) (get m p) ≡ Some r → (c : Cell) → In c rs → c.place ≡ p → (k : Cell) × (k.row ≡ r) × (bare_cell k ≡ bare_cell c)
  payload_here p r h c i e =
      let k = kept_of ks rs same c i in
      let at : k.0.place ≡ p = ap (λ (z : Cell). z.place) k.2 ∙ e in
      let found : Some k.0.row ≡ Some r = sym (ap (option_map (λ (x : StoreRow Row). x.payload)) (ap (get m) (sym at) ∙ get_of m ks s k.0 k.1)) ∙ h in
      let row : k.0.row ≡ r = cc in
      (k.0, row, k.2)

  pub kind_told : (p : ℕ) (r : Row) → option_map (λ (e : StoreRow Row). e.payload) (get m p) ≡ Some r → (c : Cell) → In c rs → c.place ≡ p → c.row.kind ≡ r.kind
  kind_told p r h c i e = let k = payload_here p r h c i e in sym (ap (λ (z : Cell). z.row.kind) k.2) ∙ ap (λ (z : Row). z.kind) k.1

  pub num_told : (p : ℕ) (r : Row) → option_map (λ (e : StoreRow Row). e.payload) (get m p) ≡ Some r → (c : Cell) → In c rs → c.place ≡ p → num c ≡ r.serial
  num_told p r h c i e = let k = payload_here p r h c i e in sym (ap num k.2) ∙ ap (λ (z : Row). z.serial) k.1

  -- the parent's row
  pub parent_told_by : (c : Cell) → In c rs → (q : ℕ) → parent_of m c.place ≡ Some q → (d : Cell) × In d rs × IsChild d c × (d.place ≡ q)
  parent_told_by c i q h =
      let k = kept_of ks rs same c i in
      let u = parent_row m ks s k.0 k.1 q (ap (λ (z : Cell). parent_of m z.place) k.2 ∙ h) in
      let d = seen_of ks rs same u.0 u.1 in
      let child : IsChild (bare_cell u.0) (bare_cell k.0) = u.2 in
      (d.0, d.1, subst (λ (z : Cell). IsChild z (bare_cell c)) d.2 (subst (λ (z : Cell). IsChild (bare_cell u.0) z) k.2 child), sym (ap (λ (z : Cell). z.place) d.2) ∙ u.3)

  pub no_parent_told : (c : Cell) → In c rs → parent_of m c.place ≡ None → num c ≡ 0
  no_parent_told c i h =
      let k = kept_of ks rs same c i in
      sym (ap num k.2) ∙ no_parent m ks s k.0 k.1 (ap (λ (z : Cell). parent_of m z.place) k.2 ∙ h)

  -- the place of the parent is that for the serial that the row keeps
  pub link_told : (c : Cell) → In c rs → parent_of m c.place ≡ place_for rs c.row
  link_told c i =
      let k = kept_of ks rs same c i in
      let place = place_bare c.row.parent ks ∙ (ap (λ (zs : List Cell). option_map (λ (d : Cell). d.place) (at_serial c.row.parent zs)) same ∙ sym (place_bare c.row.parent rs)) in
      sym (ap (λ (z : Cell). parent_of m z.place) k.2)
      ∙ (ap (option_and_then (λ (x : StoreRow Row). x.parent)) (get_of m ks s k.0 k.1)
      ∙ (ap (λ (z : Cell). place_for ks z.row) k.2 ∙ ap (λ (o : Option ℕ). cond (c.row.serial == 0) None o) place))
