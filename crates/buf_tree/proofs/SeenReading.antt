-- What the store tells of the rows that contracts see, where these have roles from above too.
use Rattle.std.proofs.Common.{◌≡◌, ◌≤◌, ◌&&◌, ◌||◌, ℕ, zero, suc, Bool, List, [], ◌∷◌, length, map, not, refl, sym, ◌∙◌, ap, subst, inl, inr, Some, None, Option}
use Rattle.std.specs.Prelude.{option_map, IsSome, MatchOption}
use Rattle.std.specs.FinMap.{get}
use Rattle.std.specs.FinSet.{contains}
use Rattle.std.proofs.lemmas.List.{length-map}
use Rattle.gcx_base.specs.declared.steps.Axis.{Axis}
use Rattle.gcx_base.specs.declared.steps.Axis.TheVariants.{Child, Descendant}
use Rattle.gcx_base.specs.declared.steps.Step.{Step}
use Rattle.gcx_model.specs.declared.item.Off.{Off}
use Rattle.gcx_model.specs.Members.{In}
use Rattle.gcx_model.specs.Paths.{head}
use Rattle.node_store.specs.Rows.{StoreRow, IsTree}
use Rattle.node_store.specs.declared.store.Place.{Place}
use Rattle.buf_tree.specs.Row.{Row}
use Rattle.buf_tree.specs.Shape.{Store, Cell, num, cells, at_place, AtPlace, Shaped}
use Rattle.buf_tree.specs.View.{InUse, num_in, serial_at}
use Rattle.buf_tree.specs.Match.{IsChild, DescendsFrom, Lies, Reached, Unreached, FirstReached, FindsAbove, FindsBehind, SerialFound, IsFrom, GoesFrom}
use Rattle.buf_tree.specs.Spread.{SpreadView, is_spread_in, seen_rows, SameButRoles, bare_cell}
use Rattle.buf_tree.specs.Ways.{LeadsBy, is_waiting}
use Rattle.buf_tree.proofs.Lifting.{seen_is, seen_in, seen_from, seen_apart, node_of_kept}
use Rattle.buf_tree.proofs.Reading.{used, row_at, root_is}
use Rattle.buf_tree.proofs.Shaping.{at_place_is}
use Rattle.buf_tree.proofs.Spreading.{Upward, upward, spread_cell}

-- ---- what is found among the rows kept is found among those seen

module _ (s : Option SpreadView) (ks : List Cell) (up : Upward [] ks) where
  abbrev f : Cell → Cell
  f = spread_cell (is_spread_in s) (seen_rows s ks)

  rises_seen : (n : ℕ) (c d : Cell) → DescendsFrom ks n c d → DescendsFrom (seen_rows s ks) n (f c) (f d)
  rises_seen zero c d r = r
  rises_seen (suc n) c d r = (f r.0, seen_in s ks up r.0 r.1, r.2, rises_seen n c r.0 r.3)

  rises_kept : (n : ℕ) (c d : Cell) → DescendsFrom (seen_rows s ks) n (f c) (f d) → DescendsFrom ks n c d
  rises_kept zero c d r = r
  rises_kept (suc n) c d r =
      let x = seen_from s ks up r.0 r.1 in (
        x.0,
        x.1,
        subst (λ (z : Cell). IsChild z d) (sym x.2) r.2,
        rises_kept n c x.0 (subst (λ (z : Cell). DescendsFrom (seen_rows s ks) n (f c) z) (sym x.2) r.3),
      )

  lies_seen : (axis : Axis) (c d : Cell) → Lies ks axis c d → Lies (seen_rows s ks) axis (f c) (f d)
  lies_seen Child c d l = l
  lies_seen Descendant c d l = (l.0, rises_seen l.0 c d l.1)

  lies_kept : (axis : Axis) (c d : Cell) → Lies (seen_rows s ks) axis (f c) (f d) → Lies ks axis c d
  lies_kept Child c d l = l
  lies_kept Descendant c d l = (l.0, rises_kept l.0 c d l.1)

  reached_seen : (step : Step) (after : ℕ) (c d : Cell) → Reached ks c step after d → Reached (seen_rows s ks) (f c) step after (f d)
  reached_seen step after c d r = record { among = seen_in s ks up d r.among; axis = lies_seen step.axis c d r.axis; passed = r.passed; behind = r.behind }

  reached_kept : (step : Step) (after : ℕ) (c d : Cell) → Reached (seen_rows s ks) (f c) step after d → (x : Cell) × (f x ≡ d) × Reached ks c step after x
  reached_kept step after c d r =
      let x = seen_from s ks up d r.among in
      let w = subst (λ (z : Cell). Reached (seen_rows s ks) (f c) step after z) (sym x.2) r in
      (x.0, x.2, record { among = x.1; axis = lies_kept step.axis c x.0 w.axis; passed = w.passed; behind = w.behind })

  found_seen : (step : Step) (after : ℕ) (c : Cell) (r : Option Place) → MatchOption r (Unreached ks c step after) (λ q. FirstReached ks c step after q.0)
      → MatchOption r (Unreached (seen_rows s ks) (f c) step after) (λ q. FirstReached (seen_rows s ks) (f c) step after q.0)
  found_seen step after c None h = record { none = λ d r. let x = reached_kept step after c d r in h.none x.0 x.2 }
  found_seen step after c (Some q) h = record {
    cell = f h.cell;
    reached = reached_seen step after c h.cell h.reached;
    place = h.place;
    least = λ d r. let x = reached_kept step after c d r in subst (λ (z : Cell). num h.cell ≤ num z) x.1 (h.least x.0 x.2);
  }

  pub finds_above : (p : ℕ) (step : Step) (after : ℕ) (r : Option Place) → FindsAbove ks p step after r → FindsAbove (seen_rows s ks) p step after r
  finds_above p step after r h c i e =
      let x = seen_from s ks up c i in
      subst (λ (z : Cell). MatchOption r (Unreached (seen_rows s ks) z step after) (λ q. FirstReached (seen_rows s ks) z step after q.0)) x.2
      (found_seen step after x.0 r (h x.0 x.1 (ap (λ (z : Cell). z.place) x.2 ∙ e)))

  pub finds_behind : (p q : ℕ) (step : Step) (r : Option Place) → FindsBehind ks p q step r → FindsBehind (seen_rows s ks) p q step r
  finds_behind p q step r h c d i j e g =
      let x = seen_from s ks up c i in
      let y = seen_from s ks up d j in
      subst (λ (z : Cell). MatchOption r (Unreached (seen_rows s ks) c step (num z)) (λ o. FirstReached (seen_rows s ks) c step (num z) o.0)) y.2
      (subst (λ (z : Cell). MatchOption r (Unreached (seen_rows s ks) z step (num y.0)) (λ o. FirstReached (seen_rows s ks) z step (num y.0) o.0)) x.2
      (found_seen step (num y.0) x.0 r (h x.0 y.0 x.1 y.1 (ap (λ (z : Cell). z.place) x.2 ∙ e) (ap (λ (z : Cell). z.place) y.2 ∙ g))))

  -- from where a search goes on
  pub from_kept : ((a b : Cell) → In a ks → In b ks → a.place ≡ b.place → a ≡ b) → (p q : ℕ) (axis : Axis) → GoesFrom (seen_rows s ks) p axis q
      → (c d : Cell) → In c ks → In d ks → c.place ≡ p → d.place ≡ q → IsFrom ks axis c d
  from_kept apart p q axis h c d i j e g =
      let one : h.top.cell ≡ f c = seen_apart s ks up apart h.top.cell (f c) h.top.among (seen_in s ks up c i) (h.top.place ∙ sym e) in
      let two : h.from.cell ≡ f d = seen_apart s ks up apart h.from.cell (f d) h.from.among (seen_in s ks up d j) (h.from.place ∙ sym g) in
      go (subst (λ (z : Cell). IsFrom (seen_rows s ks) axis (f c) z) two (subst (λ (z : Cell). IsFrom (seen_rows s ks) axis z h.from.cell) one h.way))
    where
      go : IsFrom (seen_rows s ks) axis (f c) (f d) → IsFrom ks axis c d
      go (inl k) = inl (apart c d i j (ap (λ (z : Cell). z.place) k))
      go (inr l) = inr (lies_kept axis c d l)

  pub leads_seen : (p : ℕ) (steps : List Step) (q : ℕ) → (b : Bool) → LeadsBy ks p steps q b → LeadsBy (seen_rows s ks) p steps q b
  leads_seen p steps q b h a n u v = h a n (node_of_kept s ks up p a u) (node_of_kept s ks up q n v)

  -- the rows differ in their roles alone
  pub alike : SameButRoles ks (seen_rows s ks)
  alike = go ks ∙ ap (map bare_cell) (sym (seen_is s ks up))
    where
      go : (cs : List Cell) → map bare_cell cs ≡ map bare_cell (map f cs)
      go [] = refl
      go (c ∷ cs) = ap (λ zs. bare_cell c ∷ zs) (go cs)

  pub as_many : length ks ≡ length (seen_rows s ks)
  as_many = sym (length-map ks f) ∙ ap length (sym (seen_is s ks up))

  head_place : option_map (λ (c : Cell). c.place) (head ks) ≡ option_map (λ (c : Cell). c.place) (head (seen_rows s ks))
  head_place = go ks ∙ ap (λ cs. option_map (λ (c : Cell). c.place) (head cs)) (sym (seen_is s ks up))
    where
      go : (cs : List Cell) → option_map (λ (c : Cell). c.place) (head cs) ≡ option_map (λ (c : Cell). c.place) (head (map f cs))
      go [] = refl
      go (c ∷ cs) = refl

-- ---- what the store tells

module _ (m : Store) (shape : Shaped m) (s : Option SpreadView) (rs : List Cell) (is : seen_rows s (cells m) ≡ rs) where
  up : Upward [] (cells m)
  up = upward (cells m) shape.rising shape.up

  pub used_seen : (p : ℕ) → InUse rs p → IsSome (get m p)
  used_seen p u =
      let x = seen_from s (cells m) up u.cell (subst (λ (zs : List Cell). In u.cell zs) (sym is) u.among) in
      used m (cells m) p shape refl (record { cell = x.0; among = x.1; place = ap (λ (z : Cell). z.place) x.2 ∙ u.place })

  -- the row seen at the place is that of the store, with its roles from above
  pub row_seen : (p : ℕ) (c : Cell) → In c rs → c.place ≡ p → (r : Row) → option_map (λ (e : StoreRow Row). e.payload) (get m p) ≡ Some r
      → (d : Cell) × (spread_cell (is_spread_in s) (seen_rows s (cells m)) d ≡ c) × (d.row ≡ r)
  row_seen p c i e r h =
      let x = seen_from s (cells m) up c (subst (λ (zs : List Cell). In c zs) (sym is) i) in
      (x.0, x.2, row_at m (cells m) p shape refl x.0 x.1 (ap (λ (z : Cell). z.place) x.2 ∙ e) r h)

  at_seen : (p : ℕ) (c : Cell) → In c rs → c.place ≡ p → at_place p rs ≡ Some c
  at_seen p c i e = ap (λ k. at_place k rs) (sym e) ∙ at_place_is rs (subst (λ (zs : List Cell). (a b : Cell) → In a zs → In b zs → a.place ≡ b.place → a ≡ b) is (seen_apart s (cells m) up shape.apart)) c i

  pub num_seen : (p : ℕ) (c : Cell) → In c rs → c.place ≡ p → (r : Row) → option_map (λ (e : StoreRow Row). e.payload) (get m p) ≡ Some r → num c ≡ r.serial
  num_seen p c i e r h = let x = row_seen p c i e r h in ap num (sym x.1) ∙ ap (λ (q : Row). q.serial) x.2

  pub serial_seen : (p : ℕ) → InUse rs p → (r : Row) → option_map (λ (e : StoreRow Row). e.payload) (get m p) ≡ Some r → r.serial ≡ serial_at p rs
  serial_seen p u r h = sym (num_seen p u.cell u.among u.place r h) ∙ sym (ap num_in (at_seen p u.cell u.among u.place))

  pub serials_seen : (r : Option Place) → SerialFound rs r
  serials_seen None = tt
  serials_seen (Some p) = λ c i e. ap num_in (at_seen p.0 c i e)

  pub open_seen : (p : ℕ) (c : Cell) → In c rs → c.place ≡ p → (r : Row) → option_map (λ (e : StoreRow Row). e.payload) (get m p) ≡ Some r → not r.is_open ≡ not c.row.is_open
  open_seen p c i e r h = let x = row_seen p c i e r h in ap (λ (q : Row). not q.is_open) (sym x.2) ∙ ap (λ (z : Cell). not z.row.is_open) x.1

  -- where it is known whether it has the base's own role
  pub waits_seen : (o : Off) (p : ℕ) (c : Cell) → In c rs → c.place ≡ p → (r : Row) → option_map (λ (e : StoreRow Row). e.payload) (get m p) ≡ Some r → (b : Bool) → AtPlace (seen_rows s (cells m)) p (λ d. b ≡ contains d.row.roles o.own.0)
      → ((b || contains r.signed o.own.0) && not (contains r.signed o.role.0)) ≡ is_waiting c.row o
  waits_seen o p c i e r h b law =
      let x = row_seen p c i e r h in
      let same : r.signed ≡ c.row.signed = ap (λ (q : Row). q.signed) (sym x.2) ∙ ap (λ (z : Cell). z.row.signed) x.1 in
      let has : b ≡ contains c.row.roles o.own.0 = law c (subst (λ (zs : List Cell). In c zs) (sym is) i) e in
      λ t. (has t || contains (same t) o.own.0) && not (contains (same t) o.role.0)

  pub above_seen : (p : ℕ) (step : Step) (after : ℕ) (r : Option Place) → FindsAbove (cells m) p step after r → FindsAbove rs p step after r
  above_seen p step after r h = subst (λ (zs : List Cell). FindsAbove zs p step after r) is (finds_above s (cells m) up p step after r h)

  pub behind_seen : (p q : ℕ) (step : Step) (r : Option Place) → FindsBehind (cells m) p q step r → FindsBehind rs p q step r
  behind_seen p q step r h = subst (λ (zs : List Cell). FindsBehind zs p q step r) is (finds_behind s (cells m) up p q step r h)

  pub from_seen : (p q : ℕ) (axis : Axis) → GoesFrom rs p axis q → (c d : Cell) → In c (cells m) → In d (cells m) → c.place ≡ p → d.place ≡ q → IsFrom (cells m) axis c d
  from_seen p q axis h = from_kept s (cells m) up shape.apart p q axis (subst (λ (zs : List Cell). GoesFrom zs p axis q) (sym is) h)

  pub root_seen : (root : Option ℕ) → IsTree m root → root ≡ option_map (λ (c : Cell). c.place) (head rs)
  root_seen root t = root_is m root t (cells m) shape refl ∙ head_place s (cells m) up ∙ ap (λ cs. option_map (λ (c : Cell). c.place) (head cs)) is
