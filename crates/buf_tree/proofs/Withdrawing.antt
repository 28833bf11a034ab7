-- Taking a role back from rows, and what leaves then.
use Rattle.std.proofs.Common.{◌≡◌, ◌==◌, ℕ, zero, suc, ◌+◌, ◌-◌, ◌<◌, ◌≤◌, Bool, true, false, cond, not, ◌&&◌, ◌||◌, List, [], ◌∷◌, ◌++◌, length, map, refl, sym, ◌∙◌, ap, subst, inl, inr, ◌⊎◌, arith, Some, append_assoc, Option}
use Rattle.std.specs.Prelude.{◌↔◌, IsSome, reverse}
use Rattle.std.specs.List.{filter, list_any}
use Rattle.std.proofs.lemmas.List.{append-nil, length-append, map-append}
use Rattle.std.specs.Ordering.{nat_cmp}
use Rattle.std.specs.Cmp.{nat_cmp_total, unsigned_tied}
use Rattle.std.specs.FinSet as set
use Rattle.std.specs.FinSet.{contains-remove, contains-empty}
use Rattle.std.specs.FinMap.{get}
use Rattle.std.proofs.lemmas.Bool.{or_cases, or_left, or_right, and_parts, true≢false, false≢true, not-true, eqb-true, eq-eqb, cases_eq, cases_Bool, false_from_ne_true}
use Rattle.gcx_model.specs.Paths.{any}
use Rattle.tree_laws.proofs.Lists.{In, In-append, In-filter, In-kept, filter_none, filter_same, any_in, any_from, In-reversed, In-reverse}
use Rattle.tree_laws.specs.Departing as trace
use Rattle.tree_laws.proofs.Departures.{falling_same}
use Rattle.node_store.specs.Rows.{StoreRow, changed_at, paid_by}
use Rattle.buf_tree.specs.Row.{Row}
use Rattle.buf_tree.specs.Rows.{untaken}
use Rattle.buf_tree.specs.Shape.{Store, Cell, num, cells, CellsRise, is_under, entry_in, Shape, Shaped, with_at}
use Rattle.buf_tree.specs.Purge.{is_gone, Tidy, TidyBut, Falling, Purged, PurgedBut, Cleared}
use Rattle.buf_tree.specs.Sweep.{taken_by, Swept}
use Rattle.buf_tree.specs.declared.ahead.Ahead.{Ahead}
use Rattle.base_laws.proofs.Lists.{reverse_cons}
use Rattle.base_laws.proofs.Bools.{same_bools}
use Rattle.base_laws.proofs.Members.{in_map, from_map, map_same}
use Rattle.buf_tree.specs.Spread.{SpreadView, seen_rows}
use Rattle.buf_tree.specs.Withdraw.{SeenTaken, Withdrawn}
use Rattle.buf_tree.specs.View.{Ordered, Kept, Ready, capped}
use Rattle.buf_tree.specs.Walk.{Nested}
use Rattle.buf_tree.specs.Calls.{role_count, left_out}
use Rattle.buf_tree.proofs.Shaping.{get_of, held_in, shaped}
use Rattle.buf_tree.proofs.Changes.{Rising-filtered, shape_changed}
use Rattle.buf_tree.proofs.Purging.{filter-filter, starts, some_entry}
use Rattle.buf_tree.proofs.Taking.{length_map, some_member, bare, bare_alike}
use Rattle.buf_tree.proofs.Keeping.{ordered_part, tidy_changed, cells_untaken}

-- ---- lists

-- a row that a test knows alone
one_passes : (xs : List Cell) → CellsRise xs → (c : Cell) → In c xs → (p : Cell → Bool) → ((d : Cell) → In d xs → (p d ≡ true) ↔ (c ≡ d)) → filter p xs ≡ c ∷ []
one_passes [] r c i p h = absurd i
one_passes (x ∷ xs) r c (inl e) p h =
    let t : p x ≡ true = (h x (inl refl)).1 (sym e) in
    let none : filter p xs ≡ [] = filter_none p xs (λ d j. false_from_ne_true _ (λ k. let l = r.0 d j in let z = ap num (e ∙ (h d (inr j)).0 k) in absurd (omega arith))) in
    ap (λ b. cond b (x ∷ filter p xs) (filter p xs)) t ∙ (λ z. e z ∷ none z)
one_passes (x ∷ xs) r c (inr i) p h =
    let f : p x ≡ false = false_from_ne_true _ (λ k. let l = r.0 c i in let z = ap num ((h x (inl refl)).0 k) in absurd (omega arith)) in
    ap (λ b. cond b (x ∷ filter p xs) (filter p xs)) f ∙ one_passes xs r.1 c i p (λ d j. h d (inr j))

any-both : (f : ℕ → Bool) (ks js : List ℕ) → any f (ks ++ js) ≡ (any f ks || any f js)
any-both f [] js = refl
any-both f (k ∷ ks) js = ap (λ z. f k || z) (any-both f ks js) ∙ go (f k) (any f ks) (any f js)
  where
    go : (a b c : Bool) → (a || (b || c)) ≡ ((a || b) || c)
    go true b c = refl
    go false b c = refl

Falling-both : (ks js : List ℕ) → Falling ks → Falling js → ((k j : ℕ) → In k ks → In j js → j < k) → Falling (ks ++ js)
Falling-both [] js f g h = g
Falling-both (k ∷ ks) js f g h = (
  λ j i. elim (In-append j ks js i) [ inl a ↦ f.0 j a | inr b ↦ h k j (inl refl) b ],
  Falling-both ks js f.1 g (λ a b i j. h a b (inr i) j),
)

is_gone_in : (gone : List ℕ) (c : Cell) → is_gone gone c ≡ true → In (num c) gone
is_gone_in gone c e = let r = any_in (λ k. num c == k) gone e in subst (λ (z : ℕ). In z gone) (sym (eqb-true _ _ r.2)) r.1

in_is_gone : (gone : List ℕ) (c : Cell) → In (num c) gone → is_gone gone c ≡ true
in_is_gone gone c i = any_from (λ k. num c == k) (num c) gone i (eq-eqb _ _ refl)

-- ---- a sweep and then a purge upwards

module _ (m : Store) (ys : List Cell) (s : Shape m ys) (xs zs : List Cell) (p : ℕ) (l1 l2 : List ℕ) (a : PurgedBut (Some p) xs ys l1) (b : Purged ys zs l2) (c : Cell) (i : In c ys) (at : c.place ≡ p) where
  in_ys : (d : Cell) → In d xs → is_gone l1 d ≡ false → In d ys
  in_ys d j n = subst (λ (w : List Cell). In d w) (sym a.leaves.rows) (In-kept (λ (x : Cell). not (is_gone l1 x)) d xs j (ap not n))

  in_xs : (d : Cell) → In d ys → In d xs
  in_xs d j = (In-filter (λ (x : Cell). not (is_gone l1 x)) d xs (subst (λ (w : List Cell). In d w) a.leaves.rows j)).0

  -- upwards nothing leaves that is behind the place
  low_gone : (more bound : ℕ) → ((d : Cell) → In d ys → num d < bound) → (d : Cell) → In d ys → is_gone l2 d ≡ true → bound ≤ num d + more → num d ≤ num c
  low_gone zero bound high d j e l = let h = high d j in absurd (omega arith)
  low_gone (suc more) bound high d j e l = elim (cases_eq d.place p) [
    | inl same ↦ (let z = ap num (s.apart d c j i (same ∙ sym at)) in omega arith)
    | inr other ↦ elim (a.tidy d j (λ q. other (sym (some_is _ _ q)))) [
      | inl alive ↦ absurd (alive (b.leaves.dead d j e))
      | inr k ↦ (
          let f = b.leaves.down d k.0 j k.1 e k.2 in
          let above = up k.0 d k.1 k.2 in
          let far = low_gone more bound high k.0 k.1 f (omega arith) in
          omega arith)
    ]
  ]
    where
      some_is : (x y : ℕ) → Some x ≡ Some y → x ≡ y
      some_is x y q = cc

      up : (k d : Cell) → In k ys → is_under (num d) k ≡ true → num d < num k
      up k d n u =
          let q = and_parts (not (num k == 0)) (k.row.parent == num d) u in
          let par = eqb-true k.row.parent (num d) q.1 in
          elim (s.up k n) [
            | inl z ↦ absurd (false≢true (ap not (sym (eq-eqb (num k) 0 z)) ∙ q.0))
            | inr h ↦ (let x = h.2 in let y = h.3 in omega arith)
          ]

  top : (xs : List Cell) → (n : ℕ) × ((d : Cell) → In d xs → num d < n)
  top [] = (0, λ d j. absurd j)
  top (x ∷ xs) = let r = top xs in (num x + r.0 + 1, λ d j. elim j [ inl e ↦ (let z = ap num e in omega arith) | inr k ↦ (let z = r.1 d k in omega arith) ])

  gone_either : (d : Cell) → In d xs → is_gone (l1 ++ l2) d ≡ true → (is_gone l1 d ≡ true) ⊎ (In d ys × (is_gone l2 d ≡ true))
  gone_either d j e = elim (cases_Bool (is_gone l1 d)) [
    | inl k ↦ inl k
    | inr k ↦ inr (in_ys d j k, ap (λ z. z || is_gone l2 d) (sym k) ∙ sym (any-both (λ z. num d == z) l1 l2) ∙ e)
  ]

  gone_first : (d : Cell) → is_gone l1 d ≡ true → is_gone (l1 ++ l2) d ≡ true
  gone_first d e = any-both (λ z. num d == z) l1 l2 ∙ or_left _ _ e

  gone_second : (d : Cell) → is_gone l2 d ≡ true → is_gone (l1 ++ l2) d ≡ true
  gone_second d e = any-both (λ z. num d == z) l1 l2 ∙ or_right (is_gone l1 d) _ e

  pub purged_both : Purged xs zs (l1 ++ l2)
  purged_both = record {
    leaves = record {
      rows =
          b.leaves.rows
          ∙ ap (filter (λ (x : Cell). not (is_gone l2 x))) a.leaves.rows
          ∙ filter-filter (λ (x : Cell). not (is_gone l2 x)) (λ (x : Cell). not (is_gone l1 x)) xs
          ∙ filter_same (λ (x : Cell). not (is_gone l1 x) && not (is_gone l2 x)) (λ (x : Cell). not (is_gone (l1 ++ l2) x)) xs (λ d j. neither (is_gone l1 d) (is_gone l2 d) ∙ ap not (sym (any-both (λ z. num d == z) l1 l2)));
      dead = λ d j e. elim (gone_either d j e) [ inl k ↦ a.leaves.dead d j k | inr k ↦ b.leaves.dead d k.0 k.1 ];
      down = λ d e j k g u. elim (gone_either d j g) [
        | inl x ↦ gone_first e (a.leaves.down d e j k x u)
        | inr x ↦ elim (cases_Bool (is_gone l1 e)) [
          | inl y ↦ gone_first e y
          | inr y ↦ gone_second e (b.leaves.down d e x.0 (in_ys e k y) x.1 u)
        ]
      ];
      falling = Falling-both l1 l2 a.leaves.falling b.leaves.falling (λ k j n o.
          let d = b.leaves.known j o in
          let t = top ys in
          let e : is_gone l2 d.0 ≡ true = in_is_gone l2 d.0 (subst (λ (z : ℕ). In z l2) (sym d.2) o) in
          let far = low_gone t.0 t.0 t.1 d.0 d.1 e (omega arith) in
          let near = a.low c i (ap (λ z. Some z) (sym at)) k n in
          let is = d.2 in
          omega arith);
      known = λ k j. elim (In-append k l1 l2 j) [
        | inl x ↦ a.leaves.known k x
        | inr x ↦ (let d = b.leaves.known k x in (d.0, in_xs d.0 d.1, d.2))
      ];
    };
    tidy = b.tidy;
  }
    where
      neither : (x y : Bool) → (not x && not y) ≡ not (x || y)
      neither true y = refl
      neither false y = refl

-- ---- rows without a role

module _ (loses : Cell → Bool) (k : ℕ) where
  t_open : (c : Cell) → (bare loses k c).row.is_open ≡ c.row.is_open
  t_open c = go (loses c)
    where
      go : (b : Bool) → (cond b (record { place = c.place; row = untaken k c.row }) c).row.is_open ≡ c.row.is_open
      go true = refl
      go false = refl

  pub t_nested : (xs : List Cell) → Nested xs → Nested (taken_by loses k xs)
  t_nested xs nest b c i j l n =
      let x = from_map (bare loses k) b xs i in
      let y = from_map (bare loses k) c xs j in
      let a1 = (bare_alike loses k x.0).serial ∙ ap num x.2 in
      let a2 = (bare_alike loses k y.0).serial ∙ ap num y.2 in
      let b1 = (bare_alike loses k x.0).parent ∙ ap (λ (z : Cell). z.row.parent) x.2 in
      let b2 = (bare_alike loses k y.0).parent ∙ ap (λ (z : Cell). z.row.parent) y.2 in
      let z = nest x.0 y.0 x.1 y.1 (omega arith) (omega arith) in omega arith

  pub t_ordered : (xs : List Cell) → Ordered xs → Ordered (taken_by loses k xs)
  t_ordered xs o = record {
    nested = t_nested xs o.nested;
    open_last = λ a b i j op l.
        let x = from_map (bare loses k) a xs i in
        let y = from_map (bare loses k) b xs j in
        let a1 = (bare_alike loses k x.0).serial ∙ ap num x.2 in
        let a2 = (bare_alike loses k y.0).serial ∙ ap num y.2 in
        let b2 = (bare_alike loses k y.0).parent ∙ ap (λ (z : Cell). z.row.parent) y.2 in
        let z = o.open_last x.0 y.0 x.1 y.1 (sym (t_open x.0) ∙ ap (λ (w : Cell). w.row.is_open) x.2 ∙ op) (omega arith) in omega arith;
  }

  -- the role isn't there any more
  lost : (r : Row) → set.contains (untaken k r).roles k ≡ false
  lost r = contains-remove nat_cmp_total r.roles k k ∙ ap (λ b. not b && set.contains r.roles k) (unsigned_tied k k ∙ eq-eqb k k refl)

  both_sides : (a b c : ℕ) → a + b ≡ c → (suc a + b ≡ suc c) × (a + suc b ≡ suc c)
  both_sides a b c e = (omega arith, omega arith)

  -- each row that lost it counts once
  roles_split : (xs : List Cell) → ((c : Cell) → In c xs → loses c ≡ true → set.contains c.row.roles k ≡ true) → length (filter loses xs) + role_count k (taken_by loses k xs) ≡ role_count k xs
  roles_split [] h = refl
  roles_split (x ∷ xs) h = go (loses x) (set.contains x.row.roles k) refl refl (roles_split xs (λ c i. h c (inr i)))
    where
      go : (a b : Bool) → loses x ≡ a → set.contains x.row.roles k ≡ b → length (filter loses xs) + role_count k (taken_by loses k xs) ≡ role_count k xs
          → length (cond (loses x) (x ∷ filter loses xs) (filter loses xs)) + length (cond (set.contains (cond (loses x) (record { place = x.place; row = untaken k x.row }) x).row.roles k) (bare loses k x ∷ filter (λ c. set.contains c.row.roles k) (taken_by loses k xs)) (filter (λ c. set.contains c.row.roles k) (taken_by loses k xs)))
          ≡ length (cond (set.contains x.row.roles k) (x ∷ filter (λ c. set.contains c.row.roles k) xs) (filter (λ c. set.contains c.row.roles k) xs))
      go true true e f ih = rw (e, f, lost x.row) (both_sides _ _ _ ih).0
      go true false e f ih = absurd (true≢false (sym (h x (inl refl) e) ∙ f))
      go false true e f ih = rw (e, f) (both_sides _ _ _ ih).1
      go false false e f ih = rw (e, f) ih

  -- what leaves has no role
  gone_count : (ys zs : List Cell) (gone : List ℕ) → Purged ys zs gone → role_count k zs ≡ role_count k ys
  gone_count ys zs gone u =
      ap length (
      ap (filter (λ (c : Cell). set.contains c.row.roles k)) u.leaves.rows
      ∙ filter-filter (λ (c : Cell). set.contains c.row.roles k) (λ (c : Cell). not (is_gone gone c)) ys
      ∙ filter_same (λ (c : Cell). not (is_gone gone c) && set.contains c.row.roles k) (λ (c : Cell). set.contains c.row.roles k) ys (λ c i. go c i (is_gone gone c) refl))
    where
      go : (c : Cell) → In c ys → (b : Bool) → is_gone gone c ≡ b → (not b && set.contains c.row.roles k) ≡ set.contains c.row.roles k
      go c i true e = sym (ap (λ s. set.contains s k) (u.leaves.dead c i e).1 ∙ contains-empty nat_cmp k)
      go c i false e = refl

  pub roles_counted : (xs zs : List Cell) (gone : List ℕ) → Purged (taken_by loses k xs) zs gone → ((c : Cell) → In c xs → loses c ≡ true → set.contains c.row.roles k ≡ true)
      → length (filter loses xs) + role_count k zs ≡ role_count k xs
  roles_counted xs zs gone u h = ap (λ z. length (filter loses xs) + z) (gone_count (taken_by loses k xs) zs gone u) ∙ roles_split xs h

-- ---- the departures are the serials of the rows that aren't there any more, falling

as_falling : (ks : List ℕ) → Falling ks → trace.Falling ks
as_falling [] f = tt
as_falling (k ∷ ks) f = (f.0, as_falling ks f.1)

reverse_falls : (xs : List Cell) → CellsRise xs → Falling (map num (reverse xs))
reverse_falls [] r = tt
reverse_falls (x ∷ xs) r = subst (λ (z : List ℕ). Falling z) (sym (ap (map num) (reverse_cons x xs) ∙ map-append num (reverse xs) (x ∷ [])))
    (Falling-both (map num (reverse xs)) (num x ∷ []) (reverse_falls xs r.1) (λ j i. absurd i, tt) (λ k j i e. elim e [
      | inl f ↦ (let m = from_map num k (reverse xs) i in let l = r.0 m.0 (In-reverse m.0 xs m.1) in let z = m.2 in omega arith)
      | inr n ↦ absurd n
    ]))

listed_any : (now : List Cell) (k : ℕ) → list_any (λ (d : Cell). num d == k) now ≡ true → (d : Cell) × In d now × (num d ≡ k)
listed_any [] k h = absurd (false≢true h)
listed_any (d ∷ now) k h = elim (or_cases (num d == k) (list_any (λ (d : Cell). num d == k) now) h) [
  | inl e ↦ (d, inl refl, eqb-true _ _ e)
  | inr e ↦ (let r = listed_any now k e in (r.0, inr r.1, r.2))
]

any_listed : (now : List Cell) (d : Cell) (k : ℕ) → In d now → num d ≡ k → list_any (λ (d : Cell). num d == k) now ≡ true
any_listed [] d k i e = absurd i
any_listed (x ∷ now) d k (inl f) e = or_left _ _ (eq-eqb (num x) k (ap num f ∙ e))
any_listed (x ∷ now) d k (inr i) e = or_right (num x == k) _ (any_listed now d k i e)

pub left_is : (f : Cell → Cell) → ((c : Cell) → num (f c) ≡ num c) → (xs zs : List Cell) (left : List ℕ) → CellsRise xs → Purged (map f xs) zs left → left ≡ left_out xs zs
left_is f same xs zs left r u = falling_same left (left_out xs zs) (as_falling left u.leaves.falling) (as_falling (left_out xs zs) (reverse_falls (filter out xs) (Rising-filtered out xs r))) to from
  where
    out : Cell → Bool
    out c = not (list_any (λ (d : Cell). num d == num c) zs)

    stays : (d : Cell) → In d zs → In d (map f xs) × (not (is_gone left d) ≡ true)
    stays d i = In-filter (λ (x : Cell). not (is_gone left x)) d (map f xs) (subst (λ (w : List Cell). In d w) u.leaves.rows i)

    to : (s : ℕ) → In s left → In s (left_out xs zs)
    to s i =
        let x = u.leaves.known s i in
        let c = from_map f x.0 xs x.1 in
        let e : num c.0 ≡ s = sym (same c.0) ∙ ap num c.2 ∙ x.2 in
        let n : list_any (λ (d : Cell). num d == num c.0) zs ≡ false = false_from_ne_true _ (λ h.
        let d = listed_any zs (num c.0) h in
        let g = stays d.0 d.1 in
        false≢true (sym (ap not (in_is_gone left d.0 (subst (λ (z : ℕ). In z left) (sym (d.2 ∙ e)) i))) ∙ g.1)) in
        subst (λ (z : ℕ). In z (left_out xs zs)) e (in_map num c.0 (reverse (filter out xs)) (In-reversed c.0 (filter out xs) (In-kept out c.0 xs c.1 (ap not n))))

    from : (s : ℕ) → In s (left_out xs zs) → In s left
    from s i =
        let c = from_map num s (reverse (filter out xs)) i in
        let g = In-filter out c.0 xs (In-reverse c.0 (filter out xs) c.1) in
        elim (cases_Bool (is_gone left (f c.0))) [
          | inl e ↦ subst (λ (z : ℕ). In z left) (same c.0 ∙ c.2) (is_gone_in left (f c.0) e)
          | inr e ↦ (
              let k : In (f c.0) zs = subst (λ (w : List Cell). In (f c.0) w) (sym u.leaves.rows) (In-kept (λ (x : Cell). not (is_gone left x)) (f c.0) (map f xs) (in_map f c.0 xs g.0) (ap not e)) in
              absurd (true≢false (sym (any_listed zs (f c.0) (num c.0) k (same c.0)) ∙ not-true _ g.1)))
        ]

-- ---- stores

-- the state between the sweep and the purge upwards
pub ready_swept : (m0 m1 : Store) (p : ℕ) (loses : Cell → Bool) (k : ℕ) (g0 g1 : List ℕ) (res cap0 cap1 held left n : ℕ) → Kept m0 g0 cap0 held n → Swept m0 m1 p loses k g0 g1 res → length g1 + length (cells m1) ≡ length g0 + length (cells m0) → cap0 ≤ cap1
    → left ≡ held - (length g1 - length g0) → Ready m1 p g1 cap1 left n
ready_swept m0 m1 p loses k g0 g1 res cap0 cap1 held left n h w e l f =
    let longer : length g1 ≡ length g0 + length w.left.0 = ap length w.left.1 ∙ length-append g0 w.left.0 in
    record {
      shape = w.shape;
      there = w.there;
      tidy = w.left.2.tidy;
      held = omega (arith, e, f, longer, h.held);
      room = omega (arith, e, f, longer, h.held, h.room, l);
      below = λ d i.
          let r = from_map (bare loses k) d (cells m0) (part d i) in
          let b = h.below r.0 r.1 in
          let x = (bare_alike loses k r.0).serial in
          let y = ap num r.2 in
          omega arith;
      ordered = ordered_part (taken_by loses k (cells m0)) (cells m1) part (t_ordered loses k (cells m0) h.ordered);
    }
  where
    part : (d : Cell) → In d (cells m1) → In d (taken_by loses k (cells m0))
    part d i = (In-filter (λ (x : Cell). not (is_gone w.left.0 x)) d (taken_by loses k (cells m0)) (subst (λ (zs : List Cell). In d zs) w.left.2.leaves.rows i)).0

-- and all that left
pub swept_cleared : (m0 m1 m2 : Store) (p : ℕ) (loses : Cell → Bool) (k : ℕ) (g0 g1 g2 : List ℕ) (res : ℕ) → Swept m0 m1 p loses k g0 g1 res → Cleared m1 m2 g1 g2 → (left : List ℕ) × (g2 ≡ g0 ++ left) × Purged (taken_by loses k (cells m0)) (cells m2) left
swept_cleared m0 m1 m2 p loses k g0 g1 g2 res w c =
    let e = some_entry (get m1 p) w.there in
    let d = held_in m1 (cells m1) w.shape p e.0 e.1 in (
      w.left.0 ++ c.left.0,
      c.left.1 ∙ ap (λ z. z ++ c.left.0) w.left.1 ∙ append_assoc g0 w.left.0 c.left.0,
      purged_both m1 (cells m1) w.shape (taken_by loses k (cells m0)) (cells m2) p w.left.0 c.left.0 w.left.2 c.left.2 d.0 d.1 d.2,
    )

-- a statement that reaches its base alone
pub own_swept : (m m' : Store) (p k : ℕ) (c : Cell) (loses : Cell → Bool) (g0 : List ℕ) (res : ℕ) → Shaped m → Tidy (cells m) → In c (cells m) → c.place ≡ p → ((d : Cell) → In d (cells m) → (loses d ≡ true) ↔ ((c ≡ d) × (set.contains d.row.roles k ≡ true)))
    → ((e : StoreRow Row) → get m p ≡ Some e → res ≡ cond (set.contains e.payload.roles k) 1 0)
    → ((e : StoreRow Row) → get m p ≡ Some e → m' ≡ cond (set.contains e.payload.roles k) (changed_at (paid_by (untaken k)) p m) m)
    → Swept m m' p loses k g0 g0 res
own_swept m m' p k c loses g0 res s tidy i at each taken rows = go (set.contains c.row.roles k) refl (taken (entry_in (cells m) c) here) (rows (entry_in (cells m) c) here)
  where
    here : get m p ≡ Some (entry_in (cells m) c)
    here = ap (get m) (sym at) ∙ get_of m (cells m) s c i

    keeps : (r : Row) → ((untaken k r).serial ≡ r.serial) × ((untaken k r).parent ≡ r.parent)
    keeps r = (refl, refl)

    shape_now : Shape (changed_at (paid_by (untaken k)) p m) (map (with_at (untaken k) p) (cells m))
    shape_now = shape_changed (untaken k) p keeps m (cells m) s

    done : (z : Store) (n : ℕ) → Shaped z → cells z ≡ taken_by loses k (cells m) → TidyBut (Some p) (cells z) → IsSome (get z p) → n ≡ length (filter loses (cells m)) → Swept m z p loses k g0 g0 n
    done z n sh e t th f = record {
      shape = sh;
      there = th;
      left = ([], sym (append-nil g0), subst (λ (ws : List Cell). PurgedBut (Some p) ws (cells z) []) e (starts (cells z) p t));
      taken = f;
    }

    go : (b : Bool) → set.contains c.row.roles k ≡ b → res ≡ cond (set.contains c.row.roles k) 1 0 → m' ≡ cond (set.contains c.row.roles k) (changed_at (paid_by (untaken k)) p m) m → Swept m m' p loses k g0 g0 res
    go true e f h =
        let f' : res ≡ 1 = f ∙ ap (λ b. cond b 1 0) e in
        let h' : m' ≡ changed_at (paid_by (untaken k)) p m = h ∙ ap (λ b. cond b (changed_at (paid_by (untaken k)) p m) m) e in
        let is : cells m' ≡ map (with_at (untaken k) p) (cells m) = cells_untaken m m' (cells m) p k refl h' s in
        let same : map (with_at (untaken k) p) (cells m) ≡ taken_by loses k (cells m) = map_same (with_at (untaken k) p) (bare loses k) (cells m) (λ d j. ap (λ b. cond b (record { place = d.place; row = untaken k d.row }) d) (same_bools (d.place == p) (loses d)
        (λ q. (each d j).1 (s.apart c d i j (at ∙ sym (eqb-true d.place p q)), ap (λ (x : Cell). set.contains x.row.roles k) (sym (s.apart c d i j (at ∙ sym (eqb-true d.place p q)))) ∙ e))
        (λ q. eq-eqb d.place p (ap (λ (x : Cell). x.place) (sym ((each d j).0 q).0) ∙ at)))) in
        let shape : Shape m' (map (with_at (untaken k) p) (cells m)) = subst (λ (z : Store). Shape z (map (with_at (untaken k) p) (cells m))) (sym h') shape_now in
        done m' res (shaped m' (map (with_at (untaken k) p) (cells m)) shape) (is ∙ same)
        (subst (λ (ws : List Cell). TidyBut (Some p) ws) (sym is) (tidy_changed (untaken k) keeps (λ r o. o) m p tidy))
        (there m' shape)
        (f' ∙ sym (ap length (one_passes (cells m) s.rising c i loses (λ d j. ((λ q. ((each d j).0 q).0), (λ q. (each d j).1 (q, ap (λ (x : Cell). set.contains x.row.roles k) (sym q) ∙ e)))))))
      where
        there : (z : Store) → Shape z (map (with_at (untaken k) p) (cells m)) → IsSome (get z p)
        there z sh =
            let w : (with_at (untaken k) p c).place ≡ p = placed (c.place == p) in
            subst (λ o. IsSome o) (sym (ap (get z) (sym w) ∙ get_of z (map (with_at (untaken k) p) (cells m)) sh (with_at (untaken k) p c) (in_map (with_at (untaken k) p) c (cells m) i))) refl
          where
            placed : (b : Bool) → (cond b (record { place = c.place; row = untaken k c.row }) c).place ≡ p
            placed true = at
            placed false = at
    go false e f h =
        let f' : res ≡ 0 = f ∙ ap (λ b. cond b 1 0) e in
        let h' : m' ≡ m = h ∙ ap (λ b. cond b (changed_at (paid_by (untaken k)) p m) m) e in
        let none : (d : Cell) → In d (cells m) → loses d ≡ false = (λ d j. false_from_ne_true _ (λ q. let r = (each d j).0 q in true≢false (sym r.1 ∙ sym (ap (λ (x : Cell). set.contains x.row.roles k) r.0) ∙ e))) in
        subst (λ (z : Store). Swept m z p loses k g0 g0 res) (sym h')
        (done m res s (sym (unchanged (cells m) none)) (λ d j o. tidy d j) (subst (λ o. IsSome o) (sym here) refl) (f' ∙ sym (ap length (filter_none loses (cells m) none))))
      where
        unchanged : (zs : List Cell) → ((d : Cell) → In d zs → loses d ≡ false) → taken_by loses k zs ≡ zs
        unchanged [] n = refl
        unchanged (z ∷ zs) n = λ q. ap (λ b. cond b (record { place = z.place; row = untaken k z.row }) z) (n z (inl refl)) q ∷ unchanged zs (λ d j. n d (inr j)) q

pub own_count : (m m' : Store) (p k : ℕ) (loses : Cell → Bool) (g0 : List ℕ) (res : ℕ) → Swept m m' p loses k g0 g0 res → length (cells m') ≡ length (cells m)
own_count m m' p k loses g0 res w =
    let none : w.left.0 ≡ [] = nothing g0 w.left.0 w.left.1 in
    ap length w.left.2.leaves.rows
    ∙ ap (λ g. length (filter (λ (x : Cell). not (is_gone g x)) (taken_by loses k (cells m)))) none
    ∙ ap length (filter_all (taken_by loses k (cells m)))
    ∙ length_map (bare loses k) (cells m)
  where
    nothing : (g l : List ℕ) → g ≡ g ++ l → l ≡ []
    nothing [] l e = sym e
    nothing (x ∷ g) l e = nothing g l (let z : g ≡ g ++ l = cc in z)

    filter_all : (zs : List Cell) → filter (λ (x : Cell). not (is_gone [] x)) zs ≡ zs
    filter_all [] = refl
    filter_all (z ∷ zs) = ap (λ w. z ∷ w) (filter_all zs)

pub few_own : (zs : List Cell) (c : Cell) (res : ℕ) (b : Bool) → In c zs → res ≡ cond b 1 0 → res ≤ length zs
few_own zs c res true i e = let l = some_member c zs i in omega (arith, e, l)
few_own zs c res false i e = omega (arith, e)

pub gone_longer : (m0 m1 : Store) (p : ℕ) (loses : Cell → Bool) (k : ℕ) (g0 g1 : List ℕ) (res : ℕ) → Swept m0 m1 p loses k g0 g1 res → length g0 ≤ length g1
gone_longer m0 m1 p loses k g0 g1 res w = omega (arith, ap length w.left.1 ∙ length-append g0 w.left.0)

-- what a withdrawal makes of a buffer with these fields
pub withdrawn_by : (s : Option SpreadView) (waiting : List Ahead) (nodes : ℕ) (m0 m : Store) (g0 g : List ℕ) (loses : Cell → Bool) (k count taken taken' most most' : ℕ) (loans loans' : List ℕ)
    → SeenTaken s m0 m loses k g0 g count → taken' ≡ capped (taken + count) → most' ≡ most → loans' ≡ loans
    → Withdrawn (record { rows = seen_rows s (cells m0); kept = cells m0; spread = s; gone = g0; waiting = waiting; nodes = nodes; taken = taken; most = most; loans = loans })
    (record { rows = seen_rows s (cells m); kept = cells m; spread = s; gone = g; waiting = waiting; nodes = nodes; taken = taken'; most = most'; loans = loans' }) loses k
withdrawn_by s waiting nodes m0 m g0 g loses k count taken taken' most most' loans loans' h t o l = record {
  leaves = record { left = h.left.0; gone = h.left.1; purged = h.left.2 };
  taken = t ∙ ap (λ z. capped (taken + z)) h.taken;
  spread = refl;
  waiting = refl;
  nodes = refl;
  most = o;
  loans = l;
}
