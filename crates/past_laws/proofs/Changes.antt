-- How the rows change behind a token and behind an action.
use Rattle.std.proofs.Common.{◌≡◌, ℕ, Bool, true, false, cond, not, ◌&&◌, ◌||◌, List, [], ◌∷◌, ◌++◌, length, map, refl, sym, ◌∙◌, ap, subst, inl, inr, ◌⊎◌, arith, Some, None, Option, eqb}
use Rattle.std.specs.List.{filter}
use Rattle.std.proofs.Math.Bool.{and-true, or-false}
use Rattle.std.proofs.lemmas.Bool.{or_parts, or_from, and_parts, and_from, true≢false, false≢true, eqb-true, eq-eqb, ne_eqb, false_from_ne_true}
use Rattle.std.proofs.lemmas.Bool.Decides.{same_from_decides}
use Rattle.gcx_base.specs.declared.steps.Step.{Step}
use Rattle.gcx_model.specs.Tree.{Node, serial_of, kind_of, within, Tree, TreeToken, grow, is_open_at}
use Rattle.gcx_model.specs.Paths.{all, hits, matches}
use Rattle.gcx_model.specs.Members.{In, count}
use Rattle.gcx_model.specs.Core.{OffTree, RoleRowTree}
use Rattle.gcx_model.specs.Run.{Action, Wrote, Offed}
use Rattle.gcx_model.specs.Equal.{off_eq}
use Rattle.gcx_model.specs.Placed.{offs_in, row_at}
use Rattle.gcx_model.specs.Held.{path_of, statement_of, on_row, given_row, given, is_off, signed, reaches, all_signed, on_off, taken, live, roles_live, is_live, is_held, held}
use Rattle.gcx_model.specs.Past.{Past, past_fed, past_acted, IsPast, is_signed, roles_signed, parent_serial, HeldRow, row_of}
use Rattle.base_laws.proofs.Members.{map_same}
use Rattle.past_laws.specs.Pasts.{bases, LiveByFeed, RowsByFeed, RowsByAct, LiveByAct, LosesByAct, RolesByAct, SignedByAct}
use Rattle.tree_laws.proofs.Lists.{In-filter, filter_same}
use Rattle.tree_laws.proofs.Matches.{Matches-grow, added}
use Rattle.tree_laws.proofs.Equal.{off_refl, off_same}
use Rattle.placed_laws.proofs.Stays.{any-append, any_same, all_from, gives_same, gives_new, new_serial}
use Rattle.placed_laws.proofs.PlanStatements.{one_statement_law}
use Rattle.placed_laws.proofs.HeldChanges.{held_by_feed, held_by_act}
use Rattle.past_laws.proofs.PastForms.{past_acts}
use Rattle.past_laws.proofs.Bases.{is_grown, tells, reached_live, live_reached}
use Rattle.past_laws.proofs.Ahead.{all_same}

all-append : {X : Type 0} (p : X → Bool) (xs ys : List X) → all p (xs ++ ys) ≡ (all p xs && all p ys)
all-append p [] ys = refl
all-append p (x ∷ xs) ys = ap (λ z. p x && z) (all-append p xs ys) ∙ and-assoc (p x) (all p xs) (all p ys)
  where
    and-assoc : (a b c : Bool) → (a && (b && c)) ≡ ((a && b) && c)
    and-assoc true b c = refl
    and-assoc false b c = refl

-- Behind a token

module _ (past : Past) (is : IsPast past) (t : TreeToken) (n : Node) (i : In n past.tree.nodes) where
  given_fed : (r : ℕ) → given past.plan (grow t past.tree) n r ≡ given past.plan past.tree n r
  given_fed r = go (row_at past.plan.roles r)
    where
      go : (row : Option RoleRowTree) → on_row (given_row (path_of past.plan) (grow t past.tree) n) row ≡ on_row (given_row (path_of past.plan) past.tree n) row
      go None = refl
      go (Some row) = gives_same t past.tree (is_grown past is) 0 (path_of past.plan row.var) row.tail row.kind n i

  all_fed : (o : OffTree) → all_signed (path_of past.plan) (grow t past.tree) past.acts n o ≡ all_signed (path_of past.plan) past.tree past.acts n o
  all_fed o =
      let P : Tree = past.tree in
      let base : List Step = path_of past.plan o.base in
      let p : Node → Bool = λ m. not (reaches (grow t P) o m n) || signed past.acts o m in
      let q : Node → Bool = λ m. not (reaches P o m n) || signed past.acts o m in
      let old : all p (matches P 0 base) ≡ all q (matches P 0 base) = all_same p q (matches P 0 base) (λ m k. ap (λ z. not z || signed past.acts o m) (gives_same t P (is_grown past is) (serial_of m) o.rel o.tail o.kind n i)) in
      let new : all p (filter (hits 0 base) (added t P)) ≡ true = all_from p (filter (hits 0 base) (added t P)) (λ m k.
      let e = new_serial t P (is_grown past is) m (In-filter (hits 0 base) m (added t P) k).0 in
      ap (λ z. not z || signed past.acts o m) (gives_new t P (is_grown past is) (serial_of m) o.rel o.tail o.kind n i (omega arith))) in
      ap (all p) (Matches-grow t P 0 base) ∙ (all-append p (matches P 0 base) (filter (hits 0 base) (added t P)) ∙ (ap (λ z. all p (matches P 0 base) && z) new ∙ (and-true (all p (matches P 0 base)) ∙ old)))

  taken_fed : (r : ℕ) → taken past.plan (grow t past.tree) past.acts n r ≡ taken past.plan past.tree past.acts n r
  taken_fed r = ap (λ z. z && on_off (all_signed (path_of past.plan) (grow t past.tree) past.acts n) (statement_of past.plan r)) (given_fed r) ∙ ap (λ z. given past.plan past.tree n r && z) (go (statement_of past.plan r))
    where
      go : (s : Option OffTree) → on_off (all_signed (path_of past.plan) (grow t past.tree) past.acts n) s ≡ on_off (all_signed (path_of past.plan) past.tree past.acts n) s
      go None = refl
      go (Some o) = all_fed o

  live_fed : (r : ℕ) → live past.plan (grow t past.tree) past.acts n r ≡ live past.plan past.tree past.acts n r
  live_fed r = ap (λ z. z && not (taken past.plan (grow t past.tree) past.acts n r)) (given_fed r) ∙ ap (λ z. given past.plan past.tree n r && not z) (taken_fed r)

abbrev with_roles : Past → Node → List ℕ → HeldRow
with_roles past n rs = record { serial = serial_of n; parent = parent_serial n; kind = kind_of n; is_open = is_open_at past.tree.at (serial_of n); roles = rs; signed = roles_signed past.plan past.acts n }

pub live_by_feed : LiveByFeed
live_by_feed past is t n i =
    let cs : List ℕ = count 0 (length past.plan.roles) in (
      live_fed past is t n i,
      ap (with_roles (past_fed t past) n) (filter_same (live past.plan (grow t past.tree) past.acts n) (live past.plan past.tree past.acts n) cs (λ r k. live_fed past is t n i r)),
    )

pub rows_by_feed : RowsByFeed
rows_by_feed past is t = ap (map (row_of (past_fed t past))) (held_by_feed is.core is.good past.plan is.placed past.tree is.grown t past.acts)

-- Behind an action

signed_push : (A : List Action) (a : Action) (o : OffTree) (m : Node) → signed (A ++ a ∷ []) o m ≡ (signed A o m || is_off o (serial_of m) a)
signed_push A a o m = any-append (is_off o (serial_of m)) A (a ∷ []) ∙ ap (λ z. signed A o m || z) (or-false (is_off o (serial_of m) a))

signed_same : (A : List Action) (a : Action) (o : OffTree) (m : Node) → is_off o (serial_of m) a ≡ false → signed (A ++ a ∷ []) o m ≡ signed A o m
signed_same A a o m h = signed_push A a o m ∙ (ap (λ z. signed A o m || z) h ∙ or-false (signed A o m))

-- a statement of another role is another statement
other_role : (o s : OffTree) (m n : ℕ) → (o.role ≡ s.role → ⊥) → is_off o n (Offed s m) ≡ false
other_role o s m n h = false_from_ne_true (is_off o n (Offed s m)) (λ e. let f = off_same o s (and_parts (off_eq o s) (eqb m n) e).0 in h (sym (ap (λ (z : OffTree). z.role) f)))

module _ (past : Past) (a : Action) where
  live_same : (n : Node) (r : ℕ) → ((o : OffTree) → statement_of past.plan r ≡ Some o → (m : Node) → is_off o (serial_of m) a ≡ false) → live past.plan past.tree (past.acts ++ a ∷ []) n r ≡ live past.plan past.tree past.acts n r
  live_same n r h = ap (λ z. given past.plan past.tree n r && not (given past.plan past.tree n r && z)) (go (statement_of past.plan r) refl)
    where
      go : (s : Option OffTree) → statement_of past.plan r ≡ s → on_off (all_signed (path_of past.plan) past.tree (past.acts ++ a ∷ []) n) s ≡ on_off (all_signed (path_of past.plan) past.tree past.acts n) s
      go None e = refl
      go (Some o) e =
          all_same (λ (m : Node). not (reaches past.tree o m n) || signed (past.acts ++ a ∷ []) o m) (λ (m : Node). not (reaches past.tree o m n) || signed past.acts o m) (matches past.tree 0 (path_of past.plan o.base))
          (λ m k. ap (λ z. not (reaches past.tree o m n) || z) (signed_same past.acts a o m (h o e m)))

module _ (past : Past) (b : List ℕ) where
  live_wrote : (n : Node) (r : ℕ) → live past.plan past.tree (past.acts ++ Wrote b ∷ []) n r ≡ live past.plan past.tree past.acts n r
  live_wrote n r = live_same past (Wrote b) n r (λ o e m. refl)

  held_wrote : (n : Node) → is_held past.plan past.tree (past.acts ++ Wrote b ∷ []) n ≡ is_held past.plan past.tree past.acts n
  held_wrote n =
      ap (λ z. is_open_at past.tree.at (serial_of n) || z)
      (any_same (λ (m : Node). within (serial_of n) m && is_live past.plan past.tree (past.acts ++ Wrote b ∷ []) m) (λ (m : Node). within (serial_of n) m && is_live past.plan past.tree past.acts m) past.tree.nodes
      (λ m i. ap (λ z. within (serial_of n) m && z) (any_same (live past.plan past.tree (past.acts ++ Wrote b ∷ []) m) (live past.plan past.tree past.acts m) (count 0 (length past.plan.roles)) (λ r k. live_wrote m r))))

  signed_wrote : (n : Node) (r : ℕ) → is_signed past.plan (past.acts ++ Wrote b ∷ []) n r ≡ is_signed past.plan past.acts n r
  signed_wrote n r = go (statement_of past.plan r)
    where
      go : (s : Option OffTree) → on_off (λ o. signed (past.acts ++ Wrote b ∷ []) o n) s ≡ on_off (λ o. signed past.acts o n) s
      go None = refl
      go (Some o) = signed_same past.acts (Wrote b) o n refl

  row_wrote : (n : Node) → row_of (past_acted (Wrote b) past) n ≡ row_of past n
  row_wrote n =
      let cs : List ℕ = count 0 (length past.plan.roles) in
      ap (with_roles (past_acted (Wrote b) past) n) (filter_same (live past.plan past.tree (past.acts ++ Wrote b ∷ []) n) (live past.plan past.tree past.acts n) cs (λ r k. live_wrote n r))
      ∙ ap (λ z. record { serial = serial_of n; parent = parent_serial n; kind = kind_of n; is_open = is_open_at past.tree.at (serial_of n); roles = roles_live past.plan past.tree past.acts n; signed = z })
      (filter_same (is_signed past.plan (past.acts ++ Wrote b ∷ []) n) (is_signed past.plan past.acts n) cs (λ r k. signed_wrote n r))

pub rows_by_act : RowsByAct
rows_by_act past is = (
  (λ a. ap (map (row_of (past_acted a past))) (held_by_act is.core is.good past.plan is.placed past.tree past.acts a)),
  (λ b.
      ap (map (row_of (past_acted (Wrote b) past))) (filter_same (is_held past.plan past.tree (past.acts ++ Wrote b ∷ [])) (is_held past.plan past.tree past.acts) past.tree.nodes (λ n i. held_wrote past b n))
      ∙ map_same (row_of (past_acted (Wrote b) past)) (row_of past) (held past.plan past.tree past.acts) (λ n i. row_wrote past b n)),
)

module _ (past : Past) (is : IsPast past) (s : OffTree) (stands : In s (offs_in past.plan.body)) (m : Node) where
  abbrev a : Action
  a = Offed s (serial_of m)

  -- the other roles stay
  others_live : (n : Node) (r : ℕ) → (r ≡ s.role → ⊥) → live past.plan past.tree (past.acts ++ Offed s (serial_of m) ∷ []) n r ≡ live past.plan past.tree past.acts n r
  others_live n r h = live_same past a n r (λ o e b. other_role o s (serial_of m) (serial_of b) (λ f. h (sym ((one_statement_law is.core is.good past.plan is.placed r o).0 e).1 ∙ f)))

  itself : is_off s (serial_of m) (Offed s (serial_of m)) ≡ true
  itself = and_from (off_eq s s) (eqb (serial_of m) (serial_of m)) (off_refl s) (eq-eqb (serial_of m) (serial_of m) refl)

  -- what isn't signed then wasn't before, and is another node
  unsigned_parts : (b : Node) → signed (past.acts ++ Offed s (serial_of m) ∷ []) s b ≡ false → (signed past.acts s b ≡ false) × (serial_of b ≡ serial_of m → ⊥)
  unsigned_parts b h =
      let q = or_parts (signed past.acts s b) (is_off s (serial_of b) a) (sym (signed_push past.acts a s b) ∙ h) in
      (q.0, λ e. true≢false (sym itself ∙ (ap (λ (z : ℕ). is_off s z a) (sym e) ∙ q.1)))

  unsigned_from : (b : Node) → signed past.acts s b ≡ false → (serial_of b ≡ serial_of m → ⊥) → signed (past.acts ++ Offed s (serial_of m) ∷ []) s b ≡ false
  unsigned_from b u h = signed_push past.acts a s b ∙ or_from _ _ u (false_from_ne_true (is_off s (serial_of b) a) (λ e. h (sym (eqb-true (serial_of m) (serial_of b) (and_parts (off_eq s s) (eqb (serial_of m) (serial_of b)) e).1))))

  module _ (base : In m (bases past s)) (n : Node) (i : In n past.tree.nodes) where
    now : IsPast (past_acted (Offed s (serial_of m)) past)
    now = (past_acts past is).1 s m stands base

    by_other : live past.plan past.tree (past.acts ++ Offed s (serial_of m) ∷ []) n s.role ≡ true → (b : Node) × In b (bases past s) × (signed past.acts s b ≡ false) × (serial_of b ≡ serial_of m → ⊥) × (reaches past.tree s b n ≡ true)
    by_other h =
        let r = live_reached (past_acted a past) now s stands n h in
        let u = unsigned_parts r.0 r.2 in
        (r.0, r.1, u.0, u.1, r.3)

    other_live : (b : Node) → In b (bases past s) → signed past.acts s b ≡ false → (serial_of b ≡ serial_of m → ⊥) → reaches past.tree s b n ≡ true → live past.plan past.tree (past.acts ++ Offed s (serial_of m) ∷ []) n s.role ≡ true
    other_live b k u d g = reached_live (past_acted a past) now s stands b n i k (unsigned_from b u d) g

    was_live : live past.plan past.tree (past.acts ++ Offed s (serial_of m) ∷ []) n s.role ≡ true → live past.plan past.tree past.acts n s.role ≡ true
    was_live h = let r = by_other h in reached_live past is s stands r.0 n i r.1 r.2 r.4

    is_left : (live past.plan past.tree past.acts n s.role ≡ true) × (live past.plan past.tree (past.acts ++ Offed s (serial_of m) ∷ []) n s.role ≡ false) → (b : Node) → In b (bases past s) → reaches past.tree s b n ≡ true → (serial_of b ≡ serial_of m) ⊎ (signed past.acts s b ≡ true)
    is_left h b k g = go (signed past.acts s b) (eqb (serial_of b) (serial_of m)) refl refl
      where
        go : (c d : Bool) → signed past.acts s b ≡ c → eqb (serial_of b) (serial_of m) ≡ d → (serial_of b ≡ serial_of m) ⊎ (signed past.acts s b ≡ true)
        go true d e f = inr e
        go false true e f = inl (eqb-true (serial_of b) (serial_of m) f)
        go false false e f = absurd (false≢true (sym h.1 ∙ other_live b k e (λ x. false≢true (sym f ∙ eq-eqb (serial_of b) (serial_of m) x)) g))

    leaves : ((b : Node) → In b (bases past s) → reaches past.tree s b n ≡ true → (serial_of b ≡ serial_of m) ⊎ (signed past.acts s b ≡ true)) → live past.plan past.tree (past.acts ++ Offed s (serial_of m) ∷ []) n s.role ≡ false
    leaves h = false_from_ne_true (live past.plan past.tree (past.acts ++ a ∷ []) n s.role) (λ e. let r = by_other e in elim (h r.0 r.1 r.4) [ inl x ↦ r.3 x | inr x ↦ false≢true (sym r.2 ∙ x) ])

pub live_by_act : LiveByAct
live_by_act past is s j m b n i = (others_live past is s j m n, (by_other past is s j m b n i, λ r. other_live past is s j m b n i r.0 r.1 r.2 r.3 r.4))

pub loses_by_act : LosesByAct
loses_by_act past is s j m b n i = ((λ h. (h.0, is_left past is s j m b n i h)), (λ h. (h.0, leaves past is s j m b n i h.1)))

pub filter_both : {X : Type 0} (p q r : X → Bool) (xs : List X) → ((x : X) → r x ≡ (q x && p x)) → filter r xs ≡ filter p (filter q xs)
filter_both p q r [] h = refl
filter_both {X} p q r (x ∷ xs) h = ap (λ c. cond c (x ∷ filter r xs) (filter r xs)) (h x) ∙ go (q x) (p x) refl (filter_both p q r xs h)
  where
    go : (c d : Bool) → p x ≡ d → filter r xs ≡ filter p (filter q xs) → cond (c && d) (x ∷ filter r xs) (filter r xs) ≡ filter p (cond c (x ∷ filter q xs) (filter q xs))
    go true true e ih = rw e (ap (λ z. x ∷ z) ih)
    go true false e ih = rw e ih
    go false d e ih = ih

pub roles_by_act : RolesByAct
roles_by_act past is s j m b n i = go (after s.role) refl
  where
    after : ℕ → Bool
    after r = live past.plan past.tree (past.acts ++ Offed s (serial_of m) ∷ []) n r

    before : ℕ → Bool
    before r = live past.plan past.tree past.acts n r

    cs : List ℕ
    cs = count 0 (length past.plan.roles)

    kept : after s.role ≡ true → (r : ℕ) → (c : Bool) → eqb r s.role ≡ c → after r ≡ before r
    kept h r true e = subst (λ (z : ℕ). after z ≡ before z) (sym (eqb-true r s.role e)) (h ∙ sym (was_live past is s j m b n i h))
    kept h r false e = others_live past is s j m n r (λ f. false≢true (sym e ∙ eq-eqb r s.role f))

    lost : after s.role ≡ false → (r : ℕ) → (c : Bool) → eqb r s.role ≡ c → after r ≡ (before r && not c)
    lost h r true e = subst (λ (z : ℕ). after z ≡ (before z && false)) (sym (eqb-true r s.role e)) (h ∙ none (before s.role))
      where
        none : (x : Bool) → false ≡ (x && false)
        none true = refl
        none false = refl
    lost h r false e = others_live past is s j m n r (λ f. false≢true (sym e ∙ eq-eqb r s.role f)) ∙ sym (and-true (before r))

    go : (c : Bool) → after s.role ≡ c → filter after cs ≡ cond c (filter before cs) (filter (λ r. not (eqb r s.role)) (filter before cs))
    go true h = filter_same after before cs (λ r k. kept h r (eqb r s.role) refl)
    go false h = filter_both (λ (r : ℕ). not (eqb r s.role)) before after cs (λ r. lost h r (eqb r s.role) refl)

pub signed_by_act : SignedByAct
signed_by_act past is s j m n = (
  (λ r. each r (statement_of past.plan r) refl),
  (λ h. filter_same (is_signed past.plan (past.acts ++ Offed s (serial_of m) ∷ []) n) (is_signed past.plan past.acts n) (count 0 (length past.plan.roles))
      (λ r k. each r (statement_of past.plan r) refl ∙ (ap (λ z. is_signed past.plan past.acts n r || ((eqb r s.role) && z)) (ne_eqb (serial_of m) (serial_of n) h) ∙ nothing (is_signed past.plan past.acts n r) (eqb r s.role)))),
)
  where
    nothing : (x y : Bool) → (x || (y && false)) ≡ x
    nothing true y = refl
    nothing false true = refl
    nothing false false = refl

    stated : statement_of past.plan s.role ≡ Some s
    stated = (tells past is s j).stated

    is_the : (r : ℕ) (o : OffTree) → statement_of past.plan r ≡ Some o → off_eq o s ≡ eqb r s.role
    is_the r o e =
        same_from_decides {P = r ≡ s.role} (off_eq o s) (eqb r s.role)
        ((λ h. let f = off_same o s h in sym (((one_statement_law is.core is.good past.plan is.placed r o).0 e).1) ∙ ap (λ (z : OffTree). z.role) (sym f)), (λ h. let f : o ≡ s = some_same o s (sym e ∙ (ap (statement_of past.plan) h ∙ stated)) in ap (λ (z : OffTree). off_eq z s) f ∙ off_refl s))
        (eqb-true r s.role, eq-eqb r s.role)
      where
        some_same : (x y : OffTree) → Some x ≡ Some y → x ≡ y
        some_same x y e = cc

    each : (r : ℕ) (c : Option OffTree) → statement_of past.plan r ≡ c
        → on_off (λ o. signed (past.acts ++ Offed s (serial_of m) ∷ []) o n) c ≡ (on_off (λ o. signed past.acts o n) c || ((eqb r s.role) && (eqb (serial_of m) (serial_of n))))
    each r None e = sym (ap (λ z. z && (eqb (serial_of m) (serial_of n))) (ne_eqb r s.role (λ h. absurd (let f = sym e ∙ (ap (statement_of past.plan) h ∙ stated) in cc))))
    each r (Some o) e = signed_push past.acts (Offed s (serial_of m)) o n ∙ ap (λ z. signed past.acts o n || (z && (eqb (serial_of m) (serial_of n)))) (is_the r o e)
