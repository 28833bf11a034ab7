-- The rows that a purge leaves are those of the held nodes.
use Rattle.std.proofs.Common.{◌≡◌, ◌==◌, ℕ, zero, suc, ◌+◌, ◌≤◌, Bool, true, false, cond, not, ◌&&◌, ◌||◌, List, [], ◌∷◌, length, map, refl, sym, ◌∙◌, ap, subst, inl, inr, ◌⊎◌, arith, eqb, rules, Some, None}
use Rattle.std.specs.List.{filter, list_any}
use Rattle.std.specs.Ordering.{nat_cmp, eq_by_cmp}
use Rattle.std.specs.Cmp.{nat_cmp_total, unsigned_tied}
use Rattle.std.specs.FinSet.{from_list, empty, contains, contains-from_list, contains-empty}
use Rattle.std.proofs.lemmas.Bool.{or_cases, or_left, or_right, or_from, or_parts, and_parts, and_from, true≢false, false≢true, eqb-true, eq-eqb, ne_eqb, cases_Bool, false_from_ne_true}
use Rattle.gcx_base.specs.declared.kind.Kind.{Kind}
use Rattle.gcx_model.specs.Tree.{Tree, Node, Root, Under, serial_of, within, is_open_at}
use Rattle.gcx_model.specs.Paths.{any}
use Rattle.gcx_model.specs.Members.{count}
use Rattle.gcx_model.specs.Held.{is_live, is_held, live, roles_live}
use Rattle.gcx_model.specs.Past.{Past, parent_serial}
use Rattle.base_laws.proofs.Lists.{nil_cons, cons_tail, cons_head}
use Rattle.tree_laws.proofs.Lists.{In, In-filter, In-kept, any_in, any_from}
use Rattle.tree_laws.proofs.Matches.{Grown, Numbered-same, Numbered-high}
use Rattle.tree_laws.proofs.Freeze.{within_self, within_trans, open_up_at}
use Rattle.buf_tree.specs.Row.{Row}
use Rattle.buf_tree.specs.Rows.{IsDead}
use Rattle.buf_tree.specs.Shape.{Cell, num, CellsRise, is_under}
use Rattle.buf_tree.specs.Purge.{is_gone, Purged}
use Rattle.buf_tree.specs.Stands.{Seen, seen, told, parent_seen}
use Rattle.buf_tree.proofs.Shaping.{rising_same}

pub empty_list : (xs : List ℕ) → from_list {R = nat_cmp} xs ≡ empty → xs ≡ []
empty_list [] e = refl
empty_list (x ∷ xs) e =
    let same : (x == x) ≡ true = search rules in
    let own : eq_by_cmp nat_cmp x x ≡ true = unsigned_tied x x ∙ same in
    let has : contains (from_list {R = nat_cmp} (x ∷ xs)) x ≡ true = contains-from_list nat_cmp_total (x ∷ xs) x ∙ ap (λ b. b || list_any (eq_by_cmp nat_cmp x) xs) own in
    let none : false ≡ true = sym (contains-empty nat_cmp x) ∙ ap (λ s. contains s x) (sym e) ∙ has in
    cc

module _ {S X Y : Type 0} (f : X → S) (g : Y → S) where
  pub pair_left : (xs : List X) (ys : List Y) → map f xs ≡ map g ys → (x : X) → In x xs → (y : Y) × In y ys × (f x ≡ g y)
  pair_left [] ys e x i = absurd i
  pair_left (z ∷ xs) [] e x i = absurd (nil_cons (f z) (map f xs) (sym e))
  pair_left (z ∷ xs) (y ∷ ys) e x (inl h) = (y, inl refl, ap f (sym h) ∙ cons_head _ _ _ _ e)
  pair_left (z ∷ xs) (y ∷ ys) e x (inr i) = let r = pair_left xs ys (cons_tail _ _ _ _ e) x i in (r.0, inr r.1, r.2)

  -- lists that agree member by member, filtered by tests that do so
  pub filter_both : (a : X → Bool) (b : Y → Bool) (xs : List X) (ys : List Y) → map f xs ≡ map g ys → ((x : X) (y : Y) → In x xs → In y ys → f x ≡ g y → a x ≡ b y) → map f (filter a xs) ≡ map g (filter b ys)
  filter_both a b [] [] e h = refl
  filter_both a b [] (y ∷ ys) e h = absurd (nil_cons (g y) (map g ys) e)
  filter_both a b (x ∷ xs) [] e h = absurd (nil_cons (f x) (map f xs) (sym e))
  filter_both a b (x ∷ xs) (y ∷ ys) e h =
      let top : f x ≡ g y = cons_head _ _ _ _ e in
      go (a x) (b y) (h x y (inl refl) (inl refl) top) top (filter_both a b xs ys (cons_tail _ _ _ _ e) (λ s t i j. h s t (inr i) (inr j)))
    where
      go : (c d : Bool) → c ≡ d → f x ≡ g y → map f (filter a xs) ≡ map g (filter b ys) → map f (cond c (x ∷ filter a xs) (filter a xs)) ≡ map g (cond d (y ∷ filter b ys) (filter b ys))
      go true true q t k = λ i. t i ∷ k i
      go true false q t k = absurd (true≢false q)
      go false true q t k = absurd (false≢true q)
      go false false q t k = k

-- none is left where none passes
pub none_kept : {X : Type 0} (f : X → Bool) (xs : List X) → any f xs ≡ false → filter f xs ≡ []
none_kept f [] h = refl
none_kept f (x ∷ xs) h =
    let q = or_parts (f x) (any f xs) h in
    rw q.0 (none_kept f xs q.1)

pub none_passes : {X : Type 0} (f : X → Bool) (xs : List X) → filter f xs ≡ [] → any f xs ≡ false
none_passes f [] h = refl
none_passes f (x ∷ xs) h = go (f x) (none_passes f xs) h
  where
    go : (b : Bool) → (filter f xs ≡ [] → any f xs ≡ false) → cond b (x ∷ filter f xs) (filter f xs) ≡ [] → (b || any f xs) ≡ false
    go true ih k = absurd (nil_cons x (filter f xs) (sym k))
    go false ih k = ih k

-- what a row tells of the node n
abbrev pub Tells : Past → Cell → Node → Type 0
Tells past c n = seen c ≡ told past n

module _ (past : Past) (n : Node) where
  pub dead_seen : (c : Cell) → Tells past c n → IsDead c.row → (is_open_at past.tree.at (serial_of n) ≡ false) × (is_live past.plan past.tree past.acts n ≡ false)
  dead_seen c e d = (
    sym (ap (λ (s : Seen). s.is_open) e) ∙ d.0,
    none_passes (live past.plan past.tree past.acts n) (count 0 (length past.plan.roles)) (empty_list (roles_live past.plan past.tree past.acts n) (sym (ap (λ (s : Seen). s.roles) e) ∙ d.1)),
  )

  pub seen_dead : (c : Cell) → Tells past c n → is_open_at past.tree.at (serial_of n) ≡ false → is_live past.plan past.tree past.acts n ≡ false → IsDead c.row
  seen_dead c e o l = (
    ap (λ (s : Seen). s.is_open) e ∙ o,
    ap (λ (s : Seen). s.roles) e ∙ ap (λ ks. from_list {R = nat_cmp} ks) (none_kept (live past.plan past.tree past.acts n) (count 0 (length past.plan.roles)) l),
    ap (λ (s : Seen). s.covered) e,
  )

-- what a row tells of its parent
pub parent_told : (r : Row) (q : Node) (s : ℕ) (k : Kind) → (s ≡ 0 → ⊥) → r.serial ≡ s → parent_seen r ≡ parent_serial (Under q s k) → r.parent ≡ serial_of q
parent_told r q s k n e h =
    let f : cond (r.serial == 0) None (Some r.parent) ≡ Some r.parent = ap (λ b. cond b None (Some r.parent)) (ne_eqb r.serial 0 (λ z. n (sym e ∙ z))) in
    let g : Some r.parent ≡ Some (serial_of q) = sym f ∙ h in
    cc

module _ (past : Past) (w : Grown past.tree) where
  abbrev P : Tree
  P = past.tree

  abbrev holds : Node → Bool
  holds n = is_held past.plan past.tree past.acts n

  -- what holds a node holds the one above it
  pub held_up : (n : Node) (s : ℕ) (k : Kind) → In (Under n s k) P.nodes → holds (Under n s k) ≡ true → holds n ≡ true
  held_up n s k i h =
      let up = w.upward n s k i in
      let in_n : within (serial_of n) (Under n s k) ≡ true = or_right (eqb s (serial_of n)) (within (serial_of n) n) (within_self (serial_of n) n (eq-eqb _ _ refl)) in
      elim (or_cases (is_open_at P.at s) (any (λ m. within s m && is_live past.plan P past.acts m) P.nodes) h) [
        | inl o ↦ or_left _ _ (open_up_at P.at P refl w (serial_of n) (Under n s k) i in_n o)
        | inr l ↦ (
            let r = any_in (λ (m : Node). within s m && is_live past.plan P past.acts m) P.nodes l in
            let a = and_parts (within s r.0) (is_live past.plan P past.acts r.0) r.2 in
            or_right _ _ (any_from (λ (m : Node). within (serial_of n) m && is_live past.plan P past.acts m) r.0 P.nodes r.1 (and_from _ _ (within_trans P w (serial_of n) (Under n s k) r.0 i r.1 in_n a.0) a.1)))
      ]

  module _ (xs ys : List Cell) (gone : List ℕ) (rising : CellsRise xs) (u : Purged xs ys gone) (ns : List Node) (same : map seen xs ≡ map (told past) ns)
      (inside : (n : Node) → In n ns → In n P.nodes)
      (upward : (n : Node) (s : ℕ) (k : Kind) → In (Under n s k) ns → In n ns)
      (all : (n : Node) → In n P.nodes → is_held past.plan P past.acts n ≡ true → In n ns) where
    node_of : (c : Cell) → In c xs → (n : Node) × In n ns × (seen c ≡ told past n)
    node_of = pair_left seen (told past) xs ns same

    cell_of : (n : Node) → In n ns → (c : Cell) × In c xs × (seen c ≡ told past n)
    cell_of n i = let r = pair_left (told past) seen ns xs (sym same) n i in (r.0, r.1, sym r.2)

    one_cell : (c d : Cell) → In c xs → In d xs → (n m : Node) → seen c ≡ told past n → seen d ≡ told past m → serial_of n ≡ serial_of m → c ≡ d
    one_cell c d i j n m e f q = rising_same xs rising c d i j (ap (λ (s : Seen). s.serial) e ∙ q ∙ sym (ap (λ (s : Seen). s.serial) f))

    one_node : (n m : Node) → In n ns → In m ns → serial_of n ≡ serial_of m → n ≡ m
    one_node n m i j q = Numbered-same 0 P.nodes w.numbered n m (inside n i) (inside m j) q

    under_cell : (c d : Cell) (n : Node) (s : ℕ) (k : Kind) → In (Under n s k) ns → seen c ≡ told past n → seen d ≡ told past (Under n s k) → is_under (num c) d ≡ true
    under_cell c d n s k i e f =
        let below = w.below n s k (inside (Under n s k) i) in
        let is = ap (λ (t : Seen). t.serial) f in
        and_from _ _ (ap not (ne_eqb (num d) 0 (λ z. absurd (omega arith)))) (eq-eqb d.row.parent (num c) (parent_told d.row n s k (λ z. absurd (omega arith)) is (ap (λ (t : Seen). t.parent) f) ∙ sym (ap (λ (t : Seen). t.serial) e)))

    -- below a node that is gone all are gone
    gone_down : (c : Cell) (n : Node) → In c xs → In n ns → seen c ≡ told past n → is_gone gone c ≡ true → (m : Node) → In m ns → within (serial_of n) m ≡ true → (d : Cell) → In d xs → seen d ≡ told past m → is_gone gone d ≡ true
    gone_down c n i j e g Root k h d l f = subst (λ (x : Cell). is_gone gone x ≡ true) (one_cell c d i l n Root e f (sym (eqb-true 0 (serial_of n) h))) g
    gone_down c n i j e g (Under q s kd) k h d l f = elim (or_cases (eqb s (serial_of n)) (within (serial_of n) q) h) [
      | inl a ↦ subst (λ (x : Cell). is_gone gone x ≡ true) (one_cell c d i l n (Under q s kd) e f (sym (eqb-true s (serial_of n) a))) g
      | inr a ↦ (
          let up = upward q s kd k in
          let b = cell_of q up in
          u.leaves.down b.0 d b.1 l (gone_down c n i j e g q up a b.0 b.1 b.2) (under_cell b.0 d q s kd k b.2 f))
    ]

    gone_not_held : (c : Cell) (n : Node) → In c xs → In n ns → seen c ≡ told past n → is_gone gone c ≡ true → is_held past.plan P past.acts n ≡ false
    gone_not_held c n i j e g = or_from _ _
        (dead_seen past n c e (u.leaves.dead c i g)).0
        (false_from_ne_true _ (λ l.
        let r = any_in (λ (m : Node). within (serial_of n) m && is_live past.plan P past.acts m) P.nodes l in
        let a = and_parts (within (serial_of n) r.0) (is_live past.plan P past.acts r.0) r.2 in
        let h : is_held past.plan P past.acts r.0 ≡ true = or_right _ _ (any_from (λ (m : Node). within (serial_of r.0) m && is_live past.plan P past.acts m) r.0 P.nodes r.1 (and_from _ _ (within_self (serial_of r.0) r.0 (eq-eqb _ _ refl)) a.1)) in
        let k = all r.0 r.1 h in
        let d = cell_of r.0 k in
        true≢false (sym a.1 ∙ (dead_seen past r.0 d.0 d.2 (u.leaves.dead d.0 d.1 (gone_down c n i j e g r.0 k a.0 d.0 d.1 d.2))).1)))

    in_ys : (c : Cell) → In c ys → In c xs × (not (is_gone gone c) ≡ true)
    in_ys c i = In-filter (λ (d : Cell). not (is_gone gone d)) c xs (subst (λ (zs : List Cell). In c zs) u.leaves.rows i)

    stays_held : (more : ℕ) (c : Cell) (n : Node) → In c ys → In n ns → seen c ≡ told past n → length P.nodes ≤ serial_of n + more → is_held past.plan P past.acts n ≡ true
    stays_held zero c n i j e l = let r = Numbered-high 0 P.nodes w.numbered n (inside n j) in absurd (omega arith)
    stays_held (suc more) c n i j e l = elim (cases_Bool (is_held past.plan P past.acts n)) [
      | inl h ↦ h
      | inr h ↦ elim (u.tidy c i) [
        | inl alive ↦ absurd (alive (dead h))
        | inr d ↦ by_child d.0 (in_ys d.0 d.1).0 d.2 (node_of d.0 (in_ys d.0 d.1).0) (λ m a b q. stays_held more d.0 m d.1 a b q)
      ]
    ]
      where
        dead : is_held past.plan P past.acts n ≡ false → IsDead c.row
        dead h =
            let q = or_parts (is_open_at P.at (serial_of n)) (any (λ m. within (serial_of n) m && is_live past.plan P past.acts m) P.nodes) h in
            seen_dead past n c e q.0 (false_from_ne_true _ (λ a. true≢false (sym (any_from (λ (m : Node). within (serial_of n) m && is_live past.plan P past.acts m) n P.nodes (inside n j) (and_from _ _ (within_self (serial_of n) n (eq-eqb _ _ refl)) a)) ∙ q.1)))

        by_child : (d : Cell) → In d xs → is_under (num c) d ≡ true → ((m : Node) × In m ns × (seen d ≡ told past m)) → ((m : Node) → In m ns → seen d ≡ told past m → length P.nodes ≤ serial_of m + more → is_held past.plan P past.acts m ≡ true) → is_held past.plan P past.acts n ≡ true
        by_child d k under (Root, a, b) ih = absurd (false≢true (ap not (sym (eq-eqb (num d) 0 (ap (λ (t : Seen). t.serial) b))) ∙ (and_parts (not (num d == 0)) (d.row.parent == num c) under).0))
        by_child d k under (Under q s kd, a, b) ih =
            let below = w.below q s kd (inside (Under q s kd) a) in
            let par : serial_of q ≡ serial_of n = sym (parent_told d.row q s kd (λ z. absurd (omega arith)) (ap (λ (t : Seen). t.serial) b) (ap (λ (t : Seen). t.parent) b)) ∙ eqb-true d.row.parent (num c) (and_parts (not (num d == 0)) (d.row.parent == num c) under).1 ∙ ap (λ (t : Seen). t.serial) e in
            let is : q ≡ n = one_node q n (upward q s kd a) j par in
            subst (λ (x : Node). is_held past.plan P past.acts x ≡ true) is (held_up q s kd (inside (Under q s kd) a) (ih (Under q s kd) a b (omega arith)))

    pub rows_held : map seen ys ≡ map (told past) (filter (is_held past.plan P past.acts) ns)
    rows_held = ap (map seen) u.leaves.rows ∙ filter_both seen (told past) (λ c. not (is_gone gone c)) (is_held past.plan P past.acts) xs ns same (λ c n i j e. go c n i j e (cases_Bool (is_gone gone c)))
      where
        go : (c : Cell) (n : Node) → In c xs → In n ns → seen c ≡ told past n → (is_gone gone c ≡ true) ⊎ (is_gone gone c ≡ false) → not (is_gone gone c) ≡ is_held past.plan P past.acts n
        go c n i j e (inl g) = ap not g ∙ sym (gone_not_held c n i j e g)
        go c n i j e (inr g) = ap not g ∙ sym (stays_held (length P.nodes) c n (subst (λ (zs : List Cell). In c zs) (sym u.leaves.rows) (In-kept (λ (d : Cell). not (is_gone gone d)) c xs i (ap not g))) j e (omega arith))
