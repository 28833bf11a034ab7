-- What the bases of a statement tell: where its role is live, and what it reaches over the held nodes.
use Rattle.std.proofs.Common.{◌≡◌, ℕ, ◌+◌, ◌<◌, Bool, true, false, cond, not, ◌&&◌, ◌||◌, List, [], ◌∷◌, length, refl, sym, ◌∙◌, ap, subst, inl, inr, ◌⊎◌, arith, Some, None, Option}
use Rattle.std.specs.List.{filter}
use Rattle.std.proofs.lemmas.Bool.{or_cases, or_left, or_right, and_parts, and_from, true≢false, false≢true, eqb-true, eq-eqb, not-true, false_from_ne_true}
use Rattle.std.proofs.lemmas.Bool.Decides.{same_from_decides}
use Rattle.gcx_model.specs.Tree.{Node, serial_of, above, within, Tree, is_open_at}
use Rattle.gcx_model.specs.Paths.{any, all, head, hits, matches, first}
use Rattle.gcx_model.specs.Members.{In, count}
use Rattle.gcx_model.specs.Nodes.{Grown}
use Rattle.gcx_model.specs.Core.{RoleTarget, Own, First, Whole, OffTree}
use Rattle.gcx_model.specs.Run.{Action}
use Rattle.gcx_model.specs.Placed.{offs_in}
use Rattle.gcx_model.specs.Held.{path_of, is_node, gives, given, signed, reaches, all_signed, on_off, taken, live, is_live, is_held, held, held_tree}
use Rattle.gcx_model.specs.Past.{Past, IsPast, is_signed}
use Rattle.base_laws.proofs.Members.{head_in}
use Rattle.base_laws.proofs.Numbers.{in_count}
use Rattle.past_laws.specs.Pasts.{bases, LiveByBases, OwnTells, ReachHeld}
use Rattle.tree_laws.proofs.Lists.{In-filter, In-kept, any_in, any_from}
use Rattle.tree_laws.proofs.Matches.{Numbered-same, Matches-in, Matches-from}
use Rattle.tree_laws.proofs.Freeze.{within_self, within_above, within_trans, open_up_at}
use Rattle.tree_laws.proofs.Held.{filter_comm}
use Rattle.tree_laws.proofs.Chains.{above_in, hits_above}
use Rattle.placed_laws.proofs.Stays.{all_in}
use Rattle.placed_laws.proofs.Frames.{gives_behind}
use Rattle.tree_laws.proofs.Fed.{grown_from}
use Rattle.placed_laws.proofs.PlanStatements.{one_statement_law}
use Rattle.tree_laws.proofs.OffsSigned.{signed_is_off}
use Rattle.placed_laws.proofs.Told.{Told, told, given_told, taken_told}
use Rattle.placed_laws.proofs.Unique.{row_below}

pub all_fails : {X : Type 0} (p : X → Bool) (xs : List X) → all p xs ≡ false → (x : X) × In x xs × (p x ≡ false)
all_fails p [] h = absurd (true≢false h)
all_fails {X} p (x ∷ xs) h = go (p x) refl (all_fails p xs) h
  where
    go : (c : Bool) → p x ≡ c → (all p xs ≡ false → (y : X) × In y xs × (p y ≡ false)) → (c && all p xs) ≡ false → (y : X) × In y (x ∷ xs) × (p y ≡ false)
    go true e ih k = let r = ih k in (r.0, inr r.1, r.2)
    go false e ih k = (x, inl refl, e)

pub not_or : (a b : Bool) → (not a || b) ≡ false → (a ≡ true) × (b ≡ false)
not_or true b h = (refl, h)
not_or false b h = absurd (true≢false h)

pub or_not : (a b : Bool) → (not a || b) ≡ true → a ≡ true → b ≡ true
or_not true b h e = h
or_not false b h e = absurd (false≢true e)

head_kept : {X : Type 0} (q : X → Bool) (xs : List X) (x : X) → head xs ≡ Some x → q x ≡ true → head (filter q xs) ≡ Some x
head_kept q [] x h e = absurd (cc)
head_kept q (y ∷ ys) x h e =
    let is : y ≡ x = cc in
    ap (λ b. head (cond b (y ∷ filter q ys) (filter q ys))) (ap q is ∙ e) ∙ h

some_first : {X : Type 0} (xs : List X) (x : X) → In x xs → (y : X) × (head xs ≡ Some y) × In y xs
some_first [] x i = absurd i
some_first (y ∷ ys) x i = (y, refl, inl refl)

pub node_is : (n : ℕ) (o : Option Node) → is_node n o ≡ true → (x : Node) × (o ≡ Some x) × (serial_of x ≡ n)
node_is n None h = absurd (false≢true h)
node_is n (Some x) h = (x, refl, eqb-true (serial_of x) n h)

is_seen : (n : ℕ) (o : Option Node) (x : Node) → o ≡ Some x → serial_of x ≡ n → is_node n o ≡ true
is_seen n o x e f = ap (is_node n) e ∙ eq-eqb (serial_of x) n f

module _ (past : Past) (is : IsPast past) where
  abbrev P : Tree
  P = past.tree

  abbrev A : List Action
  A = past.acts

  pub is_grown : Grown past.tree
  is_grown = grown_from past.tree is.grown

  -- a held node has what is above it held too
  pub held_up : (n j : Node) → In n past.tree.nodes → In j (above n) → is_held past.plan past.tree past.acts n ≡ true → is_held past.plan past.tree past.acts j ≡ true
  held_up n j i k h =
      let w : Grown past.tree = is_grown in
      let ij : In j past.tree.nodes = above_in P w n j i k in
      let jn : within (serial_of j) n ≡ true = within_above (serial_of j) j n k (within_self (serial_of j) j (eq-eqb _ _ refl)) in
      elim (or_cases (is_open_at P.at (serial_of n)) (any (λ m. within (serial_of n) m && is_live past.plan P A m) P.nodes) h) [
        | inl o ↦ or_left _ _ (open_up_at P.at P refl w (serial_of j) n i jn o)
        | inr l ↦ (
            let r = any_in (λ (m : Node). within (serial_of n) m && is_live past.plan P A m) P.nodes l in
            let a = and_parts (within (serial_of n) r.0) (is_live past.plan P A r.0) r.2 in
            or_right _ _ (any_from (λ (m : Node). within (serial_of j) m && is_live past.plan P A m) r.0 P.nodes r.1 (and_from _ _ (within_trans P w (serial_of j) n r.0 i r.1 jn a.0) a.1)))
      ]

  module _ (s : OffTree) (stands : In s (offs_in past.plan.body)) where
    pub tells : Told past.plan s
    tells = told is.core is.good past.plan is.placed s stands

    -- a role is live at what its statement reaches from a base that isn't signed,
    pub reached_live : (m n : Node) → In n past.tree.nodes → In m (bases past s) → signed past.acts s m ≡ false → reaches past.tree s m n ≡ true → live past.plan past.tree past.acts n s.role ≡ true
    reached_live m n i b u g =
        let q = Matches-in P 0 (path_of past.plan s.base) m b in
        let giv : given past.plan P n s.role ≡ true = given_told past.plan s tells P n ∙ gives_behind P is_grown 0 (path_of past.plan s.base) s.rel s.tail s.kind m n q.0 i q.1 g in
        and_from _ _ giv (ap not (false_from_ne_true (taken past.plan P A n s.role) (λ t.
        let a = and_parts (given past.plan P n s.role) (all_signed (path_of past.plan) P A n s) (sym (taken_told past.plan s tells P A n) ∙ t) in
        let x = all_in (λ (j : Node). not (reaches P s j n) || signed A s j) (bases past s) a.1 m b in
        false≢true (sym u ∙ or_not (reaches P s m n) (signed A s m) x g))))

    -- and at nothing else.
    pub live_reached : (n : Node) → live past.plan past.tree past.acts n s.role ≡ true → (m : Node) × In m (bases past s) × (signed past.acts s m ≡ false) × (reaches past.tree s m n ≡ true)
    live_reached n h =
        let a = and_parts (given past.plan P n s.role) (not (taken past.plan P A n s.role)) h in
        let t : (given past.plan P n s.role && all_signed (path_of past.plan) P A n s) ≡ false = sym (taken_told past.plan s tells P A n) ∙ not-true _ a.1 in
        let f : all_signed (path_of past.plan) P A n s ≡ false = ap (λ z. z && all_signed (path_of past.plan) P A n s) (sym a.0) ∙ t in
        let r = all_fails (λ (j : Node). not (reaches P s j n) || signed A s j) (bases past s) f in
        let b = not_or (reaches P s r.0 n) (signed A s r.0) r.2 in
        (r.0, r.1, b.1, b.0)

    live_held : (n : Node) → In n past.tree.nodes → live past.plan past.tree past.acts n s.role ≡ true → is_held past.plan past.tree past.acts n ≡ true
    live_held n i h =
        let l : s.role < length past.plan.roles = row_below past.plan.roles s.role tells.row tells.at in
        let z : 0 + s.role ≡ s.role = omega arith in
        let c : In s.role (count 0 (length past.plan.roles)) = subst (λ (y : ℕ). In y (count 0 (length past.plan.roles))) z (in_count 0 (length past.plan.roles) s.role l) in
        or_right _ _ (any_from (λ (m : Node). within (serial_of n) m && is_live past.plan P A m) n P.nodes i (and_from _ _ (within_self (serial_of n) n (eq-eqb _ _ refl)) (any_from (live past.plan P A n) s.role (count 0 (length past.plan.roles)) c h)))

    -- what the held nodes tell from a base that isn't signed
    module _ (m : Node) (base : In m (bases past s)) (unsigned : signed past.acts s m ≡ false) where
      reached_held : (n : Node) → In n past.tree.nodes → reaches past.tree s m n ≡ true → is_held past.plan past.tree past.acts n ≡ true
      reached_held n i g = live_held n i (reached_live m n i base unsigned g)

      -- the first match over the held nodes is that over the tree
      first_kept : (k : ℕ) (x : Node) → first past.tree k s.tail ≡ Some x → is_held past.plan past.tree past.acts x ≡ true → first (held_tree past.plan past.tree past.acts) k s.tail ≡ Some x
      first_kept k x f h = ap head (filter_comm (hits k s.tail) (is_held past.plan P A) P.nodes) ∙ head_kept (is_held past.plan P A) (matches P k s.tail) x f h

      first_same : s.kind ≡ First → (k : Node) → In k (matches past.tree (serial_of m) s.rel) → (x : Node) → first (held_tree past.plan past.tree past.acts) (serial_of k) s.tail ≡ Some x → first past.tree (serial_of k) s.tail ≡ Some x
      first_same e k i x f =
          let a = In-filter (hits (serial_of k) s.tail) x (held past.plan P A) (head_in (matches (held_tree past.plan P A) (serial_of k) s.tail) x f) in
          let b = In-filter (is_held past.plan P A) x P.nodes a.0 in
          let y = some_first (matches P (serial_of k) s.tail) x (Matches-from P (serial_of k) s.tail x b.0 a.1) in
          let g : gives P (serial_of m) s.rel s.tail First y.0 ≡ true = any_from (λ (t : Node). is_node (serial_of y.0) (first P (serial_of t) s.tail)) k (matches P (serial_of m) s.rel) i (is_seen (serial_of y.0) (first P (serial_of k) s.tail) y.0 y.1 refl) in
          let h : is_held past.plan P A y.0 ≡ true = reached_held y.0 (Matches-in P (serial_of k) s.tail y.0 y.2).0 (subst (λ (c : RoleTarget). gives P (serial_of m) s.rel s.tail c y.0 ≡ true) (sym e) g) in
          y.1 ∙ (sym (first_kept (serial_of k) y.0 y.1 h) ∙ f)

      held_tells : (n : Node) → In n past.tree.nodes → is_held past.plan past.tree past.acts n ≡ true → reaches (held_tree past.plan past.tree past.acts) s m n ≡ reaches past.tree s m n
      held_tells n j h = go s.kind refl
        where
          w : Grown past.tree
          w = is_grown

          kept : Node → Bool
          kept = is_held past.plan past.tree past.acts

          go : (k : RoleTarget) → s.kind ≡ k → gives (held_tree past.plan past.tree past.acts) (serial_of m) s.rel s.tail k n ≡ gives past.tree (serial_of m) s.rel s.tail k n
          go Own e = refl
          go Whole e = refl
          go First e = same_from_decides {P = gives past.tree (serial_of m) s.rel s.tail First n ≡ true} _ _ (back, forth) ((λ z. z), λ z. z)
            where
              forth : gives past.tree (serial_of m) s.rel s.tail First n ≡ true → gives (held_tree past.plan past.tree past.acts) (serial_of m) s.rel s.tail First n ≡ true
              forth g =
                  let a = any_in (λ (x : Node). is_node (serial_of n) (first P (serial_of x) s.tail)) (matches P (serial_of m) s.rel) g in
                  let f = node_is (serial_of n) (first P (serial_of a.0) s.tail) a.2 in
                  let q = Matches-in P (serial_of m) s.rel a.0 a.1 in
                  let x = Matches-in P (serial_of a.0) s.tail f.0 (head_in (matches P (serial_of a.0) s.tail) f.0 f.1) in
                  let same : f.0 ≡ n = Numbered-same 0 P.nodes w.numbered f.0 n x.0 j f.2 in
                  let hit : hits (serial_of a.0) s.tail n ≡ true = subst (λ (z : Node). hits (serial_of a.0) s.tail z ≡ true) same x.1 in
                  let top : kept a.0 ≡ true = held_up n a.0 j (hits_above P w a.0 s.tail n q.0 j hit) h in
                  any_from (λ (z : Node). is_node (serial_of n) (first (held_tree past.plan P A) (serial_of z) s.tail)) a.0 (matches (held_tree past.plan P A) (serial_of m) s.rel)
                  (In-kept (hits (serial_of m) s.rel) a.0 (held past.plan P A) (In-kept kept a.0 P.nodes q.0 top) q.1)
                  (is_seen (serial_of n) (first (held_tree past.plan P A) (serial_of a.0) s.tail) f.0 (first_kept (serial_of a.0) f.0 f.1 (subst (λ (z : Node). kept z ≡ true) (sym same) h)) f.2)

              back : gives (held_tree past.plan past.tree past.acts) (serial_of m) s.rel s.tail First n ≡ true → gives past.tree (serial_of m) s.rel s.tail First n ≡ true
              back g =
                  let a = any_in (λ (x : Node). is_node (serial_of n) (first (held_tree past.plan P A) (serial_of x) s.tail)) (matches (held_tree past.plan P A) (serial_of m) s.rel) g in
                  let f = node_is (serial_of n) (first (held_tree past.plan P A) (serial_of a.0) s.tail) a.2 in
                  let q = In-filter (hits (serial_of m) s.rel) a.0 (held past.plan P A) a.1 in
                  let am : In a.0 (matches P (serial_of m) s.rel) = Matches-from P (serial_of m) s.rel a.0 (In-filter kept a.0 P.nodes q.0).0 q.1 in
                  any_from (λ (t : Node). is_node (serial_of n) (first P (serial_of t) s.tail)) a.0 (matches P (serial_of m) s.rel) am
                  (is_seen (serial_of n) (first P (serial_of a.0) s.tail) f.0 (first_same e a.0 am f.0 f.1) f.2)

module _ (past : Past) (is : IsPast past) (s : OffTree) (stands : In s (offs_in past.plan.body)) where
  abbrev own : OffTree
  own = (tells past is s stands).own

  abbrev own_in : In own (offs_in past.plan.body)
  own_in = (tells past is s stands).own_in

  -- a statement without steps reaches the node alone at which it is carried out
  own_reaches : (x n : Node) → reaches past.tree own x n ≡ hits (serial_of x) [] n
  own_reaches x n =
      let t = tells past is s stands in
      ap (λ z. gives past.tree (serial_of x) z own.tail own.kind n) t.own_rel ∙ ap (λ z. gives past.tree (serial_of x) [] own.tail z n) t.own_kind

  own_bases : bases past own ≡ bases past s
  own_bases = ap (λ (z : ℕ). matches past.tree 0 (path_of past.plan z)) (tells past is s stands).own_base

  own_live : (n : Node) → In n past.tree.nodes → live past.plan past.tree past.acts n s.own ≡ true → In n (bases past s) × (signed past.acts own n ≡ false)
  own_live n i h =
      let r = live_reached past is own own_in n (subst (λ (z : ℕ). live past.plan past.tree past.acts n z ≡ true) (sym (tells past is s stands).own_role) h) in
      let b : In r.0 (bases past s) = subst (λ (z : List Node). In r.0 z) own_bases r.1 in
      let same : r.0 ≡ n = Numbered-same 0 past.tree.nodes (is_grown past is).numbered r.0 n (Matches-in past.tree 0 (path_of past.plan s.base) r.0 b).0 i (sym (eqb-true _ _ (sym (own_reaches r.0 n) ∙ r.3))) in
      subst (λ (z : Node). In z (bases past s) × (signed past.acts own z ≡ false)) same (b, r.2)

  live_own : (n : Node) → In n past.tree.nodes → In n (bases past s) → signed past.acts own n ≡ false → live past.plan past.tree past.acts n s.own ≡ true
  live_own n i b u =
      subst (λ (z : ℕ). live past.plan past.tree past.acts n z ≡ true) (tells past is s stands).own_role
      (reached_live past is own own_in n n i (subst (λ (z : List Node). In n z) (sym own_bases) b) u (own_reaches n n ∙ eq-eqb (serial_of n) (serial_of n) refl))

  own_signed : (n : Node) → is_signed past.plan past.acts n s.own ≡ signed past.acts own n
  own_signed n = ap (on_off (λ (o : OffTree). signed past.acts o n)) ((one_statement_law is.core is.good past.plan is.placed s.own own).1 (own_in, (tells past is s stands).own_role))

  signed_own : (n : Node) → In n past.tree.nodes → signed past.acts own n ≡ true → In n (bases past s)
  signed_own n i h =
      let q = (is.stated own (serial_of n) ((signed_is_off past.acts own n).0 h)).1 in
      let b : In q.0 (bases past s) = subst (λ (z : List Node). In q.0 z) own_bases q.1 in
      subst (λ (z : Node). In z (bases past s)) (Numbered-same 0 past.tree.nodes (is_grown past is).numbered q.0 n (Matches-in past.tree 0 (path_of past.plan s.base) q.0 b).0 i q.2) b

pub own_tells : OwnTells
own_tells past is s i m j = (
  (
    (λ b. go b (signed past.acts (own past is s i) m) refl),
    (λ h. elim h [ inl l ↦ (own_live past is s i m j l).0 | inr g ↦ signed_own past is s i m j (sym (own_signed past is s i m) ∙ g) ]),
  ),
  (λ l g. false≢true (sym (own_live past is s i m j l).1 ∙ (sym (own_signed past is s i m) ∙ g))),
)
  where
    go : In m (bases past s) → (c : Bool) → signed past.acts (own past is s i) m ≡ c → (live past.plan past.tree past.acts m s.own ≡ true) ⊎ (is_signed past.plan past.acts m s.own ≡ true)
    go b true e = inr (own_signed past is s i m ∙ e)
    go b false e = inl (live_own past is s i m j b e)

pub live_by_bases : LiveByBases
live_by_bases past is s i n j = (live_reached past is s i n, λ h. reached_live past is s i h.0 n j h.1 h.2 h.3)

pub reach_held : ReachHeld
reach_held past is s i m b u n j = (
  (λ h. held_tells past is s i m b u n j (In-filter (is_held past.plan past.tree past.acts) n past.tree.nodes h).1),
  (λ h. false_from_ne_true (reaches past.tree s m n) (λ g. h (In-kept (is_held past.plan past.tree past.acts) n past.tree.nodes j (reached_held past is s i m b u n j g)))),
)
