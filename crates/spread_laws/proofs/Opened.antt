-- Tops behind a token.
use Rattle.std.proofs.Common.{◌≡◌, ℕ, ◌<◌, Bool, true, false, cond, not, ◌&&◌, ◌||◌, List, [], ◌∷◌, ◌++◌, length, refl, sym, ◌∙◌, ap, subst, inl, inr, ◌⊎◌, arith, Some, None, Option}
use Rattle.std.specs.List.{filter}
use Rattle.std.proofs.Math.Bool.{or-false}
use Rattle.std.proofs.lemmas.List.{append-nil}
use Rattle.std.proofs.lemmas.Bool.{and_parts, and_right, false≢true, eqb-true, eq-eqb, false_from_ne_true}
use Rattle.gcx_base.specs.declared.steps.Axis.{Axis}
use Rattle.gcx_base.specs.declared.steps.Axis.TheVariants.{Child, Descendant}
use Rattle.gcx_base.specs.declared.steps.Step.{Step}
use Rattle.gcx_base.specs.Tests.{passes}
use Rattle.gcx_model.specs.Tree.{Node, Root, Under, serial_of, kind_of, above, Tree, TreeToken, grow}
use Rattle.gcx_model.specs.Paths.{any, lies, reach, hits, matches}
use Rattle.gcx_model.specs.Members.{In, count}
use Rattle.gcx_model.specs.Nodes.{Grown}
use Rattle.gcx_model.specs.Core.{RoleTarget, Own, OffTree}
use Rattle.gcx_model.specs.Placed.{offs_in}
use Rattle.gcx_model.specs.Held.{path_of, statement_of, gives, given, signed, on_off, live, roles_live}
use Rattle.gcx_model.specs.Past.{Past, past_fed, IsPast, Opens, open_from, open_nodes, is_signed, roles_signed}
use Rattle.tree_laws.proofs.Lists.{In-left, In-filter, any_in, filter_same}
use Rattle.tree_laws.proofs.Chains.{above_in, hits_above}
use Rattle.tree_laws.proofs.Matches.{Grown-grow, Matches-in, Matches-from, added, Matches-grow}
use Rattle.placed_laws.proofs.Stays.{any-append, any_none, gives_new, new_serial}
use Rattle.placed_laws.proofs.Told.{given_told}
use Rattle.past_laws.specs.Pasts.{bases}
use Rattle.past_laws.proofs.Ahead.{open_above, new_node, new_unsigned}
use Rattle.past_laws.proofs.Awaited.{within_low}
use Rattle.past_laws.proofs.Bases.{is_grown, tells, own_tells}
use Rattle.past_laws.proofs.Changes.{live_by_feed}
use Rattle.past_laws.proofs.RowFacts.{row_tells}
use Rattle.spread_laws.specs.Tops.{is_whole_kind, is_top, is_kept_at}
use Rattle.spread_laws.specs.Keeping.{KeptByFeed, NewTops}
use Rattle.spread_laws.proofs.Tops.{leads, led, is_led, kept_by}

-- the nodes that were there

module _ (past : Past) (is : IsPast past) (t : TreeToken) (n : Node) (i : In n past.tree.nodes) where
  abbrev P : Tree
  P = past.tree

  -- from a new node nothing leads to an old one
  none_new : (s : OffTree) (m : Node) → In m (added t past.tree) → leads past s n m ≡ false
  none_new s m k =
      let e = new_serial t P (is_grown past is) m k in
      let z : hits (serial_of m) (s.rel ++ s.tail) n ≡ false = gives_new t P (is_grown past is) (serial_of m) (s.rel ++ s.tail) [] Own n i (omega arith) in
      and_right (not (signed past.acts s m)) (hits (serial_of m) (s.rel ++ s.tail) n) z

  top_fed : (s : OffTree) → is_top (past_fed t past) s n ≡ is_top past s n
  top_fed s =
      let path : List Step = path_of past.plan s.base in
      ap (any (leads past s n)) (Matches-grow t P 0 path)
      ∙ (any-append (leads past s n) (matches P 0 path) (filter (hits 0 path) (added t P))
      ∙ (ap (λ z. any (leads past s n) (matches P 0 path) || z) (any_none (leads past s n) (filter (hits 0 path) (added t P)) (λ m k. none_new s m (In-filter (hits 0 path) m (added t P) k).0))
      ∙ or-false (any (leads past s n) (matches P 0 path))))

  kept_fed : (r : ℕ) → is_kept_at (past_fed t past) n r ≡ is_kept_at past n r
  kept_fed r = at (statement_of past.plan r)
    where
      same : (s : OffTree) (c : Bool)
          → cond c (is_top (past_fed t past) s n) (live past.plan (grow t past.tree) past.acts n r) ≡ cond c (is_top past s n) (live past.plan past.tree past.acts n r)
      same s true = top_fed s
      same s false = (live_by_feed past is t n i).0 r

      at : (o : Option OffTree) → kept_by (past_fed t past) n r o ≡ kept_by past n r o
      at None = (live_by_feed past is t n i).0 r
      at (Some s) = same s (is_whole_kind s.kind)

pub kept_by_feed : KeptByFeed
kept_by_feed past is t n i = (
  top_fed past is t n i,
  filter_same (is_kept_at (past_fed t past) n) (is_kept_at past n) (count 0 (length past.plan.roles)) (λ r k. kept_fed past is t n i r),
)

-- the new node

module _ (P : Tree) (w : Grown P) where
  lies_low : (a : Axis) (k : ℕ) (j : Node) → In j P.nodes → lies a k j ≡ true → k < serial_of j
  lies_low Child k Root i h = absurd (false≢true h)
  lies_low Descendant k Root i h = absurd (false≢true h)
  lies_low Child k (Under p s d) i h = let e = eqb-true (serial_of p) k h in let l = w.below p s d i in omega arith
  lies_low Descendant k (Under p s d) i h = let e = within_low P w k p (w.upward p s d i) h in let l = w.below p s d i in omega arith

  -- a step leads on from a node, never back to it
  pub hits_self : (n : Node) → In n P.nodes → (path : List Step) → hits (serial_of n) path n ≡ true → path ≡ []
  hits_self n i [] h = refl
  hits_self n i (s ∷ rest) h =
      let r = any_in (λ (j : Node). reach (serial_of n) s j && hits (serial_of j) rest n) (above n) h in
      let a = and_parts (reach (serial_of n) s r.0) (hits (serial_of r.0) rest n) r.2 in
      let b = and_parts (passes s.test (kind_of r.0)) (lies s.axis (serial_of n) r.0) a.0 in
      let low = lies_low s.axis (serial_of n) r.0 (above_in P w n r.0 i r.1) b.1 in
      let high = within_low P w (serial_of r.0) n i (open_above n r.0 r.1) in
      absurd (omega arith)

module _ (past : Past) (is : IsPast past) (s : OffTree) (i : In s (offs_in past.plan.body)) where
  -- the base's own role is given to the bases
  pub own_given : (Q : Tree) (n : Node) → given past.plan Q n s.own ≡ hits 0 (path_of past.plan s.base) n
  own_given Q n =
      let t = tells past is s i in
      ap (given past.plan Q n) (sym t.own_role)
      ∙ (given_told past.plan t.own (tells past is t.own t.own_in) Q n
      ∙ (ap (λ (z : RoleTarget). gives Q 0 (path_of past.plan t.own.base ++ t.own.rel) t.own.tail z n) t.own_kind
      ∙ (ap (λ (z : List Step). hits 0 (path_of past.plan t.own.base ++ z) n) t.own_rel
      ∙ (ap (λ (z : List Step). hits 0 z n) (append-nil (path_of past.plan t.own.base)) ∙ ap (λ (z : ℕ). hits 0 (path_of past.plan z) n) t.own_base))))

  pub signed_is : (b : Node) → is_signed past.plan past.acts b s.role ≡ signed past.acts s b
  signed_is b = ap (on_off (λ (o : OffTree). signed past.acts o b)) (tells past is s i).stated

  -- the row of a node tells whether it is a base,
  pub base_row : (b : Node) → In b past.tree.nodes → In b (bases past s) → In s.own (roles_live past.plan past.tree past.acts b) ⊎ In s.own (roles_signed past.plan past.acts b)
  base_row b ib k =
      let own = row_tells past is b s.own in
      elim ((own_tells past is s i b ib).0.0 k) [ inl x ↦ inl (own.0.1 x) | inr x ↦ inr (own.1.1 x) ]

  pub row_base : (b : Node) → In b past.tree.nodes → In s.own (roles_live past.plan past.tree past.acts b) ⊎ In s.own (roles_signed past.plan past.acts b) → In b (bases past s)
  row_base b ib h =
      let own = row_tells past is b s.own in
      (own_tells past is s i b ib).0.1 (elim h [ inl x ↦ inl (own.0.0 x) | inr x ↦ inr (own.1.0 x) ])

  -- and whether it is signed
  pub unsigned_row : (b : Node) → signed past.acts s b ≡ false → In s.role (roles_signed past.plan past.acts b) → ⊥
  unsigned_row b u k = false≢true (sym u ∙ (sym (signed_is b) ∙ (row_tells past is b s.role).1.0 k))

  pub row_unsigned : (b : Node) → (In s.role (roles_signed past.plan past.acts b) → ⊥) → signed past.acts s b ≡ false
  row_unsigned b h = false_from_ne_true (signed past.acts s b) (λ e. h ((row_tells past is b s.role).1.1 (signed_is b ∙ e)))

  module _ (t : TreeToken) (n : Node) (new : Opens past.tree t n) where
    abbrev Q : Tree
    Q = grow t past.tree

    abbrev path : List Step
    path = path_of past.plan s.base

    open_in : (b : Node) → In b (open_nodes past.tree) → In b past.tree.nodes
    open_in b k = go past.tree.at refl k
      where
        go : (at : Option Node) → past.tree.at ≡ at → In b (open_from at) → In b past.tree.nodes
        go None e k = absurd k
        go (Some p) e k = above_in past.tree (is_grown past is) p b ((is_grown past is).at_in p e) k

    -- what leads to the new node: the node itself, or an open one
    abbrev NewTop : Type 0
    NewTop =
        ((s.rel ++ s.tail ≡ []) × (given past.plan (grow t past.tree) n s.own ≡ true))
        ⊎ ((b : Node) × In b (open_nodes past.tree)
        × (In s.own (roles_live past.plan past.tree past.acts b) ⊎ In s.own (roles_signed past.plan past.acts b)) × (In s.role (roles_signed past.plan past.acts b) → ⊥)
        × (hits (serial_of b) (s.rel ++ s.tail) n ≡ true))

    new_led : is_top (past_fed t past) s n ≡ true → NewTop
    new_led h =
        let wide : Grown (grow t past.tree) = Grown-grow t past.tree (is_grown past is) in
        let b = led (past_fed t past) s n h in
        let q = Matches-in Q 0 path b.0 b.1 in
        let up : In b.0 (above n) = hits_above Q wide b.0 (s.rel ++ s.tail) n q.0 new.0 b.3 in
        elim (subst (λ (z : List Node). In b.0 z) (new_node past.tree t n new).2 up) [
          | inl e ↦ inl (
            hits_self Q wide n new.0 (s.rel ++ s.tail) (subst (λ (z : Node). hits (serial_of z) (s.rel ++ s.tail) n ≡ true) (sym e) b.3),
            own_given Q n ∙ subst (λ (z : Node). hits 0 (path_of past.plan s.base) z ≡ true) (sym e) q.1,
          )
          | inr k ↦ (
              let ib = open_in b.0 k in
              inr (b.0, k, base_row b.0 ib (Matches-from past.tree 0 path b.0 ib q.1), unsigned_row b.0 b.2, b.3))
        ]

    led_new : NewTop → is_top (past_fed t past) s n ≡ true
    led_new (inl h) =
        is_led (past_fed t past) s n (
          n,
          Matches-from Q 0 path n new.0 (sym (own_given Q n) ∙ h.1),
          (new_unsigned past is t n new).0 s,
          subst (λ (z : List Step). hits (serial_of n) z n ≡ true) (sym h.0) (eq-eqb (serial_of n) (serial_of n) refl),
        )
    led_new (inr h) =
        is_led (past_fed t past) s n (
          h.0,
          subst (λ (z : List Node). In h.0 z) (sym (Matches-grow t past.tree 0 path)) (In-left h.0 (matches past.tree 0 path) (filter (hits 0 path) (added t past.tree)) (row_base h.0 (open_in h.0 h.1) h.2)),
          row_unsigned h.0 h.3,
          h.4,
        )

pub new_tops : NewTops
new_tops past is t n new s i = (new_led past is s i t n new, led_new past is s i t n new)
