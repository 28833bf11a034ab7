-- What rows tell, which nodes are held by their neighbours, and where bases stand.
use Rattle.std.proofs.Common.{◌≡◌, ℕ, ◌+◌, true, false, not, ◌&&◌, List, [], ◌∷◌, ◌++◌, length, refl, sym, ◌∙◌, ap, subst, inl, inr, ◌⊎◌, arith, Some, None, Option}
use Rattle.std.proofs.lemmas.Bool.{or_cases, or_left, or_right, and_parts, and_from, false≢true, eqb-true, eq-eqb, false_from_ne_true}
use Rattle.gcx_base.specs.declared.kind.Kind.TheVariants.{Element}
use Rattle.gcx_model.specs.Tree.{Node, Root, Under, serial_of, above, within, Tree, Start, Chars, End, grow, grow_at, is_open_at}
use Rattle.std.specs.List.{filter}
use Rattle.gcx_model.specs.Paths.{any}
use Rattle.gcx_model.specs.Members.{In, count}
use Rattle.gcx_model.specs.Nodes.{Grown}
use Rattle.gcx_model.specs.Core.{OffTree, RoleRowTree}
use Rattle.gcx_model.specs.Run.{Action, Offed}
use Rattle.gcx_model.specs.Placed.{row_at}
use Rattle.gcx_model.specs.Held.{path_of, statement_of, on_row, given_row, given, signed, reaches, on_off, taken, live, roles_live, is_live, is_held, held, held_tree}
use Rattle.gcx_model.specs.Past.{Past, IsPast, is_ahead, roles_signed, open_from, open_nodes, is_signed, parent_serial}
use Rattle.base_laws.proofs.Numbers.{in_count}
use Rattle.past_laws.specs.Pasts.{bases, NewRoles, KeptByRows, RowTells, HeldLocal, HeldAbove, BasesAbove, OpenBehind}
use Rattle.tree_laws.proofs.Lists.{In-filter, In-kept, any_in, any_from}
use Rattle.tree_laws.proofs.Matches.{Numbered-same, Matches-in}
use Rattle.tree_laws.proofs.Freeze.{within_self}
use Rattle.placed_laws.proofs.Local.{child_way, within_is}
use Rattle.tree_laws.proofs.Chains.{above_self, above_in, above_same, all_child_depth}
use Rattle.tree_laws.proofs.Fed.{root_in, from_tokens}
use Rattle.placed_laws.proofs.PlanStatements.{one_statement_law}
use Rattle.placed_laws.proofs.Unique.{row_below}
use Rattle.past_laws.proofs.Bases.{is_grown, held_up, tells, own_tells, reach_held}
use Rattle.past_laws.proofs.Changes.{filter_both, live_by_act}
use Rattle.past_laws.proofs.Ahead.{gives_within, open_above, ahead_takes}
use Rattle.tree_laws.proofs.Reading.{is_child_of}

module _ (past : Past) (is : IsPast past) where
  abbrev P : Tree
  P = past.tree

  abbrev A : List Action
  A = past.acts

  known : (r : ℕ) (row : RoleRowTree) → row_at past.plan.roles r ≡ Some row → In r (count 0 (length past.plan.roles))
  known r row e =
      let l = row_below past.plan.roles r row e in
      let z : 0 + r ≡ r = omega arith in
      subst (λ (y : ℕ). In y (count 0 (length past.plan.roles))) z (in_count 0 (length past.plan.roles) r l)

  given_known : (n : Node) (r : ℕ) → given past.plan past.tree n r ≡ true → In r (count 0 (length past.plan.roles))
  given_known n r h = go (row_at past.plan.roles r) refl h
    where
      go : (row : Option RoleRowTree) → row_at past.plan.roles r ≡ row → on_row (given_row (path_of past.plan) past.tree n) row ≡ true → In r (count 0 (length past.plan.roles))
      go None e k = absurd (false≢true k)
      go (Some row) e k = known r row e

  signed_known : (n : Node) (r : ℕ) → is_signed past.plan past.acts n r ≡ true → In r (count 0 (length past.plan.roles))
  signed_known n r h = go (statement_of past.plan r) refl h
    where
      go : (s : Option OffTree) → statement_of past.plan r ≡ s → on_off (λ o. signed past.acts o n) s ≡ true → In r (count 0 (length past.plan.roles))
      go None e k = absurd (false≢true k)
      go (Some s) e k =
          let q = (one_statement_law is.core is.good past.plan is.placed r s).0 e in
          let t = tells past is s q.0 in
          subst (λ (y : ℕ). In y (count 0 (length past.plan.roles))) q.1 (known s.role t.row t.at)

  live_listed : (n : Node) (r : ℕ) → live past.plan past.tree past.acts n r ≡ true → In r (roles_live past.plan past.tree past.acts n)
  live_listed n r h = In-kept (live past.plan P A n) r (count 0 (length past.plan.roles)) (given_known n r (and_parts (given past.plan P n r) _ h).0) h

  held_from : (n : Node) → In n past.tree.nodes → (m : Node) → In m past.tree.nodes → within (serial_of n) m ≡ true → is_live past.plan past.tree past.acts m ≡ true → In n (held past.plan past.tree past.acts)
  held_from n i m j h l = In-kept (is_held past.plan P A) n P.nodes i (or_right _ _ (any_from (λ (x : Node). within (serial_of n) x && is_live past.plan P A x) m P.nodes j (and_from _ _ h l)))

  above_held : (n m : Node) → In n (held past.plan past.tree past.acts) → In m (above n) → In m (held past.plan past.tree past.acts)
  above_held n m i j =
      let q = In-filter (is_held past.plan P A) n P.nodes i in
      In-kept (is_held past.plan P A) m P.nodes (above_in P (is_grown past is) n m q.0 j) (held_up past is n m q.0 j q.1)

  parent_above : (n c : Node) → In n past.tree.nodes → In c past.tree.nodes → parent_serial c ≡ Some (serial_of n) → In n (above c)
  parent_above n Root i j e = absurd (cc)
  parent_above n (Under p s k) i j e =
      let f : serial_of p ≡ serial_of n = cc in
      let same : p ≡ n = Numbered-same 0 P.nodes (is_grown past is).numbered p n ((is_grown past is).upward p s k j) i f in
      inr (subst (λ (z : Node). In z (above p)) same (above_self p))

pub row_tells : RowTells
row_tells past is n r = (
  ((λ i. (In-filter (live past.plan past.tree past.acts n) r (count 0 (length past.plan.roles)) i).1), live_listed past is n r),
  ((λ i. (In-filter (is_signed past.plan past.acts n) r (count 0 (length past.plan.roles)) i).1), (λ h. In-kept (is_signed past.plan past.acts n) r (count 0 (length past.plan.roles)) (signed_known past is n r h) h)),
)

child_serial : (n : ℕ) (c : Node) → is_child_of n c ≡ true → parent_serial c ≡ Some n
child_serial n Root h = absurd (false≢true h)
child_serial n (Under p s k) h = ap Some (eqb-true (serial_of p) n h)

pub held_local : HeldLocal
held_local past is n i = (there, back)
  where
    there : In n (held past.plan past.tree past.acts)
        → (is_open_at past.tree.at (serial_of n) ≡ true) ⊎ (((r : ℕ) × In r (roles_live past.plan past.tree past.acts n)) ⊎ ((c : Node) × In c (held past.plan past.tree past.acts) × (parent_serial c ≡ Some (serial_of n))))
    there h = elim (or_cases (is_open_at past.tree.at (serial_of n)) (any (λ m. within (serial_of n) m && is_live past.plan past.tree past.acts m) past.tree.nodes) (In-filter (is_held past.plan past.tree past.acts) n past.tree.nodes h).1) [
      | inl o ↦ inl o
      | inr l ↦ (
          let r = any_in (λ (m : Node). within (serial_of n) m && is_live past.plan past.tree past.acts m) past.tree.nodes l in
          let a = and_parts (within (serial_of n) r.0) (is_live past.plan past.tree past.acts r.0) r.2 in
          let up : In n (above r.0) = within_is past.tree (is_grown past is) n r.0 i r.1 a.0 in
          elim (child_way n r.0 up) [
            | inl e ↦ (
                let q = any_in (live past.plan past.tree past.acts r.0) (count 0 (length past.plan.roles)) a.1 in
                inr (inl (q.0, subst (λ (z : Node). In q.0 (roles_live past.plan past.tree past.acts z)) (sym e) (live_listed past is r.0 q.0 q.2))))
            | inr c ↦ (
                let ic = above_in past.tree (is_grown past is) r.0 c.0 r.1 c.1 in
                inr (inr (c.0, held_from past is c.0 ic r.0 r.1 (open_above r.0 c.0 c.1) a.1, child_serial (serial_of n) c.0 c.2)))
          ])
    ]

    back : (is_open_at past.tree.at (serial_of n) ≡ true) ⊎ (((r : ℕ) × In r (roles_live past.plan past.tree past.acts n)) ⊎ ((c : Node) × In c (held past.plan past.tree past.acts) × (parent_serial c ≡ Some (serial_of n))))
        → In n (held past.plan past.tree past.acts)
    back (inl o) = In-kept (is_held past.plan past.tree past.acts) n past.tree.nodes i (or_left _ _ o)
    back (inr (inl h)) =
        let q = In-filter (live past.plan past.tree past.acts n) h.0 (count 0 (length past.plan.roles)) h.1 in
        held_from past is n i n i (within_self (serial_of n) n (eq-eqb (serial_of n) (serial_of n) refl)) (any_from (live past.plan past.tree past.acts n) h.0 (count 0 (length past.plan.roles)) q.0 q.1)
    back (inr (inr h)) = above_held past is h.0 n h.1 (parent_above past is n h.0 i (In-filter (is_held past.plan past.tree past.acts) h.0 past.tree.nodes h.1).0 h.2)

pub held_above : HeldAbove
held_above past is n m i j = above_held past is n m i j

-- of two nodes above a third one the one is above the other
above_either : (n a b : Node) → In a (above n) → In b (above n) → In b (above a) ⊎ In a (above b)
above_either Root a b (inl e) j = inl (subst (λ (z : Node). In b (above z)) e j)
above_either Root a b (inr i) j = absurd i
above_either (Under p s k) a b (inl e) j = inl (subst (λ (z : Node). In b (above z)) e j)
above_either (Under p s k) a b (inr i) (inl f) = inr (subst (λ (z : Node). In a (above z)) f (inr i))
above_either (Under p s k) a b (inr i) (inr j) = above_either p a b i j

pub bases_above : BasesAbove
bases_above past is s m base n i =
    let w : Grown past.tree = is_grown past is in
    let q = Matches-in past.tree 0 (path_of past.plan s.base) m base in (
      (λ g. within_is past.tree w m n q.0 i (gives_within past.tree w m s.rel s.tail s.kind n q.0 i g)),
      (λ b k u v. (
        above_either n m b u v,
        (λ c.
            let root : In Root past.tree.nodes = from_tokens (λ z. In Root z.nodes) root_in past.tree is.grown in
            let p = Matches-in past.tree 0 (path_of past.plan s.base) b k in
            let d = all_child_depth past.tree w Root (path_of past.plan s.base) m root q.0 c q.1 in
            let e = all_child_depth past.tree w Root (path_of past.plan s.base) b root p.0 c p.1 in
            above_same n b m v u (omega arith)),
      )),
    )

pub open_behind : OpenBehind
open_behind P p e = (
  (λ name. (ap (λ (z : Option Node). (grow_at z (Start name) P).nodes) e, ap (λ (z : Option Node). open_nodes (grow_at z (Start name) P)) e ∙ ap (λ (z : Option Node). Under p (length P.nodes) (Element name) ∷ open_from z) (sym e))),
  (λ b. (ap (λ (z : Option Node). (grow_at z (Chars b) P).nodes) e, ap (λ (z : Option Node). open_nodes (grow_at z (Chars b) P)) e ∙ ap open_from (sym e))),
  ap (λ (z : Option Node). (grow_at z End P).nodes) e ∙ shut p,
  ap open_from e ∙ (rest p ∙ ap (λ (z : Option Node). p ∷ open_nodes (grow_at z End P)) (sym e)),
)
  where
    shut : (p : Node) → (grow_at (Some p) End P).nodes ≡ P.nodes
    shut Root = refl
    shut (Under q s k) = refl

    rest : (p : Node) → above p ≡ p ∷ open_nodes (grow_at (Some p) End P)
    rest Root = refl
    rest (Under q s k) = refl

pub new_roles : NewRoles
new_roles past is t n h =
    filter_both (λ (r : ℕ). not (taken past.plan (grow t past.tree) (filter (is_ahead (grow t past.tree)) past.acts) n r)) (given past.plan (grow t past.tree) n) (live past.plan (grow t past.tree) past.acts n) (count 0 (length past.plan.roles))
    (λ r. ap (λ z. given past.plan (grow t past.tree) n r && not z) (ahead_takes past is t n h r))

pub kept_by_rows : KeptByRows
kept_by_rows past is s j m base n i = (there, back)
  where
    inside : In n past.tree.nodes
    inside = (In-filter (is_held past.plan past.tree past.acts) n past.tree.nodes i).0

    -- the statement is signed where its role is
    signed_is : (b : Node) → is_signed past.plan past.acts b s.role ≡ signed past.acts s b
    signed_is b = ap (on_off (λ (o : OffTree). signed past.acts o b)) (tells past is s j).stated

    there : live past.plan past.tree (past.acts ++ Offed s (serial_of m) ∷ []) n s.role ≡ true
        → (b : Node) × In b (held past.plan past.tree past.acts)
        × (In s.own (roles_live past.plan past.tree past.acts b) ⊎ In s.own (roles_signed past.plan past.acts b)) × (In s.role (roles_signed past.plan past.acts b) → ⊥)
        × (serial_of b ≡ serial_of m → ⊥) × (reaches (held_tree past.plan past.tree past.acts) s b n ≡ true)
    there h =
        let r = (live_by_act past is s j m base n inside).1.0 h in
        let up : In r.0 (above n) = (bases_above past is s r.0 r.1 n inside).0 r.4 in
        let own = row_tells past is r.0 s.own in
        let itself = (row_tells past is r.0 s.role).1 in (
          r.0,
          above_held past is n r.0 i up,
          elim ((own_tells past is s j r.0 (Matches-in past.tree 0 (path_of past.plan s.base) r.0 r.1).0).0.0 r.1) [ inl x ↦ inl (own.0.1 x) | inr x ↦ inr (own.1.1 x) ],
          λ k. false≢true (sym r.2 ∙ (sym (signed_is r.0) ∙ itself.0 k)),
          r.3,
          (reach_held past is s j r.0 r.1 r.2 n inside).0 i ∙ r.4,
        )

    back : (b : Node) × In b (held past.plan past.tree past.acts)
        × (In s.own (roles_live past.plan past.tree past.acts b) ⊎ In s.own (roles_signed past.plan past.acts b)) × (In s.role (roles_signed past.plan past.acts b) → ⊥)
        × (serial_of b ≡ serial_of m → ⊥) × (reaches (held_tree past.plan past.tree past.acts) s b n ≡ true)
        → live past.plan past.tree (past.acts ++ Offed s (serial_of m) ∷ []) n s.role ≡ true
    back h =
        let ib : In h.0 past.tree.nodes = (In-filter (is_held past.plan past.tree past.acts) h.0 past.tree.nodes h.1).0 in
        let own = row_tells past is h.0 s.own in
        let b : In h.0 (bases past s) = (own_tells past is s j h.0 ib).0.1 (elim h.2 [ inl x ↦ inl (own.0.0 x) | inr x ↦ inr (own.1.0 x) ]) in
        let u : signed past.acts s h.0 ≡ false = false_from_ne_true (signed past.acts s h.0) (λ e. h.3 ((row_tells past is h.0 s.role).1.1 (signed_is h.0 ∙ e))) in
        (live_by_act past is s j m base n inside).1.1 (h.0, b, u, h.4, sym ((reach_held past is s j h.0 b u n inside).0 i) ∙ h.5)
