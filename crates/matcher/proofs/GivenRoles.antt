-- The roles that a frame tells are those given to its node.
use Rattle.std.proofs.Common.{◌≡◌, ◌↔◌, ℕ, zero, suc, ◌+◌, ◌<◌, ◌≤◌, Bool, true, false, cond, List, [], ◌∷◌, ◌++◌, length, refl, sym, ◌∙◌, ap, subst, inl, inr, ◌⊎◌, arith, eqb, Some}
use Rattle.std.specs.List.{filter}
use Rattle.std.proofs.lemmas.Bool.{false≢true, eqb-true, eq-eqb}
use Rattle.std.proofs.lemmas.List.{append-nil}
use Rattle.std.proofs.lemmas.Option.{same_Some}
use Rattle.gcx_base.specs.declared.steps.Step.{Step}
use Rattle.gcx_model.specs.Tree.{Node, Root, Under, serial_of, above, Tree}
use Rattle.gcx_model.specs.Paths.{hits, head, first, matches}
use Rattle.gcx_model.specs.Nodes.{Grown}
use Rattle.gcx_model.specs.Growth.{level}
use Rattle.gcx_model.specs.Core.{RoleTarget, Own, First, Whole, RoleRowTree, PlanTree}
use Rattle.gcx_model.specs.Held.{path_of, is_node, gives, given_row, on_row, given, roles_given}
use Rattle.gcx_model.specs.Placed.{row_at}
use Rattle.gcx_model.specs.Members.{count}
use Rattle.base_laws.proofs.Members.{head_in}
use Rattle.base_laws.proofs.Numbers.{count_high, in_count}
use Rattle.placed_laws.proofs.Unique.{row_there, row_below}
use Rattle.tree_laws.proofs.Lists.{In, In-filter, In-kept, any_in, any_from}
use Rattle.tree_laws.proofs.Matches.{Numbered-same, Matches-in, Matches-from}
use Rattle.tree_laws.proofs.Chains.{above_in, hits_above}
use Rattle.past_laws.proofs.Bases.{node_is}
use Rattle.spread_laws.specs.Tops.{is_whole_kind, gives_newly, is_newly_given, roles_newly_given}
use Rattle.path_states.specs.Lists.{Climbs, From, Gains, Holds}
use Rattle.path_states.specs.State.{GivenBy}
use Rattle.path_states.specs.declared.paths.PathState.{PathState}
use Rattle.path_states.specs.PathTree.{IsPathTree, kind_with, tail_with}
use Rattle.matcher.specs.Frames.{AreBoth, AreRoles, HasRole, IsRoleOf}
use Rattle.matcher.specs.Frame.{IsFound, IsInside, IsRole}
use Rattle.path_states.specs.declared.paths.PathTree.{PathTree}
use Rattle.matcher.specs.declared.frames.Found.{Found}
use Rattle.path_states.proofs.Looking.{some_at}
use Rattle.matcher.proofs.NewFrame.{ended, end_of}

-- rising lists with the same members are one

pub climbs_same : (xs ys : List ℕ) → Climbs xs → Climbs ys → ((y : ℕ) → In y xs → In y ys) → ((y : ℕ) → In y ys → In y xs) → xs ≡ ys
climbs_same [] [] c d f g = refl
climbs_same [] (y ∷ ys) c d f g = absurd (g y (inl refl))
climbs_same (x ∷ xs) [] c d f g = absurd (f x (inl refl))
climbs_same (x ∷ xs) (y ∷ ys) c d f g =
    let e = heads (f x (inl refl)) (g y (inl refl)) in
    ap (λ (z : ℕ). z ∷ xs) e ∙ ap (λ (zs : List ℕ). y ∷ zs) (climbs_same xs ys c.1 d.1
    (λ z i. elim (f z (inr i)) [ inl h ↦ (let l = c.0 z i in absurd (omega arith)) | inr j ↦ j ])
    (λ z i. elim (g z (inr i)) [ inl h ↦ (let l = d.0 z i in absurd (omega arith)) | inr j ↦ j ]))
  where
    heads : In x (y ∷ ys) → In y (x ∷ xs) → x ≡ y
    heads (inl h) j = sym h
    heads (inr i) (inl h) = h
    heads (inr i) (inr j) = let l = d.0 x i in let m = c.0 y j in absurd (omega arith)

In-count-low : (k n y : ℕ) → In y (count k n) → (k ≤ y) × (y < k + n)
In-count-low k zero y i = absurd i
In-count-low k (suc n) y (inl e) = (omega arith, omega arith)
In-count-low k (suc n) y (inr i) = let r = In-count-low (suc k) n y i in let a = r.0 in let b = r.1 in (omega arith, omega arith)

climbs_count : (k n : ℕ) → Climbs (count k n)
climbs_count k zero = tt
climbs_count k (suc n) = (λ y i. let r = In-count-low (suc k) n y i in let a = r.0 in omega arith, climbs_count (suc k) n)

climbs_filter : (p : ℕ → Bool) (xs : List ℕ) → Climbs xs → Climbs (filter p xs)
climbs_filter p [] c = tt
climbs_filter p (x ∷ xs) c = go (p x) (climbs_filter p xs c.1)
  where
    go : (b : Bool) → Climbs (filter p xs) → Climbs (cond b (x ∷ filter p xs) (filter p xs))
    go true r = (λ y i. c.0 y (In-filter p y xs i).0, r)
    go false r = r

-- a rising list is the roles of which a test holds
pub climbs_filtered : (p : ℕ → Bool) (n : ℕ) (xs : List ℕ) → Climbs xs → ((y : ℕ) → In y xs → (y < n) × (p y ≡ true)) → ((y : ℕ) → y < n → p y ≡ true → In y xs) → xs ≡ filter p (count 0 n)
climbs_filtered p n xs c f g =
    climbs_same xs (filter p (count 0 n)) c (climbs_filter p (count 0 n) (climbs_count 0 n))
    (λ y i. let q = f y i in In-kept p y (count 0 n) (subst (λ (z : ℕ). In z (count 0 n)) (zero_add y) (in_count 0 n y q.0)) q.1)
    (λ y i. let q = In-filter p y (count 0 n) i in let l = (In-count-low 0 n y q.0).1 in g y (omega arith) q.1)
  where
    zero_add : (y : ℕ) → 0 + y ≡ y
    zero_add y = omega arith

pub root_above : (n : Node) → In Root (above n)
root_above Root = inl refl
root_above (Under p s k) = inr (root_above p)

-- The kinds.

pub kind_whole : (k : RoleTarget) (tail : List Step) → kind_with k tail ≡ Whole → k ≡ Whole
kind_whole Own tail e = absurd (cc)
kind_whole First [] e = absurd (cc)
kind_whole First (s ∷ tail) e = absurd (cc)
kind_whole Whole tail e = refl

pub kind_first : (k : RoleTarget) (tail : List Step) → kind_with k tail ≡ First → k ≡ First
kind_first Own tail e = absurd (cc)
kind_first First [] e = absurd (cc)
kind_first First (s ∷ tail) e = refl
kind_first Whole tail e = absurd (cc)

kind_own : (k : RoleTarget) (tail : List Step) → kind_with k tail ≡ Own → is_whole_kind k ≡ false
kind_own Own tail e = refl
kind_own First tail e = refl
kind_own Whole tail e = absurd (cc)

-- the node is a match of the path of the role, which is given with its subtree
pub record IsWholeMatch (plan : PlanTree) (a : Node) (r : ℕ) : Type 0 where
  pub row : RoleRowTree
  pub role : IsRole plan Whole r row
  pub hit : hits 0 (path_of plan row.var ++ row.tail) a ≡ true

-- the first node with a node's number
pub self_first : (ns : List Node) (a : Node) → In a ns → is_node (serial_of a) (head (filter (hits (serial_of a) []) ns)) ≡ true
self_first [] a i = absurd i
self_first (n ∷ ns) a i = go (eqb (serial_of n) (serial_of a)) refl (λ j. self_first ns a j) i
  where
    go : (b : Bool) → eqb (serial_of n) (serial_of a) ≡ b → (In a ns → is_node (serial_of a) (head (filter (hits (serial_of a) []) ns)) ≡ true) → In a (n ∷ ns)
        → is_node (serial_of a) (head (cond b (n ∷ filter (hits (serial_of a) []) ns) (filter (hits (serial_of a) []) ns))) ≡ true
    go true e ih j = e
    go false e ih (inl f) = absurd (false≢true (sym e ∙ eq-eqb (serial_of n) (serial_of a) (ap serial_of f)))
    go false e ih (inr j) = ih j

module _ (plan : PlanTree) (t : PathTree) (A : IsPathTree plan t) (P : Tree) (w : Grown P) (a : Node) (i : In a P.nodes) (whole leading : List ℕ) (firsts : List Found)
    (hits_are : (c : ℕ) → In c leading ↔ ((c < length t.states.items) × (hits 0 (A.path c) a ≡ true)))
    (whole_are : (r : ℕ) → In r whole ↔ IsInside plan a r)
    (found_are : (f : Found) → In f firsts ↔ IsFound plan P a f) where
  -- what a role with this row is given by
  by_row : (r : ℕ) (rw : RoleRowTree) → row_at plan.roles r ≡ Some rw → given plan P a r ≡ gives P 0 (path_of plan rw.var) rw.tail rw.kind a
  by_row r rw e = ap (on_row (given_row (path_of plan) P a)) e

  own_to : (k : RoleTarget) (path tail : List Step) → kind_with k tail ≡ Own → hits 0 (path ++ tail_with k tail) a ≡ true → gives P 0 path tail k a ≡ true
  own_to Own path tail e h = subst (λ (z : List Step). hits 0 z a ≡ true) (append-nil path) h
  own_to First path [] e h =
      let g = subst (λ (z : List Step). hits 0 z a ≡ true) (append-nil path) h in
      any_from (λ (j : Node). is_node (serial_of a) (first P (serial_of j) [])) a (matches P 0 path) (Matches-from P 0 path a i g) (self_first P.nodes a i)
  own_to First path (s ∷ tail) e h = absurd (cc)
  own_to Whole path tail e h = absurd (cc)

  own_from : (k : RoleTarget) (path tail : List Step) → kind_with k tail ≡ Own → gives P 0 path tail k a ≡ true → hits 0 (path ++ tail_with k tail) a ≡ true
  own_from Own path tail e h = subst (λ (z : List Step). hits 0 z a ≡ true) (sym (append-nil path)) h
  own_from First path [] e h =
      let f : Node → Bool = λ j. is_node (serial_of a) (first P (serial_of j) []) in
      let q = any_in f (matches P 0 path) h in
      let m = Matches-in P 0 path q.0 q.1 in
      let x = node_is (serial_of a) (first P (serial_of q.0) []) q.2 in
      let y = Matches-in P (serial_of q.0) [] x.0 (head_in (matches P (serial_of q.0) []) x.0 x.1) in
      let same : q.0 ≡ a = Numbered-same 0 P.nodes w.numbered q.0 a m.0 i (sym (eqb-true (serial_of x.0) (serial_of q.0) y.1) ∙ x.2) in
      subst (λ (z : List Step). hits 0 z a ≡ true) (sym (append-nil path)) (subst (λ (z : Node). hits 0 path z ≡ true) same m.1)
  own_from First path (s ∷ tail) e h = absurd (cc)
  own_from Whole path tail e h = absurd (cc)

  first_to : (path tail : List Step) (b : Node) → In b (above a) → hits 0 path b ≡ true → first P (serial_of b) tail ≡ Some a → gives P 0 path tail First a ≡ true
  first_to path tail b o h e =
      any_from (λ (j : Node). is_node (serial_of a) (first P (serial_of j) tail)) b (matches P 0 path) (Matches-from P 0 path b (above_in P w a b i o) h)
      (ap (is_node (serial_of a)) e ∙ eq-eqb (serial_of a) (serial_of a) refl)

  first_from : (path tail : List Step) → gives P 0 path tail First a ≡ true → (b : Node) × In b (above a) × (hits 0 path b ≡ true) × (first P (serial_of b) tail ≡ Some a)
  first_from path tail h =
      let f : Node → Bool = λ j. is_node (serial_of a) (first P (serial_of j) tail) in
      let q = any_in f (matches P 0 path) h in
      let m = Matches-in P 0 path q.0 q.1 in
      let x = node_is (serial_of a) (first P (serial_of q.0) tail) q.2 in
      let y = Matches-in P (serial_of q.0) tail x.0 (head_in (matches P (serial_of q.0) tail) x.0 x.1) in
      let same : x.0 ≡ a = Numbered-same 0 P.nodes w.numbered x.0 a y.0 i x.2 in
      let g : hits (serial_of q.0) tail a ≡ true = subst (λ (z : Node). hits (serial_of q.0) tail z ≡ true) same y.1 in
      (q.0, hits_above P w q.0 tail a m.0 i g, m.1, x.1 ∙ ap (λ (z : Node). Some z) same)

  gives_as : (r : ℕ) (rw : RoleRowTree) (k : RoleTarget) → row_at plan.roles r ≡ Some rw → rw.kind ≡ k → gives P 0 (path_of plan rw.var) rw.tail k a ≡ true → given plan P a r ≡ true
  gives_as r rw k e f h = by_row r rw e ∙ subst (λ (z : RoleTarget). gives P 0 (path_of plan rw.var) rw.tail z a ≡ true) (sym f) h

  role_to : (r : ℕ) → HasRole t.states.items whole leading firsts r → (r < length plan.roles) × (given plan P a r ≡ true)
  role_to r (inl h) =
      let d = (whole_are r).0 h in
      (row_below plan.roles r d.row d.role.at, gives_as r d.row Whole d.role.at (kind_whole d.row.kind d.row.tail d.role.same) d.hit)
  role_to r (inr (inl f)) =
      let u = f.is in
      let e = ended plan t A r f.of Own (((A.linked f.of u.state u.at).own r).0 u.member) in
      let h : hits 0 (path_of plan e.0.var ++ tail_with e.0.kind e.0.tail) a ≡ true = subst (λ (z : List Step). hits 0 z a ≡ true) e.2 ((hits_are f.of).0 f.member).1 in
      (row_below plan.roles r e.0 e.1.at, by_row r e.0 e.1.at ∙ own_to e.0.kind (path_of plan e.0.var) e.0.tail e.1.same h)
  role_to r (inr (inr f)) =
      let d = (found_are f.of).0 f.member in
      let q = d.is in
      let at : row_at plan.roles r ≡ Some q.row = subst (λ (z : ℕ). row_at plan.roles z ≡ Some q.row) f.is q.role.at in
      (row_below plan.roles r q.row at, gives_as r q.row First at (kind_first q.row.kind q.row.tail q.role.same) (first_to (path_of plan q.row.var) q.row.tail d.context d.over q.hit q.is))

  by_kind : (r : ℕ) (rw : RoleRowTree) → row_at plan.roles r ≡ Some rw → (k : RoleTarget) → kind_with rw.kind rw.tail ≡ k → given plan P a r ≡ true → HasRole t.states.items whole leading firsts r
  by_kind r rw e Own s h =
      let v = end_of plan t A r Own rw (record { at = e; same = s }) in
      let q = some_at t.states.items v.0 v.1 in
      let g = own_from rw.kind (path_of plan rw.var) rw.tail s (sym (by_row r rw e) ∙ h) in
      inr (inl (record { of = v.0; member = (hits_are v.0).1 (v.1, subst (λ (z : List Step). hits 0 z a ≡ true) (sym v.3) g); is = record { state = q.0; at = q.1; member = ((A.linked v.0 q.0 q.1).own r).1 v.2 } }))
  by_kind r rw e First s h =
      let g = first_from (path_of plan rw.var) rw.tail (subst (λ (z : RoleTarget). gives P 0 (path_of plan rw.var) rw.tail z a ≡ true) (kind_first rw.kind rw.tail s) (sym (by_row r rw e) ∙ h)) in
      let f : Found = record { role = r; level = level g.0 } in
      inr (inr (record { of = f; member = (found_are f).1 (record { context = g.0; over = g.1; at = refl; is = record { row = rw; role = record { at = e; same = s }; hit = g.2; is = g.3 } }); is = refl }))
  by_kind r rw e Whole s h =
      inl ((whole_are r).1 (record { row = rw; role = record { at = e; same = s }; hit = subst (λ (z : RoleTarget). gives P 0 (path_of plan rw.var) rw.tail z a ≡ true) (kind_whole rw.kind rw.tail s) (sym (by_row r rw e) ∙ h) }))

  role_from : (r : ℕ) → r < length plan.roles → given plan P a r ≡ true → HasRole t.states.items whole leading firsts r
  role_from r l h = let q = row_there plan.roles r l in by_kind r q.0 q.1 (kind_with q.0.kind q.0.tail) refl h

  -- the roles that these tell, as a rising list
  pub roles_told : (rs : List ℕ) → Climbs rs → Holds rs (HasRole t.states.items whole leading firsts) → rs ≡ roles_given plan P a
  roles_told rs c h = climbs_filtered (given plan P a) (length plan.roles) rs c (λ y j. role_to y ((h.has y).0 j)) (λ y l g. (h.has y).1 (role_from y l g))

  -- ---- those that it isn't given from above

  module _ (newly : List ℕ) (newly_are : (r : ℕ) → In r newly ↔ IsWholeMatch plan a r) (alone : firsts ≡ []) where
    spread_row : (r : ℕ) (rw : RoleRowTree) → row_at plan.roles r ≡ Some rw → rw.kind ≡ Whole → is_newly_given plan P a r ≡ hits 0 (path_of plan rw.var ++ rw.tail) a
    spread_row r rw e f =
        ap (on_row (gives_newly (path_of plan) P a)) e
        ∙ ap (λ (k : RoleTarget). cond (is_whole_kind k) (hits 0 (path_of plan rw.var ++ rw.tail) a) (given_row (path_of plan) P a rw)) f

    other_row : (r : ℕ) (rw : RoleRowTree) → row_at plan.roles r ≡ Some rw → is_whole_kind rw.kind ≡ false → is_newly_given plan P a r ≡ given plan P a r
    other_row r rw e f =
        ap (on_row (gives_newly (path_of plan) P a)) e
        ∙ (ap (λ (c : Bool). cond c (hits 0 (path_of plan rw.var ++ rw.tail) a) (given_row (path_of plan) P a rw)) f
        ∙ sym (ap (on_row (given_row (path_of plan) P a)) e))

    newly_to : (r : ℕ) → GivenBy t.states.items newly leading r → (r < length plan.roles) × (is_newly_given plan P a r ≡ true)
    newly_to r (inl h) =
        let d = (newly_are r).0 h in
        (row_below plan.roles r d.row d.role.at, spread_row r d.row d.role.at (kind_whole d.row.kind d.row.tail d.role.same) ∙ d.hit)
    newly_to r (inr f) =
        let u = f.is in
        let e = ended plan t A r f.of Own (((A.linked f.of u.state u.at).own r).0 u.member) in
        let g = role_to r (inr (inl f)) in
        (g.0, other_row r e.0 e.1.at (kind_own e.0.kind e.0.tail e.1.same) ∙ g.1)

    other_from : (r : ℕ) (rw : RoleRowTree) → row_at plan.roles r ≡ Some rw → r < length plan.roles → is_whole_kind rw.kind ≡ false → is_newly_given plan P a r ≡ true → GivenBy t.states.items newly leading r
    other_from r rw e l f h = elim (role_from r l (sym (other_row r rw e f) ∙ h)) [
      | inl i ↦ (
          let d = (whole_are r).0 i in
          let same : d.row ≡ rw = same_Some _ _ (sym d.role.at ∙ e) in
          absurd (false≢true (sym f ∙ (sym (ap (λ (z : RoleRowTree). is_whole_kind z.kind) same) ∙ ap is_whole_kind (kind_whole d.row.kind d.row.tail d.role.same)))))
      | inr s ↦ elim s [ inl o ↦ inr o | inr g ↦ absurd (subst (λ (z : List Found). In g.of z) alone g.member) ]
    ]

    newly_from : (r : ℕ) (rw : RoleRowTree) → row_at plan.roles r ≡ Some rw → r < length plan.roles → (k : RoleTarget) → rw.kind ≡ k → is_newly_given plan P a r ≡ true → GivenBy t.states.items newly leading r
    newly_from r rw e l Own f h = other_from r rw e l (ap is_whole_kind f) h
    newly_from r rw e l First f h = other_from r rw e l (ap is_whole_kind f) h
    newly_from r rw e l Whole f h =
        inl ((newly_are r).1 (record { row = rw; role = record { at = e; same = ap (λ (k : RoleTarget). kind_with k rw.tail) f }; hit = sym (spread_row r rw e f) ∙ h }))

    pub newly_told : (r : ℕ) → GivenBy t.states.items newly leading r ↔ In r (roles_newly_given plan P a)
    newly_told r = (
      (λ h. (
          let g = newly_to r h in
          let z : 0 + r ≡ r = omega arith in
          In-kept (is_newly_given plan P a) r (count 0 (length plan.roles)) (subst (λ (y : ℕ). In y (count 0 (length plan.roles))) z (in_count 0 (length plan.roles) r g.0)) g.1)),
      (λ i. (
          let q = In-filter (is_newly_given plan P a) r (count 0 (length plan.roles)) i in
          let high = count_high 0 (length plan.roles) r q.0 in
          let few : r < length plan.roles = omega arith in
          let rw = row_there plan.roles r few in
          newly_from r rw.0 rw.1 few rw.0.kind refl q.1)),
    )

-- ---- roles of the one list and of the other

-- those of the one alone, where there is no other
pub both_alone : (roles : List ℕ) (found : List Found) (rs : List ℕ) → found ≡ [] → Climbs roles → rs ≡ roles → AreBoth roles found rs
both_alone roles found rs none c e = record {
  climbs = subst Climbs (sym e) c;
  holds = record {
    has = λ r. (
      (λ i. inl (subst (λ (z : List ℕ). In r z) e i)),
      (λ s. elim s [ inl i ↦ subst (λ (z : List ℕ). In r z) (sym e) i | inr f ↦ absurd (subst (λ (z : List Found). In f.of z) none f.member) ]),
    );
  };
}

pub both_by : (roles : List ℕ) (found : List Found) (all rs : List ℕ) → rs ≡ all → Climbs all → Gains roles all (From found IsRoleOf) → AreBoth roles found rs
both_by roles found all rs e c g = record { climbs = subst Climbs (sym e) c; holds = subst (λ (z : List ℕ). Holds z (λ r. In r roles ⊎ From found IsRoleOf r)) (sym e) (record { has = g.has }) }

-- those that a state gives, and those of first matches
pub roles_of_both : (tree : List PathState) (whole active given : List ℕ) (found : List Found) (rs : List ℕ) → Holds given (GivenBy tree whole active) → AreBoth given found rs → AreRoles tree whole active found rs
roles_of_both tree whole active given found rs g b = record {
  climbs = b.climbs;
  holds = record {
    has = λ r. (
      (λ i. elim ((b.holds.has r).0 i) [ inl j ↦ elim ((g.has r).0 j) [ inl w ↦ inl w | inr o ↦ inr (inl o) ] | inr f ↦ inr (inr f) ]),
      (λ s. (b.holds.has r).1 (elim s [ inl w ↦ inl ((g.has r).1 (inl w)) | inr t ↦ elim t [ inl o ↦ inl ((g.has r).1 (inr o)) | inr f ↦ inr f ] ])),
    );
  };
}
