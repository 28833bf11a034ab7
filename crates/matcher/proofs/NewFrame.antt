-- What leads to a new node, from what leads to its parent.
use Rattle.std.proofs.Common.{◌≡◌, ℕ, zero, suc, ◌<◌, true, List, ◌++◌, length, refl, sym, ◌∙◌, ap, subst, inl, inr, arith, Some}
use Rattle.std.specs.Prelude.{slice_get}
use Rattle.std.proofs.lemmas.Bool.{or_cases, or_left, or_right, eqb-true}
use Rattle.std.proofs.lemmas.Option.{slice_get_within}
use Rattle.gcx_base.specs.declared.kind.Kind.{Kind}
use Rattle.gcx_base.specs.declared.steps.Axis.{Axis}
use Rattle.gcx_base.specs.declared.steps.Axis.TheVariants.{Child, Descendant}
use Rattle.gcx_base.specs.declared.steps.Step.{Step}
use Rattle.gcx_model.specs.Tree.{Node, Under, above, Tree}
use Rattle.gcx_base.specs.Tests.{passes}
use Rattle.gcx_model.specs.Paths.{any, hits}
use Rattle.gcx_model.specs.Nodes.{Grown}
use Rattle.gcx_model.specs.Core.{RoleTarget, Own, First, Whole, RoleRowTree, PlanTree}
use Rattle.gcx_model.specs.ItemView.{role_kind}
use Rattle.gcx_model.specs.Held.{path_of}
use Rattle.placed_laws.proofs.Unique.{row_there}
use Rattle.tree_laws.proofs.Lists.{In}
use Rattle.path_states.specs.Lists.{From, Gains, Holds}
use Rattle.path_states.specs.PathTree.{IsBelow, IsEnd, IsPathTree, kind_with, tail_with}
use Rattle.path_states.specs.Active.{Tells, Waits, Passes, ActiveBelow}
use Rattle.matcher.specs.Frame.{IsRole, IsPending, IsInside}
use Rattle.path_states.specs.declared.paths.PathState.{PathState}
use Rattle.path_states.specs.declared.paths.PathTree.{PathTree}
use Rattle.path_states.specs.declared.paths.Way.{Way}
use Rattle.matcher.proofs.Leading.{Led, last_to, last_from}
use Rattle.path_states.proofs.Looking.{some_at, one_at, in_some, in_not_none}

pub whole_tail : (k : RoleTarget) (tail : List Step) → kind_with k tail ≡ Whole → tail_with k tail ≡ tail
whole_tail Own tail e = absurd (cc)
whole_tail First tail e = refl
whole_tail Whole tail e = refl

pub first_tail : (k : RoleTarget) (tail : List Step) → kind_with k tail ≡ First → tail_with k tail ≡ tail
first_tail Own tail e = absurd (cc)
first_tail First tail e = refl
first_tail Whole tail e = refl

module _ (plan : PlanTree) (t : PathTree) (A : IsPathTree plan t) where
  abbrev count : ℕ
  count = length t.states.items

  pub parent_at : (c : ℕ) (s : PathState) → slice_get t.states.items c ≡ Some s → 0 < c → (q : PathState) × (slice_get t.states.items s.parent ≡ Some q)
  parent_at c s e l =
      let m = (A.step c s e l).0 in
      let n = slice_get_within t.states.items c s e in
      some_at t.states.items s.parent (omega arith)

  -- the roles with their subtrees
  pub ended : (r : ℕ) (p : ℕ) (kind : RoleTarget) → IsEnd t.ways.items kind p r → (row : RoleRowTree) × IsRole plan kind r row × (A.path p ≡ path_of plan row.var ++ tail_with row.kind row.tail)
  ended r p kind e =
      let l = slice_get_within t.ways.items r e.way e.at in
      let m : r < length plan.roles = (let z = A.roles in omega arith) in
      let row = row_there plan.roles r m in
      let v = A.ways r row.0 row.1 in
      let same : e.way ≡ v.0 = one_at t.ways.items r e.way v.0 e.at v.1 in
      (row.0, record { at = row.1; same = sym v.2.kind ∙ (ap (λ (z : Way). role_kind z.kind) (sym same) ∙ e.same) }, ap A.path (sym e.end ∙ ap (λ (z : Way). z.end) same) ∙ v.2.end)

  pub end_of : (r : ℕ) (kind : RoleTarget) (row : RoleRowTree) → IsRole plan kind r row → (p : ℕ) × (p < count) × IsEnd t.ways.items kind p r × (A.path p ≡ path_of plan row.var ++ tail_with row.kind row.tail)
  end_of r kind row is =
      let v = A.ways r row is.at in
      (v.0.end, v.2.end_known, record { way = v.0; at = v.1; end = refl; same = v.2.kind ∙ is.same }, v.2.end)

  module _ (P : Tree) (w : Grown P) (a : Node) (s : ℕ) (k : Kind) (i : In (Under a s k) P.nodes) where
    abbrev new : Node
    new = Under a s k

    -- the top state's path leads to the document node alone
    not_top : (c : ℕ) → hits 0 (A.path c) new ≡ true → 0 < s → 0 < c
    not_top zero h l = let e : s ≡ 0 = eqb-true s 0 (subst (λ (z : List Step). hits 0 z new ≡ true) A.top h) in absurd (omega arith)
    not_top (suc c) h l = omega arith

    hit_below : (axis : Axis) (c : ℕ) (sp : PathState) → slice_get t.states.items c ≡ Some sp → 0 < c → sp.step.axis ≡ axis → passes sp.step.test k ≡ true → Led axis 0 (A.path sp.parent) a → hits 0 (A.path c) new ≡ true
    hit_below axis c sp e l x p h =
        subst (λ (z : List Step). hits 0 z new ≡ true) (sym (A.step c sp e l).1)
        (last_from P w 0 (A.path sp.parent) sp.step a s k i p (subst (λ (z : Axis). Led z 0 (A.path sp.parent) a) (sym x) h))

    passed : (axis : Axis) (p c : ℕ) → Led axis 0 (A.path p) a → (b : ℕ) → IsBelow t.states.items axis p b → Passes t.states.items k b c → (c < count) × (hits 0 (A.path c) new ≡ true)
    passed axis p c h b below is =
        let same : below.state ≡ is.state = one_at t.states.items b below.state is.state below.at is.at in
        let r : hits 0 (A.path b) new ≡ true = hit_below axis b below.state below.at below.behind below.same (subst (λ (z : PathState). passes z.step.test k ≡ true) (sym same) is.is) (subst (λ (z : ℕ). Led axis 0 (A.path z) a) (sym below.parent) h) in
        let l : b < count = slice_get_within t.states.items b below.state below.at in
        (subst (λ (z : ℕ). z < count) is.same l, subst (λ (z : ℕ). hits 0 (A.path z) new ≡ true) is.same r)

    module _ (above_hits above_pending : List ℕ) (0-new : 0 < s)
        (active_hits : (c : ℕ) → In c above_hits → (c < count) × (hits 0 (A.path c) a ≡ true))
        (hits_active : (c : ℕ) → c < count → hits 0 (A.path c) a ≡ true → In c above_hits)
        (waits : (c : ℕ) → In c above_pending → IsPending t.states.items A.path a c)
        (waiting : (c : ℕ) → IsPending t.states.items A.path a c → In c above_pending) where
      hits_to : (c : ℕ) → ActiveBelow t.states.items above_hits above_pending k c → (c < count) × (hits 0 (A.path c) new ≡ true)
      hits_to c (inl f) =
          let u = f.is in
          let b = (A.linked f.of u.state u.at).child_edges u.from.of in
          passed Child f.of c (active_hits f.of f.member).1 u.from.of (b.0 u.from.member) u.from.is
      hits_to c (inr f) =
          let u = f.is in
          let b = (A.linked f.of u.state u.at).descendant_edges u.from.of in
          passed Descendant f.of c (waits f.of f.member).hit u.from.of (b.0 u.from.member) u.from.is

      by_axis : (axis : Axis) (c : ℕ) (sp q : PathState) → slice_get t.states.items c ≡ Some sp → 0 < c → slice_get t.states.items sp.parent ≡ Some q → sp.step.axis ≡ axis → passes sp.step.test k ≡ true → Led axis 0 (A.path sp.parent) a → ActiveBelow t.states.items above_hits above_pending k c
      by_axis Child c sp q e l f x p h = inl (record {
        of = sp.parent;
        member = hits_active sp.parent (slice_get_within t.states.items sp.parent q f) h;
        is = record {
          state = q;
          at = f;
          from = record { of = c; member = ((A.linked sp.parent q f).child_edges c).1 (record { state = sp; at = e; behind = l; parent = refl; same = x }); is = record { state = sp; at = e; is = p; same = refl } };
        };
      })
      by_axis Descendant c sp q e l f x p h =
          let b : IsBelow t.states.items Descendant sp.parent c = record { state = sp; at = e; behind = l; parent = refl; same = x } in
          inr (record {
            of = sp.parent;
            member = waiting sp.parent (record { below = c; stands = b; hit = h });
            is = record { state = q; at = f; from = record { of = c; member = ((A.linked sp.parent q f).descendant_edges c).1 b; is = record { state = sp; at = e; is = p; same = refl } } };
          })

      hits_from : (c : ℕ) → c < count → hits 0 (A.path c) new ≡ true → ActiveBelow t.states.items above_hits above_pending k c
      hits_from c l h =
          let m = not_top c h 0-new in
          let r = some_at t.states.items c l in
          let g = subst (λ (z : List Step). hits 0 z new ≡ true) (A.step c r.0 r.1 m).1 h in
          let o = last_to P w 0 (A.path r.0.parent) r.0.step a s k i g in
          let q = parent_at c r.0 r.1 m in
          by_axis r.0.step.axis c r.0 q.0 r.1 m q.1 refl o.0 o.1

      -- the tree whose paths lead to the new node
      pub new_hits : (hs : List ℕ) → Holds hs (ActiveBelow t.states.items above_hits above_pending k) → (c : ℕ) → (In c hs → (c < count) × (hits 0 (A.path c) new ≡ true)) × ((c < count) × (hits 0 (A.path c) new ≡ true) → In c hs)
      new_hits hs g c = (λ j. hits_to c ((g.has c).0 j), λ h. (g.has c).1 (hits_from c h.0 h.1))

      -- those with a descendant step behind them
      pub new_pending : (hs ps : List ℕ) → ((c : ℕ) → In c hs → (c < count) × (hits 0 (A.path c) new ≡ true)) → ((c : ℕ) → c < count → hits 0 (A.path c) new ≡ true → In c hs) → Gains above_pending ps (From hs (Waits t.states.items))
          → (c : ℕ) → (In c ps → IsPending t.states.items A.path new c) × (IsPending t.states.items A.path new c → In c ps)
      new_pending hs ps to from g c = (
        (λ j. elim ((g.has c).0 j) [
          | inl o ↦ (let r = waits c o in record { below = r.below; stands = r.stands; hit = or_right (hits 0 (A.path c) new) (any (hits 0 (A.path c)) (above a)) r.hit })
          | inr f ↦ (let v = f.is in
              let b = in_some v.state.descendant_edges.items v.some in
              let st : IsBelow t.states.items Descendant c b.0 = subst (λ (z : ℕ). IsBelow t.states.items Descendant z b.0) v.same (((A.linked f.of v.state v.at).descendant_edges b.0).0 b.1) in
              let h : hits 0 (A.path c) new ≡ true = subst (λ (z : ℕ). hits 0 (A.path z) new ≡ true) v.same (to f.of f.member).1 in
              record { below = b.0; stands = st; hit = or_left (hits 0 (A.path c) new) (any (hits 0 (A.path c)) (above a)) h })
        ]),
        (λ d. (g.has c).1 (elim (or_cases (hits 0 (A.path c) new) (any (hits 0 (A.path c)) (above a)) d.hit) [
          | inl h ↦ (let st = d.stands in
              let m = (A.step d.below st.state st.at st.behind).0 in
              let n = slice_get_within t.states.items d.below st.state st.at in
              let e = st.parent in
              let l : c < count = omega arith in
              let r = some_at t.states.items c l in
              let y : In d.below r.0.descendant_edges.items = ((A.linked c r.0 r.1).descendant_edges d.below).1 st in
              inr (record { of = c; member = from c l h; is = record { state = r.0; at = r.1; some = in_not_none r.0.descendant_edges.items d.below y; same = refl } }))
          | inr h ↦ inl (waiting c (record { below = d.below; stands = d.stands; hit = h }))
        ])),
      )

    -- the Whole roles of the new node
    pub new_whole : (ws hs vs : List ℕ) → ((r : ℕ) → In r ws → IsInside plan a r) → ((r : ℕ) → IsInside plan a r → In r ws)
        → ((c : ℕ) → In c hs → (c < count) × (hits 0 (A.path c) new ≡ true)) → ((c : ℕ) → c < count → hits 0 (A.path c) new ≡ true → In c hs) → Gains ws vs (From hs (Tells (λ z. z.whole.items) t.states.items))
        → (r : ℕ) → (In r vs → IsInside plan new r) × (IsInside plan new r → In r vs)
    new_whole ws hs vs old older to from g r = (
      (λ j. elim ((g.has r).0 j) [
        | inl o ↦ (let d = old r o in record { row = d.row; role = d.role; hit = or_right (hits 0 (path_of plan d.row.var ++ d.row.tail) new) (any (hits 0 (path_of plan d.row.var ++ d.row.tail)) (above a)) d.hit })
        | inr f ↦ (let v = f.is in
            let e = ended r f.of Whole (((A.linked f.of v.state v.at).whole r).0 v.member) in
            let x : A.path f.of ≡ path_of plan e.0.var ++ e.0.tail = e.2 ∙ ap (λ (z : List Step). path_of plan e.0.var ++ z) (whole_tail e.0.kind e.0.tail e.1.same) in
            record { row = e.0; role = e.1; hit = or_left (hits 0 (path_of plan e.0.var ++ e.0.tail) new) (any (hits 0 (path_of plan e.0.var ++ e.0.tail)) (above a)) (subst (λ (z : List Step). hits 0 z new ≡ true) x (to f.of f.member).1) })
      ]),
      (λ d. (g.has r).1 (elim (or_cases (hits 0 (path_of plan d.row.var ++ d.row.tail) new) (any (hits 0 (path_of plan d.row.var ++ d.row.tail)) (above a)) d.hit) [
        | inl h ↦ (let e = end_of r Whole d.row d.role in
            let x : A.path e.0 ≡ path_of plan d.row.var ++ d.row.tail = e.3 ∙ ap (λ (z : List Step). path_of plan d.row.var ++ z) (whole_tail d.row.kind d.row.tail d.role.same) in
            let q = some_at t.states.items e.0 e.1 in
            inr (record { of = e.0; member = from e.0 e.1 (subst (λ (z : List Step). hits 0 z new ≡ true) (sym x) h); is = record { state = q.0; at = q.1; member = ((A.linked e.0 q.0 q.1).whole r).1 e.2 } }))
        | inr h ↦ inl (older r (record { row = d.row; role = d.role; hit = h }))
      ])),
    )
