-- The matcher at the open document node.
use Rattle.std.proofs.Common.{◌≡◌, ℕ, zero, suc, ◌<◌, Bool, true, false, ◌&&◌, ◌||◌, List, [], ◌∷◌, ◌++◌, length, refl, sym, ◌∙◌, ap, subst, inl, inr, arith, Some, None}
use Rattle.std.specs.Prelude.{slice_get}
use Rattle.std.specs.List.{filter}
use Rattle.std.proofs.lemmas.Bool.{false≢true}
use Rattle.std.proofs.lemmas.Option.{slice_get_within}
use Rattle.gcx_base.specs.declared.steps.Axis.TheVariants.{Descendant}
use Rattle.gcx_base.specs.declared.steps.Test.{Test}
use Rattle.gcx_base.specs.declared.steps.Test.TheVariants.{Named, AnyElement, AnyText, AnyNode}
use Rattle.gcx_base.specs.declared.kind.Kind.TheVariants.{Document}
use Rattle.gcx_base.specs.declared.steps.Step.{Step}
use Rattle.gcx_model.specs.Tree.{Node, Root, serial_of, above, opening, Tree}
use Rattle.gcx_base.specs.Tests.{passes}
use Rattle.gcx_model.specs.Paths.{lies, hits, any, head, first, matches}
use Rattle.gcx_model.specs.Core.{RoleTarget, Own, First, Whole, BodyTree, RoleRowTree, PlanTree}
use Rattle.gcx_model.specs.Cores.{Good}
use Rattle.gcx_model.specs.Placed.{Placed, row_at}
use Rattle.gcx_model.specs.Held.{path_of, roles_given}
use Rattle.gcx_model.specs.Growth.{level}
use Rattle.gcx_model.specs.Past.{Past, opening_past}
use Rattle.placed_laws.proofs.Unique.{row_there}
use Rattle.base_laws.proofs.Members.{head_in}
use Rattle.tree_laws.proofs.Lists.{In, any_in, any_from}
use Rattle.tree_laws.proofs.Matches.{Matches-in}
use Rattle.tree_laws.proofs.Fed.{grown_from, root_from}
use Rattle.past_laws.proofs.PastForms.{past_opens}
use Rattle.path_states.specs.Active.{Tells, Waits}
use Rattle.path_states.specs.Lists.{Climbs, From, Holds}
use Rattle.path_states.specs.PathTree.{IsBelow, IsEnd, IsContext, IsWay, IsPathTree, kind_with, tail_with}
use Rattle.path_states.specs.State.{StateView, IsMade, StartsAs, context_roles, whole_roles}
use Rattle.path_states.specs.declared.paths.PathState.{PathState}
use Rattle.path_states.specs.declared.paths.PathTree.{PathTree}
use Rattle.path_states.specs.declared.paths.Way.{Way}
use Rattle.path_states.proofs.Looking.{some_at, one_at, in_some, in_not_none}
use Rattle.matcher.specs.Frame.{IsPending, IsInside, IsFirst, IsFound, IsFrame}
use Rattle.matcher.specs.Frames.{HasRole}
use Rattle.matcher.specs.Matcher.{MatcherAt, IsSign}
use Rattle.matcher.specs.Parts.{NodeMarks, new_marks, open_context}
use Rattle.matcher.specs.Signs.{InTurn}
use Rattle.matcher.specs.View.{FrameView, MatcherView, frame_of}
use Rattle.matcher.specs.declared.frames.Found.{Found}
use Rattle.matcher.specs.declared.signs.Sign.{Sign}
use Rattle.matcher.proofs.AddedFrame.{in_open, open_in}
use Rattle.matcher.proofs.GivenRoles.{roles_told, root_above}

-- no step leads to the document node

no_test : (t : Test) → passes t Document ≡ false
no_test (Named n) = refl
no_test AnyElement = refl
no_test AnyText = refl
no_test AnyNode = refl

step_false : (b x y : Bool) → b ≡ false → (((b && x) && y) || false) ≡ false
step_false b x y e = rw e refl

step_none : (n : ℕ) (s : Step) (rest : List Step) → hits n (s ∷ rest) Root ≡ false
step_none n s rest = step_false (passes s.test Document) (lies s.axis n Root) (hits 0 rest Root) (no_test s.test)

no_step : (n : ℕ) (s : Step) (rest : List Step) → hits n (s ∷ rest) Root ≡ true → ⊥
no_step n s rest h = false≢true (sym (step_none n s rest) ∙ h)

no_end : (n : ℕ) (path : List Step) (s : Step) → hits n (path ++ s ∷ []) Root ≡ true → ⊥
no_end n [] s h = no_step n s [] h
no_end n (x ∷ path) s h = no_step n x (path ++ s ∷ []) h

at_root : (p : Node → Bool) → any p (above Root) ≡ true → p Root ≡ true
at_root p h = let q = any_in p (Root ∷ []) h in elim q.1 [ inl e ↦ ap p e ∙ q.2 | inr b ↦ absurd b ]

root_at : (p : Node → Bool) → p Root ≡ true → any p (above Root) ≡ true
root_at p h = any_from p Root (Root ∷ []) (inl refl) h

root_only : (a : Node) → In a (above Root) → Root ≡ a
root_only a (inl e) = e
root_only a (inr b) = absurd b

zero_only : (c : ℕ) → In c (0 ∷ []) → 0 ≡ c
zero_only c (inl e) = e
zero_only c (inr b) = absurd b

head_none : (p : Node → Bool) → p Root ≡ false → head (filter p (Root ∷ [])) ≡ None
head_none p e = rw e refl

-- the document node isn't the first match of a tail
no_first : (kind : RoleTarget) (tail : List Step) → kind_with kind tail ≡ First → first opening 0 tail ≡ None
no_first Own tail e = absurd (cc)
no_first First [] e = absurd (cc)
no_first First (s ∷ tail) e = head_none (hits 0 (s ∷ tail)) (step_none 0 s tail)
no_first Whole tail e = absurd (cc)

-- it is never the first match of one
pub never_found : (plan : PlanTree) (P : Tree) (f : Found) → IsFound plan P Root f → ⊥
never_found plan P f i =
    let o = i.is in
    go o.row.kind o.row.tail o.role.same (serial_of i.context) o.is
  where
    go : (kind : RoleTarget) (tail : List Step) → kind_with kind tail ≡ First → (k : ℕ) → first P k tail ≡ Some Root → ⊥
    go Own tail e k h = absurd (cc)
    go First [] e k h = absurd (cc)
    go First (s ∷ tail) e k h = no_step k s tail (Matches-in P k (s ∷ tail) Root (head_in (matches P k (s ∷ tail)) Root h)).1
    go Whole tail e k h = absurd (cc)

whole_tail : (kind : RoleTarget) (tail : List Step) → kind_with kind tail ≡ Whole → tail_with kind tail ≡ tail
whole_tail Own tail e = absurd (cc)
whole_tail First tail e = refl
whole_tail Whole tail e = refl

module _ (plan : PlanTree) (t : PathTree) (s : IsPathTree plan t) where
  abbrev tree : List PathState
  tree = t.states.items

  abbrev ways : List Way
  ways = t.ways.items

  -- the empty path is that of state 0 alone
  zero_hit : hits 0 (s.path 0) Root ≡ true
  zero_hit = ap (λ (z : List Step). hits 0 z Root) s.top

  hit_zero : (c : ℕ) → c < length tree → hits 0 (s.path c) Root ≡ true → c ≡ 0
  hit_zero zero l h = refl
  hit_zero (suc c) l h =
      let q = some_at tree (suc c) l in
      let pos : 0 < suc c = omega arith in
      let e = (s.step (suc c) q.0 q.1 pos).1 in
      absurd (no_end 0 (s.path q.0.parent) q.0.step (ap (λ (z : List Step). hits 0 z Root) (sym e) ∙ h))

  first_state : (x : PathState) × (slice_get tree 0 ≡ Some x)
  first_state = some_at tree 0 s.some

  -- the row of a role that has a way
  way_row : (r : ℕ) (w : Way) → slice_get ways r ≡ Some w → (row : RoleRowTree) × (row_at plan.roles r ≡ Some row) × IsWay plan s.path (length tree) w row
  way_row r w e =
      let l = slice_get_within ways r w e in
      let n = s.roles in
      let q = row_there plan.roles r (omega arith) in
      let v = s.ways r q.0 q.1 in
      (q.0, q.1, subst (λ (z : Way). IsWay plan s.path (length tree) z q.0) (one_at ways r v.0 w v.1 e) v.2)

  pending_to : (c : ℕ) → From (0 ∷ []) (Waits tree) c → IsPending tree s.path Root c
  pending_to c f =
      let w = f.is in
      let z = zero_only f.of f.member in
      let same : 0 ≡ c = z ∙ w.same in
      let at : slice_get tree 0 ≡ Some w.state = subst (λ (k : ℕ). slice_get tree k ≡ Some w.state) (sym z) w.at in
      let y = in_some w.state.descendant_edges.items w.some in
      record {
        below = y.0;
        stands = subst (λ (k : ℕ). IsBelow tree Descendant k y.0) same (((s.linked 0 w.state at).descendant_edges y.0).0 y.1);
        hit = root_at (hits 0 (s.path c)) (subst (λ (k : ℕ). hits 0 (s.path k) Root ≡ true) same zero_hit);
      }

  pending_from : (c : ℕ) → IsPending tree s.path Root c → From (0 ∷ []) (Waits tree) c
  pending_from c p =
      let b = p.stands in
      let l = (s.step p.below b.state b.at b.behind).0 in
      let m = slice_get_within tree p.below b.state b.at in
      let e = b.parent in
      let z = hit_zero c (omega arith) (at_root (hits 0 (s.path c)) p.hit) in
      let q = first_state in
      let stands : IsBelow tree Descendant 0 p.below = subst (λ (k : ℕ). IsBelow tree Descendant k p.below) z b in
      record { of = 0; member = inl refl; is = record { state = q.0; at = q.1; some = in_not_none q.0.descendant_edges.items p.below (((s.linked 0 q.0 q.1).descendant_edges p.below).1 stands); same = sym z } }

  whole_to : (r : ℕ) → From (0 ∷ []) (Tells (λ x. x.whole.items) tree) r → IsInside plan Root r
  whole_to r f =
      let w = f.is in
      let z = zero_only f.of f.member in
      let at : slice_get tree 0 ≡ Some w.state = subst (λ (k : ℕ). slice_get tree k ≡ Some w.state) (sym z) w.at in
      let e = ((s.linked 0 w.state at).whole r).0 w.member in
      let q = way_row r e.way e.at in
      let is = q.2 in
      let k : kind_with q.0.kind q.0.tail ≡ Whole = sym is.kind ∙ e.same in
      let path : [] ≡ path_of plan q.0.var ++ q.0.tail = sym s.top ∙ (ap s.path (sym e.end) ∙ (is.end ∙ ap (λ (y : List Step). path_of plan q.0.var ++ y) (whole_tail q.0.kind q.0.tail k))) in
      record { row = q.0; role = record { at = q.1; same = k }; hit = root_at (hits 0 (path_of plan q.0.var ++ q.0.tail)) (ap (λ (y : List Step). hits 0 y Root) (sym path)) }

  whole_from : (r : ℕ) → IsInside plan Root r → From (0 ∷ []) (Tells (λ x. x.whole.items) tree) r
  whole_from r i =
      let v = s.ways r i.row i.role.at in
      let is = v.2 in
      let path : s.path v.0.end ≡ path_of plan i.row.var ++ i.row.tail = is.end ∙ ap (λ (y : List Step). path_of plan i.row.var ++ y) (whole_tail i.row.kind i.row.tail i.role.same) in
      let z = hit_zero v.0.end is.end_known (ap (λ (y : List Step). hits 0 y Root) path ∙ at_root (hits 0 (path_of plan i.row.var ++ i.row.tail)) i.hit) in
      let q = first_state in
      let e : IsEnd ways Whole 0 r = record { way = v.0; at = v.1; end = z; same = is.kind ∙ i.role.same } in
      record { of = 0; member = inl refl; is = record { state = q.0; at = q.1; member = ((s.linked 0 q.0 q.1).whole r).1 e } }

  open_to : (r : ℕ) → From (0 ∷ []) (Tells context_roles tree) r → IsFirst plan opening Root r None
  open_to r f =
      let w = f.is in
      let z = zero_only f.of f.member in
      let at : slice_get tree 0 ≡ Some w.state = subst (λ (k : ℕ). slice_get tree k ≡ Some w.state) (sym z) w.at in
      let e = ((s.linked 0 w.state at).context r).0 w.member in
      let q = way_row r e.way e.at in
      let is = q.2 in
      let k : kind_with q.0.kind q.0.tail ≡ First = sym is.kind ∙ e.same in
      let path : [] ≡ path_of plan q.0.var = sym s.top ∙ (ap s.path (sym e.var) ∙ is.var) in
      record { row = q.0; role = record { at = q.1; same = k }; hit = ap (λ (y : List Step). hits 0 y Root) (sym path); is = no_first q.0.kind q.0.tail k }

  open_from : (r : ℕ) → IsFirst plan opening Root r None → From (0 ∷ []) (Tells context_roles tree) r
  open_from r i =
      let v = s.ways r i.row i.role.at in
      let is = v.2 in
      let z = hit_zero v.0.var is.var_known (ap (λ (y : List Step). hits 0 y Root) is.var ∙ i.hit) in
      let q = first_state in
      let e : IsContext ways 0 r = record { way = v.0; at = v.1; var = z; same = is.kind ∙ i.role.same } in
      record { of = 0; member = inl refl; is = record { state = q.0; at = q.1; member = ((s.linked 0 q.0 q.1).context r).1 e } }

  -- the frame of the document node
  module _ (x : StateView) (starts : StartsAs tree x) (made : IsMade tree x) where
    by_top : (R : ℕ → ℕ → Type 0) (y : ℕ) → From x.active R y → From (0 ∷ []) R y
    by_top R y f = subst (λ (z : List ℕ). From z R y) starts.active f

    top_by : (R : ℕ → ℕ → Type 0) (y : ℕ) → From (0 ∷ []) R y → From x.active R y
    top_by R y f = subst (λ (z : List ℕ). From z R y) (sym starts.active) f

    pub root_frame : IsFrame plan opening t.states.items s.path (frame_of x (new_marks x.contexts [])) Root
    root_frame = record {
      active = λ c. (
        (λ i. let z = zero_only c (subst (λ (w : List ℕ). In c w) starts.active i) in subst (λ (w : ℕ). (w < length tree) × (hits 0 (s.path w) Root ≡ true)) z (s.some, zero_hit)),
        (λ q. subst (λ (w : List ℕ). In c w) (sym starts.active) (inl (sym (hit_zero c q.0 q.1)))),
      );
      pending = λ c. (
        (λ i. elim ((starts.gathers.pending.has c).0 i) [ inl j ↦ absurd j | inr f ↦ pending_to c (by_top (Waits tree) c f) ]),
        (λ p. (starts.gathers.pending.has c).1 (inr (top_by (Waits tree) c (pending_from c p)))),
      );
      whole = λ r. (
        (λ i. elim ((starts.gathers.whole.has r).0 i) [ inl j ↦ absurd j | inr f ↦ whole_to r (by_top (Tells whole_roles tree) r f) ]),
        (λ p. (starts.gathers.whole.has r).1 (inr (top_by (Tells whole_roles tree) r (whole_from r p)))),
      );
      climbs = made.climbs;
      unfound = λ r. (
        (λ u. open_to r (by_top (Tells context_roles tree) r ((made.contexts.has r).0 (subst (λ (z : ℕ). In z x.contexts) u.of (in_open x.contexts u.context u.member))))),
        (λ i. record { context = open_context r; member = open_in x.contexts r ((made.contexts.has r).1 (top_by (Tells context_roles tree) r (open_from r i))); of = refl; is = refl }),
      );
      found = λ f. ((λ i. absurd i), (λ i. absurd (never_found plan opening f i)));
    }

not_sign : (plan : PlanTree) (x : Sign) → IsSign (opening_past plan) Root x → ⊥
not_sign plan x i = false≢true i.is

-- a matcher with the frame of the document node alone stands for the opening tree
pub stands_open : (m : MatcherView) (core : BodyTree) → Good core → (plan : PlanTree) → Placed core plan → IsPathTree plan m.tree → (x : StateView) → StartsAs m.tree.states.items x → IsMade m.tree.states.items x
    → m.frames ≡ frame_of x (new_marks x.contexts []) ∷ [] → m.idle ≡ 0 → m.text ≡ false → m.signs ≡ [] → MatcherAt m (opening_past plan) false
stands_open m core good plan placed s x starts made frames idle text signs = record {
  is_past = past_opens core good plan placed;
  tree = s;
  flag = text;
  here = Root;
  innermost = refl;
  some = (let e = count in omega arith);
  levels = (let e = count in omega arith);
  frames = frames_are;
  idle = λ n i l c k. (let e = count in let d = ap level (root_only n i) in absurd (omega arith));
  over = λ frame e l. absurd (omega arith);
  signs = λ y. ((λ i. absurd (subst (λ (z : List Sign). In y z) signs i)), (λ i. absurd (not_sign plan y i)));
  marked = λ y frame i. absurd (subst (λ (z : List Sign). In y z) signs i);
  turn = subst InTurn (sym signs) tt;
  fresh = λ e. absurd (false≢true e);
}
  where
    count : length m.frames ≡ 1
    count = ap (λ (z : List FrameView). length z) frames

    frames_are : (n : Node) (frame : FrameView) → In n (above Root) → slice_get m.frames (level n) ≡ Some frame → IsFrame plan opening m.tree.states.items s.path frame n
    frames_are n frame i e =
        let d = root_only n i in
        let f : slice_get (frame_of x (new_marks x.contexts []) ∷ []) 0 ≡ Some frame = subst (λ (z : Node). slice_get (frame_of x (new_marks x.contexts []) ∷ []) (level z) ≡ Some frame) (sym d) (subst (λ (z : List FrameView). slice_get z (level n) ≡ Some frame) frames e) in
        let same : frame_of x (new_marks x.contexts []) ≡ frame = cc in
        subst (λ (z : Node). IsFrame plan opening m.tree.states.items s.path frame z) d (subst (λ (z : FrameView). IsFrame plan opening m.tree.states.items s.path z Root) same (root_frame plan m.tree s x starts made))

-- the roles that the state of the document node gives are those of the document node
pub document_given : (m : MatcherView) (past : Past) (text : Bool) → MatcherAt m past text → (x : StateView) (k : NodeMarks) → slice_get m.frames 0 ≡ Some (frame_of x k) → IsMade m.tree.states.items x → (rs : List ℕ) → rs ≡ x.given → rs ≡ roles_given past.plan past.tree Root
document_given m past text S x k at made rs e =
    let w = grown_from past.tree S.is_past.grown in
    let R = S.frames Root (frame_of x k) (root_above S.here) at in
    roles_told past.plan m.tree S.tree past.tree w Root (root_from past.tree S.is_past.grown) x.whole x.active [] R.active R.whole (λ f. ((λ i. absurd i), (λ i. absurd (never_found past.plan past.tree f i))))
    rs (subst Climbs (sym e) made.rising)
    (subst (λ (z : List ℕ). Holds z (HasRole m.tree.states.items x.whole x.active [])) (sym e) (record {
      has = λ r. (
        (λ i. elim ((made.given.has r).0 i) [ inl j ↦ inl j | inr o ↦ inr (inl o) ]),
        (λ s. (made.given.has r).1 (elim s [ inl j ↦ inl j | inr y ↦ elim y [ inl o ↦ inr o | inr f ↦ absurd f.member ] ])),
      );
    }))
