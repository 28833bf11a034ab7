-- The frame that is added for a new node.
use Rattle.std.proofs.Common.{◌≡◌, ℕ, ◌<◌, true, List, [], ◌∷◌, length, map, refl, sym, ◌∙◌, ap, subst, inl, inr, arith, None}
use Rattle.std.proofs.lemmas.Option.{slice_get_within}
use Rattle.gcx_base.specs.declared.kind.Kind.{Kind}
use Rattle.gcx_base.specs.declared.steps.Step.{Step}
use Rattle.gcx_model.specs.Tree.{Node, Under, serial_of, Tree, TreeToken, grow}
use Rattle.gcx_model.specs.Paths.{hits, first}
use Rattle.gcx_model.specs.Nodes.{Grown}
use Rattle.gcx_model.specs.Core.{First, PlanTree, RoleRowTree}
use Rattle.gcx_model.specs.ItemView.{role_kind}
use Rattle.gcx_model.specs.Held.{path_of}
use Rattle.gcx_model.specs.Past.{Opens as Opened}
use Rattle.placed_laws.proofs.Unique.{row_there}
use Rattle.tree_laws.proofs.Lists.{In}
use Rattle.path_states.specs.Active.{ActiveBelow, Tells}
use Rattle.path_states.specs.Lists.{From, Holds}
use Rattle.path_states.specs.PathTree.{IsPathTree, IsContext}
use Rattle.path_states.specs.State.{StateView, Gathers, IsMade, MovesBelow, context_roles}
use Rattle.path_states.specs.declared.paths.PathState.{PathState}
use Rattle.path_states.specs.declared.paths.PathTree.{PathTree}
use Rattle.path_states.specs.declared.paths.Way.{Way}
use Rattle.path_states.proofs.Looking.{some_at, one_at}
use Rattle.matcher.specs.Frame.{IsFirst, IsFound, IsFrame, IsRole}
use Rattle.matcher.specs.Parts.{IsUnmatched, NodeMarks, new_marks, open_context}
use Rattle.matcher.specs.View.{FrameView, frame_of}
use Rattle.matcher.specs.declared.frames.Context.{Context}
use Rattle.matcher.specs.declared.frames.Found.{Found}
use Rattle.matcher.proofs.Finding.{first_some}
use Rattle.matcher.proofs.NewNode.{first_none}
use Rattle.matcher.proofs.NewFrame.{new_hits, new_pending, new_whole}

pub open_in : (roles : List ℕ) (r : ℕ) → In r roles → In (open_context r) (map open_context roles)
open_in [] r i = absurd i
open_in (q ∷ roles) r (inl e) = inl (ap open_context e)
open_in (q ∷ roles) r (inr i) = inr (open_in roles r i)

pub in_open : (roles : List ℕ) (x : Context) → In x (map open_context roles) → In x.role roles
in_open [] x i = absurd i
in_open (q ∷ roles) x (inl e) = inl (ap (λ (z : Context). z.role) e)
in_open (q ∷ roles) x (inr i) = inr (in_open roles x i)

module _ (plan : PlanTree) (tree : PathTree) (A : IsPathTree plan tree) (P : Tree) (w : Grown P) (t : TreeToken) (n : Node) (o : Opened P t n) where
  abbrev Q : Tree
  Q = grow t P

  abbrev count : ℕ
  count = length tree.states.items

  -- the role whose contexts are matches of the state p
  context_row : (p r : ℕ) → IsContext tree.ways.items p r → (row : RoleRowTree) × IsRole plan First r row × (A.path p ≡ path_of plan row.var)
  context_row p r d =
      let l = slice_get_within tree.ways.items r d.way d.at in
      let e = A.roles in
      let m : r < length plan.roles = omega arith in
      let row = row_there plan.roles r m in
      let v = A.ways r row.0 row.1 in
      let same : v.0 ≡ d.way = one_at tree.ways.items r v.0 d.way v.1 d.at in
      (row.0, record { at = row.1; same = sym v.2.kind ∙ (ap (λ (z : Way). role_kind z.kind) same ∙ d.same) }, ap A.path (sym d.var ∙ ap (λ (z : Way). z.var) (sym same)) ∙ v.2.var)

  none_yet : (r : ℕ) (row : RoleRowTree) → IsRole plan First r row → first Q (serial_of n) row.tail ≡ None
  none_yet r row is =
      let s = first_some row.kind row.tail is.same in
      subst (λ (z : List Step). first Q (serial_of n) z ≡ None) (sym s.2) (first_none P w t n o s.0 s.1)

  -- its contexts have no match yet
  pub new_unfound : (leading : List ℕ) → ((c : ℕ) → In c leading → (c < count) × (hits 0 (A.path c) n ≡ true)) → ((c : ℕ) → c < count → hits 0 (A.path c) n ≡ true → In c leading)
      → (roles : List ℕ) → Holds roles (From leading (Tells context_roles tree.states.items)) → (r : ℕ) → (IsUnmatched (map open_context roles) r → IsFirst plan Q n r None) × (IsFirst plan Q n r None → IsUnmatched (map open_context roles) r)
  new_unfound leading to from roles g r = (
    (λ u. (
        let f = (g.has r).0 (subst (λ (z : ℕ). In z roles) u.of (in_open roles u.context u.member)) in
        let x = f.is in
        let d : IsContext tree.ways.items f.of r = ((A.linked f.of x.state x.at).context r).0 x.member in
        let e = context_row f.of r d in
        record { row = e.0; role = e.1; hit = subst (λ (z : List Step). hits 0 z n ≡ true) e.2 (to f.of f.member).1; is = none_yet r e.0 e.1 })),
    (λ d. (
        let v = A.ways r d.row d.role.at in
        let s = some_at tree.states.items v.0.var v.2.var_known in
        let i = from v.0.var v.2.var_known (subst (λ (z : List Step). hits 0 z n ≡ true) (sym v.2.var) d.hit) in
        let c : IsContext tree.ways.items v.0.var r = record { way = v.0; at = v.1; var = refl; same = v.2.kind ∙ d.role.same } in
        record {
          context = open_context r;
          member = open_in roles r ((g.has r).1 (record { of = v.0.var; member = i; is = record { state = s.0; at = s.1; member = ((A.linked v.0.var s.0 s.1).context r).1 c } }));
          of = refl;
          is = refl;
        })),
  )

-- the state is that of a node of this kind below the node of the frame
pub record LeadsFrom (tree : List PathState) (frame : FrameView) (kind : Kind) (x : StateView) : Type 0 where
  pub active : Holds x.active (ActiveBelow tree frame.active frame.pending kind)
  pub gathers : Gathers tree frame.pending frame.whole x

pub leads_from : (tree : List PathState) (above : StateView) (m : NodeMarks) (frame : FrameView) (kind : Kind) (x : StateView) → frame ≡ frame_of above m → MovesBelow tree above kind x → LeadsFrom tree frame kind x
leads_from tree above m frame kind x e moves = subst (λ (z : FrameView). LeadsFrom tree z kind x) (sym e) (record { active = moves.active; gathers = moves.gathers })

-- the frame of a new child of a, whose frame tells what leads below it
module _ (plan : PlanTree) (tree : PathTree) (A : IsPathTree plan tree) (P : Tree) (w : Grown P) (t : TreeToken) (a : Node) (s : ℕ) (k : Kind) (o : Opened P t (Under a s k)) (u : Grown (grow t P)) (some : 0 < s) (frame : FrameView) (R : IsFrame plan P tree.states.items A.path frame a) where
  -- which paths lead to it
  pub leading_are : (leading : List ℕ) → Holds leading (ActiveBelow tree.states.items frame.active frame.pending k) → (c : ℕ)
      → (In c leading → (c < length tree.states.items) × (hits 0 (A.path c) (Under a s k) ≡ true)) × ((c < length tree.states.items) × (hits 0 (A.path c) (Under a s k) ≡ true) → In c leading)
  leading_are leading h = new_hits plan tree A (grow t P) u a s k o.0 frame.active frame.pending some (λ c i. (R.active c).0 i) (λ c l g. (R.active c).1 (l, g)) (λ c i. (R.pending c).0 i) (λ c d. (R.pending c).1 d) leading h

  pub added_frame : (x : StateView) → LeadsFrom tree.states.items frame k x → IsMade tree.states.items x → (found : List Found)
      → ((f : Found) → (In f found → IsFound plan (grow t P) (Under a s k) f) × (IsFound plan (grow t P) (Under a s k) f → In f found)) → IsFrame plan (grow t P) tree.states.items A.path (frame_of x (new_marks x.contexts found)) (Under a s k)
  added_frame x leads made found f =
      let l = leading_are x.active leads.active in
      let to : (c : ℕ) → In c x.active → (c < length tree.states.items) × (hits 0 (A.path c) (Under a s k) ≡ true) = λ c i. (l c).0 i in
      let from : (c : ℕ) → c < length tree.states.items → hits 0 (A.path c) (Under a s k) ≡ true → In c x.active = λ c m g. (l c).1 (m, g) in
      record {
        active = λ c. ((λ i. (l c).0 i), (λ g. (l c).1 g));
        pending = new_pending plan tree A (grow t P) u a s k o.0 frame.active frame.pending some (λ c i. (R.active c).0 i) (λ c m g. (R.active c).1 (m, g)) (λ c i. (R.pending c).0 i) (λ c d. (R.pending c).1 d) x.active x.pending to from leads.gathers.pending;
        whole = new_whole plan tree A (grow t P) u a s k o.0 frame.whole x.active x.whole (λ r i. (R.whole r).0 i) (λ r d. (R.whole r).1 d) to from leads.gathers.whole;
        climbs = made.climbs;
        unfound = new_unfound plan tree A P w t (Under a s k) o x.active to from x.contexts made.contexts;
        found = λ q. ((λ i. (f q).0 i), (λ d. (f q).1 d));
      }
