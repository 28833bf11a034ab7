-- How a copy goes on.
use Rattle.std.proofs.Common.{◌≡◌, ℕ, suc, Bool, true, false, cond, List, [], ◌∷◌, ◌++◌, length, refl, sym, ◌∙◌, ap, subst, inl, inr, ◌⊎◌, arith, append_assoc, eqb, Some, None, Option}
use Rattle.std.specs.Prelude.{drop}
use Rattle.std.proofs.lemmas.List.{append-nil, length-append}
use Rattle.gcx_base.specs.declared.kind.Kind.TheVariants.{Document, Element, Text}
use Rattle.gcx_model.specs.Tree.{Node, serial_of, kind_of, within, Tree, opening, is_closed}
use Rattle.gcx_model.specs.Answer.{child_step, children}
use Rattle.gcx_model.specs.Written.{start_tag, end_tag, escaped}
use Rattle.gcx_model.specs.Core.{Copy, BodyTree, Then, PlanTree}
use Rattle.gcx_model.specs.Truth.{Env, bind_var}
use Rattle.gcx_model.specs.Run.{Action, Wrote, Out, idle, seq, loop, copy_with, run, env0}
use Rattle.gcx_model.specs.Cores.{Good}
use Rattle.gcx_model.specs.Placed.{Placed}
use Rattle.gcx_model.specs.Held.{held, held_tree, is_held}
use Rattle.gcx_model.specs.Growth.{Leads}
use Rattle.gcx_model.specs.Points.{actions, so_far, CoreState, Frame, Rest, LoopRound, CopyPart, behind, to_come, IsPoint, Begins, PastItem, InLoop, InYes, InNo, PointAt}
use Rattle.gcx_model.specs.Points as points
use Rattle.gcx_model.specs.Copying.{CopyFrame, Inside, has_inside, begun, ended, copy_all, copies, last_of, ComesTo, Itself, Below, IsCopyPoint, InNode, next_children, copy_left, CopyingAt, FinePoint}
use Rattle.move_laws.specs.Moves.{IsNext, NoneLeft, AtPoint, IsStack, Bottom, InBranch, InRound, InNodeCopy}
use Rattle.move_laws.specs.Copying.{AtStart, AtEnd, Amid, AtFinePoint, FineResume, FinePoints, FinePointStays, CopyBegins, CopySteps, CopyEnds, CopyWaits, CopyFramesStand, InsideHeld}
use Rattle.tree_laws.proofs.Lists.{In, In-left, In-right, In-filter}
use Rattle.tree_laws.proofs.Matches.{Grown, Matches-in}
use Rattle.tree_laws.proofs.Freeze.{within_self, within_trans}
use Rattle.std.proofs.lemmas.Bool.{eq-eqb}
use Rattle.std.proofs.Math.Seq.{drop-append_seam}
use Rattle.placed_laws.proofs.PointForms.{resume, after, after-after, seq-after}
use Rattle.placed_laws.proofs.Turns.{enter_copy}
use Rattle.placed_laws.proofs.Copies.{copying, copy_on, copy_over}
use Rattle.tree_laws.proofs.Growing.{fed_all}
use Rattle.tree_laws.proofs.Fed.{grown_from, root_from}
use Rattle.placed_laws.proofs.RunForms.{reached_leads, point_law}
use Rattle.placed_laws.proofs.PointNeeds.{need_law}
use Rattle.move_laws.proofs.Keeping.{point_stays, matches_kept}
use Rattle.move_laws.proofs.Moving.{take_next, no_more, one_action, points_are_stacks}
use Rattle.move_laws.proofs.CopyFrames.{at_once, Top, top, step_over, Up, up, copy_is, child_in, mid_in, next_is, comes, goes_on, closes}
use Rattle.move_laws.proofs.CopyCut.{copy_is_cut, within_all}

-- the variables of each frame of a point are bound to nodes of the tree

abbrev Binds : Tree → Env → Type 0
Binds P env = (x : ℕ) → In (env x) P.nodes

abbrev FramesBind : Tree → List Frame → Type 0
FramesBind P [] = Unit {0}
FramesBind P (Rest d env ∷ fs) = Binds P env × FramesBind P fs
FramesBind P (LoopRound x y s e env n ∷ fs) = Binds P env × FramesBind P fs
FramesBind P (CopyPart x env k ∷ fs) = Binds P env × FramesBind P fs

bind_more : (P : Tree) (fs gs : List Frame) → FramesBind P fs → FramesBind P gs → FramesBind P (fs ++ gs)
bind_more P [] gs h k = k
bind_more P (Rest d env ∷ fs) gs h k = (h.0, bind_more P fs gs h.1 k)
bind_more P (LoopRound x y s e env n ∷ fs) gs h k = (h.0, bind_more P fs gs h.1 k)
bind_more P (CopyPart x env made ∷ fs) gs h k = (h.0, bind_more P fs gs h.1 k)

binds_node : (P : Tree) (env : Env) (x : ℕ) (n : Node) → Binds P env → In n P.nodes → Binds P (bind_var env x n)
binds_node P env x n b i z = go (eqb z x)
  where
    go : (t : Bool) → In (cond t n (env z)) P.nodes
    go true = i
    go false = b z

frames_bind : (P : Tree) (d : BodyTree) (env : Env) (before : List Action) (fs : List Frame) → IsPoint P d env before fs → Binds P env → FramesBind P fs
frames_bind P d env before fs Begins b = (b, tt)
frames_bind P d env before fs (PastItem {d = rest} {before = before'} dn h) b = frames_bind P rest env before' fs h b
frames_bind P d env before fs (InYes {a = a} {d = rest} {fs = gs} t h) b = bind_more P gs (Rest rest env ∷ []) (frames_bind P a env before gs h b) (b, tt)
frames_bind P d env before fs (InNo {b = other} {d = rest} {fs = gs} t h) b = bind_more P gs (Rest rest env ∷ []) (frames_bind P other env before gs h b) (b, tt)
frames_bind P d env before fs (InLoop {x = x} {y = y} {s = s} {e = e} {d = rest} {before = before'} {fs = gs} pre n post m dn h) b =
    let i : In n P.nodes = (Matches-in P (serial_of (env y)) (s ∷ []) n (subst (λ (z : List Node). In n z) (sym m) (In-right n pre (n ∷ post) (inl refl)))).0 in
    bind_more P gs (LoopRound x y s e env n ∷ Rest rest env ∷ []) (frames_bind P e (bind_var env x n) before' gs h (binds_node P env x n b i)) (b, (b, tt))
frames_bind P d env before fs (points.InCopy {x = x} {d = rest} before' more e) b = (b, (b, tt))

module _ (plan : PlanTree) (P : Tree) (k : ℕ) (l : Leads opening P) where
  w : Grown P
  w = grown_from P l

  -- the variables of the top frame
  rest_binds : (d : BodyTree) (env : Env) (fs : List Frame) → PointAt plan P k (Rest d env ∷ fs) → Binds P env
  rest_binds d env fs st = (frames_bind P plan.body env0 (so_far plan P k) (Rest d env ∷ fs) st (λ x. root_from P l)).0

  part_binds : (x : ℕ) (env : Env) (made : ℕ) (fs : List Frame) → PointAt plan P k (CopyPart x env made ∷ fs) → Binds P env
  part_binds x env made fs st = (frames_bind P plan.body env0 (so_far plan P k) (CopyPart x env made ∷ fs) st (λ x. root_from P l)).0

  -- of a copy behind some actions
  behind_is : (made : List Action) (o whole : Out) → whole ≡ after made o → behind (length made) whole ≡ o
  behind_is made o whole e = ap (behind (length made)) e ∙ ap (λ z. record { acts = z; done = o.done }) (drop-append_seam made o.acts)

  -- the run, from a point within a copy
  pub fine_run : (inner : List CopyFrame) (fs : List Frame) → FinePoint plan P k inner fs → run plan.body env0 P ≡ after (so_far plan P k) (seq (copy_left P inner) (to_come P fs))
  fine_run [] fs st = resume P w plan.body env0 (so_far plan P k) fs st
  fine_run (f ∷ inner) fs st =
      let c : CopyingAt plan P k (f ∷ inner) fs = st in
      let n : Node = c.env c.var in
      let i : In n P.nodes = part_binds c.var c.env (length c.made) fs c.point c.var in
      resume P w plan.body env0 (so_far plan P k) (CopyPart c.var c.env (length c.made) ∷ fs) c.point
      ∙ ap (λ z. after (so_far plan P k) (seq z (to_come P fs))) (behind_is c.made (copy_left P (f ∷ inner)) (copy_all P n) (goes_on P w n c.made (f ∷ inner) i c.inside))

  next_in : (o : Out) (a : Action) (more : List Action) → run plan.body env0 P ≡ after (so_far plan P k) o → o.acts ≡ a ∷ more → IsNext plan P k a
  next_in o a more e f = let t = take_next k (actions plan P) a more (ap (λ (z : Out). z.acts) e ∙ ap (λ z. so_far plan P k ++ z) f) in record { left = t.0; taken = t.1 }

  -- one action more of a copy
  module _ (x : ℕ) (env : Env) (made : List Action) (fs : List Frame) (st : PointAt plan P k (CopyPart x env (length made) ∷ fs)) (a : Action) (o : Out) (is : copy_all P (env x) ≡ after (made ++ a ∷ []) o) where
    left_is : behind (length made) (copy_all P (env x)) ≡ after (a ∷ []) o
    left_is = behind_is made (after (a ∷ []) o) (copy_all P (env x)) (is ∙ sym (after-after made (a ∷ []) o))

    pub copy_next : IsNext plan P k a
    copy_next = next_in (seq (after (a ∷ []) o) (to_come P fs)) a (seq o (to_come P fs)).acts
        (resume P w plan.body env0 (so_far plan P k) (CopyPart x env (length made) ∷ fs) st ∙ ap (λ z. after (so_far plan P k) (seq z (to_come P fs))) left_is)
        (ap (λ (z : Out). z.acts) (seq-after (a ∷ []) o (to_come P fs)))

    length_is : length (made ++ a ∷ []) ≡ suc (length made)
    length_is = length-append made (a ∷ []) ∙ omega arith

    pub copy_more : PointAt plan P (suc k) (CopyPart x env (length (made ++ a ∷ [])) ∷ fs)
    copy_more =
        let p = copy_on P plan.body env0 (so_far plan P k) x env (length made) fs a o.acts st (ap (λ (z : Out). z.acts) left_is) in
        subst (λ (z : ℕ). PointAt plan P (suc k) (CopyPart x env z ∷ fs)) (sym length_is)
        (subst (λ (z : List Action). IsPoint P plan.body env0 z (CopyPart x env (suc (length made)) ∷ fs)) (sym copy_next.taken) p)

-- the end of a copy
copy_done : (plan : PlanTree) (P : Tree) (k : ℕ) (x : ℕ) (env : Env) (made : List Action) (fs : List Frame) → PointAt plan P k (CopyPart x env (length made) ∷ fs) → copy_all P (env x) ≡ at_once made → PointAt plan P k fs
copy_done plan P k x env made fs st e =
    copy_over P plan.body env0 (so_far plan P k) x env (length made) fs st
    (ap (λ (z : Out). drop (length made) z.acts) e ∙ (ap (drop (length made)) (sym (append-nil made)) ∙ drop-append_seam made [])) (ap (λ (z : Out). z.done) e)

pub fine_resume : FineResume
fine_resume plan P k inner fs st = let e = fine_run plan P k st.grown inner fs st.point in (ap (λ (z : Out). z.acts) e, ap (λ (z : Out). z.done) e)

pub fine_point_stays : FinePointStays
fine_point_stays plan P Q k l m b [] fs st = point_stays plan P Q k l m b fs st
fine_point_stays plan P Q k l m b (f ∷ inner) fs st =
    let c : CopyingAt plan P k (f ∷ inner) fs = st in
    let h = fed_all P Q m in
    record {
      var = c.var;
      env = c.env;
      made = c.made;
      point = point_stays plan P Q k l m b (CopyPart c.var c.env (length c.made) ∷ fs) c.point;
      inside = subst (λ (z : Tree). IsCopyPoint z (c.env c.var) c.made (f ∷ inner)) (sym h.2) (within_all h.0 P (grown_from P l) (c.env c.var) c.made (f ∷ inner) c.inside);
    }

-- from a stack to a point of both kinds

abbrev AnyFine : PlanTree → Tree → ℕ → Type 0
AnyFine plan P k = (inner : List CopyFrame) × (d : BodyTree) × (env : Env) × (below : List Frame) × FinePoint plan P k inner (Rest d env ∷ below)

fine_at : (plan : PlanTree) (P : Tree) (k : ℕ) (x : ℕ) (d : BodyTree) (env : Env) (made : List Action) (below : List Frame) → PointAt plan P k (CopyPart x env (length made) ∷ Rest d env ∷ below) → (inner : List CopyFrame) → IsCopyPoint P (env x) made inner → AnyFine plan P k
fine_at plan P k x d env made below st [] h = absurd (no_frames P (env x) made [] h refl)
  where
    no_frames : (P : Tree) (n : Node) (before : List Action) (fs : List CopyFrame) → IsCopyPoint P n before fs → fs ≡ [] → ⊥
    no_frames P n before fs (InNode pre post c has e dn) f = cc
fine_at plan P k x d env made below st (f ∷ inner) h = (f ∷ inner, d, env, below, record { var = x; env = env; made = made; point = st; inside = h })

fine_cut : (plan : PlanTree) (P : Tree) (k : ℕ) → Leads opening P → (x : ℕ) (d : BodyTree) (env : Env) (made : ℕ) (below : List Frame) → PointAt plan P k (CopyPart x env made ∷ Rest d env ∷ below) → AnyFine plan P k
fine_cut plan P k l x d env made below st =
    let r = copying P plan.body env0 (so_far plan P k) (CopyPart x env made ∷ Rest d env ∷ below) st x env made (Rest d env ∷ below) refl in
    let st' : PointAt plan P k (CopyPart x env (length r.acts) ∷ Rest d env ∷ below) = subst (λ (z : ℕ). PointAt plan P k (CopyPart x env z ∷ Rest d env ∷ below)) r.made st in
    elim (copy_is_cut P (grown_from P l) (env x) (part_binds plan P k l x env made (Rest d env ∷ below) st x) r.acts r.more r.cut) [
      | AtStart e ↦ (
        [],
        Then (Copy x) r.rest,
        env,
        r.far,
        subst (λ (z : List Action). IsPoint P plan.body env0 z (Rest (Then (Copy x) r.rest) env ∷ r.far)) (ap (λ z. r.pre ++ z) (sym e) ∙ sym r.before_is)
            (r.plug [] (Rest (Then (Copy x) r.rest) env ∷ []) Begins),
      )
      | AtEnd e ↦ ([], d, env, below, copy_done plan P k x env r.acts (Rest d env ∷ below) st' e)
      | Amid inner h ↦ fine_at plan P k x d env r.acts below st' inner h
    ]

fine_from : (plan : PlanTree) (P : Tree) (k : ℕ) → Leads opening P → (fs : List Frame) → IsStack env0 fs → PointAt plan P k fs → AnyFine plan P k
fine_from plan P k l fs (Bottom d) st = ([], d, env0, [], st)
fine_from plan P k l fs (InBranch a d env gs h) st = ([], a, env, Rest d env ∷ gs, st)
fine_from plan P k l fs (InRound a e d env x y s n gs h) st = ([], a, bind_var env x n, LoopRound x y s e env n ∷ Rest d env ∷ gs, st)
fine_from plan P k l fs (InNodeCopy x d env made gs h) st = fine_cut plan P k l x d env made gs st

pub fine_points : FinePoints
fine_points plan P l k = let p = point_law plan P k in fine_from plan P k l p.0 (points_are_stacks plan P k p.0 p.1) p.1

-- a copy begins

module _ (plan : PlanTree) (P : Tree) (k : ℕ) (x : ℕ) (d : BodyTree) (env : Env) (fs : List Frame) (st : AtPoint plan P k (Rest (Then (Copy x) d) env ∷ fs)) where
  v : Grown P
  v = grown_from P st.grown

  node_in : In (env x) P.nodes
  node_in = rest_binds plan P k st.grown (Then (Copy x) d) env fs st.point x

  abbrev inner_copies : Out
  inner_copies = loop (copy_all P) (children P (env x)) (is_closed P (env x))

  begin_text : (b : List ℕ) → kind_of (env x) ≡ Text b → IsNext plan P k (Wrote (escaped b)) × PointAt plan P (suc k) (Rest d env ∷ fs)
  begin_text b e = one_action plan P k (Copy x) d env fs (Wrote (escaped b)) (copy_is P v (env x) node_in ∙ ap (λ z. copy_with z inner_copies) e) st

  within_first : has_inside (kind_of (env x)) ≡ true → (made : List Action) → begun (kind_of (env x)) ≡ made → IsCopyPoint P (env x) made (Inside (env x) None ∷ [])
  within_first h made e = subst (λ (z : List Action). IsCopyPoint P (env x) z (Inside (env x) None ∷ [])) (append-nil (begun (kind_of (env x))) ∙ e) (InNode [] (children P (env x)) Itself h refl refl)

  begin_element : (name : List ℕ) → kind_of (env x) ≡ Element name → IsNext plan P k (Wrote (start_tag name)) × FinePoint plan P (suc k) (Inside (env x) None ∷ []) (Rest d env ∷ fs)
  begin_element name e =
      let a : Action = Wrote (start_tag name) in
      let inside : IsCopyPoint P (env x) (a ∷ []) (Inside (env x) None ∷ []) = within_first (ap has_inside e) (a ∷ []) (ap begun e) in
      let o : Out = copy_left P (Inside (env x) None ∷ []) in
      let is : copy_all P (env x) ≡ after (a ∷ []) o = goes_on P v (env x) (a ∷ []) (Inside (env x) None ∷ []) node_in inside in
      let st0 : PointAt plan P k (CopyPart x env 0 ∷ Rest d env ∷ fs) = subst (λ (z : List Action). IsPoint P plan.body env0 z (CopyPart x env 0 ∷ Rest d env ∷ fs)) (append-nil (so_far plan P k))
      (enter_copy P v plan.body env0 (so_far plan P k) x d env [] (copy_all P (env x)).acts fs st.point refl) in (
        copy_next plan P k st.grown x env [] (Rest d env ∷ fs) st0 a o is,
        record { var = x; env = env; made = a ∷ []; point = copy_more plan P k st.grown x env [] (Rest d env ∷ fs) st0 a o is; inside = inside },
      )

  begin_document : kind_of (env x) ≡ Document → FinePoint plan P k (Inside (env x) None ∷ []) (Rest d env ∷ fs)
  begin_document e = record {
    var = x;
    env = env;
    made = [];
    point = subst (λ (z : List Action). IsPoint P plan.body env0 z (CopyPart x env 0 ∷ Rest d env ∷ fs)) (append-nil (so_far plan P k))
        (enter_copy P v plan.body env0 (so_far plan P k) x d env [] (copy_all P (env x)).acts fs st.point refl);
    inside = within_first (ap has_inside e) [] (ap begun e);
  }

pub copy_begins : CopyBegins
copy_begins plan P k x d env fs st = (begin_text plan P k x d env fs st, begin_element plan P k x d env fs st, begin_document plan P k x d env fs st)

-- it goes on

module _ (plan : PlanTree) (P : Tree) (k : ℕ) (l : Leads opening P) (inner : List CopyFrame) (fs : List Frame) (c : CopyingAt plan P k inner fs) where
  abbrev copied : Node
  copied = c.env c.var

  copied_in : In copied P.nodes
  copied_in = part_binds plan P k l c.var c.env (length c.made) fs c.point c.var

  -- with these frames behind the next action
  advance : (a : Action) (f : CopyFrame) (gs : List CopyFrame) → IsCopyPoint P copied (c.made ++ a ∷ []) (f ∷ gs) → IsNext plan P k a × FinePoint plan P (suc k) (f ∷ gs) fs
  advance a f gs h =
      let is : copy_all P copied ≡ after (c.made ++ a ∷ []) (copy_left P (f ∷ gs)) = goes_on P (grown_from P l) copied (c.made ++ a ∷ []) (f ∷ gs) copied_in h in (
        copy_next plan P k l c.var c.env c.made fs c.point a (copy_left P (f ∷ gs)) is,
        record { var = c.var; env = c.env; made = c.made ++ a ∷ []; point = copy_more plan P k l c.var c.env c.made fs c.point a (copy_left P (f ∷ gs)) is; inside = h },
      )

  -- with the copy over behind the next action
  ends_with : (a : Action) → copy_all P copied ≡ at_once (c.made ++ a ∷ []) → IsNext plan P k a × PointAt plan P (suc k) fs
  ends_with a e =
      let is : copy_all P copied ≡ after (c.made ++ a ∷ []) (idle true) = e ∙ ap at_once (sym (append-nil (c.made ++ a ∷ []))) in (
        copy_next plan P k l c.var c.env c.made fs c.point a (idle true) is,
        copy_done plan P (suc k) c.var c.env (c.made ++ a ∷ []) fs (copy_more plan P k l c.var c.env c.made fs c.point a (idle true) is) e,
      )

  up_with : (a : Action) (below : List CopyFrame) → Up P copied (c.made ++ a ∷ []) below → IsNext plan P k a × FinePoint plan P (suc k) below fs
  up_with a [] h = ends_with a h
  up_with a (f ∷ gs) h = advance a f gs h

  up_without : (below : List CopyFrame) → Up P copied c.made below → FinePoint plan P k below fs
  up_without [] h = copy_done plan P k c.var c.env c.made fs c.point h
  up_without (f ∷ gs) h = record { var = c.var; env = c.env; made = c.made; point = c.point; inside = h }

module _ (plan : PlanTree) (P : Tree) (k : ℕ) (m : Node) (present : Option Node) (inner : List CopyFrame) (fs : List Frame) (st : AtFinePoint plan P k (Inside m present ∷ inner) fs) where
  abbrev at_copy : CopyingAt plan P k (Inside m present ∷ inner) fs
  at_copy = st.point

  u : Grown P
  u = grown_from P st.grown

  abbrev whole : Node
  whole = at_copy.env at_copy.var

  whole_in : In whole P.nodes
  whole_in = copied_in plan P k st.grown (Inside m present ∷ inner) fs at_copy

  seen : Top P whole at_copy.made m present inner
  seen = top P whole at_copy.made m present inner at_copy.inside

  post_is : (ns : List Node) → next_children P m present ≡ ns → seen.post ≡ ns
  post_is ns e = sym (ap (next_children P m) seen.present_is ∙ next_is P u m seen.pre seen.post seen.children_are) ∙ e

  node_at : In m P.nodes
  node_at = (comes P u whole m seen.start inner whole_in seen.comes).0

  module _ (c : Node) (post : List Node) (e : next_children P m present ≡ c ∷ post) where
    children_are : children P m ≡ seen.pre ++ c ∷ post
    children_are = seen.children_are ∙ ap (λ z. seen.pre ++ z) (post_is (c ∷ post) e)

    child_is : In c P.nodes
    child_is = (child_in P u m c (mid_in P u m seen.pre c post children_are)).0

    step_text : (b : List ℕ) → kind_of c ≡ Text b → IsNext plan P k (Wrote (escaped b)) × FinePoint plan P (suc k) (Inside m (Some c) ∷ inner) fs
    step_text b t =
        let a : Action = Wrote (escaped b) in
        let is : copy_all P c ≡ at_once (a ∷ []) = copy_is P u c child_is ∙ ap (λ z. copy_with z (loop (copy_all P) (children P c) (is_closed P c))) t in
        advance plan P k st.grown (Inside m present ∷ inner) fs at_copy a (Inside m (Some c)) inner
        (subst (λ (z : List Action). IsCopyPoint P whole (z ++ a ∷ []) (Inside m (Some c) ∷ inner)) (sym seen.before_is)
        (step_over P whole m seen.start inner seen.pre c post (a ∷ []) seen.comes seen.has children_are seen.done is))

    step_element : (name : List ℕ) → kind_of c ≡ Element name → IsNext plan P k (Wrote (start_tag name)) × FinePoint plan P (suc k) (Inside c None ∷ Inside m (Some c) ∷ inner) fs
    step_element name t =
        let a : Action = Wrote (start_tag name) in
        let h : IsCopyPoint P whole ((seen.start ++ (begun (kind_of m) ++ (copies P seen.pre).acts)) ++ (begun (kind_of c) ++ [])) (Inside c None ∷ Inside m (Some c) ∷ inner) =
        InNode [] (children P c) (Below seen.pre c post seen.comes seen.has children_are seen.done) (ap has_inside t) refl refl in
        advance plan P k st.grown (Inside m present ∷ inner) fs at_copy a (Inside c None) (Inside m (Some c) ∷ inner)
        (subst (λ (z : List Action). IsCopyPoint P whole (z ++ a ∷ []) (Inside c None ∷ Inside m (Some c) ∷ inner)) (sym seen.before_is)
        (subst (λ (z : List Action). IsCopyPoint P whole ((seen.start ++ (begun (kind_of m) ++ (copies P seen.pre).acts)) ++ z) (Inside c None ∷ Inside m (Some c) ∷ inner)) (append-nil (begun (kind_of c)) ∙ ap begun t) h))

  module _ (e : next_children P m present ≡ []) where
    all_copied : children P m ≡ seen.pre
    all_copied = seen.children_are ∙ (ap (λ z. seen.pre ++ z) (post_is [] e) ∙ append-nil seen.pre)

    above_it : is_closed P m ≡ true → Up P whole (at_copy.made ++ ended (kind_of m)) inner
    above_it c =
        let is : copy_all P m ≡ at_once ((begun (kind_of m) ++ (copies P seen.pre).acts) ++ ended (kind_of m)) = closes P u m seen.pre node_at seen.has all_copied seen.done c in
        subst (λ (z : List Action). Up P whole z inner) (sym (append_assoc seen.start (begun (kind_of m) ++ (copies P seen.pre).acts) (ended (kind_of m))) ∙ ap (λ z. z ++ ended (kind_of m)) (sym seen.before_is))
        (up P whole m seen.start inner ((begun (kind_of m) ++ (copies P seen.pre).acts) ++ ended (kind_of m)) seen.comes is)

    end_element : is_closed P m ≡ true → (name : List ℕ) → kind_of m ≡ Element name → IsNext plan P k (Wrote (end_tag name)) × FinePoint plan P (suc k) inner fs
    end_element c name t =
        up_with plan P k st.grown (Inside m present ∷ inner) fs at_copy (Wrote (end_tag name)) inner
        (subst (λ (z : List Action). Up P whole (at_copy.made ++ z) inner) (ap ended t) (above_it c))

    end_document : is_closed P m ≡ true → kind_of m ≡ Document → FinePoint plan P k inner fs
    end_document c t =
        up_without plan P k st.grown (Inside m present ∷ inner) fs at_copy inner
        (subst (λ (z : List Action). Up P whole z inner) (ap (λ z. at_copy.made ++ z) (ap ended t) ∙ append-nil at_copy.made) (above_it c))

    end_waits : is_closed P m ≡ false → NoneLeft plan P k false
    end_waits c =
        let o : seq (copy_left P (Inside m present ∷ inner)) (to_come P fs) ≡ idle false =
        ap (λ z. seq (seq (seq (loop (copy_all P) z (is_closed P m)) (at_once (ended (kind_of m)))) (copy_left P inner)) (to_come P fs)) e
        ∙ ap (λ z. seq (seq (seq (idle z) (at_once (ended (kind_of m)))) (copy_left P inner)) (to_come P fs)) c in
        let r = fine_run plan P k st.grown (Inside m present ∷ inner) fs st.point ∙ ap (after (so_far plan P k)) o in
        no_more plan P k false (sym (ap (λ (z : Out). z.acts) r ∙ append-nil (so_far plan P k))) (ap (λ (z : Out). z.done) r)

pub copy_steps : CopySteps
copy_steps plan P k m present inner fs c post st e = (step_text plan P k m present inner fs st c post e, step_element plan P k m present inner fs st c post e)

pub copy_ends : CopyEnds
copy_ends plan P k m present inner fs st e c = (end_element plan P k m present inner fs st e c, end_document plan P k m present inner fs st e c)

pub copy_waits : CopyWaits
copy_waits plan P k m present inner fs st e c = end_waits plan P k m present inner fs st e c

-- the nodes of the frames lie in the subtree

module _ (P : Tree) (w : Grown P) (n : Node) (i : In n P.nodes) where
  abbrev Lies : Node → Type 0
  Lies m = In m P.nodes × (within (serial_of n) m ≡ true)

  comes_lies : (m : Node) (before : List Action) (fs : List CopyFrame) → ComesTo P n m before fs → Lies m
  comes_lies m before fs Itself = (i, within_self (serial_of n) n (eq-eqb _ _ refl))
  comes_lies m before fs (Below {m = o} {before = b} {below = below} pre c post h has e dn) =
      let ih = comes_lies o b below h in
      let q = child_in P w o c (mid_in P w o pre c post e) in
      (q.0, within_trans P w (serial_of n) o c ih.0 q.0 ih.1 q.1)

  comes_all : (m : Node) (before : List Action) (fs : List CopyFrame) → ComesTo P n m before fs → (o : Node) (present : Option Node) → In (Inside o present) fs → Lies o
  comes_all m before fs Itself o present j = absurd j
  comes_all m before fs (Below {m = q} {before = b} {below = below} pre c post h has e dn) o present (inl f) = let g : q ≡ o = cc in subst (λ (z : Node). Lies z) g (comes_lies q b below h)
  comes_all m before fs (Below {m = q} {before = b} {below = below} pre c post h has e dn) o present (inr j) = comes_all q b below h o present j

  within_all_lie : (before : List Action) (fs : List CopyFrame) → IsCopyPoint P n before fs → (o : Node) (present : Option Node) → In (Inside o present) fs → Lies o
  within_all_lie before fs (InNode {m = q} {before = b} {below = below} pre post h has e dn) o present (inl f) = let g : q ≡ o = cc in subst (λ (z : Node). Lies z) g (comes_lies q b below h)
  within_all_lie before fs (InNode {m = q} {before = b} {below = below} pre post h has e dn) o present (inr j) = comes_all q b below h o present j

held_copy : (core : BodyTree) → Good core → (plan : PlanTree) → Placed core plan → (P : Tree) (k : ℕ) → CoreState plan P k → (inner : List CopyFrame) (fs : List Frame) → CopyingAt plan P k inner fs → (m : Node) (present : Option Node) → In (Inside m present) inner
    → In m (held plan P (so_far plan P k)) × (children (held_tree plan P (so_far plan P k)) m ≡ children P m)
held_copy core good plan pl P k cs inner fs c m present j =
    let l : Leads opening P = (reached_leads plan opening 0 P k cs).0 in
    let w : Grown P = grown_from P l in
    let n : Node = c.env c.var in
    let i : In n P.nodes = copied_in plan P k l inner fs c in
    let q = within_all_lie P w n i c.made inner c.inside m present j in
    let keeps : (a : Node) → In a P.nodes → within (serial_of n) a ≡ true → In a (held plan P (so_far plan P k)) =
    λ a b h. need_law core good plan pl P k cs (CopyPart c.var c.env (length c.made) ∷ fs) c.point a b (inl h) in (
      keeps m q.0 q.1,
      matches_kept P (is_held plan P (so_far plan P k)) (serial_of m) (child_step ∷ []) (λ a b.
          let r = child_in P w m a b in
          (In-filter (is_held plan P (so_far plan P k)) a P.nodes (keeps a r.0 (within_trans P w (serial_of n) m a q.0 r.0 q.1 r.1))).1),
    )

pub inside_held : InsideHeld
inside_held core good plan pl P k cs [] m present below fs st = held_copy core good plan pl P k cs (Inside m present ∷ below) fs st m present (inl refl)
inside_held core good plan pl P k cs (f ∷ up) m present below fs st =
    held_copy core good plan pl P k cs (f ∷ (up ++ Inside m present ∷ below)) fs st m present (inr (In-right (Inside m present) up (Inside m present ∷ below) (inl refl)))

-- what the frames stand on

module _ (P : Tree) (n : Node) where
  abbrev Lower : Node → List CopyFrame → Type 0
  Lower m below = (below ≡ []) ⊎ ((o : Node) × (rest : List CopyFrame) × (below ≡ Inside o (Some m) ∷ rest))

  abbrev Stand : Node → Option Node → List CopyFrame → Type 0
  Stand m present below = (has_inside (kind_of m) ≡ true) × ((c : Node) → present ≡ Some c → In c (children P m)) × Lower m below

  last_in : (ns : List Node) (c : Node) → last_of ns ≡ Some c → In c ns
  last_in [] c e = absurd (cc)
  last_in (m ∷ []) c e = inl (cc)
  last_in (m ∷ o ∷ ns) c e = inr (last_in (o ∷ ns) c e)

  in_middle : (ns pre : List Node) (c d : Node) (post : List Node) → ns ≡ pre ++ c ∷ post → Some c ≡ Some d → In d ns
  in_middle ns pre c d post e f = let g : c ≡ d = cc in subst (λ (z : List Node). In d z) (sym e) (In-right d pre (c ∷ post) (inl g))

  comes_lower : (m : Node) (before : List Action) (fs : List CopyFrame) → ComesTo P n m before fs → Lower m fs
  comes_lower m before fs Itself = inl refl
  comes_lower m before fs (Below {m = o} {below = below} pre c post h has e dn) = inr (o, below, refl)

  inside_same : (o m : Node) (a b : Option Node) (fs gs : List CopyFrame) → Inside o a ∷ fs ≡ Inside m b ∷ gs → (o ≡ m) × (a ≡ b) × (fs ≡ gs)
  inside_same o m a b fs gs e = (cc, cc, cc)

  stand_to : (o m : Node) (a b : Option Node) (fs gs : List CopyFrame) → Inside o a ∷ fs ≡ Inside m b ∷ gs → Stand o a fs → Stand m b gs
  stand_to o m a b fs gs e h =
      let q = inside_same o m a b fs gs e in
      subst (λ (z : Node). Stand z b gs) q.0 (subst (λ (z : Option Node). Stand o z gs) q.1 (subst (λ (z : List CopyFrame). Stand o a z) q.2 h))

  comes_stand : (q : Node) (before : List Action) (fs : List CopyFrame) → ComesTo P n q before fs → (up : List CopyFrame) (m : Node) (present : Option Node) (below : List CopyFrame) → fs ≡ up ++ Inside m present ∷ below → Stand m present below
  comes_stand q before fs Itself [] m present below e = absurd (cc)
  comes_stand q before fs Itself (f ∷ up) m present below e = absurd (cc)
  comes_stand q before fs (Below {m = o} {before = b} {below = fs'} pre c post h has ch dn) [] m present below e =
      stand_to o m (Some c) present fs' below e (has, (λ d f. in_middle (children P o) pre c d post ch f), comes_lower o b fs' h)
  comes_stand q before fs (Below {m = o} {before = b} {below = fs'} pre c post h has ch dn) (f ∷ up) m present below e =
      let tails : fs' ≡ up ++ Inside m present ∷ below = cc in
      comes_stand o b fs' h up m present below tails

  within_stand : (before : List Action) (fs : List CopyFrame) → IsCopyPoint P n before fs → (up : List CopyFrame) (m : Node) (present : Option Node) (below : List CopyFrame) → fs ≡ up ++ Inside m present ∷ below → Stand m present below
  within_stand before fs (InNode {m = o} {before = b} {below = fs'} pre post h has ch dn) [] m present below e =
      stand_to o m (last_of pre) present fs' below e (has, (λ d f. subst (λ (z : List Node). In d z) (sym ch) (In-left d pre post (last_in pre d f))), comes_lower o b fs' h)
  within_stand before fs (InNode {m = o} {before = b} {below = fs'} pre post h has ch dn) (f ∷ up) m present below e =
      let tails : fs' ≡ up ++ Inside m present ∷ below = cc in
      comes_stand o b fs' h up m present below tails

pub copy_frames_stand : CopyFramesStand
copy_frames_stand plan P k [] m present below fs st =
    let c : CopyingAt plan P k (Inside m present ∷ below) fs = st in
    within_stand P (c.env c.var) c.made (Inside m present ∷ below) c.inside [] m present below refl
copy_frames_stand plan P k (f ∷ up) m present below fs st =
    let c : CopyingAt plan P k (f ∷ (up ++ Inside m present ∷ below)) fs = st in
    within_stand P (c.env c.var) c.made (f ∷ (up ++ Inside m present ∷ below)) c.inside (f ∷ up) m present below refl
