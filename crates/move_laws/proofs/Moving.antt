-- How a point goes on.
use Rattle.std.proofs.Common.{◌≡◌, ℕ, zero, suc, ◌<◌, ◌≤◌, Bool, true, false, List, [], ◌∷◌, ◌++◌, length, refl, sym, ◌∙◌, ap, subst, arith}
use Rattle.std.specs.Prelude.{take}
use Rattle.std.proofs.lemmas.List.{append-nil}
use Rattle.gcx_base.specs.declared.steps.Step.{Step}
use Rattle.gcx_model.specs.Tree.{Node, serial_of, Tree, is_closed}
use Rattle.gcx_model.specs.Paths.{matches}
use Rattle.gcx_model.specs.Core.{ItemTree, Write, For, If, SignOff, BodyTree, Nil, Then, PlanTree}
use Rattle.gcx_model.specs.Truth.{Env, bind_var}
use Rattle.gcx_model.specs.Run.{Action, Wrote, Offed, Out, idle, seq, loop, choose, run_item, run, env0}
use Rattle.gcx_model.specs.Points.{actions, so_far, Frame, Rest, LoopRound, CopyPart, later, body_at, to_come, IsPoint, Begins, PastItem, InLoop, InYes, InNo, PointAt}
use Rattle.gcx_model.specs.Points as points
use Rattle.move_laws.specs.Moves.{IsNext, NoneLeft, AtPoint, OpeningPoint, WriteMove, OffMove, BranchMove, FirstRound, NoRound, NextRound, LastRound, EmptyRest, BranchWaits, LoopWaits, RoundWaits, AllEmpty, RunIsDone, IsStack, Bottom, InBranch, InRound, InNodeCopy, PointsAreStacks}
use Rattle.placed_laws.proofs.PointForms.{resume, after, seq-assoc}
use Rattle.placed_laws.proofs.Turns.{next_turn, leave_loop, leave_branch, pass_item, enter_loop, enter_yes, enter_no}
use Rattle.tree_laws.proofs.Fed.{grown_from}

-- the next element of a list behind its first k
pub take_next : {X : Type 0} (k : ℕ) (xs : List X) (a : X) (ys : List X) → xs ≡ take k xs ++ a ∷ ys → (k < length xs) × (take (suc k) xs ≡ take k xs ++ a ∷ [])
take_next zero [] a ys e = absurd (cc)
take_next zero (x ∷ xs) a ys e = (omega arith, let f : x ≡ a = cc in ap (λ z. z ∷ []) f)
take_next (suc k) [] a ys e = absurd (cc)
take_next (suc k) (x ∷ xs) a ys e =
    let f : xs ≡ take k xs ++ a ∷ ys = cc in
    let r = take_next k xs a ys f in
    (let l = r.0 in omega arith, ap (λ z. x ∷ z) r.1)

-- where the first k are all, there are no more
take_all : {X : Type 0} (k : ℕ) (xs : List X) → take k xs ≡ xs → length xs ≤ k
take_all zero [] e = omega arith
take_all zero (x ∷ xs) e = absurd (cc)
take_all (suc k) [] e = omega arith
take_all (suc k) (x ∷ xs) e = let f : take k xs ≡ xs = cc in let l = take_all k xs f in omega arith

module _ (plan : PlanTree) (P : Tree) (k : ℕ) where
  pub no_more : (done : Bool) → so_far plan P k ≡ actions plan P → (run plan.body env0 P).done ≡ done → NoneLeft plan P k done
  no_more done e d = record { over = take_all k (actions plan P) e; all = e; is_done = d }

  -- what is still to come begins with the next action
  pub next : (fs : List Frame) → AtPoint plan P k fs → (a : Action) (more : List Action) → (to_come P fs).acts ≡ a ∷ more → IsNext plan P k a
  next fs st a more e =
      let r = resume P (grown_from P st.grown) plan.body env0 (so_far plan P k) fs st.point in
      let t = take_next k (actions plan P) a more (ap (λ (z : Out). z.acts) r ∙ ap (λ z. so_far plan P k ++ z) e) in
      record { left = t.0; taken = t.1 }

  -- where that action is taken
  pub moved : (fs : List Frame) (a : Action) → IsNext plan P k a → IsPoint P plan.body env0 (so_far plan P k ++ a ∷ []) fs → PointAt plan P (suc k) fs
  moved fs a n st = subst (λ (z : List Action). IsPoint P plan.body env0 z fs) (sym n.taken) st

  -- nothing is still to come
  pub none_left : (fs : List Frame) → AtPoint plan P k fs → (done : Bool) → to_come P fs ≡ idle done → NoneLeft plan P k done
  none_left fs st done e =
      let r = resume P (grown_from P st.grown) plan.body env0 (so_far plan P k) fs st.point ∙ ap (after (so_far plan P k)) e in
      no_more done (sym (ap (λ (z : Out). z.acts) r ∙ append-nil (so_far plan P k))) (ap (λ (z : Out). z.done) r)

  -- an item that is one action
  pub one_action : (i : ItemTree) (d : BodyTree) (env : Env) (fs : List Frame) (a : Action) → run_item i env P ≡ record { acts = a ∷ []; done = true } → AtPoint plan P k (Rest (Then i d) env ∷ fs)
      → IsNext plan P k a × PointAt plan P (suc k) (Rest d env ∷ fs)
  one_action i d env fs a e st =
      let t : (to_come P (Rest (Then i d) env ∷ fs)).acts ≡ a ∷ (seq (run d env P) (to_come P fs)).acts =
      ap (λ (z : Out). z.acts) (ap (λ (z : Out). seq (seq z (run d env P)) (to_come P fs)) e ∙ seq-assoc (record { acts = a ∷ []; done = true }) (run d env P) (to_come P fs)) in
      let n = next (Rest (Then i d) env ∷ fs) st a (seq (run d env P) (to_come P fs)).acts t in
      let p = pass_item P (grown_from P st.grown) plan.body env0 (so_far plan P k) i d env fs st.point (ap (λ (z : Out). z.done) e) in
      (n, moved (Rest d env ∷ fs) a n (subst (λ (z : Out). IsPoint P plan.body env0 (so_far plan P k ++ z.acts) (Rest d env ∷ fs)) e p))

  -- an item that is over with no action
  pub no_action : (i : ItemTree) (d : BodyTree) (env : Env) (fs : List Frame) → run_item i env P ≡ idle true → AtPoint plan P k (Rest (Then i d) env ∷ fs) → PointAt plan P k (Rest d env ∷ fs)
  no_action i d env fs e st =
      let p = pass_item P (grown_from P st.grown) plan.body env0 (so_far plan P k) i d env fs st.point (ap (λ (z : Out). z.done) e) in
      subst (λ (z : List Action). IsPoint P plan.body env0 z (Rest d env ∷ fs)) (append-nil (so_far plan P k)) (subst (λ (z : Out). IsPoint P plan.body env0 (so_far plan P k ++ z.acts) (Rest d env ∷ fs)) e p)

  -- an item that waits
  pub item_waits : (i : ItemTree) (d : BodyTree) (env : Env) (fs : List Frame) → run_item i env P ≡ idle false → AtPoint plan P k (Rest (Then i d) env ∷ fs) → NoneLeft plan P k false
  item_waits i d env fs e st = none_left (Rest (Then i d) env ∷ fs) st false (ap (λ (z : Out). seq (seq z (run d env P)) (to_come P fs)) e)

  -- a loop with no match
  loop_none : (x y : ℕ) (s : Step) (e : BodyTree) (env : Env) (over : Bool) → matches P (serial_of (env y)) (s ∷ []) ≡ [] → is_closed P (env y) ≡ over → run_item (For x y s e) env P ≡ idle over
  loop_none x y s e env over m c = ap (λ z. loop (body_at e x env P) z (is_closed P (env y))) m ∙ ap idle c

  all_empty : (fs : List Frame) → AllEmpty fs → to_come P fs ≡ idle true
  all_empty [] h = refl
  all_empty (Rest Nil env ∷ fs) h = ap (seq (idle true)) (all_empty fs h)
  all_empty (Rest (Then i d) env ∷ fs) h = absurd h
  all_empty (LoopRound x y s e env n ∷ fs) h = absurd h
  all_empty (CopyPart x env made ∷ fs) h = absurd h

pub opening_point : OpeningPoint
opening_point plan P = Begins

pub write_move : WriteMove
write_move plan P k b d env fs st = one_action plan P k (Write b) d env fs (Wrote b) refl st

pub off_move : OffMove
off_move plan P k o d env fs st = one_action plan P k (SignOff o) d env fs (Offed o (serial_of (env o.base))) refl st

pub branch_move : BranchMove
branch_move plan P k c a b d env fs st = (
  (λ t. enter_yes P (grown_from P st.grown) plan.body env0 (so_far plan P k) c a b d env fs st.point t),
  (λ t. enter_no P (grown_from P st.grown) plan.body env0 (so_far plan P k) c a b d env fs st.point t),
)

pub first_round : FirstRound
first_round plan P k x y s e d env fs n post st m = enter_loop P (grown_from P st.grown) plan.body env0 (so_far plan P k) x y s e d env n post fs st.point m

pub no_round : NoRound
no_round plan P k x y s e d env fs st m c = no_action plan P k (For x y s e) d env fs (loop_none plan P k x y s e env true m c) st

pub next_round : NextRound
next_round plan P k v x y s e env n fs m post st l = next_turn P (grown_from P st.grown) plan.body env0 (so_far plan P k) v x y s e env n m post fs st.point l

pub last_round : LastRound
last_round plan P k v x y s e env n fs st l c = leave_loop P (grown_from P st.grown) plan.body env0 (so_far plan P k) v x y s e env n fs st.point l c

pub empty_rest : EmptyRest
empty_rest plan P k v d env fs st = leave_branch P (grown_from P st.grown) plan.body env0 (so_far plan P k) v d env fs st.point

pub branch_waits : BranchWaits
branch_waits plan P k c a b d env fs st t = item_waits plan P k (If c a b) d env fs (ap (λ z. choose z (run a env P) (run b env P)) t) st

pub loop_waits : LoopWaits
loop_waits plan P k x y s e d env fs st m c = item_waits plan P k (For x y s e) d env fs (loop_none plan P k x y s e env false m c) st

pub round_waits : RoundWaits
round_waits plan P k v x y s e env n fs st l c =
    none_left plan P k (Rest Nil v ∷ LoopRound x y s e env n ∷ fs) st false
    (ap (λ z. seq (loop (body_at e x env P) z (is_closed P (env y))) (to_come P fs)) l ∙ ap (λ z. seq (idle z) (to_come P fs)) c)

pub run_is_done : RunIsDone
run_is_done plan P k fs st h = none_left plan P k fs st true (all_empty plan P k fs h)

-- the frames of a point

on_rest : (d : BodyTree) (env : Env) (fs : List Frame) → IsStack env fs → IsStack env (fs ++ Rest d env ∷ [])
on_rest d env fs (Bottom a) = InBranch a d env [] (Bottom d)
on_rest d env fs (InBranch a e v gs h) = InBranch a e v (gs ++ Rest d env ∷ []) (on_rest d env (Rest e v ∷ gs) h)
on_rest d env fs (InRound a b e v x y s n gs h) = InRound a b e v x y s n (gs ++ Rest d env ∷ []) (on_rest d env (Rest e v ∷ gs) h)
on_rest d env fs (InNodeCopy x e v made gs h) = InNodeCopy x e v made (gs ++ Rest d env ∷ []) (on_rest d env (Rest e v ∷ gs) h)

on_round : (x y : ℕ) (s : Step) (b d : BodyTree) (env : Env) (n : Node) (fs : List Frame) → IsStack (bind_var env x n) fs → IsStack env (fs ++ LoopRound x y s b env n ∷ Rest d env ∷ [])
on_round x y s b d env n fs (Bottom a) = InRound a b d env x y s n [] (Bottom d)
on_round x y s b d env n fs (InBranch a e v gs h) = InBranch a e v (gs ++ LoopRound x y s b env n ∷ Rest d env ∷ []) (on_round x y s b d env n (Rest e v ∷ gs) h)
on_round x y s b d env n fs (InRound a c e v z w t m gs h) = InRound a c e v z w t m (gs ++ LoopRound x y s b env n ∷ Rest d env ∷ []) (on_round x y s b d env n (Rest e v ∷ gs) h)
on_round x y s b d env n fs (InNodeCopy z e v made gs h) = InNodeCopy z e v made (gs ++ LoopRound x y s b env n ∷ Rest d env ∷ []) (on_round x y s b d env n (Rest e v ∷ gs) h)

is_stack : (P : Tree) (d : BodyTree) (env : Env) (before : List Action) (fs : List Frame) → IsPoint P d env before fs → IsStack env fs
is_stack P d env before fs Begins = Bottom d
is_stack P d env before fs (PastItem {d = rest} {before = b} dn h) = is_stack P rest env b fs h
is_stack P d env before fs (InLoop {x = x} {y = y} {s = s} {e = e} {d = rest} {before = b} {fs = gs} pre n post m dn h) = on_round x y s e rest env n gs (is_stack P e (bind_var env x n) b gs h)
is_stack P d env before fs (InYes {a = a} {d = rest} {fs = gs} t h) = on_rest rest env gs (is_stack P a env before gs h)
is_stack P d env before fs (InNo {b = b} {d = rest} {fs = gs} t h) = on_rest rest env gs (is_stack P b env before gs h)
is_stack P d env before fs (points.InCopy {x = x} {d = rest} b more e) = InNodeCopy x rest env (length before) [] (Bottom rest)

pub points_are_stacks : PointsAreStacks
points_are_stacks plan P k fs st = is_stack P plan.body env0 (so_far plan P k) fs st
