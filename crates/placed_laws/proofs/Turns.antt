-- Steps of a point that take no action where a body is over: the next turn of a loop, its end, and the end of a branch.
use Rattle.std.proofs.Common.{◌≡◌, ℕ, true, List, [], ◌∷◌, ◌++◌, length, refl, sym, ◌∙◌, ap, subst, append_assoc}
use Rattle.std.proofs.lemmas.List.{append-nil}
use Rattle.gcx_model.specs.Tree.{Node, serial_of, Tree, is_closed}
use Rattle.gcx_base.specs.declared.steps.Step.{Step}
use Rattle.gcx_model.specs.Paths.{hits, matches}
use Rattle.gcx_model.specs.Core.{CondTree, ItemTree, Copy, For, If, BodyTree, Nil, Then}
use Rattle.gcx_model.specs.declared.truth.Truth.TheVariants.{True, False}
use Rattle.gcx_model.specs.Truth.{Env, bind_var, truth}
use Rattle.gcx_model.specs.Run.{Action, Out, copy, idle, loop, seq, choose, run_item, run}
use Rattle.tree_laws.proofs.Matches.{Grown, Rising, Rising-filter}
use Rattle.placed_laws.proofs.PointForms.{Frame, Rest, LoopRound, CopyPart, IsPoint, Begins, PastItem, InLoop, InYes, InNo, InCopy, body_at, later, later_is, resume, after, seq-done, seq-idle, loop-append}
use Rattle.placed_laws.proofs.Steps.{has_top, front, cons_same, compose}

-- the actions of a body that is over
over : (P : Tree) → Grown P → (d : BodyTree) (env : Env) (before : List Action) (v : Env) → IsPoint P d env before (Rest Nil v ∷ []) → ((run d env P).done ≡ true) × ((run d env P).acts ≡ before)
over P w d env before v st =
    let r = resume P w d env before (Rest Nil v ∷ []) st in
    (ap (λ (o : Out). o.done) r, ap (λ (o : Out). o.acts) r ∙ append-nil before)

-- a branch of an If, or a round of a loop, that is over
pub data Inner (P : Tree) : BodyTree → Env → List Action → Frame → List Frame → Type 0 where
  Branch : {i : ItemTree} {rest : BodyTree} {env : Env} {acts : List Action} → (run_item i env P).done ≡ true → (run_item i env P).acts ≡ acts → Inner P (Then i rest) env acts (Rest rest env) []
  Turned : {x y : ℕ} {s : Step} {e rest : BodyTree} {env : Env} {acts : List Action} {n : Node} → (pre post : List Node) → matches P (serial_of (env y)) (s ∷ []) ≡ pre ++ n ∷ post → (loop (body_at e x env P) pre true).done ≡ true → (body_at e x env P n).done ≡ true
      → (loop (body_at e x env P) pre true).acts ++ (body_at e x env P n).acts ≡ acts → Inner P (Then (For x y s e) rest) env acts (LoopRound x y s e env n) (Rest rest env ∷ [])

-- the point seen from there
pub record View (P : Tree) (d : BodyTree) (env : Env) (before : List Action) (g : Frame) (tail : List Frame) : Type 0 where
  pub body : BodyTree
  pub inner_env : Env
  pub acts : List Action
  pub pre : List Action
  pub near : List Frame
  pub far : List Frame
  pub inner : Inner P body inner_env acts g near
  pub before_is : before ≡ pre ++ acts
  pub tail_is : tail ≡ near ++ far
  pub plug : (a : List Action) (top : List Frame) → IsPoint P body inner_env a top → IsPoint P d env (pre ++ a) (top ++ far)

-- the view through what is round it
wider : (P : Tree) (d d' : BodyTree) (env env' : Env) (before : List Action) (g : Frame) (tail gs : List Frame) (first : List Action) → View P d env before g tail
    → ((a : List Action) (top : List Frame) → IsPoint P d env a top → IsPoint P d' env' (first ++ a) (top ++ gs)) → View P d' env' (first ++ before) g (tail ++ gs)
wider P d d' env env' before g tail gs first r h = record {
  body = r.body;
  inner_env = r.inner_env;
  acts = r.acts;
  pre = first ++ r.pre;
  near = r.near;
  far = r.far ++ gs;
  inner = r.inner;
  before_is = ap (λ z. first ++ z) r.before_is ∙ sym (append_assoc first r.pre r.acts);
  tail_is = ap (λ z. z ++ gs) r.tail_is ∙ append_assoc r.near r.far gs;
  plug = λ a top st. subst (λ (z : List Frame). IsPoint P d' env' ((first ++ r.pre) ++ a) z) (append_assoc top r.far gs)
      (subst (λ (z : List Action). IsPoint P d' env' z ((top ++ r.far) ++ gs)) (sym (append_assoc first r.pre a)) (h (r.pre ++ a) (top ++ r.far) (r.plug a top st)));
}

view_here : (P : Tree) (d : BodyTree) (env : Env) (acts : List Action) (g : Frame) (near : List Frame) → Inner P d env acts g near → View P d env acts g near
view_here P d env acts g near i = record {
  body = d;
  inner_env = env;
  acts = acts;
  pre = [];
  near = near;
  far = [];
  inner = i;
  before_is = refl;
  tail_is = sym (append-nil near);
  plug = λ a top st. subst (λ (z : List Frame). IsPoint P d env a z) (sym (append-nil top)) st;
}

pub view : (P : Tree) → Grown P → (d : BodyTree) (env : Env) (before : List Action) (fs : List Frame) → IsPoint P d env before fs → (v : Env) (g : Frame) (tail : List Frame) → fs ≡ Rest Nil v ∷ g ∷ tail → View P d env before g tail
view P w d env before fs Begins v g tail e = absurd (nothing_more (cons_same (Rest d env) (Rest Nil v) [] (g ∷ tail) e).1)
  where
    nothing_more : [] ≡ g ∷ tail → ⊥
    nothing_more e = cc
view P w d env before fs (PastItem {i = i} {d = rest} {before = before'} dn st) v g tail e =
    subst (λ (z : List Frame). View P (Then i rest) env ((run_item i env P).acts ++ before') g z) (append-nil tail)
    (wider P rest (Then i rest) env env before' g tail [] (run_item i env P).acts (view P w rest env before' fs st v g tail e)
    (λ a top h. subst (λ (z : List Frame). IsPoint P (Then i rest) env ((run_item i env P).acts ++ a) z) (sym (append-nil top)) (PastItem dn h)))
view P w d env before fs (InYes {c = c} {a = a} {b = b} {d = rest} {fs = fs'} t st) v g tail e =
    let r = has_top P a env before fs' st in
    let q = front (Rest Nil v) r.0 fs' (Rest rest env ∷ []) (g ∷ tail) r.1 r.2 e in
    go r.1 q.0 q.1 (λ tail' h. view P w a env before fs' st v g tail' h)
  where
    go : (tail' : List Frame) → fs' ≡ Rest Nil v ∷ tail' → g ∷ tail ≡ tail' ++ Rest rest env ∷ [] → ((tail'' : List Frame) → fs' ≡ Rest Nil v ∷ g ∷ tail'' → View P a env before g tail'') → View P (Then (If c a b) rest) env before g tail
    go [] are more ih =
        let q = cons_same g (Rest rest env) tail [] more in
        let o = over P w a env before v (subst (λ (z : List Frame). IsPoint P a env before z) are st) in
        let is : run_item (If c a b) env P ≡ run a env P = ap (λ k. choose k (run a env P) (run b env P)) t in
        subst (λ (z : Frame). View P (Then (If c a b) rest) env before z tail) (sym q.0)
        (subst (λ (z : List Frame). View P (Then (If c a b) rest) env before (Rest rest env) z) (sym q.1)
        (view_here P (Then (If c a b) rest) env before (Rest rest env) [] (Branch (ap (λ (z : Out). z.done) is ∙ o.0) (ap (λ (z : Out). z.acts) is ∙ o.1))))
    go (h ∷ tail') are more ih =
        let q = cons_same g h tail (tail' ++ Rest rest env ∷ []) more in
        subst (λ (z : List Frame). View P (Then (If c a b) rest) env before g z) (sym q.1)
        (wider P a (Then (If c a b) rest) env env before g tail' (Rest rest env ∷ []) [] (ih tail' (are ∙ ap (λ (z : Frame). Rest Nil v ∷ z ∷ tail') (sym q.0)))
        (λ acts top k. InYes t k))
view P w d env before fs (InNo {c = c} {a = a} {b = b} {d = rest} {fs = fs'} t st) v g tail e =
    let r = has_top P b env before fs' st in
    let q = front (Rest Nil v) r.0 fs' (Rest rest env ∷ []) (g ∷ tail) r.1 r.2 e in
    go r.1 q.0 q.1 (λ tail' h. view P w b env before fs' st v g tail' h)
  where
    go : (tail' : List Frame) → fs' ≡ Rest Nil v ∷ tail' → g ∷ tail ≡ tail' ++ Rest rest env ∷ [] → ((tail'' : List Frame) → fs' ≡ Rest Nil v ∷ g ∷ tail'' → View P b env before g tail'') → View P (Then (If c a b) rest) env before g tail
    go [] are more ih =
        let q = cons_same g (Rest rest env) tail [] more in
        let o = over P w b env before v (subst (λ (z : List Frame). IsPoint P b env before z) are st) in
        let is : run_item (If c a b) env P ≡ run b env P = ap (λ k. choose k (run a env P) (run b env P)) t in
        subst (λ (z : Frame). View P (Then (If c a b) rest) env before z tail) (sym q.0)
        (subst (λ (z : List Frame). View P (Then (If c a b) rest) env before (Rest rest env) z) (sym q.1)
        (view_here P (Then (If c a b) rest) env before (Rest rest env) [] (Branch (ap (λ (z : Out). z.done) is ∙ o.0) (ap (λ (z : Out). z.acts) is ∙ o.1))))
    go (h ∷ tail') are more ih =
        let q = cons_same g h tail (tail' ++ Rest rest env ∷ []) more in
        subst (λ (z : List Frame). View P (Then (If c a b) rest) env before g z) (sym q.1)
        (wider P b (Then (If c a b) rest) env env before g tail' (Rest rest env ∷ []) [] (ih tail' (are ∙ ap (λ (z : Frame). Rest Nil v ∷ z ∷ tail') (sym q.0)))
        (λ acts top k. InNo t k))
view P w d env before fs (InLoop {x = x} {y = y} {s = s} {e = b} {d = rest} {before = before'} {fs = fs'} pre n post m dn st) v g tail e =
    let r = has_top P b (bind_var env x n) before' fs' st in
    let q = front (Rest Nil v) r.0 fs' (LoopRound x y s b env n ∷ Rest rest env ∷ []) (g ∷ tail) r.1 r.2 e in
    go r.1 q.0 q.1 (λ tail' h. view P w b (bind_var env x n) before' fs' st v g tail' h)
  where
    f : Node → Out
    f = body_at b x env P

    go : (tail' : List Frame) → fs' ≡ Rest Nil v ∷ tail' → g ∷ tail ≡ tail' ++ LoopRound x y s b env n ∷ Rest rest env ∷ [] → ((tail'' : List Frame) → fs' ≡ Rest Nil v ∷ g ∷ tail'' → View P b (bind_var env x n) before' g tail'') → View P (Then (For x y s b) rest) env ((loop (body_at b x env P) pre true).acts ++ before') g tail
    go [] are more ih =
        let q = cons_same g (LoopRound x y s b env n) tail (Rest rest env ∷ []) more in
        let o = over P w b (bind_var env x n) before' v (subst (λ (z : List Frame). IsPoint P b (bind_var env x n) before' z) are st) in
        subst (λ (z : Frame). View P (Then (For x y s b) rest) env ((loop (body_at b x env P) pre true).acts ++ before') z tail) (sym q.0)
        (subst (λ (z : List Frame). View P (Then (For x y s b) rest) env ((loop (body_at b x env P) pre true).acts ++ before') (LoopRound x y s b env n) z) (sym q.1)
        (view_here P (Then (For x y s b) rest) env ((loop (body_at b x env P) pre true).acts ++ before') (LoopRound x y s b env n) (Rest rest env ∷ [])
        (Turned pre post m dn o.0 (ap (λ z. (loop (body_at b x env P) pre true).acts ++ z) o.1))))
    go (h ∷ tail') are more ih =
        let q = cons_same g h tail (tail' ++ LoopRound x y s b env n ∷ Rest rest env ∷ []) more in
        subst (λ (z : List Frame). View P (Then (For x y s b) rest) env ((loop (body_at b x env P) pre true).acts ++ before') g z) (sym q.1)
        (wider P b (Then (For x y s b) rest) (bind_var env x n) env before' g tail' (LoopRound x y s b env n ∷ Rest rest env ∷ []) (loop (body_at b x env P) pre true).acts (ih tail' (are ∙ ap (λ (z : Frame). Rest Nil v ∷ z ∷ tail') (sym q.0)))
        (λ acts top k. InLoop pre n post m dn k))
view P w d env before fs (InCopy {x = x} {d = rest} before' rest' f) v g tail e =
    absurd (not_rest x env (length before) v (cons_same (CopyPart x env (length before)) (Rest Nil v) (Rest rest env ∷ []) (g ∷ tail) e).0)
  where
    not_rest : (x : ℕ) (env : Env) (k : ℕ) (v : Env) → CopyPart x env k ≡ Rest Nil v → ⊥
    not_rest x env k v e = cc

-- the matches behind the present one
abbrev still : Tree → Frame → List Node
still P (Rest d env) = []
still P (LoopRound x y s e env n) = later n (matches P (serial_of (env y)) (s ∷ []))
still P (CopyPart x env k) = []

abbrev entered : Frame → Node → List Frame
entered (Rest d env) m = []
entered (LoopRound x y s e env n) m = Rest e (bind_var env x m) ∷ LoopRound x y s e env m ∷ []
entered (CopyPart x env k) m = []

-- the round is the last one
abbrev Ended : Tree → Frame → Type 0
Ended P (Rest d env) = ⊥
Ended P (LoopRound x y s e env n) = (later n (matches P (serial_of (env y)) (s ∷ [])) ≡ []) × (is_closed P (env y) ≡ true)
Ended P (CopyPart x env k) = ⊥

abbrev Is_rest : Frame → Type 0
Is_rest (Rest d env) = Unit {0}
Is_rest (LoopRound x y s e env n) = ⊥
Is_rest (CopyPart x env k) = ⊥

acts_to : (P : Tree) (d : BodyTree) (env : Env) (a b : List Action) (fs : List Frame) → a ≡ b → IsPoint P d env a fs → IsPoint P d env b fs
acts_to P d env a b fs e h = subst (λ (z : List Action). IsPoint P d env z fs) e h

-- the rounds up to one, that one too
pub loop_to : (f : Node → Out) (pre : List Node) (n : Node) → (loop f pre true).done ≡ true → (f n).done ≡ true → ((loop f (pre ++ n ∷ []) true).done ≡ true) × ((loop f (pre ++ n ∷ []) true).acts ≡ (loop f pre true).acts ++ (f n).acts)
loop_to f pre n d e =
    let r : loop f (pre ++ n ∷ []) true ≡ after (loop f pre true).acts (f n) = loop-append f pre (n ∷ []) true ∙ (seq-done (loop f pre true) (seq (f n) (idle true)) d ∙ ap (after (loop f pre true).acts) (seq-idle (f n))) in
    (ap (λ (z : Out). z.done) r ∙ e, ap (λ (z : Out). z.acts) r)

module _ (P : Tree) (w : Grown P) where
  post_is : (y : Node) (s : Step) (pre : List Node) (n : Node) (post : List Node) → matches P (serial_of y) (s ∷ []) ≡ pre ++ n ∷ post → later n (matches P (serial_of y) (s ∷ [])) ≡ post
  post_is y s pre n post m = ap (later n) m ∙ later_is pre n post (subst (λ (z : List Node). Rising z) m (Rising-filter 0 (hits (serial_of y) (s ∷ [])) P.nodes w.numbered))

  turned : (d : BodyTree) (env : Env) (acts : List Action) (g : Frame) (near : List Frame) → Inner P d env acts g near → (m : Node) (more : List Node) → still P g ≡ m ∷ more → IsPoint P d env acts (entered g m ++ near)
  turned d env acts g near (Branch dn a) m more e = absurd (cc)
  turned d env acts g near (Turned {x = x} {y = y} {s = s} {e = b} {rest = rest} {n = n} pre post mt dn dn' a) m more e =
      let f : Node → Out = body_at b x env P in
      let is : post ≡ m ∷ more = sym (post_is (env y) s pre n post mt) ∙ e in
      let l = loop_to f pre n dn dn' in
      acts_to P d env ((loop f (pre ++ n ∷ []) true).acts ++ []) acts (Rest b (bind_var env x m) ∷ LoopRound x y s b env m ∷ Rest rest env ∷ []) (append-nil _ ∙ (l.1 ∙ a))
      (InLoop (pre ++ n ∷ []) m more (mt ∙ (ap (λ z. pre ++ n ∷ z) is ∙ sym (append_assoc pre (n ∷ []) (m ∷ more)))) l.0 Begins)

  ended : (d : BodyTree) (env : Env) (acts : List Action) (g : Frame) (near : List Frame) → Inner P d env acts g near → Ended P g → IsPoint P d env acts near
  ended d env acts g near (Branch dn a) h = absurd h
  ended d env acts g near (Turned {x = x} {y = y} {s = s} {e = b} {rest = rest} {n = n} pre post mt dn dn' a) h =
      let f : Node → Out = body_at b x env P in
      let none : post ≡ [] = sym (post_is (env y) s pre n post mt) ∙ h.0 in
      let l = loop_to f pre n dn dn' in
      let is : run_item (For x y s b) env P ≡ loop f (pre ++ n ∷ []) true = ap (λ z. loop f z (is_closed P (env y))) (mt ∙ ap (λ z. pre ++ n ∷ z) none) ∙ ap (loop f (pre ++ n ∷ [])) h.1 in
      acts_to P d env ((run_item (For x y s b) env P).acts ++ []) acts near (append-nil _ ∙ (ap (λ (z : Out). z.acts) is ∙ (l.1 ∙ a))) (PastItem (ap (λ (z : Out). z.done) is ∙ l.0) Begins)

  popped : (d : BodyTree) (env : Env) (acts : List Action) (g : Frame) (near : List Frame) → Inner P d env acts g near → Is_rest g → IsPoint P d env acts (g ∷ near)
  popped d env acts g near (Branch {i = i} dn a) h = acts_to P d env ((run_item i env P).acts ++ []) acts (g ∷ near) (append-nil _ ∙ a) (PastItem dn Begins)
  popped d env acts g near (Turned pre post mt dn dn' a) h = absurd h

  -- the next turn of a loop
  pub next_turn : (d : BodyTree) (env : Env) (before : List Action) (v : Env) (x y : ℕ) (s : Step) (e : BodyTree) (u : Env) (n m : Node) (more : List Node) (tail : List Frame) → IsPoint P d env before (Rest Nil v ∷ LoopRound x y s e u n ∷ tail)
      → later n (matches P (serial_of (u y)) (s ∷ [])) ≡ m ∷ more → IsPoint P d env before (Rest e (bind_var u x m) ∷ LoopRound x y s e u m ∷ tail)
  next_turn d env before v x y s e u n m more tail st l =
      let r = view P w d env before _ st v (LoopRound x y s e u n) tail refl in
      acts_to P d env (r.pre ++ r.acts) before (Rest e (bind_var u x m) ∷ LoopRound x y s e u m ∷ tail) (sym r.before_is)
      (subst (λ (z : List Frame). IsPoint P d env (r.pre ++ r.acts) (Rest e (bind_var u x m) ∷ LoopRound x y s e u m ∷ z)) (sym r.tail_is)
      (r.plug r.acts (Rest e (bind_var u x m) ∷ LoopRound x y s e u m ∷ r.near) (turned r.body r.inner_env r.acts (LoopRound x y s e u n) r.near r.inner m more l)))

  -- the end of a loop
  pub leave_loop : (d : BodyTree) (env : Env) (before : List Action) (v : Env) (x y : ℕ) (s : Step) (e : BodyTree) (u : Env) (n : Node) (tail : List Frame) → IsPoint P d env before (Rest Nil v ∷ LoopRound x y s e u n ∷ tail)
      → later n (matches P (serial_of (u y)) (s ∷ [])) ≡ [] → is_closed P (u y) ≡ true → IsPoint P d env before tail
  leave_loop d env before v x y s e u n tail st l c =
      let r = view P w d env before _ st v (LoopRound x y s e u n) tail refl in
      acts_to P d env (r.pre ++ r.acts) before tail (sym r.before_is)
      (subst (λ (z : List Frame). IsPoint P d env (r.pre ++ r.acts) z) (sym r.tail_is)
      (r.plug r.acts r.near (ended r.body r.inner_env r.acts (LoopRound x y s e u n) r.near r.inner (l, c))))

  -- the end of a branch
  pub leave_branch : (d : BodyTree) (env : Env) (before : List Action) (v : Env) (rest : BodyTree) (u : Env) (tail : List Frame) → IsPoint P d env before (Rest Nil v ∷ Rest rest u ∷ tail) → IsPoint P d env before (Rest rest u ∷ tail)
  leave_branch d env before v rest u tail st =
      let r = view P w d env before _ st v (Rest rest u) tail refl in
      acts_to P d env (r.pre ++ r.acts) before (Rest rest u ∷ tail) (sym r.before_is)
      (subst (λ (z : List Frame). IsPoint P d env (r.pre ++ r.acts) (Rest rest u ∷ z)) (sym r.tail_is)
      (r.plug r.acts (Rest rest u ∷ r.near) (popped r.body r.inner_env r.acts (Rest rest u) r.near r.inner tt)))

  -- an item that is done at once: a Write, a statement, a loop over no match at a closed node
  pub pass_item : (d : BodyTree) (env : Env) (before : List Action) (i : ItemTree) (rest : BodyTree) (u : Env) (tail : List Frame) → IsPoint P d env before (Rest (Then i rest) u ∷ tail) → (run_item i u P).done ≡ true → IsPoint P d env (before ++ (run_item i u P).acts) (Rest rest u ∷ tail)
  pass_item d env before i rest u tail st dn = compose P d env before _ st (Then i rest) u tail refl (run_item i u P).acts (Rest rest u ∷ []) (acts_to P (Then i rest) u ((run_item i u P).acts ++ []) (run_item i u P).acts (Rest rest u ∷ []) (append-nil _) (PastItem dn Begins))

  same_acts : (d : BodyTree) (env : Env) (before : List Action) (fs : List Frame) → IsPoint P d env (before ++ []) fs → IsPoint P d env before fs
  same_acts d env before fs h = acts_to P d env (before ++ []) before fs (append-nil before) h

  -- the first turn of a loop
  pub enter_loop : (d : BodyTree) (env : Env) (before : List Action) (x y : ℕ) (s : Step) (e rest : BodyTree) (u : Env) (n : Node) (more : List Node) (tail : List Frame) → IsPoint P d env before (Rest (Then (For x y s e) rest) u ∷ tail)
      → matches P (serial_of (u y)) (s ∷ []) ≡ n ∷ more → IsPoint P d env before (Rest e (bind_var u x n) ∷ LoopRound x y s e u n ∷ Rest rest u ∷ tail)
  enter_loop d env before x y s e rest u n more tail st m = same_acts d env before _ (compose P d env before _ st (Then (For x y s e) rest) u tail refl [] (Rest e (bind_var u x n) ∷ LoopRound x y s e u n ∷ Rest rest u ∷ []) (InLoop [] n more m refl Begins))

  pub enter_yes : (d : BodyTree) (env : Env) (before : List Action) (c : CondTree) (a b rest : BodyTree) (u : Env) (tail : List Frame) → IsPoint P d env before (Rest (Then (If c a b) rest) u ∷ tail) → truth c u P ≡ True → IsPoint P d env before (Rest a u ∷ Rest rest u ∷ tail)
  enter_yes d env before c a b rest u tail st t = same_acts d env before _ (compose P d env before _ st (Then (If c a b) rest) u tail refl [] (Rest a u ∷ Rest rest u ∷ []) (InYes t Begins))

  pub enter_no : (d : BodyTree) (env : Env) (before : List Action) (c : CondTree) (a b rest : BodyTree) (u : Env) (tail : List Frame) → IsPoint P d env before (Rest (Then (If c a b) rest) u ∷ tail) → truth c u P ≡ False → IsPoint P d env before (Rest b u ∷ Rest rest u ∷ tail)
  enter_no d env before c a b rest u tail st t = same_acts d env before _ (compose P d env before _ st (Then (If c a b) rest) u tail refl [] (Rest b u ∷ Rest rest u ∷ []) (InNo t Begins))

  -- so many actions of a copy
  pub enter_copy : (d : BodyTree) (env : Env) (before : List Action) (x : ℕ) (rest : BodyTree) (u : Env) (acts more : List Action) (tail : List Frame) → IsPoint P d env before (Rest (Then (Copy x) rest) u ∷ tail) → (copy (length P.nodes) P (u x)).acts ≡ acts ++ more → IsPoint P d env (before ++ acts) (CopyPart x u (length acts) ∷ Rest rest u ∷ tail)
  enter_copy d env before x rest u acts more tail st e = compose P d env before _ st (Then (Copy x) rest) u tail refl acts (CopyPart x u (length acts) ∷ Rest rest u ∷ []) (InCopy acts more e)
