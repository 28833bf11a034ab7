-- Rounds among the frames that the blocks of a machine stand for.
use Rattle.std.proofs.Common.{◌≡◌, ℕ, Bool, true, cond, List, [], ◌∷◌, ◌++◌, reverse, Some, None, refl, sym, ◌∙◌, ap, subst, inl, inr, ◌⊎◌}
use Rattle.std.specs.Cmp.{nat_cmp_total, unsigned_tied}
use Rattle.std.proofs.lemmas.Bool.{eq-eqb, ne_eqb}
use Rattle.std.specs.FinMap as map
use Rattle.std.specs.FinMap.{get-insert}
use Rattle.gcx_base.specs.declared.steps.Step.{Step}
use Rattle.gcx_model.specs.Tree.{Node, serial_of, Tree}
use Rattle.gcx_model.specs.Paths.{matches}
use Rattle.gcx_model.specs.Members.{In}
use Rattle.gcx_model.specs.Core.{BodyTree, PlanTree}
use Rattle.gcx_model.specs.Truth.{Env, bind_var}
use Rattle.gcx_model.specs.Cores.{Good}
use Rattle.gcx_model.specs.Placed.{Placed}
use Rattle.gcx_model.specs.Past.{Past}
use Rattle.gcx_model.specs.Points.{CoreState, Frame, Rest, LoopRound, later, PointAt, Bound_in}
use Rattle.move_laws.specs.Moves.{AtPoint}
use Rattle.placed_laws.proofs.Evaluator as over
use Rattle.placed_laws.proofs.FromPlans.{from_state}
use Rattle.buf_tree.specs.Shape.{Cell}
use Rattle.buf_tree.specs.View.{View}
use Rattle.cond_eval.specs.Asking.{PlacedAt, IsBound}
use Rattle.cond_eval.specs.Bindings.{Bindings}
use Rattle.pull_eval.specs.Position.{items, KnowsNext, LooksInTime, SeenTo, IsRound, AreFrames, alone, in_round}
use Rattle.pull_eval.specs.Acting.{Beside}
use Rattle.pull_eval.specs.declared.block.Round.{Round as CodeRound}
use Rattle.pull_eval.specs.declared.block.Block.{Block}
use Rattle.pull_eval.specs.declared.position.Position.{Position}
use Rattle.pull_eval.proofs.Frames.{plain_point}

-- The block at the top is in a round: below the frame of its rest is that of the round.
pub record TopRound (rows : List Cell) (P : Tree) (b : Block) (r : CodeRound) (bs : List Block) (fs : List Frame) : Type 0 where
  pub from : ℕ
  pub env : Env
  pub node : Node
  pub below : List Frame
  pub is : fs ≡ Rest (items b.rest.now) (bind_var env r.var.0 node) ∷ LoopRound r.var.0 from r.step.now (items r.body.now) env node ∷ below
  pub round : IsRound rows P r r.var.0 from r.step.now (items r.body.now) env node
  pub looked : LooksInTime r.next b.rest.now
  pub seen : SeenTo P (bind_var env r.var.0 node) (items b.rest.now) b.seen
  pub others : AreFrames rows P bs below

-- the frame of a round in the words of the code
own_words : (rows : List Cell) (P : Tree) (r : CodeRound) (x y : ℕ) (s : Step) (e : BodyTree) (env : Env) (n : Node) → IsRound rows P r x y s e env n → IsRound rows P r r.var.0 y r.step.now (items r.body.now) env n
own_words rows P r x y s e env n h = record {
  var = refl;
  step = refl;
  body = refl;
  context = h.context;
  present = h.present;
  next = subst (λ (z : Step). KnowsNext rows (later n (matches P (serial_of (env y)) (z ∷ []))) r.next) (sym h.step) h.next;
  upto = h.upto;
}

frame_words : (rows : List Cell) (P : Tree) (r : CodeRound) (x y : ℕ) (s : Step) (e d : BodyTree) (env : Env) (n : Node) (below : List Frame) → IsRound rows P r x y s e env n
    → Rest d (bind_var env x n) ∷ LoopRound x y s e env n ∷ below ≡ Rest d (bind_var env r.var.0 n) ∷ LoopRound r.var.0 y r.step.now (items r.body.now) env n ∷ below
frame_words rows P r x y s e d env n below h =
    ap (λ (z : ℕ). Rest d (bind_var env z n) ∷ LoopRound z y s e env n ∷ below) (sym h.var)
    ∙ (ap (λ (z : Step). Rest d (bind_var env r.var.0 n) ∷ LoopRound r.var.0 y z e env n ∷ below) (sym h.step)
    ∙ ap (λ (z : BodyTree). Rest d (bind_var env r.var.0 n) ∷ LoopRound r.var.0 y r.step.now z env n ∷ below) (sym h.body))

pub round_of : (rows : List Cell) (P : Tree) (b : Block) (r : CodeRound) (bs : List Block) (fs : List Frame) → AreFrames rows P (b ∷ bs) fs → b.round ≡ Some r → TopRound rows P b r bs fs
round_of rows P b r bs fs (alone free seen rest) e = absurd (cc)
round_of rows P b r bs fs (in_round {fs = below} q {x} {y} {s} {e} {env} {n} one round looked seen rest) f =
    let same : q ≡ r = cc in
    let h : IsRound rows P r x y s e env n = subst (λ (z : CodeRound). IsRound rows P z x y s e env n) same round in
    record {
      from = y;
      env = env;
      node = n;
      below = below;
      is = frame_words rows P r x y s e (items b.rest.now) env n below h;
      round = own_words rows P r x y s e env n h;
      looked = subst (λ (z : CodeRound). LooksInTime z.next b.rest.now) same looked;
      seen = subst (λ (z : ℕ). SeenTo P (bind_var env z n) (items b.rest.now) b.seen) (sym h.var) seen;
      others = rest;
    }

-- the point within a round, with no copy in progress
pub record AtRound (w : Position) (v : View) (past : Past) (k : ℕ) (r : CodeRound) (fs : List Frame) (t : TopRound v.rows past.tree w.top r (reverse w.below.items) fs) : Type 0 where
  pub point : AtPoint past.plan past.tree k (Rest (items w.top.rest.now) (bind_var t.env r.var.0 t.node) ∷ LoopRound r.var.0 t.from r.step.now (items r.body.now) t.env t.node ∷ t.below)
  pub bound : w.is_begun ≡ true → (x : ℕ) (n : Node) → Bound_in x n (LoopRound r.var.0 t.from r.step.now (items r.body.now) t.env t.node ∷ t.below) → IsBound v.rows w.env x n

pub top_round : (w : Position) (v : View) (past : Past) (k : ℕ) (b : Beside w v past k) (r : CodeRound) → w.top.round ≡ Some r → TopRound v.rows past.tree w.top r (reverse w.below.items) b.position.fs
top_round w v past k b r e = round_of v.rows past.tree w.top r (reverse w.below.items) b.position.fs b.position.frames e

pub at_round : (w : Position) (v : View) (past : Past) (k : ℕ) (b : Beside w v past k) (r : CodeRound) (e : w.top.round ≡ Some r) → w.copying ≡ None → AtRound w v past k r b.position.fs (top_round w v past k b r e)
at_round w v past k b r e plain =
    let t = top_round w v past k b r e in
    record {
      point = record { grown = b.buffer.is_past.grown; point = subst (λ (z : List Frame). PointAt past.plan past.tree k z) t.is (plain_point w v.rows past.plan past.tree k b.position plain).1 };
      bound = λ begun x m h. b.position.bound begun x m (subst (λ (z : List Frame). Bound_in x m z) (sym t.is) h);
    }

-- What is bound at a point is a node of the tree.
pub bound_node : (core : BodyTree) → Good core → (plan : PlanTree) → Placed core plan → (P : Tree) (k : ℕ) → CoreState plan P k → (top : List Frame) (f : Frame) (below : List Frame) → PointAt plan P k (top ++ f ∷ below)
    → (x : ℕ) (n : Node) → Bound_in x n below → In n P.nodes
bound_node core good plan pl P k r top f below = from_state core good (λ plan P k. PointAt plan P k (top ++ f ∷ below) → (x : ℕ) (n : Node) → Bound_in x n below → In n P.nodes)
    (λ ts k st x n b. (over.below_hit core good ts k top below f st x n b).0) plan pl P k r

-- A variable that nothing below binds is bound to the node of a new round.
pub bound_anew : (rows : List Cell) (old new : Bindings) (x p : ℕ) (n : Node) (below : List Frame) → new ≡ map.insert old x (p, serial_of n) → PlacedAt rows (serial_of n) p
    → ((z : ℕ) (m : Node) → Bound_in z m below → z ≡ x → ⊥) → ((z : ℕ) (m : Node) → Bound_in z m below → IsBound rows old z m)
    → (z : ℕ) (m : Node) → ((x ≡ z) × (n ≡ m)) ⊎ Bound_in z m below → IsBound rows new z m
bound_anew rows old new x p n below e at free bound z m (inl h) = record {
  place = p;
  pair = ap (λ (b : Bindings). map.get b z) e ∙ get-insert nat_cmp_total old x (p, serial_of n) z
      ∙ ap (λ (t : Bool). cond t (Some (p, serial_of n)) (map.get old z)) (unsigned_tied z x ∙ eq-eqb z x (sym h.0)) ∙ ap (λ (q : Node). Some (p, serial_of q)) h.1;
  at = subst (λ (q : Node). PlacedAt rows (serial_of q) p) h.1 at;
}
bound_anew rows old new x p n below e at free bound z m (inr h) =
    let q = bound z m h in
    record {
      place = q.place;
      pair = ap (λ (b : Bindings). map.get b z) e ∙ get-insert nat_cmp_total old x (p, serial_of n) z
          ∙ ap (λ (t : Bool). cond t (Some (p, serial_of n)) (map.get old z)) (unsigned_tied z x ∙ ne_eqb z x (free z m h)) ∙ q.pair;
      at = q.at;
    }
