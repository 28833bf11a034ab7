-- A loop is entered at its first match, passed where it has none and none comes, and waits where none has come yet.
use Rattle.std.proofs.Common.{◌≡◌, ◌<◌, ◌≤◌, ◌*◌, suc, ℕ, true, List, [], ◌∷◌, length, Some, refl, sym, subst, inl, inr, arith}
use Rattle.std.specs.Prelude.{nat_lt}
use Rattle.std.specs.FinMap as map
use Rattle.gcx_base.specs.declared.steps.Step.{Step}
use Rattle.gcx_model.specs.Tree.{Node, serial_of}
use Rattle.gcx_model.specs.Paths.{matches}
use Rattle.gcx_model.specs.Members.{In}
use Rattle.gcx_model.specs.Core.{For, BodyTree}
use Rattle.gcx_model.specs.Truth.{Env, bind_var}
use Rattle.gcx_model.specs.Past.{Past}
use Rattle.gcx_model.specs.Points.{Frame, Rest, LoopRound, later, PointAt}
use Rattle.tree_laws.proofs.Lists.{In-filter}
use Rattle.tree_laws.proofs.Matches.{Matches-in}
use Rattle.buf_tree.specs.Shape.{num}
use Rattle.buf_tree.specs.Match.{Unreached, FirstReached}
use Rattle.buf_tree.specs.View.{View, InUse}
use Rattle.cond_eval.specs.Asking.{PlacedAt, IsBound}
use Rattle.cond_eval.specs.Reads.{NodeAt}
use Rattle.pull_eval.specs.Position.{items, AreFrames, in_round}
use Rattle.pull_eval.specs.Weight.{weigh_body, weigh_block, rounds_left, rows_behind}
use Rattle.pull_eval.specs.Acting.{Beside, IsNextItem}
use Rattle.pull_eval.specs.Rounds.{from_seen, Began}
use Rattle.pull_eval.specs.declared.block.Next.{Next}
use Rattle.pull_eval.specs.declared.block.Round.{Round as CodeRound}
use Rattle.pull_eval.specs.declared.block.Block.{Block}
use Rattle.pull_eval.specs.declared.position.Position.{Position}
use Rattle.cond_eval.proofs.Rows.{kept_at, at_node, at_placed}
use Rattle.pull_eval.proofs.HeldRows.{holds, held_rows}
use Rattle.pull_eval.proofs.Frames.{at_item, begins_anew}
use Rattle.pull_eval.proofs.Needing.{needed_held, used_in, used_bound, item_held}
use Rattle.pull_eval.proofs.NextMatches.{row_below, learnt_next, first_seen, none_seen_yet}
use Rattle.pull_eval.proofs.RoundWeights.{learnt_left, round_falls}

-- ---- the body of a round begins

-- the block of the round's body
abbrev pub round_block : CodeRound → Next → Block
round_block r next = record { rest = r.body; round = Some (record r { next = next }); seen = 0 }

-- of the round at the node m, whose later matches are held, with the blocks below standing for the frames below it
pub begun_frames : (w mid n : Position) (v : View) (past : Past) (k : ℕ) (b : Beside w v past k) (r : CodeRound) (y : ℕ) (env : Env) (m : Node) (below : List Frame) (bs : List Block) (g : Began v mid n r)
    → NodeAt v.rows past.tree (holds past) r.context.0 (env y) → NodeAt v.rows past.tree (holds past) r.present.0 m
    → PointAt past.plan past.tree k (Rest (items r.body.now) (bind_var env r.var.0 m) ∷ LoopRound r.var.0 y r.step.now (items r.body.now) env m ∷ below) → AreFrames v.rows past.tree bs below
    → AreFrames v.rows past.tree (round_block r g.next ∷ bs) (Rest (items r.body.now) (bind_var env r.var.0 m) ∷ LoopRound r.var.0 y r.step.now (items r.body.now) env m ∷ below)
begun_frames w mid n v past k b r y env m below bs g at here point others =
    let P = past.tree in
    let fs = Rest (items r.body.now) (bind_var env r.var.0 m) ∷ LoopRound r.var.0 y r.step.now (items r.body.now) env m ∷ below in
    let kept : (j : Node) → In j (later m (matches P (serial_of (env y)) (r.step.now ∷ []))) → holds past j ≡ true = λ j i. (let q = (In-filter (λ q. nat_lt (serial_of m) (serial_of q)) j (matches P (serial_of (env y)) (r.step.now ∷ [])) i).0 in needed_held w v past k b fs point j (Matches-in P (serial_of (env y)) (r.step.now ∷ []) j q).0 (inr (inl (inl (inr i))))) in
    let l = learnt_next v past b.buffer at.cell (env y) m r.step.now g.next at.cell_among (at_node v.rows P (holds past) r.context.0 (env y) at) here.among (num here.cell) here.number kept
    (g.learnt at.cell here.cell at.cell_among here.cell_among at.at here.at) in
    in_round (record r { next = g.next }) refl
    (record { var = refl; step = refl; body = refl; context = at_placed v.rows P (holds past) r.context.0 (env y) at; present = at_placed v.rows P (holds past) r.present.0 m here; next = l.0; upto = l.1 })
    g.looks (begins_anew P b.buffer.is_past.grown (bind_var env r.var.0 m) (items r.body.now) 0 refl) others

-- a round's body weighs no more than the rows behind its match do, each with the body
pub begun_weight : (w mid n : Position) (v : View) (past : Past) (k : ℕ) (b : Beside w v past k) (r : CodeRound) (a m : Node) (g : Began v mid n r) → NodeAt v.rows past.tree (holds past) r.context.0 a → (here : NodeAt v.rows past.tree (holds past) r.present.0 m)
    → (all : ℕ) → rows_behind (num here.cell) v.rows < all → weigh_block v.rows (round_block r g.next) ≤ all * suc (weigh_body (length v.rows) (items r.body.now))
begun_weight w mid n v past k b r a m g at here all l =
    let left = learnt_left v at.cell here.cell r.step.now r.present g.next here.cell_among (row_below v past b.buffer here.cell here.cell_among) (g.serial here.cell here.cell_among here.at)
    (g.learnt at.cell here.cell at.cell_among here.cell_among at.at here.at) in
    round_falls (rounds_left v.rows r.present g.next) all (weigh_body (length v.rows) (items r.body.now)) (omega arith)

-- ---- a loop comes next

module _ (w : Position) (v : View) (past : Past) (k : ℕ) (b : Beside w v past k) (begun : w.is_begun ≡ true) (x y : ℕ) (s : Step) (e d : BodyTree) (next : IsNextItem w (For x y s e) d) where
  abbrev env : Env
  env = (at_item w v past k b (For x y s e) d next).env

  abbrev ms : List Node
  ms = matches past.tree (serial_of (env y)) (s ∷ [])

  pub context_bound : IsBound v.rows w.env y (env y)
  context_bound = used_bound w v past k b (For x y s e) d next begun y refl

  pub context_row : (p : ℕ) → p ≡ context_bound.place → NodeAt v.rows past.tree (holds past) p (env y)
  context_row p q =
      let i = used_in w v past k b (For x y s e) d next y refl in
      kept_at v.rows past.tree (holds past) (held_rows v past b.buffer) (env y) p i (item_held w v past k b (For x y s e) d next (env y) i (inl refl))
      (subst (λ (z : ℕ). PlacedAt v.rows (serial_of (env y)) z) (sym q) context_bound.at)

  pub all_kept : (m : Node) → In m ms → holds past m ≡ true
  all_kept m i = item_held w v past k b (For x y s e) d next m (Matches-in past.tree (serial_of (env y)) (s ∷ []) m i).0 (inr i)

  -- the first match of the loop, where a search finds one,
  pub first_there : (q p : ℕ) (at : NodeAt v.rows past.tree (holds past) q (env y)) → FirstReached v.rows at.cell s (from_seen at.cell w.top.seen) p → (m : Node) × (rest : List Node) × (ms ≡ m ∷ rest) × NodeAt v.rows past.tree (holds past) p m
  first_there q p at f = first_seen v past b.buffer at.cell (env y) s at.cell_among (at_node v.rows past.tree (holds past) q (env y) at) all_kept w.top.seen p (at_item w v past k b (For x y s e) d next).seen.0 f

  -- and where it finds none, there is none
  pub none_there : (q : ℕ) (at : NodeAt v.rows past.tree (holds past) q (env y)) → Unreached v.rows at.cell s (from_seen at.cell w.top.seen) → ms ≡ []
  none_there q at f = none_seen_yet v past b.buffer at.cell (env y) s at.cell_among (at_node v.rows past.tree (holds past) q (env y) at) all_kept w.top.seen (at_item w v past k b (For x y s e) d next).seen.0 f

  -- the node from which the loop takes its step stands at the place to which its variable is bound
  pub context_there : (t p : ℕ) × (map.get w.env y ≡ Some (p, t))
  context_there = (serial_of (env y), context_bound.place, context_bound.pair)

  pub context_told : (p : ℕ) → ((q t : ℕ) → map.get w.env y ≡ Some (q, t) → p ≡ q) → NodeAt v.rows past.tree (holds past) p (env y)
  context_told p h = context_row p (h context_bound.place (serial_of (env y)) context_bound.pair)

  pub context_used : (p : ℕ) → ((q t : ℕ) → map.get w.env y ≡ Some (q, t) → p ≡ q) → InUse v.rows p
  context_used p h = let at = context_told p h in record { cell = at.cell; among = at.cell_among; place = at.at }
