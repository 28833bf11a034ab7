-- The body of a round is over: the loop goes on with its next match, ends where none comes, and waits where none has come yet.
use Rattle.std.proofs.Common.{◌≡◌, ◌<◌, suc, ℕ, Bool, true, false, not, List, [], ◌∷◌, ◌++◌, length, reverse, Option, Some, None, refl, sym, ◌∙◌, ap, subst, inl, inr, arith}
use Rattle.std.specs.Prelude.{nat_lt}
use Rattle.std.proofs.lemmas.Bool.{true≢false}
use Rattle.std.specs.FinMap as map
use Rattle.gcx_base.specs.declared.steps.Step.{Step}
use Rattle.gcx_model.specs.declared.item.Item.{Item}
use Rattle.gcx_model.specs.declared.item.Item.TheVariants as item
use Rattle.gcx_model.specs.Tree.{Node, serial_of, Tree, is_closed}
use Rattle.gcx_model.specs.Paths.{matches}
use Rattle.gcx_model.specs.Members.{In}
use Rattle.gcx_model.specs.Core.{BodyTree, Nil}
use Rattle.gcx_model.specs.Truth.{bind_var}
use Rattle.gcx_model.specs.Past.{Past}
use Rattle.gcx_model.specs.Points.{Frame, Rest, LoopRound, later, PointAt, Bound_in}
use Rattle.move_laws.specs.Moves.{AtPoint}
use Rattle.tree_laws.proofs.Lists.{In-filter, In-right}
use Rattle.tree_laws.proofs.Matches.{Matches-in}
use Rattle.past_laws.proofs.Bases.{is_grown}
use Rattle.tree_laws.proofs.Chains.{hits_one}
use Rattle.move_laws.proofs.Moving.{round_waits}
use Rattle.pass_laws.specs.Idle.{IsQuiet}
use Rattle.pass_laws.proofs.Rounds.{rounds_pass}
use Rattle.placed_laws.proofs.PointNeeds.{turn_law}
use Rattle.run_laws.proofs.Free.{round_variable_free}
use Rattle.node_store.specs.declared.store.Place.{Place}
use Rattle.buf_tree.specs.Shape.{Cell, num}
use Rattle.buf_tree.specs.Match.{GoesFrom}
use Rattle.buf_tree.specs.View.{View, InUse, serial_at}
use Rattle.cond_eval.specs.declared.watermark.Watermark.{Watermark}
use Rattle.cond_eval.specs.Asking.{IsBound}
use Rattle.cond_eval.specs.Bindings.{Bindings}
use Rattle.cond_eval.specs.Reads.{NodeAt}
use Rattle.pull_eval.specs.Position.{items, LooksInTime, AreFrames, alone, in_round, none}
use Rattle.pull_eval.specs.Weight.{weigh_body, weigh_round, weigh_block, weigh_blocks, weigh_copying, weight, rounds_left, rows_behind}
use Rattle.pull_eval.specs.Acting.{Beside, Moves, IsOver, IsLast}
use Rattle.pull_eval.specs.Rounds.{Began}
use Rattle.pull_eval.specs.Leaps.{TurnsAt, TurnIn}
use Rattle.pull_eval.specs.declared.block.Next.{Next}
use Rattle.pull_eval.specs.declared.block.Next.TheVariants.{Unsought, Found, NoneUpTo}
use Rattle.pull_eval.specs.declared.block.Round.{Round as CodeRound}
use Rattle.pull_eval.specs.declared.block.Block.{Block}
use Rattle.pull_eval.specs.declared.position.Position.{Position}
use Rattle.pull_eval.specs.declared.machine.Acted.TheVariants as outcomes
use Rattle.cond_eval.proofs.Rows.{kept_at, at_node, at_placed, closed_told}
use Rattle.cond_eval.proofs.RowSteps.{from_match}
use Rattle.pull_eval.proofs.HeldRows.{holds, held_rows}
use Rattle.pull_eval.proofs.Frames.{stands_plainly, turns_still}
use Rattle.pull_eval.proofs.Needing.{needed_held}
use Rattle.pull_eval.proofs.Writing.{beside_still}
use Rattle.pull_eval.proofs.RoundFrames.{TopRound, top_round, AtRound, at_round, bound_node, bound_anew}
use Rattle.pull_eval.proofs.NextMatches.{node_below}
use Rattle.pull_eval.proofs.RoundMoves.{round_block, begun_frames, begun_weight}

-- what is known to be looked for in time is known where nothing is left
pub none_left_sought : (next : Next) (is : List Item) → is ≡ [] → LooksInTime next is → next ≡ Unsought → ⊥
none_left_sought Unsought is e l f = absurd (ends l.0 (item.Off l.1) (sym l.2 ∙ e))
  where
    ends : (front : List Item) (o : Item) → front ++ o ∷ [] ≡ [] → ⊥
    ends [] o g = cc
    ends (x ∷ xs) o g = cc
none_left_sought (Found p) is e l f = cc
none_left_sought (NoneUpTo s) is e l f = cc

module _ (w : Position) (v : View) (past : Past) (k : ℕ) (b : Beside w v past k) (begun : w.is_begun ≡ true) (no_copy : w.copying ≡ None) (r : CodeRound) (round : w.top.round ≡ Some r) where
  abbrev P : Tree
  P = past.tree

  abbrev t : TopRound v.rows past.tree w.top r (reverse w.below.items) b.position.fs
  t = top_round w v past k b r round

  abbrev at : AtRound w v past k r b.position.fs (top_round w v past k b r round)
  at = at_round w v past k b r round no_copy

  abbrev x : ℕ
  x = r.var.0

  abbrev s : Step
  s = r.step.now

  abbrev e : BodyTree
  e = items r.body.now

  abbrev frame : Frame
  frame = LoopRound x t.from s e t.env t.node

  abbrev rest : Frame
  rest = Rest (items w.top.rest.now) (bind_var t.env x t.node)

  abbrev ms : List Node
  ms = later t.node (matches P (serial_of (t.env t.from)) (s ∷ []))

  pub present_match : In t.node (matches P (serial_of (t.env t.from)) (s ∷ []))
  present_match = let is = b.buffer.is_past in (turn_law is.core is.good past.plan is.placed P k b.state (rest ∷ []) t.below x t.from s e t.env t.node at.point.point).1

  pub present_in : In t.node P.nodes
  present_in = (Matches-in P (serial_of (t.env t.from)) (s ∷ []) t.node present_match).0

  context_in : In (t.env t.from) P.nodes
  context_in =
      let is = b.buffer.is_past in
      let c = (turn_law is.core is.good past.plan is.placed P k b.state (rest ∷ []) t.below x t.from s e t.env t.node at.point.point).0 in
      bound_node is.core is.good past.plan is.placed P k b.state (rest ∷ []) frame t.below at.point.point t.from (t.env t.from) c

  -- the row of the node from which the loop takes its step
  pub round_context : NodeAt v.rows P (holds past) r.context.0 (t.env t.from)
  round_context = kept_at v.rows P (holds past) (held_rows v past b.buffer) (t.env t.from) r.context.0 context_in
      (needed_held w v past k b (rest ∷ frame ∷ t.below) at.point.point (t.env t.from) context_in (inr (inl (inr refl)))) t.round.context

  pub later_in : (m : Node) → In m ms → In m P.nodes
  later_in m i = (Matches-in P (serial_of (t.env t.from)) (s ∷ []) m (In-filter (λ j. nat_lt (serial_of t.node) (serial_of j)) m (matches P (serial_of (t.env t.from)) (s ∷ [])) i).0).0

  pub later_kept : (m : Node) → In m ms → holds past m ≡ true
  later_kept m i = needed_held w v past k b (rest ∷ frame ∷ t.below) at.point.point m (later_in m i) (inr (inl (inl (inr i))))

  -- what is told of the match with which the loop goes on
  abbrev TurnTold : Option Place → Type 0
  TurnTold found = TurnsAt v.rows ms (λ j. IsQuiet e (bind_var t.env x j) P) (is_closed P (t.env t.from) ≡ true) (rounds_left v.rows r.present r.next) found

  pub turn_told : (found : Option Place) → TurnIn P v.rows b.position.fs r found → TurnTold found
  turn_told found told = told t.from t.env t.node rest t.below t.is

  -- a match that is told of is a row
  turn_in : (p : Place) (told : TurnTold (Some p)) → In told.1 ms
  turn_in p told = subst (λ (z : List Node). In told.1 z) (sym told.3) (In-right told.1 told.0 (told.1 ∷ told.2) (inl refl))

  turn_row : (p : Place) (told : TurnTold (Some p)) → NodeAt v.rows P (holds past) p.0 told.1
  turn_row p told = let i = turn_in p told in kept_at v.rows P (holds past) (held_rows v past b.buffer) told.1 p.0 (later_in told.1 i) (later_kept told.1 i) told.5

  module _ (over : w.top.rest.now ≡ []) where
    pub is_sought : r.next ≡ Unsought → ⊥
    is_sought = none_left_sought r.next w.top.rest.now over t.looked

    empty : items w.top.rest.now ≡ Nil
    empty = ap items over

    over_point : AtPoint past.plan P k (Rest Nil (bind_var t.env x t.node) ∷ frame ∷ t.below)
    over_point = subst (λ (z : BodyTree). AtPoint past.plan P k (Rest z (bind_var t.env x t.node) ∷ frame ∷ t.below)) empty at.point

    -- ---- in the words of the code

    pub context_used : InUse v.rows r.context.0
    context_used = record { cell = round_context.cell; among = round_context.cell_among; place = round_context.at }

    abbrev ClosedTold : Bool → Type 0
    ClosedTold closed = (c : Cell) → In c v.rows → c.place ≡ r.context.0 → closed ≡ not c.row.is_open

    closed_is : (closed : Bool) → ClosedTold closed → is_closed P (t.env t.from) ≡ closed
    closed_is closed row =
        sym (closed_told v.rows P (holds past) (held_rows v past b.buffer) round_context.cell (t.env t.from) (at_node v.rows P (holds past) r.context.0 (t.env t.from) round_context))
        ∙ sym (row round_context.cell round_context.cell_among round_context.at)

    -- a search may go on from the match
    pub goes_on_from : (p : Place) → TurnTold (Some p) → GoesFrom v.rows r.context.0 s.axis p.0
    goes_on_from p told =
        let here = turn_row p told in
        let j = (In-filter (λ q. nat_lt (serial_of t.node) (serial_of q)) told.1 (matches P (serial_of (t.env t.from)) (s ∷ [])) (turn_in p told)).0 in
        let m = Matches-in P (serial_of (t.env t.from)) (s ∷ []) told.1 j in
        record {
          top = record { cell = round_context.cell; among = round_context.cell_among; place = round_context.at };
          from = record { cell = here.cell; among = here.cell_among; place = here.at };
          way = from_match v.rows P (holds past) (held_rows v past b.buffer) round_context.cell here.cell (t.env t.from) told.1 s round_context.cell_among here.cell_among
              (at_node v.rows P (holds past) r.context.0 (t.env t.from) round_context) (at_node v.rows P (holds past) p.0 told.1 here)
              (hits_one P (is_grown past b.buffer.is_past) (serial_of (t.env t.from)) s told.1 m.0 m.1);
        }

    -- the loop goes on with the match
    module _ (n : Position) (p : Place) (told : TurnTold (Some p)) (g : Began v w n (record r { present = p })) where
      abbrev q : CodeRound
      q = record r { present = p }

      abbrev m : Node
      m = told.1

      here : NodeAt v.rows P (holds past) p.0 m
      here = turn_row p told

      abbrev fs : List Frame
      fs = Rest e (bind_var t.env x m) ∷ LoopRound x t.from s e t.env m ∷ t.below

      point : PointAt past.plan P k fs
      point = rounds_pass past.plan P k (bind_var t.env x t.node) x t.from s e t.env t.node t.below told.0 m told.2 over_point told.3 told.4

      frames : AreFrames v.rows P (n.top ∷ reverse n.below.items) fs
      frames =
          let own = begun_frames w w n v past k b q t.from t.env m t.below (reverse w.below.items) g round_context here point t.others in
          subst (λ (z : List Block). AreFrames v.rows P (n.top ∷ reverse z) fs) (sym g.below) (subst (λ (z : Block). AreFrames v.rows P (z ∷ reverse w.below.items) fs) (sym g.top) own)

      number : serial_at p.0 v.rows ≡ num here.cell
      number = g.serial here.cell here.cell_among here.at

      bound : (z : ℕ) (j : Node) → Bound_in z j fs → IsBound v.rows n.env z j
      bound z j h =
          let is = b.buffer.is_past in
          let free = round_variable_free is.core is.good past.plan is.placed P k (rest ∷ []) t.below x t.from s e t.env t.node at.point.point in
          let env_is : n.env ≡ map.insert w.env x (p.0, serial_of m) = g.env ∙ ap (λ (z : ℕ). map.insert w.env x (p.0, z)) (number ∙ here.number) in
          bound_anew v.rows w.env n.env x p.0 m t.below env_is (at_placed v.rows P (holds past) p.0 m here) free.1 (λ y m i. at.bound begun y m (inr i)) z j h

      falls : weight v.rows n < weight v.rows w
      falls =
          let left : rows_behind (num here.cell) v.rows < rounds_left v.rows r.present r.next = subst (λ (z : ℕ). rows_behind z v.rows < rounds_left v.rows r.present r.next) (sym here.number) told.6 in
          let own = begun_weight w w n v past k b q (t.env t.from) m g round_context here (rounds_left v.rows r.present r.next) left in
          let top : weigh_block v.rows n.top ≡ weigh_block v.rows (round_block q g.next) = ap (weigh_block v.rows) g.top in
          let old : weigh_round v.rows w.top.round ≡ weigh_round v.rows (Some r) = ap (weigh_round v.rows) round in
          let body : weigh_body (length v.rows) (items w.top.rest.now) ≡ 0 = ap (weigh_body (length v.rows)) empty in
          let blocks : weigh_blocks v.rows n.below.items ≡ weigh_blocks v.rows w.below.items = ap (weigh_blocks v.rows) g.below in
          let copying : weigh_copying n.copying ≡ weigh_copying w.copying = ap weigh_copying g.copying in
          omega arith

      pub begins_again : (out : List ℕ) → Moves past k w n v v out out None
      begins_again out = (refl, refl, beside_still w n v past k b (stands_plainly n v.rows past.plan P k fs (g.copying ∙ no_copy) (g.begun ∙ begun) (turns_still w n v.rows past.plan P k g.turns b.position) point frames bound), falls)

    -- the loop is over
    quiet : TurnTold None → (j : Node) → In j ms → IsQuiet e (bind_var t.env x j) P
    quiet (inl nothing) j i = absurd (subst (λ (z : List Node). In j z) nothing i)
    quiet (inr h) j i = h.0 j i

    none_left : TurnTold None → is_closed P (t.env t.from) ≡ false → ms ≡ []
    none_left (inl nothing) open_still = nothing
    none_left (inr h) open_still = absurd (true≢false (sym h.1 ∙ open_still))

    pub ends_there : (closed : Bool) → TurnTold None → ClosedTold closed → closed ≡ true → IsOver P b.position.fs
    ends_there closed told row is = subst (λ (z : List Frame). IsOver P z) (sym t.is) (quiet told, closed_is closed row ∙ is)

    -- the loop waits for its next match
    round_waits_now : (n : Position) (u : Watermark) → n.top ≡ record w.top { round = Some (record r { next = NoneUpTo u }) } → suc u.0 ≡ v.nodes → n.below.items ≡ w.below.items → n.env ≡ w.env → n.copying ≡ w.copying → n.turns.items ≡ w.turns.items → n.is_begun ≡ w.is_begun
        → ms ≡ [] → is_closed P (t.env t.from) ≡ false → (out : List ℕ) → Moves past k w n v v out out (Some outcomes.Blocked)
    round_waits_now n u top upto blocks env_is copying turns is_begun none_left open_still out =
        let fs = rest ∷ frame ∷ t.below in
        let here = node_below v past b.buffer t.node present_in in
        let count : v.nodes ≡ length P.nodes = b.buffer.nodes in
        let own : AreFrames v.rows P (record w.top { round = Some (record r { next = NoneUpTo u }) } ∷ reverse w.below.items) fs =
        in_round (record r { next = NoneUpTo u }) refl
        (record { var = refl; step = refl; body = refl; context = t.round.context; present = t.round.present; next = λ m i. absurd (subst (λ (z : List Node). In m z) none_left i); upto = (omega arith, omega arith) })
        tt t.seen t.others in
        let frames : AreFrames v.rows P (n.top ∷ reverse n.below.items) fs =
        subst (λ (z : List Block). AreFrames v.rows P (n.top ∷ reverse z) fs) (sym blocks) (subst (λ (z : Block). AreFrames v.rows P (z ∷ reverse w.below.items) fs) (sym top) own) in
        let bound : (z : ℕ) (j : Node) → Bound_in z j fs → IsBound v.rows n.env z j = λ z j h. subst (λ (q : Bindings). IsBound v.rows q z j) (sym env_is) (at.bound begun z j h) in
        let stands = stands_plainly n v.rows past.plan P k fs (copying ∙ no_copy) (is_begun ∙ begun) (turns_still w n v.rows past.plan P k turns b.position) at.point.point frames bound in
        (round_waits past.plan P k (bind_var t.env x t.node) x t.from s e t.env t.node t.below over_point none_left open_still, refl, refl, beside_still w n v past k b stands)

    pub waits_there : (n : Position) (u : Watermark) → n.top ≡ record w.top { round = Some (record r { next = NoneUpTo u }) } → suc u.0 ≡ v.nodes → n.below.items ≡ w.below.items → n.env ≡ w.env → n.copying ≡ w.copying → n.turns.items ≡ w.turns.items → n.is_begun ≡ w.is_begun
        → (closed : Bool) → TurnTold None → ClosedTold closed → closed ≡ false → (out : List ℕ) → Moves past k w n v v out out (Some outcomes.Blocked)
    waits_there n u top upto blocks env_is copying turns is_begun closed told row is out = let open_still = closed_is closed row ∙ is in round_waits_now n u top upto blocks env_is copying turns is_begun (none_left told open_still) open_still out

-- ---- a body that isn't that of a round is over

below_over : (rows : List Cell) (P : Tree) (bs : List Block) (fs : List Frame) → AreFrames rows P bs fs → IsLast P fs
below_over rows P bs gs none = tt
below_over rows P bs gs (alone free seen others) = tt
below_over rows P bs gs (in_round r one round looked seen others) = tt

over_alone : (rows : List Cell) (P : Tree) (b : Block) (bs : List Block) (fs : List Frame) → AreFrames rows P (b ∷ bs) fs → b.round ≡ None → IsOver P fs
over_alone rows P b bs gs (alone {fs = below} free seen others) e = below_over rows P bs below others
over_alone rows P b bs gs (in_round r one round looked seen others) e = absurd (cc)

pub is_over : (w : Position) (v : View) (past : Past) (k : ℕ) (b : Beside w v past k) → w.top.round ≡ None → IsOver past.tree b.position.fs
is_over w v past k b e = over_alone v.rows past.tree w.top (reverse w.below.items) b.position.fs b.position.frames e
