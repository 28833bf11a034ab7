-- What a search and a leap tell of the match with which a round goes on.
use Rattle.std.proofs.Common.{◌≡◌, ◌<◌, ◌⊎◌, suc, ℕ, true, List, [], ◌∷◌, reverse, Option, Some, None, refl, sym, ◌∙◌, ap, subst, inl, inr, arith}
use Rattle.gcx_base.specs.declared.ids.Serial.{Serial}
use Rattle.gcx_base.specs.declared.steps.Step.{Step}
use Rattle.gcx_model.specs.Tree.{Node, serial_of, Tree, is_closed}
use Rattle.gcx_model.specs.Paths.{matches}
use Rattle.gcx_model.specs.Members.{In}
use Rattle.gcx_model.specs.Nodes.{Rising}
use Rattle.gcx_model.specs.Core.{BodyTree}
use Rattle.gcx_model.specs.Truth.{Env, bind_var}
use Rattle.gcx_model.specs.Past.{Past}
use Rattle.gcx_model.specs.Points.{Frame, Rest, LoopRound, later}
use Rattle.tree_laws.proofs.Matches.{Matches-rising}
use Rattle.tree_laws.proofs.Fed.{grown_from}
use Rattle.pass_laws.specs.Idle.{IsQuiet}
use Rattle.node_store.specs.declared.store.Place.{Place}
use Rattle.buf_tree.specs.Shape.{Cell, num}
use Rattle.buf_tree.specs.View.{View, InUse, serial_at}
use Rattle.cond_eval.specs.declared.watermark.Watermark.{Watermark}
use Rattle.cond_eval.specs.Searches.{Finds}
use Rattle.cond_eval.specs.Reads.{NodeAt}
use Rattle.pull_eval.specs.Position.{items, KnowsNext, IsUpTo}
use Rattle.pull_eval.specs.Weight.{rounds_left, rows_behind}
use Rattle.pull_eval.specs.Acting.{Beside}
use Rattle.pull_eval.specs.Leaps.{LoopAt, LeapsTo, TurnsAt, TurnIn}
use Rattle.pull_eval.specs.declared.block.Next.{Next}
use Rattle.pull_eval.specs.declared.block.Next.TheVariants.{Found, NoneUpTo}
use Rattle.pull_eval.specs.declared.block.Round.{Round as CodeRound}
use Rattle.pull_eval.specs.declared.turns.Leap.{Leap}
use Rattle.pull_eval.specs.declared.turns.Leap.TheVariants.{Stay, To, Over}
use Rattle.pull_eval.specs.declared.position.Position.{Position}
use Rattle.cond_eval.proofs.Rows.{kept_at, at_node, at_placed}
use Rattle.cond_eval.proofs.RowSteps.{seen_found, none_seen}
use Rattle.pull_eval.proofs.HeldRows.{holds, held_rows}
use Rattle.pull_eval.proofs.RoundFrames.{TopRound, top_round}
use Rattle.pull_eval.proofs.RoundWeights.{behind_fewer}
use Rattle.pull_eval.proofs.RoundEnds.{round_context, later_in, later_kept}
use Rattle.pull_eval.proofs.Leaping.{turns_to, turns_over, turns_stay}

same_tail : (f g : Frame) (fs gs : List Frame) → f ∷ fs ≡ g ∷ gs → fs ≡ gs
same_tail f g fs gs h = cc

same_first : (f g : Frame) (fs gs : List Frame) → f ∷ fs ≡ g ∷ gs → f ≡ g
same_first f g fs gs h = cc

same_from : (x : ℕ) (s : Step) (e : BodyTree) (y z : ℕ) (env other : Env) (n m : Node) → LoopRound x y s e env n ≡ LoopRound x z s e other m → (y ≡ z) × (env ≡ other) × (n ≡ m)
same_from x s e y z env other n m h = (cc, cc, cc)

module _ (w : Position) (v : View) (past : Past) (k : ℕ) (b : Beside w v past k) (begun : w.is_begun ≡ true) (no_copy : w.copying ≡ None) (r : CodeRound) (round : w.top.round ≡ Some r) where
  abbrev P : Tree
  P = past.tree

  abbrev t : TopRound v.rows past.tree w.top r (reverse w.below.items) b.position.fs
  t = top_round w v past k b r round

  abbrev x : ℕ
  x = r.var.0

  abbrev s : Step
  s = r.step.now

  abbrev e : BodyTree
  e = items r.body.now

  abbrev frame : Frame
  frame = LoopRound x t.from s e t.env t.node

  abbrev rest : Frame
  rest = Rest (items w.top.rest.now) (bind_var t.env x t.node)

  abbrev all : List Node
  all = matches P (serial_of (t.env t.from)) (s ∷ [])

  abbrev left : ℕ
  left = rounds_left v.rows r.present r.next

  abbrev context : NodeAt v.rows P (holds past) r.context.0 (t.env t.from)
  context = round_context w v past k b begun no_copy r round

  -- what is told of the round with these
  abbrev ToldOf : Option Place → ℕ → Env → Node → Type 0
  ToldOf found y env n = TurnsAt v.rows (later n (matches P (serial_of (env y)) (s ∷ []))) (λ j. IsQuiet e (bind_var env x j) P) (is_closed P (env y) ≡ true) left found

  -- it is that at the top
  pub told_on : (found : Option Place) → ToldOf found t.from t.env t.node → TurnIn P v.rows b.position.fs r found
  told_on found told y env n top below h =
      let f = same_first frame (LoopRound x y s e env n) t.below below (same_tail rest top (frame ∷ t.below) (LoopRound x y s e env n ∷ below) (sym t.is ∙ h)) in
      let q = same_from x s e t.from y t.env env t.node n f in
      subst (λ (z : ℕ). ToldOf found z env n) q.0 (subst (λ (z : Env). ToldOf found t.from z n) q.1 (subst (λ (z : Node). ToldOf found t.from t.env z) q.2 told))

  -- ---- without a match at hand: a search is made

  module _ (u : Watermark) (is : r.next ≡ NoneUpTo u) where
    knows : KnowsNext v.rows (later t.node all) (NoneUpTo u)
    knows = subst (λ (z : Next). KnowsNext v.rows (later t.node all) z) is t.round.next

    upto : IsUpTo P t.node (NoneUpTo u)
    upto = subst (λ (z : Next). IsUpTo P t.node z) is t.round.upto

    kept : (m : Node) → In m (later t.node all) → (holds past m ≡ true) × (u.0 < serial_of m)
    kept m i = (later_kept w v past k b begun no_copy r round m i, knows m i)

    pub searched : (found : Option Place) → ((c : Cell) → In c v.rows → c.place ≡ r.context.0 → Finds v.rows c s u.0 found) → ToldOf found t.from t.env t.node
    searched None finds =
        inl (none_seen v.rows P (holds past) (held_rows v past b.buffer) context.cell (t.env t.from) t.node s u.0 context.cell_among
        (at_node v.rows P (holds past) r.context.0 (t.env t.from) context) kept upto.0 (finds context.cell context.cell_among context.at))
    searched (Some p) finds =
        let f = seen_found v.rows P (holds past) (held_rows v past b.buffer) context.cell (t.env t.from) t.node s u.0 p.0 context.cell_among
        (at_node v.rows P (holds past) r.context.0 (t.env t.from) context) kept upto.0 (finds context.cell context.cell_among context.at).first in
        let i : In f.0 (later t.node all) = subst (λ (z : List Node). In f.0 z) (sym f.2) (inl refl) in
        let behind : u.0 < num f.3.cell = subst (λ (z : ℕ). u.0 < z) (sym f.3.number) (knows f.0 i) in
        let few = behind_fewer v.rows u.0 f.3.cell f.3.cell_among behind in
        let here : rows_behind (num f.3.cell) v.rows ≡ rows_behind (serial_of f.0) v.rows = ap (λ (z : ℕ). rows_behind z v.rows) f.3.number in
        let there : left ≡ rows_behind u.0 v.rows = ap (rounds_left v.rows r.present) is in
        ([], f.0, f.1, f.2, (λ j i. absurd i), at_placed v.rows P (holds past) p.0 f.0 f.3, omega arith)

  -- ---- with a match at hand: the loop leaps

  module _ (q : Place) (is : r.next ≡ Found q) where
    next : KnowsNext v.rows (later t.node all) (Found q)
    next = subst (λ (z : Next). KnowsNext v.rows (later t.node all) z) is t.round.next

    abbrev m : Node
    m = next.0

    next_in : In m (later t.node all)
    next_in = subst (λ (z : List Node). In m z) (sym next.2) (inl refl)

    next_row : NodeAt v.rows P (holds past) q.0 m
    next_row = kept_at v.rows P (holds past) (held_rows v past b.buffer) m q.0 (later_in w v past k b begun no_copy r round m next_in) (later_kept w v past k b begun no_copy r round m next_in) next.3

    pub next_used : InUse v.rows q.0
    next_used = record { cell = next_row.cell; among = next_row.cell_among; place = next_row.at }

    abbrev pub loop_at : LoopAt past b.position.fs v.rows x s e r.context.0
    loop_at = record {
      from = t.from;
      env = t.env;
      top = rest ∷ [];
      frame = frame;
      below = t.below;
      is_loop = inl (t.node, refl);
      fs_are = t.is;
      among = context.among;
      held = context.kept;
      context_at = t.round.context;
    }

    module _ (from : Serial) (at : from.0 ≡ serial_at q.0 v.rows) (row : (c : Cell) → In c v.rows → c.place ≡ q.0 → num c ≡ from.0) where
      same : from.0 ≡ serial_of m
      same = sym (row next_row.cell next_row.cell_among next_row.at) ∙ next_row.number

      rise : Rising all
      rise = Matches-rising P (grown_from P b.buffer.is_past.grown) (serial_of (t.env t.from)) (s ∷ [])

      fewer : rows_behind (serial_of m) v.rows < left
      fewer =
          let l : left ≡ suc (rows_behind (serial_at q.0 v.rows) v.rows) = ap (rounds_left v.rows r.present) is in
          let f : rows_behind (serial_at q.0 v.rows) v.rows ≡ rows_behind (serial_of m) v.rows = ap (λ (z : ℕ). rows_behind z v.rows) (sym at ∙ same) in
          omega arith

      abbrev quiet : Node → Type 0
      quiet j = IsQuiet e (bind_var t.env x j) P

      abbrev closed : Type 0
      closed = is_closed P (t.env t.from) ≡ true

      stays : ToldOf (Some q) t.from t.env t.node
      stays = turns_stay v.rows all rise t.node m next.1 next.2 quiet closed from same q next.3 left fewer

      leaps_to : (n : Position) (p : Place) → LeapsTo w n v x s e r.context.0 (Some from) (To p) → ToldOf (Some p) t.from t.env t.node
      leaps_to n p h = turns_to v.rows all rise t.node m next.1 next.2 quiet closed from same p (h past k b loop_at).2 left fewer

      leaps_over : (n : Position) → LeapsTo w n v x s e r.context.0 (Some from) Over → ToldOf None t.from t.env t.node
      leaps_over n h = let l = h past k b loop_at in turns_over v.rows all rise t.node m next.1 next.2 quiet closed from same l.2 (over l.3) left
        where
          over : (Over ≡ Stay) ⊎ closed → closed
          over (inl f) = absurd (cc)
          over (inr c) = c

      -- it is told of the position that has leapt
      abbrev pub Leapt : Position → Option Place → Type 0
      Leapt n found = (c : Beside n v past k) × TurnIn P v.rows c.position.fs r found

      leapt : (n : Position) (l : Leap) → LeapsTo w n v x s e r.context.0 (Some from) l → (found : Option Place) → ToldOf found t.from t.env t.node → Leapt n found
      leapt n l h found told = let c = h past k b loop_at in (c.0, subst (λ (z : List Frame). TurnIn P v.rows z r found) (sym c.1) (told_on found told))

      pub turn_stays : (n : Position) → LeapsTo w n v x s e r.context.0 (Some from) Stay → Leapt n (Some q)
      turn_stays n h = leapt n Stay h (Some q) stays

      pub turn_leaps : (n : Position) (p : Place) → LeapsTo w n v x s e r.context.0 (Some from) (To p) → Leapt n (Some p)
      turn_leaps n p h = leapt n (To p) h (Some p) (leaps_to n p h)

      pub turn_is_over : (n : Position) → LeapsTo w n v x s e r.context.0 (Some from) Over → Leapt n None
      turn_is_over n h = leapt n Over h None (leaps_over n h)
