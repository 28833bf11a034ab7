-- A loop looks for its next match while a statement is still to come in its body.
use Rattle.std.proofs.Common.{◌≡◌, ℕ, true, List, [], ◌∷◌, ◌++◌, reverse, Some, None, refl, sym, ◌∙◌, subst, inl, inr}
use Rattle.gcx_model.specs.declared.item.Item.{Item}
use Rattle.gcx_model.specs.declared.item.Item.TheVariants as item
use Rattle.gcx_model.specs.declared.item.Off.{Off}
use Rattle.gcx_model.specs.ItemView.{off_tree}
use Rattle.gcx_model.specs.Tree.{Node, serial_of, Tree}
use Rattle.gcx_model.specs.Members.{In}
use Rattle.gcx_model.specs.Truth.{Env, bind_var}
use Rattle.gcx_model.specs.Run.{idle, run}
use Rattle.gcx_model.specs.Past.{Past}
use Rattle.gcx_model.specs.Points.{Frame, Rest, LoopRound, to_come, Bound_in}
use Rattle.run_laws.proofs.Free.{some_acts}
use Rattle.tree_laws.proofs.Matches.{Matches-in}
use Rattle.past_laws.proofs.Bases.{is_grown}
use Rattle.tree_laws.proofs.Chains.{hits_one}
use Rattle.placed_laws.proofs.PointForms.{seq-idle}
use Rattle.placed_laws.proofs.Waits.{Has}
use Rattle.buf_tree.specs.Shape.{Cell, num}
use Rattle.buf_tree.specs.Match.{GoesFrom}
use Rattle.buf_tree.specs.View.{View}
use Rattle.cond_eval.specs.Asking.{IsBound}
use Rattle.cond_eval.specs.Bindings.{Bindings}
use Rattle.cond_eval.specs.Reads.{NodeAt}
use Rattle.pull_eval.specs.Position.{items, EndsWithOff, LooksInTime, AreFrames, in_round}
use Rattle.pull_eval.specs.Acting.{Beside}
use Rattle.pull_eval.specs.Rounds.{Learnt}
use Rattle.pull_eval.specs.declared.block.Next.{Next}
use Rattle.pull_eval.specs.declared.block.Next.TheVariants.{Unsought, Found, NoneUpTo}
use Rattle.pull_eval.specs.declared.block.Round.{Round as CodeRound}
use Rattle.pull_eval.specs.declared.block.Block.{Block}
use Rattle.pull_eval.specs.declared.position.Position.{Position}
use Rattle.cond_eval.proofs.Rows.{kept_at, at_node}
use Rattle.cond_eval.proofs.RowSteps.{from_match}
use Rattle.pull_eval.proofs.HeldRows.{holds, held_rows}
use Rattle.pull_eval.proofs.Frames.{fold_Off, stands_plainly, turns_still}
use Rattle.pull_eval.proofs.Needing.{needed_held}
use Rattle.pull_eval.proofs.Writing.{beside_still}
use Rattle.pull_eval.proofs.RoundFrames.{TopRound, top_round, AtRound, at_round}
use Rattle.pull_eval.proofs.NextMatches.{learnt_next}
use Rattle.pull_eval.proofs.RoundEnds.{present_match, present_in, round_context, later_kept}

-- ---- a run in which a statement is to come isn't over without an action

ends_has : (front : List Item) (o : Off) → Has (off_tree o) (items (front ++ item.Off o ∷ []))
ends_has [] o = inl (fold_Off o)
ends_has (x ∷ front) o = inr (ends_has front o)

still_acts : (is : List Item) (env : Env) (P : Tree) → EndsWithOff is → to_come P (Rest (items is) env ∷ []) ≡ idle true → ⊥
still_acts is env P l e =
    some_acts (off_tree l.1) (items is) env P (subst (λ (z : List Item). Has (off_tree l.1) (items z)) (sym l.2) (ends_has l.0 l.1)) (sym (seq-idle (run (items is) env P)) ∙ e)

-- ---- the loop looks

ends_while : (next : Next) (is : List Item) → next ≡ Unsought → LooksInTime next is → EndsWithOff is
ends_while Unsought is e l = l
ends_while (Found p) is e l = absurd (cc)
ends_while (NoneUpTo s) is e l = absurd (cc)

pub sought_looks : (next : Next) (is : List Item) → (next ≡ Unsought → ⊥) → LooksInTime next is
sought_looks Unsought is h = absurd (h refl)
sought_looks (Found p) is h = tt
sought_looks (NoneUpTo s) is h = tt

module _ (w : Position) (v : View) (past : Past) (k : ℕ) (b : Beside w v past k) (begun : w.is_begun ≡ true) (no_copy : w.copying ≡ None) (r : CodeRound) (round : w.top.round ≡ Some r) (unsought : r.next ≡ Unsought) where
  abbrev P : Tree
  P = past.tree

  abbrev t : TopRound v.rows past.tree w.top r (reverse w.below.items) b.position.fs
  t = top_round w v past k b r round

  abbrev at : AtRound w v past k r b.position.fs (top_round w v past k b r round)
  at = at_round w v past k b r round no_copy

  abbrev rest : Frame
  rest = Rest (items w.top.rest.now) (bind_var t.env r.var.0 t.node)

  abbrev frame : Frame
  frame = LoopRound r.var.0 t.from r.step.now (items r.body.now) t.env t.node

  abbrev context : NodeAt v.rows past.tree (holds past) r.context.0 (t.env t.from)
  context = round_context w v past k b begun no_copy r round

  -- the present match is still a row
  pub round_present : NodeAt v.rows past.tree (holds past) r.present.0 t.node
  round_present =
      let i = present_in w v past k b begun no_copy r round in
      let acts = still_acts w.top.rest.now (bind_var t.env r.var.0 t.node) P (ends_while r.next w.top.rest.now unsought t.looked) in
      kept_at v.rows P (holds past) (held_rows v past b.buffer) t.node r.present.0 i
      (needed_held w v past k b (rest ∷ frame ∷ t.below) at.point.point t.node i (inr (inl (inl (inl (acts, refl)))))) t.round.present

  pub looks_from : GoesFrom v.rows r.context.0 r.step.now.axis r.present.0
  looks_from =
      let m = Matches-in P (serial_of (t.env t.from)) (r.step.now ∷ []) t.node (present_match w v past k b begun no_copy r round) in
      record {
        top = record { cell = context.cell; among = context.cell_among; place = context.at };
        from = record { cell = round_present.cell; among = round_present.cell_among; place = round_present.at };
        way = from_match v.rows P (holds past) (held_rows v past b.buffer) context.cell round_present.cell (t.env t.from) t.node r.step.now context.cell_among round_present.cell_among
            (at_node v.rows P (holds past) r.context.0 (t.env t.from) context) (at_node v.rows P (holds past) r.present.0 t.node round_present)
            (hits_one P (is_grown past b.buffer.is_past) (serial_of (t.env t.from)) r.step.now t.node m.0 m.1);
      }

  pub looked : (n : Position) (next : Next) → ((c d : Cell) → In c v.rows → In d v.rows → c.place ≡ r.context.0 → d.place ≡ r.present.0 → Learnt v c r.step.now (num d) next) → (next ≡ Unsought → ⊥)
      → n.top ≡ record w.top { round = Some (record r { next = next }) } → n.below.items ≡ w.below.items → n.env ≡ w.env → n.copying ≡ w.copying → n.turns.items ≡ w.turns.items → n.is_begun ≡ w.is_begun → Beside n v past k
  looked n next learnt sought top blocks env_is copying turns is_begun =
      let fs = rest ∷ frame ∷ t.below in
      let l = learnt_next v past b.buffer context.cell (t.env t.from) t.node r.step.now next context.cell_among (at_node v.rows P (holds past) r.context.0 (t.env t.from) context)
      (present_in w v past k b begun no_copy r round) (num round_present.cell) round_present.number (later_kept w v past k b begun no_copy r round)
      (learnt context.cell round_present.cell context.cell_among round_present.cell_among context.at round_present.at) in
      let own : AreFrames v.rows P (record w.top { round = Some (record r { next = next }) } ∷ reverse w.below.items) fs =
      in_round (record r { next = next }) refl (record { var = refl; step = refl; body = refl; context = t.round.context; present = t.round.present; next = l.0; upto = l.1 })
      (sought_looks next w.top.rest.now sought) t.seen t.others in
      let frames : AreFrames v.rows P (n.top ∷ reverse n.below.items) fs =
      subst (λ (z : List Block). AreFrames v.rows P (n.top ∷ reverse z) fs) (sym blocks) (subst (λ (z : Block). AreFrames v.rows P (z ∷ reverse w.below.items) fs) (sym top) own) in
      let bound : (z : ℕ) (j : Node) → Bound_in z j fs → IsBound v.rows n.env z j = λ z j h. subst (λ (q : Bindings). IsBound v.rows q z j) (sym env_is) (at.bound begun z j h) in
      beside_still w n v past k b (stands_plainly n v.rows past.plan P k fs (copying ∙ no_copy) (is_begun ∙ begun) (turns_still w n v.rows past.plan P k turns b.position) at.point.point frames bound)
