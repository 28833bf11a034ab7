-- A loop is entered at its first match, passed where it has none and none comes, and waits where none has come yet.
use Rattle.std.proofs.Common.{◌≡◌, ◌<◌, suc, ℕ, Bool, true, false, not, List, [], ◌∷◌, ◌++◌, length, reverse, Option, Some, None, refl, sym, ◌∙◌, ap, subst, inl, inr, arith}
use Rattle.std.specs.FinMap as map
use Rattle.gcx_base.specs.declared.steps.Step.{Step}
use Rattle.gcx_model.specs.declared.item.Item.{Item}
use Rattle.gcx_model.specs.Tree.{Node, serial_of, Tree, is_closed}
use Rattle.gcx_model.specs.Paths.{matches}
use Rattle.gcx_model.specs.Members.{In}
use Rattle.gcx_model.specs.Nodes.{Rising}
use Rattle.gcx_model.specs.Core.{For, BodyTree, Then}
use Rattle.gcx_model.specs.Truth.{Env, bind_var}
use Rattle.gcx_model.specs.Past.{Past}
use Rattle.gcx_model.specs.Points.{Frame, Rest, LoopRound, PointAt, Bound_in}
use Rattle.move_laws.proofs.Moving.{first_round, no_round, loop_waits}
use Rattle.tree_laws.proofs.Matches.{Matches-in, Matches-rising}
use Rattle.tree_laws.proofs.Fed.{grown_from}
use Rattle.pass_laws.specs.Idle.{IsQuiet}
use Rattle.tree_laws.proofs.Chains.{hits_one}
use Rattle.past_laws.proofs.Bases.{is_grown}
use Rattle.run_laws.proofs.Free.{loop_variable_free}
use Rattle.buf_tree.specs.Shape.{Cell}
use Rattle.buf_tree.specs.Match.{GoesFrom}
use Rattle.buf_tree.specs.View.{View, serial_at}
use Rattle.cond_eval.specs.Asking.{IsBound}
use Rattle.cond_eval.specs.Bindings.{Bindings}
use Rattle.cond_eval.specs.Reads.{NodeAt}
use Rattle.pull_eval.specs.Position.{items, SeenTo, AreFrames}
use Rattle.pull_eval.specs.Weight.{weigh_block, weigh_blocks, weigh_copying, weight}
use Rattle.pull_eval.specs.Acting.{Beside, IsNextItem, Moves}
use Rattle.cond_eval.specs.Searches.{Finds}
use Rattle.pull_eval.specs.Rounds.{from_seen, Began}
use Rattle.pull_eval.specs.Leaps.{IsFirstAt, FirstIn, LoopAt, LeapsTo}
use Rattle.pull_eval.specs.declared.turns.Leap.{Leap}
use Rattle.pull_eval.specs.declared.turns.Leap.TheVariants.{Stay, To, Over}
use Rattle.pull_eval.specs.declared.block.Round.{Round as CodeRound}
use Rattle.pull_eval.specs.declared.block.Block.{Block}
use Rattle.node_store.specs.declared.store.Place.{Place}
use Rattle.pull_eval.specs.declared.position.Position.{Position}
use Rattle.pull_eval.specs.declared.machine.Acted.TheVariants as outcomes
use Rattle.cond_eval.proofs.Rows.{kept_at, at_node, at_placed, closed_told}
use Rattle.cond_eval.proofs.RowSteps.{from_match}
use Rattle.pull_eval.proofs.HeldRows.{holds, held_rows}
use Rattle.pull_eval.proofs.Frames.{LooksOn, at_item, goes_on, stands_plainly, below_pushed, turns_still}
use Rattle.pull_eval.proofs.Weighing.{weigh_pushed, weigh_on}
use Rattle.pull_eval.proofs.Writing.{beside_still}
use Rattle.pull_eval.proofs.RoundFrames.{bound_anew}
use Rattle.pull_eval.proofs.RoundMoves.{round_block, begun_frames, begun_weight, all_kept, context_told, first_there, none_there}
use Rattle.pull_eval.proofs.RoundWeights.{behind_few}
use Rattle.pull_eval.proofs.Leaping.{first_to, first_over}

-- the block that goes on behind the loop
pub record GoesBehind (w mid : Position) (after : Block) : Type 0 where
  pub round : after.round ≡ w.top.round
  pub seen : after.seen ≡ 0
  pub below : mid.below.items ≡ w.below.items ++ after ∷ []
  pub env : mid.env ≡ w.env
  pub copying : mid.copying ≡ w.copying
  pub turns : mid.turns.items ≡ w.turns.items
  pub is_begun : mid.is_begun ≡ w.is_begun

module _ (w : Position) (v : View) (past : Past) (k : ℕ) (b : Beside w v past k) (begun : w.is_begun ≡ true) (r : CodeRound) (y : ℕ) (after : Block) (next : IsNextItem w (For r.var.0 y r.step.now (items r.body.now)) (items after.rest.now)) where
  abbrev P : Tree
  P = past.tree

  abbrev x : ℕ
  x = r.var.0

  abbrev s : Step
  s = r.step.now

  abbrev e : BodyTree
  e = items r.body.now

  abbrev d : BodyTree
  d = items after.rest.now

  abbrev env : Env
  env = (at_item w v past k b (For x y s e) d next).env

  abbrev below : List Frame
  below = (at_item w v past k b (For x y s e) d next).below

  abbrev ms : List Node
  ms = matches P (serial_of (env y)) (s ∷ [])

  module _ (mid n : Position) (goes : GoesBehind w mid after) (g : Began v mid n r) (at : NodeAt v.rows P (holds past) r.context.0 (env y)) (m : Node) (rest : List Node) (first : ms ≡ m ∷ rest) (here : NodeAt v.rows P (holds past) r.present.0 m) where
    abbrev fs : List Frame
    fs = Rest e (bind_var env x m) ∷ LoopRound x y s e env m ∷ Rest d env ∷ below

    point : PointAt past.plan P k fs
    point = first_round past.plan P k x y s e d env below m rest (at_item w v past k b (For x y s e) d next).point first

    frames : AreFrames v.rows P (n.top ∷ reverse n.below.items) fs
    frames =
        let others = goes_on w v past k b (For x y s e) after next (λ h. h) goes.round goes.seen in
        let own = begun_frames w mid n v past k b r y env m (Rest d env ∷ below) (after ∷ reverse w.below.items) g at here point others in
        let blocks : reverse n.below.items ≡ after ∷ reverse w.below.items = ap reverse (g.below ∙ goes.below) ∙ below_pushed w.below.items after in
        subst (λ (z : List Block). AreFrames v.rows P (n.top ∷ z) fs) (sym blocks) (subst (λ (z : Block). AreFrames v.rows P (z ∷ after ∷ reverse w.below.items) fs) (sym g.top) own)

    bound : (z : ℕ) (j : Node) → Bound_in z j fs → IsBound v.rows n.env z j
    bound z j h =
        let is = b.buffer.is_past in
        let a = at_item w v past k b (For x y s e) d next in
        let free = loop_variable_free is.core is.good past.plan is.placed P k [] below x y s e d env a.point.point in
        let number : serial_at r.present.0 v.rows ≡ serial_of m = g.serial here.cell here.cell_among here.at ∙ here.number in
        let env_is : n.env ≡ map.insert w.env x (r.present.0, serial_of m) = g.env ∙ ap (λ (z : Bindings). map.insert z x (r.present.0, serial_at r.present.0 v.rows)) goes.env ∙ ap (λ (t : ℕ). map.insert w.env x (r.present.0, t)) number in
        bound_anew v.rows w.env n.env x r.present.0 m below env_is (at_placed v.rows P (holds past) r.present.0 m here) free.1 (a.bound begun) z j h

    falls : weight v.rows n < weight v.rows w
    falls =
        let own = begun_weight w mid n v past k b r (env y) m g at here (length v.rows) (behind_few v.rows here.cell here.cell_among) in
        let top : weigh_block v.rows n.top ≡ weigh_block v.rows (round_block r g.next) = ap (weigh_block v.rows) g.top in
        let old = weigh_on v.rows w.top after (For x y s e) next.next goes.round in
        let blocks : weigh_blocks v.rows n.below.items ≡ weigh_blocks v.rows (w.below.items ++ after ∷ []) = ap (weigh_blocks v.rows) (g.below ∙ goes.below) in
        let pushed = weigh_pushed v.rows w.below.items after in
        let copying : weigh_copying n.copying ≡ weigh_copying w.copying = ap weigh_copying (g.copying ∙ goes.copying) in
        omega arith

    pub entered : (out : List ℕ) → Moves past k w n v v out out None
    entered out =
        let no_copy : n.copying ≡ None = g.copying ∙ goes.copying ∙ next.no_copy in
        let is_begun : n.is_begun ≡ true = g.begun ∙ goes.is_begun ∙ begun in
        (refl, refl, beside_still w n v past k b (stands_plainly n v.rows past.plan P k fs no_copy is_begun (turns_still w n v.rows past.plan P k (g.turns ∙ goes.turns) b.position) point frames bound), falls)

  -- without a match, and none to come
  pub passed : (n : Position) → n.top ≡ after → after.round ≡ w.top.round → after.seen ≡ 0 → n.below.items ≡ w.below.items → n.env ≡ w.env → n.copying ≡ w.copying → n.turns.items ≡ w.turns.items → n.is_begun ≡ w.is_begun
      → ms ≡ [] → is_closed P (env y) ≡ true → (out : List ℕ) → Moves past k w n v v out out None
  passed n top round seen blocks env_is copying turns is_begun none_left closed out =
      let a = at_item w v past k b (For x y s e) d next in
      let point : PointAt past.plan P k (Rest d env ∷ below) = no_round past.plan P k x y s e d env below a.point none_left closed in
      let own = goes_on w v past k b (For x y s e) after next (λ h. h) round seen in
      let frames : AreFrames v.rows P (n.top ∷ reverse n.below.items) (Rest d env ∷ below) =
      subst (λ (z : List Block). AreFrames v.rows P (n.top ∷ reverse z) (Rest d env ∷ below)) (sym blocks) (subst (λ (z : Block). AreFrames v.rows P (z ∷ reverse w.below.items) (Rest d env ∷ below)) (sym top) own) in
      let bound : (z : ℕ) (j : Node) → Bound_in z j below → IsBound v.rows n.env z j = λ z j h. subst (λ (q : Bindings). IsBound v.rows q z j) (sym env_is) (a.bound begun z j h) in
      let stands = stands_plainly n v.rows past.plan P k (Rest d env ∷ below) (copying ∙ next.no_copy) (is_begun ∙ begun) (turns_still w n v.rows past.plan P k turns b.position) point frames bound in
      let new : weigh_block v.rows n.top ≡ weigh_block v.rows after = ap (weigh_block v.rows) top in
      let old = weigh_on v.rows w.top after (For x y s e) next.next round in
      let others : weigh_blocks v.rows n.below.items ≡ weigh_blocks v.rows w.below.items = ap (weigh_blocks v.rows) blocks in
      let copies : weigh_copying n.copying ≡ weigh_copying w.copying = ap weigh_copying copying in
      (refl, refl, beside_still w n v past k b stands, omega arith)

  looks_same : (m : Option CodeRound) (is : List Item) → LooksOn m is is
  looks_same None is = tt
  looks_same (Some q) is = λ l. l

  -- without a match, of which some may come
  pub waits : (n : Position) (u : ℕ) → n.top ≡ record w.top { seen = u } → suc u ≡ v.nodes → n.below.items ≡ w.below.items → n.env ≡ w.env → n.copying ≡ w.copying → n.turns.items ≡ w.turns.items → n.is_begun ≡ w.is_begun
      → ms ≡ [] → is_closed P (env y) ≡ false → (out : List ℕ) → Moves past k w n v v out out (Some outcomes.Blocked)
  waits n u top upto blocks env_is copying turns is_begun none_left open_still out =
      let a = at_item w v past k b (For x y s e) d next in
      let fs = Rest (items w.top.rest.now) env ∷ below in
      let number : v.nodes ≡ length P.nodes = b.buffer.nodes in
      let seen : SeenTo P env (items w.top.rest.now) u = subst (λ (z : BodyTree). SeenTo P env z u) (sym next.next) ((λ m i. absurd (subst (λ (z : List Node). In m z) none_left i)), inr (omega arith)) in
      let own : AreFrames v.rows P (record w.top { seen = u } ∷ reverse w.below.items) fs = a.goes (record w.top { seen = u }) refl (looks_same w.top.round w.top.rest.now) seen in
      let frames : AreFrames v.rows P (n.top ∷ reverse n.below.items) fs =
      subst (λ (z : List Block). AreFrames v.rows P (n.top ∷ reverse z) fs) (sym blocks) (subst (λ (z : Block). AreFrames v.rows P (z ∷ reverse w.below.items) fs) (sym top) own) in
      let point : PointAt past.plan P k fs = subst (λ (z : BodyTree). PointAt past.plan P k (Rest z env ∷ below)) (sym next.next) a.point.point in
      let bound : (z : ℕ) (j : Node) → Bound_in z j below → IsBound v.rows n.env z j = λ z j h. subst (λ (q : Bindings). IsBound v.rows q z j) (sym env_is) (a.bound begun z j h) in
      let stands = stands_plainly n v.rows past.plan P k fs (copying ∙ next.no_copy) (is_begun ∙ begun) (turns_still w n v.rows past.plan P k turns b.position) point frames bound in
      (loop_waits past.plan P k x y s e d env below a.point none_left open_still, refl, refl, beside_still w n v past k b stands)

  -- ---- in the words of the code: the place of the loop's context is that to which its variable is bound

  abbrev ToldAt : ℕ → Type 0
  ToldAt p = (q t : ℕ) → map.get w.env y ≡ Some (q, t) → p ≡ q

  abbrev SearchTold : ℕ → Option Place → Type 0
  SearchTold p found = (c : Cell) → In c v.rows → c.place ≡ p → Finds v.rows c s (from_seen c w.top.seen) found

  abbrev ClosedTold : ℕ → Bool → Type 0
  ClosedTold p closed = (c : Cell) → In c v.rows → c.place ≡ p → closed ≡ not c.row.is_open

  -- the row of the first match
  first_row : (p : Place) → IsFirstAt v.rows ms (Some p) → (m : Node) × (rest : List Node) × (ms ≡ m ∷ rest) × NodeAt v.rows P (holds past) p.0 m
  first_row p first =
      let i : In first.0 ms = subst (λ (z : List Node). In first.0 z) (sym first.2) (inl refl) in
      let j = (Matches-in P (serial_of (env y)) (s ∷ []) first.0 i).0 in
      (first.0, first.1, first.2, kept_at v.rows P (holds past) (held_rows v past b.buffer) first.0 p.0 j (all_kept w v past k b begun x y s e d next first.0 i) first.3)

  -- a search may go on from it
  pub enters_from : (q : ℕ) → ToldAt q → (p : Place) → IsFirstAt v.rows ms (Some p) → GoesFrom v.rows q s.axis p.0
  enters_from q told p first =
      let at = context_told w v past k b begun x y s e d next q told in
      let f = first_row p first in
      let i : In f.0 ms = subst (λ (z : List Node). In f.0 z) (sym f.2) (inl refl) in
      let m = Matches-in P (serial_of (env y)) (s ∷ []) f.0 i in
      record {
        top = record { cell = at.cell; among = at.cell_among; place = at.at };
        from = record { cell = f.3.cell; among = f.3.cell_among; place = f.3.at };
        way = from_match v.rows P (holds past) (held_rows v past b.buffer) at.cell f.3.cell (env y) f.0 s at.cell_among f.3.cell_among
            (at_node v.rows P (holds past) q (env y) at) (at_node v.rows P (holds past) p.0 f.0 f.3)
            (hits_one P (is_grown past b.buffer.is_past) (serial_of (env y)) s f.0 m.0 m.1);
      }

  pub enters : (mid n : Position) → GoesBehind w mid after → Began v mid n r → ToldAt r.context.0 → IsFirstAt v.rows ms (Some r.present) → (out : List ℕ) → Moves past k w n v v out out None
  enters mid n goes g told first out =
      let at = context_told w v past k b begun x y s e d next r.context.0 told in
      let f = first_row r.present first in
      entered mid n goes g at f.0 f.1 f.2 f.3 out

  -- what a search finds is the first match
  searched : (p : ℕ) → ToldAt p → (found : Option Place) → SearchTold p found → IsFirstAt v.rows ms found
  searched p told None search = let at = context_told w v past k b begun x y s e d next p told in none_there w v past k b begun x y s e d next p at (search at.cell at.cell_among at.at)
  searched p told (Some q) search =
      let at = context_told w v past k b begun x y s e d next p told in
      let f = first_there w v past k b begun x y s e d next p q.0 at (search at.cell at.cell_among at.at).first in
      (f.0, f.1, f.2, at_placed v.rows P (holds past) q.0 f.0 f.3)

  closed_is : (p : ℕ) (closed : Bool) → ToldAt p → ClosedTold p closed → is_closed P (env y) ≡ closed
  closed_is p closed told row =
      let at = context_told w v past k b begun x y s e d next p told in
      sym (closed_told v.rows P (holds past) (held_rows v past b.buffer) at.cell (env y) (at_node v.rows P (holds past) p (env y) at)) ∙ sym (row at.cell at.cell_among at.at)

  pub passes : (n : Position) → n.top ≡ after → after.round ≡ w.top.round → after.seen ≡ 0 → n.below.items ≡ w.below.items → n.env ≡ w.env → n.copying ≡ w.copying → n.turns.items ≡ w.turns.items → n.is_begun ≡ w.is_begun
      → (p : ℕ) (closed : Bool) → ToldAt p → IsFirstAt v.rows ms None → ClosedTold p closed → closed ≡ true → (out : List ℕ) → Moves past k w n v v out out None
  passes n top round seen blocks env_is copying turns is_begun p closed told nothing row is out =
      passed n top round seen blocks env_is copying turns is_begun nothing (closed_is p closed told row ∙ is) out

  pub waits_there : (n : Position) (u : ℕ) → n.top ≡ record w.top { seen = u } → suc u ≡ v.nodes → n.below.items ≡ w.below.items → n.env ≡ w.env → n.copying ≡ w.copying → n.turns.items ≡ w.turns.items → n.is_begun ≡ w.is_begun
      → (p : ℕ) (closed : Bool) → ToldAt p → IsFirstAt v.rows ms None → ClosedTold p closed → closed ≡ false → (out : List ℕ) → Moves past k w n v v out out (Some outcomes.Blocked)
  waits_there n u top upto blocks env_is copying turns is_begun p closed told nothing row is out =
      waits n u top upto blocks env_is copying turns is_begun nothing (closed_is p closed told row ∙ is) out

  -- ---- what is found of the first match

  same_env : (other : Env) (under : List Frame) → Rest (Then (For x y s e) d) env ∷ below ≡ Rest (Then (For x y s e) d) other ∷ under → env ≡ other
  same_env other under h = cc

  first_in : (found : Option Place) → IsFirstAt v.rows ms found → FirstIn P v.rows b.position.fs x y s e d found
  first_in found first other under h =
      subst (λ (z : Env). IsFirstAt v.rows (matches P (serial_of (z y)) (s ∷ [])) found) (same_env other under (sym (at_item w v past k b (For x y s e) d next).frames_are ∙ h)) first

  pub first_at : (found : Option Place) → FirstIn P v.rows b.position.fs x y s e d found → IsFirstAt v.rows ms found
  first_at found told = let a = at_item w v past k b (For x y s e) d next in told a.env a.below a.frames_are

  -- the loop comes next
  abbrev pub loop_at : (p : ℕ) → ToldAt p → LoopAt past b.position.fs v.rows x s e p
  loop_at p told =
      let at = context_told w v past k b begun x y s e d next p told in
      record {
        from = y;
        env = env;
        top = [];
        frame = Rest (Then (For x y s e) d) env;
        below = below;
        is_loop = inr (d, refl);
        fs_are = (at_item w v past k b (For x y s e) d next).frames_are;
        among = at.among;
        held = at.kept;
        context_at = at_placed v.rows P (holds past) p (env y) at;
      }

  rise : Rising ms
  rise = Matches-rising P (grown_from P b.buffer.is_past.grown) (serial_of (env y)) (s ∷ [])

  abbrev quiet : Node → Type 0
  quiet j = IsQuiet e (bind_var env x j) P

  leaps_to : (p : ℕ) → ToldAt p → (m : Position) (q : Place) → LeapsTo w m v x s e p None (To q) → IsFirstAt v.rows ms (Some q)
  leaps_to p told m q h = first_to v.rows ms rise quiet q (h past k b (loop_at p told)).2

  leaps_over : (p : ℕ) → ToldAt p → (m : Position) → LeapsTo w m v x s e p None Over → IsFirstAt v.rows ms None
  leaps_over p told m h = first_over v.rows ms rise quiet (h past k b (loop_at p told)).2

  -- it is told of the position that has leapt
  abbrev pub Leapt : Position → Option Place → Type 0
  Leapt m found = (c : Beside m v past k) × FirstIn P v.rows c.position.fs x y s e d found

  leapt : (p : ℕ) → ToldAt p → (m : Position) (l : Leap) → LeapsTo w m v x s e p None l → (found : Option Place) → IsFirstAt v.rows ms found → Leapt m found
  leapt p told m l h found first = let c = h past k b (loop_at p told) in (c.0, subst (λ (z : List Frame). FirstIn P v.rows z x y s e d found) (sym c.1) (first_in found first))

  pub first_stays : (p : ℕ) → ToldAt p → (m : Position) → LeapsTo w m v x s e p None Stay → (found : Option Place) → SearchTold p found → Leapt m found
  first_stays p told m h found search = leapt p told m Stay h found (searched p told found search)

  pub first_leaps : (p : ℕ) → ToldAt p → (m : Position) (q : Place) → LeapsTo w m v x s e p None (To q) → Leapt m (Some q)
  first_leaps p told m q h = leapt p told m (To q) h (Some q) (leaps_to p told m q h)

  pub first_is_none : (p : ℕ) → ToldAt p → (m : Position) → LeapsTo w m v x s e p None Over → Leapt m None
  first_is_none p told m h = leapt p told m Over h None (leaps_over p told m h)
