-- A statement that comes next is due at the node of its base, and what it leaves stands for the past behind it.
use Rattle.std.proofs.Common.{◌≡◌, ◌+◌, ◌-◌, suc, ℕ, true, List, [], ◌∷◌, ◌++◌, reverse, Option, Some, None, refl, sym, ◌∙◌, ap, subst, inl, inr, arith}
use Rattle.std.specs.FinMap as map
use Rattle.std.specs.FinSet as set
use Rattle.std.proofs.lemmas.Bool.{false_from_ne_true}
use Rattle.gcx_base.specs.declared.ids.Serial.{Serial}
use Rattle.gcx_model.specs.declared.item.Item.{Item}
use Rattle.gcx_model.specs.declared.item.Off.{Off}
use Rattle.gcx_model.specs.ItemView.{off_tree}
use Rattle.gcx_model.specs.Tree.{Node, serial_of, Tree}
use Rattle.gcx_model.specs.Members.{In}
use Rattle.gcx_model.specs.Core.{OffTree, BodyTree}
use Rattle.gcx_model.specs.Core as tree
use Rattle.gcx_model.specs.Truth.{Env}
use Rattle.gcx_model.specs.Run.{Action, Offed}
use Rattle.gcx_model.specs.Placed.{offs_in}
use Rattle.gcx_model.specs.Held.{statement_of, on_off, signed, sum_taken}
use Rattle.gcx_model.specs.Past.{Past, past_acted, is_signed}
use Rattle.gcx_model.specs.Points.{so_far, acted, Frame, Rest, PointAt, Bound_in}
use Rattle.move_laws.specs.Moves.{IsNext}
use Rattle.past_laws.specs.Pasts.{bases}
use Rattle.tree_laws.proofs.Lists.{In-right, In-filter}
use Rattle.tree_laws.proofs.Matches.{Numbered-same}
use Rattle.past_laws.proofs.Bases.{is_grown, own_tells}
use Rattle.move_laws.proofs.Moving.{off_move}
use Rattle.placed_laws.proofs.PointNeeds.{bound_law, unsigned_law}
use Rattle.placed_laws.proofs.PlanStatements.{one_statement_law}
use Rattle.tree_laws.proofs.OffsSigned.{signed_is_off}
use Rattle.placed_laws.proofs.Balances.{offs_at_matches}
use Rattle.run_laws.proofs.Summing.{sums_by_act}
use Rattle.buf_tree.specs.Shape.{Cell, num}
use Rattle.buf_tree.specs.View.{View, InUse, capped, serial_at}
use Rattle.buf_tree.specs.Calls.{Signed, role_count}
use Rattle.buf_tree.specs.Stands.{Seen, seen, told, StandsFor, Due}
use Rattle.buf_tree.proofs.Bridging.{cell_node}
use Rattle.buf_tree.proofs.Counts.{capped_twice}
use Rattle.buf_tree.proofs.Signing.{has_live, has_signed}
use Rattle.buf_tree.proofs.Departed.{departed_rows}
use Rattle.cond_eval.specs.Asking.{PlacedAt, IsBound}
use Rattle.cond_eval.specs.Bindings.{Bindings}
use Rattle.cond_eval.specs.Reads.{NodeAt}
use Rattle.pull_eval.specs.Turns.{TurnsStand}
use Rattle.pull_eval.specs.Position.{items, AreFrames}
use Rattle.pull_eval.specs.Acting.{Beside, IsNextItem, TakesAction, SoughtRound, SamePlaces, leaving}
use Rattle.pull_eval.specs.declared.block.Round.{Round as CodeRound}
use Rattle.pull_eval.specs.declared.block.Block.{Block}
use Rattle.pull_eval.specs.declared.position.Position.{Position}
use Rattle.pull_eval.specs.declared.machine.Acted.TheVariants as outcomes
use Rattle.cond_eval.proofs.Rows.{kept_at, rows_rise}
use Rattle.pull_eval.proofs.HeldRows.{holds, held_rows}
use Rattle.pull_eval.proofs.Frames.{LooksOn, at_item, begins_anew, stands_plainly, turns_still}
use Rattle.pull_eval.proofs.Needing.{used_in, used_bound, item_held}
use Rattle.pull_eval.proofs.RoundLooks.{sought_looks}
use Rattle.pull_eval.specs.TurnsStay.{all_placed}
use Rattle.pull_eval.proofs.SignedRows.{bound_fewer, frames_fewer, roles_counted}

-- where the loop has looked for its next match, it looks in time at all that is left
sought_on : (m : Option CodeRound) (is js : List Item) → SoughtRound m → LooksOn m is js
sought_on None is js h = tt
sought_on (Some r) is js h = λ l. sought_looks r.next js h

module _ (m : Position) (v : View) (past : Past) (k : ℕ) (b : Beside m v past k) (begun : m.is_begun ≡ true) (off : Off) (d : BodyTree) (next : IsNextItem m (tree.SignOff (off_tree off)) d) where
  abbrev P : Tree
  P = past.tree

  abbrev o : OffTree
  o = off_tree off

  abbrev env : Env
  env = (at_item m v past k b (tree.SignOff (off_tree off)) d next).env

  abbrev below : List Frame
  below = (at_item m v past k b (tree.SignOff (off_tree off)) d next).below

  -- the node of the base
  abbrev n : Node
  n = env off.base.0

  pub base_bound : IsBound v.rows m.env off.base.0 n
  base_bound = used_bound m v past k b (tree.SignOff o) d next begun off.base.0 refl

  pub base_row : (p : ℕ) → p ≡ base_bound.place → NodeAt v.rows P (holds past) p n
  base_row p q =
      let i = used_in m v past k b (tree.SignOff o) d next off.base.0 refl in
      kept_at v.rows P (holds past) (held_rows v past b.buffer) n p i (item_held m v past k b (tree.SignOff o) d next n i refl) (subst (λ (z : ℕ). PlacedAt v.rows (serial_of n) z) (sym q) base_bound.at)

  moved : IsNext past.plan P k (Offed o (serial_of n)) × PointAt past.plan P (suc k) (Rest d env ∷ below)
  moved = off_move past.plan P k o d env below (at_item m v past k b (tree.SignOff o) d next).point

  pub stated : In o (offs_in past.plan.body)
  stated =
      let is = b.buffer.is_past in
      let i : In (Offed o (serial_of n)) (so_far past.plan P (suc k)) = subst (λ (z : List Action). In (Offed o (serial_of n)) z) (sym moved.0.taken) (In-right (Offed o (serial_of n)) (so_far past.plan P k) (Offed o (serial_of n) ∷ []) (inl refl)) in
      (offs_at_matches is.core is.good past.plan is.placed P (suc k) (acted b.state moved.0.left) o (serial_of n) i).0

  pub base_match : In n (bases past o)
  base_match = let is = b.buffer.is_past in (bound_law is.core is.good past.plan is.placed P k b.state [] below (tree.SignOff o) d env (at_item m v past k b (tree.SignOff o) d next).point.point off.base.0 refl).1

  unsigned : is_signed past.plan past.acts n off.role.0 ≡ true → ⊥
  unsigned h =
      let is = b.buffer.is_past in
      let one : statement_of past.plan off.role.0 ≡ Some o = (one_statement_law is.core is.good past.plan is.placed off.role.0 o).1 (stated, refl) in
      let e : signed past.acts o n ≡ true = sym (ap (on_off (λ (q : OffTree). signed past.acts q n)) one) ∙ h in
      let i : In (Offed o (serial_of n)) (so_far past.plan P k) = subst (λ (z : List Action). In (Offed o (serial_of n)) z) b.acts ((signed_is_off past.acts o n).0 e) in
      unsigned_law is.core is.good past.plan is.placed P k b.state [] below o d env (at_item m v past k b (tree.SignOff o) d next).point.point i

  -- what the row of the base tells
  base_told : (p : ℕ) (q : p ≡ base_bound.place) → seen (base_row p q).cell ≡ told past n
  base_told p q =
      let row = base_row p q in
      let c = cell_node past b.buffer.is_past v.rows (rows_rise v.rows P (holds past) (held_rows v past b.buffer)) b.buffer.rows row.cell row.cell_among in
      let number : serial_of c.0 ≡ serial_of n = sym (ap (λ (z : Seen). z.serial) c.2) ∙ row.number in
      let same : c.0 ≡ n = Numbered-same 0 P.nodes (is_grown past b.buffer.is_past).numbered c.0 n (In-filter (holds past) c.0 P.nodes c.1).0 row.among number in
      subst (λ (z : Node). seen row.cell ≡ told past z) same c.2

  pub due : (p : ℕ) → p ≡ base_bound.place → Due v p off
  due p q =
      let row = base_row p q in
      let is = b.buffer.is_past in
      let e = base_told p q in
      record {
        cell = row.cell;
        among = row.cell_among;
        place = row.at;
        base = elim ((own_tells past is o stated n row.among).0.0 base_match) [
          | inl h ↦ inl (ap (λ (z : Seen). set.contains z.roles off.own.0) e ∙ (has_live past is n off.own.0 ∙ h))
          | inr h ↦ inr (ap (λ (z : Seen). set.contains z.signed off.own.0) e ∙ (has_signed past is n off.own.0 ∙ h))
        ];
        unsigned = ap (λ (z : Seen). set.contains z.signed off.role.0) e ∙ (has_signed past is n off.role.0 ∙ false_from_ne_true (is_signed past.plan past.acts n off.role.0) unsigned);
        past = past;
        stands = b.buffer;
        stated = stated;
      }

  -- in the words of the code: the place is that to which the base's variable is bound
  pub base_there : (t p : ℕ) × (map.get m.env off.base.0 ≡ Some (p, t))
  base_there = (serial_of n, base_bound.place, base_bound.pair)

  pub base_used : (p : ℕ) → ((q t : ℕ) → map.get m.env off.base.0 ≡ Some (q, t) → p ≡ q) → InUse v.rows p
  base_used p h = let row = base_row p (h base_bound.place (serial_of n) base_bound.pair) in record { cell = row.cell; among = row.cell_among; place = row.at }

  pub base_number : (p number : ℕ) → ((q t : ℕ) → map.get m.env off.base.0 ≡ Some (q, t) → p ≡ q) → ((c : Cell) → In c v.rows → c.place ≡ p → num c ≡ number) → number ≡ serial_of n
  base_number p number h told = let row = base_row p (h base_bound.place (serial_of n) base_bound.pair) in sym (told row.cell row.cell_among row.at) ∙ row.number

  pub due_there : (p : ℕ) → ((q t : ℕ) → map.get m.env off.base.0 ≡ Some (q, t) → p ≡ q) → Due v p off
  due_there p h = due p (h base_bound.place (serial_of n) base_bound.pair)

-- ---- behind the statement

module _ (m : Position) (v : View) (past : Past) (k : ℕ) (b : Beside m v past k) (begun : m.is_begun ≡ true) (off : Off) (after : Block) (next : IsNextItem m (tree.SignOff (off_tree off)) (items after.rest.now)) where
  abbrev Q : Tree
  Q = past.tree

  abbrev s : OffTree
  s = off_tree off

  abbrev at_env : Env
  at_env = (at_item m v past k b (tree.SignOff (off_tree off)) (items after.rest.now) next).env

  abbrev under : List Frame
  under = (at_item m v past k b (tree.SignOff (off_tree off)) (items after.rest.now) next).below

  abbrev base : Node
  base = at_env off.base.0

  abbrev act : Action
  act = Offed s (serial_of base)

  abbrev then_past : Past
  then_past = past_acted act past

  move : IsNext past.plan Q k act × PointAt past.plan Q (suc k) (Rest (items after.rest.now) at_env ∷ under)
  move = off_move past.plan Q k s (items after.rest.now) at_env under (at_item m v past k b (tree.SignOff s) (items after.rest.now) next).point

  module _ (w : View) (stands : StandsFor w then_past) (g : Signed v w off.role.0) where
    taken : w.taken ≡ capped (sum_taken past.plan Q then_past.acts)
    taken =
        let sums = (sums_by_act past b.buffer.is_past).0 s base (stated m v past k b begun off (items after.rest.now) next) (base_match m v past k b begun off (items after.rest.now) next) in
        let was = roles_counted v past off.role.0 b.buffer in
        let now = roles_counted w then_past off.role.0 stands in
        let few = g.fewer in
        let sum : sum_taken past.plan Q past.acts + (role_count off.role.0 v.rows - role_count off.role.0 w.rows) ≡ sum_taken past.plan Q then_past.acts = omega arith in
        g.taken ∙ (ap (λ (z : ℕ). capped (z + (role_count off.role.0 v.rows - role_count off.role.0 w.rows))) b.taken
        ∙ (capped_twice (sum_taken past.plan Q past.acts) (role_count off.role.0 v.rows - role_count off.role.0 w.rows) ∙ ap capped sum))

    gone : w.gone ≡ v.gone ++ leaving past act
    gone = g.gone ∙ ap (λ (z : List ℕ). v.gone ++ z) (departed_rows v w past then_past b.buffer stands)

    -- the block goes on behind the statement, once its loop has looked for its next match
    module _ (n : Position) (top : n.top ≡ after) (round : after.round ≡ m.top.round) (anew : after.seen ≡ 0) (sought : SoughtRound m.top.round)
        (blocks : n.below.items ≡ m.below.items) (env_is : n.env ≡ m.env) (copying : n.copying ≡ m.copying) (turns_are : n.turns.items ≡ m.turns.items) (is_begun : n.is_begun ≡ m.is_begun) where
      abbrev fs : List Frame
      fs = Rest (items after.rest.now) at_env ∷ under

      frames : AreFrames w.rows Q (n.top ∷ reverse n.below.items) fs
      frames =
          let a = at_item m v past k b (tree.SignOff s) (items after.rest.now) next in
          let own = a.goes after round (sought_on m.top.round m.top.rest.now after.rest.now sought) (begins_anew Q b.buffer.is_past.grown at_env (items after.rest.now) after.seen anew) in
          let now = frames_fewer v.rows w.rows g.places Q (after ∷ reverse m.below.items) fs own in
          subst (λ (z : List Block). AreFrames w.rows Q (n.top ∷ reverse z) fs) (sym blocks) (subst (λ (z : Block). AreFrames w.rows Q (z ∷ reverse m.below.items) fs) (sym top) now)

      bound : (z : ℕ) (j : Node) → Bound_in z j fs → IsBound w.rows n.env z j
      bound z j h =
          let a = at_item m v past k b (tree.SignOff s) (items after.rest.now) next in
          subst (λ (q : Bindings). IsBound w.rows q z j) (sym env_is) (bound_fewer v.rows w.rows g.places m.env z j (a.bound begun z j h))

      turns : TurnsStand w.rows Q n.turns.items
      turns = all_placed v.rows w.rows Q n.turns.items (λ z p h c j e. let d = g.places c j in sym d.2 ∙ h d.0 d.1 (d.3 ∙ e)) (turns_still m n v.rows past.plan Q k turns_are b.position)

      beside : Beside n w then_past (suc k)
      beside = record {
        state = acted b.state move.0.left;
        acts = ap (λ (z : List Action). z ++ act ∷ []) b.acts ∙ sym move.0.taken;
        buffer = stands;
        taken = taken;
        position = stands_plainly n w.rows past.plan Q (suc k) fs (copying ∙ next.no_copy) (is_begun ∙ begun) turns move.1 frames bound;
      }

      signs : (number : Serial) → number.0 ≡ serial_of base → (out : List ℕ) → TakesAction past k n v w out out (outcomes.SignedOff number off.role)
      signs number e out =
          subst (λ (z : ℕ). (o : OffTree) × IsNext past.plan past.tree k (Offed o z) × (o.role ≡ off.role.0) × (out ≡ out) × (w.gone ≡ v.gone ++ leaving past (Offed o z)) × SamePlaces v.rows w.rows × Beside n w (past_acted (Offed o z) past) (suc k))
          (sym e) (s, move.0, refl, refl, gone, g.places, beside)

  -- in the words of the code
  pub signs_there : (p : ℕ) (number : Serial) → ((q t : ℕ) → map.get m.env off.base.0 ≡ Some (q, t) → p ≡ q) → number.0 ≡ serial_at p v.rows → ((c : Cell) → In c v.rows → c.place ≡ p → num c ≡ number.0) → (w : View)
      → ((q : Past) → StandsFor v q → In s (offs_in q.plan.body) → StandsFor w (past_acted (Offed s (serial_at p v.rows)) q)) → Signed v w off.role.0 → (n : Position) → n.top ≡ after → after.round ≡ m.top.round → after.seen ≡ 0 → SoughtRound m.top.round
      → n.below.items ≡ m.below.items → n.env ≡ m.env → n.copying ≡ m.copying → n.turns.items ≡ m.turns.items → n.is_begun ≡ m.is_begun → (out : List ℕ) → TakesAction past k n v w out out (outcomes.SignedOff number off.role)
  signs_there p number bound_at told row w stands g n top round anew sought blocks env_is copying turns_are is_begun out =
      let e = base_number m v past k b begun off (items after.rest.now) next p number.0 bound_at row in
      let st : StandsFor w then_past = subst (λ (z : ℕ). StandsFor w (past_acted (Offed s z) past)) (sym told ∙ e) (stands past b.buffer (stated m v past k b begun off (items after.rest.now) next)) in
      signs w st g n top round anew sought blocks env_is copying turns_are is_begun number e out
