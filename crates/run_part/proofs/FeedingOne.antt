-- A token is fed to the actors.
use Rattle.std.proofs.Common.{◌≡◌, ℕ, ◌≤◌, true, length, refl, sym, subst, arith, ◌+◌, ◌^◌}
use Rattle.gcx_model.specs.Tree.{Tree, TreeToken as Said, opening, grow}
use Rattle.gcx_model.specs.Members.{In}
use Rattle.gcx_model.specs.Held.{sum_given}
use Rattle.gcx_model.specs.Growth.{Leads, may_come}
use Rattle.gcx_model.specs.Points.{actions}
use Rattle.gcx_model.specs.Past.{Past, past_fed}
use Rattle.buf_tree.specs.Shape.{Cell}
use Rattle.buf_tree.specs.View.{View, capped}
use Rattle.buf_tree.specs.Stands.{StandsFor}
use Rattle.projector.specs.Calls.{tally_of}
use Rattle.projector.specs.Projector.{Projects, MayBeFed, Places, Changes, DoesBy}
use Rattle.projector.specs.declared.projector.Fed.{Fed}
use Rattle.projector.specs.declared.projector.Projector.{Projector}
use Rattle.run_part.specs.Actors.{past_at, ComesWithin, FeedsOne, MayFeed, counted, is_quiet, FeedsEach, IsBalanced, IsQuietFor, StandAt}
use Rattle.run_part.proofs.Writing.{all_is}
use Rattle.run_part.proofs.RowsHeld.{shallow_rows}
use Rattle.run_part.proofs.Taking.{taken_few, told_all}
use Rattle.run_part.proofs.Feeding.{counts_fed, stands_fed}
use Rattle.run_part.proofs.Quieting.{quiet_fed}
use Rattle.run_part.specs.View.{ActorsView}
use Rattle.gcx_model.specs.Core.{PlanTree}

module _ {C : Type 0} (stands : C → Tree → Type 0) where
  -- ---- what feeding asks

  module _ (a : ActorsView C) (t : Said) (m : MayFeed stands a t) where
    pub fed_may : MayBeFed (Projects a.projector) a.buffer t
    fed_may = record { past = past_at m.plan m.tree m.taken m.of.fed; stands = m.of.beside.buffer; projects = m.of.projects; may = m.comes.may }

    pub fed_place : Places a.projector a.buffer
    fed_place = m.of.keeps

    pub fed_nodes : a.buffer.nodes ≤ 2 ^ 40 + 1
    fed_nodes = let n = m.of.beside.buffer.nodes in let l = m.comes.nodes in omega arith

    pub fed_depth : (c : Cell) → In c a.buffer.rows → c.row.is_open ≡ true → c.row.level ≤ 1000
    fed_depth = shallow_rows a.buffer (past_at m.plan m.tree m.taken m.of.fed) m.of.beside.buffer 1000 m.comes.depth

  -- ---- what it makes

  module _ (on : (s : C) (P Q : Tree) → Leads opening P → Leads P Q → stands s P → stands s Q) (old : ActorsView C) (t : Said) (q : Projector) (w : View) (f : Fed)
      (then : (past : Past) → StandsFor old.buffer past → Projects old.projector past → may_come t past.tree ≡ true → Projects q (past_fed t past) × StandsFor w (past_fed t past)) (keeps : Places q w)
      (does : (past : Past) → StandsFor old.buffer past → Projects old.projector past → may_come t past.tree ≡ true → DoesBy f t past) (changes : Changes (Projects old.projector) old.buffer w t f) where
    -- the actors with what the token made, its departures told
    abbrev pub fed_form : ActorsView C
    fed_form = record old { projector = q; buffer = told_all w; counts = counted old.counts (tally_of f) (length w.rows) }

    pub feeds_one : (d : ActorsView C) → d ≡ fed_form → FeedsEach stands old d t
    feeds_one d same plan P k a c =
        let past = past_at plan P k a.fed in
        let x = then past a.beside.buffer a.projects c.may in
        let y = does past a.beside.buffer a.projects c.may in
        subst (λ (z : ActorsView C). FeedsOne stands plan old z t P k) (sym same) (record {
          actors = stands_fed plan (stands old.machine.conds) old.projector q old.machine.position old.buffer w P k t f a c.may (λ T l m. on old.machine.conds P T l m a.stand) x.0 x.1 keeps changes y;
          counted = counts_fed plan (stands old.machine.conds) old.projector old.machine.position old.buffer w P k t f a c.may x.1 changes y old.counts (length w.rows) refl;
        })

    pub feeds_quietly : is_quiet (tally_of f) w ≡ true → IsQuietFor stands old t
    feeds_quietly quiet plan P a c =
        let past = past_at plan P (length (actions plan P)) a.fed in
        let x = then past a.beside.buffer a.projects c.may in
        let y = does past a.beside.buffer a.projects c.may in
        quiet_fed (Projects old.projector) past old.buffer w t f a.beside.buffer x.1 c.may a.gone (all_is plan P) changes y quiet

    -- behind it no more is taken back than given
    pub fed_balance : (plan : PlanTree) (P : Tree) (k : ℕ) → StandAt stands plan old P k → ComesWithin t P → old.counts.given ≡ capped (sum_given plan P) → w.taken ≤ (counted old.counts (tally_of f) (length w.rows)).given
    fed_balance plan P k a c given =
        let o = feeds_one fed_form refl plan P k a c in
        let few = taken_few plan (stands old.machine.conds) q old.machine.position (told_all w) (grow t P) k o.actors in
        let g = o.counted.given given in
        omega arith

  -- so it is before any token
  pub old_balance : (plan : PlanTree) (a : ActorsView C) (P : Tree) (k : ℕ) → StandAt stands plan a P k → a.counts.given ≡ capped (sum_given plan P) → IsBalanced a
  old_balance plan a P k s given = let few = taken_few plan (stands a.machine.conds) a.projector a.machine.position a.buffer P k s in omega arith
