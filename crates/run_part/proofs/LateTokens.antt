-- What a lent token makes of the actors where rows are made late, whichever way it was fed.
use Rattle.std.proofs.Common.{◌≡◌, ℕ, ◌+◌, ◌<◌, ◌≤◌, ◌^◌, true, max, List, [], ◌∷◌, length, refl, sym, ◌∙◌, ap, subst, arith, length-append}
use Rattle.gcx_base.specs.declared.kind.Kind.TheVariants.{Element, Text}
use Rattle.gcx_model.specs.Core.{PlanTree}
use Rattle.gcx_model.specs.Growth.{Leads, may_come}
use Rattle.gcx_model.specs.Held.{held, roles_live, sum_given}
use Rattle.gcx_model.specs.Past.{Past, IsPast}
use Rattle.gcx_model.specs.Points.{actions, so_far}
use Rattle.gcx_model.specs.Run.{Action}
use Rattle.gcx_model.specs.Tree.{Tree, TreeToken as Said, Start, Chars, End, opening, grow}
use Rattle.move_laws.proofs.Unmoved.{quiet_token}
use Rattle.move_laws.specs.Quiet.{by_closing}
use Rattle.buf_tree.specs.View.{View, capped}
use Rattle.projector.specs.declared.projector.Tally.{Tally}
use Rattle.projector.specs.Late.{FeedsSettled, PassedBy, PassesToken}
use Rattle.projector.specs.Calls.{tally_of}
use Rattle.projector.specs.View.{ProjectorView}
use Rattle.projector.proofs.Pasts.{is_open}
use Rattle.run_part.specs.View.{ActorsView}
use Rattle.run_part.specs.declared.actors.Tallied.{Tallied}
use Rattle.run_part.specs.Actors.{ComesWithin, FeedsOne, StandAt, all_of, counted, is_quiet, past_at}
use Rattle.run_part.specs.Late.{CountsPassed, FeedsOneLate, MayFeedLate, SettledOver, StandLate, noted, seen_counts, seen_late}
use Rattle.run_part.proofs.FeedingOne.{feeds_one, feeds_quietly}
use Rattle.run_part.proofs.Taking.{told_all}
use Rattle.run_part.proofs.Writing.{all_is}
use Rattle.run_part.proofs.Late.{acts_stay, late_beside, late_few, late_rows, one_more, opened_quiet, passed_given, passed_stands, passed_still, popped_dead, seen_length, seen_none, settled_at, settles_at, stand_late}

module _ {C : Type 0} (bytes : List ℕ) (stands : C → Tree → Type 0) (on : (s : C) (P Q : Tree) → Leads opening P → Leads P Q → stands s P → stands s Q) (plan : PlanTree) (a : ActorsView C) (t : Said) where
  -- the actors with the projector and the buffer behind the token
  abbrev pub fed_late : (q : ProjectorView) (w : View) → ActorsView C
  fed_late q w = record a { projector = q; buffer = w }

  module _ (P : Tree) (k : ℕ) (s : StandLate bytes stands plan a P k) (c : ComesWithin t P) (q : ProjectorView) (w : View) where
    abbrev acts : List Action
    acts = so_far plan P k

    abbrev d : ActorsView C
    d = fed_late q w

    -- it was passed, and isn't counted yet
    module _ (f : PassesToken bytes a.projector q a.buffer w t) where
      pub passed_late : StandLate bytes stands plan d (grow t P) k
      passed_late = passed_stands bytes stands plan a d P k t s c.may f refl (λ T l m. on a.machine.conds P T l m s.stand)

      same_rows : length w.rows ≡ length a.buffer.rows
      same_rows = ap length (passed_still bytes stands plan a d P k t s c.may f refl (λ T l m. on a.machine.conds P T l m s.stand)).rows

      same_most : w.most ≡ a.buffer.most
      same_most = (passed_still bytes stands plan a d P k t s c.may f refl (λ T l m. on a.machine.conds P T l m s.stand)).most

      pub same_given : capped (sum_given plan P) ≡ capped (sum_given plan (grow t P))
      same_given = passed_given bytes stands plan a d P k t s c.may f refl (λ T l m. on a.machine.conds P T l m s.stand)

      passed_rows : length (seen_late bytes d).rows ≡ length (held plan (grow t P) acts)
      passed_rows = late_rows bytes stands plan d (grow t P) k passed_late ∙ ap (λ (A : List Action). length (held plan (grow t P) A)) (acts_stay bytes stands plan a P k s t c.may)

      rows_before : length (seen_late bytes a).rows ≡ length a.buffer.rows + length a.projector.passed
      rows_before = seen_length bytes a

      rows_behind : length (seen_late bytes d).rows ≡ length w.rows + length q.passed
      rows_behind = seen_length bytes d

      -- no more rows are seen than before: they were counted
      passed_fewer : length q.passed ≤ length a.projector.passed → FeedsOneLate bytes stands plan a d t P k
      passed_fewer fewer =
          let rows = same_rows in
          let most = same_most in
          let held_now = passed_rows in
          let before = rows_before in
          let behind = rows_behind in
          record {
            actors = passed_late;
            counted = λ l. record { given = λ g. g ∙ same_given; peak = omega arith; most = λ m. omega arith; rows = passed_rows };
          }

      -- one more may be seen: it is counted, and the store has as many then
      passed_more : (e : ActorsView C) → SettledOver bytes stands plan d e (grow t P) k → e.counts ≡ seen_counts d → FeedsOneLate bytes stands plan a e t P k
      passed_more e over counts =
          let rows = same_rows in
          let most = same_most in
          let held_now = passed_rows in
          let before = rows_before in
          record {
            actors = over.actors;
            counted = λ l. record {
              given = λ g. ap (λ (n : Tallied). n.given) counts ∙ (g ∙ same_given);
              peak = ap (λ (n : Tallied). n.peak) counts ∙ ap (max a.counts.peak) (sym rows_behind ∙ passed_rows);
              most = λ m. let made = over.most (omega arith) in omega arith;
              rows = over.rows ∙ passed_rows;
            };
          }

      fed_by : (u : Said) → PassedBy bytes a.projector.passed q.passed a.buffer w u → (e : ActorsView C) → CountsPassed bytes stands d e u → FeedsOneLate bytes stands plan a e t P k
      fed_by (Start name) b e n = passed_more e (n.0 plan (grow t P) k passed_late) n.1
      fed_by (Chars text) b e n = subst (λ (z : ActorsView C). FeedsOneLate bytes stands plan a z t P k) (sym n) (passed_fewer (let same = ap length b.1 in omega arith))
      fed_by End b e n =
          let one = ap length b.2 ∙ length-append q.passed (b.1 ∷ []) in
          subst (λ (z : ActorsView C). FeedsOneLate bytes stands plan a z t P k) (sym n) (passed_fewer (omega arith))

      pub passed_fed : (e : ActorsView C) → CountsPassed bytes stands d e t → FeedsOneLate bytes stands plan a e t P k
      passed_fed e n = fed_by t f.changes e n

    -- the rows were made, and then it was fed as always
    pub settled_fed : (tally : Tally) → FeedsSettled bytes a.projector q a.buffer w t tally → FeedsOneLate bytes stands plan a (noted d tally) t P k
    settled_fed tally f =
        let between : ActorsView C = record a { projector = f.settled; buffer = f.between } in
        let e = noted d tally in
        let y = f.feeds in
        let o = y.feeds in
        let at : StandAt stands plan between P k = settled_at bytes stands plan a P k s between f.settles refl in
        let made = settles_at bytes stands plan a P k s between f.settles refl in
        let form : e ≡ record between { projector = q; buffer = told_all w; counts = counted a.counts (tally_of y.fed) (length w.rows) } = ap (λ (z : Tally). record between { projector = q; buffer = told_all w; counts = counted a.counts z (length w.rows) }) y.is in
        let one : FeedsOne stands plan between e t P k = feeds_one stands on between t q w y.fed o.stands o.place o.fed o.changes e form plan P k at c in
        let none : e.projector.passed ≡ [] = one.actors.projects.none in
        let seen_is = ap (λ (v : View). length v.rows) (seen_none bytes e none) in
        let before = seen_length bytes a in
        let made_rows = made.rows in
        let real : length a.buffer.rows ≤ length (seen_late bytes a).rows = omega arith in
        record {
          actors = stand_late bytes stands plan e (grow t P) k one.actors;
          counted = λ l. record {
            given = one.counted.given;
            peak = one.counted.peak;
            most = λ m. let all = made.most (omega arith) in let n = one.counted.most (omega arith) in omega arith;
            rows = seen_is ∙ one.counted.rows;
          };
        }

  -- no action is possible behind it that wasn't, where it is quiet
  module _ (P : Tree) (s : StandLate bytes stands plan a P (all_of plan P)) (c : ComesWithin t P) (q : ProjectorView) (w : View) where
    abbrev all : Past
    all = past_at plan P (all_of plan P) s.fed

    is_past : IsPast all
    is_past = (late_beside bytes stands plan a P (all_of plan P) s).buffer.is_past

    end_quiet : t ≡ End → PassesToken bytes a.projector q a.buffer w End → actions plan (grow t P) ≡ actions plan P
    end_quiet e f =
        let may : may_come End P ≡ true = ap (λ (z : Said). may_come z P) (sym e) ∙ c.may in
        let o = is_open P End may in
        let dead = popped_dead bytes all a.projector q a.buffer w s.loosely (f.stands all s.loosely may) may f.changes.1 f.changes.2 f.changes.0 o.0 o.1 in
        let dead_all : roles_live plan P (actions plan P) o.0 ≡ [] = subst (λ (A : List Action). roles_live plan P A o.0 ≡ []) (all_is plan P) dead in
        (quiet_token is_past.core is_past.good plan is_past.placed P is_past.grown t c.may (by_closing o.0 e o.1 dead_all)).0

    pub passed_quiet : PassesToken bytes a.projector q a.buffer w t → actions plan (grow t P) ≡ actions plan P
    passed_quiet f = by t refl f
      where
        by : (u : Said) → t ≡ u → PassesToken bytes a.projector q a.buffer w u → actions plan (grow t P) ≡ actions plan P
        by (Start name) e g = subst (λ (z : Said). actions plan (grow z P) ≡ actions plan P) (sym e) (opened_quiet all is_past (Element name) tt (ap (λ (z : Said). may_come z P) (sym e) ∙ c.may) (g.none all s.loosely (ap (λ (z : Said). may_come z P) (sym e) ∙ c.may)))
        by (Chars text) e g = subst (λ (z : Said). actions plan (grow z P) ≡ actions plan P) (sym e) (opened_quiet all is_past (Text text) tt (ap (λ (z : Said). may_come z P) (sym e) ∙ c.may) (g.none all s.loosely (ap (λ (z : Said). may_come z P) (sym e) ∙ c.may)))
        by End e g = end_quiet e g

    pub settled_quiet : (tally : Tally) → FeedsSettled bytes a.projector q a.buffer w t tally → is_quiet tally w ≡ true → actions plan (grow t P) ≡ actions plan P
    settled_quiet tally f quiet =
        let between : ActorsView C = record a { projector = f.settled; buffer = f.between } in
        let y = f.feeds in
        let o = y.feeds in
        let at : StandAt stands plan between P (all_of plan P) = settled_at bytes stands plan a P (all_of plan P) s between f.settles refl in
        feeds_quietly stands on between t q w y.fed o.stands o.place o.fed o.changes (sym (ap (λ (z : Tally). is_quiet z w) y.is) ∙ quiet) plan P at c

-- there are few rows behind it
pub passed_few : {C : Type 0} (bytes : List ℕ) (stands : C → Tree → Type 0) (a d : ActorsView C) (t : Said) (m : MayFeedLate bytes stands a t) → StandLate bytes stands m.plan d (grow t m.tree) m.taken → length d.buffer.rows + length d.projector.passed < 2 ^ 64
passed_few bytes stands a d t m s =
    let few = late_few bytes stands m.plan d (grow t m.tree) m.taken s in
    let more = one_more t m.tree in
    let nodes = m.comes.nodes in
    omega arith
