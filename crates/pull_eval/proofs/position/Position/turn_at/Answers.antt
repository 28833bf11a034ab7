use Rattle.std.proofs.Common.{Option, Some, None, refl, subst, arith}
use Rattle.cond_eval.specs.declared.watermark.Watermark.{Watermark}
use Rattle.pull_eval.specs.Leaps.{TurnIn, GoesOnAt}
use Rattle.node_store.specs.declared.store.Place.{Place}
use Rattle.pull_eval.specs.Rounds.{Began}
use Rattle.pull_eval.specs.declared.block.Next.TheVariants.{NoneUpTo}
use Rattle.pull_eval.specs.declared.block.Round.{Round}
use Rattle.pull_eval.specs.declared.machine.Acted.{Acted}
use Rattle.pull_eval.specs.declared.position.Position.{Position}
use Rattle.pull_eval.proofs.Finding.{ok_none}
use Rattle.pull_eval.proofs.NextMatches.{row_below}
use Rattle.pull_eval.proofs.RoundEnds.{context_used, turn_told, goes_on_from, begins_again, ends_there, waits_there}
use Rattle.pull_eval.proofs.position.Position.turn_at.Goals as goal

pub begin_round-requires-clause-goes : goal.begin_round-requires-clause-goes
begin_round-requires-clause-goes g c =
    let q = c.requires.turns in
    goes_on_from c.args.self.now c.args.buffer.now q.0 q.1 q.2 c.requires.begun c.requires.no_copy c.args.round c.requires.round c.requires.over c.in-Some.present
    (turn_told c.args.self.now c.args.buffer.now q.0 q.1 q.2 c.requires.begun c.requires.no_copy c.args.round c.requires.round (Some c.in-Some.present)
    (subst (λ (z : Option Place). TurnIn q.0.tree c.args.buffer.now.rows q.2.position.fs c.args.round z) c.in-Some.is q.3))

pub begin_round-requires-clause-some : goal.begin_round-requires-clause-some
begin_round-requires-clause-some g c =
    let q = c.requires.turns in
    let u = context_used c.args.self.now c.args.buffer.now q.0 q.1 q.2 c.requires.begun c.requires.no_copy c.args.round c.requires.round c.requires.over in
    let l = row_below c.args.buffer.now q.0 q.2.buffer u.cell u.among in
    omega arith

pub returns-in-Some-clause-moved : goal.returns-in-Some-clause-moved
returns-in-Some-clause-moved g c =
    let w = c.args.self.now in
    let v = c.args.buffer.now in
    let r : Round = record c.args.round { present = c.in-Some.present } in
    ok_none c.begin_round.result (Began v w c.begin_round.new.self r) (λ (a : Option Acted). GoesOnAt w c.begin_round.new.self v c.args.round c.args.next a) c.begin_round.ensures.began
    (λ began past k out b f. begins_again w v past k b c.requires.begun c.requires.no_copy c.args.round c.requires.round c.requires.over c.begin_round.new.self c.in-Some.present
    (turn_told w v past k b c.requires.begun c.requires.no_copy c.args.round c.requires.round (Some c.in-Some.present)
    (subst (λ (z : Option Place). TurnIn past.tree v.rows b.position.fs c.args.round z) c.in-Some.is f)) began out)

pub is_closed-requires : goal.is_closed-requires
is_closed-requires g c = let q = c.requires.turns in context_used c.args.self.now c.args.buffer.now q.0 q.1 q.2 c.requires.begun c.requires.no_copy c.args.round c.requires.round c.requires.over

pub returns-then-is_closed-clause-moved : goal.returns-then-is_closed-clause-moved
returns-then-is_closed-clause-moved g c = λ past k out b f.
    c.go_below.ensures.moved c.args.buffer.now past k out b
    (ends_there c.args.self.now c.args.buffer.now past k b c.requires.begun c.requires.no_copy c.args.round c.requires.round c.requires.over c.is_closed.result
    (turn_told c.args.self.now c.args.buffer.now past k b c.requires.begun c.requires.no_copy c.args.round c.requires.round None
    (subst (λ (z : Option Place). TurnIn past.tree c.args.buffer.now.rows b.position.fs c.args.round z) c.in-None.is f))
    c.is_closed.ensures c.if-is_closed.true)

pub newest-requires : goal.newest-requires
newest-requires g c =
    let q = c.requires.turns in
    let u = context_used c.args.self.now c.args.buffer.now q.0 q.1 q.2 c.requires.begun c.requires.no_copy c.args.round c.requires.round c.requires.over in
    let l = row_below c.args.buffer.now q.0 q.2.buffer u.cell u.among in
    omega arith

pub returns-else-is_closed-clause-moved : goal.returns-else-is_closed-clause-moved
returns-else-is_closed-clause-moved g c = λ past k out b f.
    (let u : Watermark = c.newest.result in
    let n : Position = record c.args.self.now { top = record c.args.self.now.top { round = Some (record c.args.round { next = NoneUpTo u }) } } in
    waits_there c.args.self.now c.args.buffer.now past k b c.requires.begun c.requires.no_copy c.args.round c.requires.round c.requires.over n u refl c.newest.ensures refl refl refl refl refl
    c.is_closed.result
    (turn_told c.args.self.now c.args.buffer.now past k b c.requires.begun c.requires.no_copy c.args.round c.requires.round None
    (subst (λ (z : Option Place). TurnIn past.tree c.args.buffer.now.rows b.position.fs c.args.round z) c.in-None.is f))
    c.is_closed.ensures c.if-is_closed.false out)
