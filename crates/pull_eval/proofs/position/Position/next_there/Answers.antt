use Rattle.std.proofs.Common.{Some, subst}
use Rattle.pull_eval.specs.Position.{items}
use Rattle.pull_eval.specs.Leaps.{LeapsTo}
use Rattle.pull_eval.specs.declared.turns.Leap.{Leap}
use Rattle.pull_eval.proofs.NextMatches.{row_below}
use Rattle.pull_eval.proofs.RoundEnds.{is_sought, context_used}
use Rattle.pull_eval.proofs.RoundTurns.{next_used, loop_at, told_on, searched, turn_stays, turn_leaps, turn_is_over}
use Rattle.pull_eval.proofs.position.Position.next_there.Goals as goal

pub unreachable-requires : goal.unreachable-requires
unreachable-requires g c = let q = c.requires.beside in is_sought c.args.self.now c.args.buffer.now q.0 q.1 q.2 c.requires.begun c.requires.no_copy c.args.round c.requires.round c.requires.over c.in-Unsought.is

pub new_match-requires-clause-used : goal.new_match-requires-clause-used
new_match-requires-clause-used g c = let q = c.requires.beside in context_used c.args.self.now c.args.buffer.now q.0 q.1 q.2 c.requires.begun c.requires.no_copy c.args.round c.requires.round c.requires.over

pub new_match-requires-clause-below : goal.new_match-requires-clause-below
new_match-requires-clause-below g c = let q = c.requires.beside in row_below c.args.buffer.now q.0 q.2.buffer

pub returns-in-NoneUpTo-clause-turns : goal.returns-in-NoneUpTo-clause-turns
returns-in-NoneUpTo-clause-turns g c = λ past k b. (
  b,
  told_on c.args.self.now c.args.buffer.now past k b c.requires.begun c.requires.no_copy c.args.round c.requires.round c.new_match.result
      (searched c.args.self.now c.args.buffer.now past k b c.requires.begun c.requires.no_copy c.args.round c.requires.round c.in-NoneUpTo.mark c.in-NoneUpTo.is c.new_match.result c.new_match.ensures),
)

pub serial-from-requires : goal.serial-from-requires
serial-from-requires g c = let q = c.requires.beside in next_used c.args.self.now c.args.buffer.now q.0 q.1 q.2 c.requires.begun c.requires.no_copy c.args.round c.requires.round c.in-Found.place c.in-Found.is

pub leap-requires-clause-used : goal.leap-requires-clause-used
leap-requires-clause-used g c = let q = c.requires.beside in context_used c.args.self.now c.args.buffer.now q.0 q.1 q.2 c.requires.begun c.requires.no_copy c.args.round c.requires.round c.requires.over

pub leap-requires-clause-there : goal.leap-requires-clause-there
leap-requires-clause-there g c = let q = c.requires.beside in (q.0, q.1, q.2, loop_at c.args.self.now c.args.buffer.now q.0 q.1 q.2 c.requires.begun c.requires.no_copy c.args.round c.requires.round c.in-Found.place c.in-Found.is)

pub returns-in-Stay-clause-turns : goal.returns-in-Stay-clause-turns
returns-in-Stay-clause-turns g c = λ past k b. turn_stays c.args.self.now c.args.buffer.now past k b c.requires.begun c.requires.no_copy c.args.round c.requires.round c.in-Found.place c.in-Found.is c.serial-from.result c.serial-from.ensures.serial c.serial-from.ensures.row c.leap.new.self
    (subst (λ (l : Leap). LeapsTo c.args.self.now c.leap.new.self c.args.buffer.now c.args.round.var.0 c.args.round.step.now (items c.args.round.body.now) c.args.round.context.0 (Some c.serial-from.result) l) c.in-Stay.is c.in_ok-leap.ensures.leaps)

pub returns-in-To-clause-turns : goal.returns-in-To-clause-turns
returns-in-To-clause-turns g c = λ past k b. turn_leaps c.args.self.now c.args.buffer.now past k b c.requires.begun c.requires.no_copy c.args.round c.requires.round c.in-Found.place c.in-Found.is c.serial-from.result c.serial-from.ensures.serial c.serial-from.ensures.row c.leap.new.self c.in-To.later
    (subst (λ (l : Leap). LeapsTo c.args.self.now c.leap.new.self c.args.buffer.now c.args.round.var.0 c.args.round.step.now (items c.args.round.body.now) c.args.round.context.0 (Some c.serial-from.result) l) c.in-To.is c.in_ok-leap.ensures.leaps)

pub returns-in-Over-clause-turns : goal.returns-in-Over-clause-turns
returns-in-Over-clause-turns g c = λ past k b. turn_is_over c.args.self.now c.args.buffer.now past k b c.requires.begun c.requires.no_copy c.args.round c.requires.round c.in-Found.place c.in-Found.is c.serial-from.result c.serial-from.ensures.serial c.serial-from.ensures.row c.leap.new.self
    (subst (λ (l : Leap). LeapsTo c.args.self.now c.leap.new.self c.args.buffer.now c.args.round.var.0 c.args.round.step.now (items c.args.round.body.now) c.args.round.context.0 (Some c.serial-from.result) l) c.in-Over.is c.in_ok-leap.ensures.leaps)
