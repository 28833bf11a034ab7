use Rattle.trace_check.specs.Memoing.{IsMemo}
use Rattle.trace_check.proofs.Memos.{known_anyway}
use Rattle.trace_check.proofs.running.turns_of.Goals as goal

pub returns-in-Some-clause-memo : goal.returns-in-Some-clause-memo
returns-in-Some-clause-memo c = c.take_turns.ensures.memo c.args.timed.now c.requires

pub returns-in-None-clause-memo : goal.returns-in-None-clause-memo
returns-in-None-clause-memo c =
    known_anyway c.reached.result (IsMemo c.args.timed.now c.take_turns.new.self) (c.take_turns.ensures.memo c.args.timed.now c.requires)
