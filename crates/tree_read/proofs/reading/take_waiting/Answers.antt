use Rattle.std.proofs.Common.{length, ap, arith}
use Rattle.tree_read.proofs.Documents.{grown_all, keeps_all, stands_all, taken_none, taken_on}
use Rattle.tree_read.proofs.reading.take_waiting.Goals as goal

pub tokens-init : goal.tokens-init
tokens-init c = taken_none c.args.reader.now c.args.tree.now

pub tokens-preserved : goal.tokens-preserved
tokens-preserved c = taken_on c.args.reader.now c.tokens.reader c.next.new.self c.args.tree.now c.tokens.tree c.take.new.self c.in-Some.token c.tokens.invariant c.in-Some.ensures.takes c.in-Some.ensures.stands c.in-Some.ensures.keeps c.in_ok-take.ensures.ok

pub tokens-smaller : goal.tokens-smaller
tokens-smaller c = omega (arith, ap length c.in-Some.ensures.takes)

pub returns-in_err-take-clause-keeps : goal.returns-in_err-take-clause-keeps
returns-in_err-take-clause-keeps c = keeps_all _ _ _ c.tokens.invariant.keeps c.in-Some.ensures.keeps

pub returns-clause-tree : goal.returns-clause-tree
returns-clause-tree c = grown_all _ _ _ _ c.tokens.invariant c.in_default.ensures.takes.0

pub returns-clause-waiting : goal.returns-clause-waiting
returns-clause-waiting c = c.in_default.ensures.takes.1

pub returns-clause-stands : goal.returns-clause-stands
returns-clause-stands c =
    stands_all c.tokens.invariant.tokens _ _ _ c.tokens.invariant.waits c.in_default.ensures.takes.0 c.tokens.invariant.stands c.in_default.ensures.stands

pub returns-clause-keeps : goal.returns-clause-keeps
returns-clause-keeps c = keeps_all _ _ _ c.tokens.invariant.keeps c.in_default.ensures.keeps
