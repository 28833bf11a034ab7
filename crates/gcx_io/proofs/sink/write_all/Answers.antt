use Rattle.std.proofs.Common.{rules}
use Rattle.gcx_io.proofs.Written.{takes_next, owes_rest, on_err}
use Rattle.gcx_io.proofs.sink.write_all.Goals as goal

pub returns-in_err-at-clause-owes : goal.returns-in_err-at-clause-owes
returns-in_err-at-clause-owes g c = on_err _ _ (owes_rest _ _ _ _ _ _ c.loop-at.invariant.takes c.in_err-at.ensures.writes c.loop-at-test.true)

pub loop-at-preserved : goal.loop-at-preserved
loop-at-preserved g c = record {
  within = search rules;
  takes = takes_next _ _ _ _ _ _ c.loop-at.invariant.takes c.in_ok-at.ensures.writes (search rules) (search rules);
  later = search rules;
}
