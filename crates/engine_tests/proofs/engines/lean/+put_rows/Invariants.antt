use Rattle.engine_tests.proofs.engines.lean.+put_rows.Given as goal

abbrev pub decreases-put_rows : goal.decreases-put_rows
decreases-put_rows g l = l.steps
