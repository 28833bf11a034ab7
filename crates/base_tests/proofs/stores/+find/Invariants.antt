use Rattle.base_tests.proofs.stores.+find.Given as goal

abbrev pub decreases-find : goal.decreases-find
decreases-find g l = l.steps
