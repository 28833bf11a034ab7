use Rattle.base_tests.proofs.stores.+draw.Given as goal

abbrev pub decreases-draw : goal.decreases-draw
decreases-draw g l = l.steps
