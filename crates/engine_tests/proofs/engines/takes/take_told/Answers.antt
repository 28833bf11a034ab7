use Rattle.engine_tests.proofs.Taking.{both_places, made_stands}
use Rattle.engine_tests.proofs.engines.takes.take_told.Goals as goal

pub take_document-requires-clause-stands : goal.take_document-requires-clause-stands
take_document-requires-clause-stands g c = made_stands 1 c.in_ok-part.part c.in_ok-part.ensures.stands

pub take_document-requires-clause-places : goal.take_document-requires-clause-places
take_document-requires-clause-places g c = let made = c.in_ok-part.ensures.made in both_places c.in_ok-part.part made.output_is made.lines_is
