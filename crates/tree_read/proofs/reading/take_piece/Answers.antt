use Rattle.tree_read.proofs.Documents.{piece_grown}
use Rattle.tree_read.proofs.reading.take_piece.Goals as goal

pub returns-clause-grown : goal.returns-clause-grown
returns-clause-grown c = λ b h.
    piece_grown c.args.reader.now c.feed.new.self c.take_waiting.new.reader c.args.tree.now c.take_waiting.new.tree b c.args.piece.now h
    c.in_ok-feed.ensures.stands c.in_ok-feed.ensures.exact c.in_ok-take_waiting.ensures.stands c.in_ok-take_waiting.ensures.waiting c.in_ok-take_waiting.ensures.tree
