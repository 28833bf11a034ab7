use Rattle.tree_read.proofs.Keeping.{piece_given}
use Rattle.tree_read.proofs.tokens.keep_piece.Goals as goal

pub returns-clause-given : goal.returns-clause-given
returns-clause-given c = λ b h.
    piece_given c.args.reader.now c.feed.new.self c.keep_waiting.new.reader c.args.tokens.now.items c.keep_waiting.new.tokens.items b c.args.piece.now h
    c.in_ok-feed.ensures.stands c.in_ok-feed.ensures.exact c.in_ok-keep_waiting.ensures.stands c.in_ok-keep_waiting.ensures.waiting c.in_ok-keep_waiting.ensures.tokens
