use Rattle.doc_reader.proofs.Behind.{last_lent, tags_lent}
use Rattle.doc_reader.proofs.lent_reader.LentReader.lent.Goals as goal

pub returns-then-is_last : goal.returns-then-is_last
returns-then-is_last c =
    let last = c.is_last.ensures.last c.if-is_last.true in
    last_lent c.args.self.now.state.tokens c.args.self.now.end_waits last.0 last.1

pub returns : goal.returns
returns c = tags_lent c.args.self.now.state.tokens _ c.lent_tags.result.0.now c.lent_tags.result.1.now (c.is_last.ensures.tags c.if-is_last.false) c.lent_tags.ensures
