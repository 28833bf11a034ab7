use Rattle.doc_tokens.proofs.Keeping.{new_kept, new_queue}
use Rattle.doc_tokens.proofs.tokens.Tokens.new.Goals as goal

pub invariant_of-result : goal.invariant_of-result
invariant_of-result c = new_kept c.new-bytes.result.items c.new-lent.result.items c.new-bytes.ensures.items c.new-lent.ensures.items

pub returns : goal.returns
returns c = new_queue c.new-bytes.result.items c.new-lent.result.items c.new-bytes.ensures.items c.new-lent.ensures.items
