use Rattle.doc_tokens.proofs.Lists.{only_none}
use Rattle.doc_tokens.proofs.open_names.OpenNames.new.Goals as goal

pub invariant_of-result : goal.invariant_of-result
invariant_of-result c = only_none c.new-2.result.items c.new.result.items c.new-2.ensures.items c.new.ensures.items
