use Rattle.std.proofs.Common.{sym, ◌∙◌, drop, length}
use Rattle.doc_parts.proofs.Fronts.{begins_is}
use Rattle.doc_parts.proofs.front.begins.Goals as goal

pub returns : goal.returns
returns c = λ is. (drop (length c.args.front.now) c.args.bytes.now, begins_is c.args.front.now c.args.bytes.now (sym c.starts_with.ensures.value ∙ is))
