use Rattle.std.proofs.Common.{sym, ap, ◌∙◌, ◌++◌, Bool, append-nil}
use Rattle.doc_tokens.specs.Kept.{text_part}
use Rattle.doc_tokens.proofs.tokens.put_text.Goals as goal

pub returns-then-text-clause-items : goal.returns-then-text-clause-items
returns-then-text-clause-items c = c.push_reserved.ensures.items ∙ ap (λ (b : Bool). c.args.lent.now.items ++ text_part c.args.from c.args.to b) (sym c.if-text.true)

pub returns-else-text-clause-items : goal.returns-else-text-clause-items
returns-else-text-clause-items c = sym (append-nil c.args.lent.now.items) ∙ ap (λ (b : Bool). c.args.lent.now.items ++ text_part c.args.from c.args.to b) (sym c.if-text.false)
