use Rattle.std.proofs.Common.{sym, ◌∙◌, ap}
use Rattle.gcx_base.specs.Kinds.{is_text}
use Rattle.pull_eval.proofs.copies.is_text.Goals as goal

pub returns-in-Text : goal.returns-in-Text
returns-in-Text g c = λ d i e. ap is_text (sym c.in-Text.is ∙ c.kind_at.ensures d i e)

pub returns-in-Element : goal.returns-in-Element
returns-in-Element g c = λ d i e. ap is_text (sym c.in-Element.is ∙ c.kind_at.ensures d i e)

pub returns-in-Document : goal.returns-in-Document
returns-in-Document g c = λ d i e. ap is_text (sym c.in-Document.is ∙ c.kind_at.ensures d i e)
