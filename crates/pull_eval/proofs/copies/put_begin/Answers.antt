use Rattle.std.proofs.Common.{◌++◌, sym, ◌∙◌, ap}
use Rattle.std.proofs.lemmas.List.{append-nil}
use Rattle.std.proofs.lemmas.Result.{on_ok_weaker}
use Rattle.gcx_base.specs.declared.kind.Kind.{Kind}
use Rattle.pull_eval.specs.Copies.{first_bytes}
use Rattle.pull_eval.proofs.copies.put_begin.Goals as goal

pub returns-in-Element-clause-ok : goal.returns-in-Element-clause-ok
returns-in-Element-clause-ok g c = on_ok_weaker c.put_start.result (λ h d i e. h ∙ ap (λ (k : Kind). c.args.out.now.items ++ first_bytes k) (sym c.in-Element.is ∙ c.kind_at.ensures d i e)) c.put_start.ensures.ok

pub returns-in-Text-clause-ok : goal.returns-in-Text-clause-ok
returns-in-Text-clause-ok g c = on_ok_weaker c.put_text.result (λ h d i e. h ∙ ap (λ (k : Kind). c.args.out.now.items ++ first_bytes k) (sym c.in-Text.is ∙ c.kind_at.ensures d i e)) c.put_text.ensures.ok

pub returns-in-Document-clause-ok : goal.returns-in-Document-clause-ok
returns-in-Document-clause-ok g c = λ d i e. sym (append-nil c.args.out.now.items) ∙ ap (λ (k : Kind). c.args.out.now.items ++ first_bytes k) (sym c.in-Document.is ∙ c.kind_at.ensures d i e)
