use Rattle.std.proofs.Common.{sym, ◌∙◌, ap}
use Rattle.gcx_model.specs.Paths.{text_of}
use Rattle.node_store.specs.declared.store.Place.{Place}
use Rattle.cond_eval.proofs.Stored.{kind_here}
use Rattle.cond_eval.proofs.values.bytes_at.Goals as goal

pub returns-in-Text-clause-bytes : goal.returns-in-Text-clause-bytes
returns-in-Text-clause-bytes g c = λ d i e. c.as_bytes.ensures.bytes ∙ sym (ap text_of (kind_here c.args.buffer.now.kept c.args.buffer.now.rows c.at.ensures.alike _ c.at.ensures.store _ _ _ c.payload.ensures (sym c.kind.ensures ∙ c.in-Text.is) d i (e ∙ sym (ap (λ (p : Place). p.0) c.at.ensures.place))))

pub returns-in-Element-clause-bytes : goal.returns-in-Element-clause-bytes
returns-in-Element-clause-bytes g c = λ d i e. sym (ap text_of (kind_here c.args.buffer.now.kept c.args.buffer.now.rows c.at.ensures.alike _ c.at.ensures.store _ _ _ c.payload.ensures (sym c.kind.ensures ∙ c.in-Element.is) d i (e ∙ sym (ap (λ (p : Place). p.0) c.at.ensures.place))))

pub returns-in-Document-clause-bytes : goal.returns-in-Document-clause-bytes
returns-in-Document-clause-bytes g c = λ d i e. sym (ap text_of (kind_here c.args.buffer.now.kept c.args.buffer.now.rows c.at.ensures.alike _ c.at.ensures.store _ _ _ c.payload.ensures (sym c.kind.ensures ∙ c.in-Document.is) d i (e ∙ sym (ap (λ (p : Place). p.0) c.at.ensures.place))))
