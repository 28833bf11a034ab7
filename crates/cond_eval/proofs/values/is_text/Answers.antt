use Rattle.std.proofs.Common.{sym, ◌∙◌, ap}
use Rattle.gcx_base.specs.Kinds.{is_text}
use Rattle.node_store.specs.declared.store.Place.{Place}
use Rattle.cond_eval.proofs.Cursors.{no_text_kind}
use Rattle.cond_eval.proofs.Stored.{kind_here}
use Rattle.cond_eval.proofs.values.is_text.Goals as goal

pub returns-in-Text : goal.returns-in-Text
returns-in-Text g c = λ d i e. sym (ap is_text (kind_here c.args.buffer.now.kept c.args.buffer.now.rows c.at.ensures.alike _ c.at.ensures.store _ _ _ c.payload.ensures (sym c.kind.ensures ∙ c.in-Text.is) d i (e ∙ sym (ap (λ (p : Place). p.0) c.at.ensures.place))))

pub returns-in_default : goal.returns-in_default
returns-in_default g c = λ d i e.
    no_text_kind c.kind.result.now c.in_default.not-Text ∙ sym (ap is_text (kind_here c.args.buffer.now.kept c.args.buffer.now.rows c.at.ensures.alike _ c.at.ensures.store _ _ _ c.payload.ensures (sym c.kind.ensures) d i (e ∙ sym (ap (λ (p : Place). p.0) c.at.ensures.place))))
