use Rattle.std.proofs.Common.{ap, inl, inr, subst, sym, ◌∙◌}
use Rattle.std.specs.Prelude.{IfOk}
use Rattle.gcx_model.specs.Tree.{TreeToken, Start, Chars}
use Rattle.doc_reader.specs.Standing.{said_of}
use Rattle.projector.specs.Late.{FeedsLate, MayBeFedLate}
use Rattle.buffer_tests.specs.Late.{IsTokenPart}
use Rattle.buffer_tests.proofs.buffers.late.feed_late.Goals as goal

pub start_late-requires-clause-name : goal.start_late-requires-clause-name
start_late-requires-clause-name g c = (subst (λ (t : TreeToken). IsTokenPart c.args.bytes.now c.args.part.0 c.args.part.1 t) (ap said_of c.in-Start.is) c.requires.part).0

pub text_late-requires-clause-text : goal.text_late-requires-clause-text
text_late-requires-clause-text g c = (subst (λ (t : TreeToken). IsTokenPart c.args.bytes.now c.args.part.0 c.args.part.1 t) (ap said_of c.in-Text.is) c.requires.part).0

pub start_late-requires-clause-may : goal.start_late-requires-clause-may
start_late-requires-clause-may g c =
    let part = subst (λ (t : TreeToken). IsTokenPart c.args.bytes.now c.args.part.0 c.args.part.1 t) (ap said_of c.in-Start.is) c.requires.part in
    subst (λ (t : TreeToken). MayBeFedLate c.args.bytes.now c.args.projector.now c.args.buffer.now t) (ap said_of c.in-Start.is ∙ ap Start (sym part.1)) c.requires.may

pub text_late-requires-clause-may : goal.text_late-requires-clause-may
text_late-requires-clause-may g c =
    let part = subst (λ (t : TreeToken). IsTokenPart c.args.bytes.now c.args.part.0 c.args.part.1 t) (ap said_of c.in-Text.is) c.requires.part in
    subst (λ (t : TreeToken). MayBeFedLate c.args.bytes.now c.args.projector.now c.args.buffer.now t) (ap said_of c.in-Text.is ∙ ap Chars (sym part.1)) c.requires.may

pub end_late-requires-clause-may : goal.end_late-requires-clause-may
end_late-requires-clause-may g c = (
  c.args.bytes.now,
  subst (λ (t : TreeToken). MayBeFedLate c.args.bytes.now c.args.projector.now c.args.buffer.now t) (elim c.in-End.is [ inl e ↦ ap said_of e | inr e ↦ ap said_of e ]) c.requires.may,
)

pub returns-in-Start : goal.returns-in-Start
returns-in-Start g c =
    let part = subst (λ (t : TreeToken). IsTokenPart c.args.bytes.now c.args.part.0 c.args.part.1 t) (ap said_of c.in-Start.is) c.requires.part in
    subst (λ (t : TreeToken). IfOk c.start_late.result (FeedsLate c.args.bytes.now c.args.projector.now c.start_late.new.self c.args.buffer.now c.start_late.new.buffer t)) (sym (ap said_of c.in-Start.is ∙ ap Start (sym part.1))) c.start_late.ensures.feeds

pub returns-in-Text : goal.returns-in-Text
returns-in-Text g c =
    let part = subst (λ (t : TreeToken). IsTokenPart c.args.bytes.now c.args.part.0 c.args.part.1 t) (ap said_of c.in-Text.is) c.requires.part in
    subst (λ (t : TreeToken). IfOk c.text_late.result (FeedsLate c.args.bytes.now c.args.projector.now c.text_late.new.self c.args.buffer.now c.text_late.new.buffer t)) (sym (ap said_of c.in-Text.is ∙ ap Chars (sym part.1))) c.text_late.ensures.feeds

pub returns-in-End : goal.returns-in-End
returns-in-End g c =
    subst (λ (t : TreeToken). IfOk c.end_late.result (FeedsLate c.args.bytes.now c.args.projector.now c.end_late.new.self c.args.buffer.now c.end_late.new.buffer t)) (sym (elim c.in-End.is [ inl e ↦ ap said_of e | inr e ↦ ap said_of e ])) (c.end_late.ensures.feeds c.args.bytes.now)
