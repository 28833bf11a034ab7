use Rattle.std.proofs.Common.{length, sym, subst, arith}
use Rattle.std.specs.Prelude.{IfOk}
use Rattle.doc_reader.specs.Standing.{Lent, LiesWithin, lent_token}
use Rattle.projector.specs.Late.{FeedsLate, MayBeFedLate}
use Rattle.projector.proofs.Loosely.{makes_same}
use Rattle.projector.proofs.projector.Projector.feed_lean.Goals as goal

pub start_late-requires-clause-name : goal.start_late-requires-clause-name
start_late-requires-clause-name g c =
    let part = subst (λ (t : Lent). LiesWithin 0 (length c.args.bytes.now) c.args.bytes.now t) c.in-Start.is c.requires.part in
    record { ordered = part.1; within = part.2; named = part.3 }

pub start_late-requires-clause-may : goal.start_late-requires-clause-may
start_late-requires-clause-may g c =
    subst (λ (t : Lent). MayBeFedLate c.args.bytes.now c.args.self.now c.args.buffer.now (lent_token c.args.bytes.now t)) c.in-Start.is c.requires.may

pub text_late-requires-clause-text : goal.text_late-requires-clause-text
text_late-requires-clause-text g c =
    let part = subst (λ (t : Lent). LiesWithin 0 (length c.args.bytes.now) c.args.bytes.now t) c.in-Text.is c.requires.part in
    record { ordered = part.1; within = part.2; utf8 = part.3 }

pub text_late-requires-clause-may : goal.text_late-requires-clause-may
text_late-requires-clause-may g c =
    subst (λ (t : Lent). MayBeFedLate c.args.bytes.now c.args.self.now c.args.buffer.now (lent_token c.args.bytes.now t)) c.in-Text.is c.requires.may

pub end_late-requires-clause-may : goal.end_late-requires-clause-may
end_late-requires-clause-may g c = (
  c.args.bytes.now,
  subst (λ (t : Lent). MayBeFedLate c.args.bytes.now c.args.self.now c.args.buffer.now (lent_token c.args.bytes.now t)) c.in-End.is c.requires.may,
)

pub returns-in-Start-clause-feeds : goal.returns-in-Start-clause-feeds
returns-in-Start-clause-feeds g c =
    subst (λ (t : Lent). IfOk c.start_late.result (FeedsLate c.args.bytes.now c.args.self.now c.start_late.new.self c.args.buffer.now c.start_late.new.buffer (lent_token c.args.bytes.now t))) (sym c.in-Start.is) c.start_late.ensures.feeds

pub returns-in-Text-clause-feeds : goal.returns-in-Text-clause-feeds
returns-in-Text-clause-feeds g c =
    subst (λ (t : Lent). IfOk c.text_late.result (FeedsLate c.args.bytes.now c.args.self.now c.text_late.new.self c.args.buffer.now c.text_late.new.buffer (lent_token c.args.bytes.now t))) (sym c.in-Text.is) c.text_late.ensures.feeds

pub returns-in-End-clause-feeds : goal.returns-in-End-clause-feeds
returns-in-End-clause-feeds g c =
    subst (λ (t : Lent). IfOk c.end_late.result (FeedsLate c.args.bytes.now c.args.self.now c.end_late.new.self c.args.buffer.now c.end_late.new.buffer (lent_token c.args.bytes.now t))) (sym c.in-End.is)
    (c.end_late.ensures.feeds c.args.bytes.now)

pub returns-in-End-clause-err : goal.returns-in-End-clause-err
returns-in-End-clause-err g c = makes_same c.args.bytes.now c.args.self.now c.args.buffer.now c.end_late.new.buffer c.end_late.result c.end_late.ensures.err

pub returns-in-End-clause-taken : goal.returns-in-End-clause-taken
returns-in-End-clause-taken g c = let same = c.end_late.ensures.taken in omega arith
