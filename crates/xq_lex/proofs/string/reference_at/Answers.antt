use Rattle.std.proofs.Common.{rules, arith, ◌≡◌, take, length, ap, ◌∙◌, subst}
use Rattle.std.proofs.Math.Seq.{take-length}
use Rattle.doc_chars.specs.Reference.{BeginsReference}
use Rattle.xq_lex.proofs.ReadingLaws.{starts, done_at, never_at, never_ended}
use Rattle.xq_lex.proofs.string.reference_at.Goals as goal

pub loop-i-init : goal.loop-i-init
loop-i-init c = (starts, c.new-reference.ensures)

pub returns-in-Done : goal.returns-in-Done
returns-in-Done c = done_at c.args.text.now c.loop-i.i c.index-text-i.result c.in-Done.value (search rules) c.index-text-i.is (c.in-Done.ensures.answer _ c.loop-i.invariant.1)

pub returns-in-Bad : goal.returns-in-Bad
returns-in-Bad c = never_at c.args.text.now c.loop-i.i c.index-text-i.result (search rules) c.index-text-i.is c.loop-i.invariant.0 (c.in-Bad.ensures.answer _ c.loop-i.invariant.1)

pub returns : goal.returns
returns c =
    let all : c.loop-i.i ≡ length c.args.text.now = omega arith in
    never_ended c.args.text.now (subst BeginsReference (ap (λ n. take n c.args.text.now) all ∙ take-length c.args.text.now) c.loop-i.invariant.0)
