use Rattle.std.proofs.Common.{◌≡◌, ℕ, true, ◌<◌, length, take, sym, subst, arith}
use Rattle.time_laws.specs.Checking.{Judges, No, Yes}
use Rattle.trace_check.proofs.Compared.{ends_no, ends_yes}
use Rattle.trace_check.proofs.check.ended.Goals as goal

pub returns-then-at-text-clause-judged : goal.returns-then-at-text-clause-judged
returns-then-at-text-clause-judged c =
    let all : c.args.at ≡ length c.args.text.now = (let b = c.if-at-text.true in omega (arith, b)) in
    subst (λ (n : ℕ). Judges c.args.text.now (Yes n) (take c.args.at c.args.text.now) true) (sym c.line_ends.ensures) (ends_yes c.args.text.now c.args.at all)

pub returns-else-at-text-clause-judged : goal.returns-else-at-text-clause-judged
returns-else-at-text-clause-judged c =
    let less : c.args.at < length c.args.text.now = (let a = c.requires in let b = c.if-at-text.false in omega (arith, a, b)) in
    subst (λ (n : ℕ). Judges c.args.text.now (No n) (take c.args.at c.args.text.now) true) (sym c.next_line.ensures) (ends_no c.args.text.now c.args.at less)
