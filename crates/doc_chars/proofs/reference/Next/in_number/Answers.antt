use Rattle.std.proofs.Common.{rules, ◌≡◌, ◌<◌, ◌+◌, ◌*◌, subst}
use Rattle.std.specs.Prelude.{unwrap_or}
use Rattle.std.specs.Char.{digit_value}
use Rattle.doc_chars.specs.References.{base_of}
use Rattle.doc_chars.proofs.Digits.{digit_is, never_large, never_other, never_end, closes_at}
use Rattle.doc_chars.proofs.reference.Next.in_number.Goals as goal

pub returns-in-None-grown-clause-leads : goal.returns-in-None-grown-clause-leads
returns-in-None-grown-clause-leads c text n =
    let base : c.base-base.result ≡ base_of c.args.radix = search rules in
    let digit : digit_value c.args.c < c.base-base.result = search rules in
    let large : 1114111 < unwrap_or c.args.value 0 * c.base-base.result + digit_value c.args.c = search rules in
    never_large c.args.radix c.args.value text c.args.c n
    (digit_is c.args.c (base_of c.args.radix) (subst (λ b. digit_value c.args.c < b) base digit))
    (subst (λ b. 1114111 < unwrap_or c.args.value 0 * b + digit_value c.args.c) base large)

pub returns-in-Some-char_of-clause-leads : goal.returns-in-Some-char_of-clause-leads
returns-in-Some-char_of-clause-leads c text n = closes_at c.args.radix c.args.value c.in-Some-char_of.c c.args.c text n c.if-c-eq59.true c.in-Some-char_of.ensures.0 c.in-Some-char_of.ensures.1

pub returns-in-None-char_of-clause-leads : goal.returns-in-None-char_of-clause-leads
returns-in-None-char_of-clause-leads c text n = never_end c.args.radix c.args.value c.args.c text n c.if-c-eq59.true c.in-None-char_of.ensures

pub returns-in-None-3-clause-leads : goal.returns-in-None-3-clause-leads
returns-in-None-3-clause-leads c text n =
    let no_digit : digit_value c.args.c < base_of c.args.radix → ⊥ = search rules in
    never_other c.args.radix c.args.value text c.args.c n no_digit c.if-c-eq59.false (λ is none mark. absurd (search rules))
