use Rattle.std.proofs.Common.{length, subst, arith}
use Rattle.doc_tokens.specs.declared.lent.Lent.{Lent}
use Rattle.doc_tokens.specs.Parts.{LiesWithin}
use Rattle.doc_tokens.proofs.lent.Lent.owned.Goals as goal

pub slice_bounds-name-end : goal.slice_bounds-name-end
slice_bounds-name-end c =
    let part = subst (λ (t : Lent). LiesWithin 0 (length c.args.bytes.now) c.args.bytes.now t) c.in-Start.is c.requires in
    let order = part.1 in
    let within = part.2 in
    omega arith

pub of_name-requires : goal.of_name-requires
of_name-requires c = (subst (λ (t : Lent). LiesWithin 0 (length c.args.bytes.now) c.args.bytes.now t) c.in-Start.is c.requires).3

pub slice_bounds-text-end : goal.slice_bounds-text-end
slice_bounds-text-end c =
    let part = subst (λ (t : Lent). LiesWithin 0 (length c.args.bytes.now) c.args.bytes.now t) c.in-Text.is c.requires in
    let order = part.1 in
    let within = part.2 in
    omega arith

pub of_text-requires : goal.of_text-requires
of_text-requires c = (subst (λ (t : Lent). LiesWithin 0 (length c.args.bytes.now) c.args.bytes.now t) c.in-Text.is c.requires).3
