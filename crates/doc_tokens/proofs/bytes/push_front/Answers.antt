use Rattle.std.proofs.Common.{ℕ, List, ◌+◌, ◌++◌, take, ◌∙◌, ap, arith}
use Rattle.std.proofs.lemmas.List.{take-take}
use Rattle.doc_tokens.proofs.Lists.{take_behind}
use Rattle.doc_tokens.proofs.bytes.push_front.Goals as goal

pub returns-clause-ok : goal.returns-clause-ok
returns-clause-ok c =
    let old = c.args.list.now.items in
    let fits = c.has_block.ensures c.if-not-has_block.false in
    c.truncate.ensures.items
    ∙ (ap (λ (l : List ℕ). take (c.len-len.result + c.args.n) l) c.in_ok-extend_from_slice-2.ensures.items
    ∙ (take_behind old (take 16 c.args.bytes.now) c.args.n (c.len-len.result + c.args.n) (omega (arith, c.len-len.ensures, c.args.list.now.ok.0))
    ∙ ap (λ (l : List ℕ). old ++ l) (take-take c.args.n 16 c.args.bytes.now fits.0)))
