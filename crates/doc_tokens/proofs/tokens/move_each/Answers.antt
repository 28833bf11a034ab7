use Rattle.std.proofs.Common.{◌≡◌, ◌+◌, ◌++◌, ◌∙◌, ℕ, suc, List, map, take, drop, set, get_or, ap, refl, arith}
use Rattle.doc_tokens.specs.declared.lent.Lent.{Lent}
use Rattle.doc_tokens.specs.Parts.{moved_by}
use Rattle.doc_tokens.proofs.Parts.{moved_more, moved_all}
use Rattle.doc_tokens.proofs.tokens.move_each.Goals as goal

pub loop-i-init : goal.loop-i-init
loop-i-init c = refl

pub loop-i-preserved : goal.loop-i-preserved
loop-i-preserved c =
    let xs = c.args.lent.now in
    let i = c.loop-i.i in
    let f = moved_by c.args.by in
    let next : suc i ≡ i + 1 = omega arith in
    ap (λ (x : Lent). set c.loop-i.lent i x) c.moved.ensures
    ∙ ap (λ (ys : List Lent). set ys i (f (get_or ys i _))) c.loop-i.invariant
    ∙ moved_more f xs i _ (omega arith)
    ∙ ap (λ (n : ℕ). map f (take n xs) ++ drop n xs) next

pub returns : goal.returns
returns c = moved_all (moved_by c.args.by) c.args.lent.now c.loop-i.lent c.loop-i.i (omega arith) c.loop-i.invariant
