use Rattle.std.proofs.Common.{arith, sym, ◌∙◌, subst, ◌≡◌, ◌-◌, ◌+◌, ℕ, take, true}
use Rattle.std.specs.List.{list_all}
use Rattle.doc_write.specs.Plain.{is_plain}
use Rattle.doc_write.proofs.Plain.{plain_more}
use Rattle.doc_write.proofs.plain_blocks.Goals as goal

pub loop-at-preserved : goal.loop-at-preserved
loop-at-preserved c =
    let at = c.loop-at.at in
    let n = at + 16 - at in
    let size : n ≡ 16 = omega arith in
    let more = plain_more c.args.bytes.now at n c.loop-at.invariant.1 (sym c.all_plain.ensures ∙ c.if-not-all_plain.false) in
    (omega arith, subst (λ (k : ℕ). list_all is_plain (take (at + k) c.args.bytes.now) ≡ true) size more)
