use Rattle.std.proofs.Common.{◌≡◌, ◌∷◌, [], ◌++◌, ℕ, List, get_or, take, sym, ◌∙◌, ap, arith}
use Rattle.std.proofs.lemmas.List.{take_more}
use Rattle.trace_check.proofs.check.common.Goals as goal

pub loop-count-preserved : goal.loop-count-preserved
loop-count-preserved c =
    let left : List ℕ = c.args.left.now in
    let right : List ℕ = c.args.right.now in
    let k : ℕ = c.loop-count.count in
    let h = c.loop-count.invariant in
    let in_left = c.loop-count-test.true in
    let in_right = c.if-count-right.true in
    let equal : get_or left k 0 ≡ get_or right k 0 = c.if-left-count.true in
    record {
      within_left = omega (arith, in_left);
      within_right = omega (arith, in_right);
      same =
          take_more left k 0 in_left
          ∙ (ap (λ (l : List ℕ). l ++ get_or left k 0 ∷ []) h.same ∙ (ap (λ (x : ℕ). take k right ++ x ∷ []) equal ∙ sym (take_more right k 0 in_right)));
    }
