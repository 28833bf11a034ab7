use Rattle.std.proofs.Common.{rules, ℕ, ◌≡◌, ◌<◌, ◌+◌, ◌++◌, [], ◌∷◌, length, take, sym, ◌∙◌, ap, arith}
use Rattle.std.proofs.Math.Numerals.{suc-eq-add-one}
use Rattle.std.proofs.Math.Seq.{take-suc}
use Rattle.gcx_base.specs.declared.steps.Step.{Step}
use Rattle.cond_memo.proofs.marked.are_same.Goals as goal

pub steps-preserved : goal.steps-preserved
steps-preserved c =
    let i = c.steps.i in
    let kept = c.args.kept.now in
    let steps = c.args.steps.now in
    let one : c.index-kept-i.result ≡ c.index-steps-i.result = search rules in
    let lengths : length kept ≡ length steps = search rules in
    let in_kept : i < length kept = omega (arith, lengths) in
    let of_kept : take (i + 1) kept ≡ take i kept ++ (c.index-kept-i.result ∷ []) =
    ap (λ (n : ℕ). take n kept) (sym (suc-eq-add-one i)) ∙ take-suc kept i c.index-kept-i.result in_kept ∙ ap (λ (s : Step). take i kept ++ (s ∷ [])) (sym c.index-kept-i.is) in
    let of_steps : take (i + 1) steps ≡ take i steps ++ (c.index-steps-i.result ∷ []) =
    ap (λ (n : ℕ). take n steps) (sym (suc-eq-add-one i)) ∙ take-suc steps i c.index-steps-i.result c.steps-test.true ∙ ap (λ (s : Step). take i steps ++ (s ∷ [])) (sym c.index-steps-i.is) in
    let both : take i kept ++ (c.index-kept-i.result ∷ []) ≡ take i steps ++ (c.index-steps-i.result ∷ []) =
    λ k. c.steps.invariant.same k ++ (one k ∷ []) in
    record { low = omega arith; same = of_kept ∙ both ∙ sym of_steps }
