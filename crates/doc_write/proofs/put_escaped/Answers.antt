use Rattle.std.proofs.Common.{arith, subst, ap, ◌∙◌, ◌≡◌, ◌≤◌, ◌++◌, List, ℕ, length, take, drop, length-drop, append_assoc}
use Rattle.std.proofs.lemmas.List.{take_rest}
use Rattle.gcx_model.specs.Written.{escaped}
use Rattle.doc_write.proofs.Plain.{escaped_run, kept_front, on_err}
use Rattle.doc_write.proofs.put_escaped.Goals as goal

pub returns-in_err-at-clause-err : goal.returns-in_err-at-clause-err
returns-in_err-at-clause-err c =
    let new = c.put_run.new.out.items in
    on_err _ c.from_residual.result
    (kept_front c.args.out.now.items (escaped (take c.loop-at.at c.args.bytes.now)) new
    (subst (λ (l : List ℕ). take (length l) new ≡ l) c.loop-at.invariant.1 c.in_err-at.ensures.err))

pub loop-at-preserved : goal.loop-at-preserved
loop-at-preserved c =
    let at = c.loop-at.at in
    let n = c.in_ok-at.field-0 in
    let bytes = c.args.bytes.now in
    let out = c.args.out.now.items in
    let run = escaped (take n (drop at bytes)) in
    let few = subst (λ (l : List ℕ). n ≤ length l) (take_rest bytes at) c.in_ok-at.ensures.some.1 in
    let ran = subst (λ (l : List ℕ). c.put_run.new.out.items ≡ c.loop-at.out.items ++ escaped (take n l)) (take_rest bytes at) c.in_ok-at.ensures.ok in (
      omega (arith, few, length-drop at bytes),
      ran
          ∙ ap (λ (l : List ℕ). l ++ run) c.loop-at.invariant.1
          ∙ append_assoc out (escaped (take at bytes)) run
          ∙ ap (λ (l : List ℕ). out ++ l) (escaped_run bytes at n),
    )
