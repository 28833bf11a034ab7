use Rattle.std.proofs.Common.{◌≡◌, ◌<◌, ◌^◌, ◌+◌, suc, ℕ, List, get_or, take, length, arith, subst}
use Rattle.std.proofs.Math.Seq.{take-length}
use Rattle.std.proofs.lemmas.Grind.{common_steps}
use Rattle.gcx_base.specs.declared.ids.Role.{Role}
use Rattle.buf_trace.proofs.Fronts.{front_kept}
use Rattle.buf_trace.proofs.Roles.{Small, small_next}
use Rattle.buf_trace.proofs.put.put_roles.Goals as goal

pub returns-in_err-put_number-clause-err : goal.returns-in_err-put_number-clause-err
returns-in_err-put_number-clause-err c =
    let kept = subst (λ (b : List ℕ). take (length b) c.put_number.new.out.items ≡ b) c.loop-role.invariant.text c.in_err-put_number.ensures.err in
    grind (arith, common_steps, front_kept c.args.out.now.items _ c.put_number.new.out.items kept)

pub loop-role-preserved : goal.loop-role-preserved
loop-role-preserved c =
    let roles = c.args.roles.now in
    let i = c.loop-role.role-index in
    let other : Role = record { 0 = 0 } in
    let small : (get_or roles i other).0 < 2 ^ 32 = omega arith in
    record {
      text = grind (arith, common_steps, c.loop-role.invariant.text, c.in_ok-put_number.ensures.ok);
      held = let next : suc i ≡ i + 1 = omega arith in subst (λ n. Small (take n roles)) next (small_next roles i other (omega arith) small c.loop-role.invariant.held);
    }

pub returns-clause-held : goal.returns-clause-held
returns-clause-held c =
    let roles = c.args.roles.now in
    let all : c.loop-role.role-index ≡ length roles = omega arith in
    subst Small (take-length roles) (subst (λ n. Small (take n roles)) all c.loop-role.invariant.held)
