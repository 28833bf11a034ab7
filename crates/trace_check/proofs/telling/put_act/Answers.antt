use Rattle.std.proofs.Common.{◌≡◌, ℕ, suc, ◌+◌, [], ◌∷◌, List, sym, subst, arith}
use Rattle.gcx_base.specs.declared.ids.Serial.{Serial}
use Rattle.gcx_model.specs.Demand.{Line, SignedOff}
use Rattle.gcx_model.specs.Run.{Action}
use Rattle.time_laws.specs.Leaving.{is_freed, left_where}
use Rattle.buf_trace.specs.declared.line.Line.TheVariants as line
use Rattle.trace_check.specs.Acting.{act_shown}
use Rattle.trace_check.specs.Telling.{Puts, acts_in, shown_told}
use Rattle.trace_check.specs.Timing.{clock_in}
use Rattle.trace_check.specs.declared.acts.Act.{Act}
use Rattle.trace_check.proofs.Putting.{on_ok}
use Rattle.trace_check.proofs.Told.{puts_one, puts_then}
use Rattle.trace_check.proofs.telling.put_act.Goals as goal

pub returns-in_ok-put_line-in-SignedOff-clause-puts : goal.returns-in_ok-put_line-in-SignedOff-clause-puts
returns-in_ok-put_line-in-SignedOff-clause-puts c = on_ok c.put_freed.result c.put_freed.ensures (λ freed plan ts is few.
    let old : List ℕ = c.args.text.now.items in
    let mid : List ℕ = c.put_line-in-SignedOff.new.out.items in
    let new : List ℕ = c.put_freed.new.text.items in
    let k : ℕ = c.args.told.now.signed in
    let all : List Action = acts_in plan c.args.course.now in
    let leaves : ℕ → List Line = λ n. left_where c.args.course.now.timed.tree (is_freed (clock_in c.args.course.now.timed) c.args.course.now.timed.tree all c.args.now n) in
    let next : k + 1 ≡ suc k = omega arith in
    let serial : Serial = record { 0 = c.in-SignedOff.node } in
    let role = c.in-SignedOff.off.now.role in
    let put = c.in_ok-put_line-in-SignedOff.ensures in
    let first : Puts old mid (SignedOff c.in-SignedOff.node role.0 ∷ []) = puts_one old mid (line.SignedOff serial role) put.ok put.held in
    let rest : Puts mid new (leaves (suc k)) = subst (λ (n : ℕ). Puts mid new (leaves n)) next (freed plan ts is few) in
    subst (λ (a : Act). Puts old new (shown_told (clock_in c.args.course.now.timed) c.args.course.now.timed.tree all c.args.now k (act_shown a))) (sym c.in-SignedOff.is)
    (puts_then old mid new (SignedOff c.in-SignedOff.node role.0 ∷ []) (leaves (suc k)) first rest))
