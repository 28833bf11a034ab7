use Rattle.std.proofs.Common.{rules, ◌≡◌, ℕ, List, [], length, sym, ap, ◌∙◌, subst, arith}
use Rattle.std.proofs.lemmas.Grind.{common_steps}
use Rattle.std.proofs.lemmas.List.{nil_from_length}
use Rattle.gcx_io.specs.Writing.{Takes}
use Rattle.engine.proofs.RunOn.{wrote_out}
use Rattle.engine.proofs.running.write_waiting.Goals as goal

pub returns-else-not-is_empty-clause-wrote : goal.returns-else-not-is_empty-clause-wrote
returns-else-not-is_empty-clause-wrote g c =
    let took : Takes (g.O.Sink.seen c.args.out.now) (g.O.Sink.seen c.write_all.new.sink) c.args.engine.now.out =
    subst (λ (t : List ℕ). Takes (g.O.Sink.seen c.args.out.now) (g.O.Sink.seen c.write_all.new.sink) t) c.output.ensures c.in_ok-write_all.ensures.takes in
    let same : c.trace.result.now ≡ c.args.engine.now.trace = search rules in
    let zero : length c.trace.result.now ≡ 0 = grind (arith, common_steps) in
    let none : c.args.engine.now.trace ≡ [] = nil_from_length c.args.engine.now.trace (ap length (sym same) ∙ zero) in
    wrote_out _ _ _ _ _ took none
