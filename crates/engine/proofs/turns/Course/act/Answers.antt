use Rattle.std.proofs.Common.{ℕ, ◌+◌, refl, ap}
use Rattle.gcx_model.specs.Turning.{tree_fed}
use Rattle.engine.specs.declared.turns.Course.{Course}
use Rattle.engine.proofs.TurnsFed.{acts}
use Rattle.engine.proofs.turns.Course.act.Goals as goal

pub act_one-requires : goal.act_one-requires
act_one-requires g c = let m = c.requires.turns in record { plan = m.plan; tree = tree_fed m.tokens m.state; taken = m.state.acted; of = m.of.actors }

pub returns-clause-acts : goal.returns-clause-acts
returns-clause-acts g c = λ plan ts s h.
    let a = c.args.self.now in
    let d : Course g.row.N.Denot g.row.C.Denot = record { actors = c.act_one.new.self; tokens = a.tokens; fed = a.fed; acted = a.acted + c.actions_in.result } in
    acts g.C.Conds.stands plan ts s a h c.args.out.now.items c.act_one.new.out.items d refl refl c.act_one.ensures.counts c.in_ok-more.more c.in_ok-more.ensures.acts
    (ap (λ (z : ℕ). a.acted + z) c.actions_in.ensures.is)
