use Rattle.gcx_model.specs.Tree.{grow_all, opening}
use Rattle.run_part.specs.Actors.{past_at}
use Rattle.engine_tests.proofs.Demand.{acted_on}
use Rattle.engine_tests.proofs.engines.demand.Pair.act.Goals as goal

pub act-requires : goal.act-requires
act-requires c =
    let h = c.requires in
    record { past = past_at h.plan (grow_all h.fed opening) h.taken h.stand.fed; taken = h.taken; beside = h.stand.beside; stand = tt }

pub returns : goal.returns
returns c = acted_on _ _ _ _ c.requires _ _ _ _ _ c.in_ok-acted.ensures.acts c.note_gone.new.buffer c.in_ok-note_gone.ensures
