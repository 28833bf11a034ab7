use Rattle.std.proofs.Common.{[], false, subst}
use Rattle.gcx_base.specs.declared.limits.Limits.{Limits}
use Rattle.gcx_base.specs.Limits.{full_limits}
use Rattle.doc_reader.specs.Standing.{Stands}
use Rattle.engine_tests.proofs.engines.turns.read_front.Goals as goal

pub returns : goal.returns
returns c =
    let new = subst (λ (limits : Limits). Stands c.new-reader.result limits [] false []) c.full.ensures c.new-reader.ensures.stands in
    c.feed.ensures.stands full_limits [] [] new
