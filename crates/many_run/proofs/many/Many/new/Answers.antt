use Rattle.std.proofs.Common.{false, None, refl}
use Rattle.many_run.proofs.Making.{many_starts}
use Rattle.many_run.proofs.many.Many.new.Goals as goal

pub returns : goal.returns
returns g c =
    many_starts g.C.Conds.stands c.args.plans.now c.args.limits (record { reader = c.new-reader.result; parts = c.in_ok-parts.parts.items; bytes = 0; refused = None; ended = false }) (record { depth = c.requires.depth; bytes = c.requires.bytes })
    c.in_ok-parts.ensures c.new-reader.ensures.stands c.new-reader.ensures.nothing refl refl refl
