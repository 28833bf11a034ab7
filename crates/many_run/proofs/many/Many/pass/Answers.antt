use Rattle.std.proofs.Common.{◌+◌, length, ap, arith}
use Rattle.many_run.specs.View.{ManyView}
use Rattle.many_run.proofs.many.Many.pass.Goals as goal

pub overflow_add-self : goal.overflow_add-self
overflow_add-self g c =
    let same = ap (λ (z : ManyView g.row.C.Denot). z.bytes) c.self.view_is in
    let few = c.requires in
    omega arith

pub returns : goal.returns
returns g c = ap (λ (z : ManyView g.row.C.Denot). record z { bytes = z.bytes + length c.args.rest.now }) c.self.view_is
