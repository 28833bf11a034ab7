use Rattle.std.proofs.Common.{sym}
use Rattle.buf_tree.proofs.Seeking.{downs_start, downs_cell, downs_on, downs_less, downs_end, used_there}
use Rattle.buf_tree.proofs.search.tail.Goals as goal

pub down-init : goal.down-init
down-init g c = downs_start _ c.requires.shape c.requires.nested _

pub last-requires : goal.last-requires
last-requires g c =
    let t = downs_cell _ c.requires.shape c.requires.nested _ _ c.requires.there c.down.invariant in
    used_there _ c.requires.shape t.0 t.1 _ t.2

pub down-preserved : goal.down-preserved
down-preserved g c = downs_on _ c.requires.shape c.requires.nested _ _ _ c.down.invariant (sym c.in-Some.ensures.value)

pub down-smaller : goal.down-smaller
down-smaller g c =
    let t = downs_cell _ c.requires.shape c.requires.nested _ _ c.requires.there c.down.invariant in
    downs_less _ c.requires.shape c.requires.nested _ _ t.0 t.1 t.2 (sym c.in-Some.ensures.value)

pub returns : goal.returns
returns g c = downs_end _ c.requires.shape c.requires.nested _ _ c.down.invariant (sym c.in_default.ensures.value)
