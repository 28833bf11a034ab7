use Rattle.std.proofs.Common.{sym, ◌∙◌}
use Rattle.buf_tree.proofs.Seeking.{used_there}
use Rattle.buf_tree.proofs.Going.{ups_start, ups_cell, ups_found, ups_on, ups_less, ups_lost, ups_end}
use Rattle.buf_tree.proofs.search.behind.Goals as goal

pub up-init : goal.up-init
up-init g c = ups_start _ c.requires.shape c.requires.nested _ _ c.requires.within c.requires.leaf

pub next-requires : goal.next-requires
next-requires g c =
    let t = ups_cell _ c.requires.shape c.requires.nested _ _ _ c.requires.top c.requires.there c.up.invariant in
    used_there _ c.requires.shape t.0 t.1 _ t.2

pub parent-requires : goal.parent-requires
parent-requires g c =
    let t = ups_cell _ c.requires.shape c.requires.nested _ _ _ c.requires.top c.requires.there c.up.invariant in
    used_there _ c.requires.shape t.0 t.1 _ t.2

pub returns-in-Some : goal.returns-in-Some
returns-in-Some g c = ups_found _ c.requires.shape c.requires.nested _ _ _ _ c.up.invariant (sym c.is_same.ensures ∙ c.up-test.true) (sym c.in-Some.ensures.value)

pub up-preserved : goal.up-preserved
up-preserved g c = ups_on _ c.requires.shape c.requires.nested _ _ _ _ c.up.invariant (sym c.is_same.ensures ∙ c.up-test.true) (sym c.in_default.ensures.value) (sym c.in-Some-parent.ensures.value)

pub up-smaller : goal.up-smaller
up-smaller g c =
    let t = ups_cell _ c.requires.shape c.requires.nested _ _ _ c.requires.top c.requires.there c.up.invariant in
    ups_less _ c.requires.shape c.requires.nested 0 0 _ _ t.0 t.1 t.2 (sym c.in-Some-parent.ensures.value)

pub returns-in-None : goal.returns-in-None
returns-in-None g c = ups_lost _ c.requires.shape c.requires.nested _ _ _ c.up.invariant (sym c.is_same.ensures ∙ c.up-test.true) (sym c.in-None.ensures.value)

pub returns : goal.returns
returns g c = ups_end _ c.requires.shape c.requires.nested _ _ _ c.up.invariant (sym c.is_same.ensures ∙ c.up-test.false)
