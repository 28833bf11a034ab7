use Rattle.std.proofs.Common.{sym, ◌∙◌, ap, subst, ◌+◌, Option, arith}
use Rattle.gcx_model.specs.declared.item.Off.{Off}
use Rattle.buf_tree.specs.Trail.{HasTrailRoom}
use Rattle.buf_tree.specs.Withdraw.{TakingFrom, walked_from}
use Rattle.buf_tree.specs.Shape.{cells}
use Rattle.buf_tree.proofs.SpreadSweeps.{not_none, spread_role, top_taking, top_swept, recounted_nested, recounted_length, recounted_there, recounted_tidy}
use Rattle.buf_tree.proofs.Seeking.{used_there}
use Rattle.buf_tree.proofs.statements.take_spread.Goals as goal

pub recount-lost-requires-clause-there : goal.recount-lost-requires-clause-there
recount-lost-requires-clause-there g c =
    let e = sym (rw c.in-Some.is at c.top.ensures.top) in
    let t = top_taking c.args.spread.now c.args.off.now _ e _ _ _ c.requires.taking in
    used_there _ c.requires.shape t.base t.among _ t.place

pub recount-lost-requires-clause-spread : goal.recount-lost-requires-clause-spread
recount-lost-requires-clause-spread g c =
    let e = sym (rw c.in-Some.is at c.top.ensures.top) in
    spread_role c.args.spread.now c.args.off.now _ e (c.top.ensures.role _ e)

pub recount-lost-requires-clause-own : goal.recount-lost-requires-clause-own
recount-lost-requires-clause-own g c = (top_taking c.args.spread.now c.args.off.now _ (sym (rw c.in-Some.is at c.top.ensures.top)) _ _ _ c.requires.taking).apart

pub recount-lost-requires-clause-room : goal.recount-lost-requires-clause-room
recount-lost-requires-clause-room g c o =
    let e = sym (rw c.in-Some.is at c.top.ensures.top) in
    subst (λ (x : Option Off). HasTrailRoom (walked_from x c.args.off.now) c.args.trail.now) e (c.requires.room o)

pub drop_below-requires-clause-shape : goal.drop_below-requires-clause-shape
drop_below-requires-clause-shape g c =
    let e = sym (rw c.in-Some.is at c.top.ensures.top) in
    let t = top_taking c.args.spread.now c.args.off.now _ e _ _ _ c.requires.taking in
    (c.recount-lost.ensures.recounted t.tree t.base t.loses t.told t.among t.place t.each).shape

pub drop_below-requires-clause-nested : goal.drop_below-requires-clause-nested
drop_below-requires-clause-nested g c =
    let e = sym (rw c.in-Some.is at c.top.ensures.top) in
    let t = top_taking c.args.spread.now c.args.off.now _ e _ _ _ c.requires.taking in
    recounted_nested _ _ _ _ _ _ (c.recount-lost.ensures.recounted t.tree t.base t.loses t.told t.among t.place t.each) c.requires.nested

pub drop_below-requires-clause-there : goal.drop_below-requires-clause-there
drop_below-requires-clause-there g c =
    let e = sym (rw c.in-Some.is at c.top.ensures.top) in
    let t = top_taking c.args.spread.now c.args.off.now _ e _ _ _ c.requires.taking in
    recounted_there _ _ _ _ _ _ (c.recount-lost.ensures.recounted t.tree t.base t.loses t.told t.among t.place t.each) c.requires.shape _
    (used_there _ c.requires.shape t.base t.among _ t.place)

pub drop_below-requires-clause-tidy : goal.drop_below-requires-clause-tidy
drop_below-requires-clause-tidy g c =
    let e = sym (rw c.in-Some.is at c.top.ensures.top) in
    let t = top_taking c.args.spread.now c.args.off.now _ e _ _ _ c.requires.taking in
    recounted_tidy _ _ _ _ _ _ (c.recount-lost.ensures.recounted t.tree t.base t.loses t.told t.among t.place t.each) c.requires.tidy _ c.recount-lost.ensures.outside

pub drop_below-requires-clause-departures : goal.drop_below-requires-clause-departures
drop_below-requires-clause-departures g c =
    let e = sym (rw c.in-Some.is at c.top.ensures.top) in
    let t = top_taking c.args.spread.now c.args.off.now _ e _ _ _ c.requires.taking in
    let l = recounted_length _ _ _ _ _ _ (c.recount-lost.ensures.recounted t.tree t.base t.loses t.told t.among t.place t.each) in
    omega (arith, l, c.requires.departures)

pub returns-in-Some-clause-swept : goal.returns-in-Some-clause-swept
returns-in-Some-clause-swept g c none t = absurd (not_none c.args.spread.now c.args.off.now _ (sym (rw c.in-Some.is at c.top.ensures.top)) none)

pub returns-in-Some-clause-spread : goal.returns-in-Some-clause-spread
returns-in-Some-clause-spread g c =
    let e = sym (rw c.in-Some.is at c.top.ensures.top) in
    top_swept c.args.spread.now c.args.off.now _ e _ _ _ _ _ _ _ _ (c.top.ensures.role _ e) c.recount-lost.ensures.recounted c.drop_below.ensures.dropped

pub returns-in-Some-clause-count : goal.returns-in-Some-clause-count
returns-in-Some-clause-count g c =
    let e = sym (rw c.in-Some.is at c.top.ensures.top) in
    let t = top_taking c.args.spread.now c.args.off.now _ e _ _ _ c.requires.taking in
    let l = recounted_length _ _ _ _ _ _ (c.recount-lost.ensures.recounted t.tree t.base t.loses t.told t.among t.place t.each) in
    c.drop_below.ensures.count ∙ ap (λ n. c.args.gone.now.len + n) l

pub returns-in-Some-clause-most : goal.returns-in-Some-clause-most
returns-in-Some-clause-most g c = c.drop_below.ensures.most ∙ c.recount-lost.ensures.most

pub returns-in-Some-clause-loans : goal.returns-in-Some-clause-loans
returns-in-Some-clause-loans g c = c.drop_below.ensures.loans ∙ c.recount-lost.ensures.loans

pub take_back-requires-clause-taking : goal.take_back-requires-clause-taking
take_back-requires-clause-taking g c =
    let e = sym (rw c.in-None.is at c.top.ensures.top) in
    subst (λ (x : Option Off). TakingFrom x (cells (g.N.NodeStore.rows c.args.nodes.now)) c.args.place.0 c.args.off.now c.args.others) e c.requires.taking

pub take_back-requires-clause-room : goal.take_back-requires-clause-room
take_back-requires-clause-room g c o =
    let e = sym (rw c.in-None.is at c.top.ensures.top) in
    subst (λ (x : Option Off). HasTrailRoom (walked_from x c.args.off.now) c.args.trail.now) e (c.requires.room o)

pub returns-in-None-clause-swept : goal.returns-in-None-clause-swept
returns-in-None-clause-swept g c none t = c.take_back.ensures.swept t

pub returns-in-None-clause-spread : goal.returns-in-None-clause-spread
returns-in-None-clause-spread g c top is_for t = absurd (not_none c.args.spread.now c.args.off.now _ is_for (sym (rw c.in-None.is at c.top.ensures.top)))
