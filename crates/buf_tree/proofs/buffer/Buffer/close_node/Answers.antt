use Rattle.std.proofs.Common.{rules, ◌∙◌, ap}
use Rattle.std.specs.Prelude.{IsTrue}
use Rattle.buf_tree.specs.View.{View}
use Rattle.buf_tree.specs.Rows.{serials}
use Rattle.buf_tree.proofs.Keeping.{kept_still}
use Rattle.buf_tree.proofs.LeftViews.{ready_closed, covers_closed, closed_then, stands_then}
use Rattle.buf_tree.proofs.Purging.{cleared_none}
use Rattle.buf_tree.proofs.Reading.{innermost_used}
use Rattle.buf_tree.proofs.SeenReading.{used_seen}
use Rattle.buf_tree.proofs.buffer.Buffer.close_node.Goals as goal

pub shut-requires : goal.shut-requires
shut-requires g c = used_seen _ c.self.invariant.0.shape c.self.inside.spread _ (ap (λ (v : View). v.rows) c.self.view_is) _ (innermost_used _ _ c.requires.innermost)

pub is_spare-requires : goal.is_spare-requires
is_spare-requires g c = (ready_closed c.self.inside.spread _ _ _ _ _ _ _ _ _ _ c.self.view_is c.self.invariant.0 c.self.invariant.1 _ _ c.shut.ensures.rows c.requires.innermost).there

pub invariant_of-self : goal.invariant_of-self
invariant_of-self g c =
    let r = ready_closed c.self.inside.spread _ _ _ _ _ _ _ _ _ _ c.self.view_is c.self.invariant.0 c.self.invariant.1 _ _ c.shut.ensures.rows c.requires.innermost in
    let none = cleared_none _ _ (serials c.self.inside.gone.items) r.shape r.there r.tidy (λ e at spare. let is : IsTrue c.is_spare.result = (c.is_spare.ensures e at).1 spare in search rules) in
    (kept_still _ _ _ _ _ _ r none, covers_closed c.self.inside.spread _ _ _ _ _ _ _ _ _ _ c.self.view_is c.self.invariant.0 c.self.invariant.1 _ _ c.shut.ensures.rows c.requires.innermost _ _ none (g.N.NodeStore.most_held c.shut.new.nodes) (g.N.NodeStore.loans c.shut.new.nodes))

pub returns-then-not-is_spare-clause-closed : goal.returns-then-not-is_spare-clause-closed
returns-then-not-is_spare-clause-closed g c =
    let r = ready_closed c.self.inside.spread _ _ _ _ _ _ _ _ _ _ c.self.view_is c.self.invariant.0 c.self.invariant.1 _ _ c.shut.ensures.rows c.requires.innermost in
    let none = cleared_none _ _ (serials c.self.inside.gone.items) r.shape r.there r.tidy (λ e at spare. let is : IsTrue c.is_spare.result = (c.is_spare.ensures e at).1 spare in search rules) in
    closed_then c.self.inside.spread _ _ _ _ _ _ _ _ _ _ c.self.view_is c.self.invariant.0 c.self.invariant.1 _ _ c.shut.ensures.rows c.requires.innermost _ _ none _ (g.N.NodeStore.loans c.shut.new.nodes) c.shut.ensures.most

pub returns-then-not-is_spare-clause-stands : goal.returns-then-not-is_spare-clause-stands
returns-then-not-is_spare-clause-stands g c =
    let r = ready_closed c.self.inside.spread _ _ _ _ _ _ _ _ _ _ c.self.view_is c.self.invariant.0 c.self.invariant.1 _ _ c.shut.ensures.rows c.requires.innermost in
    let none = cleared_none _ _ (serials c.self.inside.gone.items) r.shape r.there r.tidy (λ e at spare. let is : IsTrue c.is_spare.result = (c.is_spare.ensures e at).1 spare in search rules) in
    stands_then c.self.inside.spread _ _ _ _ _ _ _ _ _ _ c.self.view_is c.self.invariant.0 c.self.invariant.1 _ _ c.shut.ensures.rows c.requires.innermost _ _ none _ (g.N.NodeStore.loans c.shut.new.nodes) c.shut.ensures.most c.requires.waiting

pub leave-held-requires : goal.leave-held-requires
leave-held-requires g c = (c.self.inside.count, ready_closed c.self.inside.spread _ _ _ _ _ _ _ _ _ _ c.self.view_is c.self.invariant.0 c.self.invariant.1 _ _ c.shut.ensures.rows c.requires.innermost)

pub invariant_of-self-2 : goal.invariant_of-self-2
invariant_of-self-2 g c = (
  c.leave-held.ensures.kept _ (ready_closed c.self.inside.spread _ _ _ _ _ _ _ _ _ _ c.self.view_is c.self.invariant.0 c.self.invariant.1 _ _ c.shut.ensures.rows c.requires.innermost),
  covers_closed c.self.inside.spread _ _ _ _ _ _ _ _ _ _ c.self.view_is c.self.invariant.0 c.self.invariant.1 _ _ c.shut.ensures.rows c.requires.innermost _ _ c.leave-held.ensures.cleared (g.N.NodeStore.most_held c.leave-held.new.nodes) (g.N.NodeStore.loans c.leave-held.new.nodes),
)

pub returns-clause-closed : goal.returns-clause-closed
returns-clause-closed g c = closed_then c.self.inside.spread _ _ _ _ _ _ _ _ _ _ c.self.view_is c.self.invariant.0 c.self.invariant.1 _ _ c.shut.ensures.rows c.requires.innermost _ _ c.leave-held.ensures.cleared _ (g.N.NodeStore.loans c.leave-held.new.nodes) (c.leave-held.ensures.most ∙ c.shut.ensures.most)

pub returns-clause-stands : goal.returns-clause-stands
returns-clause-stands g c = stands_then c.self.inside.spread _ _ _ _ _ _ _ _ _ _ c.self.view_is c.self.invariant.0 c.self.invariant.1 _ _ c.shut.ensures.rows c.requires.innermost _ _ c.leave-held.ensures.cleared _ (g.N.NodeStore.loans c.leave-held.new.nodes) (c.leave-held.ensures.most ∙ c.shut.ensures.most) c.requires.waiting
