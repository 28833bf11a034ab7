use Rattle.std.proofs.Common.{◌∙◌}
use Rattle.buf_tree.proofs.LeftViews.{role_kept_there, ready_taken, covers_taken, taken_then}
use Rattle.buf_tree.proofs.buffer.Buffer.take_role.Goals as goal

pub untake-requires : goal.untake-requires
untake-requires g c = role_kept_there c.self.inside.spread _ _ _ _ _ _ _ _ _ _ c.self.view_is c.self.invariant.0 c.self.invariant.1 _ _ c.requires.role c.requires.spread

pub settle-held-requires : goal.settle-held-requires
settle-held-requires g c = (c.self.inside.count, ready_taken c.self.inside.spread _ _ _ _ _ _ _ _ _ _ c.self.view_is c.self.invariant.0 c.self.invariant.1 _ _ c.requires.role c.requires.spread _ c.untake.ensures.rows)

pub invariant_of-self : goal.invariant_of-self
invariant_of-self g c = (
  c.settle-held.ensures.kept _ (ready_taken c.self.inside.spread _ _ _ _ _ _ _ _ _ _ c.self.view_is c.self.invariant.0 c.self.invariant.1 _ _ c.requires.role c.requires.spread _ c.untake.ensures.rows),
  covers_taken c.self.inside.spread _ _ _ _ _ _ _ _ _ _ c.self.view_is c.self.invariant.0 c.self.invariant.1 _ _ c.requires.role c.requires.spread _ c.untake.ensures.rows _ _ c.settle-held.ensures.cleared c.saturating_add-self-inside.result (g.N.NodeStore.most_held c.settle-held.new.nodes) (g.N.NodeStore.loans c.settle-held.new.nodes),
)

pub returns-clause-untaken : goal.returns-clause-untaken
returns-clause-untaken g c = taken_then c.self.inside.spread _ _ _ _ _ _ _ _ _ _ c.self.view_is c.self.invariant.0 c.self.invariant.1 _ _ c.requires.role c.requires.spread _ c.untake.ensures.rows _ _ c.settle-held.ensures.cleared _ _ (g.N.NodeStore.loans c.settle-held.new.nodes) c.saturating_add-self-inside.ensures (c.settle-held.ensures.most ∙ c.untake.ensures.most)
