use Rattle.buf_tree.proofs.BornViews.{opens_known}
use Rattle.buf_tree.proofs.buffer.Buffer.open_kept.Goals as goal

pub open_child-requires-clause-opens : goal.open_child-requires-clause-opens
open_child-requires-clause-opens g c = (
  c.args.given.now,
  opens_known c.self.inside.spread _ _ _ _ _ _ _ _ _ _ c.self.view_is c.self.invariant.0 c.self.invariant.1 _ c.requires.parent c.args.kind c.requires.kind c.args.given.now _ _ (c.is_bare-bare.ensures _ c.is_empty.ensures) _ c.requires.spread c.in_ok-roles.ensures.held,
)

pub returns-clause-opened : goal.returns-clause-opened
returns-clause-opened g c =
    c.in_ok-place.ensures.ok c.args.given.now
    (opens_known c.self.inside.spread _ _ _ _ _ _ _ _ _ _ c.self.view_is c.self.invariant.0 c.self.invariant.1 _ c.requires.parent c.args.kind c.requires.kind c.args.given.now _ _ (c.is_bare-bare.ensures _ c.is_empty.ensures) _ c.requires.spread c.in_ok-roles.ensures.held)

pub returns-clause-stands : goal.returns-clause-stands
returns-clause-stands g c =
    c.in_ok-place.ensures.stands c.args.given.now
    (opens_known c.self.inside.spread _ _ _ _ _ _ _ _ _ _ c.self.view_is c.self.invariant.0 c.self.invariant.1 _ c.requires.parent c.args.kind c.requires.kind c.args.given.now _ _ (c.is_bare-bare.ensures _ c.is_empty.ensures) _ c.requires.spread c.in_ok-roles.ensures.held)
