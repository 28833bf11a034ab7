use Rattle.std.proofs.Common.{sym, subst}
use Rattle.std.specs.Prelude.{option_map}
use Rattle.buf_tree.specs.PassedCalls.{OpenedWith, StandsWith}
use Rattle.buf_tree.specs.View.{View}
use Rattle.buf_tree.proofs.BornViews.{there, own_here, opens_told, view_as}
use Rattle.buf_tree.proofs.buffer.Buffer.open_row.Goals as goal

pub keep_roles-requires-clause-there : goal.keep_roles-requires-clause-there
keep_roles-requires-clause-there g c = there c.self.inside.spread _ _ _ _ _ _ _ _ _ _ c.self.view_is c.self.invariant.0 c.self.invariant.1 _ c.requires.parent

pub keep_roles-requires-clause-own : goal.keep_roles-requires-clause-own
keep_roles-requires-clause-own g c = own_here c.self.inside.spread _ _ _ _ _ _ _ _ _ _ c.self.view_is c.self.invariant.0 c.self.invariant.1 _ c.requires.parent c.args.kind c.requires.kind c.args.roles.held c.requires.spread

pub open_child-requires-clause-opens : goal.open_child-requires-clause-opens
open_child-requires-clause-opens g c = (
  c.args.roles.held,
  opens_told c.self.inside.spread _ _ _ _ _ _ _ _ _ _ c.self.view_is c.self.invariant.0 c.self.invariant.1 _ c.requires.parent c.args.kind c.requires.kind c.args.roles.held _ _ (c.is_bare-bare.ensures _ c.is_empty.ensures) c.requires.spread c.keep_roles.ensures.held _ c.keep_roles.ensures.same,
)

pub returns-clause-ok : goal.returns-clause-ok
returns-clause-ok g c =
    subst (λ (z : View). OpenedWith z c.open_child.new.self c.args.parent.0 (option_map (λ q. q.0) c.in_ok-place.place) c.args.kind c.args.roles.held c.args.ahead)
    (sym (view_as c.self.inside.spread _ _ _ _ _ _ _ _ _ _ c.self.view_is c.self.invariant.0 c.self.invariant.1 _ c.requires.parent _ c.keep_roles.ensures.same))
    (c.in_ok-place.ensures.ok c.args.roles.held
    (opens_told c.self.inside.spread _ _ _ _ _ _ _ _ _ _ c.self.view_is c.self.invariant.0 c.self.invariant.1 _ c.requires.parent c.args.kind c.requires.kind c.args.roles.held _ _ (c.is_bare-bare.ensures _ c.is_empty.ensures) c.requires.spread c.keep_roles.ensures.held _ c.keep_roles.ensures.same))

pub returns-clause-stands : goal.returns-clause-stands
returns-clause-stands g c =
    subst (λ (z : View). StandsWith z c.open_child.new.self c.args.kind c.args.roles.held)
    (sym (view_as c.self.inside.spread _ _ _ _ _ _ _ _ _ _ c.self.view_is c.self.invariant.0 c.self.invariant.1 _ c.requires.parent _ c.keep_roles.ensures.same))
    (c.in_ok-place.ensures.stands c.args.roles.held
    (opens_told c.self.inside.spread _ _ _ _ _ _ _ _ _ _ c.self.view_is c.self.invariant.0 c.self.invariant.1 _ c.requires.parent c.args.kind c.requires.kind c.args.roles.held _ _ (c.is_bare-bare.ensures _ c.is_empty.ensures) c.requires.spread c.keep_roles.ensures.held _ c.keep_roles.ensures.same))
