use Rattle.std.proofs.Common.{sym, ap, subst, length}
use Rattle.std.specs.Ordering.{nat_cmp}
use Rattle.std.specs.FinSet.{FinSet}
use Rattle.gcx_model.specs.Past.{token_for}
use Rattle.buf_tree.specs.PassedCalls.{LeftTo}
use Rattle.buf_tree.proofs.Reading.{less_same}
use Rattle.buf_tree.proofs.WithRoles.{opened_from, left_given, may_open_with}
use Rattle.buf_tree.proofs.buffer.Buffer.open_node.Goals as goal

pub open_row-requires-clause-signed : goal.open_row-requires-clause-signed
open_row-requires-clause-signed g c = c.in_ok-roles.ensures.signed

pub open_row-requires-clause-spread : goal.open_row-requires-clause-spread
open_row-requires-clause-spread g c =
    may_open_with c.args.self.now (token_for c.args.kind) c.args.given c.args.ahead c.in_ok-roles.roles.held (less_same _ _ _ _ _ c.in_ok-roles.ensures.held c.items.ensures.same c.items-2.ensures.same) c.requires.spread

pub returns-clause-opened : goal.returns-clause-opened
returns-clause-opened g c =
    opened_from _ _ _ _ _ _ _ c.args.given c.args.ahead c.in_ok-place.ensures.ok
    (less_same _ _ _ _ _ c.in_ok-roles.ensures.held c.items.ensures.same c.items-2.ensures.same)
    (ap length c.items-3.ensures.same)

pub returns-clause-stands : goal.returns-clause-stands
returns-clause-stands g c past h m gives =
    let is = less_same _ _ _ _ _ c.in_ok-roles.ensures.held c.items.ensures.same c.items-2.ensures.same in
    c.in_ok-place.ensures.stands past h m (subst (λ (s : FinSet nat_cmp). LeftTo past (token_for c.args.kind) s) (sym is) (left_given past (token_for c.args.kind) c.args.given c.args.ahead gives))
