use Rattle.std.proofs.Common.{sym, ap, inr, length, arith}
use Rattle.projector.proofs.Entered.{entered_to}
use Rattle.projector.proofs.projector.open_listed.Goals as goal

pub open_node-requires-clause-spread : goal.open_node-requires-clause-spread
open_node-requires-clause-spread g c =
    let m = c.requires.may in
    inr (m.past, m.stands, m.may, entered_to c.args.matcher.now c.args.buffer.now c.args.kind c.requires.kind c.in_ok-given.given c.in_ok-early.early m c.in_ok-given.ensures c.in_ok-early.ensures.roles)

pub returns-clause-opens : goal.returns-clause-opens
returns-clause-opens g c = record {
  given = c.in_ok-given.given;
  ahead = c.in_ok-early.early;
  many = ap length (sym c.items.ensures.same);
  here = c.in_ok-given.ensures;
  taken = c.in_ok-early.ensures.roles;
  opened = c.in_ok-place.ensures.opened;
  stands = c.in_ok-place.ensures.stands;
}

pub returns-clause-taken : goal.returns-clause-taken
returns-clause-taken g c =
    let f = c.in_ok-early.ensures.few in
    let t = c.in_ok-place.ensures.opened.taken in
    omega arith
