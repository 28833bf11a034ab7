use Rattle.std.proofs.Common.{List, ap, subst, arith}
use Rattle.gcx_base.specs.declared.ids.Role.{Role}
use Rattle.buf_tree.specs.View.{View}
use Rattle.projector.specs.Opening.{MayOpenEntered, OpensBelow}
use Rattle.projector.proofs.Entered.{entered_behind, entered_gives, enters_by, one_list, opens_below}
use Rattle.projector.proofs.projector.open_below.Goals as goal

pub open_entered-requires-clause-may : goal.open_entered-requires-clause-may
open_entered-requires-clause-may g c = entered_behind c.args.matcher.now c.go.new.self c.args.buffer.now c.args.kind (enters_by c.args.matcher.now c.go.new.self c.args.kind c.in_ok-go.ensures.stands) c.requires.levels c.requires.may

pub returns-clause-opens : goal.returns-clause-opens
returns-clause-opens g c =
    let o = c.in_ok-place.ensures.opens in
    let enters = enters_by c.args.matcher.now c.go.new.self c.args.kind c.in_ok-go.ensures.stands in
    let may : MayOpenEntered c.go.new.self c.args.buffer.now c.args.kind = entered_behind c.args.matcher.now c.go.new.self c.args.buffer.now c.args.kind enters c.requires.levels c.requires.may in
    subst (λ (z : List Role). OpensBelow c.args.matcher.now c.go.new.self c.args.buffer.now c.clear_waiting.new.buffer c.args.parent.0 c.args.kind (c.in_ok-place.place, z))
    (one_list c.go.new.self c.args.buffer.now c.args.kind c.requires.kind may o.given c.in_ok-given.given o.here c.in_ok-given.ensures)
    (opens_below c.args.matcher.now c.go.new.self c.args.buffer.now c.args.kind c.requires.kind o.given o.ahead enters (entered_gives c.args.matcher.now c.go.new.self c.args.kind c.requires.kind o.given enters o.here) o.taken c.requires.levels
    c.open_entered.new.buffer c.clear_waiting.new.buffer c.args.parent.0 c.in_ok-place.place o.opened o.stands c.clear_waiting.ensures.cleared c.clear_waiting.ensures.stands)

pub returns-clause-taken : goal.returns-clause-taken
returns-clause-taken g c =
    let e = ap (λ (v : View). v.taken) c.clear_waiting.ensures.cleared in
    let t = c.in_ok-place.ensures.taken in
    omega arith
