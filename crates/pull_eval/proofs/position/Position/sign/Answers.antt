use Rattle.std.proofs.Common.{List, refl, sym, ◌∙◌, ap, subst}
use Rattle.gcx_model.specs.declared.item.Item.{Item}
use Rattle.gcx_model.specs.Core as tree
use Rattle.gcx_model.specs.ItemView.{off_tree}
use Rattle.pull_eval.specs.Position.{items}
use Rattle.pull_eval.specs.Acting.{IsNextItem}
use Rattle.pull_eval.specs.declared.position.Position.{Position}
use Rattle.pull_eval.proofs.SignMoves.{base_there, base_used, due_there, signs_there}
use Rattle.pull_eval.proofs.position.Position.sign.Goals as goal

pub place_of-place-requires : goal.place_of-place-requires
place_of-place-requires g c =
    let q = c.requires.beside in
    let next : IsNextItem c.look_ahead.new.self (tree.SignOff (off_tree c.args.off.now)) (items c.args.rest.now) = record { next = ap (λ (z : _). items z.now) c.look_ahead.ensures.rest ∙ c.requires.next.next; no_copy = c.look_ahead.ensures.no_copy } in
    base_there c.look_ahead.new.self c.args.buffer.now q.0 q.1 (c.look_ahead.ensures.stays q.0 q.1 q.2) c.look_ahead.ensures.begun c.args.off.now (items c.args.rest.now) next

pub serial-serial-requires : goal.serial-serial-requires
serial-serial-requires g c =
    let q = c.requires.beside in
    let next : IsNextItem c.look_ahead.new.self (tree.SignOff (off_tree c.args.off.now)) (items c.args.rest.now) = record { next = ap (λ (z : _). items z.now) c.look_ahead.ensures.rest ∙ c.requires.next.next; no_copy = c.look_ahead.ensures.no_copy } in
    base_used c.look_ahead.new.self c.args.buffer.now q.0 q.1 (c.look_ahead.ensures.stays q.0 q.1 q.2) c.look_ahead.ensures.begun c.args.off.now (items c.args.rest.now) next c.place_of-place.result.0 c.place_of-place.ensures

pub carry_out-requires : goal.carry_out-requires
carry_out-requires g c =
    let q = c.requires.beside in
    let next : IsNextItem c.look_ahead.new.self (tree.SignOff (off_tree c.args.off.now)) (items c.args.rest.now) = record { next = ap (λ (z : _). items z.now) c.look_ahead.ensures.rest ∙ c.requires.next.next; no_copy = c.look_ahead.ensures.no_copy } in
    record { due = due_there c.look_ahead.new.self c.args.buffer.now q.0 q.1 (c.look_ahead.ensures.stays q.0 q.1 q.2) c.look_ahead.ensures.begun c.args.off.now (items c.args.rest.now) next c.place_of-place.result.0 c.place_of-place.ensures }

pub returns-clause-moved : goal.returns-clause-moved
returns-clause-moved g c = λ past k out b.
    (let m : Position = c.look_ahead.new.self in
    let n : Position = record c.look_ahead.new.self { top = c.go_on.new.self } in
    let first : IsNextItem c.look_ahead.new.self (tree.SignOff (off_tree c.args.off.now)) (items c.args.rest.now) = record { next = ap (λ (z : _). items z.now) c.look_ahead.ensures.rest ∙ c.requires.next.next; no_copy = c.look_ahead.ensures.no_copy } in
    let next : IsNextItem c.look_ahead.new.self (tree.SignOff (off_tree c.args.off.now)) (items c.go_on.new.self.rest.now) =
    subst (λ (z : List Item). IsNextItem c.look_ahead.new.self (tree.SignOff (off_tree c.args.off.now)) (items z)) (sym c.go_on.ensures.rest) first in
    signs_there m c.args.buffer.now past k (c.look_ahead.ensures.stays past k b) c.look_ahead.ensures.begun c.args.off.now c.go_on.new.self next c.place_of-place.result.0 c.serial-serial.result c.place_of-place.ensures
    c.serial-serial.ensures.serial c.serial-serial.ensures.row c.carry_out.new.buffer c.in_ok-carry_out.ensures.stands c.in_ok-carry_out.ensures.signed n refl c.go_on.ensures.round c.go_on.ensures.seen c.look_ahead.ensures.sought refl refl refl refl refl out)
