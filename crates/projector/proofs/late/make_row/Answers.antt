use Rattle.std.proofs.Common.{◌∷◌, List, ℕ, ap, inr, subst, sym}
use Rattle.std.specs.Prelude.{IfOk, OnOk}
use Rattle.node_store.specs.declared.store.Place.{Place}
use Rattle.buf_tree.specs.Loose.{Passed}
use Rattle.buf_tree.specs.PassedCalls.{MayRest, OpenedPassed, RestsLoosely}
use Rattle.buf_tree.proofs.KeptReading.{seen_stand_apart}
use Rattle.projector.specs.Late.{passed_of}
use Rattle.projector.proofs.LateRows.{make_behind, make_innermost, make_passed, shallow_rows}
use Rattle.projector.proofs.Places.{level_is}
use Rattle.projector.proofs.late.make_row.Goals as goal

pub innermost-requires-clause-rows : goal.innermost-requires-clause-rows
innermost-requires-clause-rows g c = make_innermost c.args.buffer.now (passed_of c.args.bytes.now c.args.element) c.requires.may

pub open_passed-requires-clause-behind : goal.open_passed-requires-clause-behind
open_passed-requires-clause-behind g c = make_behind c.args.buffer.now (passed_of c.args.bytes.now c.args.element) c.requires.may

pub open_passed-requires-clause-passed : goal.open_passed-requires-clause-passed
open_passed-requires-clause-passed g c = make_passed c.args.buffer.now (passed_of c.args.bytes.now c.args.element) c.requires.may

pub open_passed-requires-clause-depth : goal.open_passed-requires-clause-depth
open_passed-requires-clause-depth g c =
    level_is c.args.buffer.now.rows (seen_stand_apart _ c.args.buffer.now.kept c.args.buffer.now.rows c.innermost.ensures.store c.innermost.ensures.alike) c.innermost.result.place.0 c.innermost.ensures.innermost
    (shallow_rows c.args.buffer.now (passed_of c.args.bytes.now c.args.element ∷ c.requires.may.rest) c.requires.may.shallow)

pub open_passed-requires-clause-spread : goal.open_passed-requires-clause-spread
open_passed-requires-clause-spread g c = subst (λ (x : Passed). MayRest c.args.buffer.now x) (ap (λ (name : List ℕ). let x : Passed = record { name = name; serial = c.args.element.serial } in x) (sym c.in_ok-name.ensures)) (inr (c.requires.may.rest, c.requires.may.past, c.requires.may.stands))

pub returns-clause-opened : goal.returns-clause-opened
returns-clause-opened g c =
    subst (λ (x : Passed). IfOk c.open_passed.result (λ (p : Place). OpenedPassed c.args.buffer.now c.open_passed.new.self p.0 x)) (ap (λ (name : List ℕ). let x : Passed = record { name = name; serial = c.args.element.serial } in x) c.in_ok-name.ensures) c.open_passed.ensures.opened

pub returns-clause-rests : goal.returns-clause-rests
returns-clause-rests g c = subst (λ (x : Passed). OnOk c.open_passed.result (RestsLoosely c.args.buffer.now c.open_passed.new.self x)) (ap (λ (name : List ℕ). let x : Passed = record { name = name; serial = c.args.element.serial } in x) c.in_ok-name.ensures) c.open_passed.ensures.stands
