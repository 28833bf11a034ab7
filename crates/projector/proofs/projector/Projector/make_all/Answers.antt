use Rattle.std.proofs.Common.{◌∙◌, List, [], ap, subst, sym}
use Rattle.buf_tree.specs.Loose.{Loosely, StandsLoosely}
use Rattle.projector.specs.declared.passed.PassedName.{PassedName}
use Rattle.projector.specs.Late.{AreNamed, IsShallow, MakesRows, MakesSome, passed_in}
use Rattle.projector.specs.Projector.{Places}
use Rattle.projector.specs.View.{ProjectorView}
use Rattle.projector.proofs.LateRows.{err_holds}
use Rattle.projector.proofs.projector.Projector.make_all.Goals as goal

pub make_rows-requires-clause-place : goal.make_rows-requires-clause-place
make_rows-requires-clause-place g c = subst (λ (p : ProjectorView). Places p c.args.buffer.now) (sym c.self.view_is) c.requires.place

pub make_rows-requires-clause-names : goal.make_rows-requires-clause-names
make_rows-requires-clause-names g c = subst (λ (xs : List PassedName). AreNamed c.args.bytes.now xs) (ap (λ (p : ProjectorView). p.passed) (sym c.self.view_is) ∙ sym c.as_slice.ensures.value) c.requires.names

pub make_rows-requires-clause-stands : goal.make_rows-requires-clause-stands
make_rows-requires-clause-stands g c = (c.requires.stands.0, subst (λ (xs : List PassedName). StandsLoosely (passed_in c.args.bytes.now xs) c.args.buffer.now c.requires.stands.0) (ap (λ (p : ProjectorView). p.passed) (sym c.self.view_is) ∙ sym c.as_slice.ensures.value) c.requires.stands.1)

pub make_rows-requires-clause-depth : goal.make_rows-requires-clause-depth
make_rows-requires-clause-depth g c = subst (λ (xs : List PassedName). Loosely IsShallow (passed_in c.args.bytes.now xs) c.args.buffer.now) (ap (λ (p : ProjectorView). p.passed) (sym c.self.view_is) ∙ sym c.as_slice.ensures.value) c.requires.depth

pub returns-in_err-make_rows-clause-err : goal.returns-in_err-make_rows-clause-err
returns-in_err-make_rows-clause-err g c =
    err_holds c.from_residual.result
    (subst (λ (xs : List PassedName). MakesSome (passed_in c.args.bytes.now xs) c.args.buffer.now c.make_rows.new.buffer) (c.as_slice.ensures.value ∙ ap (λ (p : ProjectorView). p.passed) c.self.view_is) c.in_err-make_rows.ensures.err)

pub returns-clause-matcher : goal.returns-clause-matcher
returns-clause-matcher g c = ap (λ (p : ProjectorView). p.matcher) c.self.view_is

pub returns-clause-none : goal.returns-clause-none
returns-clause-none g c = c.clear.ensures.items

pub returns-clause-makes : goal.returns-clause-makes
returns-clause-makes g c = subst (λ (xs : List PassedName). MakesRows (passed_in c.args.bytes.now xs) [] c.args.buffer.now c.make_rows.new.buffer) (c.as_slice.ensures.value ∙ ap (λ (p : ProjectorView). p.passed) c.self.view_is) c.in_ok-make_rows.ensures.makes

pub returns-clause-place : goal.returns-clause-place
returns-clause-place g c = c.in_ok-make_rows.ensures.place
