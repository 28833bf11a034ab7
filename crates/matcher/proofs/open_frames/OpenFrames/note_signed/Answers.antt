use Rattle.std.proofs.Common.{◌≡◌, ◌≤◌, List, length, sym, ◌∙◌, subst, arith, Ok, Err, Result}
use Rattle.std.specs.Prelude.{OnErr}
use Rattle.matcher.specs.Bare.{with_bare}
use Rattle.matcher.specs.Parts.{NodeMarks}
use Rattle.matcher.specs.Stacks.{IsSigned}
use Rattle.matcher.proofs.Bare.{none_bare}
use Rattle.matcher.proofs.open_frames.OpenFrames.note_signed.Goals as goal

on_err : {T E P : Type 0} (r : Result T E) → P → OnErr r P
on_err (Ok x) p = tt
on_err (Err e) p = p

pub invariant_of-self : goal.invariant_of-self
invariant_of-self c = c.make_bare.ensures.few

pub returns-in_err-make_bare-clause-err : goal.returns-in_err-make_bare-clause-err
returns-in_err-make_bare-clause-err c = on_err c.from_residual.result (c.make_bare.ensures.same ∙ c.self.view_is)

pub invariant_of-self-2 : goal.invariant_of-self-2
invariant_of-self-2 c =
    let many = c.note_signed.ensures.count in
    let few = c.make_bare.ensures.few in
    omega arith

pub returns-clause-ok : goal.returns-clause-ok
returns-clause-ok c =
    let many = c.note_signed.ensures.count in
    let all = c.in_ok-make_bare.ensures.all in
    let one : c.self.inside.count ≤ length c.make_bare.new.made = omega arith in
    let two : c.self.inside.count ≤ length c.note_signed.new.self = omega arith in
    let made : c.make_bare.new.made ≡ c.args.self.now = sym (none_bare c.make_bare.new.made c.self.inside.count one) ∙ (c.make_bare.ensures.same ∙ c.self.view_is) in
    subst (λ (z : List NodeMarks). IsSigned z (with_bare c.note_signed.new.self c.self.inside.count) c.args.level) made
    (subst (λ (z : List NodeMarks). IsSigned c.make_bare.new.made z c.args.level) (sym (none_bare c.note_signed.new.self c.self.inside.count two)) c.note_signed.ensures)
