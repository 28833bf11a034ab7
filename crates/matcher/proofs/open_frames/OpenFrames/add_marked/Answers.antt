use Rattle.std.proofs.Common.{◌≡◌, ◌≤◌, List, [], ◌∷◌, ◌++◌, length, sym, ◌∙◌, ap, subst, arith, Ok, Err, Result}
use Rattle.std.specs.Prelude.{OnErr}
use Rattle.matcher.specs.Bare.{with_bare}
use Rattle.matcher.specs.Parts.{NodeMarks, new_marks}
use Rattle.matcher.proofs.Bare.{none_bare}
use Rattle.matcher.proofs.open_frames.OpenFrames.add_marked.Goals as goal

on_err : {T E P : Type 0} (r : Result T E) → P → OnErr r P
on_err (Ok x) p = tt
on_err (Err e) p = p

pub invariant_of-self : goal.invariant_of-self
invariant_of-self c = c.make_bare.ensures.few

pub returns-in_err-make_bare-clause-err : goal.returns-in_err-make_bare-clause-err
returns-in_err-make_bare-clause-err c = on_err c.from_residual.result (c.make_bare.ensures.same ∙ c.self.view_is)

pub invariant_of-self-in_err-add_marked : goal.invariant_of-self-in_err-add_marked
invariant_of-self-in_err-add_marked c = subst (λ (z : List NodeMarks). length z ≤ c.self.inside.count) (sym c.in_err-add_marked.ensures.err) c.make_bare.ensures.few

pub returns-in_err-add_marked-clause-err : goal.returns-in_err-add_marked-clause-err
returns-in_err-add_marked-clause-err c =
    on_err c.from_residual-in_err-add_marked.result
    (ap (λ (z : List NodeMarks). with_bare z c.self.inside.count) c.in_err-add_marked.ensures.err ∙ (c.make_bare.ensures.same ∙ c.self.view_is))

pub invariant_of-self-2 : goal.invariant_of-self-2
invariant_of-self-2 c = let all = c.len-self-inside.ensures in omega arith

pub returns-clause-added : goal.returns-clause-added
returns-clause-added c =
    let long = c.len-self-inside.ensures in
    let all = c.in_ok-make_bare.ensures.all in
    let made : c.make_bare.new.made ≡ c.args.self.now = sym (none_bare c.make_bare.new.made c.self.inside.count (omega arith)) ∙ (c.make_bare.ensures.same ∙ c.self.view_is) in
    none_bare c.add_marked.new.self c.len-self-inside.result (omega arith)
    ∙ (c.in_ok-add_marked.ensures.added
    ∙ ap (λ (z : List NodeMarks). z ++ new_marks c.args.roles.now c.args.found.now ∷ []) made)
