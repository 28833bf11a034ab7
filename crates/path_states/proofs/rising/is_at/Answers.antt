use Rattle.std.proofs.Common.{ℕ, sym, ◌∙◌, subst}
use Rattle.std.proofs.lemmas.Bool.{false≢true, eqb-true, eq-eqb}
use Rattle.gcx_model.specs.Members.{In}
use Rattle.path_states.proofs.Looking.{read_at, one_at, none_at, in_at}
use Rattle.path_states.proofs.rising.is_at.Goals as goal

pub returns-in-Some-clause-yes : goal.returns-in-Some-clause-yes
returns-in-Some-clause-yes c = λ h.
    let at = read_at c.args.numbers.now c.args.place c.in-Some.other.now c.in-Some.ensures.lookup.3.0 c.in-Some.ensures.lookup.1 in
    subst (λ (z : ℕ). In z c.args.numbers.now) (eqb-true _ _ h) (in_at c.args.numbers.now c.args.place c.in-Some.other.now at)

pub returns-in-Some-clause-no : goal.returns-in-Some-clause-no
returns-in-Some-clause-no c = λ h e.
    let at = read_at c.args.numbers.now c.args.place c.in-Some.other.now c.in-Some.ensures.lookup.3.0 c.in-Some.ensures.lookup.1 in
    false≢true (sym h ∙ eq-eqb c.in-Some.other.now c.args.number (one_at c.args.numbers.now c.args.place c.in-Some.other.now c.args.number at e))

pub returns-in-None-clause-no : goal.returns-in-None-clause-no
returns-in-None-clause-no c = λ h e. none_at c.args.numbers.now c.args.place c.args.number c.in-None.ensures.lookup.3 e
