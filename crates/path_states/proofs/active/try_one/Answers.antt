use Rattle.std.proofs.Common.{◌≡◌, ℕ, Bool, true, List, sym, ◌∙◌, subst}
use Rattle.std.proofs.lemmas.Bool.{false≢true}
use Rattle.gcx_base.specs.Tests.{passes}
use Rattle.gcx_base.specs.declared.kind.Kind.{Kind}
use Rattle.gcx_base.specs.declared.steps.Test.{Test}
use Rattle.path_states.specs.Active.{Passes}
use Rattle.path_states.specs.Names.{IsNameNumber, KnowsName}
use Rattle.path_states.specs.declared.paths.PathState.{PathState}
use Rattle.path_states.proofs.Gaining.{gains_none, gains_as}
use Rattle.path_states.proofs.Looking.{read_at, one_at, none_at}
use Rattle.path_states.proofs.active.try_one.Goals as goal

-- what the test says over the names of the index
test : (names slice : List (List ℕ)) (t : Test) (kind : Kind) (name : ℕ) (result : Bool) → slice ≡ names → ((kind : Kind) → IsNameNumber slice kind name → KnowsName slice t → result ≡ passes t kind) → IsNameNumber names kind name → KnowsName names t → result ≡ passes t kind
test names slice t kind name result e h is knows = h kind (subst (λ (z : List (List ℕ)). IsNameNumber z kind name) (sym e) is) (subst (λ (z : List (List ℕ)). KnowsName z t) (sym e) knows)

pub returns-in_ok-rise-in-Some : goal.returns-in_ok-rise-in-Some
returns-in_ok-rise-in-Some c = λ index kind is.
    let at = read_at c.args.tree.now c.args.number c.in-Some.state.now c.in-Some.ensures.lookup.3.0 c.in-Some.ensures.lookup.1 in
    gains_as c.args.active.now.items c.rise.new.numbers.items (λ (y : ℕ). c.args.number ≡ y) (Passes c.args.tree.now kind c.args.number)
    (λ y e. record { state = c.in-Some.state.now; at = at; is = sym (test c.args.steps.now.names.items c.deref.result.now c.in-Some.state.now.step.test kind c.args.name c.takes.result c.deref.ensures.value c.takes.ensures is (index.named c.args.number c.in-Some.state.now at)) ∙ c.if-takes.true; same = e })
    (λ y q. q.same)
    c.in_ok-rise-in-Some.ensures.gains

pub returns-else-takes : goal.returns-else-takes
returns-else-takes c = λ index kind is.
    let at = read_at c.args.tree.now c.args.number c.in-Some.state.now c.in-Some.ensures.lookup.3.0 c.in-Some.ensures.lookup.1 in
    gains_none c.args.active.now.items (Passes c.args.tree.now kind c.args.number)
    (λ y q. false≢true (sym c.if-takes.false ∙ (test c.args.steps.now.names.items c.deref.result.now c.in-Some.state.now.step.test kind c.args.name c.takes.result c.deref.ensures.value c.takes.ensures is (index.named c.args.number c.in-Some.state.now at) ∙ subst (λ (z : PathState). passes z.step.test kind ≡ true) (one_at c.args.tree.now c.args.number q.state c.in-Some.state.now q.at at) q.is)))

pub returns-in-None : goal.returns-in-None
returns-in-None c = λ index kind is. gains_none c.args.active.now.items (Passes c.args.tree.now kind c.args.number) (λ y q. none_at c.args.tree.now c.args.number q.state c.in-None.ensures.lookup.3 q.at)
