use Rattle.std.proofs.Common.{◌≡◌, List, length, sym, ap, subst, arith, Some}
use Rattle.std.specs.Prelude.{slice_get}
use Rattle.path_states.specs.Active.{Under}
use Rattle.path_states.specs.Branches.{AreSorted, steps_by}
use Rattle.path_states.specs.declared.branches.Branch.{Branch}
use Rattle.path_states.specs.declared.branches.Branches.{Branches}
use Rattle.path_states.proofs.Branching.{gains_below}
use Rattle.path_states.proofs.Gaining.{gains_none}
use Rattle.path_states.proofs.Looking.{read_at, none_at}
use Rattle.path_states.proofs.active.try_below.Goals as goal

pub returns-in_ok-try_asking-in-Some : goal.returns-in_ok-try_asking-in-Some
returns-in_ok-try_asking-in-Some c = λ index kind is.
    let names = c.args.steps.now.names.items in
    let at = subst (λ (z : List Branches). slice_get z c.args.number ≡ Some c.in-Some.branches.now) c.deref.ensures.value
    (read_at c.deref.result.now c.args.number c.in-Some.branches.now c.in-Some.ensures.lookup.3.0 c.in-Some.ensures.lookup.1) in
    gains_below c.args.tree.now names c.args.steps.now.branches.items index.branches c.args.number c.in-Some.branches.now at c.args.axis kind c.args.active.now.items c.try_asking.new.active.items
    (λ numbers sorted. c.in_ok-try_asking-in-Some.ensures numbers (subst (λ (z : List Branch). AreSorted c.args.tree.now names numbers z) (sym c.by.ensures) sorted) index kind is)

pub returns-in-None : goal.returns-in-None
returns-in-None c = λ index kind is. gains_none c.args.active.now.items (Under (steps_by c.args.axis) c.args.tree.now kind c.args.number)
    (λ y u. let past = c.in-None.ensures.lookup.3 in let all = ap length c.deref.ensures.value in let same = index.branches.same in none_at c.args.tree.now c.args.number u.state (omega arith) u.at)
