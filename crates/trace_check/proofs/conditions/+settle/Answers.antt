use Rattle.std.proofs.Common.{◌≡◌, ℕ, List, true, false, map, max, rules, sym, ◌∙◌, ap, arith}
use Rattle.gcx_model.specs.CondView.{core_cond_tree, core_conds_of}
use Rattle.gcx_model.specs.Core.{CondTree, AllOf, AnyOf}
use Rattle.gcx_model.specs.declared.cond.Cond.{Cond, the_lemmas}
use Rattle.time_laws.specs.Times.{SettledTruth, settled, settled_all, settled_any}
use Rattle.trace_check.specs.Scopes.{env_of}
use Rattle.trace_check.specs.Settling.{settled_in}
use Rattle.trace_check.specs.Timing.{clock_in}
use Rattle.trace_check.proofs.Settles.{all_done, all_ends, any_done, any_ends}
use Rattle.trace_check.proofs.conditions.+settle.Goals as goal

pub returns-then-not-known-clause-settled : goal.returns-then-not-known-clause-settled
returns-then-not-known-clause-settled t c =
    let clock = clock_in c.args.timed.now in
    let C = c.args.timed.now.tree in
    let env = env_of C c.args.scope.now in
    let items = c.deref-inner-items.result.now in
    let tree : core_cond_tree c.args.cond.now ≡ AllOf (core_conds_of (map core_cond_tree c.in-All.conds.members.items)) = grind (arith, the_lemmas) in
    let greater : c.max-at.result ≡ max c.loop-inner.at c.in_ok-known-in-All.known.at = search rules in
    let fails : c.in_ok-known-in-All.known.truth ≡ false = search rules in
    ap (λ (x : ℕ). let s : SettledTruth = record { at = x; truth = false } in s) greater
    ∙ (all_ends clock C env items c.loop-inner.inner-index c.inner-item.result c.loop-inner.at (settled_in c.in_ok-known-in-All.known) (settled_all clock C (core_conds_of (map core_cond_tree items)) env)
    (omega arith) c.inner-item.is c.in_ok-known-in-All.ensures.settled fails c.loop-inner.invariant.known
    ∙ (ap (λ (l : List Cond). settled_all clock C (core_conds_of (map core_cond_tree l)) env) c.deref-inner-items.ensures.value ∙ ap (λ (k : CondTree). settled clock C k env) (sym tree)))

pub returns-then-known-clause-settled : goal.returns-then-known-clause-settled
returns-then-known-clause-settled t c =
    let clock = clock_in c.args.timed.now in
    let C = c.args.timed.now.tree in
    let env = env_of C c.args.scope.now in
    let items = c.deref-inner-items-in-Any.result.now in
    let tree : core_cond_tree c.args.cond.now ≡ AnyOf (core_conds_of (map core_cond_tree c.in-Any.conds.members.items)) = grind (arith, the_lemmas) in
    let greater : c.max-since.result ≡ max c.loop-inner-2.since c.in_ok-known-in-Any.known.at = search rules in
    ap (λ (x : ℕ). let s : SettledTruth = record { at = x; truth = true } in s) greater
    ∙ (any_ends clock C env items c.loop-inner-2.inner-index c.inner-item-in-loop-inner-2.result c.loop-inner-2.since (settled_in c.in_ok-known-in-Any.known) (settled_any clock C (core_conds_of (map core_cond_tree items)) env)
    (omega arith) c.inner-item-in-loop-inner-2.is c.in_ok-known-in-Any.ensures.settled c.if-known.true c.loop-inner-2.invariant.known
    ∙ (ap (λ (l : List Cond). settled_any clock C (core_conds_of (map core_cond_tree l)) env) c.deref-inner-items-in-Any.ensures.value ∙ ap (λ (k : CondTree). settled clock C k env) (sym tree)))

pub returns-after-loop-inner-clause-settled : goal.returns-after-loop-inner-clause-settled
returns-after-loop-inner-clause-settled t c =
    let clock = clock_in c.args.timed.now in
    let C = c.args.timed.now.tree in
    let env = env_of C c.args.scope.now in
    let items = c.deref-inner-items.result.now in
    let tree : core_cond_tree c.args.cond.now ≡ AllOf (core_conds_of (map core_cond_tree c.in-All.conds.members.items)) = grind (arith, the_lemmas) in
    all_done clock C env items c.loop-inner.inner-index c.loop-inner.at (settled_all clock C (core_conds_of (map core_cond_tree items)) env) (omega arith) c.loop-inner.invariant.known
    ∙ (ap (λ (l : List Cond). settled_all clock C (core_conds_of (map core_cond_tree l)) env) c.deref-inner-items.ensures.value ∙ ap (λ (k : CondTree). settled clock C k env) (sym tree))

pub returns-after-loop-inner-2-clause-settled : goal.returns-after-loop-inner-2-clause-settled
returns-after-loop-inner-2-clause-settled t c =
    let clock = clock_in c.args.timed.now in
    let C = c.args.timed.now.tree in
    let env = env_of C c.args.scope.now in
    let items = c.deref-inner-items-in-Any.result.now in
    let tree : core_cond_tree c.args.cond.now ≡ AnyOf (core_conds_of (map core_cond_tree c.in-Any.conds.members.items)) = grind (arith, the_lemmas) in
    any_done clock C env items c.loop-inner-2.inner-index c.loop-inner-2.since (settled_any clock C (core_conds_of (map core_cond_tree items)) env) (omega arith) c.loop-inner-2.invariant.known
    ∙ (ap (λ (l : List Cond). settled_any clock C (core_conds_of (map core_cond_tree l)) env) c.deref-inner-items-in-Any.ensures.value ∙ ap (λ (k : CondTree). settled clock C k env) (sym tree))
