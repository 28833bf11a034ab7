use Rattle.std.proofs.Common.{◌≡◌, ◌<◌, ℕ, Bool, cond, List, [], ◌∷◌, ◌++◌, All, Bor, length, map, max, slice_index_or, vec_len, refl, rules, sym, ◌∙◌, ap, subst, arith}
use Rattle.gcx_model.proofs.Folds.{fold_For, fold_If}
use Rattle.gcx_model.specs.CondView.{core_cond_tree}
use Rattle.gcx_model.specs.Core.{ItemTree, For, SignOff}
use Rattle.gcx_model.specs.ItemView.{body_of, body_tree, item_tree, off_tree}
use Rattle.gcx_model.specs.Run.{Offed}
use Rattle.gcx_model.specs.Tree.{serial_of}
use Rattle.gcx_model.specs.declared.item.Body.{Body}
use Rattle.gcx_model.specs.declared.item.Item.{Item, the_lemmas}
use Rattle.doc_tree.specs.Rows.{node_at}
use Rattle.time_laws.specs.Times.{one_act, item_course, course, settled}
use Rattle.trace_check.specs.Acting.{Adds}
use Rattle.trace_check.specs.Scopes.{bound_in, env_of, IsBound}
use Rattle.trace_check.specs.Settling.{settled_in}
use Rattle.trace_check.specs.Timing.{clock_in}
use Rattle.trace_check.specs.declared.scope.Binding.{Binding}
use Rattle.trace_check.proofs.Adding.{adds_same}
use Rattle.trace_check.proofs.Bound.{bound_more, bound_number, bound_there, popped}
use Rattle.trace_check.proofs.Reached.{if_ok}
use Rattle.trace_check.proofs.Walked.{choice_done, item_more, loop_done, numbers_there, turn_more}
use Rattle.trace_check.proofs.Weights.{item_weighs, weight, weights}
use Rattle.trace_check.proofs.acts.Acts.+runs.Goals as goal
use Rattle.trace_check.proofs.acts.Acts.+runs.Goals.{run_item-then-known, run_item-else-known}

pub run-run_item-requires : goal.run-run_item-requires
run-run_item-requires t c =
    let w = item_weighs c.deref-item-items.result.now c.loop-item.item-index c.item-item.result c.loop-item-test.true c.item-item.is in
    let e = ap (λ (l : List Item). weights (body_of (map item_tree l))) c.deref-item-items.ensures.value in
    let d = c.decreases in
    (omega (arith, w, e, d), (subst (λ (bs : List Binding). IsBound c.args.timed.now.tree bs) (sym c.loop-item.invariant.scope) c.requires.bound, c.loop-item.invariant.memo))

pub run-loop-item-preserved : goal.run-loop-item-preserved
run-loop-item-preserved t c =
    let C = c.args.timed.now.tree in
    let clock = clock_in c.args.timed.now in
    let mid = c.loop-item.self.acts.items in
    let new = c.run_item.new.self.acts.items in
    record {
      scope = c.in_ok-done.ensures.scope ∙ c.loop-item.invariant.scope;
      memo = c.in_ok-done.ensures.memo;
      acts = item_more clock C (env_of C c.args.walk.now.scope.items) c.deref-item-items.result.now c.loop-item.item-index c.item-item.result c.args.now c.args.self.now.acts.items mid new
          c.loop-item.done c.in_ok-done.done c.loop-item-test.true c.item-item.is c.loop-item.invariant.acts
          (subst (λ (bs : List Binding). Adds mid new (item_course clock C (item_tree c.item-item.result) (env_of C bs) c.loop-item.done) c.in_ok-done.done) c.loop-item.invariant.scope c.in_ok-done.ensures.acts);
    }

pub run_item-copy-requires-clause-there : goal.run_item-copy-requires-clause-there
run_item-copy-requires-clause-there t c =
    let there = bound_there c.args.timed.now.tree c.args.walk.now.scope.items c.requires.bound c.in-Copy.var.0 in
    let same = c.node_of-node.ensures ∙ ap (bound_in 0 c.in-Copy.var.0) c.deref.ensures.value in
    omega (arith, there, same)

pub run_item-run_turns-requires : goal.run_item-run_turns-requires
run_item-run_turns-requires t c =
    let C = c.args.timed.now.tree in
    let tree : item_tree c.args.item.now ≡ For c.in-For.var.0 c.in-For.from.0 c.in-For.step (body_tree c.in-For.body)
    = ap item_tree c.in-For.is ∙ fold_For c.in-For.var c.in-For.from c.in-For.step c.in-For.body in
    let w = ap weight tree in
    let d = c.decreases in (
      omega (arith, w, d),
      (
        c.requires.bound,
        (
          c.in_ok-nodes-in-For.ensures.memo,
          subst (λ (l : List ℕ). All (λ (k : ℕ). k < length C.nodes) l) (sym (c.deref-in-For-2.ensures.value ∙ c.in_ok-nodes-in-For.ensures.turns))
              (numbers_there C c.requires.bound.grown (serial_of (node_at C.nodes c.node_of-node-in-For.result)) (c.in-For.step ∷ [])),
        ),
      ),
    )

pub run_item-returns-in_ok-keep_turns-in-For-clause-acts : goal.run_item-returns-in_ok-keep_turns-in-For-clause-acts
run_item-returns-in_ok-keep_turns-in-For-clause-acts t c =
    let C = c.args.timed.now.tree in
    let bs = c.args.walk.now.scope.items in
    let node = c.node_of-node-in-For.result in
    let there = bound_there C bs c.requires.bound c.in-For.from.0 in
    let bound = c.node_of-node-in-For.ensures ∙ ap (bound_in 0 c.in-For.from.0) c.deref-in-For.ensures.value in
    let greater : c.max.result ≡ max c.in_ok-done-in-For.done c.closed_at.result = search rules in
    loop_done (clock_in c.args.timed.now) C c.requires.bound.grown bs c.in-For.var.0 c.in-For.from.0 c.in-For.step (body_tree c.in-For.body) (item_tree c.args.item.now)
    (ap item_tree c.in-For.is ∙ fold_For c.in-For.var c.in-For.from c.in-For.step c.in-For.body) node bound (omega (arith, there, bound))
    c.deref-in-For-2.result.now (c.deref-in-For-2.ensures.value ∙ c.in_ok-nodes-in-For.ensures.turns) c.args.now c.args.self.now.acts.items c.run_turns.new.self.acts.items
    c.in_ok-done-in-For.done c.max.result (greater ∙ ap (max c.in_ok-done-in-For.done) c.closed_at.ensures) c.in_ok-done-in-For.ensures.acts

pub run_item-returns-after-known-clause-acts : goal.run_item-returns-after-known-clause-acts
run_item-returns-after-known-clause-acts t c =
    let C = c.args.timed.now.tree in
    let clock = clock_in c.args.timed.now in
    let env = env_of C c.args.walk.now.scope.items in
    let old = c.args.self.now.acts.items in
    let new = c.run.new.self.acts.items in
    let k = core_cond_tree c.in-If.cond in
    let this = body_tree c.in-If.then in
    let other = body_tree c.in-If.other in
    let known = settled_in c.in_ok-known-in-If.known in
    let branch = body_tree c.if-known.branch'.now in
    let chosen : cond known.truth this other ≡ branch = elim c.if-known.branch [
      | run_item-then-known w ↦ ap (λ (b : Bool). cond b this other) w.if-known.true ∙ sym (ap (λ (r : Bor Body). body_tree r.now) w.branch'-is)
      | run_item-else-known w ↦ ap (λ (b : Bool). cond b this other) w.if-known.false ∙ sym (ap (λ (r : Bor Body). body_tree r.now) w.branch'-is)
    ] in
    let later : c.max-in-If.result ≡ max c.args.now c.in_ok-known-in-If.known.at = search rules in
    let same = c.in_ok-known-in-If.ensures.settled ∙ ap (λ (bs : List Binding). settled clock C k (env_of C bs)) c.deref-in-If.ensures.value in
    let tree = ap item_tree c.in-If.is ∙ fold_If c.in-If.cond c.in-If.then c.in-If.other in
    if_ok c.run.result (Adds old new (course clock C branch env c.max-in-If.result)) (Adds old new (item_course clock C (item_tree c.args.item.now) env c.args.now)) c.run.ensures.acts
    (λ u h. adds_same old new _ _ u (choice_done clock C env k this other branch known c.args.now c.max-in-If.result same chosen later
    ∙ ap (λ (i : ItemTree). item_course clock C i env c.args.now) (sym tree)) h)

pub run_item-returns-in_ok-sign_off-in-Off-clause-acts : goal.run_item-returns-in_ok-sign_off-in-Off-clause-acts
run_item-returns-in_ok-sign_off-in-Off-clause-acts t c =
    let C = c.args.timed.now.tree in
    let clock = clock_in c.args.timed.now in
    let bs = c.args.walk.now.scope.items in
    let off = c.in-Off.off in
    let tree : item_tree c.args.item.now ≡ SignOff (off_tree off) = grind (arith, the_lemmas) in
    let node = c.node_of.ensures ∙ (ap (bound_in 0 off.base.0) c.deref-in-Off.ensures.value ∙ sym (bound_number C bs c.requires.bound off.base.0)) in
    adds_same c.args.self.now.acts.items c.sign_off.new.self.acts.items _ _ c.args.now
    (ap (λ (n : ℕ). one_act c.args.now (Offed (off_tree off) n)) node ∙ ap (λ (i : ItemTree). item_course clock C i (env_of C bs) c.args.now) (sym tree)) c.in_ok-sign_off-in-Off.ensures

pub run_turns-run-requires : goal.run_turns-run-requires
run_turns-run-requires t c =
    let C = c.args.timed.now.tree in
    let b : Binding = record { var = c.args.var; node = slice_index_or c.args.nodes.now c.loop-node.node-index 0 } in
    let d = c.decreases in (
      omega (arith, d),
      (
        subst (λ (bs : List Binding). IsBound C bs) (sym c.in_ok-push.ensures.items)
            (bound_more C c.loop-node.walk.scope.items b (subst (λ (bs : List Binding). IsBound C bs) (sym c.loop-node.invariant.scope) c.requires.bound)
            (c.requires.there c.loop-node.node-index 0 c.loop-node-test.true)),
        c.loop-node.invariant.memo,
      ),
    )

pub run_turns-loop-node-preserved : goal.run_turns-loop-node-preserved
run_turns-loop-node-preserved t c =
    let C = c.args.timed.now.tree in
    let clock = clock_in c.args.timed.now in
    let b : Binding = record { var = c.args.var; node = slice_index_or c.args.nodes.now c.loop-node.node-index 0 } in
    let bs = c.args.walk.now.scope.items in
    let mid = c.loop-node.self.acts.items in
    let new = c.run.new.self.acts.items in
    let body = body_tree c.args.body.now in
    let n : vec_len c.run.new.walk.scope ≡ length c.run.new.walk.scope.items = search rules in
    let pushed = c.in_ok-push.ensures.items ∙ ap (λ (l : List Binding). l ++ b ∷ []) c.loop-node.invariant.scope in
    let greater : c.max.result ≡ max c.loop-node.done c.opened_at.result = search rules in
    record {
      scope = popped _ _ _ _ _ c.pop.ensures.rest (c.in_ok-done.ensures.scope ∙ c.in_ok-push.ensures.items) n ∙ c.loop-node.invariant.scope;
      memo = c.in_ok-done.ensures.memo;
      acts = turn_more clock C c.requires.bound.grown bs b body c.args.nodes.now c.loop-node.node-index c.args.now c.args.self.now.acts.items mid new c.loop-node.done c.in_ok-done.done
          c.loop-node-test.true refl (c.requires.there c.loop-node.node-index 0 c.loop-node-test.true) c.loop-node.invariant.acts
          (subst (λ (x : ℕ). Adds mid new (course clock C body (env_of C (bs ++ b ∷ [])) x) c.in_ok-done.done) (greater ∙ ap (max c.loop-node.done) c.opened_at.ensures)
          (subst (λ (l : List Binding). Adds mid new (course clock C body (env_of C l) c.max.result) c.in_ok-done.done) pushed c.in_ok-done.ensures.acts));
    }
