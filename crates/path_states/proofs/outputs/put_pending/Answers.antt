use Rattle.std.proofs.Common.{◌≡◌, ℕ, [], sym, ◌∙◌, subst}
use Rattle.path_states.specs.Active.{Waits}
use Rattle.path_states.specs.declared.paths.PathState.{PathState}
use Rattle.path_states.proofs.Gaining.{gains_none, gains_as}
use Rattle.path_states.proofs.Looking.{read_at, one_at, none_at, some_of, none_of}
use Rattle.path_states.proofs.outputs.put_pending.Goals as goal

pub returns-in_ok-rise-in-Some : goal.returns-in_ok-rise-in-Some
returns-in_ok-rise-in-Some c =
    let at = read_at c.args.tree.now c.args.number c.in-Some.state.now c.in-Some.ensures.lookup.3.0 c.in-Some.ensures.lookup.1 in
    gains_as c.args.pending.now.items c.rise.new.numbers.items (λ (y : ℕ). c.args.number ≡ y) (Waits c.args.tree.now c.args.number)
    (λ y e. record { state = c.in-Some.state.now; at = at; some = λ f. some_of c.as_slice.result.now (sym c.is_empty.ensures ∙ c.if-not-is_empty.true) (c.as_slice.ensures.value ∙ f); same = e })
    (λ y w. w.same)
    c.in_ok-rise-in-Some.ensures.gains

pub returns-else-not-is_empty : goal.returns-else-not-is_empty
returns-else-not-is_empty c =
    let at = read_at c.args.tree.now c.args.number c.in-Some.state.now c.in-Some.ensures.lookup.3.0 c.in-Some.ensures.lookup.1 in
    gains_none c.args.pending.now.items (Waits c.args.tree.now c.args.number)
    (λ y w. subst (λ (z : PathState). (z.descendant_edges.items ≡ []) → ⊥) (one_at c.args.tree.now c.args.number w.state c.in-Some.state.now w.at at) w.some (sym c.as_slice.ensures.value ∙ none_of c.as_slice.result.now (sym c.is_empty.ensures ∙ c.if-not-is_empty.false)))

pub returns-in-None : goal.returns-in-None
returns-in-None c = gains_none c.args.pending.now.items (Waits c.args.tree.now c.args.number) (λ y u. none_at c.args.tree.now c.args.number u.state c.in-None.ensures.lookup.3 u.at)
