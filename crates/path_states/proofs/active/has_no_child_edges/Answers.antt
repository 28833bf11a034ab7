use Rattle.std.proofs.Common.{sym, ◌∙◌, subst}
use Rattle.gcx_model.specs.Members.{In}
use Rattle.path_states.specs.declared.paths.PathState.{PathState}
use Rattle.path_states.proofs.Looking.{read_at, one_at, none_at, none_of, in_not_none}
use Rattle.path_states.proofs.active.has_no_child_edges.Goals as goal

pub returns-in-Some : goal.returns-in-Some
returns-in-Some c = λ h y u.
    let at = read_at c.args.tree.now c.args.number c.in-Some.state.now c.in-Some.ensures.lookup.3.0 c.in-Some.ensures.lookup.1 in
    in_not_none c.in-Some.state.now.child_edges.items y (subst (λ (z : PathState). In y z.child_edges.items) (one_at c.args.tree.now c.args.number u.state c.in-Some.state.now u.at at) u.member)
    (sym c.as_slice.ensures.value ∙ none_of c.as_slice.result.now (sym c.is_empty.ensures ∙ h))

pub returns-in-None : goal.returns-in-None
returns-in-None c = λ h y u. none_at c.args.tree.now c.args.number u.state c.in-None.ensures.lookup.3 u.at
