use Rattle.std.proofs.Common.{inl, inr, sym, ◌∙◌, subst}
use Rattle.path_states.specs.Names.{AsksFor}
use Rattle.path_states.specs.declared.paths.PathState.{PathState}
use Rattle.path_states.proofs.Gaining.{from_all, in_more}
use Rattle.path_states.proofs.names.all_names.Goals as goal

pub loop-state-init : goal.loop-state-init
loop-state-init c = λ name f. absurd f.member

pub loop-state-preserved : goal.loop-state-preserved
loop-state-preserved c = λ name f. (c.in_ok-put_name.ensures.has name).1 (elim (in_more c.args.tree.now c.loop-state.state-index c.state-item.result f.of c.loop-state-test.true f.member) [
  | inl m ↦ inl (c.loop-state.invariant name (record { of = f.of; member = m; is = f.is }))
  | inr e ↦ inr (subst (λ (z : PathState). AsksFor z name) (sym (c.state-item.is ∙ e)) f.is)
])

pub returns : goal.returns
returns c = λ name f. c.loop-state.invariant name (from_all c.args.tree.now AsksFor c.loop-state.state-index name c.loop-state-test.false f)
