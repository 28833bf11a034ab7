use Rattle.std.proofs.Common.{ℕ, List, map, sym, ◌∙◌, ap}
use Rattle.gcx_base.specs.declared.steps.Step.{Step}
use Rattle.gcx_model.specs.CondView.{operand_tree}
use Rattle.gcx_model.specs.declared.cond.Operand.{Operand}
use Rattle.gcx_model.specs.Paths.{matches}
use Rattle.gcx_model.specs.Tree.{serial_of}
use Rattle.gcx_model.specs.Truth.{node_value}
use Rattle.doc_tree.specs.Rows.{node_at}
use Rattle.time_laws.specs.Times.{timed_values}
use Rattle.trace_check.specs.Scopes.{env_of}
use Rattle.trace_check.specs.Settling.{value_at}
use Rattle.trace_check.specs.Timing.{clock_in}
use Rattle.trace_check.proofs.Settles.{values_found}
use Rattle.trace_check.proofs.values.values.Goals as goal

pub returns-in_ok-found-in-Path : goal.returns-in_ok-found-in-Path
returns-in_ok-found-in-Path c =
    let t = c.args.timed.now in
    let C = t.tree in
    let steps = c.in-Path.steps in
    let node = c.node_of.result in
    c.in_ok-found-in-Path.ensures
    ∙ (ap (map (value_at t)) (c.deref.ensures.value ∙ (c.in_ok-nodes-in-Path.ensures.numbers ∙ ap (λ (l : List Step). map serial_of (matches C (serial_of (node_at C.nodes node)) l)) c.items.ensures))
    ∙ (values_found t c.requires.grown (serial_of (node_at C.nodes node)) steps
    ∙ (ap (λ (k : ℕ). map (λ m. ((clock_in t).closed (serial_of m), node_value C m)) (matches C (serial_of (node_at C.nodes k)) steps)) c.node_of.ensures
    ∙ ap (λ (o : Operand). timed_values (clock_in t) C (env_of C c.args.scope.now) (operand_tree o)) (sym c.in-Path.is))))
