use Rattle.std.proofs.Common.{sym, ◌∙◌}
use Rattle.path_states.proofs.Looking.{none_of}
use Rattle.path_states.proofs.state.lead_nowhere.Goals as goal

pub returns-then-is_empty : goal.returns-then-is_empty
returns-then-is_empty c = λ h. record { pending = none_of c.args.pending.now (sym c.is_empty.ensures ∙ c.if-is_empty.true); child_edges = c.have_no_child_edges.ensures h }
