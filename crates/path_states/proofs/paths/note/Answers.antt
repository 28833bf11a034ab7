use Rattle.std.proofs.Common.{ap, inl, inr}
use Rattle.gcx_model.specs.ItemView.{role_kind}
use Rattle.path_states.proofs.Growing.{more_end, more_first}
use Rattle.path_states.proofs.paths.note.Goals as goal

pub returns-in_ok-link_context-in-First : goal.returns-in_ok-link_context-in-First
returns-in_ok-link_context-in-First c = λ paths ways.
    more_first c.args.tree.now c.link_end.new.tree c.link_context.new.tree paths ways c.args.way c.args.role (ap role_kind c.in-First.is) c.in_ok-link_end.ensures c.in_ok-link_context-in-First.ensures

pub returns-in-Own : goal.returns-in-Own
returns-in-Own c = λ paths ways.
    more_end c.args.tree.now c.link_end.new.tree paths ways c.args.way c.args.role (λ e. elim c.in-Own.is [ inl o ↦ (let f = ap role_kind o in cc) | inr o ↦ (let f = ap role_kind o in cc) ]) c.in_ok-link_end.ensures
