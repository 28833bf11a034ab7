use Rattle.std.proofs.Common.{refl}
use Rattle.gcx_base.specs.declared.steps.Axis.TheVariants.{Child, Descendant}
use Rattle.gcx_model.specs.Core.{Own, First, Whole}
use Rattle.path_states.specs.Growing.{Below, Ends, Contexts}
use Rattle.path_states.proofs.Growing.{list_same, list_push, lists_more}
use Rattle.path_states.proofs.paths.note_context.Goals as goal

pub returns : goal.returns
returns c =
    let s = c.args.state.now in
    let n = c.args.role in
    lists_more Contexts Contexts n s _ refl refl refl
    (list_same Contexts (Below Child) n s.child_edges.items (λ e. cc))
    (list_same Contexts (Below Descendant) n s.descendant_edges.items (λ e. cc))
    (list_same Contexts (Ends Own) n s.own.items (λ e. cc))
    (list_same Contexts (Ends Whole) n s.whole.items (λ e. cc))
    (list_same Contexts (Ends First) n s.first.items (λ e. cc))
    (list_push Contexts n s.context.items c.push.new.self.items c.in_ok-push.ensures.items)
