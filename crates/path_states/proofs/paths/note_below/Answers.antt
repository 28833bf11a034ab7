use Rattle.std.proofs.Common.{refl, sym, ap}
use Rattle.gcx_base.specs.declared.steps.Axis.TheVariants.{Child, Descendant}
use Rattle.gcx_model.specs.Core.{Own, First, Whole}
use Rattle.path_states.specs.Growing.{Below, Ends, Contexts}
use Rattle.path_states.proofs.Growing.{list_same, list_push, lists_more}
use Rattle.path_states.proofs.paths.note_below.Goals as goal

pub returns-in_ok-push-in-Child : goal.returns-in_ok-push-in-Child
returns-in_ok-push-in-Child c =
    let s = c.args.state.now in
    let n = c.args.number in
    lists_more (Below c.args.axis) (Below Child) n s _ (ap Below (sym c.in-Child.is)) refl refl
    (list_push (Below Child) n s.child_edges.items c.push.new.self.items c.in_ok-push-in-Child.ensures.items)
    (list_same (Below Child) (Below Descendant) n s.descendant_edges.items (λ e. cc))
    (list_same (Below Child) (Ends Own) n s.own.items (λ e. cc))
    (list_same (Below Child) (Ends Whole) n s.whole.items (λ e. cc))
    (list_same (Below Child) (Ends First) n s.first.items (λ e. cc))
    (list_same (Below Child) Contexts n s.context.items (λ e. cc))

pub returns-in_ok-push-in-Descendant : goal.returns-in_ok-push-in-Descendant
returns-in_ok-push-in-Descendant c =
    let s = c.args.state.now in
    let n = c.args.number in
    lists_more (Below c.args.axis) (Below Descendant) n s _ (ap Below (sym c.in-Descendant.is)) refl refl
    (list_same (Below Descendant) (Below Child) n s.child_edges.items (λ e. cc))
    (list_push (Below Descendant) n s.descendant_edges.items c.push-in-Descendant.new.self.items c.in_ok-push-in-Descendant.ensures.items)
    (list_same (Below Descendant) (Ends Own) n s.own.items (λ e. cc))
    (list_same (Below Descendant) (Ends Whole) n s.whole.items (λ e. cc))
    (list_same (Below Descendant) (Ends First) n s.first.items (λ e. cc))
    (list_same (Below Descendant) Contexts n s.context.items (λ e. cc))
