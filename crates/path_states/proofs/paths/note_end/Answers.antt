use Rattle.std.proofs.Common.{refl, sym, ap}
use Rattle.gcx_base.specs.declared.steps.Axis.TheVariants.{Child, Descendant}
use Rattle.gcx_model.specs.declared.item.RoleKind.{RoleKind as CodeKind}
use Rattle.gcx_model.specs.ItemView.{role_kind}
use Rattle.gcx_model.specs.Core.{Own, First, Whole}
use Rattle.path_states.specs.Growing.{Below, Ends, Contexts}
use Rattle.path_states.proofs.Growing.{list_same, list_push, lists_more}
use Rattle.path_states.proofs.paths.note_end.Goals as goal

pub returns-in_ok-push-in-Own : goal.returns-in_ok-push-in-Own
returns-in_ok-push-in-Own c =
    let s = c.args.state.now in
    let n = c.args.role in
    lists_more (Ends (role_kind c.args.kind)) (Ends Own) n s _ (ap (λ (z : CodeKind). Ends (role_kind z)) (sym c.in-Own.is)) refl refl
    (list_same (Ends Own) (Below Child) n s.child_edges.items (λ e. cc))
    (list_same (Ends Own) (Below Descendant) n s.descendant_edges.items (λ e. cc))
    (list_push (Ends Own) n s.own.items c.push.new.self.items c.in_ok-push-in-Own.ensures.items)
    (list_same (Ends Own) (Ends Whole) n s.whole.items (λ e. cc))
    (list_same (Ends Own) (Ends First) n s.first.items (λ e. cc))
    (list_same (Ends Own) Contexts n s.context.items (λ e. cc))

pub returns-in_ok-push-in-First : goal.returns-in_ok-push-in-First
returns-in_ok-push-in-First c =
    let s = c.args.state.now in
    let n = c.args.role in
    lists_more (Ends (role_kind c.args.kind)) (Ends First) n s _ (ap (λ (z : CodeKind). Ends (role_kind z)) (sym c.in-First.is)) refl refl
    (list_same (Ends First) (Below Child) n s.child_edges.items (λ e. cc))
    (list_same (Ends First) (Below Descendant) n s.descendant_edges.items (λ e. cc))
    (list_same (Ends First) (Ends Own) n s.own.items (λ e. cc))
    (list_same (Ends First) (Ends Whole) n s.whole.items (λ e. cc))
    (list_push (Ends First) n s.first.items c.push-in-First.new.self.items c.in_ok-push-in-First.ensures.items)
    (list_same (Ends First) Contexts n s.context.items (λ e. cc))

pub returns-in_ok-push-in-Whole : goal.returns-in_ok-push-in-Whole
returns-in_ok-push-in-Whole c =
    let s = c.args.state.now in
    let n = c.args.role in
    lists_more (Ends (role_kind c.args.kind)) (Ends Whole) n s _ (ap (λ (z : CodeKind). Ends (role_kind z)) (sym c.in-Whole.is)) refl refl
    (list_same (Ends Whole) (Below Child) n s.child_edges.items (λ e. cc))
    (list_same (Ends Whole) (Below Descendant) n s.descendant_edges.items (λ e. cc))
    (list_same (Ends Whole) (Ends Own) n s.own.items (λ e. cc))
    (list_push (Ends Whole) n s.whole.items c.push-in-Whole.new.self.items c.in_ok-push-in-Whole.ensures.items)
    (list_same (Ends Whole) (Ends First) n s.first.items (λ e. cc))
    (list_same (Ends Whole) Contexts n s.context.items (λ e. cc))
