use Rattle.std.proofs.Common.{sym, subst}
use Rattle.gcx_model.specs.ItemView.{role_kind}
use Rattle.gcx_model.specs.declared.item.RoleKind.{RoleKind}
use Rattle.path_states.specs.Lists.{Holds}
use Rattle.matcher.specs.Ahead.{Target}
use Rattle.matcher.proofs.matcher.Matcher.targets.Goals as goal

pub returns-in_ok-levels-in-Whole : goal.returns-in_ok-levels-in-Whole
returns-in_ok-levels-in-Whole c = subst (λ (k : RoleKind). Holds c.in_ok-levels-in-Whole.levels.items (Target (role_kind k) c.args.self.now c.args.role c.args.way.end)) (sym c.in-Whole.is) c.in_ok-levels-in-Whole.ensures

pub returns-in_ok-levels-in-Own : goal.returns-in_ok-levels-in-Own
returns-in_ok-levels-in-Own c = subst (λ (k : RoleKind). Holds c.in_ok-levels-in-Own.levels.items (Target (role_kind k) c.args.self.now c.args.role c.args.way.end)) (sym c.in-Own.is) c.in_ok-levels-in-Own.ensures

pub returns-in_ok-levels-in-First : goal.returns-in_ok-levels-in-First
returns-in_ok-levels-in-First c = subst (λ (k : RoleKind). Holds c.in_ok-levels-in-First.levels.items (Target (role_kind k) c.args.self.now c.args.role c.args.way.end)) (sym c.in-First.is) c.in_ok-levels-in-First.ensures
