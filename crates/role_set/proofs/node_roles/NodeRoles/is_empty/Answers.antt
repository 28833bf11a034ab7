use Rattle.std.proofs.Common.{rules, ap, sym, ◌∙◌, ◌≡◌, [], arith}
use Rattle.role_set.specs.NodeRoles.{NodeSets}
use Rattle.role_set.specs.Pairs.{held_numbers}
use Rattle.role_set.specs.Words.{roles_of}
use Rattle.role_set.proofs.Roles.{empty_roles, parts_of_empty}
use Rattle.role_set.proofs.node_roles.NodeRoles.is_empty.Goals as goal

pub returns-then-self-eq0 : goal.returns-then-self-eq0
returns-then-self-eq0 c = (
  λ is. let none : held_numbers c.self.inside.high ≡ [] = c.holds_none.ensures.0 is in
      ap (λ (v : NodeSets). v.held) (sym c.self.view_is) ∙ (λ i. roles_of (c.if-self-eq0.true i) (none i)) ∙ empty_roles,
  λ is. let parts = parts_of_empty c.self.inside.held (held_numbers c.self.inside.high) (omega arith) c.self.invariant.held (ap (λ (v : NodeSets). v.held) c.self.view_is ∙ is) in
      c.holds_none.ensures.1 parts.1,
)

pub returns-else-self-eq0 : goal.returns-else-self-eq0
returns-else-self-eq0 c = (
  λ is. let zero : c.self.inside.held ≡ 0 = search rules in absurd (c.if-self-eq0.false zero),
  λ is. let parts = parts_of_empty c.self.inside.held (held_numbers c.self.inside.high) (omega arith) c.self.invariant.held (ap (λ (v : NodeSets). v.held) c.self.view_is ∙ is) in
      absurd (c.if-self-eq0.false parts.0),
)
