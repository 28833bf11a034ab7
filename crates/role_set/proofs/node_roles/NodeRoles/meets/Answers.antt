use Rattle.std.proofs.Common.{ap, refl, sym, ◌∙◌}
use Rattle.std.specs.Ordering.{nat_cmp}
use Rattle.std.specs.FinSet.{FinSet, contains}
use Rattle.std.proofs.lemmas.Bool.{false≢true}
use Rattle.role_set.specs.NodeRoles.{NodeSets}
use Rattle.role_set.specs.Pairs.{held_numbers}
use Rattle.role_set.proofs.Meeting.{by_words, by_lists}
use Rattle.role_set.proofs.node_roles.NodeRoles.meets.Goals as goal

pub returns-then-meet : goal.returns-then-meet
returns-then-meet c =
    let m = by_words c.self.inside.held c.roles.inside.low (held_numbers c.self.inside.high) c.roles.inside.high.items (c.meet.ensures.0 c.if-meet.true) in (
      (λ _. (
        m.0,
        sym (ap (λ (v : NodeSets). contains v.held m.0) c.self.view_is) ∙ m.1,
        sym (ap (λ (s : FinSet nat_cmp). contains s m.0) c.roles.view_is) ∙ m.2,
      )),
      (λ _. refl),
    )

pub returns : goal.returns
returns c =
    let both = by_lists c.self.inside.held c.roles.inside.low (held_numbers c.self.inside.high) c.roles.inside.high.items c.self.invariant.held c.roles.invariant.1
    (λ w. false≢true (sym c.if-meet.false ∙ c.meet.ensures.1 w)) c.meets_high.result c.meets_high.ensures in (
      (λ h. let m = both.0 h in (
        m.0,
        sym (ap (λ (v : NodeSets). contains v.held m.0) c.self.view_is) ∙ m.1,
        sym (ap (λ (s : FinSet nat_cmp). contains s m.0) c.roles.view_is) ∙ m.2,
      )),
      (λ m. both.1 (
        m.0,
        ap (λ (v : NodeSets). contains v.held m.0) c.self.view_is ∙ m.1,
        ap (λ (s : FinSet nat_cmp). contains s m.0) c.roles.view_is ∙ m.2,
      )),
    )
