use Rattle.std.proofs.Common.{◌≡◌, ◌+◌, ◌-◌, ◌^◌, min, ap, sym, ◌∙◌, arith}
use Rattle.std.specs.FinSet.{len}
use Rattle.role_set.specs.NodeRoles.{NodeSets}
use Rattle.role_set.specs.Pairs.{held_numbers}
use Rattle.role_set.proofs.Counting.{len_roles}
use Rattle.role_set.proofs.node_roles.NodeRoles.count.Goals as goal

pub returns : goal.returns
returns c =
    let held = len_roles c.self.inside.held (held_numbers c.self.inside.high) (omega arith) c.self.invariant.held in
    let all : c.from.result + c.count_high.result ≡ len c.args.self.now.held =
    (λ i. c.from.ensures i + c.count_high.ensures i) ∙ sym held ∙ ap (λ (v : NodeSets). len v.held) c.self.view_is in
    c.saturating_add.ensures ∙ ap (λ n. min n (2 ^ 64 - 1)) all
