use Rattle.std.proofs.Common.{rules, ◌∙◌, ap, sym}
use Rattle.std.specs.BTreeMap.{get_by_text}
use Rattle.xq_parse.specs.Bindings.{first_of}
use Rattle.xq_parse.proofs.FirstPlaces.{comes}
use Rattle.xq_parse.proofs.scope.Scope.bind.Goals as goal

pub invariant_of-self-in_err-put_first : goal.invariant_of-self-in_err-put_first
invariant_of-self-in_err-put_first c = λ q. c.in_err-put_first.ensures.err q ∙ c.self.invariant q ∙ ap (first_of q) (sym c.reserve.ensures.items)

pub invariant_of-self-2 : goal.invariant_of-self-2
invariant_of-self-2 c =
    comes (get_by_text c.self.inside.first) (get_by_text c.put_first.new.first) c.reserve.new.self.items c.push_reserved.new.self.items c.args.name c.len.result c.push_reserved.ensures.items (search rules)
    (λ q. c.self.invariant q ∙ ap (first_of q) (sym c.reserve.ensures.items)) c.in_ok-put_first.ensures.ok
