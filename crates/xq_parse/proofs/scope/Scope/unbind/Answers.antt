use Rattle.std.proofs.Common.{rules}
use Rattle.std.specs.BTreeMap.{get_by_text}
use Rattle.xq_parse.proofs.FirstPlaces.{goes}
use Rattle.xq_parse.proofs.scope.Scope.unbind.Goals as goal

pub invariant_of-self : goal.invariant_of-self
invariant_of-self c =
    goes (get_by_text c.self.inside.first) (get_by_text c.take_first.new.first) c.self.inside.names.items c.pop.new.self.items c.in-Some.name c.len.result (search rules) (search rules) c.self.invariant c.take_first.ensures

pub invariant_of-self-in-Some-2 : goal.invariant_of-self-in-Some-2
invariant_of-self-in-Some-2 c =
    goes (get_by_text c.self.inside.first) (get_by_text c.take_first.new.first) c.self.inside.names.items c.pop.new.self.items c.in-Some.name c.len.result (search rules) (search rules) c.self.invariant c.take_first.ensures
