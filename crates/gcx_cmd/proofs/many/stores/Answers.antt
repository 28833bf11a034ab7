use Rattle.std.proofs.Common.{◌≡◌, ◌∷◌, ◌++◌, [], length, ap, rules, arith}
use Rattle.std.proofs.lemmas.List.{length_push}
use Rattle.std.specs.FinMap as map_of
use Rattle.many_run.proofs.Lists.{each_push}
use Rattle.gcx_cmd.proofs.Manies.{each_none}
use Rattle.gcx_cmd.proofs.many.stores.Goals as goal

pub stores-init : goal.stores-init
stores-init c = record { count = ap length c.new-stores.ensures.items; empty = each_none (λ n. n.rows ≡ map_of.empty) c.new-stores.result.items c.new-stores.ensures.items }

pub stores-preserved : goal.stores-preserved
stores-preserved c =
    let pushed : c.push.new.self.items ≡ c.stores.stores.items ++ c.new.result ∷ [] = search rules in
    let e = ap length pushed in
    let f = length_push c.stores.stores.items c.new.result in
    let g = c.stores.invariant.count in
    record {
      count = omega arith;
      empty = each_push (λ n. n.rows ≡ map_of.empty) c.stores.stores.items c.push.new.self.items c.new.result c.stores.invariant.empty pushed c.new.ensures.rows;
    }
