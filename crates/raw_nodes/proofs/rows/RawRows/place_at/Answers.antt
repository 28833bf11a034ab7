use Rattle.std.proofs.Common.{◌≡◌, Some, IsSome, rules, subst}
use Rattle.std.specs.Prelude.{IfSome}
use Rattle.std.specs.FinMap as fin
use Rattle.raw_nodes.specs.Nodes.{place_of}
use Rattle.raw_nodes.specs.Raw.{raw_of}
use Rattle.raw_nodes.proofs.Reading.{place_found}
use Rattle.raw_nodes.proofs.rows.RawRows.place_at.Goals as goal

pub place-requires-clause-found : goal.place-requires-clause-found
place-requires-clause-found g c =
    let is : c.args.link ≡ Some c.in-Some.link = search rules in
    place_found c.args.self.now c.requires.raw c.in-Some.link
    (subst (λ o. IfSome o (λ l. IsSome (fin.get (raw_of c.args.self.now).rows (place_of c.args.self.now.heap.arena.cells l.ptr)))) is c.requires.used)
