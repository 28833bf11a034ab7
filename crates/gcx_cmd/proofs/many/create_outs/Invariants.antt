use Rattle.std.proofs.Common.{map, take}
use Rattle.gcx_cmd.specs.ManyDoes.{MakesOuts, ManyKeeps}
use Rattle.gcx_cmd.proofs.many.create_outs.Given as goal

abbrev pub invariant-pairs : goal.invariant-pairs
invariant-pairs g l = record {
  made : MakesOuts (take l.pair-index l.pairs) (g.F.Shelf.seen l.fn.files) (g.F.Shelf.seen l.files) l.outs.items;
  keeps : ManyKeeps (map (λ p. p.out) l.pairs) (g.F.Shelf.seen l.fn.files) (g.F.Shelf.seen l.files);
}
