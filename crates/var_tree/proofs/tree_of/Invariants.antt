use Rattle.std.proofs.Common.{◌≡◌, map, take}
use Rattle.var_tree.proofs.tree_of.Given as goal

abbrev pub invariant-loop-facts : goal.invariant-loop-facts
invariant-loop-facts l = record {
  straight : l.tree.straight ≡ map (λ f. f.straight) (take l.facts-index l.known);
  fsa : map (λ x. x.0) l.tree.fsa ≡ map (λ f. f.fsa.0) (take l.facts-index l.known);
}
