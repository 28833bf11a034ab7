use Rattle.std.proofs.Common.{ℕ, List, sym, subst}
use Rattle.path_states.specs.Branches.{AreBranches}
use Rattle.path_states.specs.Names.{AreOrdered}
use Rattle.path_states.proofs.branches.index_of.Goals as goal

pub returns : goal.returns
returns c = record {
  named = c.in_ok-names.ensures.all;
  ordered = c.in_ok-names.ensures.ordered;
  apart = c.in_ok-names.ensures.apart;
  branches = subst (λ (z : List (List ℕ)). AreBranches c.args.tree.now z c.args.tree.now c.in_ok-branches.branches.items) c.deref.ensures.value
      (c.in_ok-branches.ensures (subst AreOrdered (sym c.deref.ensures.value) c.in_ok-names.ensures.ordered));
}
