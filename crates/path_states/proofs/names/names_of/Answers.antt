use Rattle.std.proofs.Common.{List, ℕ, rules, sym, subst}
use Rattle.std.proofs.lemmas.List.Sorted.{answers_always}
use Rattle.path_states.specs.Names.{AreOnce, AreOrdered, is_before}
use Rattle.path_states.proofs.Looking.{in_at}
use Rattle.path_states.proofs.Naming.{in_sorted, weak}
use Rattle.path_states.proofs.names.names_of.Goals as goal

pub returns : goal.returns
returns c =
    let sorted = c.in_ok-sort_by.ensures.sorted is_before weak (answers_always _ _ _ (λ f a r g h. search rules)) in
    let once : AreOnce c.sort_by.new.self.items c.in_ok-once.once.items = subst (λ (z : List (List ℕ)). AreOnce z c.in_ok-once.once.items) c.deref.ensures.value (c.in_ok-once.ensures (subst AreOrdered (sym c.deref.ensures.value) sorted)) in
    record {
      all = λ p s at name is. once.all name
          (in_sorted c.in_ok-names.names.items c.sort_by.new.self.items name c.sort_by.ensures.permutation (c.in_ok-names.ensures name (record { of = s; member = in_at c.args.tree.now p s at; is = is })));
      ordered = once.ordered;
      apart = once.apart;
    }
