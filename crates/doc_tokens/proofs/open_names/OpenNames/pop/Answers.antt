use Rattle.std.proofs.Common.{rules, ℕ, List, ◌≡◌, ◌∷◌, [], ◌++◌, sym, subst}
use Rattle.doc_tokens.specs.OpenNames.{AreNamesOnly}
use Rattle.doc_tokens.proofs.Lists.{only_fewer}
use Rattle.doc_tokens.proofs.open_names.OpenNames.pop.Goals as goal

pub invariant_of-self : goal.invariant_of-self
invariant_of-self c =
    let s = c.self.inside in
    let start = c.in-Some.start in
    let new = c.pop.new.self.items in
    let all : s.starts.items ≡ new ++ (start ∷ []) = search rules in
    subst (AreNamesOnly new) (sym c.truncate.ensures.items)
    (only_fewer new start s.bytes.items (subst (λ (l : List ℕ). AreNamesOnly l s.bytes.items) all c.self.invariant))
