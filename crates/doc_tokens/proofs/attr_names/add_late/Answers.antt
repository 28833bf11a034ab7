use Rattle.std.proofs.Common.{rules, sym, subst, ◌≡◌, List, ℕ}
use Rattle.doc_tokens.specs.AttrNames.{IsLookedUp}
use Rattle.doc_tokens.proofs.Sets.{looked_up}
use Rattle.doc_tokens.proofs.attr_names.add_late.Goals as goal

pub returns-clause-set : goal.returns-clause-set
returns-clause-set c =
    let key = c.in_ok-key.key in
    let same : key.items ≡ c.args.name.now = search rules in
    subst (λ (names : List (List ℕ)). IsLookedUp names c.insert.new.self) (sym c.in_ok-push.ensures)
    (looked_up c.args.name.now c.args.late.now c.args.set.now c.insert.new.self key same c.requires c.in_ok-insert.ensures.keys)
