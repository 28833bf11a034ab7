use Rattle.std.proofs.Common.{rules, ℕ, List, sym, subst}
use Rattle.doc_tokens.specs.OpenNames.{AreNamesOnly}
use Rattle.doc_tokens.proofs.Lists.{only_more}
use Rattle.doc_tokens.proofs.open_names.OpenNames.push_front.Goals as goal

pub invariant_of-self-in_err-push_front : goal.invariant_of-self-in_err-push_front
invariant_of-self-in_err-push_front c =
    let s = c.self.inside in
    subst (λ (l : List ℕ). AreNamesOnly l c.push_front.new.list.items) (sym c.in_ok-push.ensures.items)
    (only_more s.starts.items s.bytes.items c.push_front.new.list.items c.len.result c.self.invariant (search rules))

pub invariant_of-self-2 : goal.invariant_of-self-2
invariant_of-self-2 c =
    let s = c.self.inside in
    subst (λ (l : List ℕ). AreNamesOnly l c.push_front.new.list.items) (sym c.in_ok-push.ensures.items)
    (only_more s.starts.items s.bytes.items c.push_front.new.list.items c.len.result c.self.invariant (search rules))
