use Rattle.std.proofs.Common.{rules, ap, sym, subst, ◌≡◌, ◌∙◌, List, ℕ, take, length, vec_len, arith}
use Rattle.doc_tokens.specs.declared.lent.Lent.{Lent}
use Rattle.doc_tokens.specs.Kept.{lent_queue, AreKept}
use Rattle.doc_tokens.proofs.Keeping.{forgot_kept, forgot_queue}
use Rattle.doc_tokens.proofs.tokens.Tokens.cut_pending.Goals as goal

pub cut-requires-clause-order : goal.cut-requires-clause-order
cut-requires-clause-order c = c.self.invariant.based

pub cut-requires-clause-within : goal.cut-requires-clause-within
cut-requires-clause-within c =
    let within = c.self.invariant.within in
    let long : length c.self.inside.bytes.items ≡ vec_len c.self.inside.bytes = search rules in
    omega arith

pub invariant_of-self : goal.invariant_of-self
invariant_of-self c =
    let s = c.self.inside in
    subst (λ (l : List Lent). AreKept c.cut.new.xs.items l s.base s.base s.taken s.whole) (sym c.truncate.ensures.items)
    (subst (λ (b : List ℕ). AreKept b (take s.whole s.lent.items) s.base s.base s.taken s.whole) (sym c.cut.ensures)
    (forgot_kept s.bytes.items s.lent.items s.base s.start s.taken s.whole c.self.invariant))

pub returns : goal.returns
returns c =
    let s = c.self.inside in
    ap (λ (l : List Lent). lent_queue c.cut.new.xs.items l s.base s.taken s.whole) c.truncate.ensures.items
    ∙ ap (λ (b : List ℕ). lent_queue b (take s.whole s.lent.items) s.base s.taken s.whole) c.cut.ensures
    ∙ forgot_queue s.bytes.items s.lent.items s.base s.start s.taken s.whole c.args.self.now c.self.invariant c.self.view_is
