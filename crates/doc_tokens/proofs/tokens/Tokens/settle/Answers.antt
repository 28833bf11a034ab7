use Rattle.std.proofs.Common.{rules, ap, sym, subst, ◌≡◌, ◌-◌, ◌∙◌, List, ℕ, map, drop, length, vec_len, arith}
use Rattle.doc_tokens.specs.declared.lent.Lent.{Lent}
use Rattle.doc_tokens.specs.Parts.{moved_by}
use Rattle.doc_tokens.specs.Kept.{lent_queue, AreKept}
use Rattle.doc_tokens.proofs.Keeping.{settled_kept, settled_queue, none_whole}
use Rattle.doc_tokens.proofs.tokens.Tokens.settle.Goals as goal

pub returns-then-self-eq0 : goal.returns-then-self-eq0
returns-then-self-eq0 c =
    let s = c.self.inside in
    none_whole s.bytes.items s.lent.items s.start s.taken s.whole c.args.self.now (search rules) c.self.view_is

pub cut-requires-clause-within : goal.cut-requires-clause-within
cut-requires-clause-within c =
    let based = c.self.invariant.based in
    let within = c.self.invariant.within in
    let long : length c.self.inside.bytes.items ≡ vec_len c.self.inside.bytes = search rules in
    omega arith

pub move_down-requires : goal.move_down-requires
move_down-requires c =
    let enough = c.self.invariant.enough in
    let long : length c.self.inside.lent.items ≡ vec_len c.self.inside.lent = search rules in
    omega arith

pub invariant_of-self : goal.invariant_of-self
invariant_of-self c =
    let s = c.self.inside in
    subst (λ (l : List Lent). AreKept c.cut.new.xs.items l 0 (s.start - s.base) 0 0) (sym c.move_down.ensures)
    (subst (λ (b : List ℕ). AreKept b (map (moved_by s.base) (drop s.whole s.lent.items)) 0 (s.start - s.base) 0 0) (sym c.cut.ensures)
    (settled_kept s.bytes.items s.lent.items s.base s.start s.taken s.whole c.self.invariant))

pub returns : goal.returns
returns c =
    let s = c.self.inside in
    ap (λ (l : List Lent). lent_queue c.cut.new.xs.items l (s.start - s.base) 0 0) c.move_down.ensures
    ∙ ap (λ (b : List ℕ). lent_queue b (map (moved_by s.base) (drop s.whole s.lent.items)) (s.start - s.base) 0 0) c.cut.ensures
    ∙ settled_queue s.bytes.items s.lent.items s.base s.start s.taken s.whole c.args.self.now c.self.invariant c.self.view_is
