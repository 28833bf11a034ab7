use Rattle.std.proofs.Common.{rules, ap, sym, subst, ◌≡◌, ◌∙◌, length}
use Rattle.doc_tokens.specs.Kept.{lent_queue, AreKept}
use Rattle.doc_tokens.proofs.Keeping.{whole_kept, whole_queue}
use Rattle.doc_tokens.proofs.tokens.Tokens.end_tag.Goals as goal

pub invariant_of-self : goal.invariant_of-self
invariant_of-self c =
    let s = c.self.inside in
    let all : c.len-self-inside.result ≡ length s.lent.items = search rules in
    subst (λ n. AreKept s.bytes.items s.lent.items s.start s.start s.taken n) (sym all) (whole_kept s.bytes.items s.lent.items s.base s.start s.taken s.whole c.self.invariant)

pub returns : goal.returns
returns c =
    let s = c.self.inside in
    let all : c.len-self-inside.result ≡ length s.lent.items = search rules in
    ap (λ n. lent_queue s.bytes.items s.lent.items s.start s.taken n) all ∙ whole_queue s.bytes.items s.lent.items s.start s.taken s.whole c.args.self.now c.self.invariant.few c.self.invariant.enough c.self.view_is
