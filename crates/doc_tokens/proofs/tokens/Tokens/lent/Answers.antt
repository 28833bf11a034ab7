use Rattle.std.proofs.Common.{ap, subst, sym, List, ℕ}
use Rattle.std.specs.Prelude.{slice_range}
use Rattle.gcx_model.specs.Tree.{TreeToken}
use Rattle.doc_tokens.specs.declared.lent.Lent.{Lent}
use Rattle.doc_tokens.specs.Parts.{AreLent}
use Rattle.doc_tokens.specs.Tokens.{Queue}
use Rattle.doc_tokens.proofs.Keeping.{lent_kept}
use Rattle.doc_tokens.proofs.tokens.Tokens.lent.Goals as goal

pub returns : goal.returns
returns c =
    let s = c.self.inside in
    let tokens = c.as_slice-tokens.result.now in
    subst (λ (bytes : List ℕ). AreLent (slice_range tokens s.taken s.whole) bytes c.args.self.now.tokens) (sym c.as_slice-bytes.ensures.value)
    (subst (λ (ts : List TreeToken). AreLent (slice_range tokens s.taken s.whole) s.bytes.items ts) (ap (λ (q : Queue). q.tokens) c.self.view_is)
    (lent_kept s.bytes.items s.lent.items (slice_range tokens s.taken s.whole) s.base s.start s.taken s.whole c.self.invariant (ap (λ (l : List Lent). slice_range l s.taken s.whole) c.as_slice-tokens.ensures.value)))
