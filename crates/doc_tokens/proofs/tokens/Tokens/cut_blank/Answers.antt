use Rattle.std.proofs.Common.{rules, ap, sym, subst, ◌≡◌, ◌∙◌, not, List, ℕ, drop}
use Rattle.gcx_model.specs.Document.{is_blank}
use Rattle.doc_tokens.specs.Kept.{lent_queue, AreKept}
use Rattle.doc_tokens.specs.Tokens.{Queue}
use Rattle.doc_tokens.proofs.Keeping.{blank_kept, blank_queue, text_stays}
use Rattle.doc_tokens.proofs.tokens.Tokens.cut_blank.Goals as goal

pub invariant_of-self : goal.invariant_of-self
invariant_of-self c =
    let s = c.self.inside in
    subst (λ (b : List ℕ). AreKept b s.lent.items s.base s.start s.taken s.whole) (sym c.truncate.ensures.items)
    (blank_kept s.bytes.items s.lent.items s.base s.start s.taken s.whole c.self.invariant)

pub returns-then-not-text-clause-text : goal.returns-then-not-text-clause-text
returns-then-not-text-clause-text c =
    let s = c.self.inside in
    let here : c.has_text-text.result ≡ not (is_blank (drop s.start s.bytes.items)) = search rules in
    here ∙ ap (λ (q : Queue). not (is_blank q.run)) c.self.view_is

pub returns-then-not-text-clause-run : goal.returns-then-not-text-clause-run
returns-then-not-text-clause-run c =
    let s = c.self.inside in
    let here : c.has_text-text.result ≡ not (is_blank (drop s.start s.bytes.items)) = search rules in
    let blank = sym (here ∙ ap (λ (q : Queue). not (is_blank q.run)) c.self.view_is) ∙ c.if-not-text.true in
    ap (λ (b : List ℕ). lent_queue b s.lent.items s.start s.taken s.whole) c.truncate.ensures.items
    ∙ blank_queue s.bytes.items s.lent.items s.base s.start s.taken s.whole c.args.self.now c.self.invariant blank c.self.view_is

pub returns-else-not-text-clause-text : goal.returns-else-not-text-clause-text
returns-else-not-text-clause-text c =
    let s = c.self.inside in
    let here : c.has_text-text.result ≡ not (is_blank (drop s.start s.bytes.items)) = search rules in
    here ∙ ap (λ (q : Queue). not (is_blank q.run)) c.self.view_is

pub returns-else-not-text-clause-run : goal.returns-else-not-text-clause-run
returns-else-not-text-clause-run c =
    let s = c.self.inside in
    let here : c.has_text-text.result ≡ not (is_blank (drop s.start s.bytes.items)) = search rules in
    let text = sym (here ∙ ap (λ (q : Queue). not (is_blank q.run)) c.self.view_is) ∙ c.if-not-text.false in
    text_stays c.args.self.now text
