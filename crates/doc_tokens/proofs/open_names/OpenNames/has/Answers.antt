use Rattle.std.proofs.Common.{ap, ◌∙◌, sym, take, reverse, List, ℕ, false, not, ◌≡◌, ◌-◌, min, get_or, arith, rules}
use Rattle.std.specs.Prelude.{slice_range}
use Rattle.std.proofs.lemmas.Slice.Eq.{slice_eq-Decides}
use Rattle.std.proofs.lemmas.Bool.Decides.{Decides-eqb}
use Rattle.std.proofs.lemmas.Bool.{true≢false}
use Rattle.gcx_model.specs.Attributes.{is_fresh}
use Rattle.doc_tokens.specs.OpenNames.{names_of}
use Rattle.doc_tokens.proofs.Lists.{looked, fresh_not, fresh_on}
use Rattle.doc_tokens.proofs.open_names.OpenNames.has.Goals as goal

pub returns-then-eq : goal.returns-then-eq
returns-then-eq c =
    let starts = c.self.inside.starts.items in
    let bytes = c.self.inside.bytes.items in
    let s = c.min-start.result in
    let e = c.loop-k.end in
    let k = c.loop-k.k in
    let name = c.args.name.now in
    let d = c.index.result.now in
    let at : s ≡ min (get_or starts (k - 1) d) e = search rules in
    let here : slice_range bytes s e ≡ name = ap (λ (b : List ℕ). slice_range b s e) (sym c.deref.ensures.value) ∙ (slice_eq-Decides Decides-eqb _ _ _ c.eq.ensures).0 c.if-eq.true in
    let old : is_fresh name (names_of (reverse starts) bytes) ≡ false = c.loop-k.invariant.rest ∙ looked name starts bytes k e d s (omega arith) c.loop-k.invariant.few c.loop-k.invariant.within at ∙ fresh_not name (slice_range bytes s e) (names_of (reverse (take (k - 1) starts)) (take s bytes)) here in
    sym (ap not (ap (is_fresh name) (sym c.self.view_is) ∙ old))

pub loop-k-preserved : goal.loop-k-preserved
loop-k-preserved c =
    let starts = c.self.inside.starts.items in
    let bytes = c.self.inside.bytes.items in
    let s = c.min-start.result in
    let e = c.loop-k.end in
    let k = c.loop-k.k in
    let name = c.args.name.now in
    let d = c.index.result.now in
    let at : s ≡ min (get_or starts (k - 1) d) e = search rules in
    let other : slice_range bytes s e ≡ name → ⊥ = λ is. true≢false (sym ((slice_eq-Decides Decides-eqb _ _ _ c.eq.ensures).1 (ap (λ (b : List ℕ). slice_range b s e) c.deref.ensures.value ∙ is)) ∙ c.if-eq.false) in
    record {
      within = omega arith;
      few = omega arith;
      rest = c.loop-k.invariant.rest ∙ looked name starts bytes k e d s (omega arith) c.loop-k.invariant.few c.loop-k.invariant.within at ∙ fresh_on name (slice_range bytes s e) (names_of (reverse (take (k - 1) starts)) (take s bytes)) other;
    }
