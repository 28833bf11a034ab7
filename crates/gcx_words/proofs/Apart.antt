-- Of pairs whose OUTs are apart each OUT is another name than DOC and the other OUTs.
use Rattle.std.proofs.Common.{◌≡◌, ◌≢◌, ℕ, zero, suc, true, List, [], ◌∷◌, slice_get, Some, refl, sym, ap, subst, ◌∙◌}
use Rattle.std.specs.Prelude.{codes, not}
use Rattle.std.specs.Str.{bytes_eq}
use Rattle.std.proofs.lemmas.Bool.{and_parts, not-true, true≢false}
use Rattle.std.proofs.lemmas.Slice.Eq.{bytes_eq-Decides}
use Rattle.gcx_words.specs.Pairs.{are_apart, differ_from, each_apart, is_apart, is_no_query}
use Rattle.gcx_words.specs.declared.pairs.Pair.{Pair}

not_same : (xs ys : List ℕ) → not (bytes_eq xs ys) ≡ true → xs ≢ ys
not_same xs ys apart same = true≢false (sym ((bytes_eq-Decides xs ys).1 same) ∙ not-true (bytes_eq xs ys) apart)

one_pair : (x y : Pair) → Some x ≡ Some y → x ≡ y
one_pair x y same = cc

differs : (ps : List Pair) (out : List ℕ) → differ_from ps out ≡ true → (i : ℕ) (p : Pair) → slice_get ps i ≡ Some p → p.out ≢ out
differs [] out all i p at = let no : ⊥ = cc in absurd no
differs (q ∷ ps) out all zero p at = subst (λ (x : Pair). x.out ≢ out) (one_pair q p at) (not_same q.out out (and_parts (not (bytes_eq q.out out)) (differ_from ps out) all).0)
differs (q ∷ ps) out all (suc i) p at = differs ps out (and_parts (not (bytes_eq q.out out)) (differ_from ps out) all).1 i p at

module _ (document : List ℕ) (all : List Pair) where
  from_document : (ps : List Pair) → each_apart document all ps ≡ true → (i : ℕ) (p : Pair) → slice_get ps i ≡ Some p → p.out ≢ document
  from_document [] apart i p at = let no : ⊥ = cc in absurd no
  from_document (q ∷ ps) apart zero p at =
      let own = (and_parts (is_apart document all q.out) _ apart).0 in
      let rest = (and_parts (not (bytes_eq q.out (codes "-"))) _ own).1 in
      subst (λ (x : Pair). x.out ≢ document) (one_pair q p at) (not_same q.out document (and_parts (not (bytes_eq q.out document)) (is_no_query all q.out) rest).0)
  from_document (q ∷ ps) apart (suc i) p at =
      from_document ps (and_parts (differ_from ps q.out) (each_apart document all ps) (and_parts (is_apart document all q.out) _ apart).1).1 i p at

  from_others : (ps : List Pair) → each_apart document all ps ≡ true → (i j : ℕ) (p q : Pair) → slice_get ps i ≡ Some p → slice_get ps j ≡ Some q → i ≢ j → p.out ≢ q.out
  from_others [] apart i j p q is_p is_q other = let no : ⊥ = cc in absurd no
  from_others (x ∷ ps) apart zero zero p q is_p is_q other = absurd (other refl)
  from_others (x ∷ ps) apart zero (suc j) p q is_p is_q other =
      let rest = and_parts (differ_from ps x.out) (each_apart document all ps) (and_parts (is_apart document all x.out) _ apart).1 in
      λ same. differs ps x.out rest.0 j q is_q (sym (ap (λ (y : Pair). y.out) (one_pair x p is_p) ∙ same))
  from_others (x ∷ ps) apart (suc i) zero p q is_p is_q other =
      let rest = and_parts (differ_from ps x.out) (each_apart document all ps) (and_parts (is_apart document all x.out) _ apart).1 in
      λ same. differs ps x.out rest.0 i p is_p (same ∙ sym (ap (λ (y : Pair). y.out) (one_pair x q is_q)))
  from_others (x ∷ ps) apart (suc i) (suc j) p q is_p is_q other =
      from_others ps (and_parts (differ_from ps x.out) (each_apart document all ps) (and_parts (is_apart document all x.out) _ apart).1).1 i j p q is_p is_q (λ e. other (ap suc e))

pub apart_document : (document : List ℕ) (ps : List Pair) → are_apart document ps ≡ true → (i : ℕ) (p : Pair) → slice_get ps i ≡ Some p → p.out ≢ document
apart_document document ps apart = from_document document ps ps apart

pub apart_others : (document : List ℕ) (ps : List Pair) → are_apart document ps ≡ true → (i j : ℕ) (p q : Pair) → slice_get ps i ≡ Some p → slice_get ps j ≡ Some q → i ≢ j → p.out ≢ q.out
apart_others document ps apart = from_others document ps ps apart
