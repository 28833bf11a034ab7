-- Nodes of which no frame is made.
use Rattle.std.proofs.Common.{◌≡◌, ℕ, zero, suc, ◌+◌, ◌-◌, ◌<◌, ◌≤◌, List, [], ◌∷◌, ◌++◌, length, max, take, refl, sym, ◌∙◌, ap, subst, inl, inr, arith, append_assoc, Some, None}
use Rattle.std.specs.Prelude.{replicate, slice_get}
use Rattle.std.proofs.lemmas.Bool.Decides.{leb_tells}
use Rattle.std.proofs.lemmas.List.{append-nil, length-append, length-replicate, length-take-le, replicate_more, take_all}
use Rattle.std.proofs.lemmas.Option.{slice_get_within}
use Rattle.tree_laws.proofs.Lists.{In, In-append}
use Rattle.matcher.specs.Bare.{bare_marks, with_bare}
use Rattle.matcher.specs.Parts.{IsUnmatched, NodeMarks}
use Rattle.matcher.specs.Stacks.{AreMatched, IsMatched, last_marks, outer_marks}
use Rattle.matcher.specs.declared.frames.Found.{Found}
use Rattle.matcher.proofs.Places.{at_front, last_is, outer_push}

-- ---- how many there are

-- all have frames
pub none_bare : (ms : List NodeMarks) (n : ℕ) → n ≤ length ms → with_bare ms n ≡ ms
none_bare ms n l =
    let e : n - length ms ≡ 0 = omega arith in
    ap (λ (k : ℕ). ms ++ replicate k bare_marks) e ∙ append-nil ms

pub bare_length : (ms : List NodeMarks) (n : ℕ) → length ms ≤ n → length (with_bare ms n) ≡ n
bare_length ms n l =
    let a = length-append ms (replicate (n - length ms) bare_marks) in
    let b = length-replicate (n - length ms) bare_marks in
    omega arith

-- one node more
pub bare_next : (ms : List NodeMarks) (n : ℕ) → length ms ≤ n → with_bare ms (n + 1) ≡ with_bare ms n ++ bare_marks ∷ []
bare_next ms n l =
    let e : (n + 1) - length ms ≡ (n - length ms) + 1 = omega arith in
    ap (λ (k : ℕ). ms ++ replicate k bare_marks) e
    ∙ (ap (λ (z : List NodeMarks). ms ++ z) (sym (replicate_more (n - length ms) bare_marks))
    ∙ sym (append_assoc ms (replicate (n - length ms) bare_marks) (bare_marks ∷ [])))

-- one frame more, of the outermost of them
pub bare_made : (ms ns : List NodeMarks) (n : ℕ) → length ms < n → ns ≡ ms ++ bare_marks ∷ [] → (length ns ≡ length ms + 1) × (with_bare ns n ≡ with_bare ms n)
bare_made ms ns n l f =
    let a = length-append ms (bare_marks ∷ []) in
    let b = ap (λ (z : List NodeMarks). length z) f in
    let e : suc (n - length (ms ++ bare_marks ∷ [])) ≡ n - length ms = omega arith in
    let one : length ns ≡ length ms + 1 = omega arith in (
      one,
      ap (λ (z : List NodeMarks). with_bare z n) f
          ∙ (append_assoc ms (bare_marks ∷ []) (replicate (n - length (ms ++ bare_marks ∷ [])) bare_marks)
          ∙ ap (λ (k : ℕ). ms ++ replicate k bare_marks) e),
    )

-- ---- the innermost one

pub bare_last : (ms : List NodeMarks) (n : ℕ) → length ms < n → last_marks (with_bare ms n) ≡ Some bare_marks
bare_last ms n l =
    let e : n ≡ (n - 1) + 1 = omega arith in
    let m : length ms ≤ n - 1 = omega arith in
    last_is (with_bare ms (n - 1)) (with_bare ms n) bare_marks (ap (λ (k : ℕ). with_bare ms k) e ∙ bare_next ms (n - 1) m)

-- it is left, and had no frame
pub bare_left : (ms : List NodeMarks) (n all : ℕ) → all ≡ n + 1 → length ms ≤ n → 0 < n → with_bare ms n ≡ outer_marks (with_bare ms all)
bare_left ms n all e l some =
    let a = bare_length ms n l in
    let b : 0 < length (with_bare ms n) = omega arith in
    sym (ap (λ (k : ℕ). outer_marks (with_bare ms k)) e ∙ (ap outer_marks (bare_next ms n l) ∙ outer_push (with_bare ms n) bare_marks b))

-- it is left, and had a frame
pub made_left : (ms ns : List NodeMarks) (n all : ℕ) → all ≡ n + 1 → length ms ≡ all → 0 < n → ns ≡ outer_marks ms → (length ns ≡ n) × (with_bare ns n ≡ outer_marks (with_bare ms all))
made_left ms ns n all e m some f =
    let a : length (take (max 1 (length ms - 1)) ms) ≡ max 1 (length ms - 1) = length-take-le (max 1 (length ms - 1)) ms (omega arith) in
    let b = ap (λ (z : List NodeMarks). length z) f in
    let k : length ns ≡ n = omega arith in
    let s : all ≤ length ms = omega arith in
    let t : n ≤ length ns = omega arith in
    (k, none_bare ns n t ∙ (f ∙ ap outer_marks (sym (none_bare ms all s))))

-- the document node stays
pub bare_stays : (ms : List NodeMarks) (n : ℕ) → n ≤ 1 → length ms ≤ n → with_bare ms n ≡ outer_marks (with_bare ms n)
bare_stays ms n l m =
    let a = bare_length ms n m in
    let s : length (with_bare ms n) ≤ max 1 (length (with_bare ms n) - 1) = omega arith in
    sym (take_all (max 1 (length (with_bare ms n) - 1)) (with_bare ms n) s)

-- ---- what stands at a place

past_end : (xs : List NodeMarks) (i : ℕ) → length xs ≤ i → slice_get xs i ≡ None
past_end [] i l = refl
past_end (x ∷ xs) zero l = absurd (omega arith)
past_end (x ∷ xs) (suc i) l = let m : length xs ≤ i = omega arith in past_end xs i m

at_behind : (ms xs : List NodeMarks) (i : ℕ) → length ms ≤ i → slice_get (ms ++ xs) i ≡ slice_get xs (i - length ms)
at_behind [] xs i l = let e : i ≡ i - 0 = omega arith in ap (λ (k : ℕ). slice_get xs k) e
at_behind (m ∷ ms) xs zero l = absurd (omega arith)
at_behind (m ∷ ms) xs (suc i) l =
    let k : length ms ≤ i = omega arith in
    let e : i - length ms ≡ suc i - length (m ∷ ms) = omega arith in
    at_behind ms xs i k ∙ ap (λ (j : ℕ). slice_get xs j) e

at_bare : (k i : ℕ) → i < k → slice_get (replicate k bare_marks) i ≡ Some bare_marks
at_bare zero i l = absurd (omega arith)
at_bare (suc k) zero l = refl
at_bare (suc k) (suc i) l = let m : i < k = omega arith in at_bare k i m

pub at_made : (ms : List NodeMarks) (n i : ℕ) → i < length ms → slice_get (with_bare ms n) i ≡ slice_get ms i
at_made ms n i l = at_front ms (replicate (n - length ms) bare_marks) i l

pub at_unmade : (ms : List NodeMarks) (n i : ℕ) → length ms ≤ i → i < n → slice_get (with_bare ms n) i ≡ Some bare_marks
at_unmade ms n i l m =
    let k : i - length ms < n - length ms = omega arith in
    at_behind ms (replicate (n - length ms) bare_marks) i l ∙ at_bare (n - length ms) (i - length ms) k

pub at_none : (ms : List NodeMarks) (n i : ℕ) → length ms ≤ n → n ≤ i → slice_get (with_bare ms n) i ≡ None
at_none ms n i l m =
    let a = bare_length ms n l in
    let k : length (with_bare ms n) ≤ i = omega arith in
    past_end (with_bare ms n) i k

-- ---- they have nothing

pub in_bare : (k : ℕ) (one : NodeMarks) → In one (replicate k bare_marks) → bare_marks ≡ one
in_bare zero one j = absurd j
in_bare (suc k) one (inl e) = e
in_bare (suc k) one (inr j) = in_bare k one j

none_unmatched : (one : NodeMarks) (role : ℕ) → bare_marks ≡ one → IsUnmatched one.contexts role → ⊥
none_unmatched one role e u = let s : IsUnmatched bare_marks.contexts role = subst (λ (z : NodeMarks). IsUnmatched z.contexts role) (sym e) u in s.member

-- a context without a match has a frame
pub unmatched_made : (ms : List NodeMarks) (n : ℕ) (one : NodeMarks) (role : ℕ) → In one (with_bare ms n) → IsUnmatched one.contexts role → In one ms
unmatched_made ms n one role j u = elim (In-append one ms (replicate (n - length ms) bare_marks) j) [
  | inl i ↦ i
  | inr i ↦ absurd (none_unmatched one role (in_bare (n - length ms) one i) u)
]

bare_same : (found : List Found) (level : ℕ) (one : NodeMarks) → bare_marks ≡ one → IsMatched found level bare_marks one
bare_same found level one e = record {
  same_found = ap (λ (z : NodeMarks). z.found) (sym e);
  same_signed = ap (λ (z : NodeMarks). z.signed) (sym e);
  open_to = λ r u. absurd (none_unmatched one r e u);
  open_from = λ r p. absurd (none_unmatched bare_marks r refl p.0);
}

pub bare_matched : (found : List Found) (ms ns : List NodeMarks) (n : ℕ) → length ms ≤ n → AreMatched found ms ns → (length ns ≤ n) × AreMatched found (with_bare ms n) (with_bare ns n)
bare_matched found ms ns n l m =
    let c = m.count in
    let k : length ns ≤ n = omega arith in
    let a = bare_length ms n l in
    let b = bare_length ns n k in (
      k,
      record {
        count = b ∙ sym a;
        each = λ i one at. elim (leb_tells (length ns) i) [
          | inl f ↦ (
              let behind = f.1 in
              let w = slice_get_within (with_bare ns n) i one at in
              let within : i < n = omega arith in
              let same : Some bare_marks ≡ Some one = sym (at_unmade ns n i behind within) ∙ at in
              let is : bare_marks ≡ one = cc in
              let low : length ms ≤ i = omega arith in
              (bare_marks, at_unmade ms n i low within, bare_same found i one is))
          | inr f ↦ (
              let front = f.1 in
              let p = m.each i one (sym (at_made ns n i front) ∙ at) in
              let low : i < length ms = omega arith in
              (p.0, at_made ms n i low ∙ p.1, p.2))
        ];
      },
    )
