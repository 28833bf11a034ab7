-- A text is cut at its first space, and no number, kind or name has one.
use Rattle.std.proofs.Common.{◌≡◌, ℕ, zero, suc, ◌+◌, ◌-◌, ◌<◌, ◌≤◌, ◌^◌, ◌%◌, Bool, true, false, List, [], ◌∷◌, ◌++◌, length, get_or, take, drop, Option, Some, None, refl, sym, ◌∙◌, ap, subst, inl, inr, ◌⊎◌, arith, nat_lt}
use Rattle.std.specs.Borrow.{Bor}
use Rattle.std.specs.List.{position, position_or_len}
use Rattle.std.specs.Fmt.{decimal}
use lib.Utf8.{encode, encodes}
use Rattle.std.proofs.Math.Seq.{take-length}
use Rattle.std.proofs.lemmas.List.{append-nil, length-drop}
use Rattle.std.proofs.lemmas.List.Sums.{split_at_first, fails_before_first, passes_at_first}
use Rattle.std.proofs.lemmas.Option.{cond_some}
use Rattle.std.proofs.lemmas.Bool.{false≢true}
use Rattle.std.proofs.lemmas.Bool.Decides.{nat_tests}
use Rattle.std.proofs.lemmas.Str.{inside_one}
use Rattle.std.proofs.lemmas.Fmt.{decimal_by_steps}
use Rattle.gcx_base.specs.Characters.{is_part_char}
use Rattle.gcx_base.specs.Name.{IsNameBytes}
use Rattle.gcx_model.specs.Members.{In}
use Rattle.gcx_model.specs.Demand.{kind_text}
use Rattle.base_laws.proofs.Members.{list_all_at, place_of}
use Rattle.tree_laws.proofs.Lists.{In-append}
use Rattle.tree_laws.proofs.Spelling.{all_parts}
use Rattle.buf_trace.specs.declared.line.LineKind.{LineKind}
use Rattle.buf_trace.specs.declared.line.LineKind.TheVariants.{Document, Element, Text}
use Rattle.buf_trace.specs.Lines.{IsKind, kind_tree}
use Rattle.buf_trace.specs.Reading.{behind, is_space, IsWord, Reads}

-- ---- the cut

-- the text is over, or goes on with a space
abbrev pub Stops : List ℕ → Type 0
Stops r = (r ≡ []) ⊎ ((rest : List ℕ) × (r ≡ 32 ∷ rest))

pub behind_stops : (o : Option (Bor (List ℕ))) → Stops (behind o)
behind_stops None = inl refl
behind_stops (Some rest) = inr (rest.now, refl)

pub cut_same : (u v r t : List ℕ) → IsWord u → IsWord v → Stops r → Stops t → u ++ r ≡ v ++ t → (u ≡ v) × (r ≡ t)
cut_same [] [] r t fu fv sr st e = (refl, e)
cut_same [] (y ∷ v) r t fu fv sr st e = elim sr [
  | inl n ↦ absurd (cc)
  | inr s ↦ (let h : y ≡ 32 = cc in absurd (fv (inl h)))
]
cut_same (x ∷ u) [] r t fu fv sr st e = elim st [
  | inl n ↦ absurd (cc)
  | inr s ↦ (let h : x ≡ 32 = cc in absurd (fu (inl h)))
]
cut_same (x ∷ u) (y ∷ v) r t fu fv sr st e =
    let h : x ≡ y = cc in
    let rest : u ++ r ≡ v ++ t = cc in
    let q = cut_same u v r t (λ i. fu (inr i)) (λ i. fv (inr i)) sr st rest in
    (ap (λ (z : ℕ). z ∷ u) h ∙ ap (λ z. y ∷ z) q.0, q.1)

word_before : (text : List ℕ) (n : ℕ) → ((k : ℕ) → k < n → is_space (get_or text k 0) ≡ false) → IsWord (take n text)
word_before text zero h i = i
word_before [] (suc n) h i = i
word_before (x ∷ xs) (suc n) h (inl e) = let other : is_space x ≡ false = h 0 (omega arith) in grind (arith, nat_tests)
word_before (x ∷ xs) (suc n) h (inr i) = word_before xs n (λ k l. h (suc k) (omega arith)) i

space_is : (x : ℕ) → is_space x ≡ true → x ≡ 32
space_is x h = grind (arith, nat_tests)

pub record Parted (text : List ℕ) (at : ℕ) : Type 0 where
  pub whole : text ≡ take at text ++ 32 ∷ take (length text - (at + 1)) (drop (at + 1) text)
  pub word : IsWord (take at text)

pub parted : (text : List ℕ) (at : ℕ) → position is_space text ≡ Some at → Parted text at
parted text at h =
    let some = cond_some _ _ _ h in
    let in_range : position_or_len is_space text < length text = grind (arith, nat_tests, some.0) in
    let space : get_or text (position_or_len is_space text) 0 ≡ 32 = space_is _ (passes_at_first is_space text 0 in_range) in
    let split = split_at_first is_space text 0 in_range in
    let all : take (length text - (at + 1)) (drop (at + 1) text) ≡ drop (at + 1) text = ap (λ n. take n (drop (at + 1) text)) (sym (length-drop (at + 1) text)) ∙ take-length (drop (at + 1) text) in
    record {
      whole = split ∙ ap (λ x. take (position_or_len is_space text) text ++ x ∷ drop (position_or_len is_space text + 1) text) space
          ∙ ap (λ n. take n text ++ 32 ∷ drop (n + 1) text) some.1 ∙ ap (λ xs. take at text ++ 32 ∷ xs) (sym all);
      word = word_before text at (λ k l. fails_before_first is_space text k 0 (omega (arith, some.1)));
    }

pub unparted : (text : List ℕ) → position is_space text ≡ None → IsWord text
unparted text h = subst IsWord (take-length text) (word_before text (length text) (λ k l. fails_before_first is_space text k 0 (inside k l)))
  where
    go : (b : Bool) → nat_lt (position_or_len is_space text) (length text) ≡ b → length text ≤ position_or_len is_space text
    go true e = absurd (grind (arith, nat_tests))
    go false e = grind (arith, nat_tests)

    inside : (k : ℕ) → k < length text → k < position_or_len is_space text
    inside k l = let far = go _ refl in omega arith

-- ---- words

word_append : (u v : List ℕ) → IsWord u → IsWord v → IsWord (u ++ v)
word_append u v f g i = elim (In-append 32 u v i) [ inl j ↦ f j | inr j ↦ g j ]

pub decimal_word : (n : ℕ) → n < 2 ^ 64 → IsWord (decimal n)
decimal_word n m = decimal_by_steps (λ k ds. IsWord ds) one more n m
  where
    one : (k : ℕ) → k < 10 → IsWord ((48 + k) ∷ [])
    one k h (inl e) = omega arith
    one k h (inr i) = i

    more : (k : ℕ) (ds : List ℕ) → 10 ≤ k → IsWord ds → IsWord (ds ++ (48 + k % 10) ∷ [])
    more k ds h f = word_append ds ((48 + k % 10) ∷ []) f (λ i. elim i [ inl e ↦ (let r : 48 + k % 10 ≡ 32 = e in omega arith) | inr j ↦ j ])

-- a space of a text is a character of it
space_in : (cs : List ℕ) → In 32 (encodes cs) → In 32 cs
space_in [] i = i
space_in (c ∷ cs) i = elim (In-append 32 (encode c) (encodes cs) i) [
  | inl j ↦ (let r = place_of 32 (encode c) j in
      let small : get_or (encode c) r.0 0 < 128 = subst (λ (z : ℕ). z < 128) (sym r.2) (omega arith) in
      inl (inside_one c [] (encode c) r.0 (sym (append-nil (encode c))) r.1 small ∙ r.2))
  | inr j ↦ inr (space_in cs j)
]

name_word : (name : List ℕ) → IsNameBytes name → IsWord name
name_word name n i = false≢true (list_all_at is_part_char 32 n.chars (all_parts n.chars n.name) (space_in n.chars (subst (λ (z : List ℕ). In 32 z) (sym n.parts) i)))

pub kind_word : (k : LineKind) → IsKind k → IsWord (kind_text (kind_tree k))
kind_word Document h (inl e) = omega arith
kind_word Document h (inr i) = i
kind_word (Element name) h i = name_word name h i
kind_word Text h (inl e) = omega arith
kind_word Text h (inr i) = i

-- ---- nothing was found

module _ {A : Type 0} where
  pub nothing : (Fits : A → Type 0) (shown : A → List ℕ) (text : List ℕ) (r : Option A) → r ≡ None → Reads Fits shown text r → (a : A) → Fits a → shown a ≡ text → ⊥
  nothing Fits shown text r is h = subst (λ (z : Option A). Reads Fits shown text z) is h
