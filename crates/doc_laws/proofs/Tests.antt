-- Tests and lists.
use Rattle.std.specs.Prelude.{bytes_eq}
use Rattle.std.proofs.Common.{ℕ, ◌≡◌, ◌⊎◌, inl, inr, Bool, true, false, not, ◌&&◌, ◌||◌, eqb, cond, List, [], ◌∷◌, ◌++◌, refl, sym, ap, ◌∙◌, eq-eqb, eqb-true}
use Rattle.std.specs.List.{list_all}
use Rattle.std.proofs.lemmas.Bool.{false≢true, or_cases, and_right, and_from, and_parts}
use Rattle.gcx_base.specs.Characters.{is_char, is_white, is_start_char, is_part_char}
use Rattle.gcx_model.specs.Attributes.{is_name, is_blank_text, is_gap, is_quote, is_text_char, is_value_char}
use Rattle.gcx_model.specs.Markup.{is_doc_char, is_literal_char}

pub not_true : (b : Bool) → (b ≡ true → ⊥) → not b ≡ true
not_true true h = absurd (h refl)
not_true false h = refl

pub chosen : {X : Type 0} (b : Bool) (x y z : X) → cond b x y ≡ z → ((b ≡ true) × (x ≡ z)) ⊎ ((b ≡ false) × (y ≡ z))
chosen true x y z e = inl (refl, e)
chosen false x y z e = inr (refl, e)

pub at : (c n : ℕ) → eqb c n ≡ true → c ≡ n
at c n h = eqb-true c n h

-- classes of characters
pub space_not_name : (c : ℕ) → is_white c ≡ true → is_part_char c ≡ false
space_not_name c h =
    let is : (n : ℕ) → is_part_char n ≡ false → eqb c n ≡ true → is_part_char c ≡ false = λ n e f. ap is_part_char (eqb-true c n f) ∙ e in
    elim (or_cases (eqb c 32) _ h) [
      | inl e ↦ is 32 refl e
      | inr h ↦
          elim (or_cases (eqb c 9) _ h) [
            | inl e ↦ is 9 refl e
            | inr h ↦
                elim (or_cases (eqb c 13) _ h) [ inl e ↦ is 13 refl e | inr e ↦ is 10 refl e ]
          ]
    ]

pub not_start : (c : ℕ) → is_part_char c ≡ false → is_start_char c ≡ false
not_start c h = left (is_start_char c) _ h
  where
    left : (a b : Bool) → a || b ≡ false → a ≡ false
    left true b e = e
    left false b e = refl

pub quote_cases : (q : ℕ) → is_quote q ≡ true → (q ≡ 34) ⊎ (q ≡ 39)
quote_cases q h = elim (or_cases (eqb q 34) _ h) [ inl e ↦ inl (eqb-true q 34 e) | inr e ↦ inr (eqb-true q 39 e) ]

pub quote_not_space : (q : ℕ) → is_quote q ≡ true → is_white q ≡ false
quote_not_space q h = elim (quote_cases q h) [ inl e ↦ ap is_white e | inr e ↦ ap is_white e ]

pub not_amp : (q : ℕ) → is_quote q ≡ true → eqb 38 q ≡ false
not_amp q h = elim (quote_cases q h) [ inl e ↦ ap (eqb 38) e | inr e ↦ ap (eqb 38) e ]

pub start_not_space : (c : ℕ) → is_start_char c ≡ true → is_white c ≡ false
start_not_space c h = by (is_white c) refl
  where
    by : (b : Bool) → is_white c ≡ b → is_white c ≡ false
    by true e = absurd (false≢true (sym (not_start c (space_not_name c e)) ∙ h))
    by false e = e

pub quote_not_doc : (q : ℕ) → is_quote q ≡ true → is_doc_char q ≡ false
quote_not_doc q h = elim (quote_cases q h) [ inl e ↦ ap is_doc_char e | inr e ↦ ap is_doc_char e ]

pub quote_not_greater : (q : ℕ) → is_quote q ≡ true → eqb q 62 ≡ false
quote_not_greater q h = elim (quote_cases q h) [ inl e ↦ ap (λ a. eqb a 62) e | inr e ↦ ap (λ a. eqb a 62) e ]

pub not_literal : (q : ℕ) → is_literal_char q q ≡ false
not_literal q = ap (λ b. is_char q && not b) (eq-eqb q q refl) ∙ and_right (is_char q) false refl

-- a quote ends its value
pub not_value : (q : ℕ) → is_value_char q q ≡ false
not_value q = ap (λ b. is_text_char q && not b) (eq-eqb q q refl) ∙ and_right (is_text_char q) false refl

pub all_more : (p : ℕ → Bool) (cs : List ℕ) (c : ℕ) → list_all p cs ≡ true → p c ≡ true → list_all p (cs ++ (c ∷ [])) ≡ true
all_more p [] c h i = and_from (p c) true i refl
all_more p (d ∷ cs) c h i = let both = and_parts (p d) (list_all p cs) h in and_from (p d) _ both.0 (all_more p cs c both.1 i)

pub all_append : (p : ℕ → Bool) (a b : List ℕ) → list_all p a ≡ true → list_all p b ≡ true → list_all p (a ++ b) ≡ true
all_append p [] b h i = i
all_append p (d ∷ a) b h i = let both = and_parts (p d) (list_all p a) h in and_from (p d) _ both.0 (all_append p a b both.1 i)

pub name_more : (n : List ℕ) (c : ℕ) → is_name n ≡ true → is_part_char c ≡ true → is_name (n ++ (c ∷ [])) ≡ true
name_more [] c h i = absurd (false≢true h)
name_more (d ∷ cs) c h i = let both = and_parts (is_start_char d) (list_all is_part_char cs) h in and_from (is_start_char d) _ both.0 (all_more is_part_char cs c both.1 i)

pub name_append : (m r : List ℕ) → is_name m ≡ true → list_all is_part_char r ≡ true → is_name (m ++ r) ≡ true
name_append [] r h i = absurd (false≢true h)
name_append (d ∷ m) r h i = let both = and_parts (is_start_char d) (list_all is_part_char m) h in and_from (is_start_char d) _ both.0 (all_append is_part_char m r both.1 i)

pub blank_more : (sp : List ℕ) (c : ℕ) → is_blank_text sp ≡ true → is_white c ≡ true → is_blank_text (sp ++ (c ∷ [])) ≡ true
blank_more sp c h i = all_more is_white sp c h i

pub gap_blank : (g : List ℕ) → is_gap g ≡ true → is_blank_text g ≡ true
gap_blank [] h = absurd (false≢true h)
gap_blank (c ∷ g) h = h

pub gap_more : (g : List ℕ) (c : ℕ) → is_blank_text g ≡ true → is_white c ≡ true → is_gap (g ++ (c ∷ [])) ≡ true
gap_more [] c h i = and_from (is_white c) _ i refl
gap_more (d ∷ g) c h i = all_more is_white (d ∷ g) c h i

pub same_is : (m n : List ℕ) → bytes_eq m n ≡ true → m ≡ n
same_is [] [] h = refl
same_is (a ∷ m) (b ∷ n) h =
    let both = and_parts (eqb a b) (bytes_eq m n) h in
    ap (λ c. c ∷ m) (eqb-true a b both.0) ∙ ap (λ l. b ∷ l) (same_is m n both.1)
same_is [] (b ∷ n) h = absurd (false≢true h)
same_is (a ∷ m) [] h = absurd (false≢true h)

pub same_self : (m : List ℕ) → bytes_eq m m ≡ true
same_self [] = refl
same_self (a ∷ m) = and_from (eqb a a) _ (eq-eqb a a refl) (same_self m)
