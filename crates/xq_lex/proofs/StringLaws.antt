-- A text begins with one string at most, and reading it part by part finds it.
use Rattle.std.proofs.Common.{ℕ, ◌≡◌, ◌==◌, true, false, List, [], ◌∷◌, ◌++◌, refl, sym, ap, ◌∙◌, subst, eq-eqb}
use Rattle.std.proofs.lemmas.Bool.{true≢false, false≢true}
use Rattle.base_laws.proofs.Lists.{cons_head, cons_tail}
use Rattle.xq_lex.specs.Sign.{begins}
use Rattle.xq_lex.specs.Strings.{Part, plain, doubled, reference, is_quote, part_chars, IsPart, part_value, parts_chars, AreParts, parts_value, BeginsWithNoPart, HasString}
use Rattle.xq_lex.proofs.ReferenceLaws.{reference_same}

differ : {X : Type 0} (c d : ℕ) (x y : List ℕ) → (c == d) ≡ false → c ∷ x ≡ d ∷ y → X
differ c d x y n e = absurd (true≢false (sym (eq-eqb c d (cons_head c d x y e)) ∙ n))

not_ampersand : {X : Type 0} (q : ℕ) (x y : List ℕ) → is_quote q ≡ true → q ∷ x ≡ 38 ∷ y → X
not_ampersand q x y h e = absurd (false≢true (subst (λ (c : ℕ). is_quote c ≡ true) (cons_head q 38 x y e) h))

pub record SamePart (p s : Part) (x y : List ℕ) : Type 0 where
  pub part : p ≡ s
  pub rest : x ≡ y

part_same : (q : ℕ) (p s : Part) (x y : List ℕ) → is_quote q ≡ true → IsPart q p → IsPart q s → part_chars q p x ≡ part_chars q s y → SamePart p s x y
part_same q (plain c) (plain d) x y h g k e = record { part = ap plain (cons_head c d x y e); rest = cons_tail c d x y e }
part_same q (plain c) doubled x y h g k e = differ c q x (q ∷ y) g.1 e
part_same q (plain c) (reference t d) x y h g k e = differ c 38 x (t ++ y) g.2 e
part_same q doubled (plain d) x y h g k e = differ d q y (q ∷ x) k.1 (sym e)
part_same q doubled doubled x y h g k e = record { part = refl; rest = cons_tail q q x y (cons_tail q q (q ∷ x) (q ∷ y) e) }
part_same q doubled (reference t d) x y h g k e = not_ampersand q (q ∷ x) (t ++ y) h e
part_same q (reference t c) (plain d) x y h g k e = differ d 38 y (t ++ x) k.2 (sym e)
part_same q (reference t c) doubled x y h g k e = not_ampersand q (q ∷ y) (t ++ x) h (sym e)
part_same q (reference t c) (reference s d) x y h g k e =
    let same : (t ≡ s) × (c ≡ d) × (x ≡ y) = reference_same t s c d x y g k (cons_tail 38 38 (t ++ x) (s ++ y) e) in
    record { part = cc (same.0, same.1); rest = same.2 }

-- a single delimiter begins no part
delimiter : {X : Type 0} (q : ℕ) (p : Part) (x rest : List ℕ) → is_quote q ≡ true → IsPart q p → begins q rest ≡ false → part_chars q p x ≡ q ∷ rest → X
delimiter q (plain c) x rest h g b e = differ c q x rest g.1 e
delimiter q doubled x rest h g b e =
    let next : q ∷ x ≡ rest = cons_tail q q (q ∷ x) rest e in
    absurd (false≢true (sym b ∙ (ap (begins q) (sym next) ∙ eq-eqb q q refl)))
delimiter q (reference t c) x rest h g b e = not_ampersand q rest (t ++ x) h (sym e)

pub record SameParts (ps ss : List Part) (x y : List ℕ) : Type 0 where
  pub parts : ps ≡ ss
  pub rest : x ≡ y

-- parts that go on to no part are all that a string of the text has
pub parts_only : (q : ℕ) (ps ss : List Part) (x rest : List ℕ) → is_quote q ≡ true → AreParts q ps → BeginsWithNoPart q x → AreParts q ss → begins q rest ≡ false →
    parts_chars q ps x ≡ parts_chars q ss (q ∷ rest) → SameParts ps ss x (q ∷ rest)
parts_only q [] [] x rest h g n k b e = record { parts = refl; rest = e }
parts_only q [] (s ∷ ss) x rest h g n k b e = absurd (n s (parts_chars q ss (q ∷ rest)) k.0 e)
parts_only q (p ∷ ps) [] x rest h g n k b e = delimiter q p (parts_chars q ps x) rest h g.0 b e
parts_only q (p ∷ ps) (s ∷ ss) x rest h g n k b e =
    let one : SamePart p s (parts_chars q ps x) (parts_chars q ss (q ∷ rest)) = part_same q p s _ _ h g.0 k.0 e in
    let more : SameParts ps ss x (q ∷ rest) = parts_only q ps ss x rest h g.1 n k.1 b one.rest in
    let first : p ≡ s = one.part in
    let others : ps ≡ ss = more.parts in
    record { parts = cc (first, others); rest = more.rest }

pub no_part : (q : ℕ) (rest : List ℕ) → is_quote q ≡ true → begins q rest ≡ false → BeginsWithNoPart q (q ∷ rest)
no_part q rest h b p x g e = delimiter q p x rest h g b (sym e)

-- two strings of one text are one
pub string_same : (q : ℕ) (text : List ℕ) (ps ss : List Part) (x y : List ℕ) → is_quote q ≡ true → HasString q text ps x → HasString q text ss y → SameParts ps ss (q ∷ x) (q ∷ y)
string_same q text ps ss x y h a b = parts_only q ps ss (q ∷ x) y h a.good (no_part q x h a.single) b.good b.single (sym a.chars ∙ b.chars)

-- What is read of a string: these parts, of which the value so far is made.
pub record ReadsParts (quote : ℕ) (text : List ℕ) (parts : List Part) (rest : List ℕ) : Type 0 where
  pub good : AreParts quote parts
  pub chars : text ≡ parts_chars quote parts rest

good-append : (q : ℕ) (ps : List Part) (p : Part) → AreParts q ps → IsPart q p → AreParts q (ps ++ p ∷ [])
good-append q [] p g h = (h, tt)
good-append q (s ∷ ps) p g h = (g.0, good-append q ps p g.1 h)

chars-append : (q : ℕ) (ps : List Part) (p : Part) (rest : List ℕ) → parts_chars q (ps ++ p ∷ []) rest ≡ parts_chars q ps (part_chars q p rest)
chars-append q [] p rest = refl
chars-append q (s ∷ ps) p rest = ap (λ (x : List ℕ). part_chars q s x) (chars-append q ps p rest)

pub value-append : (q : ℕ) (ps : List Part) (p : Part) → parts_value q (ps ++ p ∷ []) ≡ parts_value q ps ++ part_value q p ∷ []
value-append q [] p = refl
value-append q (s ∷ ps) p = ap (λ (x : List ℕ). part_value q s ∷ x) (value-append q ps p)

pub reads_more : (q : ℕ) (text : List ℕ) (ps : List Part) (p : Part) (middle rest : List ℕ) → ReadsParts q text ps middle → IsPart q p → middle ≡ part_chars q p rest → ReadsParts q text (ps ++ p ∷ []) rest
reads_more q text ps p middle rest r g e = record {
  good = good-append q ps p r.good g;
  chars = r.chars ∙ (ap (λ (x : List ℕ). parts_chars q ps x) e ∙ sym (chars-append q ps p rest));
}
