-- A line is determined by its text: the text is a sign and words, each behind a space, and no word has a space or a line end.
use Rattle.std.proofs.Common.{◌≡◌, ℕ, ◌+◌, ◌<◌, ◌≤◌, ◌^◌, ◌%◌, true, false, List, [], ◌∷◌, ◌++◌, get_or, map, refl, sym, ◌∙◌, ap, subst, inl, inr, ◌⊎◌, arith, append_assoc}
use Rattle.std.specs.List.{flat_map, list_all}
use Rattle.std.specs.Fmt.{decimal}
use lib.Utf8.{encode, encodes}
use Rattle.std.proofs.lemmas.List.{append-nil}
use Rattle.std.proofs.lemmas.Bool.{and_parts, and_from, or_left, false≢true}
use Rattle.std.proofs.lemmas.Str.{inside_one}
use Rattle.std.proofs.lemmas.Fmt.{decimal_injective, decimal_by_steps}
use Rattle.gcx_base.specs.Characters.{is_start_char, is_part_char}
use Rattle.gcx_base.specs.Name.{is_name, IsNameBytes}
use Rattle.gcx_model.specs.Members.{In}
use Rattle.gcx_model.specs.Demand.{LineKind, DocumentNode, ElementNode, TextNode, Line, Opened, Closed, Written, SignedOff, Left, kind_text, number_text, line_text, text_of_lines}
use Rattle.base_laws.proofs.Members.{place_of, list_all_at}
use Rattle.tree_laws.specs.LineTexts.{IsKind, IsPlain, LineByText, LinesByText}
use Rattle.tree_laws.proofs.Lists.{In-append}

-- the byte doesn't stand in the text
abbrev Free : ℕ → List ℕ → Type 0
Free b w = In b w → ⊥

-- the text is over, or goes on with the byte
abbrev Stops : ℕ → List ℕ → Type 0
Stops b r = (r ≡ []) ⊎ ((rest : List ℕ) × (r ≡ b ∷ rest))

cut_same : (b : ℕ) (u v r t : List ℕ) → Free b u → Free b v → Stops b r → Stops b t → u ++ r ≡ v ++ t → (u ≡ v) × (r ≡ t)
cut_same b [] [] r t fu fv sr st e = (refl, e)
cut_same b [] (y ∷ v) r t fu fv sr st e = elim sr [
  | inl n ↦ absurd (cc)
  | inr s ↦ (let h : y ≡ b = cc in absurd (fv (inl h)))
]
cut_same b (x ∷ u) [] r t fu fv sr st e = elim st [
  | inl n ↦ absurd (cc)
  | inr s ↦ (let h : x ≡ b = cc in absurd (fu (inl h)))
]
cut_same b (x ∷ u) (y ∷ v) r t fu fv sr st e =
    let h : x ≡ y = cc in
    let rest : u ++ r ≡ v ++ t = cc in
    let q = cut_same b u v r t (λ i. fu (inr i)) (λ i. fv (inr i)) sr st rest in
    (ap (λ (z : ℕ). z ∷ u) h ∙ ap (λ z. y ∷ z) q.0, q.1)

-- words, each behind a space
abbrev spaced : List (List ℕ) → List ℕ
spaced [] = []
spaced (w ∷ ws) = 32 ∷ (w ++ spaced ws)

abbrev AllFree : ℕ → List (List ℕ) → Type 0
AllFree b [] = Unit {0}
AllFree b (w ∷ ws) = Free b w × AllFree b ws

spaced_stops : (ws : List (List ℕ)) → Stops 32 (spaced ws)
spaced_stops [] = inl refl
spaced_stops (w ∷ ws) = inr (w ++ spaced ws, refl)

words_same : (xs ys : List (List ℕ)) → AllFree 32 xs → AllFree 32 ys → spaced xs ≡ spaced ys → xs ≡ ys
words_same [] [] f g e = refl
words_same [] (y ∷ ys) f g e = absurd (cc)
words_same (x ∷ xs) [] f g e = absurd (cc)
words_same (x ∷ xs) (y ∷ ys) f g e =
    let h : x ++ spaced xs ≡ y ++ spaced ys = cc in
    let q = cut_same 32 x y (spaced xs) (spaced ys) f.0 g.0 (spaced_stops xs) (spaced_stops ys) h in
    ap (λ z. z ∷ xs) q.0 ∙ ap (λ z. y ∷ z) (words_same xs ys f.1 g.1 q.1)

free_append : (b : ℕ) (u v : List ℕ) → Free b u → Free b v → Free b (u ++ v)
free_append b u v f g i = elim (In-append b u v i) [ inl j ↦ f j | inr j ↦ g j ]

spaced_free : (b : ℕ) (ws : List (List ℕ)) → (32 ≡ b → ⊥) → AllFree b ws → Free b (spaced ws)
spaced_free b [] n f i = i
spaced_free b (w ∷ ws) n f (inl e) = n e
spaced_free b (w ∷ ws) n f (inr i) = free_append b w (spaced ws) f.0 (spaced_free b ws n f.1) i

-- numbers

decimal_free : (b n : ℕ) → b < 48 → n < 2 ^ 64 → Free b (decimal n)
decimal_free b n l m = decimal_by_steps (λ k ds. Free b ds) one more n m
  where
    one : (k : ℕ) → k < 10 → Free b ((48 + k) ∷ [])
    one k h (inl e) = omega arith
    one k h (inr i) = i

    more : (k : ℕ) (ds : List ℕ) → 10 ≤ k → Free b ds → Free b (ds ++ (48 + k % 10) ∷ [])
    more k ds h f = free_append b ds ((48 + k % 10) ∷ []) f (λ i. elim i [ inl e ↦ (let r : 48 + k % 10 ≡ b = e in omega arith) | inr j ↦ j ])

-- names

-- a byte below 128 of a text is a character of it
char_in : (b : ℕ) (cs : List ℕ) → b < 128 → In b (encodes cs) → In b cs
char_in b [] l i = i
char_in b (c ∷ cs) l i = elim (In-append b (encode c) (encodes cs) i) [
  | inl j ↦ (let r = place_of b (encode c) j in
      let small : get_or (encode c) r.0 0 < 128 = subst (λ (z : ℕ). z < 128) (sym r.2) l in
      inl (inside_one c [] (encode c) r.0 (sym (append-nil (encode c))) r.1 small ∙ r.2))
  | inr j ↦ inr (char_in b cs l j)
]

pub all_parts : (cs : List ℕ) → is_name cs ≡ true → list_all is_part_char cs ≡ true
all_parts [] h = absurd (false≢true h)
all_parts (c ∷ cs) h = let a = and_parts (is_start_char c) (list_all is_part_char cs) h in and_from _ _ (or_left (is_start_char c) _ a.0) a.1

name_free : (b : ℕ) (name : List ℕ) → b < 128 → is_part_char b ≡ false → IsNameBytes name → Free b name
name_free b name l h n i =
    let j = char_in b n.chars l (subst (λ (z : List ℕ). In b z) (sym n.parts) i) in
    false≢true (sym h ∙ list_all_at is_part_char b n.chars (all_parts n.chars n.name) j)

-- lines

abbrev sign : Line → ℕ
sign (Opened s k roles) = 43
sign (Closed s) = 45
sign (Written n) = 119
sign (SignedOff m r) = 111
sign (Left s) = 120

abbrev words : Line → List (List ℕ)
words (Opened s k roles) = decimal s ∷ kind_text k ∷ map decimal roles
words (Closed s) = decimal s ∷ []
words (Written n) = decimal n ∷ []
words (SignedOff m r) = decimal m ∷ decimal r ∷ []
words (Left s) = decimal s ∷ []

roles_spaced : (roles : List ℕ) → flat_map number_text roles ≡ spaced (map decimal roles)
roles_spaced [] = refl
roles_spaced (r ∷ roles) = ap (λ z. 32 ∷ (decimal r ++ z)) (roles_spaced roles)

one_word : (n : ℕ) → 32 ∷ decimal n ≡ spaced (decimal n ∷ [])
one_word n = ap (λ z. 32 ∷ z) (sym (append-nil (decimal n)))

text_is : (l : Line) → line_text l ≡ sign l ∷ spaced (words l)
text_is (Opened s k roles) = ap (λ z. 43 ∷ (32 ∷ (decimal s ++ (32 ∷ (kind_text k ++ z))))) (roles_spaced roles)
text_is (Closed s) = ap (λ z. 45 ∷ z) (one_word s)
text_is (Written n) = ap (λ z. 119 ∷ z) (one_word n)
text_is (SignedOff m r) = ap (λ z. 111 ∷ (32 ∷ (decimal m ++ z))) (one_word r)
text_is (Left s) = ap (λ z. 120 ∷ z) (one_word s)

-- a byte that no word has
record Outside (b : ℕ) : Type 0 where
  low : b < 48
  part : is_part_char b ≡ false
  slash : 47 ≡ b → ⊥
  hash : 35 ≡ b → ⊥

space : Outside 32
space = record { low = omega arith; part = refl; slash = λ e. omega arith; hash = λ e. omega arith }

line_end : Outside 10
line_end = record { low = omega arith; part = refl; slash = λ e. omega arith; hash = λ e. omega arith }

kind_free : (b : ℕ) → Outside b → (k : LineKind) → IsKind k → Free b (kind_text k)
kind_free b o DocumentNode h (inl e) = o.slash e
kind_free b o DocumentNode h (inr i) = i
kind_free b o (ElementNode name) h i = let l = o.low in name_free b name (omega arith) o.part h i
kind_free b o TextNode h (inl e) = o.hash e
kind_free b o TextNode h (inr i) = i

roles_free : (b : ℕ) → Outside b → (roles : List ℕ) → ((r : ℕ) → In r roles → r < 2 ^ 64) → AllFree b (map decimal roles)
roles_free b o [] h = tt
roles_free b o (r ∷ roles) h = (decimal_free b r o.low (h r (inl refl)), roles_free b o roles (λ q i. h q (inr i)))

words_free : (b : ℕ) → Outside b → (l : Line) → IsPlain l → AllFree b (words l)
words_free b o (Opened s k roles) h = (decimal_free b s o.low h.0, (kind_free b o k h.1, roles_free b o roles h.2))
words_free b o (Closed s) h = (decimal_free b s o.low h, tt)
words_free b o (Written n) h = (decimal_free b n o.low h, tt)
words_free b o (SignedOff m r) h = (decimal_free b m o.low h.0, (decimal_free b r o.low h.1, tt))
words_free b o (Left s) h = (decimal_free b s o.low h, tt)

one_byte : (a b : ℕ) → a ∷ [] ≡ b ∷ [] → a ≡ b
one_byte a b e = cc

kind_same : (k j : LineKind) → IsKind k → IsKind j → kind_text k ≡ kind_text j → k ≡ j
kind_same DocumentNode DocumentNode h g e = refl
kind_same (ElementNode n) (ElementNode m) h g e = ap ElementNode e
kind_same TextNode TextNode h g e = refl
kind_same DocumentNode (ElementNode m) h g e = absurd (name_free 47 m (omega arith) refl g (subst (λ (z : List ℕ). In 47 z) e (inl refl)))
kind_same (ElementNode n) DocumentNode h g e = absurd (name_free 47 n (omega arith) refl h (subst (λ (z : List ℕ). In 47 z) (sym e) (inl refl)))
kind_same TextNode (ElementNode m) h g e = absurd (name_free 35 m (omega arith) refl g (subst (λ (z : List ℕ). In 35 z) e (inl refl)))
kind_same (ElementNode n) TextNode h g e = absurd (name_free 35 n (omega arith) refl h (subst (λ (z : List ℕ). In 35 z) (sym e) (inl refl)))
kind_same DocumentNode TextNode h g e = let f = one_byte 47 35 e in absurd (omega arith)
kind_same TextNode DocumentNode h g e = let f = one_byte 35 47 e in absurd (omega arith)

roles_same : (rs qs : List ℕ) → ((r : ℕ) → In r rs → r < 2 ^ 64) → ((q : ℕ) → In q qs → q < 2 ^ 64) → map decimal rs ≡ map decimal qs → rs ≡ qs
roles_same [] [] h g e = refl
roles_same [] (q ∷ qs) h g e = absurd (cc)
roles_same (r ∷ rs) [] h g e = absurd (cc)
roles_same (r ∷ rs) (q ∷ qs) h g e =
    let a : decimal r ≡ decimal q = cc in
    let b : map decimal rs ≡ map decimal qs = cc in
    ap (λ (z : ℕ). z ∷ rs) (decimal_injective r q (h r (inl refl)) (g q (inl refl)) a) ∙ ap (λ z. q ∷ z) (roles_same rs qs (λ x i. h x (inr i)) (λ x i. g x (inr i)) b)

by_words : (l m : Line) → IsPlain l → IsPlain m → sign l ≡ sign m → words l ≡ words m → l ≡ m
by_words (Opened s k roles) (Opened t j others) h g e w =
    let a : decimal s ≡ decimal t = cc in
    let b : kind_text k ≡ kind_text j = cc in
    let c : map decimal roles ≡ map decimal others = cc in
    ap (λ (z : ℕ). Opened z k roles) (decimal_injective s t h.0 g.0 a) ∙ (ap (λ (z : LineKind). Opened t z roles) (kind_same k j h.1 g.1 b) ∙ ap (Opened t j) (roles_same roles others h.2 g.2 c))
by_words (Closed s) (Closed t) h g e w = let a : decimal s ≡ decimal t = cc in ap Closed (decimal_injective s t h g a)
by_words (Written s) (Written t) h g e w = let a : decimal s ≡ decimal t = cc in ap Written (decimal_injective s t h g a)
by_words (SignedOff m r) (SignedOff n q) h g e w =
    let a : decimal m ≡ decimal n = cc in
    let b : decimal r ≡ decimal q = cc in
    ap (λ (z : ℕ). SignedOff z r) (decimal_injective m n h.0 g.0 a) ∙ ap (SignedOff n) (decimal_injective r q h.1 g.1 b)
by_words (Left s) (Left t) h g e w = let a : decimal s ≡ decimal t = cc in ap Left (decimal_injective s t h g a)
by_words l m h g e w = absurd (omega arith)

pub line_by_text : LineByText
line_by_text l m h g e =
    let f : sign l ∷ spaced (words l) ≡ sign m ∷ spaced (words m) = sym (text_is l) ∙ (e ∙ text_is m) in
    let s : sign l ≡ sign m = cc in
    let w : spaced (words l) ≡ spaced (words m) = cc in
    by_words l m h g s (words_same (words l) (words m) (words_free 32 space l h) (words_free 32 space m g) w)

sign_not_end : (l : Line) → sign l ≡ 10 → ⊥
sign_not_end (Opened s k roles) e = omega arith
sign_not_end (Closed s) e = omega arith
sign_not_end (Written n) e = omega arith
sign_not_end (SignedOff m r) e = omega arith
sign_not_end (Left s) e = omega arith

pub text_free : (l : Line) → IsPlain l → Free 10 (line_text l)
text_free l h i = elim (subst (λ (z : List ℕ). In 10 z) (text_is l) i) [
  | inl e ↦ sign_not_end l e
  | inr j ↦ spaced_free 10 (words l) (λ e. omega arith) (words_free 10 line_end l h) j
]

some_text : (u r : List ℕ) → [] ≡ (u ++ 10 ∷ []) ++ r → ⊥
some_text [] r e = cc
some_text (x ∷ u) r e = cc

pub lines_by_text : LinesByText
lines_by_text [] [] h g e = refl
lines_by_text [] (m ∷ ms) h g e = absurd (some_text (line_text m) (text_of_lines ms) e)
lines_by_text (l ∷ ls) [] h g e = absurd (some_text (line_text l) (text_of_lines ls) (sym e))
lines_by_text (l ∷ ls) (m ∷ ms) h g e =
    let f : line_text l ++ 10 ∷ text_of_lines ls ≡ line_text m ++ 10 ∷ text_of_lines ms = sym (append_assoc (line_text l) (10 ∷ []) (text_of_lines ls)) ∙ (e ∙ append_assoc (line_text m) (10 ∷ []) (text_of_lines ms)) in
    let q = cut_same 10 (line_text l) (line_text m) (10 ∷ text_of_lines ls) (10 ∷ text_of_lines ms) (text_free l (h l (inl refl))) (text_free m (g m (inl refl))) (inr (text_of_lines ls, refl)) (inr (text_of_lines ms, refl)) f in
    let rest : text_of_lines ls ≡ text_of_lines ms = cc in
    ap (λ (z : Line). z ∷ ls) (line_by_text l m (h l (inl refl)) (g m (inl refl)) q.0) ∙ ap (λ z. m ∷ z) (lines_by_text ls ms (λ a i. h a (inr i)) (λ a i. g a (inr i)) rest)
