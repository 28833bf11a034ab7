-- What is lent next, and the reader behind so many of it.
use Rattle.std.proofs.Common.{ℕ, zero, suc, ◌≡◌, ◌≤◌, ◌<◌, Bool, true, false, List, [], ◌∷◌, ◌++◌, length, take, drop, map, refl, sym, ap, ◌∙◌, subst, append_assoc, append-nil, eqb, arith}
use Rattle.std.proofs.lemmas.Bool.{eqb-true, true≢false}
use Rattle.std.proofs.lemmas.List.{drop_all, length-map, take-append-drop, take-map, take_all}
use Rattle.gcx_base.specs.declared.limits.Limits.{Limits}
use Rattle.gcx_model.specs.Tree.{TreeToken as Said}
use Rattle.doc_tokens.specs.declared.token.Token.{Token}
use Rattle.doc_tokens.specs.declared.token.Token.TheVariants.{EndOfDocument}
use Rattle.doc_tokens.specs.declared.lent.Lent.{Lent}
use Rattle.doc_tokens.specs.declared.lent.Lent.TheVariants as lents
use Rattle.doc_tokens.specs.Parts.{AreLent}
use Rattle.doc_reader.specs.Standing.{KeepsAnswer, ReaderView, Stands, answer_of, behind_lent, behind_tokens, end_token, given_token, lent_next, lent_of, said_of, waiting, with_tokens}
use Rattle.doc_reader.proofs.Givings.{map-append, said-map}
use Rattle.doc_reader.proofs.Owning.{as_many, same_parts}
use Rattle.doc_reader.proofs.Standings.{stands_ended, stands_taken}

-- ---- what is lent next

-- where no token of a tag waits and the end does, that
pub next_last : (ts : List Said) (ends : Bool) → ts ≡ [] → ends ≡ true → lent_of ts ends ≡ EndOfDocument ∷ []
next_last ts ends none e = (λ i. lent_of (none i) (e i))

-- it is lent as one end tag, and no bytes
pub last_lent : (ts : List Said) (ends : Bool) → ts ≡ [] → ends ≡ true → AreLent (lents.End ∷ []) [] (map said_of (lent_of ts ends))
last_lent ts ends none e =
    subst (λ (us : List Token). AreLent (lents.End ∷ []) [] (map said_of us)) (sym (next_last ts ends none e)) (record { tokens_are = refl; parts = (tt, tt) })

pub tags_lent : (ts : List Said) (us : List Token) (lent : List Lent) (bytes : List ℕ) → us ≡ map given_token ts → AreLent lent bytes ts → AreLent lent bytes (map said_of us)
tags_lent ts us lent bytes e a = subst (λ (z : List Said). AreLent lent bytes z) (sym (ap (map said_of) e ∙ said-map ts)) a

-- as many tokens as are lent
pub lent_many : (us : List Token) (lent : List Lent) (bytes : List ℕ) → AreLent lent bytes (map said_of us) → length us ≡ length lent
lent_many us lent bytes a = sym (length-map us said_of) ∙ as_many lent bytes (map said_of us) a

pub next_few : (ts : List Said) (us : List Token) (count : ℕ) → us ≡ map given_token ts → count ≤ length us → count ≤ length ts
next_few ts us count e few = subst (λ n. count ≤ n) (ap length e ∙ length-map ts given_token) few

-- whether tokens of tags are lent tells whether they wait
pub no_tags : (ts : List Said) (lent : List Lent) (bytes : List ℕ) → AreLent lent bytes ts → eqb (length lent) 0 ≡ true → ts ≡ []
no_tags ts [] bytes a e = sym a.tokens_are
no_tags ts (x ∷ lent) bytes a e = let none : suc (length lent) ≡ 0 = eqb-true (suc (length lent)) 0 e in absurd (omega arith)

pub some_tags : (ts : List Said) (lent : List Lent) (bytes : List ℕ) → AreLent lent bytes ts → eqb (length lent) 0 ≡ false → 0 < length ts
some_tags ts [] bytes a e = absurd (true≢false e)
some_tags ts (x ∷ lent) bytes a e = let many = as_many (x ∷ lent) bytes ts a in omega arith

-- ---- the reader behind them

behind_as : (h : ReaderView) (ts : List Said) (count : ℕ) → h.state.tokens ≡ ts → behind_lent count h ≡ behind_tokens h ts count
behind_as h ts count e = ap (λ (z : List Said). behind_tokens h z count) e

same_tokens : (h : ReaderView) (ts : List Said) → h.state.tokens ≡ ts → with_tokens h ts ≡ h
same_tokens h ts e = ap (with_tokens h) (sym e)

-- tokens of tags were taken
pub behind_tags : (h : ReaderView) (count : ℕ) → lent_next h ≡ map given_token h.state.tokens → count ≤ length (lent_next h) → behind_lent count h ≡ with_tokens h (drop count h.state.tokens)
behind_tags h count tags few = by h.state.tokens refl (next_few h.state.tokens (lent_next h) count tags few)
  where
    by : (ts : List Said) → h.state.tokens ≡ ts → count ≤ length ts → behind_lent count h ≡ with_tokens h (drop count ts)
    by (t ∷ ts) e few = behind_as h (t ∷ ts) count e
    by [] e few =
        let none : count ≤ 0 = few in
        let zero_is : count ≡ 0 = omega arith in
        behind_as h [] count e ∙ ap (behind_tokens h []) zero_is ∙ sym (same_tokens h [] e) ∙ ap (λ n. with_tokens h (drop n [])) (sym zero_is)

-- the end was taken
pub behind_end : (h : ReaderView) (count : ℕ) → h.state.tokens ≡ [] → 0 < count → behind_lent count h ≡ record h { end_waits = false }
behind_end h zero none some = absurd (omega arith)
behind_end h (suc n) none some = behind_as h [] (suc n) none

-- none was
pub behind_none : (h : ReaderView) (count : ℕ) → h.state.tokens ≡ [] → count ≤ 0 → behind_lent count h ≡ h
behind_none h zero none few = behind_as h [] zero none
behind_none h (suc n) none few = absurd (omega arith)

-- the answer stays
pub behind_keeps : (h : ReaderView) (count : ℕ) → KeepsAnswer h (behind_lent count h)
behind_keeps h count = by h.state.tokens count
  where
    by : (ts : List Said) (n : ℕ) → KeepsAnswer h (behind_tokens h ts n)
    by (t ∷ ts) n = record { finished = refl; answer = refl }
    by [] zero = record { finished = refl; answer = refl }
    by [] (suc n) = record { finished = refl; answer = refl }

-- the first tokens that wait are those
pub behind_waits : (h : ReaderView) (count : ℕ) → count ≤ length (lent_next h) → waiting h ≡ take count (lent_next h) ++ waiting (behind_lent count h)
behind_waits h count few = by h.state.tokens h.end_waits refl refl count few
  where
    by : (ts : List Said) (ends : Bool) → h.state.tokens ≡ ts → h.end_waits ≡ ends → (n : ℕ) → n ≤ length (lent_of ts ends) → map given_token ts ++ end_token ends ≡ take n (lent_of ts ends) ++ waiting (behind_tokens h ts n)
    by (t ∷ ts) ends e w n few =
        let gs = map given_token (t ∷ ts) in
        let rest = map given_token (drop n (t ∷ ts)) in
        let front : map given_token (take n (t ∷ ts)) ++ rest ≡ gs = sym (map-append (take n (t ∷ ts)) (drop n (t ∷ ts))) ∙ ap (map given_token) (take-append-drop n (t ∷ ts)) in
        ap (λ (z : List Token). z ++ end_token ends) (sym front ∙ ap (λ (z : List Token). z ++ rest) (sym (take-map given_token n (t ∷ ts))))
        ∙ append_assoc (take n gs) rest (end_token ends)
        ∙ ap (λ (z : Bool). take n gs ++ (rest ++ end_token z)) (sym w)
    by [] ends e w zero few = (λ i. map given_token (sym e i) ++ end_token (sym w i))
    by [] true e w (suc zero) few = ap (λ (ts : List Said). EndOfDocument ∷ (map given_token ts ++ [])) (sym e)
    by [] true e w (suc (suc n)) few = let one : suc (suc n) ≤ 1 = few in absurd (omega arith)
    by [] false e w (suc n) few = let none : suc n ≤ 0 = few in absurd (omega arith)

-- they were given then
pub behind_stands : (h : ReaderView) (count : ℕ) → count ≤ length (lent_next h) → (lim : Limits) (b : List ℕ) (ended : Bool) (given : List Token) → Stands h lim b ended given → Stands (behind_lent count h) lim b ended (given ++ take count (lent_next h))
behind_stands h count few lim b ended given s = by h.state.tokens h.end_waits refl refl count few
  where
    by : (ts : List Said) (ends : Bool) → h.state.tokens ≡ ts → h.end_waits ≡ ends → (n : ℕ) → n ≤ length (lent_of ts ends) → Stands (behind_tokens h ts n) lim b ended (given ++ take n (lent_of ts ends))
    by (t ∷ ts) ends e w n few =
        subst (λ (z : List Token). Stands (with_tokens h (drop n (t ∷ ts))) lim b ended (given ++ z)) (sym (take-map given_token n (t ∷ ts)))
        (stands_taken h (take n (t ∷ ts)) (drop n (t ∷ ts)) (e ∙ sym (take-append-drop n (t ∷ ts))) lim b given ended s)
    by [] ends e w zero few = subst (λ (z : List Token). Stands h lim b ended z) (sym (append-nil given)) s
    by [] true e w (suc zero) few = subst (λ (z : Bool). Stands (record h { end_waits = false }) lim b ended (given ++ end_token z)) w (stands_ended h lim b ended given e s)
    by [] true e w (suc (suc n)) few = let one : suc (suc n) ≤ 1 = few in absurd (omega arith)
    by [] false e w (suc n) few = let none : suc n ≤ 0 = few in absurd (omega arith)

-- behind all of them no token of a tag waits
pub behind_all : (h : ReaderView) (count : ℕ) → length (lent_next h) ≤ count → (behind_lent count h).state.tokens ≡ []
behind_all h count all = by h.state.tokens h.end_waits refl count all
  where
    by : (ts : List Said) (ends : Bool) → h.state.tokens ≡ ts → (n : ℕ) → length (lent_of ts ends) ≤ n → (behind_tokens h ts n).state.tokens ≡ []
    by (t ∷ ts) ends e n all = let m = length-map (t ∷ ts) given_token in drop_all n (t ∷ ts) (omega arith)
    by [] ends e zero all = e
    by [] ends e (suc n) all = e

-- and nothing, where none waited before
pub behind_last : (h : ReaderView) (count : ℕ) → h.state.tokens ≡ [] → length (lent_next h) ≤ count → waiting (behind_lent count h) ≡ []
behind_last h count none all = ap waiting (behind_as h [] count none) ∙ by h.end_waits refl count (subst (λ (ts : List Said). length (lent_of ts h.end_waits) ≤ count) none all)
  where
    by : (ends : Bool) → h.end_waits ≡ ends → (n : ℕ) → length (end_token ends) ≤ n → waiting (behind_tokens h [] n) ≡ []
    by true w zero all = let one : 1 ≤ 0 = all in absurd (omega arith)
    by false w zero all = (λ i. map given_token (none i) ++ end_token (w i))
    by ends w (suc n) all = ap (λ (ts : List Said). map given_token ts ++ []) none

some_token : (t : Token) (ts : List Token) → t ∷ ts ≡ [] → ⊥
some_token t ts e = cc

-- all of what is lent was given, and the rest waits
pub waits_all : (h : ReaderView) → waiting h ≡ lent_next h ++ waiting (behind_lent (length (lent_next h)) h)
waits_all h =
    let n = length (lent_next h) in
    behind_waits h n (omega arith) ∙ ap (λ (ts : List Token). ts ++ waiting (behind_lent n h)) (take_all n (lent_next h) (omega arith))

pub stands_all : (h : ReaderView) (lim : Limits) (b : List ℕ) (ended : Bool) (given : List Token) → Stands h lim b ended given → Stands (behind_lent (length (lent_next h)) h) lim b ended (given ++ lent_next h)
stands_all h lim b ended given s =
    let n = length (lent_next h) in
    subst (λ (ts : List Token). Stands (behind_lent n h) lim b ended (given ++ ts)) (take_all n (lent_next h) (omega arith)) (behind_stands h n (omega arith) lim b ended given s)

-- where none is lent, none waits
pub none_next : (h : ReaderView) → lent_next h ≡ [] → waiting h ≡ []
none_next h e = by h.state.tokens h.end_waits e
  where
    by : (ts : List Said) (ends : Bool) → lent_of ts ends ≡ [] → map given_token ts ++ end_token ends ≡ []
    by [] ends e = e
    by (t ∷ ts) ends e = absurd (some_token (given_token t) (map given_token ts) e)

-- the first token that waits is lent first
pub one_behind : (h : ReaderView) (t : Token) (ts : List Token) → waiting h ≡ t ∷ ts → (take 1 (lent_next h) ≡ t ∷ []) × (1 ≤ length (lent_next h)) × (waiting (behind_lent 1 h) ≡ ts)
one_behind h t ts e = by (lent_next h) refl
  where
    by : (us : List Token) → lent_next h ≡ us → (take 1 us ≡ t ∷ []) × (1 ≤ length us) × (waiting (behind_lent 1 h) ≡ ts)
    by [] n = absurd (some_token t ts (sym e ∙ none_next h n))
    by (u ∷ us) n =
        let some : 1 ≤ length (u ∷ us) = omega arith in
        let few : 1 ≤ length (lent_next h) = subst (λ (zs : List Token). 1 ≤ length zs) (sym n) some in
        let w : waiting h ≡ u ∷ waiting (behind_lent 1 h) = behind_waits h 1 few ∙ ap (λ (zs : List Token). take 1 zs ++ waiting (behind_lent 1 h)) n in
        let both = same_parts t u ts (waiting (behind_lent 1 h)) (sym e ∙ w) in
        (ap (λ (z : Token). z ∷ []) (sym both.0), some, sym both.1)

pub stands_one : (h : ReaderView) (t : Token) (ts : List Token) → waiting h ≡ t ∷ ts → (lim : Limits) (b : List ℕ) (ended : Bool) (given : List Token) → Stands h lim b ended given → Stands (behind_lent 1 h) lim b ended (given ++ t ∷ [])
stands_one h t ts e lim b ended given s =
    let one = one_behind h t ts e in
    subst (λ (zs : List Token). Stands (behind_lent 1 h) lim b ended (given ++ zs)) one.0 (behind_stands h 1 one.1 lim b ended given s)
