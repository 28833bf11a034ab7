-- A reader whose tokens are owned, over one whose tokens are lent.
use Rattle.std.proofs.Common.{ℕ, zero, suc, ◌≡◌, ◌+◌, ◌<◌, Bool, List, [], ◌∷◌, ◌++◌, length, take, get_or, map, Option, Some, None, refl, sym, ap, ◌∙◌, subst, append_assoc, append-nil, take_at, arith}
use Rattle.std.proofs.lemmas.List.{take_more, length-map, map-append as maps_append}
use Rattle.gcx_base.specs.declared.limits.Limits.{Limits}
use Rattle.gcx_model.specs.Tree.{TreeToken as Said}
use Rattle.doc_tokens.specs.declared.token.Token.{Token}
use Rattle.doc_tokens.specs.declared.lent.Lent.{Lent}
use Rattle.doc_tokens.specs.Parts.{lent_token, LiesWithin, AllLieWithin, AreLent}
use Rattle.doc_reader.specs.Standing.{ReaderView, end_token, waiting, Takes, taken, Stands, with_tokens, given_token, said_of}
use Rattle.doc_reader.specs.Owned.{with_owned}
use Rattle.doc_reader.proofs.Givings.{map-append, said-map, said-append}
use Rattle.doc_reader.proofs.Standings.{stands_taken, stands_put}

-- ---- what it stands for

-- the tokens that are owned were given of the reader below
pub under : (h : ReaderView) (waits : List Said) (lim : Limits) (b : List ℕ) (ended : Bool) (given : List Token) → Stands (with_owned waits h) lim b ended given → Stands h lim b ended (given ++ map given_token waits)
under h waits lim b ended given s = stands_taken (with_owned waits h) waits h.state.tokens refl lim b given ended s

pub over : (h : ReaderView) (waits : List Said) (lim : Limits) (b : List ℕ) (ended : Bool) (given : List Token) → Stands h lim b ended (given ++ map given_token waits) → Stands (with_owned waits h) lim b ended given
over h waits lim b ended given s = stands_put h waits lim b given ended s

-- tokens that were lent are owned
pub owned_same : (h : ReaderView) (waits more : List Said) → more ≡ waits ++ h.state.tokens → with_owned more (with_tokens h []) ≡ with_owned waits h
owned_same h waits more e = ap (with_tokens h) (append-nil more ∙ e)

pub said_more : (old new : List Token) (ts : List Said) → new ≡ old ++ map given_token ts → map said_of new ≡ map said_of old ++ ts
said_more old new ts e = ap (map said_of) e ∙ said-append old (map given_token ts) ∙ ap (λ l. map said_of old ++ l) (said-map ts)

pub given_more : (old new : List Token) (ts : List Said) → map given_token (map said_of old) ≡ old → new ≡ old ++ map given_token ts → map given_token (map said_of new) ≡ new
given_more old new ts o e = ap (map given_token) (said_more old new ts e) ∙ map-append (map said_of old) ts ∙ ap (λ l. l ++ map given_token ts) o ∙ sym e

-- ---- what waits

pub waiting_owned : (h : ReaderView) (waits : List Said) → waiting (with_owned waits h) ≡ map given_token waits ++ waiting h
waiting_owned h waits = ap (λ l. l ++ end_token h.end_waits) (map-append waits h.state.tokens) ∙ append_assoc (map given_token waits) (map given_token h.state.tokens) (end_token h.end_waits)

pub none_waits : (ts : List Said) (last : List Token) → map given_token ts ++ last ≡ [] → ts ≡ []
none_waits [] last e = refl
none_waits (t ∷ ts) last e = absurd (some (given_token t) (map given_token ts ++ last) e)
  where
    some : (t : Token) (l : List Token) → t ∷ l ≡ [] → ⊥
    some t l e = cc

-- neither owned nor lent
pub none_left : (h : ReaderView) (items : List Token) → items ≡ [] → h.state.tokens ≡ [] → waiting (with_owned (map said_of items) h) ≡ end_token h.end_waits
none_left h items e none = waiting_owned h (map said_of items) ∙ (λ i. map given_token (map said_of (e i)) ++ (map given_token (none i) ++ end_token h.end_waits))

-- the end of the document is taken where it waits, and no other token does
pub takes_end : (o : Option Token) (old new : List Token) (w : Bool) → taken o ≡ end_token w → old ≡ end_token w → new ≡ [] → Takes o old new
takes_end None old new w t e n = (e ∙ sym t, n)
takes_end (Some t) old new w s e n = e ∙ sym s ∙ ap (λ l. t ∷ l) (sym n)

-- ---- the first token that is owned is taken

pub same_parts : (t u : Token) (l m : List Token) → t ∷ l ≡ u ∷ m → (t ≡ u) × (l ≡ m)
same_parts t u l m e = (cc, cc)

pub first_owned : (items rest : List Token) (t : Token) → map given_token (map said_of items) ≡ items → items ≡ t ∷ rest → (given_token (said_of t) ≡ t) × (map given_token (map said_of rest) ≡ rest)
first_owned items rest t o e =
    same_parts (given_token (said_of t)) t (map given_token (map said_of rest)) rest (subst (λ l. map given_token (map said_of l) ≡ l) e o)

pub waits_first : (h : ReaderView) (items rest : List Token) (t : Token) → map given_token (map said_of items) ≡ items → items ≡ t ∷ rest → waiting (with_owned (map said_of items) h) ≡ t ∷ waiting (with_owned (map said_of rest) h)
waits_first h items rest t o e =
    waiting_owned h (map said_of items)
    ∙ ap (λ l. l ++ waiting h) (o ∙ e)
    ∙ ap (λ l. t ∷ (l ++ waiting h)) (sym (first_owned items rest t o e).1)
    ∙ ap (λ l. t ∷ l) (sym (waiting_owned h (map said_of rest)))

pub stands_first : (h : ReaderView) (items rest : List Token) (t : Token) (lim : Limits) (b : List ℕ) (ended : Bool) (given : List Token) → map given_token (map said_of items) ≡ items → items ≡ t ∷ rest → Stands (with_owned (map said_of items) h) lim b ended given → Stands (with_owned (map said_of rest) h) lim b ended (given ++ (t ∷ []))
stands_first h items rest t lim b ended given o e s =
    let one = said_of t ∷ map said_of rest in
    let now = subst (λ l. Stands (with_owned (map said_of l) h) lim b ended given) e s in
    subst (λ u. Stands (with_owned (map said_of rest) h) lim b ended (given ++ (u ∷ []))) (first_owned items rest t o e).0
    (stands_taken (with_owned one h) (said_of t ∷ []) (map said_of rest ++ h.state.tokens) refl lim b given ended now)

-- ---- tokens made of those that are lent

pub as_many : (lent : List Lent) (bytes : List ℕ) (tokens : List Said) → AreLent lent bytes tokens → length tokens ≡ length lent
as_many lent bytes tokens a = ap length (sym a.tokens_are) ∙ length-map lent (lent_token bytes)

pub part_at : (high : ℕ) (bytes : List ℕ) (lent : List Lent) (i : ℕ) (d : Lent) → AllLieWithin 0 high bytes lent → i < length lent → LiesWithin 0 high bytes (get_or lent i d)
part_at high bytes [] i d p l = absurd (omega arith)
part_at high bytes (x ∷ lent) zero d p l = p.0
part_at high bytes (x ∷ lent) (suc i) d p l = part_at high bytes lent i d p.1 (omega arith)

pub owned_more : (bytes : List ℕ) (lent : List Lent) (i : ℕ) (d : Lent) (old mid new : List Token) → i < length lent → mid ≡ old ++ map given_token (map (lent_token bytes) (take i lent)) → new ≡ mid ++ (given_token (lent_token bytes (get_or lent i d)) ∷ [])
    → new ≡ old ++ map given_token (map (lent_token bytes) (take (i + 1) lent))
owned_more bytes lent i d old mid new l m n =
    let one = lent_token bytes (get_or lent i d) in
    let front = map (lent_token bytes) (take i lent) in
    let next : map given_token (map (lent_token bytes) (take (i + 1) lent)) ≡ map given_token front ++ (given_token one ∷ []) =
    ap (λ ts. map given_token (map (lent_token bytes) ts)) (take_more lent i d l) ∙ ap (map given_token) (maps_append (lent_token bytes) (take i lent) (get_or lent i d ∷ [])) ∙ map-append front (one ∷ []) in
    n ∙ ap (λ ts. ts ++ (given_token one ∷ [])) m ∙ append_assoc old (map given_token front) (given_token one ∷ []) ∙ ap (λ ts. old ++ ts) (sym next)

pub front_kept : (old new more : List Token) → new ≡ old ++ more → take (length old) new ≡ old
front_kept old new more e = ap (take (length old)) e ∙ take_at old more (length old) refl
