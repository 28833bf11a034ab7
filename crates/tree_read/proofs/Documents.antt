-- A document's tree from the tokens of its reader.
use Rattle.std.proofs.Common.{◌≡◌, ℕ, Bool, true, false, List, [], ◌∷◌, ◌++◌, map, None, refl, sym, ◌∙◌, ap, subst, arith, append_assoc, append-nil}
use Rattle.std.proofs.lemmas.List.{map-append}
use lib.Utf8.{encode}
use Rattle.gcx_base.specs.declared.limits.Limits.{Limits}
use Rattle.gcx_base.specs.Limits.{full_limits}
use Rattle.gcx_base.specs.Utf8.{IsCharFront}
use Rattle.gcx_model.specs.Document.{Nodes, tokens, tree_of}
use Rattle.gcx_model.specs.Tree.{Tree, TreeToken as Said, Start, Chars, End, opening, grow, grow_all}
use Rattle.gcx_model.specs.Faults.{FaultIs, none_yet, within_limit}
use Rattle.gcx_model.specs.declared.fault.DocFault.TheVariants as fault
use Rattle.doc_reader.specs.Standing.{ReaderView, Stands, KeepsAnswer, Accepted, waiting, reader_tokens, given_token, said_of, Token, EndOfDocument}
use Rattle.tree_read.specs.declared.reading.DocumentEnd.TheVariants as end
use Rattle.tree_read.specs.Document.{IsWhole, HasGrown}

-- ---- tokens taken one after another

-- These tokens were taken of a reader, and grew the tree.
pub record HasTaken (old new : ReaderView) (before after : Tree) : Type 0 where
  pub tokens : List Token
  pub waits : waiting old ≡ tokens ++ waiting new
  pub tree_is : after ≡ grow_all (map said_of tokens) before
  pub stands : (lim : Limits) (b : List ℕ) (ended : Bool) (given : List Token) → Stands old lim b ended given → Stands new lim b ended (given ++ tokens)
  pub keeps : KeepsAnswer old new

grow_more : (ts us : List Said) (P : Tree) → grow_all (ts ++ us) P ≡ grow_all us (grow_all ts P)
grow_more [] us P = refl
grow_more (t ∷ ts) us P = grow_more ts us (grow t P)

grown_on : (xs ys : List Token) (P Q R : Tree) → Q ≡ grow_all (map said_of xs) P → R ≡ grow_all (map said_of ys) Q → R ≡ grow_all (map said_of (xs ++ ys)) P
grown_on xs ys P Q R h k = k ∙ ap (grow_all (map said_of ys)) h ∙ sym (grow_more (map said_of xs) (map said_of ys) P) ∙ ap (λ (l : List Said). grow_all l P) (sym (map-append said_of xs ys))

pub taken_on : (a b c : ReaderView) (s t u : Tree) (x : Token) → HasTaken a b s t → waiting b ≡ x ∷ waiting c
    → ((lim : Limits) (bs : List ℕ) (ended : Bool) (given : List Token) → Stands b lim bs ended given → Stands c lim bs ended (given ++ (x ∷ [])))
    → KeepsAnswer b c → u ≡ grow (said_of x) t → HasTaken a c s u
taken_on a b c s t u x h waits on keeps tree = record {
  tokens = h.tokens ++ (x ∷ []);
  waits = h.waits ∙ ap (λ (l : List Token). h.tokens ++ l) waits ∙ sym (append_assoc h.tokens (x ∷ []) (waiting c));
  tree_is = grown_on h.tokens (x ∷ []) s t u h.tree_is tree;
  stands = λ lim bs ended given st. subst (λ (l : List Token). Stands c lim bs ended l) (append_assoc given h.tokens (x ∷ [])) (on lim bs ended (given ++ h.tokens) (h.stands lim bs ended given st));
  keeps = record { finished = keeps.finished ∙ h.keeps.finished; answer = keeps.answer ∙ h.keeps.answer };
}

pub taken_none : (a : ReaderView) (s : Tree) → HasTaken a a s s
taken_none a s = record {
  tokens = [];
  waits = refl;
  tree_is = refl;
  stands = λ lim bs ended given st. subst (λ (l : List Token). Stands a lim bs ended l) (sym (append-nil given)) st;
  keeps = record { finished = refl; answer = refl };
}

-- ---- none waits any more

pub all_taken : (ts : List Token) (a b : ReaderView) → waiting a ≡ ts ++ waiting b → waiting b ≡ [] → ts ≡ waiting a
all_taken ts a b waits none = sym (waits ∙ ap (λ (l : List Token). ts ++ l) none ∙ append-nil ts)

pub stands_all : (ts : List Token) (a b c : ReaderView) → waiting a ≡ ts ++ waiting b → waiting b ≡ []
    → ((lim : Limits) (bs : List ℕ) (ended : Bool) (given : List Token) → Stands a lim bs ended given → Stands b lim bs ended (given ++ ts))
    → ((lim : Limits) (bs : List ℕ) (ended : Bool) (given : List Token) → Stands b lim bs ended given → Stands c lim bs ended (given ++ []))
    → (lim : Limits) (bs : List ℕ) (ended : Bool) (given : List Token) → Stands a lim bs ended given → Stands c lim bs ended (given ++ waiting a)
stands_all ts a b c waits none so_far on lim bs ended given st =
    subst (λ (l : List Token). Stands c lim bs ended (given ++ l)) (all_taken ts a b waits none)
    (subst (λ (l : List Token). Stands c lim bs ended l) (append-nil (given ++ ts)) (on lim bs ended (given ++ ts) (so_far lim bs ended given st)))

pub keeps_all : (a b c : ReaderView) → KeepsAnswer a b → KeepsAnswer b c → KeepsAnswer a c
keeps_all a b c h k = record { finished = k.finished ∙ h.finished; answer = k.answer ∙ h.answer }

pub grown_all : (a b : ReaderView) (s t : Tree) → HasTaken a b s t → waiting b ≡ [] → t ≡ grow_all (map said_of (waiting a)) s
grown_all a b s t h none = subst (λ (l : List Token). t ≡ grow_all (map said_of l) s) (all_taken h.tokens a b h.waits none) h.tree_is

-- ---- a piece, and the end

-- no bytes have no fault
no_character : IsCharFront []
unfolding encode
no_character = record { c = 97; rest = 97 ∷ []; scalar = refl; bytes = refl; more = omega arith }

nowhere : (front rest : List ℕ) (c : ℕ) → [] ≡ front ++ (c ∷ rest) → ⊥
nowhere [] rest c e = cc
nowhere (x ∷ front) rest c e = cc

pub none_at_start : (lim : Limits) → FaultIs lim [] false None
none_at_start lim = within_limit (omega arith) (none_yet [] [] (record { chars = refl; parts = refl; part = no_character }) (λ front c rest f e comes. nowhere front rest c e) refl refl)

pub grown_none : (h : ReaderView) → Stands h full_limits [] false [] → waiting h ≡ [] → HasGrown h opening []
grown_none h s none = record { given = []; stands = s; nothing_waits = none; tree_is = refl; no_fault = none_at_start full_limits }

pub piece_grown : (r0 r1 r2 : ReaderView) (s t : Tree) (b piece : List ℕ) → HasGrown r0 s b
    → ((lim : Limits) (b : List ℕ) (given : List Token) → Stands r0 lim b false given → Stands r1 lim (b ++ piece) false given)
    → ((lim : Limits) (b : List ℕ) (given : List Token) → Stands r0 lim b false given → FaultIs lim (b ++ piece) false None)
    → ((lim : Limits) (b : List ℕ) (ended : Bool) (given : List Token) → Stands r1 lim b ended given → Stands r2 lim b ended (given ++ waiting r1))
    → waiting r2 ≡ [] → t ≡ grow_all (map said_of (waiting r1)) s → HasGrown r2 t (b ++ piece)
piece_grown r0 r1 r2 s t b piece h fed clean took none tree = record {
  given = h.given ++ waiting r1;
  stands = took full_limits (b ++ piece) false h.given (fed full_limits b h.given h.stands);
  nothing_waits = none;
  tree_is = grown_on h.given (waiting r1) opening s t h.tree_is tree;
  no_fault = clean full_limits b h.given h.stands;
}

tokens_back : (ts : List Said) → map said_of (map given_token ts) ≡ ts
tokens_back [] = refl
tokens_back (Start n ∷ ts) = ap (λ (l : List Said). Start n ∷ l) (tokens_back ts)
tokens_back (Chars t ∷ ts) = ap (λ (l : List Said). Chars t ∷ l) (tokens_back ts)
tokens_back (End ∷ ts) = ap (λ (l : List Said). End ∷ l) (tokens_back ts)

pub said_back : (d : Nodes) → map said_of (reader_tokens d) ≡ tokens d ++ End ∷ []
said_back d = map-append said_of (map given_token (tokens d)) (EndOfDocument ∷ []) ∙ ap (λ (l : List Said). l ++ (End ∷ [])) (tokens_back (tokens d))

document_tree : (d : Nodes) → grow_all (map said_of (reader_tokens d)) opening ≡ tree_of d
document_tree d = ap (λ (l : List Said). grow_all l opening) (said_back d)

pub whole_grown : (r0 r1 : ReaderView) (s t : Tree) (b : List ℕ) → (h : HasGrown r0 s b) → Accepted b (h.given ++ waiting r1) → FaultIs full_limits b true None
    → t ≡ grow_all (map said_of (waiting r1)) s → IsWhole b t
whole_grown r0 r1 s t b h a clean tree = record {
  document = a.document;
  spells = record { chars = a.chars; characters = a.scalars_are; encoded = a.bytes; spells = a.spells };
  only = λ d sp. a.only sp.chars d sp.characters sp.encoded sp.spells;
  tree_is = grown_on h.given (waiting r1) opening s t h.tree_is tree ∙ ap (λ (l : List Token). grow_all (map said_of l) opening) a.tokens_are ∙ document_tree a.document;
  no_fault = clean;
}
