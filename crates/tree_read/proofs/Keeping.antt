-- A document's tokens, kept in a list as its reader gives them.
use Rattle.std.proofs.Common.{◌≡◌, ℕ, Bool, true, false, List, [], ◌∷◌, ◌++◌, map, Some, None, sym, ◌∙◌, ap, refl, subst, append_assoc, append-nil}
use Rattle.std.specs.declared.result.Result.TheVariants.{Ok}
use Rattle.std.specs.Prelude.{⊤, Option}
use Rattle.gcx_base.specs.declared.limits.Limits.{Limits}
use Rattle.gcx_base.specs.Limits.{full_limits}
use Rattle.gcx_model.specs.Faults.{FaultIs}
use Rattle.gcx_model.specs.Seen.{SeenIs}
use Rattle.gcx_model.specs.declared.fault.DocFault.{DocFault}
use Rattle.doc_reader.specs.Standing.{ReaderView, Stands, KeepsAnswer, Accepted, GivesBy, answer_by, answer_of, waiting, said_of, Token}
use Rattle.tree_read.specs.Document.{HasGiven, AreTokens}
use Rattle.tree_read.proofs.Documents.{all_taken, none_at_start, said_back}

-- These tokens were taken of a reader, and put behind the list.
pub record HasKept (old new : ReaderView) (before after : List Token) : Type 0 where
  pub tokens : List Token
  pub waits : waiting old ≡ tokens ++ waiting new
  pub list_is : after ≡ before ++ tokens
  pub stands : (lim : Limits) (b : List ℕ) (ended : Bool) (given : List Token) → Stands old lim b ended given → Stands new lim b ended (given ++ tokens)
  pub keeps : KeepsAnswer old new

pub kept_on : (a b c : ReaderView) (s t u : List Token) (x : Token) → HasKept a b s t → waiting b ≡ x ∷ waiting c
    → ((lim : Limits) (bs : List ℕ) (ended : Bool) (given : List Token) → Stands b lim bs ended given → Stands c lim bs ended (given ++ (x ∷ [])))
    → KeepsAnswer b c → u ≡ t ++ x ∷ [] → HasKept a c s u
kept_on a b c s t u x h waits on keeps list = record {
  tokens = h.tokens ++ (x ∷ []);
  waits = h.waits ∙ ap (λ (l : List Token). h.tokens ++ l) waits ∙ sym (append_assoc h.tokens (x ∷ []) (waiting c));
  list_is = list ∙ ap (λ (l : List Token). l ++ x ∷ []) h.list_is ∙ append_assoc s h.tokens (x ∷ []);
  stands = λ lim bs ended given st. subst (λ (l : List Token). Stands c lim bs ended l) (append_assoc given h.tokens (x ∷ [])) (on lim bs ended (given ++ h.tokens) (h.stands lim bs ended given st));
  keeps = record { finished = keeps.finished ∙ h.keeps.finished; answer = keeps.answer ∙ h.keeps.answer };
}

pub kept_none : (a : ReaderView) (s : List Token) → HasKept a a s s
kept_none a s = record {
  tokens = [];
  waits = refl;
  list_is = sym (append-nil s);
  stands = λ lim bs ended given st. subst (λ (l : List Token). Stands a lim bs ended l) (sym (append-nil given)) st;
  keeps = record { finished = refl; answer = refl };
}

pub kept_all : (a b : ReaderView) (s t : List Token) → HasKept a b s t → waiting b ≡ [] → t ≡ s ++ waiting a
kept_all a b s t h none = subst (λ (l : List Token). t ≡ s ++ l) (all_taken h.tokens a b h.waits none) h.list_is

-- ---- a piece, and the end

pub given_none : (h : ReaderView) → Stands h full_limits [] false [] → waiting h ≡ [] → HasGiven h [] []
given_none h s none = record { stands = s; nothing_waits = none; no_fault = none_at_start full_limits }

pub piece_given : (r0 r1 r2 : ReaderView) (s t : List Token) (b piece : List ℕ) → HasGiven r0 s b
    → ((lim : Limits) (b : List ℕ) (given : List Token) → Stands r0 lim b false given → Stands r1 lim (b ++ piece) false given)
    → ((lim : Limits) (b : List ℕ) (given : List Token) → Stands r0 lim b false given → FaultIs lim (b ++ piece) false None)
    → ((lim : Limits) (b : List ℕ) (ended : Bool) (given : List Token) → Stands r1 lim b ended given → Stands r2 lim b ended (given ++ waiting r1))
    → waiting r2 ≡ [] → t ≡ s ++ waiting r1 → HasGiven r2 t (b ++ piece)
piece_given r0 r1 r2 s t b piece h fed clean took none list = record {
  stands = subst (λ (l : List Token). Stands r2 full_limits (b ++ piece) false l) (sym list) (took full_limits (b ++ piece) false s (fed full_limits b s h.stands));
  nothing_waits = none;
  no_fault = clean full_limits b s h.stands;
}

-- of a reader that refuses nothing all tokens are those that are seen
seen_by : (o : Option DocFault) (lim : Limits) (b : List ℕ) (ended : Bool) (ts : List Token) (x : ⊤) → Ok x ≡ answer_by o → GivesBy o lim b ended ts → SeenIs lim b ended (map said_of ts)
seen_by None lim b ended ts x e g = g.seen
seen_by (Some f) lim b ended ts x e g = cc

pub whole_given : (r0 r1 : ReaderView) (s t : List Token) (b : List ℕ) (x : ⊤) → HasGiven r0 s b → Accepted b (s ++ waiting r1) → Stands r1 full_limits b true s
    → Ok x ≡ answer_of r1 → FaultIs full_limits b true None → t ≡ s ++ waiting r1 → AreTokens b (map said_of t)
whole_given r0 r1 s t b x h a stands answers clean list = record {
  document = a.document;
  spells = record { chars = a.chars; characters = a.scalars_are; encoded = a.bytes; spells = a.spells };
  only = λ d sp. a.only sp.chars d sp.characters sp.encoded sp.spells;
  tokens_are = ap (map said_of) (list ∙ a.tokens_are) ∙ said_back a.document;
  seen = subst (λ (l : List Token). SeenIs full_limits b true (map said_of l)) (sym list) (seen_by r1.refused full_limits b true (s ++ waiting r1) x answers stands.gives);
  no_fault = clean;
}
