-- The tokens given and those that wait are those seen in the bytes.
use Rattle.std.proofs.Common.{ℕ, ◌≡◌, Bool, true, List, [], ◌∷◌, ◌++◌, map, None, refl, sym, ap, ◌∙◌, subst, append_assoc, append-nil}
use Rattle.gcx_base.specs.declared.limits.Limits.{Limits}
use Rattle.gcx_model.specs.Tree.{TreeToken as Said, Start as said_start, Chars as said_text, End as said_end}
use Rattle.gcx_model.specs.Faults.{FaultIs}
use Rattle.gcx_model.specs.Seen.{IsLongest, DocumentEnds, closes, stays_open}
use Rattle.doc_laws.specs.States.{Fronts, state_of}
use Rattle.doc_laws.proofs.Seen.{fronts_after}
use Rattle.doc_laws.proofs.Found.{found_seen}
use Rattle.doc_laws.proofs.LastTag.{longest_is, state_seen}
use Rattle.doc_tokens.specs.declared.token.Token.{Token}
use Rattle.doc_tokens.specs.declared.token.Token.TheVariants.{EndOfDocument}
use Rattle.doc_reader.specs.Standing.{given_end, said_of, Gives, GivesMore, HasRead, given_token}

pub map-append : (a b : List Said) → map given_token (a ++ b) ≡ map given_token a ++ map given_token b
map-append [] b = refl
map-append (t ∷ a) b = ap (λ l. given_token t ∷ l) (map-append a b)

pub said-map : (tags : List Said) → map said_of (map given_token tags) ≡ tags
said-map [] = refl
said-map (said_start n ∷ tags) = ap (λ l. said_start n ∷ l) (said-map tags)
said-map (said_text t ∷ tags) = ap (λ l. said_text t ∷ l) (said-map tags)
said-map (said_end ∷ tags) = ap (λ l. said_end ∷ l) (said-map tags)

pub said-append : (a b : List Token) → map said_of (a ++ b) ≡ map said_of a ++ map said_of b
said-append [] b = refl
said-append (t ∷ a) b = ap (λ l. said_of t ∷ l) (said-append a b)

ends_are : (lim : Limits) (b : List ℕ) (ended : Bool) (ends : List Said) → DocumentEnds lim b ended ends → map said_of (map given_end ends) ≡ ends
ends_are lim b ended ends (closes e f is) = ap (λ l. map said_of (map given_end l)) is ∙ sym is
ends_are lim b ended ends (stays_open n is) = ap (λ l. map said_of (map given_end l)) is ∙ sym is

-- what a reader gives is what is seen
said_is : (lim : Limits) (b : List ℕ) (ended : Bool) (ts : List Token) (tags ends : List Said) → DocumentEnds lim b ended ends → ts ≡ map given_token tags ++ map given_end ends → map said_of ts ≡ tags ++ ends
said_is lim b ended ts tags ends d e =
    ap (map said_of) e ∙ said-append (map given_token tags) (map given_end ends) ∙ (λ i. said-map tags i ++ ends_are lim b ended ends d i)

-- given and waiting, with what stands behind
pub waits_are : (waits : List Said) (last : List Token) (given : List Token) (before : List Said) → given ≡ map given_token before → given ++ (map given_token waits ++ last) ≡ map given_token (before ++ waits) ++ last
waits_are waits last given before e =
    ap (λ l. l ++ (map given_token waits ++ last)) e ∙ sym (append_assoc (map given_token before) (map given_token waits) last) ∙ ap (λ l. l ++ last) (sym (map-append before waits))

module _ (waits : List Said) (lim : Limits) (b chars : List ℕ) (ended : Bool) (given : List Token) (r : HasRead waits lim b chars given) where
  tokens_read : (last : List Token) → given ++ (map given_token waits ++ last) ≡ map given_token r.state.tokens ++ last
  tokens_read last = waits_are waits last given r.before r.given_are ∙ ap (λ l. map given_token l ++ last) (sym r.tokens_are)

  -- no character more is read, and the document doesn't end
  pub gives_open : IsLongest lim b chars → (ended ≡ true → FaultIs lim b true None → ⊥) → Gives lim b ended (given ++ (map given_token waits ++ []))
  gives_open l h = record {
    seen = record { chars = chars; longest = l; tags = r.state.tokens; seen = state_seen chars r.state r.front; ends = []; document_ends = stays_open h refl; tokens_are = said_is lim b ended _ r.state.tokens [] (stays_open h refl) (tokens_read []) };
    tokens_are = tokens_read [];
  }

  -- the document ends
  pub gives_whole : IsLongest lim b chars → ended ≡ true → FaultIs lim b true None → Gives lim b ended (given ++ (map given_token waits ++ (EndOfDocument ∷ [])))
  gives_whole l e h = record {
    seen = record {
      chars = chars;
      longest = l;
      tags = r.state.tokens;
      seen = state_seen chars r.state r.front;
      ends = said_end ∷ [];
      document_ends = closes e h refl;
      tokens_are = said_is lim b ended _ r.state.tokens (said_end ∷ []) (closes e h refl) (tokens_read (EndOfDocument ∷ []));
    };
    tokens_are = tokens_read (EndOfDocument ∷ []);
  }

  -- more characters may be read
  pub gives_more : GivesMore lim b ended (given ++ (map given_token waits ++ []))
  gives_more =
      let f = found_seen lim b ended in
      let seen = f.1 in
      let longer = longest_is lim b seen.chars chars r.rest seen.longest r.scalars_are r.parts r.within r.clean in
      let s = seen.seen in
      let all : Fronts seen.chars (state_of s.frames s.content s.piece) = record { frames = s.frames; content = s.content; piece = s.piece; good = s.opens.good; spelled = s.opens.spelled; state = refl } in
      let after = fronts_after chars longer.0 r.state (state_of s.frames s.content s.piece) r.front (subst (λ l. Fronts l (state_of s.frames s.content s.piece)) longer.1 all) in
      let rest = map given_token after.more ++ map given_end seen.ends in
      let all_given = given ++ (map given_token waits ++ []) in
      let are : all_given ++ rest ≡ map given_token seen.tags ++ map given_end seen.ends =
      ap (λ l. l ++ rest) (tokens_read [] ∙ append-nil (map given_token r.state.tokens))
      ∙ sym (append_assoc (map given_token r.state.tokens) (map given_token after.more) (map given_end seen.ends))
      ∙ ap (λ l. l ++ map given_end seen.ends) (sym (map-append r.state.tokens after.more))
      ∙ ap (λ l. map given_token l ++ map given_end seen.ends) (sym after.tokens_are ∙ sym s.tokens_are) in
      record {
        rest = rest;
        gives = record {
          seen = record {
            chars = seen.chars;
            longest = seen.longest;
            tags = seen.tags;
            seen = seen.seen;
            ends = seen.ends;
            document_ends = seen.document_ends;
            tokens_are = said_is lim b ended (all_given ++ rest) seen.tags seen.ends seen.document_ends are;
          };
          tokens_are = are;
        };
      }
