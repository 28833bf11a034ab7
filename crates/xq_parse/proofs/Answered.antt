-- The answer is the query that the text spells, or its fault.
use Rattle.std.proofs.Common.{ℕ, ◌≡◌, true, List, length, Result, Ok, Err, sym, ◌∙◌, subst, inl, inr}
use Rattle.std.specs.Prelude.{IfOk, IfErr}
use Rattle.gcx_model.specs.declared.fault.QueryFault.{QueryFault}
use Rattle.gcx_model.specs.declared.fault.QueryFault.TheVariants as query_faults
use Rattle.gcx_model.specs.declared.query.Query.{Query}
use Rattle.gcx_model.specs.Query.{ExprTree, query_trees}
use Rattle.gcx_model.specs.Sound.{is_sound}
use Rattle.xq_lex.specs.declared.token.Tok.{Tok}
use Rattle.xq_lex.specs.Lex.{Lexes, LexFault, HasOnlyTokens, HasOnlyFault}
use Rattle.gcx_model.specs.Refusals.{UnlessMemory}
use Rattle.xq_parse.specs.Spelling.{Spells, QuerySpells}
use Rattle.xq_parse.specs.Faults.{GrammarFault, TextFaultOf, HasOnlyQuery, HasOnlyRefusal}
use Rattle.xq_parse.specs.Answering.{Answers, judged}
use Rattle.xq_parse.proofs.Verdict as laws

-- want of memory aside
pub mapped : (P Q : QueryFault → Type 0) → ((f : QueryFault) → P f → Q f) → (f : QueryFault) → UnlessMemory P f → UnlessMemory Q f
mapped P Q h query_faults.Memory p = tt
mapped P Q h (query_faults.Utf8 at) p = h _ p
mapped P Q h (query_faults.Lex at) p = h _ p
mapped P Q h (query_faults.Syntax at) p = h _ p
mapped P Q h (query_faults.UnknownVar at) p = h _ p
mapped P Q h (query_faults.TagMismatch at) p = h _ p
mapped P Q h (query_faults.DescendantNotLast at) p = h _ p
mapped P Q h (query_faults.IntegerWide at) p = h _ p
mapped P Q h (query_faults.TooLarge what limit) p = h _ p

-- ---- the text has tokens

spells_same : (bytes : List ℕ) (ts : List Tok) (q : List ExprTree) → HasOnlyTokens bytes ts → QuerySpells bytes q → Spells ts q
spells_same bytes ts q only s = subst (λ (l : List Tok). Spells l q) (only.once s.tokens s.lexed) s.holds

fault_same : (bytes : List ℕ) (ts : List Tok) (f : QueryFault) → HasOnlyTokens bytes ts → TextFaultOf bytes f → GrammarFault ts (length bytes) f
fault_same bytes ts f only (inl l) = absurd (only.no_fault f l)
fault_same bytes ts f only (inr h) = subst (λ (l : List Tok). GrammarFault l (length bytes) f) (only.once h.tokens h.lexed) h.holds

pub record Accepts (bytes : List ℕ) (q : List ExprTree) : Type 0 where
  pub spells : QuerySpells bytes q
  pub sound : is_sound q ≡ true
  pub only_query : HasOnlyQuery bytes q

accepted : (bytes : List ℕ) (ts : List Tok) (q : List ExprTree) → Lexes bytes ts → HasOnlyTokens bytes ts → judged ts (length bytes) ≡ Ok q → Accepts bytes q
accepted bytes ts q lexed only e =
    let i = laws.answered ts (length bytes) q e in
    record {
      spells = record { tokens = ts; lexed = lexed; holds = laws.is_spelled ts q i };
      sound = laws.query_sound ts q i;
      only_query = record {
        once = λ (other : List ExprTree) (s : QuerySpells bytes other). let o = spells_same bytes ts other only s in sym o.tree ∙ laws.one_tree ts o.derivation i.derivation o.derives i.derives ∙ i.tree;
        no_fault = λ (f : QueryFault) (h : TextFaultOf bytes f). laws.no_fault ts (length bytes) q f e (fault_same bytes ts f only h);
      };
    }

pub record Refuses (bytes : List ℕ) (f : QueryFault) : Type 0 where
  pub fault : TextFaultOf bytes f
  pub only_refusal : HasOnlyRefusal bytes f

refused : (bytes : List ℕ) (ts : List Tok) (f : QueryFault) → Lexes bytes ts → HasOnlyTokens bytes ts → judged ts (length bytes) ≡ Err f → Refuses bytes f
refused bytes ts f lexed only e = record {
  fault = inr (record { tokens = ts; lexed = lexed; holds = laws.refused ts (length bytes) f e });
  only_refusal = record {
    once = λ (g : QueryFault) (h : TextFaultOf bytes g). laws.one_fault ts (length bytes) f g e (fault_same bytes ts g only h);
    no_query = λ (q : List ExprTree) (s : QuerySpells bytes q) (t : is_sound q ≡ true). ok_not_err q f (sym (laws.sound_accepted ts (length bytes) q (spells_same bytes ts q only s) t) ∙ e);
  };
}
  where
    ok_not_err : (x : List ExprTree) (y : QueryFault) → (let a : Result (List ExprTree) QueryFault = Ok x in let b : Result (List ExprTree) QueryFault = Err y in a ≡ b) → ⊥
    ok_not_err x y e = cc

pub of_answer : (bytes : List ℕ) (ts : List Tok) (result : Result Query QueryFault) → Lexes bytes ts → HasOnlyTokens bytes ts → Answers result (judged ts (length bytes)) → IfOk result (λ q. Accepts bytes (query_trees q)) × IfErr result (UnlessMemory (Refuses bytes))
of_answer bytes ts (Ok q) lexed only a = (accepted bytes ts (query_trees q) lexed only a, tt)
of_answer bytes ts (Err f) lexed only a = (tt, mapped (λ f. judged ts (length bytes) ≡ Err f) (Refuses bytes) (λ (f : QueryFault) (e : judged ts (length bytes) ≡ Err f). refused bytes ts f lexed only e) f a)

-- ---- the text has none

lex_refused : (bytes : List ℕ) (f : QueryFault) → LexFault bytes f → HasOnlyFault bytes f → Refuses bytes f
lex_refused bytes f l only = record {
  fault = inl l;
  only_refusal = record { once = once; no_query = λ (q : List ExprTree) (s : QuerySpells bytes q) (t : is_sound q ≡ true). only.no_tokens s.tokens s.lexed };
}
  where
    once : (g : QueryFault) → TextFaultOf bytes g → g ≡ f
    once g (inl h) = only.once g h
    once g (inr h) = absurd (only.no_tokens h.tokens h.lexed)

pub of_lex_fault : (bytes : List ℕ) (f : QueryFault) → UnlessMemory (LexFault bytes) f → UnlessMemory (HasOnlyFault bytes) f → UnlessMemory (Refuses bytes) f
of_lex_fault bytes query_faults.Memory l o = tt
of_lex_fault bytes (query_faults.Utf8 at) l o = lex_refused bytes (query_faults.Utf8 at) l o
of_lex_fault bytes (query_faults.Lex at) l o = lex_refused bytes (query_faults.Lex at) l o
of_lex_fault bytes (query_faults.Syntax at) l o = absurd l
of_lex_fault bytes (query_faults.UnknownVar at) l o = absurd l
of_lex_fault bytes (query_faults.TagMismatch at) l o = absurd l
of_lex_fault bytes (query_faults.DescendantNotLast at) l o = absurd l
of_lex_fault bytes (query_faults.IntegerWide at) l o = lex_refused bytes (query_faults.IntegerWide at) l o
of_lex_fault bytes (query_faults.TooLarge what limit) l o = lex_refused bytes (query_faults.TooLarge what limit) l o

pub spells : (bytes : List ℕ) (r : Result Query QueryFault) → IfOk r (λ q. Accepts bytes (query_trees q)) → IfOk r (λ q. QuerySpells bytes (query_trees q))
spells bytes (Ok q) a = a.spells
spells bytes (Err f) a = tt

pub sound : (bytes : List ℕ) (r : Result Query QueryFault) → IfOk r (λ q. Accepts bytes (query_trees q)) → IfOk r (λ q. is_sound (query_trees q) ≡ true)
sound bytes (Ok q) a = a.sound
sound bytes (Err f) a = tt

pub only_query : (bytes : List ℕ) (r : Result Query QueryFault) → IfOk r (λ q. Accepts bytes (query_trees q)) → IfOk r (λ q. HasOnlyQuery bytes (query_trees q))
only_query bytes (Ok q) a = a.only_query
only_query bytes (Err f) a = tt

pub fault_of : (bytes : List ℕ) (f : QueryFault) → UnlessMemory (Refuses bytes) f → UnlessMemory (TextFaultOf bytes) f
fault_of bytes f r = mapped (Refuses bytes) (TextFaultOf bytes) (λ (f : QueryFault) (r : Refuses bytes f). r.fault) f r

pub only_refusal_of : (bytes : List ℕ) (f : QueryFault) → UnlessMemory (Refuses bytes) f → UnlessMemory (HasOnlyRefusal bytes) f
only_refusal_of bytes f r = mapped (Refuses bytes) (HasOnlyRefusal bytes) (λ (f : QueryFault) (r : Refuses bytes f). r.only_refusal) f r

pub fault : (bytes : List ℕ) (r : Result Query QueryFault) → IfErr r (UnlessMemory (Refuses bytes)) → IfErr r (UnlessMemory (TextFaultOf bytes))
fault bytes (Ok q) a = tt
fault bytes (Err f) a = fault_of bytes f a

pub only_refusal : (bytes : List ℕ) (r : Result Query QueryFault) → IfErr r (UnlessMemory (Refuses bytes)) → IfErr r (UnlessMemory (HasOnlyRefusal bytes))
only_refusal bytes (Ok q) a = tt
only_refusal bytes (Err f) a = only_refusal_of bytes f a
