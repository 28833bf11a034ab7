-- A whole document is the one that the bytes spell, and its tokens are those given and waiting.
use Rattle.std.proofs.Common.{ℕ, ◌≡◌, ◌≤◌, true, false, List, [], ◌∷◌, ◌++◌, length, map, Option, Some, None, Result, refl, sym, ap, ◌∙◌, subst, append-nil}
use Rattle.std.specs.Prelude.{OnOk, chars}
use Rattle.std.proofs.lemmas.Bool.{true≢false}
use Rattle.std.proofs.lemmas.Str.{chars-encodes}
use lib.Utf8.{encodes}
use Rattle.gcx_base.specs.declared.limits.Limits.{Limits}
use Rattle.gcx_model.specs.Document.{Nodes}
use Rattle.gcx_model.specs.Tree.{TreeToken as Said, End as said_end}
use Rattle.gcx_model.specs.Grammar.{SpellsDocument}
use Rattle.gcx_model.specs.Faults.{Decodes, Clean, FaultIs, within_limit, before_limit, past_limit, FaultWithin, by_character, by_sequence, by_cut, by_end, none_yet, none_whole, fault_of}
use Rattle.gcx_model.specs.Seen.{closes, stays_open}
use Rattle.gcx_model.specs.declared.fault.DocFault.{DocFault}
use Rattle.doc_laws.specs.Machine.{State, is_whole}
use Rattle.doc_laws.proofs.Documents.{spells_document}
use Rattle.doc_laws.proofs.LastTag.{longest_so_far, seen_whole, seen_one}
use Rattle.doc_laws.proofs.Pieces.{Stands as Kept}
use Rattle.doc_laws.proofs.Theorems.{whole_spells, not_whole, spells_one}
use Rattle.doc_laws.proofs.Unique.{clean_reads}
use Rattle.doc_tokens.specs.declared.token.Token.{Token}
use Rattle.doc_reader.specs.Standing.{ReaderView, waiting, given_end, said_of, Gives, GivesBy, IsFault, Stands, answer_by, answer_of, Accepted, given_token}

-- what a document's bytes are
record Whole (lim : Limits) (b : List ℕ) : Type 0 where
  pub cs : List ℕ
  pub document : Nodes
  pub within : length b ≤ lim.bytes
  pub decodes : Decodes b cs []
  pub clean : Clean lim cs
  pub spells : SpellsDocument cs document

none_some : {X : Type 0} (f : DocFault) → None ≡ Some f → X
none_some f e = let no : ⊥ = cc in absurd no

whole_within : (lim : Limits) (b : List ℕ) → length b ≤ lim.bytes → FaultWithin lim b true None → Whole lim b
whole_within lim b h (by_character cs rest f s e c o) = none_some (fault_of f) o
whole_within lim b h (by_sequence cs i c o) = none_some _ o
whole_within lim b h (by_cut cs tail d c n e o) = none_some _ o
whole_within lim b h (by_end cs d c n e o) = none_some _ o
whole_within lim b h (none_yet cs tail d c e o) = absurd (true≢false e)
whole_within lim b h (none_whole cs d dd c sp e o) = record { cs = cs; document = d; within = h; decodes = dd; clean = c; spells = sp }

whole_of : (lim : Limits) (b : List ℕ) → FaultIs lim b true None → Whole lim b
whole_of lim b (within_limit h w) = whole_within lim b h w
whole_of lim b (before_limit f h w o) = none_some f o
whole_of lim b (past_limit h w o) = none_some _ o

same_but_last : (a b : List Said) (t : Said) → a ++ (t ∷ []) ≡ b ++ (t ∷ []) → a ≡ b
same_but_last [] [] t e = refl
same_but_last [] (y ∷ b) t e = absurd (nothing b t (let q : [] ≡ b ++ (t ∷ []) = cc in q))
  where
    nothing : (b : List Said) (t : Said) → [] ≡ b ++ (t ∷ []) → ⊥
    nothing [] t e = cc
    nothing (z ∷ b) t e = cc
same_but_last (x ∷ a) [] t e = absurd (nothing a t (let q : a ++ (t ∷ []) ≡ [] = cc in q))
  where
    nothing : (a : List Said) (t : Said) → a ++ (t ∷ []) ≡ [] → ⊥
    nothing [] t e = cc
    nothing (z ∷ a) t e = cc
same_but_last (x ∷ a) (y ∷ b) t e =
    let head : x ≡ y = cc in
    let tail : a ++ (t ∷ []) ≡ b ++ (t ∷ []) = cc in
    (λ i. head i ∷ same_but_last a b t tail i)

accepted : (lim : Limits) (b : List ℕ) (ts : List Token) → FaultIs lim b true None → Gives lim b true ts → Accepted b ts
accepted lim b ts fault g =
    let w = whole_of lim b fault in
    let r = clean_reads lim w.cs w.clean in
    let state : State = r.0 in
    let is_whole_ : is_whole state ≡ true = elim (is_whole state) as (λ v. is_whole state ≡ v → v ≡ true) [
      | true ↦ λ e. refl
      | false ↦ λ e. absurd (not_whole w.cs state w.document r.1.front e w.spells)
    ] refl in
    let d = whole_spells w.cs state r.1.front is_whole_ in
    let kept : Kept lim b [] state = record { chars = w.cs; decodes = w.decodes; reads = r.1 } in
    let all = seen_whole lim b w.cs state r.1.front (longest_so_far lim b [] state kept w.within) fault in
    let said : map said_of ts ≡ state.tokens ++ (said_end ∷ []) = seen_one lim b true (map said_of ts) (state.tokens ++ (said_end ∷ [])) g.seen all in
    let ends : g.seen.ends ≡ said_end ∷ [] = elim g.seen.document_ends as (λ _. g.seen.ends ≡ said_end ∷ []) [
      | closes e f is ↦ is
      | stays_open open_still is ↦ absurd (open_still refl fault)
    ] in
    let tags : g.seen.tags ≡ state.tokens = same_but_last g.seen.tags state.tokens said_end (ap (λ l. g.seen.tags ++ l) (sym ends) ∙ sym g.seen.tokens_are ∙ said) in
    let bytes : b ≡ encodes w.cs = w.decodes.parts ∙ append-nil (encodes w.cs) in
    record {
      chars = w.cs;
      scalars_are = w.decodes.chars;
      bytes = bytes;
      document = d.0;
      spells = d.1;
      is_document = spells_document w.cs d.0 d.1;
      only = λ cs e s is spells.
          let same : cs ≡ w.cs = sym (chars-encodes cs s) ∙ ap chars (sym is ∙ bytes) ∙ chars-encodes w.cs w.decodes.chars in
          spells_one w.cs e d.0 (subst (λ l. SpellsDocument l e) same spells) d.1;
      tokens_are = g.tokens_are ∙ (λ i. map given_token ((tags ∙ d.2) i) ++ map given_end (ends i));
    }

pub accepts : (h : ReaderView) (lim : Limits) (b : List ℕ) (given : List Token) (r : Result (Unit {0}) DocFault) → r ≡ answer_of h → Stands h lim b true given → OnOk r (Accepted b (given ++ waiting h))
accepts h lim b given r e s = subst (λ (q : Result (Unit {0}) DocFault). OnOk q (Accepted b (given ++ waiting h))) (sym e) (by h.refused s.fault s.gives)
  where
    by : (o : Option DocFault) → IsFault o lim b true → GivesBy o lim b true (given ++ waiting h) → OnOk (answer_by o) (Accepted b (given ++ waiting h))
    by None k g = accepted lim b (given ++ waiting h) k g
    by (Some f) k g = tt
