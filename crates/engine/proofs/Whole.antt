-- Bytes that were read to their end without a fault spell a document, and the tokens seen in them are its own.
use Rattle.std.proofs.Common.{◌≡◌, ℕ, ◌≤◌, true, false, List, [], ◌∷◌, ◌++◌, length, refl, ◌∙◌, ap, Some, None}
use Rattle.std.proofs.lemmas.Bool.{true≢false}
use Rattle.gcx_base.specs.declared.limits.Limits.{Limits}
use Rattle.gcx_model.specs.declared.fault.DocFault.{DocFault}
use Rattle.gcx_model.specs.Document.{Nodes, tokens, tree_of}
use Rattle.gcx_model.specs.Faults.{Decodes, Clean, FaultIs, within_limit, before_limit, past_limit, FaultWithin, by_character, by_sequence, by_cut, by_end, none_yet, none_whole, fault_of}
use Rattle.gcx_model.specs.Grammar.{SpellsDocument}
use Rattle.gcx_model.specs.Seen.{SeenIs}
use Rattle.gcx_model.specs.Tree.{TreeToken as Said, End}
use Rattle.tree_laws.specs.Growth.{AllClosed}
use Rattle.tree_laws.proofs.Documents.{whole_closed}
use Rattle.doc_laws.specs.Machine.{State, is_whole}
use Rattle.doc_laws.proofs.LastTag.{longest_so_far, seen_whole, seen_one}
use Rattle.doc_laws.proofs.Pieces.{Stands as Kept}
use Rattle.doc_laws.proofs.Theorems.{whole_spells, not_whole}
use Rattle.doc_laws.proofs.Unique.{clean_reads}

no_some : {X : Type 0} (f : DocFault) → None ≡ Some f → X
no_some f e = let no : ⊥ = cc in absurd no

-- what the bytes are
pub record Whole (lim : Limits) (b : List ℕ) : Type 0 where
  pub cs : List ℕ
  pub document : Nodes
  pub within : length b ≤ lim.bytes
  pub decodes : Decodes b cs []
  pub clean : Clean lim cs
  pub spells : SpellsDocument cs document

whole_within : (lim : Limits) (b : List ℕ) → length b ≤ lim.bytes → FaultWithin lim b true None → Whole lim b
whole_within lim b h (by_character cs rest f s e c o) = no_some (fault_of f) o
whole_within lim b h (by_sequence cs i c o) = no_some _ o
whole_within lim b h (by_cut cs tail d c n e o) = no_some _ o
whole_within lim b h (by_end cs d c n e o) = no_some _ o
whole_within lim b h (none_yet cs tail d c e o) = absurd (true≢false e)
whole_within lim b h (none_whole cs d dd c sp e o) = record { cs = cs; document = d; within = h; decodes = dd; clean = c; spells = sp }

pub whole_of : (lim : Limits) (b : List ℕ) → FaultIs lim b true None → Whole lim b
whole_of lim b (within_limit h w) = whole_within lim b h w
whole_of lim b (before_limit f h w o) = no_some f o
whole_of lim b (past_limit h w o) = no_some _ o

-- these are the tokens of this document
pub record TokensOf (ts : List Said) : Type 0 where
  pub document : Nodes
  pub are : ts ≡ tokens document ++ End ∷ []

pub tokens_whole : (lim : Limits) (b : List ℕ) (ts : List Said) → FaultIs lim b true None → SeenIs lim b true ts → TokensOf ts
tokens_whole lim b ts clean seen =
    let w = whole_of lim b clean in
    let r = clean_reads lim w.cs w.clean in
    let state : State = r.0 in
    let over : is_whole state ≡ true = elim (is_whole state) as (λ v. is_whole state ≡ v → v ≡ true) [
      | true ↦ λ e. refl
      | false ↦ λ e. absurd (not_whole w.cs state w.document r.1.front e w.spells)
    ] refl in
    let d = whole_spells w.cs state r.1.front over in
    let kept : Kept lim b [] state = record { chars = w.cs; decodes = w.decodes; reads = r.1 } in
    let all = seen_whole lim b w.cs state r.1.front (longest_so_far lim b [] state kept w.within) clean in
    let said : ts ≡ state.tokens ++ (End ∷ []) = seen_one lim b true ts (state.tokens ++ (End ∷ [])) seen all in
    record { document = d.0; are = said ∙ ap (λ (l : List Said). l ++ (End ∷ [])) d.2 }

pub all_closed : (d : Nodes) → AllClosed (tree_of d)
all_closed d = λ m i. rw (whole_closed d) refl
