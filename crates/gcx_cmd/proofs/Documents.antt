-- Documents: what bytes without a fault spell, and faults that bytes can't have.
use Rattle.std.proofs.Common.{◌≡◌, ℕ, Bool, true, false, List, [], ◌∷◌, ◌++◌, take, Some, None, refl, sym, ◌∙◌, ap, subst, append-nil}
use Rattle.std.specs.Prelude.{chars}
use Rattle.std.proofs.lemmas.Str.{chars-encodes}
use lib.Utf8.{encodes}
use Rattle.gcx_base.specs.declared.limits.Limits.{Limits}
use Rattle.gcx_model.specs.Document.{Nodes, tree_of}
use Rattle.gcx_model.specs.Tree.{TreeToken, End}
use Rattle.gcx_model.specs.Grammar.{SpellsDocument}
use Rattle.gcx_model.specs.Faults.{FaultIs, within_limit, before_limit, past_limit, FaultWithin, by_character, by_sequence, by_cut, by_end, none_yet, none_whole, DocumentRefusal, AtSyntax, AtDepth, AtName, AtText, fault_of}
use Rattle.gcx_model.specs.Seen.{SeenIs, seen_tree}
use Rattle.gcx_model.specs.declared.fault.DocFault.{DocFault}
use Rattle.gcx_model.specs.declared.fault.DocFault.TheVariants as fault
use Rattle.doc_laws.specs.Machine.{State, is_whole}
use Rattle.doc_laws.proofs.LastTag.{longest_so_far, seen_whole, seen_one}
use Rattle.doc_laws.proofs.Pieces.{Stands as Kept}
use Rattle.doc_laws.proofs.Theorems.{whole_spells, not_whole, spells_one}
use Rattle.doc_laws.proofs.Unique.{clean_reads}
use Rattle.tree_read.specs.Document.{BytesSpell}
use Rattle.gcx_cmd.specs.DocumentDoes.{SpellsOneDocument}
use Rattle.engine.proofs.Whole.{whole_of}

-- ---- want of memory is no fault of bytes

no_some : {X : Type 0} (f : DocFault) → None ≡ Some f → X
no_some f e = let no : ⊥ = cc in absurd no

no_refusal : (f : DocumentRefusal) → Some fault.Memory ≡ Some (fault_of f) → ⊥
no_refusal (AtSyntax k) e = cc
no_refusal (AtDepth k) e = cc
no_refusal (AtName k) e = cc
no_refusal (AtText k) e = cc

no_memory_within : (lim : Limits) (b : List ℕ) (ended : Bool) → FaultWithin lim b ended (Some fault.Memory) → ⊥
no_memory_within lim b ended (by_character cs rest f s e c o) = no_refusal f o
no_memory_within lim b ended (by_sequence cs i c o) = let no : ⊥ = cc in no
no_memory_within lim b ended (by_cut cs tail d c n e o) = let no : ⊥ = cc in no
no_memory_within lim b ended (by_end cs d c n e o) = let no : ⊥ = cc in no
no_memory_within lim b ended (none_yet cs tail d c e o) = no_some fault.Memory (sym o)
no_memory_within lim b ended (none_whole cs d dd c sp e o) = no_some fault.Memory (sym o)

pub no_memory : (lim : Limits) (b : List ℕ) (ended : Bool) → FaultIs lim b ended (Some fault.Memory) → ⊥
no_memory lim b ended (within_limit h w) = no_memory_within lim b ended w
no_memory lim b ended (before_limit f h w o) =
    let is : f ≡ fault.Memory = cc in
    no_memory_within lim (take lim.bytes b) false (subst (λ (g : DocFault). FaultWithin lim (take lim.bytes b) false (Some g)) is w)
no_memory lim b ended (past_limit h w o) = let no : ⊥ = cc in no

-- ---- no bytes

-- ---- a whole document

-- The bytes spell a document, and the tree of the tags seen in them is its tree.
pub record SeenWhole (b : List ℕ) (ts : List TreeToken) : Type 0 where
  pub document : Nodes
  pub spells : BytesSpell b document
  pub tree_is : seen_tree ts ≡ tree_of document

pub seen_document : (lim : Limits) (b : List ℕ) (ts : List TreeToken) → FaultIs lim b true None → SeenIs lim b true ts → SeenWhole b ts
seen_document lim b ts clean seen =
    let w = whole_of lim b clean in
    let r = clean_reads lim w.cs w.clean in
    let state : State = r.0 in
    let over : is_whole state ≡ true = elim (is_whole state) as (λ v. is_whole state ≡ v → v ≡ true) [
      | true ↦ λ e. refl
      | false ↦ λ e. absurd (not_whole w.cs state w.document r.1.front e w.spells)
    ] refl in
    let d = whole_spells w.cs state r.1.front over in
    let kept : Kept lim b [] state = record { chars = w.cs; decodes = w.decodes; reads = r.1 } in
    let all = seen_whole lim b w.cs state r.1.front (longest_so_far lim b [] state kept w.within) clean in
    let said : ts ≡ state.tokens ++ (End ∷ []) = seen_one lim b true ts (state.tokens ++ (End ∷ [])) seen all in
    record {
      document = d.0;
      spells = record { chars = w.cs; characters = w.decodes.chars; encoded = w.decodes.parts ∙ append-nil (encodes w.cs); spells = d.1 };
      tree_is = ap seen_tree (said ∙ ap (λ (l : List TreeToken). l ++ (End ∷ [])) d.2);
    }

pub one_spelled : (b : List ℕ) (d e : Nodes) → BytesSpell b d → BytesSpell b e → d ≡ e
one_spelled b d e h k =
    let same : h.chars ≡ k.chars = sym (chars-encodes h.chars h.characters) ∙ ap chars (sym h.encoded ∙ k.encoded) ∙ chars-encodes k.chars k.characters in
    spells_one k.chars d e (subst (λ (l : List ℕ). SpellsDocument l d) same h.spells) k.spells

-- bytes without a fault spell one document
pub one_document : (lim : Limits) (b : List ℕ) → FaultIs lim b true None → (d : Nodes) × SpellsOneDocument b d
one_document lim b clean =
    let w = whole_of lim b clean in
    let s : BytesSpell b w.document = record { chars = w.cs; characters = w.decodes.chars; encoded = w.decodes.parts ∙ append-nil (encodes w.cs); spells = w.spells } in
    (w.document, record { spells = s; only = λ d h. one_spelled b d w.document h s })
