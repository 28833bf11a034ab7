-- How deep the elements of a front lie, where no fault comes in it.
use Rattle.std.proofs.Common.{ℕ, suc, ◌≡◌, ◌+◌, ◌≤◌, inl, inr, Bool, true, false, cond, List, [], ◌∷◌, ◌++◌, length, Option, Some, refl, sym, ap, ◌∙◌, subst, append_assoc, arith}
use lib.Utf8.{encodes}
use Rattle.gcx_base.specs.declared.kind.Kind.TheVariants.{Document, Element, Text}
use Rattle.gcx_base.specs.declared.limits.Limits.{Limits}
use Rattle.gcx_model.specs.Document.{Nodes, none, element, text, is_blank, tokens}
use Rattle.gcx_model.specs.Tree.{Node, Root, Under, kind_of, Tree, Start, Chars, End, opening, grow, grow_at, grow_all}
use Rattle.gcx_model.specs.Members.{In}
use Rattle.gcx_model.specs.Growth.{level}
use Rattle.gcx_model.specs.Attributes.{Attributes, no_attribute, attribute, attributes_spelling, value_run}
use Rattle.gcx_model.specs.Grammar.{Content, nothing, mark, space, char, reference, cdata, comment, bare, instruction, doctype, single, tagged, spelling, IsContent, text_run, with_run, joined, attribute_nodes, nodes}
use Rattle.gcx_model.specs.Fronts.{Frames, bottom, frame, frames_spelling, IsFrames, inside, depth, frames_tokens, seen_tokens}
use Rattle.gcx_model.specs.Faults.{Clean}
use Rattle.gcx_model.specs.Within.{AreAttributesWithin, IsContentWithin}
use Rattle.tree_laws.proofs.Lists.{In-append}
use Rattle.tree_laws.proofs.Growing.{grow_all-append}
use Rattle.doc_laws.proofs.Moves.{tokens-with_run}
use Rattle.doc_laws.proofs.Within.{content_within, tag_within}

-- nodes whose elements lie at d, and none below `most`
abbrev AreLow : (most d : ℕ) → Nodes → Type 0
AreLow most d none = Unit {0}
AreLow most d (element before name children) = AreLow most d before × (d ≤ most) × AreLow most (d + 1) children
AreLow most d (text before bytes) = AreLow most d before

low_run : (most d : ℕ) (ns : Nodes) (r : List ℕ) → AreLow most d ns → AreLow most d (with_run ns r)
low_run most d ns r h = go (is_blank r)
  where
    go : (b : Bool) → AreLow most d (cond b ns (text ns r))
    go true = h
    go false = h

low_joined : (most d : ℕ) (a b : Nodes) → AreLow most d a → AreLow most d b → AreLow most d (joined a b)
low_joined most d a none h k = h
low_joined most d a (element before name children) h k = (low_joined most d a before h k.0, k.1, k.2)
low_joined most d a (text before bytes) h k = low_joined most d a before h k

module _ (lim : Limits) where
  attributes_low : (d : ℕ) (ats : Attributes) → AreAttributesWithin lim d ats → AreLow lim.depth (d + 1) (attribute_nodes ats)
  attributes_low d no_attribute h = tt
  attributes_low d (attribute ats k v) h = (attributes_low d ats h.0, h.1, low_run lim.depth (d + 1 + 1) none (value_run v) tt)

  content_low : (d : ℕ) (x : Content) → IsContentWithin lim d x → AreLow lim.depth d (nodes x)
  content_low d nothing h = tt
  content_low d mark h = tt
  content_low d (space y c) h = content_low d y h
  content_low d (char y c) h = content_low d y h
  content_low d (reference y t) h = content_low d y h
  content_low d (cdata y s) h = content_low d y h
  content_low d (comment y t) h = content_low d y h
  content_low d (bare y n) h = content_low d y h
  content_low d (instruction y n c i) h = content_low d y h
  content_low d (doctype y g c t) h = content_low d y h
  content_low d (single y n ats sp) h = (low_run lim.depth d (nodes y) (text_run y) (content_low d y h.0), h.1.1, attributes_low d ats h.1.3)
  content_low d (tagged y n ats sp inner sp2) h = (
    low_run lim.depth d (nodes y) (text_run y) (content_low d y h.0),
    h.1.1,
    low_joined lim.depth (d + 1) (attribute_nodes ats) (with_run (nodes inner) (text_run inner)) (attributes_low d ats h.1.3) (low_run lim.depth (d + 1) (nodes inner) (text_run inner) (content_low (d + 1) inner h.2)),
  )

abbrev pub NoneDeep : ℕ → Tree → Type 0
NoneDeep most P = (n : Node) (name : List ℕ) → In n P.nodes → kind_of n ≡ Element name → level n ≤ most

-- the innermost open node is p, and no element lies deeper than `most`
record IsLow (most : ℕ) (P : Tree) (p : Node) : Type 0 where
  at : P.at ≡ Some p
  low : NoneDeep most P

low_start : (most : ℕ) (P : Tree) (p : Node) (name : List ℕ) → IsLow most P p → suc (level p) ≤ most → IsLow most (grow (Start name) P) (Under p (length P.nodes) (Element name))
low_start most P p name h l = subst (λ (z : Option Node). IsLow most (grow_at z (Start name) P) (Under p (length P.nodes) (Element name))) (sym h.at) (record {
  at = refl;
  low = λ n m i k. elim (In-append n P.nodes (Under p (length P.nodes) (Element name) ∷ []) i) [
    | inl j ↦ h.low n m j k
    | inr j ↦ elim j [
      | inl e ↦ subst (λ (z : Node). level z ≤ most) e l
      | inr a ↦ absurd a
    ]
  ];
})

low_chars : (most : ℕ) (P : Tree) (p : Node) (b : List ℕ) → IsLow most P p → IsLow most (grow (Chars b) P) p
low_chars most P p b h = subst (λ (z : Option Node). IsLow most (grow_at z (Chars b) P) p) (sym h.at) (record {
  at = refl;
  low = λ n m i k. elim (In-append n P.nodes (Under p (length P.nodes) (Text b) ∷ []) i) [
    | inl j ↦ h.low n m j k
    | inr j ↦ elim j [
      | inl e ↦ absurd (no_element b m (ap kind_of e ∙ k))
      | inr a ↦ absurd a
    ]
  ];
})
  where
    no_element : (b m : List ℕ) → Text b ≡ Element m → ⊥
    no_element b m e = cc

low_end : (most : ℕ) (P : Tree) (p : Node) (s : ℕ) (name : List ℕ) → IsLow most P (Under p s (Element name)) → IsLow most (grow End P) p
low_end most P p s name h = subst (λ (z : Option Node). IsLow most (grow_at z End P) p) (sym h.at) (record { at = refl; low = h.low })

low_nodes : (most : ℕ) (ns : Nodes) (P : Tree) (p : Node) → IsLow most P p → (d : ℕ) → d ≡ suc (level p) → AreLow most d ns → IsLow most (grow_all (tokens ns) P) p
low_nodes most none P p h d e k = h
low_nodes most (text before b) P p h d e k =
    subst (λ (z : Tree). IsLow most z p) (sym (grow_all-append (tokens before) (Chars b ∷ []) P)) (low_chars most (grow_all (tokens before) P) p b (low_nodes most before P p h d e k))
low_nodes most (element before n inner) P p h d e k =
    let P1 : Tree = grow_all (tokens before) P in
    let h1 : IsLow most P1 p = low_nodes most before P p h d e k.0 in
    let new : Node = Under p (length P1.nodes) (Element n) in
    let P2 : Tree = grow (Start n) P1 in
    let h2 : IsLow most P2 new = low_start most P1 p n h1 (subst (λ (z : ℕ). z ≤ most) e k.1) in
    let h3 : IsLow most (grow_all (tokens inner) P2) new = low_nodes most inner P2 new h2 (d + 1) (omega arith) k.2 in
    subst (λ (z : Tree). IsLow most z p) (sym (grow_all-append (tokens before) (Start n ∷ (tokens inner ++ (End ∷ []))) P ∙ grow_all-append (tokens inner) (End ∷ []) P2))
    (low_end most (grow_all (tokens inner) P2) p (length P1.nodes) n h3)

-- the tokens of a frame
frame_tokens : (fs : Frames) (x : Content) (n : List ℕ) (ats : Attributes) (sp : List ℕ) → frames_tokens (frame fs x n ats sp) ≡ frames_tokens fs ++ (tokens (with_run (nodes x) (text_run x)) ++ (Start (encodes n) ∷ tokens (attribute_nodes ats)))
frame_tokens fs x n ats sp = rw (tokens-with_run (nodes x) (text_run x)) (simp append_assoc)

module _ (lim : Limits) where
  abbrev OpenLow : Frames → Type 0
  OpenLow fs = (p : Node) × (level p ≡ depth fs) × IsLow lim.depth (grow_all (frames_tokens fs) opening) p

  opening_low : IsLow lim.depth opening Root
  opening_low = record { at = refl; low = λ n m i k. elim i [ inl e ↦ absurd (no_element m (ap kind_of e ∙ k)) | inr a ↦ absurd a ] }
    where
      no_element : (m : List ℕ) → Document ≡ Element m → ⊥
      no_element m e = cc

  frames_low : (fs : Frames) (rest : List ℕ) → IsFrames fs → Clean lim (frames_spelling fs ++ rest) → OpenLow fs
  frames_low bottom rest g h = (Root, refl, opening_low)
  frames_low (frame fs x n ats sp) rest g h =
      let all : Clean lim ((frames_spelling fs ++ spelling x) ++ (60 ∷ (n ++ (attributes_spelling ats ++ (sp ++ (62 ∷ rest)))))) = subst (Clean lim) (simp append_assoc) h in
      let outer = frames_low fs (spelling x ++ (60 ∷ (n ++ (attributes_spelling ats ++ (sp ++ (62 ∷ rest)))))) g.0 (subst (Clean lim) (append_assoc (frames_spelling fs) (spelling x) (60 ∷ (n ++ (attributes_spelling ats ++ (sp ++ (62 ∷ rest)))))) all) in
      let p : Node = outer.0 in
      let content = content_within lim fs x (60 ∷ (n ++ (attributes_spelling ats ++ (sp ++ (62 ∷ rest))))) g.0 g.1 all in
      let in_tag = tag_within lim fs x n g.0 g.1 g.2 g.3 ats (sp ++ (62 ∷ rest)) g.5 all in
      let P : Tree = grow_all (frames_tokens fs) opening in
      let d : ℕ = depth fs + 1 in
      let e : d ≡ suc (level p) = omega (arith, outer.1) in
      let P1 : Tree = grow_all (tokens (with_run (nodes x) (text_run x))) P in
      let h1 : IsLow lim.depth P1 p = low_nodes lim.depth (with_run (nodes x) (text_run x)) P p outer.2 d e (low_run lim.depth d (nodes x) (text_run x) (content_low lim d x content)) in
      let new : Node = Under p (length P1.nodes) (Element (encodes n)) in
      let P2 : Tree = grow (Start (encodes n)) P1 in
      let h2 : IsLow lim.depth P2 new = low_start lim.depth P1 p (encodes n) h1 (subst (λ (z : ℕ). z ≤ lim.depth) e in_tag.1) in
      let h3 : IsLow lim.depth (grow_all (tokens (attribute_nodes ats)) P2) new = low_nodes lim.depth (attribute_nodes ats) P2 new h2 (d + 1) (omega (arith, e)) (attributes_low lim d ats in_tag.3) in
      let same : grow_all (frames_tokens (frame fs x n ats sp)) opening ≡ grow_all (tokens (attribute_nodes ats)) P2 =
      ap (λ z. grow_all z opening) (frame_tokens fs x n ats sp)
      ∙ grow_all-append (frames_tokens fs) (tokens (with_run (nodes x) (text_run x)) ++ (Start (encodes n) ∷ tokens (attribute_nodes ats))) opening
      ∙ grow_all-append (tokens (with_run (nodes x) (text_run x))) (Start (encodes n) ∷ tokens (attribute_nodes ats)) P in
      (new, omega (arith, outer.1), subst (λ (z : Tree). IsLow lim.depth z new) (sym same) h3)

  -- no element of a front lies deeper than may be
  pub front_low : (fs : Frames) (x : Content) (rest : List ℕ) → IsFrames fs → IsContent (inside fs) x → Clean lim ((frames_spelling fs ++ spelling x) ++ rest) → NoneDeep lim.depth (grow_all (seen_tokens fs x) opening)
  front_low fs x rest g k h =
      let outer = frames_low fs (spelling x ++ rest) g (subst (Clean lim) (append_assoc (frames_spelling fs) (spelling x) rest) h) in
      let P : Tree = grow_all (frames_tokens fs) opening in
      let content = content_within lim fs x rest g k h in
      let low : IsLow lim.depth (grow_all (tokens (nodes x)) P) outer.0 = low_nodes lim.depth (nodes x) P outer.0 outer.2 (depth fs + 1) (omega (arith, outer.1)) (content_low lim (depth fs + 1) x content) in
      subst (λ (z : Tree). NoneDeep lim.depth z) (sym (grow_all-append (frames_tokens fs) (tokens (nodes x)) opening)) low.low
