-- The tags that are seen in bytes: those whole before the first fault (this project's).
use Rattle.std.specs.Prelude.{ℕ, ◌≡◌, ◌≤◌, ◌⊎◌, Bool, true, false, List, [], ◌∷◌, ◌++◌, length, None}
use lib.Utf8.{scalar, scalars, encode, encodes}
use Rattle.gcx_base.specs.declared.limits.Limits.{Limits}
use Rattle.gcx_model.specs.Document.{Nodes, tokens}
use Rattle.gcx_model.specs.Tree.{TreeToken, End, Tree, opening, grow_all}
use Rattle.gcx_model.specs.Grammar.{SpellsDocument, Content, nothing, mark, space, char, reference, cdata, comment, bare, instruction, doctype, single, tagged, end_tag_spelling}
use Rattle.gcx_model.specs.Fronts.{Frames, bottom, frame, Piece, no_piece, OpensFrames, inside, seen_tokens}
use Rattle.gcx_model.specs.Faults.{Clean, FaultIs}
use Rattle.std.specs.Prelude.{◌+◌}
use Rattle.std.specs.Prelude.{◌^◌}
use Rattle.std.specs.Prelude.{Some}
use Rattle.gcx_model.specs.Tree.{Node}
use Rattle.gcx_model.specs.Growth.{level}

-- The characters are a front of a document, and these are the tokens of its whole tags. Those of attributes count with their tag.
pub record SeenIn (cs : List ℕ) (ts : List TreeToken) : Type 0 where
  pub frames : Frames
  pub content : Content
  pub piece : Piece
  pub opens : OpensFrames cs frames content piece
  pub tokens_are : ts ≡ seen_tokens frames content

-- These are the most characters of the bytes that may be in which no fault comes.
pub record IsLongest (lim : Limits) (b cs : List ℕ) : Type 0 where
  pub rest : List ℕ
  pub chars : scalars cs ≡ true
  pub parts : b ≡ encodes cs ++ rest
  pub within : length (encodes cs) ≤ lim.bytes
  pub clean : Clean lim cs
  pub most : (c : ℕ) (more : List ℕ) → scalar c ≡ true → rest ≡ encode c ++ more → length (encodes (cs ++ c ∷ [])) ≤ lim.bytes → Clean lim (cs ++ c ∷ []) → ⊥

-- the document node is closed where the input ended without a fault
pub data DocumentEnds (lim : Limits) (b : List ℕ) (ended : Bool) (ends : List TreeToken) : Type 0 where
  closes : ended ≡ true → FaultIs lim b true None → ends ≡ End ∷ [] → DocumentEnds lim b ended ends
  stays_open : (ended ≡ true → FaultIs lim b true None → ⊥) → ends ≡ [] → DocumentEnds lim b ended ends

-- The tokens that are seen in the bytes.
pub record SeenIs (lim : Limits) (b : List ℕ) (ended : Bool) (ts : List TreeToken) : Type 0 where
  pub chars : List ℕ
  pub longest : IsLongest lim b chars
  pub tags : List TreeToken
  pub seen : SeenIn chars tags
  pub ends : List TreeToken
  pub document_ends : DocumentEnds lim b ended ends
  pub tokens_are : ts ≡ tags ++ ends

-- the tree of tokens
abbrev pub seen_tree : List TreeToken → Tree
seen_tree ts = grow_all ts opening

-- the content up to its last tag
abbrev pub up_to_tag : Content → Content
up_to_tag nothing = nothing
up_to_tag mark = nothing
up_to_tag (space before c) = up_to_tag before
up_to_tag (char before c) = up_to_tag before
up_to_tag (reference before r) = up_to_tag before
up_to_tag (cdata before d) = up_to_tag before
up_to_tag (comment before r) = up_to_tag before
up_to_tag (bare before n) = up_to_tag before
up_to_tag (instruction before n c d) = up_to_tag before
up_to_tag (doctype before g c d) = up_to_tag before
up_to_tag (single before n ats sp) = single before n ats sp
up_to_tag (tagged before n ats sp inner sp2) = tagged before n ats sp inner sp2

-- whether a front without a begun piece ends with a start tag, an end tag or an empty-element tag
abbrev pub ends_in_tag : Frames → Content → Bool
ends_in_tag fs nothing = inside fs
ends_in_tag fs (single before n ats sp) = true
ends_in_tag fs (tagged before n ats sp inner sp2) = true
ends_in_tag fs other = false

-- The characters are a front of a document that ends with the last character of a tag.
pub record EndsWithTag (cs : List ℕ) : Type 0 where
  pub frames : Frames
  pub content : Content
  pub opens : OpensFrames cs frames content no_piece
  pub tag : ends_in_tag frames content ≡ true

-- the end tags of the open elements, the innermost first
abbrev pub end_tags : Frames → List ℕ
end_tags bottom = []
end_tags (frame fs x n ats sp) = end_tag_spelling n [] ++ end_tags fs

-- as many ends
abbrev pub open_ends : Frames → List TreeToken
open_ends bottom = []
open_ends (frame fs x n ats sp) = End ∷ open_ends fs

-- The front up to its last tag: it is empty, or it ends with a tag and, closed by end tags, spells a document whose tokens are those seen and the ends.
pub record LastTag (cs : List ℕ) (fs : Frames) (x : Content) : Type 0 where
  pub front : List ℕ
  pub rest : List ℕ
  pub parts : cs ≡ front ++ rest
  pub by_tag : ((front ≡ []) × (seen_tokens fs x ≡ [])) ⊎ ((w : EndsWithTag front) × (d : Nodes) × SpellsDocument (front ++ end_tags w.frames) d × (tokens d ≡ seen_tokens fs x ++ open_ends w.frames))
  -- no longer front ends with a tag
  pub longest : (c r : List ℕ) → cs ≡ c ++ r → EndsWithTag c → length c ≤ length front

-- The same in other words: the longest front of the bytes that has no fault and is empty or ends with a tag; closed by end tags it spells a document,
-- whose tokens are these and the ends.
pub record SeenInWords (lim : Limits) (b : List ℕ) (ts : List TreeToken) : Type 0 where
  pub front : List ℕ
  pub rest : List ℕ
  pub chars : scalars front ≡ true
  pub parts : b ≡ encodes front ++ rest
  pub no_fault : FaultIs lim (encodes front) false None
  pub by_tag : ((front ≡ []) × (ts ≡ [])) ⊎ ((w : EndsWithTag front) × (d : Nodes) × SpellsDocument (front ++ end_tags w.frames) d × (tokens d ≡ ts ++ open_ends w.frames))
  pub longest : (c more : List ℕ) → scalars c ≡ true → b ≡ encodes c ++ more → FaultIs lim (encodes c) false None → EndsWithTag c → length c ≤ length front

-- the tree behind each front of the tokens has no more than 2^40 nodes beside the document node, and no element deeper than 1,000 is open
abbrev pub AreWithin : List TreeToken → Type 0
AreWithin ts = (before after : List TreeToken) → ts ≡ before ++ after → (length (seen_tree before).nodes ≤ 2 ^ 40 + 1) × ((p : Node) → (seen_tree before).at ≡ Some p → level p ≤ 1000)
