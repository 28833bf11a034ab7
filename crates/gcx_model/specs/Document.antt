-- Documents as trees (XML 1.0, sections 2.1 and 3; that a text of white space alone is no node is this project's).
use Rattle.std.specs.Prelude.{ℕ, ◌≡◌, Bool, true, false, List, [], ◌∷◌, ◌++◌}
use Rattle.std.specs.List.{list_all}
use Rattle.gcx_base.specs.Characters.{is_white}
use Rattle.gcx_model.specs.Attributes.{IsNameBytes}
use Rattle.gcx_model.specs.Tree.{TreeToken, Start, Chars, End, Tree, opening, grow_all}

-- A list of nodes, built at its end: none; or nodes and behind them an element with its children, or a text.
pub data Nodes : Type 0 where
  none : Nodes
  element : (before : Nodes) (name : List ℕ) (children : Nodes) → Nodes
  text : (before : Nodes) (bytes : List ℕ) → Nodes

-- only white space, or nothing
abbrev pub is_blank : List ℕ → Bool
is_blank bytes = list_all is_white bytes

-- whether a text stands last
abbrev pub ends_with_text : Nodes → Bool
ends_with_text none = false
ends_with_text (element before name children) = false
ends_with_text (text before bytes) = true

-- a text is neither empty nor only white space, two texts are never neighbours, and the name of each element is one (XML 1.0, section 2.3)
abbrev pub AreNodes : Nodes → Type 0
AreNodes none = Unit {0}
AreNodes (element before name children) = AreNodes before × IsNameBytes name × AreNodes children
AreNodes (text before bytes) = AreNodes before × (ends_with_text before ≡ false) × (is_blank bytes ≡ false)

-- a document node has one root element, and no other child
abbrev pub IsDocument : Nodes → Type 0
IsDocument none = ⊥
IsDocument (element none name children) = AreNodes (element none name children)
IsDocument (element (element b n c) name children) = ⊥
IsDocument (element (text b t) name children) = ⊥
IsDocument (text before bytes) = ⊥

-- the tokens of nodes, in document order
abbrev pub tokens : Nodes → List TreeToken
tokens none = []
tokens (element before name children) = tokens before ++ (Start name ∷ (tokens children ++ (End ∷ [])))
tokens (text before bytes) = tokens before ++ (Chars bytes ∷ [])

-- the numbered tree of a whole document, all nodes closed
abbrev pub tree_of : Nodes → Tree
tree_of d = grow_all (tokens d ++ (End ∷ [])) opening
