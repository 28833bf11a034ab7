-- How open trees grow, one token at a time (this project's; that texts are never neighbours is of the XQuery 1.0 and XPath 2.0 Data Model, section 6.7.1).
use Rattle.std.specs.Prelude.{◌≡◌, ℕ, suc, Bool, true, false, not, ◌&&◌, List, [], ◌∷◌, ◌++◌, length, ◌==◌, ◌-◌, replicate, Option, Some, None, bytes_eq}
use Rattle.std.specs.Str.{chars}
use lib.Utf8.{encodes}
use Rattle.gcx_base.specs.declared.kind.Kind.{Kind}
use Rattle.gcx_base.specs.declared.kind.Kind.TheVariants.{Document, Element, Text}
use Rattle.gcx_model.specs.Document.{is_blank}
use Rattle.gcx_model.specs.Tree.{Node, Root, Under, serial_of, above, Tree, TreeToken, Start, Chars, End, grow}
use Rattle.gcx_base.specs.Name.{is_name, IsNameBytes}

-- behind the document node there is a root element
abbrev pub has_root : List Node → Bool
has_root [] = false
has_root (r ∷ []) = false
has_root (r ∷ n ∷ ns) = true

abbrev pub is_text_in : Node → Node → Bool
is_text_in p Root = false
is_text_in p (Under q s Document) = false
is_text_in p (Under q s (Element name)) = false
is_text_in p (Under q s (Text b)) = serial_of q == serial_of p

-- the last of the nodes is a text whose parent is p
abbrev pub ends_in_text : Node → List Node → Bool
ends_in_text p [] = false
ends_in_text p (n ∷ []) = is_text_in p n
ends_in_text p (m ∷ (n ∷ ns)) = ends_in_text p (n ∷ ns)

-- Grow: one token more. A new open element with a name (XML 1.0, section 2.3) as last child of the innermost open node, but no second root; a new text as last child of the innermost open element, not beside another text; the innermost open element closed; or, behind a closed root, the document node closed.
pub data Grow (P Q : Tree) : Type 0 where
  opened : (p : Node) (name : List ℕ) → IsNameBytes name → P.at ≡ Some p → (p ≡ Root → has_root P.nodes ≡ false)
      → Q.nodes ≡ P.nodes ++ Under p (length P.nodes) (Element name) ∷ [] → Q.at ≡ Some (Under p (length P.nodes) (Element name)) → Grow P Q
  added : (p : Node) (s : ℕ) (k : Kind) (bytes : List ℕ) → P.at ≡ Some (Under p s k) → is_blank bytes ≡ false → ends_in_text (Under p s k) P.nodes ≡ false
      → Q.nodes ≡ P.nodes ++ Under (Under p s k) (length P.nodes) (Text bytes) ∷ [] → Q.at ≡ P.at → Grow P Q
  closed : (p : Node) (s : ℕ) (k : Kind) → P.at ≡ Some (Under p s k) → Q.nodes ≡ P.nodes → Q.at ≡ Some p → Grow P Q
  ended : P.at ≡ Some Root → has_root P.nodes ≡ true → Q.nodes ≡ P.nodes → Q.at ≡ None → Grow P Q

-- P <= Q
pub data Leads (P : Tree) : Tree → Type 0 where
  stays : Leads P P
  more : {Q R : Tree} → Leads P Q → Grow Q R → Leads P R

-- The same in terms of tokens: what may be fed when.

-- the bytes are a name, as a test
abbrev pub is_name_bytes : List ℕ → Bool
is_name_bytes b = is_name (chars b) && bytes_eq (encodes (chars b)) b

abbrev pub may_come_at : Option Node → TreeToken → List Node → Bool
may_come_at None t ns = false
may_come_at (Some Root) (Start name) ns = is_name_bytes name && not (has_root ns)
may_come_at (Some Root) (Chars b) ns = false
may_come_at (Some Root) End ns = has_root ns
may_come_at (Some (Under p s k)) (Start name) ns = is_name_bytes name
may_come_at (Some (Under p s k)) (Chars b) ns = not (is_blank b) && not (ends_in_text (Under p s k) ns)
may_come_at (Some (Under p s k)) End ns = true

abbrev pub may_come : TreeToken → Tree → Bool
may_come t P = may_come_at P.at t P.nodes

-- each may come behind those before it
abbrev pub may_all : List TreeToken → Tree → Bool
may_all [] P = true
may_all (t ∷ ts) P = may_come t P && may_all ts (grow t P)

-- The tokens from the opening tree to an open tree.

-- how deep a node lies; the document node lies at 0
abbrev pub level : Node → ℕ
level Root = 0
level (Under p s k) = suc (level p)

abbrev pub ends : ℕ → List TreeToken
ends n = replicate n End

-- the innermost open node just behind the start of this one
abbrev pub open_at : Node → Node
open_at Root = Root
open_at (Under p s Document) = Under p s Document
open_at (Under p s (Element name)) = Under p s (Element name)
open_at (Under p s (Text b)) = p

abbrev pub token_of : Kind → List TreeToken
token_of Document = []
token_of (Element name) = Start name ∷ []
token_of (Text b) = Chars b ∷ []

-- the tokens behind the node that was opened last, up to the next ones
abbrev pub tokens_behind : (last : Node) → List Node → Option Node → List TreeToken
tokens_behind last [] None = ends (suc (level (open_at last)))
tokens_behind last [] (Some p) = ends (level (open_at last) - level p)
tokens_behind last (Root ∷ ns) at = tokens_behind Root ns at
tokens_behind last (Under p s k ∷ ns) at = ends (level (open_at last) - level p) ++ (token_of k ++ tokens_behind (Under p s k) ns at)

abbrev pub tokens_from : List Node → Option Node → List TreeToken
tokens_from [] at = []
tokens_from (r ∷ ns) at = tokens_behind r ns at

abbrev pub tokens_of : Tree → List TreeToken
tokens_of P = tokens_from P.nodes P.at
