-- Tokens that come behind others, within limits (this project's).
use Rattle.std.specs.Prelude.{◌≡◌, ◌≤◌, ◌+◌, ◌^◌, ℕ, true, List, [], ◌∷◌, length, map, Some}
use Rattle.gcx_model.specs.Tree.{Node, Tree, TreeToken as Said, grow, opening}
use Rattle.gcx_model.specs.Growth.{level, may_all, may_come}
use Rattle.gcx_model.specs.Seen.{seen_tree}
use Rattle.doc_reader.specs.Standing.{Lent, lent_token}

-- the tokens that these are
abbrev pub said_lent : (bytes : List ℕ) → List Lent → List Said
said_lent bytes lent = map (lent_token bytes) lent

-- the token may come behind this tree, which is within limits
pub record ComesWithin (t : Said) (P : Tree) : Type 0 where
  pub may : may_come t P ≡ true
  pub nodes : length P.nodes ≤ 2 ^ 40 + 1
  pub depth : (p : Node) → P.at ≡ Some p → level p ≤ 1000

-- the innermost open node lies no deeper than a document may be
abbrev pub IsLow : Tree → Type 0
IsLow P = (p : Node) → P.at ≡ Some p → level p ≤ 1000

-- they come one behind the other, within limits
abbrev pub AllCome : Tree → List Said → Type 0
AllCome P [] = IsLow P
AllCome P (t ∷ ts) = ComesWithin t P × AllCome (grow t P) ts

-- These tokens may come behind those, within limits.
pub record ComeBehind (given more : List Said) : Type 0 where
  pub may : may_all given opening ≡ true
  pub come : AllCome (seen_tree given) more
