-- The query of `selfrun` and the document that it runs over (this project's).
use Rattle.std.specs.Prelude.{ℕ, ◌<◌, ◌^◌, true, List}
use Rattle.gcx_base.specs.Limits.{full_limits}
use Rattle.gcx_gen.specs.Generated.{document}
use Rattle.gcx_model.specs.Document.{Nodes}
use Rattle.gcx_model.specs.Query.{ExprTree}
use Rattle.gcx_model.specs.Seen.{SeenIs}
use Rattle.gcx_model.specs.Tree.{TreeToken}
use Rattle.tree_read.specs.Document.{BytesSpell}
use Rattle.xq_parse.specs.Faults.{HasOnlyQuery}
use Rattle.gcx_cmd.specs.Main.{Accepts, IsDocument, IsQuery}
use Rattle.gcx_cmd.specs.Texts.{self_query}

-- The one query that the text of `selfrun` spells, and the document that is made from the numbers, with its tokens.
pub record SelfInput (seed count : ℕ) : Type 0 where
  pub query : List ExprTree
  pub accepted : Accepts self_query query
  pub only : HasOnlyQuery self_query query
  pub nodes : Nodes
  pub spelled : BytesSpell (document seed count) nodes
  pub tokens : List TreeToken
  pub seen : SeenIs full_limits (document seed count) true tokens

-- That query is accepted, and each such document is spelled and has no fault.
abbrev pub SelfrunIsAccepted : Type 0
SelfrunIsAccepted = IsQuery self_query
    × ((seed count : ℕ) → count < 2 ^ 32 → (d : Nodes) × BytesSpell (document seed count) d × IsDocument (document seed count))
