-- The tokens that wait, in one queue (this project's).
use Rattle.std.specs.Prelude.{ℕ, List}
use Rattle.gcx_model.specs.Tree.{TreeToken}

-- the text at hand, the tokens of the whole tags, and those of the tag that is being read and of the text before it
pub record Queue : Type 0 where
  pub run : List ℕ
  pub tokens : List TreeToken
  pub pending : List TreeToken
