-- The times of a document's nodes, as lists by the nodes' numbers (this project's).
use Rattle.std.specs.Prelude.{◌≡◌, ℕ, ◌<◌, false, List, [], ◌∷◌, ◌++◌, length, get_or, Option, Some, None}
use Rattle.gcx_model.specs.Tree.{Node, serial_of, Tree, TreeToken, Start, Chars, End, opening, grow, grow_all, is_open_at}
use Rattle.gcx_model.specs.Growth.{ends}
use Rattle.time_laws.specs.Times.{Clock, opened_from, closed_from}
use Rattle.trace_check.specs.declared.timed.Fed.{Fed}
use Rattle.trace_check.specs.declared.timed.Fed.TheVariants as fed
use Rattle.trace_check.specs.declared.timed.Timed.{Timed}

-- the times that the lists tell
abbrev pub clock_in : Timed → Clock
clock_in t = record { opened = λ n. get_or t.opened.items n 0; closed = λ n. get_or t.closed.items n 0 }

-- what the token does where this node is the innermost open one
abbrev pub fed_at : Option Node → TreeToken → List Fed
fed_at None t = []
fed_at (Some p) (Start name) = fed.Opened ∷ []
fed_at (Some p) (Chars bytes) = fed.Opened ∷ []
fed_at (Some p) End = fed.Closed (serial_of p) ∷ []

-- what the tokens do, from the tree P on
abbrev pub fed_all : List TreeToken → Tree → List Fed
fed_all [] P = []
fed_all (t ∷ ts) P = fed_at P.at t ++ fed_all ts (grow t P)

-- there is an entry for each node
abbrev pub IsLong : Timed → Type 0
IsLong t = length t.closed.items ≡ length t.tree.nodes

-- These tokens were taken, each by an open node. Of an open node the time of its closing isn't told yet.
pub record HasTaken (ts : List TreeToken) (t : Timed) : Type 0 where
  pub tree_is : t.tree ≡ grow_all ts opening
  pub fed_is : t.fed.items ≡ fed_all ts opening
  pub counted : length t.fed.items ≡ length ts
  pub opened_is : (n : ℕ) → n < length t.tree.nodes → get_or t.opened.items n 0 ≡ opened_from ts opening 0 n
  pub closed_is : (n : ℕ) → n < length t.tree.nodes → is_open_at t.tree.at n ≡ false
      → get_or t.closed.items n 0 ≡ closed_from ts opening 0 n
  pub opened_long : length t.opened.items ≡ length t.tree.nodes
  pub closed_long : IsLong t

-- More tokens were taken, which end what was open.
pub record HasClosed (ts : List TreeToken) (t : Timed) : Type 0 where
  pub closing : List TreeToken
  pub taken : HasTaken (ts ++ closing) t
  pub shut : t.tree.at ≡ None
  pub ends_are : closing ≡ ends (length closing)

-- The whole tree of a document whose first tokens these are, with its times; so many of its tokens are told.
pub record IsTimed (ts : List TreeToken) (t : Timed) : Type 0 where
  pub closed : HasClosed ts t
  pub told : t.told ≡ length ts
