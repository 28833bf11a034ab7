-- This follows the code, for its proofs: no public clause speaks of it.
-- What a call puts at the end of a body, and what it counts.
use Rattle.std.specs.Prelude.{ℕ, ◌≡◌, ◌+◌, Bool}
use Rattle.gcx_model.specs.declared.item.Body.{Body}
use Rattle.gcx_model.specs.Core.{CondTree, ItemTree, BodyTree, Then}
use Rattle.gcx_model.specs.ItemView.{body_tree}
use Rattle.gcx_model.specs.Normal.{join}
use Rattle.xq_normal.specs.Raw.{spread_on}
use Rattle.xq_normal.specs.Shapes.{capped}

-- these items are put at the end
abbrev pub PutsItems : (before after : Body) → BodyTree → Type 0
PutsItems before after more = body_tree after ≡ join (body_tree before) more

-- an item of the branch of an If is read: what stands for the If stays, whatever comes behind
abbrev pub Spreads : CondTree → (first : Bool) → ItemTree → (run_before run_after : Body) → (before after : Body) → Type 0
Spreads c first item r s before after = (rest : BodyTree) → join (body_tree after) (spread_on c first (body_tree s) rest) ≡ join (body_tree before) (spread_on c first (body_tree r) (Then item rest))

-- a count goes on by so many; where it would pass the largest number it is that
abbrev pub CountsOn : (before after more : ℕ) → Type 0
CountsOn before after more = (n : ℕ) → before ≡ capped n → after ≡ capped (n + more)
