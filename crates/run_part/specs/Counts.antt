-- The numbers that the two actors count of the tokens fed (this project's).
use Rattle.std.specs.Prelude.{◌≡◌, ◌≤◌, ◌<◌, ◌+◌, ℕ, List, length}
use Rattle.gcx_model.specs.Tree.{TreeToken as Said}
use Rattle.gcx_model.specs.Core.{PlanTree}
use Rattle.gcx_model.specs.Held.{sum_given}
use Rattle.gcx_model.specs.Demand.{peak_of}
use Rattle.gcx_model.specs.Seen.{seen_tree}
use Rattle.buf_tree.specs.View.{View, capped}
use Rattle.run_part.specs.declared.actors.Tallied.{Tallied}

-- A greatest number of rows: with one token at a time it is the peak, else at least the peak, and above it by less than `ahead`.
pub record Peaks (peak ahead most : ℕ) : Type 0 where
  pub least : peak ≤ most
  pub near : most < peak + ahead

-- The numbers of these tokens: of the roles given, and of the rows that were counted.
pub record CountsOf (plan : PlanTree) (ts : List Said) (ahead : ℕ) (v : View) (n : Tallied) : Type 0 where
  pub given : n.given ≡ capped (sum_given plan (seen_tree ts))
  pub peak : Peaks (peak_of plan ts) ahead n.peak
  pub among : n.peak ≤ length (seen_tree ts).nodes
  pub store_now : length v.rows ≤ v.most
