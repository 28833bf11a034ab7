-- The statements that waited, as actions of which the matcher hears (this project's). This follows the code: private functions alone speak of it.
use Rattle.std.specs.Prelude.{◌≡◌, false, List, [], ◌∷◌, ◌++◌}
use Rattle.gcx_model.specs.Tree.{Tree, Node, serial_of}
use Rattle.gcx_model.specs.Paths.{matches}
use Rattle.gcx_model.specs.Members.{In}
use Rattle.gcx_model.specs.Core.{PlanTree}
use Rattle.gcx_model.specs.ItemView.{off_tree}
use Rattle.gcx_model.specs.Run.{Action, Offed}
use Rattle.gcx_model.specs.Placed.{offs_in}
use Rattle.gcx_model.specs.Growth.{level}
use Rattle.gcx_model.specs.Held.{path_of}
use Rattle.gcx_model.specs.Past.{Past, open_nodes}
use Rattle.matcher.specs.Matcher.{MatcherAt}
use Rattle.matcher.specs.View.{MatcherView}
use Rattle.buf_tree.specs.declared.ahead.Ahead.{Ahead}

-- a statement of the plan, carried out at this open node, which is a match of its base's path
pub record IsDue (plan : PlanTree) (P : Tree) (a : Ahead) (n : Node) : Type 0 where
  pub stated : In (off_tree a.off) (offs_in plan.body)
  pub is_open : In n (open_nodes P)
  pub same : level n ≡ a.level
  pub base : In n (matches P 0 (path_of plan (off_tree a.off).base))

-- each at its node
abbrev pub AreDue : PlanTree → Tree → List Ahead → List Node → Type 0
AreDue plan P [] [] = Unit {0}
AreDue plan P [] (n ∷ ns) = ⊥
AreDue plan P (a ∷ rest) [] = ⊥
AreDue plan P (a ∷ rest) (n ∷ ns) = IsDue plan P a n × AreDue plan P rest ns

-- the actions of carrying them out
abbrev pub carried : List Ahead → List Node → List Action
carried [] ns = []
carried (a ∷ rest) [] = []
carried (a ∷ rest) (n ∷ ns) = Offed (off_tree a.off) (serial_of n) ∷ carried rest ns

abbrev pub with_more : List Action → Past → Past
with_more A past = record past { acts = past.acts ++ A }

-- telling a matcher of these statements made this of it
abbrev pub HearsOf : (m n : MatcherView) → List Ahead → Type 0
HearsOf m n waiting = (past : Past) (ns : List Node) → MatcherAt m past false → AreDue past.plan past.tree waiting ns
    → MatcherAt n (with_more (carried waiting ns) past) false
