-- How the roles are found that are taken back in advance (this project's). This follows the code: private functions alone speak of it.
use Rattle.std.specs.Prelude.{◌≡◌, ◌-◌, ◌↔◌, ℕ, Bool, true, List, length, Some}
use Rattle.gcx_model.specs.Core.{RoleTarget, Own, First, Whole}
use Rattle.gcx_model.specs.ItemView.{role_kind}
use Rattle.gcx_model.specs.Members.{In}
use Rattle.path_states.specs.Lists.{Climbs, From}
use Rattle.path_states.specs.declared.paths.Way.{Way}
use Rattle.matcher.specs.Frames.{Hit, IsLevelOf, Up}
use Rattle.matcher.specs.View.{FrameView, MatcherView, innermost_frame}
use Rattle.matcher.specs.declared.signs.Sign.{Sign}

-- the node of the innermost frame has the role with its subtree
pub record HasWhole (frames : List FrameView) (role : ℕ) : Type 0 where
  pub frame : FrameView
  pub last : innermost_frame frames ≡ Some frame
  pub member : In role frame.whole

-- so has the innermost node, and the path of the path state `end` leads to the node of the level
abbrev pub WholeTarget : MatcherView → (role end level : ℕ) → Type 0
WholeTarget m role end level = HasWhole m.frames role × Hit m.frames end level

-- the innermost node is that of the innermost frame, lies at the level, and the path of the path state `end` leads to it
pub record OwnTarget (m : MatcherView) (end level : ℕ) : Type 0 where
  pub here : m.idle ≡ 0
  pub at : length m.frames - 1 ≡ level
  pub hit : Hit m.frames end level

-- it is that of the innermost frame, and is the first match of the role for the context of the level
pub record FirstTarget (m : MatcherView) (role level : ℕ) : Type 0 where
  pub frame : FrameView
  pub last : innermost_frame m.frames ≡ Some frame
  pub here : m.idle ≡ 0
  pub from : From frame.found (IsLevelOf role) level

-- from the level the innermost node has the role of this kind, whose path ends at the path state `end`
abbrev pub Target : RoleTarget → MatcherView → (role end level : ℕ) → Type 0
Target Own m role end level = OwnTarget m end level
Target First m role end level = FirstTarget m role level
Target Whole m role end level = WholeTarget m role end level

-- the levels of the role's variable: those of a Whole role lie above the targets, by its tail
abbrev pub AreVars : RoleTarget → MatcherView → Way → (targets levels : List ℕ) → Type 0
AreVars Own m way targets levels = levels ≡ targets
AreVars First m way targets levels = levels ≡ targets
AreVars Whole m way targets levels = Up m.tree.states.items m.frames way.steps way.end targets levels

-- the levels of the bases: so many steps above those of the variable
pub record AreBases (m : MatcherView) (way : Way) (steps : ℕ) (targets levels : List ℕ) : Type 0 where
  pub vars : List ℕ
  pub are_vars : AreVars (role_kind way.kind) m way targets vars
  pub up : Up m.tree.states.items m.frames steps way.var vars levels

-- one of the signs is of the role
pub record HasSign (signs : List Sign) (role : ℕ) : Type 0 where
  pub sign : Sign
  pub member : In sign signs
  pub of : sign.role ≡ role

-- of the roles of these signs those for which the test holds, in order
pub record AreTaken (test : ℕ → Bool) (signs : List Sign) (roles : List ℕ) : Type 0 where
  pub climbs : Climbs roles
  pub has : (r : ℕ) → In r roles ↔ (HasSign signs r × (test r ≡ true))
