-- What the frames of open nodes tell together (this project's). This follows the code: private functions alone speak of it.
use Rattle.std.specs.Prelude.{◌≡◌, ◌<◌, ◌⊎◌, ◌∷◌, ◌++◌, ℕ, suc, List, [], map, Some, None, slice_get}
use Rattle.gcx_base.specs.declared.steps.Axis.{Axis}
use Rattle.gcx_base.specs.declared.steps.Axis.TheVariants.{Child, Descendant}
use Rattle.gcx_base.specs.declared.ids.Role.{Role}
use Rattle.gcx_model.specs.Given.{IsAboveLast}
use Rattle.gcx_model.specs.Members.{In}
use Rattle.path_states.specs.Active.{Tells}
use Rattle.path_states.specs.Lists.{Climbs, From, Holds}
use Rattle.path_states.specs.State.{own_roles}
use Rattle.path_states.specs.States.{StatesView}
use Rattle.path_states.specs.declared.paths.PathState.{PathState}
use Rattle.matcher.specs.Parts.{NodeMarks, IsUnmatched}
use Rattle.matcher.specs.View.{FrameView, frames_of}
use Rattle.matcher.specs.declared.frames.Found.{Found}

-- the path state's path leads to the node of the level
pub record Hit (frames : List FrameView) (state level : ℕ) : Type 0 where
  pub frame : FrameView
  pub at : slice_get frames level ≡ Some frame
  pub member : In state frame.active

-- l is this level, and the path state's path leads to its node
abbrev pub HitAt : List FrameView → (state level : ℕ) → ℕ → Type 0
HitAt frames state level l = (level ≡ l) × Hit frames state l

-- l is the level above this one, or one of those above one of these, or one of all above this one, and the path state's path leads to its node
abbrev pub HitAbove : List FrameView → (state level : ℕ) → ℕ → Type 0
HitAbove frames state level l = (level ≡ suc l) × Hit frames state l

abbrev pub HitParent : List FrameView → (state : ℕ) → (levels : List ℕ) → ℕ → Type 0
HitParent frames state levels l = In (suc l) levels × Hit frames state l

abbrev pub HitOver : List FrameView → (state level : ℕ) → ℕ → Type 0
HitOver frames state level l = (l < level) × Hit frames state l

-- the node of the level is a context of the role without a match
pub record Unfound (marks : List NodeMarks) (role level : ℕ) : Type 0 where
  pub one : NodeMarks
  pub at : slice_get marks level ≡ Some one
  pub member : IsUnmatched one.contexts role

-- f is the role with this level, whose node is a context without a match
pub record FoundAt (marks : List NodeMarks) (role level : ℕ) (f : Found) : Type 0 where
  pub of : f.role ≡ role
  pub at : f.level ≡ level
  pub open_yet : Unfound marks role level

-- the level is that of what was found for the role
abbrev pub IsLevelOf : ℕ → Found → ℕ → Type 0
IsLevelOf role f level = (f.role ≡ role) × (f.level ≡ level)

-- by a step of this axis the node of the level l leads to one of these
abbrev pub Over : Axis → List ℕ → ℕ → Type 0
Over Child levels l = In (suc l) levels
Over Descendant levels l = From levels (λ m k. k < m) l

-- Going up from these levels by the path state's step: to those from which it leads there, as far as the path of the path state above leads to them.
pub record StepsUp (frames : List FrameView) (s : PathState) (levels : List ℕ) (l : ℕ) : Type 0 where
  pub over : Over s.step.axis levels l
  pub hit : Hit frames s.parent l

-- the number is that of the role whose first match was found
abbrev pub IsRoleOf : Found → ℕ → Type 0
IsRoleOf f r = f.role ≡ r

-- A node has the role: with its subtree, as a match of the path at whose end it stands, or as a first match. These are the roles with its subtree, the path states whose paths lead to it, and its first matches.
abbrev pub HasRole : List PathState → (whole active : List ℕ) → List Found → ℕ → Type 0
HasRole tree whole active found r = In r whole ⊎ (From active (Tells own_roles tree) r ⊎ From found IsRoleOf r)

-- they are the roles of the one list and those of the other, in order
pub record AreBoth (roles : List ℕ) (found : List Found) (rs : List ℕ) : Type 0 where
  pub climbs : Climbs rs
  pub holds : Holds rs (λ r. In r roles ⊎ From found IsRoleOf r)

-- a role that is above the last is added
abbrev pub AddsRole : (old new : List Role) → ℕ → Type 0
AddsRole old new number = IsAboveLast old (record { 0 = number }) → map (λ (r : Role). r.0) new ≡ map (λ (r : Role). r.0) old ++ number ∷ []

-- these are its roles, in order
pub record AreRoles (tree : List PathState) (whole active : List ℕ) (found : List Found) (rs : List ℕ) : Type 0 where
  pub climbs : Climbs rs
  pub holds : Holds rs (HasRole tree whole active found)

-- Going up by so many steps from the path state `end` and from these levels leads to those levels; none where there is no such path state.
pub data Up (tree : List PathState) (frames : List FrameView) : (steps end : ℕ) → (targets levels : List ℕ) → Type 0 where
  arrived : {end : ℕ} {levels : List ℕ} → Up tree frames 0 end levels levels
  stepped : {steps end : ℕ} {targets between levels : List ℕ} (s : PathState) → slice_get tree end ≡ Some s → Holds between (StepsUp frames s targets) → Up tree frames steps s.parent between levels → Up tree frames (suc steps) end targets levels
  nowhere : {steps end : ℕ} {targets : List ℕ} → slice_get tree end ≡ None → Up tree frames (suc steps) end targets []

-- the same for the states and the marks of the open nodes
abbrev pub UpFrom : StatesView → List NodeMarks → (steps end : ℕ) → (targets levels : List ℕ) → Type 0
UpFrom v marks steps end targets levels = Up v.tree.states.items (frames_of v marks) steps end targets levels
