-- Lists of what is kept of questions, with one entry for each (this project's).
use Rattle.std.specs.Prelude.{◌≡◌, ◌⊎◌, ◌++◌, List, [], ◌∷◌}
use Rattle.gcx_model.specs.Members.{In}

-- x is a member: if it was one before nothing changes, else it comes last
abbrev pub AddsOnce : {X : Type 0} → (x : X) → (before after : List X) → Type 0
AddsOnce x before after = (In x before × (after ≡ before)) ⊎ ((In x before → ⊥) × (after ≡ before ++ x ∷ []))
