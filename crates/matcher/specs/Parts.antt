-- What is kept of an open node beside its state, by its ranges of the stacks (this project's). Public clauses speak of it inside `Stands` alone.
use Rattle.std.specs.Prelude.{◌≡◌, ℕ, Bool, true, false, List, take, drop, map, refl}
use Rattle.std.specs.Coded.{Coded, code_by, coded×, coded_ℕ, coded_bool, coded_list}
use Rattle.gcx_model.specs.Members.{In}
use Rattle.matcher.specs.declared.frames.Range.{Range}
use Rattle.matcher.specs.declared.frames.Found.{Found}
use Rattle.matcher.specs.declared.frames.Context.{Context}
use Rattle.matcher.specs.declared.frames.Frame.{Frame}

-- the part of a list
abbrev pub slice_of : {X : Type 0} → Range → List X → List X
slice_of p xs = drop p.from (take p.to xs)

-- x is the context of the role, without a match
abbrev pub IsOpen : ℕ → Context → Type 0
IsOpen r x = (x.role ≡ r) × (x.unmatched ≡ true)

-- the role stands there without a match
pub record IsUnmatched (contexts : List Context) (r : ℕ) : Type 0 where
  pub context : Context
  pub member : In context contexts
  pub of : context.role ≡ r
  pub is : context.unmatched ≡ true

-- the roles of which a node is a context, those whose first match it is, and whether a statement is signed at it
pub record NodeMarks : Type 0 where
  pub contexts : List Context
  pub found : List Found
  pub signed : Bool

abbrev pub context_code : Coded Context
context_code = code_by (ℕ × Bool) (coded× coded_ℕ coded_bool) (λ x. (x.role, x.unmatched)) (λ p. record { role = p.0; unmatched = p.1 }) (λ _. refl)

abbrev pub found_code : Coded Found
found_code = code_by (ℕ × ℕ) (coded× coded_ℕ coded_ℕ) (λ f. (f.role, f.level)) (λ p. record { role = p.0; level = p.1 }) (λ _. refl)

abbrev pub marks_code : Coded NodeMarks
marks_code =
    code_by (List Context × (List Found × Bool)) (coded× (coded_list context_code) (coded× (coded_list found_code) coded_bool))
    (λ m. (m.contexts, (m.found, m.signed)))
    (λ p. record { contexts = p.0; found = p.1.0; signed = p.1.1 })
    (λ _. refl)

-- the role with the level of a context
abbrev pub at_level : ℕ → ℕ → Found
at_level r l = record { role = r; level = l }

-- the context of the role, without a match
abbrev pub open_context : ℕ → Context
open_context r = record { role = r; unmatched = true }

-- the marks of a frame
abbrev pub marks_at : List Context → List Found → Frame → NodeMarks
marks_at cs fs frame = record { contexts = slice_of frame.contexts cs; found = slice_of frame.found fs; signed = frame.signed }

abbrev pub marks_of : List Context → List Found → List Frame → List NodeMarks
marks_of cs fs frames = map (marks_at cs fs) frames

-- the marks of a new node that is a context of these roles, and the first match of these
abbrev pub new_marks : List ℕ → List Found → NodeMarks
new_marks roles found = record { contexts = map open_context roles; found = found; signed = false }
