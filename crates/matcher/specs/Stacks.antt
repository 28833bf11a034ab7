-- How the ranges of frames lie on the stacks (this project's). This follows the code: private functions and the model of `Frames` alone speak of it.
use Rattle.std.specs.Prelude.{◌≡◌, ◌<◌, ◌≤◌, ◌-◌, ◌↔◌, max, ℕ, true, List, [], ◌∷◌, length, map, take, Option, Some, None, slice_get}
use Rattle.gcx_model.specs.Members.{In}
use Rattle.path_states.specs.Lists.{From}
use Rattle.matcher.specs.Parts.{NodeMarks, IsOpen, IsUnmatched, at_level}
use Rattle.matcher.specs.declared.frames.Context.{Context}
use Rattle.matcher.specs.declared.frames.Found.{Found}
use Rattle.matcher.specs.declared.frames.Frame.{Frame}
use Rattle.matcher.specs.declared.frames.Range.{Range}

-- each range begins where the one before ends, the first at this place, and the last ends at n
abbrev pub FollowOn : (place : ℕ) → List Range → (n : ℕ) → Type 0
FollowOn place [] n = place ≡ n
FollowOn place (p ∷ ps) n = (p.from ≡ place) × (place ≤ p.to) × FollowOn p.to ps n

abbrev pub contexts_in : Frame → Range
contexts_in frame = frame.contexts

abbrev pub firsts_in : Frame → Range
firsts_in frame = frame.found

-- The ranges of the frames follow each other on either stack, from its beginning to its end: nothing lies there that is of no frame.
pub record AreStacked (cs : List Context) (fs : List Found) (frames : List Frame) : Type 0 where
  pub contexts : FollowOn 0 (map contexts_in frames) (length cs)
  pub found : FollowOn 0 (map firsts_in frames) (length fs)

-- a context of the role without a match stands at the place i
pub record OpenAt (contexts : List Context) (i r : ℕ) : Type 0 where
  pub context : Context
  pub at : slice_get contexts i ≡ Some context
  pub is : IsOpen r context

abbrev pub IsIn : Range → ℕ → Type 0
IsIn p i = (p.from ≤ i) × (i < p.to)

-- those of Q have a match now, and nothing else is changed
pub record Noted (before now : List Context) (Q : ℕ → ℕ → Type 0) : Type 0 where
  pub as_many : length now ≡ length before
  pub has : (i r : ℕ) → OpenAt now i r ↔ (OpenAt before i r × (Q i r → ⊥))

-- the place i is in the frame of the found context's level, and r is its role
pub record Finds (frames : List Frame) (f : Found) (i r : ℕ) : Type 0 where
  pub frame : Frame
  pub at : slice_get frames f.level ≡ Some frame
  pub within : IsIn frame.contexts i
  pub same : f.role ≡ r

-- what was found has a match now
abbrev pub FoundNoted : List Frame → List Found → (before now : List Context) → Type 0
FoundNoted frames found before now = Noted before now (λ i r. From found (λ (f : Found) (q : ℕ). Finds frames f i q) r)

-- all but the last; the first one stays
abbrev pub outer_marks : List NodeMarks → List NodeMarks
outer_marks ms = take (max 1 (length ms - 1)) ms

abbrev pub last_marks : List NodeMarks → Option NodeMarks
last_marks ms = slice_get ms (length ms - 1)

-- the first matches of these marks, if there are any
abbrev pub found_in : Option NodeMarks → List Found
found_in None = []
found_in (Some m) = m.found

-- the contexts that are found have a match now: what became of the marks of the level
pub record IsMatched (found : List Found) (level : ℕ) (before now : NodeMarks) : Type 0 where
  pub same_found : now.found ≡ before.found
  pub same_signed : now.signed ≡ before.signed
  pub open_to : (r : ℕ) → IsUnmatched now.contexts r → IsUnmatched before.contexts r × (In (at_level r level) found → ⊥)
  pub open_from : (r : ℕ) → IsUnmatched before.contexts r × (In (at_level r level) found → ⊥) → IsUnmatched now.contexts r

-- what became of those of all levels
pub record AreMatched (found : List Found) (before now : List NodeMarks) : Type 0 where
  pub count : length now ≡ length before
  pub each : (l : ℕ) (one : NodeMarks) → slice_get now l ≡ Some one → (other : NodeMarks) × (slice_get before l ≡ Some other) × IsMatched found l other one

-- the same frames, of which that of the level is noted as one at which a statement is signed
pub record IsNoted (before now : List Frame) (level : ℕ) : Type 0 where
  pub count : length now ≡ length before
  pub frame : (i : ℕ) (one : Frame) → slice_get now i ≡ Some one → (other : Frame) × (slice_get before i ≡ Some other) × (one ≡ record other { signed = one.signed }) × (other.signed ≡ true → one.signed ≡ true)
  pub is : (one : Frame) → slice_get now level ≡ Some one → one.signed ≡ true

-- the same of their marks
pub record IsSigned (before now : List NodeMarks) (level : ℕ) : Type 0 where
  pub count : length now ≡ length before
  pub each : (i : ℕ) (one : NodeMarks) → slice_get now i ≡ Some one → (other : NodeMarks) × (slice_get before i ≡ Some other) × (one ≡ record other { signed = one.signed }) × (other.signed ≡ true → one.signed ≡ true)
  pub is : (one : NodeMarks) → slice_get now level ≡ Some one → one.signed ≡ true
