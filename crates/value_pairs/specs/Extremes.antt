-- The least and the greatest of some values, by bytes (this project's).
use Rattle.std.specs.Prelude.{◌≡◌, ℕ, Bool, true, false, ◌||◌, if◌then◌else◌, List, [], Option, Some, None}
use Rattle.std.specs.Ordering.{nat_cmp, is_lt, is_gt}
use Rattle.std.specs.Cmp.Lexicographic.{slice_cmp}
use Rattle.gcx_base.specs.declared.rel.Rel.{Rel}
use Rattle.gcx_base.specs.declared.rel.Rel.TheVariants.{Eq, Ne, Lt, Le, Gt, Ge}
use Rattle.gcx_model.specs.Members.{In}
use Rattle.gcx_model.specs.Values.{Bytes, compare}
use Rattle.value_pairs.specs.declared.extent.Extent.{Extent}

-- v does not stand behind w
abbrev pub IsAtMost : (v w : List ℕ) → Type 0
IsAtMost v w = is_gt (slice_cmp nat_cmp v w) ≡ false

-- none of no values
abbrev pub IsLeast : Option (List ℕ) → List (List ℕ) → Type 0
IsLeast None vs = vs ≡ []
IsLeast (Some v) vs = In v vs × ((w : List ℕ) → In w vs → IsAtMost v w)

abbrev pub IsGreatest : Option (List ℕ) → List (List ℕ) → Type 0
IsGreatest None vs = vs ≡ []
IsGreatest (Some v) vs = In v vs × ((w : List ℕ) → In w vs → IsAtMost w v)

pub record Spans (e : Extent) (vs : List (List ℕ)) : Type 0 where
  pub least : IsLeast e.least vs
  pub greatest : IsGreatest e.greatest vs

-- ---- What follows the code: private functions alone speak of it.

abbrev pub lower : List ℕ → Option (List ℕ) → Bool
lower v None = true
lower v (Some w) = is_lt (slice_cmp nat_cmp v w)

abbrev pub higher : List ℕ → Option (List ℕ) → Bool
higher v None = true
higher v (Some w) = is_gt (slice_cmp nat_cmp v w)

abbrev pub lesser : List ℕ → Option (List ℕ) → Option (List ℕ)
lesser v kept = if lower v kept then Some v else kept

abbrev pub greater : List ℕ → Option (List ℕ) → Option (List ℕ)
greater v kept = if higher v kept then Some v else kept

abbrev pub holds_between : Rel → (left right : Option (List ℕ)) → Bool
holds_between rel None right = false
holds_between rel (Some v) None = false
holds_between rel (Some v) (Some w) = compare rel (Bytes v) (Bytes w)

-- what the ends tell
abbrev pub ends_tell : Rel → (left right : Extent) → Bool
ends_tell Eq l r = false
ends_tell Ne l r = holds_between Lt l.least r.greatest || holds_between Gt l.greatest r.least
ends_tell Lt l r = holds_between Lt l.least r.greatest
ends_tell Le l r = holds_between Le l.least r.greatest
ends_tell Gt l r = holds_between Gt l.greatest r.least
ends_tell Ge l r = holds_between Ge l.greatest r.least
