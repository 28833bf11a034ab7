-- How a shelf is seen: what each name holds, and the name of each handle and what it has left (this project's).
use Rattle.std.specs.Prelude.{◌≡◌, ◌≢◌, ◌⊎◌, ℕ, ◌+◌, ◌<◌, List, [], ◌∷◌, ◌++◌, take, unwrap_or, ⊤, MatchResult}
use Rattle.std.specs.declared.result.Result.{Result}
use Rattle.std.specs.declared.option.Option.{Option}
use Rattle.std.specs.declared.option.Option.TheVariants.{Some, None}

-- what each name holds, None for a name that isn't there; or nothing, where the shelf doesn't tell
abbrev pub Names : Type 0
Names = Option (List ℕ → Option (List ℕ))

-- what the name holds, where the shelf tells it and the name is there
abbrev pub content_of : Names → List ℕ → Option (List ℕ)
content_of None name = None
content_of (Some holds) name = holds name

-- the shelf tells its names, and this one isn't there
abbrev pub IsMissing : Names → List ℕ → Type 0
IsMissing None name = ⊥
IsMissing (Some holds) name = holds name ≡ None

-- the shelf tells its names
abbrev pub IsTelling : Names → Type 0
IsTelling None = ⊥
IsTelling (Some holds) = ⊤

-- a handle is added behind those that were given
pub record Adds (before after handle : ℕ) : Type 0 where
  pub number : handle ≡ before
  pub count : after ≡ before + 1

-- the handle behind those that were given has this name, and they have theirs
pub record AddsName (names : Names) (before after : ℕ → Option (List ℕ)) (name : List ℕ) (handle : ℕ) : Type 0 where
  pub owner : IsTelling names → after handle ≡ Some name
  pub others : (k : ℕ) → k < handle → after k ≡ before k

-- no other handle has anything else left
abbrev pub LeavesOthers : (ℕ → Option (List ℕ)) → (ℕ → Option (List ℕ)) → ℕ → Type 0
LeavesOthers before after handle = (k : ℕ) → k ≢ handle → after k ≡ before k

-- the name holds these bytes, and every other name what it held
abbrev pub Maps : (before after : Names) → (name bytes : List ℕ) → Type 0
Maps None None name bytes = ⊤
Maps None (Some after) name bytes = ⊥
Maps (Some before) None name bytes = ⊥
Maps (Some before) (Some after) name bytes =
    (after name ≡ Some bytes) × ((other : List ℕ) → other ≢ name → after other ≡ before other)

-- The bytes stand behind what the name of a handle held, and every other name holds what it held. The shelf may stop
-- telling.
abbrev pub Appends : (before after : Names) → (owner : Option (List ℕ)) → (bytes : List ℕ) → Type 0
Appends None None owner bytes = ⊤
Appends None (Some after) owner bytes = ⊥
Appends (Some before) None owner bytes = ⊤
Appends (Some before) (Some after) owner bytes = (name : List ℕ) → owner ≡ Some name
    → Maps (Some before) (Some after) name (unwrap_or (before name) [] ++ bytes)

-- It is as before, or isn't told any more.
abbrev pub Stays : (before after : Option (List ℕ)) → Type 0
Stays before after = (after ≡ before) ⊎ (after ≡ None)

-- the handles of other names than this one's have left what they had
abbrev pub OthersStay : (owners before after : ℕ → Option (List ℕ)) → (count handle : ℕ) → Type 0
OthersStay owners before after count handle =
    (k : ℕ) → k < count → owners k ≢ owners handle → Stays (before k) (after k)

-- at Ok the first bytes of the piece stand behind what the name of a handle held, else the names are as before
abbrev pub WriteExtends : {E : Type 0} → (before after : Names) → (owner : Option (List ℕ)) → Result ℕ E
    → (piece : List ℕ) → Type 0
WriteExtends before after owner result piece =
    MatchResult result (λ n. Appends before after owner (take n piece)) (λ _. after ≡ before)

-- The bytes stand behind what the name of a handle held, and nothing changed where there are none.
abbrev pub AppendsAll : (before after : Names) → (owner : Option (List ℕ)) → (bytes : List ℕ) → Type 0
AppendsAll before after owner [] = after ≡ before
AppendsAll before after owner (x ∷ xs) = Appends before after owner (x ∷ xs)

-- a front of the bytes stands there
pub record AppendsWithin (before after : Names) (owner : Option (List ℕ)) (bytes : List ℕ) : Type 0 where
  pub count : ℕ
  pub taken : AppendsAll before after owner (take count bytes)

-- at Ok all of the bytes stand there, else a front of them
abbrev pub Extends : {T E : Type 0} → (before after : Names) → (owner : Option (List ℕ)) → Result T E → (bytes : List ℕ)
    → Type 0
Extends before after owner result bytes =
    MatchResult result (λ _. AppendsAll before after owner bytes) (λ _. AppendsWithin before after owner bytes)
