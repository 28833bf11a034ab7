-- What the walks in document order answer. This follows the code: private functions alone speak of it.
use Rattle.std.specs.Prelude.{◌≡◌, ◌≤◌, ◌⊎◌, ℕ, List, Option, MatchOption, option_map}
use Rattle.node_store.specs.declared.store.Place.{Place}
use Rattle.gcx_model.specs.Members.{In}
use Rattle.buf_tree.specs.Shape.{Cell, num, AtPlace, AtPlaces}
use Rattle.buf_tree.specs.Walk.{Inside, IsLast, JustBefore, BeforeIn, BehindIn}
use Rattle.buf_tree.specs.Match.{IsChild}

-- one of the rows has the place, and R holds of it
abbrev pub HasAt : List Cell → ℕ → (Cell → Type 0) → Type 0
HasAt xs p R = (t : Cell) × In t xs × (t.place ≡ p) × R t

-- the row at q is the last of the subtree of that at p
abbrev pub LastAt : List Cell → (p q : ℕ) → Type 0
LastAt xs p q = AtPlace xs p (λ c. HasAt xs q (IsLast xs c))

-- the row just before that at p
abbrev pub BeforeAt : List Cell → ℕ → Option Place → Type 0
BeforeAt xs p r = AtPlace xs p (λ h. MatchOption r (num h ≡ 0) (λ q. HasAt xs q.0 (λ t. JustBefore xs t h)))

-- the last row below that at p
abbrev pub LastBelow : List Cell → ℕ → Option Place → Type 0
LastBelow xs p r =
    AtPlace xs p (λ c. MatchOption r ((x : Cell) → In x xs → Inside xs c x → ⊥) (λ q. (t : Cell) × In t xs × (t.place ≡ q.0) × Inside xs c t × ((x : Cell) → In x xs → Inside xs c x → num x ≤ num t)))

-- the last row before that at q of those below the row at p, as that one is
abbrev pub BeforeBelow : List Cell → (p q : ℕ) → Option Place → Type 0
BeforeBelow xs p q r = AtPlaces xs p q (λ c h. Inside xs c h → BeforeIn xs (Inside xs c) (num h) (option_map (λ o. o.0) r))

-- the first row behind that at q of those below the row at p
abbrev pub BehindBelow : List Cell → (p q : ℕ) → Option Place → Type 0
BehindBelow xs p q r = AtPlaces xs p q (λ c h. BehindIn xs (Inside xs c) (num h) (option_map (λ o. o.0) r))

-- the first child of the row at p behind the row at q, which is that row or a child of it
abbrev pub ChildBehind : List Cell → (p q : ℕ) → Option Place → Type 0
ChildBehind xs p q r = AtPlaces xs p q (λ c h. (c ≡ h) ⊎ IsChild c h → BehindIn xs (IsChild c) (num h) (option_map (λ o. o.0) r))
