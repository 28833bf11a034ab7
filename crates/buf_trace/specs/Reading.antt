-- What a reading of a text finds (this project's).
use Rattle.std.specs.Prelude.{◌≡◌, ℕ, Bool, true, not, ◌&&◌, ◌||◌, ◌==◌, length, List, [], ◌∷◌, map, Option, Some, None}
use Rattle.std.specs.Borrow.{Bor}
use Rattle.std.specs.List.{flat_map}
use Rattle.gcx_base.specs.declared.ids.Role.{Role}
use Rattle.gcx_model.specs.Demand.{number_text}
use Rattle.gcx_model.specs.Members.{In}

-- what has this text, where anything has it that the type holds
abbrev pub Reads : {A : Type 0} → (Fits : A → Type 0) → (shown : A → List ℕ) → (text : List ℕ) → Option A → Type 0
Reads {A} Fits shown text None = (a : A) → Fits a → shown a ≡ text → ⊥
Reads Fits shown text (Some a) = Fits a × (shown a ≡ text)

abbrev pub is_space : ℕ → Bool
is_space c = c == 32

-- no space stands in it
abbrev pub IsWord : List ℕ → Type 0
IsWord text = In 32 text → ⊥

-- a space and the rest, if there is a rest
abbrev pub behind : Option (Bor (List ℕ)) → List ℕ
behind None = []
behind (Some rest) = 32 ∷ rest.now

-- each role's number behind a space
abbrev pub roles_text : List Role → List ℕ
roles_text roles = flat_map number_text (map (λ r. r.0) roles)

-- a number begins with no plus sign, and with a zero only where that is all
abbrev pub may_begin : List ℕ → Bool
may_begin [] = true
may_begin (c ∷ cs) = not (c == 43) && (not (c == 48) || (length cs == 0))
