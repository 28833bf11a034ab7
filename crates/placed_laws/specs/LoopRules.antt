-- The variable tree by where the loops stand.
use Rattle.std.specs.Prelude.{◌≡◌, ℕ, ◌≤◌, true, false, not, List, [], ◌∷◌, ◌++◌, length, filter, ◌↔◌}
use Rattle.gcx_base.specs.declared.steps.Step.{Step}
use Rattle.gcx_model.specs.Members.{In}
use Rattle.gcx_model.specs.Core.{CondTree, ItemTree, For, If, BodyTree, Then}
use Rattle.gcx_model.specs.Variables.{is_child, path_in, straight_in, fsa_in, vars}
use Rattle.gcx_model.specs.Cores.{Good}

-- d is what is left, from some item on, of the body of u's loop, or of a branch in it; the body of 0 is the core itself
pub data BodyOf (core : BodyTree) : (u : ℕ) → (d : BodyTree) → Type 0 where
  whole : BodyOf core 0 core
  after_item : {u : ℕ} {i : ItemTree} {d : BodyTree} → BodyOf core u (Then i d) → BodyOf core u d
  inner : {u x y : ℕ} {s : Step} {e d : BodyTree} → BodyOf core u (Then (For x y s e) d) → BodyOf core x e
  this_side : {u : ℕ} {c : CondTree} {a b d : BodyTree} → BodyOf core u (Then (If c a b) d) → BodyOf core u a
  other_side : {u : ℕ} {c : CondTree} {a b d : BodyTree} → BodyOf core u (Then (If c a b) d) → BodyOf core u b

-- the loop of x over y/s stands in the core, and the nearest loop round it is that of u; u is 0 where there is none
abbrev pub LoopIn : BodyTree → (u x y : ℕ) → Step → Type 0
LoopIn core u x y s = (e d : BodyTree) × BodyOf core u (Then (For x y s e) d)

-- The variables are those of the loops.
abbrev pub VariablesOfLoops : Type 0
VariablesOfLoops = (core : BodyTree) (x : ℕ) → In x (vars core) ↔ ((u y : ℕ) × (s : Step) × LoopIn core u x y s)

-- A path goes from variable 0 through the parents, a step for each loop.
abbrev pub PathByLoop : Type 0
PathByLoop = (core : BodyTree) → Good core → (path_in core 0 ≡ []) × ((u x y : ℕ) (s : Step) → LoopIn core u x y s → path_in core x ≡ path_in core y ++ s ∷ [])

-- the descendant steps
abbrev pub descents : List Step → List Step
descents path = filter (λ s. not (is_child s.axis)) path

-- Variable 0 is straight. That of a loop is straight exactly where its parent is straight, the nearest loop round it is the parent's, and its path has at most one descendant step.
abbrev pub StraightByLoop : Type 0
StraightByLoop = (core : BodyTree) → Good core → (straight_in core 0 ≡ true)
    × ((u x y : ℕ) (s : Step) → LoopIn core u x y s → (straight_in core x ≡ true) ↔ ((straight_in core y ≡ true) × (u ≡ y) × (length (descents (path_in core x)) ≤ 1)))

-- The fsa of a straight variable is itself, that of another one its parent's.
abbrev pub FsaByLoop : Type 0
FsaByLoop = (core : BodyTree) → Good core → (fsa_in core 0 ≡ 0)
    × ((u x y : ℕ) (s : Step) → LoopIn core u x y s → (straight_in core x ≡ true → fsa_in core x ≡ x) × (straight_in core x ≡ false → fsa_in core x ≡ fsa_in core y))
