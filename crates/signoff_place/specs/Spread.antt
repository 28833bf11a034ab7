-- This follows the code, for its proofs: no public clause speaks of it.
-- The statements of a core by the bodies at whose ends they stand (this project's).
use Rattle.std.specs.Prelude.{ℕ, zero, suc, ◌<◌, Bool, true, false, cond, ◌&&◌, not, ◌==◌, List, [], ◌∷◌, ◌++◌, map, filter, slice_index_or}
use Rattle.gcx_base.specs.declared.ids.Role.{Role}
use Rattle.gcx_base.specs.declared.ids.VarId.{VarId}
use Rattle.gcx_base.specs.declared.steps.Step.{Step}
use Rattle.gcx_model.specs.Core.{OffTree, RoleRowTree, VarRowTree}
use Rattle.gcx_model.specs.Placed.{is_own}
use Rattle.signoff_place.specs.declared.statements.Known.{Known}

-- whether it takes back its base's own role is `own`
abbrev pub is_turn : (own : Bool) → OffTree → Bool
is_turn true o = is_own o
is_turn false o = not (is_own o)

-- those of a body in one turn
abbrev pub ends_at : (own : Bool) → List OffTree → (base : ℕ) → List OffTree
ends_at own os base = filter (λ o. (o.base == base) && is_turn own o) os

-- ---- What statements name of the variables

-- the own roles from variable 0 on, the fsas from variable 1 on, and the steps from its fsa to each variable from 0 on
pub record Tables : Type 0 where
  pub own : List ℕ
  pub fsa : List ℕ
  pub rels : List (List Step)

abbrev pub tables : Known → Tables
tables k = record { own = map (λ (r : Role). r.0) k.own.items; fsa = map (λ (x : VarId). x.0) k.fsa; rels = k.rels.items }

-- the fsa of a variable
abbrev pub base_at : List ℕ → ℕ → ℕ
base_at fsa zero = 0
base_at fsa (suc k) = slice_index_or fsa k 0

-- each fsa is below this number
abbrev pub Within : ℕ → Tables → Type 0
Within n t = (x : ℕ) → base_at t.fsa x < n

-- the statement of the role with the number k
abbrev pub stated : Tables → (k : ℕ) → RoleRowTree → OffTree
stated t k r = record { base = base_at t.fsa r.var; own = slice_index_or t.own (base_at t.fsa r.var) k; role = k; rel = slice_index_or t.rels r.var []; tail = r.tail; kind = r.kind }

-- those of the roles from k on
abbrev pub all_stated : Tables → (k : ℕ) → List RoleRowTree → List OffTree
all_stated t k [] = []
all_stated t k (r ∷ rs) = stated t k r ∷ all_stated t (suc k) rs

-- ---- The steps from its fsa to each variable from 0

abbrev pub rel_next : (straight : Bool) → List Step → Step → List Step
rel_next straight parent s = cond straight [] (parent ++ s ∷ [])

abbrev pub with_rels : List (List Step) → List VarRowTree → List Bool → List (List Step)
with_rels rels [] straight = rels
with_rels rels (r ∷ rs) [] = rels
with_rels rels (r ∷ rs) (c ∷ cs) = with_rels (rels ++ rel_next c (slice_index_or rels r.parent []) r.step ∷ []) rs cs
