-- What the searches of a buffer tell of a loop's matches.
use Rattle.std.proofs.Common.{◌≡◌, zero, suc, ℕ, List, Option, None, Result, Ok, Err, refl, sym, subst}
use Rattle.std.specs.Prelude.{IfOk}
use Rattle.gcx_base.specs.declared.steps.Step.{Step}
use Rattle.node_store.specs.declared.store.Place.{Place}
use Rattle.buf_tree.specs.Shape.{Cell, num}
use Rattle.cond_eval.specs.Searches.{Finds}
use Rattle.pull_eval.specs.Rounds.{from_seen}

-- where nothing is known the search begins at the row itself
pub finds_seen : (rows : List Cell) (c : Cell) (s : Step) (seen : ℕ) (found : Option Place) → seen ≡ 0 → Finds rows c s (num c) found → Finds rows c s (from_seen c seen) found
finds_seen rows c s seen found e f = subst (λ (z : ℕ). Finds rows c s (from_seen c z) found) (sym e) f

pub finds_behind : (rows : List Cell) (c : Cell) (s : Step) (seen : ℕ) (found : Option Place) → (seen ≡ 0 → ⊥) → Finds rows c s seen found → Finds rows c s (from_seen c seen) found
finds_behind rows c s zero found n f = absurd (n refl)
finds_behind rows c s (suc k) found n f = f

-- what holds of a call that takes no action, where it had the memory
pub ok_none : {A E : Type 0} (result : Result (Option A) E) (B : Type 0) (P : Option A → Type 0) → IfOk result (λ a. B × (a ≡ None)) → (B → P None) → IfOk result P
ok_none (Ok a) B P h f = subst P (sym h.1) (f h.0)
ok_none (Err e) B P h f = tt
