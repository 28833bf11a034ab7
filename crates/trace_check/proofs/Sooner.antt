-- The sooner of two times, and the time of a pair that satisfies a relation.
use Rattle.std.proofs.Common.{◌≡◌, ℕ, ◌+◌, ◌<◌, Bool, List, ◌∷◌, length, map, min, max, get_or, drop, Option, Some, None, refl, sym, ◌∙◌, ap, arith}
use Rattle.std.proofs.lemmas.List.{drop_more, get_or-map}
use Rattle.gcx_model.specs.Values.{ComparedValue}
use Rattle.time_laws.specs.Times.{TimedValue, sooner, pair_at, earliest_with, earliest}
use Rattle.trace_check.specs.Settling.{timed_in}
use Rattle.trace_check.specs.declared.values.TimedValue as code

pub sooner_assoc : (a b c : Option ℕ) → sooner (sooner a b) c ≡ sooner a (sooner b c)
sooner_assoc None b c = refl
sooner_assoc (Some a) None c = refl
sooner_assoc (Some a) (Some b) None = refl
sooner_assoc (Some a) (Some b) (Some c) = let e : min (min a b) c ≡ min a (min b c) = omega arith in ap Some e

-- a value of a list, with its time
pub timed_at : (vs : List code.TimedValue) (i : ℕ) (v : code.TimedValue) → i < length vs → v ≡ get_or vs i v → timed_in v ≡ get_or (map timed_in vs) i (timed_in v)
timed_at vs i v l e = sym (get_or-map timed_in vs i v (timed_in v) l ∙ ap timed_in (sym e))

-- the other values from an index on
pub with_more : (r : ComparedValue → ComparedValue → Bool) (v : TimedValue) (ws : List TimedValue) (i : ℕ) (w : TimedValue) (found : Option ℕ) (all : Option ℕ) → i < length ws → w ≡ get_or ws i w
    → sooner found (earliest_with r v (drop i ws)) ≡ all
    → sooner (sooner found (pair_at (r v.1 w.1) (max v.0 w.0))) (earliest_with r v (drop (i + 1) ws)) ≡ all
with_more r v ws i w found all l e h =
    sooner_assoc found (pair_at (r v.1 w.1) (max v.0 w.0)) (earliest_with r v (drop (i + 1) ws))
    ∙ (ap (λ (xs : List TimedValue). sooner found (earliest_with r v xs)) (sym (drop_more ws i w l ∙ ap (λ (x : TimedValue). x ∷ drop (i + 1) ws) (sym e))) ∙ h)

-- the values of the left side from an index on
pub lefts_more : (r : ComparedValue → ComparedValue → Bool) (vs ws : List TimedValue) (i : ℕ) (v : TimedValue) (found : Option ℕ) (all : Option ℕ) → i < length vs → v ≡ get_or vs i v
    → sooner found (earliest r (drop i vs) ws) ≡ all
    → sooner (sooner found (earliest_with r v ws)) (earliest r (drop (i + 1) vs) ws) ≡ all
lefts_more r vs ws i v found all l e h =
    sooner_assoc found (earliest_with r v ws) (earliest r (drop (i + 1) vs) ws)
    ∙ (ap (λ (xs : List TimedValue). sooner found (earliest r xs ws)) (sym (drop_more vs i v l ∙ ap (λ (x : TimedValue). x ∷ drop (i + 1) vs) (sym e))) ∙ h)
