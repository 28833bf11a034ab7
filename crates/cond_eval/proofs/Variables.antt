-- What is bound, cell by cell.
use Rattle.std.proofs.Common.{◌≡◌, ◌≢◌, ℕ, zero, suc, ◌+◌, ◌<◌, ◌≤◌, true, false, cond, List, [], ◌∷◌, ◌++◌, length, get_or, refl, sym, ◌∙◌, ap, arith, inl, inr, ◌⊎◌, Some, None, Option}
use Rattle.std.proofs.Math.ListN.{set}
use Rattle.std.proofs.lemmas.Bool.{eq-eqb, ne_eqb, cases_eq, cases_lt, false≢true}
use Rattle.std.specs.Ordering.{nat_cmp, eq_by_cmp}
use Rattle.std.specs.Cmp.{nat_cmp_total, unsigned_tied}
use Rattle.std.specs.FinMap as map
use Rattle.std.specs.FinMap.{find, get, insert, remove, get-insert, get-remove, get-from_entries, same_map, nat_cmp-IsAntisymmetric}
use Rattle.cond_eval.specs.Bindings.{pairs_from, bindings}
use Rattle.cond_eval.specs.declared.env.Bound.{Bound}

-- the pair in the cell
abbrev pub pair_in : Option Bound → Option (ℕ × ℕ)
pair_in None = None
pair_in (Some b) = Some (b.place.0, b.serial.0)

-- that in the cell of the variable, where there is one
abbrev pub pair_at : List (Option Bound) → ℕ → Option (ℕ × ℕ)
pair_at [] q = None
pair_at (o ∷ bs) zero = pair_in o
pair_at (o ∷ bs) (suc q) = pair_at bs q

same_key : (q k : ℕ) → q ≡ k → eq_by_cmp nat_cmp q k ≡ true
same_key q k e = unsigned_tied q k ∙ eq-eqb q k e

other_key : (q k : ℕ) → q ≢ k → eq_by_cmp nat_cmp q k ≡ false
other_key q k e = unsigned_tied q k ∙ ne_eqb q k e

-- below the first variable nothing is bound
none_below : (bs : List (Option Bound)) (x q : ℕ) → q < x → find nat_cmp q (pairs_from x bs) ≡ None
none_below [] x q h = refl
none_below (None ∷ bs) x q h = none_below bs (suc x) q (omega arith)
none_below (Some b ∷ bs) x q h = ap (λ t. cond t (Some (b.place.0, b.serial.0)) (find nat_cmp q (pairs_from (suc x) bs))) (other_key q x (omega arith)) ∙ none_below bs (suc x) q (omega arith)

found_at : (bs : List (Option Bound)) (x k q : ℕ) → k ≡ x + q → find nat_cmp k (pairs_from x bs) ≡ pair_at bs q
found_at [] x k q e = refl
found_at (None ∷ bs) x k zero e = none_below bs (suc x) k (omega arith)
found_at (None ∷ bs) x k (suc q) e = found_at bs (suc x) k q (omega arith)
found_at (Some b ∷ bs) x k zero e = ap (λ t. cond t (Some (b.place.0, b.serial.0)) (find nat_cmp k (pairs_from (suc x) bs))) (same_key k x (omega arith))
found_at (Some b ∷ bs) x k (suc q) e = ap (λ t. cond t (Some (b.place.0, b.serial.0)) (find nat_cmp k (pairs_from (suc x) bs))) (other_key k x (omega arith)) ∙ found_at bs (suc x) k q (omega arith)

-- the map answers what stands in the cell
pub get_bound : (bs : List (Option Bound)) (q : ℕ) → get (bindings bs) q ≡ pair_at bs q
get_bound bs q = get-from_entries nat_cmp_total (pairs_from 0 bs) q ∙ found_at bs 0 q q (omega arith)

-- an empty cell more changes nothing
more_empty : (bs : List (Option Bound)) (x : ℕ) → pairs_from x (bs ++ None ∷ []) ≡ pairs_from x bs
more_empty [] x = refl
more_empty (None ∷ bs) x = more_empty bs (suc x)
more_empty (Some b ∷ bs) x = ap (λ es. (x, (b.place.0, b.serial.0)) ∷ es) (more_empty bs (suc x))

pub bound_more : (bs : List (Option Bound)) → bindings (bs ++ None ∷ []) ≡ bindings bs
bound_more bs = ap (λ (es : List (ℕ × (ℕ × ℕ))). map.from_entries es) (more_empty bs 0)

at_same : (bs : List (Option Bound)) (k : ℕ) (o : Option Bound) → k < length bs → pair_at (set bs k o) k ≡ pair_in o
at_same [] k o h = absurd (omega arith)
at_same (a ∷ bs) zero o h = refl
at_same (a ∷ bs) (suc k) o h = at_same bs k o (omega arith)

at_other : (bs : List (Option Bound)) (k q : ℕ) (o : Option Bound) → q ≢ k → pair_at (set bs k o) q ≡ pair_at bs q
at_other [] k q o d = refl
at_other (a ∷ bs) zero zero o d = absurd (d refl)
at_other (a ∷ bs) zero (suc q) o d = refl
at_other (a ∷ bs) (suc k) zero o d = refl
at_other (a ∷ bs) (suc k) (suc q) o d = at_other bs k q o (λ e. d (ap suc e))

past_end : (bs : List (Option Bound)) (q : ℕ) → length bs ≤ q → pair_at bs q ≡ None
past_end [] q h = refl
past_end (a ∷ bs) zero h = absurd (omega arith)
past_end (a ∷ bs) (suc q) h = past_end bs q (omega arith)

-- a cell that is filled binds its variable
pub bound_set : (bs : List (Option Bound)) (k : ℕ) (b : Bound) → k < length bs → bindings (set bs k (Some b)) ≡ insert (bindings bs) k (b.place.0, b.serial.0)
bound_set bs k b h = same_map nat_cmp_total nat_cmp-IsAntisymmetric _ _ (λ q. get_bound (set bs k (Some b)) q ∙ (by_key q (cases_eq q k) ∙ sym (get-insert nat_cmp_total (bindings bs) k (b.place.0, b.serial.0) q)))
  where
    by_key : (q : ℕ) → (q ≡ k) ⊎ (q ≢ k) → pair_at (set bs k (Some b)) q ≡ cond (eq_by_cmp nat_cmp q k) (Some (b.place.0, b.serial.0)) (get (bindings bs) q)
    by_key q (inl e) = ap (pair_at (set bs k (Some b))) e ∙ (at_same bs k (Some b) h ∙ sym (ap (λ t. cond t (Some (b.place.0, b.serial.0)) (get (bindings bs) q)) (same_key q k e)))
    by_key q (inr d) = at_other bs k q (Some b) d ∙ sym (ap (λ t. cond t (Some (b.place.0, b.serial.0)) (get (bindings bs) q)) (other_key q k d) ∙ get_bound bs q)

-- one that is emptied unbinds it
pub bound_cleared : (bs : List (Option Bound)) (k : ℕ) → k < length bs → bindings (set bs k None) ≡ remove (bindings bs) k
bound_cleared bs k h = same_map nat_cmp_total nat_cmp-IsAntisymmetric _ _ (λ q. get_bound (set bs k None) q ∙ (by_key q (cases_eq q k) ∙ sym (get-remove nat_cmp_total (bindings bs) k q)))
  where
    by_key : (q : ℕ) → (q ≡ k) ⊎ (q ≢ k) → pair_at (set bs k None) q ≡ cond (eq_by_cmp nat_cmp q k) None (get (bindings bs) q)
    by_key q (inl e) = ap (pair_at (set bs k None)) e ∙ (at_same bs k None h ∙ sym (ap (λ t. cond t None (get (bindings bs) q)) (same_key q k e)))
    by_key q (inr d) = at_other bs k q None d ∙ sym (ap (λ t. cond t None (get (bindings bs) q)) (other_key q k d) ∙ get_bound bs q)

-- where there is no cell nothing is bound
pub bound_past : (bs : List (Option Bound)) (k : ℕ) → length bs ≤ k → bindings bs ≡ remove (bindings bs) k
bound_past bs k h = same_map nat_cmp_total nat_cmp-IsAntisymmetric _ _ (λ q. by_key q (cases_eq q k) ∙ sym (get-remove nat_cmp_total (bindings bs) k q))
  where
    by_key : (q : ℕ) → (q ≡ k) ⊎ (q ≢ k) → get (bindings bs) q ≡ cond (eq_by_cmp nat_cmp q k) None (get (bindings bs) q)
    by_key q (inl e) = ap (get (bindings bs)) e ∙ (get_bound bs k ∙ (past_end bs k h ∙ sym (ap (λ t. cond t None (get (bindings bs) q)) (same_key q k e))))
    by_key q (inr d) = sym (ap (λ t. cond t None (get (bindings bs) q)) (other_key q k d))

-- the cell of the variable, from its index
pub pair_of : (bs : List (Option Bound)) (q : ℕ) → q < length bs → pair_at bs q ≡ pair_in (get_or bs q None)
pair_of [] q h = absurd (omega arith)
pair_of (a ∷ bs) zero h = refl
pair_of (a ∷ bs) (suc q) h = pair_of bs q (omega arith)

pub get_cell : (bs : List (Option Bound)) (q : ℕ) → q < length bs → get (bindings bs) q ≡ pair_in (get_or bs q None)
get_cell bs q h = get_bound bs q ∙ pair_of bs q h

pub get_past : (bs : List (Option Bound)) (q : ℕ) → length bs ≤ q → get (bindings bs) q ≡ None
get_past bs q h = get_bound bs q ∙ past_end bs q h

-- what reading a cell tells
pub got : (bs xs : List (Option Bound)) (q : ℕ) (o : Option Bound) → xs ≡ bs → q < length xs → o ≡ get_or xs q None → pair_in o ≡ get (bindings bs) q
got bs xs q o e h is = ap pair_in is ∙ (sym (get_cell xs q h) ∙ ap (λ (z : List (Option Bound)). get (bindings z) q) e)

pub got_none : (bs xs : List (Option Bound)) (q : ℕ) → xs ≡ bs → length xs ≤ q → None ≡ get (bindings bs) q
got_none bs xs q e h = sym (get_past xs q h) ∙ ap (λ (z : List (Option Bound)). get (bindings z) q) e

pub not_below : (k : ℕ) (bs : List (Option Bound)) → (k < length bs → false ≡ true) → length bs ≤ k
not_below k bs h = elim (cases_lt k (length bs)) [ inl l ↦ absurd (false≢true (h l)) | inr g ↦ g ]
