-- What loops go by, one of them looked at anew.
use Rattle.std.proofs.Common.{◌≡◌, ◌<◌, ℕ, zero, suc, List, [], ◌∷◌, ◌++◌, Some, length, map, get_or, refl, sym, ◌∙◌, ap, subst, inl, inr, arith}
use Rattle.std.specs.Prelude.{slice_get, slice_set}
use Rattle.gcx_model.specs.Tree.{Tree}
use Rattle.gcx_model.specs.Members.{In, Once}
use Rattle.buf_tree.specs.Shape.{Cell}
use Rattle.cond_eval.proofs.Kept.{Stands, keys_set, once_push}
use Rattle.pull_eval.specs.Turns.{TurnsStand, IsTurns, loop_var}
use Rattle.pull_eval.specs.declared.turns.Turns.{Turns}

pub get_in : (ts : List Turns) (i : ℕ) (t : Turns) → slice_get ts i ≡ Some t → In t ts
get_in [] i t e = absurd (cc)
get_in (x ∷ ts) zero t e = inl (cc)
get_in (x ∷ ts) (suc i) t e = inr (get_in ts i t e)

pub get_below : (ts : List Turns) (i : ℕ) (t : Turns) → slice_get ts i ≡ Some t → i < length ts
get_below [] i t e = absurd (cc)
get_below (x ∷ ts) zero t e = omega arith
get_below (x ∷ ts) (suc i) t e = let l = get_below ts i t e in omega arith

pub same_get : (ts : List Turns) (i : ℕ) (t x : Turns) → slice_get ts i ≡ Some t → x ≡ get_or ts i x → x ≡ t
same_get [] i t x e f = absurd (cc)
same_get (y ∷ ts) zero t x e f = let g : y ≡ t = cc in f ∙ g
same_get (y ∷ ts) (suc i) t x e f = same_get ts i t x e f

-- one that is there
pub get_there : (ts : List Turns) (i : ℕ) (x : Turns) → i < length ts → x ≡ get_or ts i x → slice_get ts i ≡ Some x
get_there [] i x l e = absurd (omega arith)
get_there (y ∷ ts) zero x l e = ap (λ (z : Turns). Some z) (sym e)
get_there (y ∷ ts) (suc i) x l e = get_there ts i x (omega arith) e

pub get_set : (ts : List Turns) (i : ℕ) (t : Turns) → i < length ts → slice_get (slice_set ts i t) i ≡ Some t
get_set [] i t l = absurd (omega arith)
get_set (y ∷ ts) zero t l = refl
get_set (y ∷ ts) (suc i) t l = get_set ts i t (omega arith)

pub get_last : (ts : List Turns) (t : Turns) → slice_get (ts ++ t ∷ []) (length ts) ≡ Some t
get_last [] t = refl
get_last (y ∷ ts) t = get_last ts t

-- one that is at this number
pub get_stands : (ts : List Turns) (i : ℕ) (t : Turns) → slice_get ts i ≡ Some t → Stands ts i t
get_stands ts i t e = (get_below ts i t e, go ts i e)
  where
    go : (ts : List Turns) (i : ℕ) → slice_get ts i ≡ Some t → t ≡ get_or ts i t
    go [] i e = absurd (cc)
    go (x ∷ ts) zero e = let g : x ≡ t = cc in sym g
    go (x ∷ ts) (suc i) e = go ts i e

-- the variables are as before
pub vars_set : (ts : List Turns) (i : ℕ) (x t : Turns) → slice_get ts i ≡ Some x → t.var ≡ x.var → map loop_var (slice_set ts i t) ≡ map loop_var ts
vars_set ts i x t at same = keys_set loop_var ts i x t (get_stands ts i x at) same

module _ (rows : List Cell) (P : Tree) where
  each_set : (ts : List Turns) (i : ℕ) (t : Turns) → ((u : Turns) → In u ts → IsTurns rows P u) → IsTurns rows P t → (u : Turns) → In u (slice_set ts i t) → IsTurns rows P u
  each_set [] i t h is u j = h u j
  each_set (y ∷ ts) zero t h is u (inl e) = subst (λ (z : Turns). IsTurns rows P z) e is
  each_set (y ∷ ts) zero t h is u (inr j) = h u (inr j)
  each_set (y ∷ ts) (suc i) t h is u (inl e) = h u (inl e)
  each_set (y ∷ ts) (suc i) t h is u (inr j) = each_set ts i t (λ q k. h q (inr k)) is u j

  each_pushed : (ts : List Turns) (t : Turns) → ((u : Turns) → In u ts → IsTurns rows P u) → IsTurns rows P t → (u : Turns) → In u (ts ++ t ∷ []) → IsTurns rows P u
  each_pushed [] t h is u (inl e) = subst (λ (z : Turns). IsTurns rows P z) e is
  each_pushed [] t h is u (inr j) = absurd j
  each_pushed (y ∷ ts) t h is u (inl e) = h u (inl e)
  each_pushed (y ∷ ts) t h is u (inr j) = each_pushed ts t (λ q k. h q (inr k)) is u j

  -- the others stand as before
  pub are_set : (ts : List Turns) (i : ℕ) (x t : Turns) → slice_get ts i ≡ Some x → t.var ≡ x.var → TurnsStand rows P ts → IsTurns rows P t → TurnsStand rows P (slice_set ts i t)
  are_set ts i x t at same h is = record { each = each_set ts i t h.each is; once = subst Once (sym (vars_set ts i x t at same)) h.once }

  pub are_pushed : (ts : List Turns) (t : Turns) → (In t.var (map loop_var ts) → ⊥) → TurnsStand rows P ts → IsTurns rows P t → TurnsStand rows P (ts ++ t ∷ [])
  are_pushed ts t none h is = record { each = each_pushed ts t h.each is; once = once_push loop_var ts t none h.once }
