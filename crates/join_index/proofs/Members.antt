-- The members of a condition: which equalities were reached, and that their lists are kept.
use Rattle.std.proofs.Common.{◌≡◌, ◌≢◌, ◌+◌, ◌<◌, ◌≤◌, ℕ, zero, suc, List, [], ◌∷◌, map, length, get_or, refl, sym, ◌∙◌, subst, inl, inr, arith}
use Rattle.std.proofs.lemmas.Bool.{cases_lt}
use Rattle.gcx_model.specs.Tree.{Tree}
use Rattle.gcx_model.specs.Core.{OperandTree, CondTree}
use Rattle.gcx_model.specs.CondView.{core_cond_tree, core_conds_of}
use Rattle.gcx_model.specs.declared.cond.Cond.{Cond}
use Rattle.gcx_model.specs.declared.truth.Truth.{Truth}
use Rattle.gcx_model.specs.declared.truth.Truth.TheVariants.{True, False}
use Rattle.gcx_model.specs.Truth.{Env, truth}
use Rattle.buf_tree.specs.View.{View}
use Rattle.cond_eval.specs.Bindings.{Bindings}
use Rattle.cond_eval.specs.Asking.{Asked, Over}
use Rattle.join_index.specs.declared.equality.Equality.{Equality}
use Rattle.join_index.specs.Equalities.{HasEquality}
use Rattle.join_index.specs.Index.{GoesAfterQuestion, IndexView, IsIndex, HasItsList, IsOuterClosed, IsReached, KeepsLists, ReachesEquality, ReachesAll, ReachesAny, TellsTruthOf}
use Rattle.join_index.proofs.Listing.{has_moved, kept_moved}

-- the member that was reached; those before it had this truth
pub record ReachedAt (want : Truth) (items : List Cond) (l r : OperandTree) (env : Env) (P : Tree) : Type 0 where
  pub number : ℕ
  pub member : Cond
  pub below : number < length items
  pub at : member ≡ get_or items number member
  pub reached : ReachesEquality l r (core_cond_tree member) env P
  pub before : (i : ℕ) (x : Cond) → i < number → x ≡ get_or items i x → truth (core_cond_tree x) env P ≡ want

module _ (want : Truth) (l r : OperandTree) (env : Env) (P : Tree) (y : Cond) (items : List Cond) where
  first_reached : ReachesEquality l r (core_cond_tree y) env P → ReachedAt want (y ∷ items) l r env P
  first_reached e = record { number = 0; member = y; below = omega arith; at = refl; reached = e; before = λ i x h f. absurd (omega arith) }

  later_reached : truth (core_cond_tree y) env P ≡ want → ReachedAt want items l r env P → ReachedAt want (y ∷ items) l r env P
  later_reached e w = record { number = suc w.number; member = w.member; below = let b = w.below in omega arith; at = w.at; reached = w.reached; before = λ i x h f. go i x h f }
    where
      go : (i : ℕ) (x : Cond) → i < suc w.number → x ≡ get_or (y ∷ items) i x → truth (core_cond_tree x) env P ≡ want
      go zero x h f = subst (λ (z : Cond). truth (core_cond_tree z) env P ≡ want) (sym f) e
      go (suc i) x h f = w.before i x (omega arith) f

pub reached_all : (l r : OperandTree) (env : Env) (P : Tree) (items : List Cond) → ReachesAll l r (core_conds_of (map core_cond_tree items)) env P → ReachedAt True items l r env P
reached_all l r env P [] e = absurd e
reached_all l r env P (y ∷ items) (inl e) = first_reached True l r env P y items e
reached_all l r env P (y ∷ items) (inr e) = later_reached True l r env P y items e.0 (reached_all l r env P items e.1)

pub reached_any : (l r : OperandTree) (env : Env) (P : Tree) (items : List Cond) → ReachesAny l r (core_conds_of (map core_cond_tree items)) env P → ReachedAt False items l r env P
reached_any l r env P [] e = absurd e
reached_any l r env P (y ∷ items) (inl e) = first_reached False l r env P y items e
reached_any l r env P (y ∷ items) (inr e) = later_reached False l r env P y items e.0 (reached_any l r env P items e.1)

-- and the way back
pub reaches_all : (l r : OperandTree) (env : Env) (P : Tree) (items : List Cond) (i : ℕ) (x : Cond) → i < length items → x ≡ get_or items i x → ((j : ℕ) (y : Cond) → j < i → y ≡ get_or items j y → truth (core_cond_tree y) env P ≡ True)
    → ReachesEquality l r (core_cond_tree x) env P → ReachesAll l r (core_conds_of (map core_cond_tree items)) env P
reaches_all l r env P [] i x h e before w = absurd (omega arith)
reaches_all l r env P (y ∷ items) zero x h e before w = inl (subst (λ (z : Cond). ReachesEquality l r (core_cond_tree z) env P) e w)
reaches_all l r env P (y ∷ items) (suc i) x h e before w = inr (before zero y (omega arith) refl, reaches_all l r env P items i x (omega arith) e (λ j z b f. before (suc j) z (omega arith) f) w)

pub reaches_any : (l r : OperandTree) (env : Env) (P : Tree) (items : List Cond) (i : ℕ) (x : Cond) → i < length items → x ≡ get_or items i x → ((j : ℕ) (y : Cond) → j < i → y ≡ get_or items j y → truth (core_cond_tree y) env P ≡ False)
    → ReachesEquality l r (core_cond_tree x) env P → ReachesAny l r (core_conds_of (map core_cond_tree items)) env P
reaches_any l r env P [] i x h e before w = absurd (omega arith)
reaches_any l r env P (y ∷ items) zero x h e before w = inl (subst (λ (z : Cond). ReachesEquality l r (core_cond_tree z) env P) e w)
reaches_any l r env P (y ∷ items) (suc i) x h e before w = inr (before zero y (omega arith) refl, reaches_any l r env P items i x (omega arith) e (λ j z b f. before (suc j) z (omega arith) f) w)

pub same_at : (items : List Cond) (i : ℕ) (x y : Cond) → i < length items → x ≡ get_or items i x → y ≡ get_or items i y → x ≡ y
same_at [] i x y h e f = absurd (omega arith)
same_at (z ∷ items) zero x y h e f = e ∙ sym f
same_at (z ∷ items) (suc i) x y h e f = same_at items i x y (omega arith) e f

module _ (v : View) (bound : Bindings) (k : IndexView) (items : List Cond) (whole : CondTree) where
  -- what was reached in the first members is kept
  abbrev pub KeptBefore : (now : List Equality) → (seen : ℕ) → Type 0
  KeptBefore now i = (P : Tree) (env : Env) → Over v.nodes (IsIndex k) P → Asked v.rows bound whole P env
      → (l r : OperandTree) → HasEquality k.equalities l r → IsOuterClosed l r env P → (j : ℕ) (x : Cond) → j < i → x ≡ get_or items j x → ReachesEquality l r (core_cond_tree x) env P → HasItsList bound now l r

  pub kept_start : (now : List Equality) → KeptBefore now 0
  kept_start now P env s a l r has closed j x h e w = absurd (omega arith)

  module _ (part : (P : Tree) (env : Env) (i : ℕ) (x : Cond) → i < length items → x ≡ get_or items i x → Asked v.rows bound whole P env → Asked v.rows bound (core_cond_tree x) P env) (m n : IndexView) (i : ℕ) (x : Cond) (t : Truth) (h : i < length items) (at : x ≡ get_or items i x)
      (stands : (P : Tree) (env : Env) → Over v.nodes (IsIndex k) P → Asked v.rows bound whole P env → Over v.nodes (IsIndex m) P) (goes : GoesAfterQuestion bound (IsReached v (IsIndex k) bound whole) k m) (tells : TellsTruthOf v bound (core_cond_tree x) m n t) where
    pub kept_on : KeptBefore m.equalities i → KeptBefore n.equalities (i + 1)
    kept_on kept P env s a l r has closed j y low e w = elim (cases_lt j i) [
      | inl b ↦ kept_moved bound (IsReached v (IsIndex m) bound (core_cond_tree x)) m.equalities n.equalities tells.goes.moved l r (kept P env s a l r has closed j y b e w)
      | inr b ↦ (
          let is : j ≡ i = omega arith in
          let same = same_at items i y x h (subst (λ (z : ℕ). y ≡ get_or items z y) is e) at in
          tells.kept P env (stands P env s a) (part P env i x h at a) l r (subst (λ (z : Cond). ReachesEquality l r (core_cond_tree z) env P) same w) (has_moved bound (IsReached v (IsIndex k) bound whole) k.equalities m.equalities goes.moved l r has) closed)
    ]

    -- the truth of the member settles the whole: no later one is reached
    pub kept_settled : (want : Truth) → ((l r : OperandTree) (env : Env) (P : Tree) → ReachesEquality l r whole env P → ReachedAt want items l r env P) → t ≢ want → KeptBefore m.equalities i → KeepsLists v (IsIndex k) bound whole k.equalities n.equalities
    kept_settled want reaches settles kept P env s a l r reached has closed = go (reaches l r env P reached)
      where
        truth_is : t ≡ truth (core_cond_tree x) env P
        truth_is = (tells.answers P env (stands P env s a) (part P env i x h at a)).0

        go : ReachedAt want items l r env P → HasItsList bound n.equalities l r
        go w = elim (cases_lt i w.number) [
          | inl b ↦ absurd (settles (truth_is ∙ w.before i x b at))
          | inr b ↦ kept_on kept P env s a l r has closed w.number w.member (omega arith) w.at w.reached
        ]

  pub kept_end : (want : Truth) → ((l r : OperandTree) (env : Env) (P : Tree) → ReachesEquality l r whole env P → ReachedAt want items l r env P) → (now : List Equality) (i : ℕ) → length items ≤ i → KeptBefore now i → KeepsLists v (IsIndex k) bound whole k.equalities now
  kept_end want reaches now i h kept P env s a l r reached has closed = let w = reaches l r env P reached in let b = w.below in kept P env s a l r has closed w.number w.member (omega arith) w.at w.reached
