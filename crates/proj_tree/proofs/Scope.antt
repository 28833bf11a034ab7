-- Each role is of one of the core's variables, and the role Own of a variable has no tail.
use Rattle.std.proofs.Common.{ℕ, zero, suc, ◌≡◌, ◌+◌, ◌<◌, inl, inr, Bool, true, false, List, [], ◌∷◌, ◌++◌, length, refl, subst, arith}
use Rattle.gcx_model.specs.Members.{In, count}
use Rattle.gcx_model.specs.Core.{OperandTree, Path, Str, Num, CondTree, CondTrees, Always, Exists, Compare, Not, AllOf, AnyOf, no_cond, more_conds, ItemTree, Write, Copy, For, If, SignOff, BodyTree, Nil, Then, RoleRowTree}
use Rattle.gcx_model.specs.Cores.{operand_in, cond_in, conds_in, ItemIn, BodyIn, Good}
use Rattle.gcx_model.specs.Roles.{operand_rows, cond_rows, conds_rows, item_rows, rows, roles_of}
use Rattle.gcx_model.specs.Placed.{is_own_kind}
use Rattle.gcx_model.specs.Variables.{vars, item_vars}

-- the role's variable is below n, and where it is Own it has no tail
pub record Fits (n : ℕ) (r : RoleRowTree) : Type 0 where
  pub below : r.var < n
  pub bare : is_own_kind r.kind ≡ true → r.tail ≡ []

abbrev pub AllFit : ℕ → List RoleRowTree → Type 0
AllFit n [] = Unit {0}
AllFit n (r ∷ rs) = Fits n r × AllFit n rs

both_fit : (n : ℕ) (rs qs : List RoleRowTree) → AllFit n rs → AllFit n qs → AllFit n (rs ++ qs)
both_fit n [] qs a b = b
both_fit n (r ∷ rs) qs a b = (a.0, both_fit n rs qs a.1 b)

abbrev pub AllBelow : ℕ → List ℕ → Type 0
AllBelow n xs = (y : ℕ) → In y xs → y < n

left_below : (n : ℕ) (xs ys : List ℕ) → AllBelow n (xs ++ ys) → AllBelow n xs
left_below n [] ys h y m = absurd m
left_below n (x ∷ xs) ys h y (inl e) = h y (inl e)
left_below n (x ∷ xs) ys h y (inr m) = left_below n xs ys (λ z k. h z (inr k)) y m

right_below : (n : ℕ) (xs ys : List ℕ) → AllBelow n (xs ++ ys) → AllBelow n ys
right_below n [] ys h = h
right_below n (x ∷ xs) ys h = right_below n xs ys (λ z k. h z (inr k))

one_more : (n x : ℕ) (L : List ℕ) → x < n → AllBelow n L → AllBelow n (x ∷ L)
one_more n x L h k y (inl e) = omega arith
one_more n x L h k y (inr m) = k y m

counted_below : (k m : ℕ) → AllBelow (k + m) (count k m)
counted_below k zero y i = absurd i
counted_below k (suc m) y (inl e) = omega arith
counted_below k (suc m) y (inr i) = let h : y < suc k + m = counted_below (suc k) m y i in omega arith

operand_fits : (n : ℕ) (L : List ℕ) (o : OperandTree) → AllBelow n L → operand_in L o → AllFit n (operand_rows o)
operand_fits n L (Path x steps) k h = (record { below = k x h; bare = λ e. absurd (cc) }, tt)
operand_fits n L (Str b) k h = tt
operand_fits n L (Num l) k h = tt

mutual
  cond_fits : (n : ℕ) (L : List ℕ) (c : CondTree) → AllBelow n L → cond_in L c → AllFit n (cond_rows c)
  cond_fits n L Always k h = tt
  cond_fits n L (Exists x steps) k h = (record { below = k x h; bare = λ e. absurd (cc) }, tt)
  cond_fits n L (Compare l rel r) k h = both_fit n (operand_rows l) (operand_rows r) (operand_fits n L l k h.0) (operand_fits n L r k h.1)
  cond_fits n L (Not c) k h = cond_fits n L c k h
  cond_fits n L (AllOf cs) k h = conds_fit n L cs k h
  cond_fits n L (AnyOf cs) k h = conds_fit n L cs k h

  conds_fit : (n : ℕ) (L : List ℕ) (cs : CondTrees) → AllBelow n L → conds_in L cs → AllFit n (conds_rows cs)
  conds_fit n L no_cond k h = tt
  conds_fit n L (more_conds c cs) k h = both_fit n (cond_rows c) (conds_rows cs) (cond_fits n L c k h.0) (conds_fit n L cs k h.1)

mutual
  item_fits : (n : ℕ) (b : Bool) (L : List ℕ) (i : ItemTree) → AllBelow n L → AllBelow n (item_vars i) → ItemIn b L i → AllFit n (item_rows i)
  item_fits n b L (Write s) k v h = tt
  item_fits n b L (Copy x) k v h = (record { below = k x h; bare = λ e. absurd (cc) }, tt)
  item_fits n b L (For x y s d) k v h =
      (record { below = v x (inl refl); bare = λ e. refl }, body_fits n b (x ∷ L) d (one_more n x L (v x (inl refl)) k) (λ z m. v z (inr m)) h.2)
  item_fits n b L (If c d e) k v h =
      both_fit n (cond_rows c) (rows d ++ rows e) (cond_fits n L c k h.0)
      (both_fit n (rows d) (rows e) (body_fits n false L d k (left_below n (vars d) (vars e) v) h.1) (body_fits n false L e k (right_below n (vars d) (vars e) v) h.2))
  item_fits n b L (SignOff o) k v h = tt

  body_fits : (n : ℕ) (b : Bool) (L : List ℕ) (d : BodyTree) → AllBelow n L → AllBelow n (vars d) → BodyIn b L d → AllFit n (rows d)
  body_fits n b L Nil k v h = tt
  body_fits n b L (Then i d) k v h =
      both_fit n (item_rows i) (rows d) (item_fits n b L i k (left_below n (item_vars i) (vars d) v) h.0) (body_fits n b L d k (right_below n (item_vars i) (vars d) v) h.1)

pub roles_fit : (core : BodyTree) → Good core → AllFit (suc (length (vars core))) (roles_of core)
roles_fit core g = (
  record { below = omega arith; bare = λ e. refl },
  body_fits (suc (length (vars core))) true (0 ∷ []) core (one_more (suc (length (vars core))) 0 [] (omega arith) (λ y m. absurd m)) numbered g.inside,
)
  where
    numbered : AllBelow (suc (length (vars core))) (vars core)
    numbered y m =
        let i : In y (count 1 (length (vars core))) = subst (λ (xs : List ℕ). In y xs) g.numbered m in
        let h : y < 1 + length (vars core) = counted_below 1 (length (vars core)) y i in
        omega arith
