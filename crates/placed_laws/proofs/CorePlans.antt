-- The plan of a core: its statements, the facts of its variables, and the way to each base.
use Rattle.std.proofs.Common.{◌≡◌, ℕ, zero, suc, ◌≤◌, Bool, true, false, cond, not, ◌&&◌, List, [], ◌∷◌, ◌++◌, length, refl, sym, ◌∙◌, ap, subst, inl, inr, ◌⊎◌, arith, append_assoc, eqb}
use Rattle.std.specs.List.{filter}
use Rattle.std.proofs.lemmas.List.{append-nil}
use Rattle.std.proofs.lemmas.Bool.{and_parts, and_from, true≢false, false≢true, eqb-true, eq-eqb, ne_eqb, not-true}
use Rattle.gcx_base.specs.declared.steps.Step.{Step}
use Rattle.gcx_model.specs.Core.{CondTree, Always, Exists, Compare, Not, AllOf, AnyOf, CondTrees, no_cond, more_conds, OperandTree, Path, Str, Num, ItemTree, Write, Copy, For, If, SignOff, BodyTree, Nil, Then, OffTree, RoleRowTree}
use Rattle.gcx_model.specs.Variables.{Var, var0, is_straight, child_var, var_of, set_var, tree_item, tree_body, var_tree, item_vars, vars}
use Rattle.gcx_model.specs.Roles.{operand_rows, cond_rows, conds_rows, own_row, rows, roles_of}
use Rattle.gcx_model.specs.Placed.{is_own, statement, statements, at_end, offs_body, add_offs, place, offs_of}
use Rattle.tree_laws.proofs.Reading.{reading}
use Rattle.gcx_model.specs.Members.{count}
use Rattle.gcx_model.specs.Cores.{operand_in, cond_in, conds_in, BodyIn, Good}
use Rattle.base_laws.proofs.Numbers.{once_count}
use Rattle.tree_laws.proofs.Lists.{In, Once, In-left, In-right, In-append, In-filter, In-kept}
use Rattle.tree_laws.proofs.Chains.{one_desc, Once-append}
use Rattle.placed_laws.proofs.Needed.{quiet, quiet_item, Own, Before, Itself, Way, Top, Skip, Here}

-- lists without repetition

pub Once-filter : {X : Type 0} (p : X → Bool) (xs : List X) → Once xs → Once (filter p xs)
Once-filter p [] o = tt
Once-filter {X} p (x ∷ xs) o = go (p x) (Once-filter p xs o.1)
  where
    go : (c : Bool) → Once (filter p xs) → Once (cond c (x ∷ filter p xs) (filter p xs))
    go true h = ((λ i. o.0 (In-filter p x xs i).0), h)
    go false h = h

pub Once-left : {X : Type 0} (xs ys : List X) → Once (xs ++ ys) → Once xs
Once-left [] ys o = tt
Once-left (x ∷ xs) ys o = (λ i. o.0 (In-left x xs ys i), Once-left xs ys o.1)

pub Once-right : {X : Type 0} (xs ys : List X) → Once (xs ++ ys) → Once ys
Once-right [] ys o = o
Once-right (x ∷ xs) ys o = Once-right xs ys o.1

pub Once-apart : {X : Type 0} (xs ys : List X) → Once (xs ++ ys) → (z : X) → In z xs → In z ys → ⊥
Once-apart [] ys o z i j = i
Once-apart {X} (x ∷ xs) ys o z (inl e) j = o.0 (In-right x xs ys (subst (λ (a : X). In a ys) (sym e) j))
Once-apart (x ∷ xs) ys o z (inr i) j = Once-apart xs ys o.1 z i j

-- a list round one of its members
pub record Round_member {X : Type 0} (x : X) (xs : List X) : Type 0 where
  pub left : List X
  pub right : List X
  pub are : xs ≡ left ++ x ∷ right
  pub not_left : In x left → ⊥
  pub not_right : In x right → ⊥

pub round_member : {X : Type 0} (x : X) (xs : List X) → Once xs → In x xs → Round_member x xs
round_member x [] o i = absurd i
round_member {X} x (y ∷ ys) o (inl e) = record { left = []; right = ys; are = ap (λ (z : X). z ∷ ys) e; not_left = λ i. i; not_right = λ i. o.0 (subst (λ (z : X). In z ys) (sym e) i) }
round_member {X} x (y ∷ ys) o (inr i) =
    let r = round_member x ys o.1 i in
    record {
      left = y ∷ r.left;
      right = r.right;
      are = ap (λ z. y ∷ z) r.are;
      not_left = λ j. elim j [ inl e ↦ o.0 (subst (λ (z : X). In z ys) (sym e) i) | inr k ↦ r.not_left k ];
      not_right = r.not_right;
    }

pub In-count : (k n z : ℕ) → In z (count k n) → k ≤ z
In-count k zero z i = absurd i
In-count k (suc n) z (inl e) = omega arith
In-count k (suc n) z (inr i) = let h = In-count (suc k) n z i in omega arith

pub good_once : (core : BodyTree) → Good core → Once (vars core)
good_once core g = subst (λ (z : List ℕ). Once z) (sym g.numbered) (once_count 1 (length (vars core)))

pub good_not_zero : (core : BodyTree) → Good core → In 0 (vars core) → ⊥
good_not_zero core g i = let h = In-count 1 (length (vars core)) 0 (subst (λ (z : List ℕ). In 0 z) g.numbered i) in absurd (omega arith)

-- statements and rows

-- the row and its statement stand at one place of the plan's lists
abbrev pub At_row : RoleRowTree → OffTree → List RoleRowTree → List OffTree → Type 0
At_row r o [] os = ⊥
At_row r o (q ∷ qs) [] = ⊥
At_row r o (q ∷ qs) (o' ∷ os) = ((q ≡ r) × (o' ≡ o)) ⊎ At_row r o qs os

module _ (F : ℕ → Var) (all : List RoleRowTree) where
  role_low : (k : ℕ) (rs : List RoleRowTree) (o : OffTree) → In o (statements F all k rs) → k ≤ o.role
  role_low k [] o i = absurd i
  role_low k (r ∷ rs) o (inl e) = let f = ap (λ (z : OffTree). z.role) e in omega arith
  role_low k (r ∷ rs) o (inr i) = let h = role_low (suc k) rs o i in omega arith

  -- one statement of each number
  pub same_role : (k : ℕ) (rs : List RoleRowTree) (a b : OffTree) → In a (statements F all k rs) → In b (statements F all k rs) → a.role ≡ b.role → a ≡ b
  same_role k [] a b i j e = absurd i
  same_role k (r ∷ rs) a b (inl f) (inl g) e = sym f ∙ g
  same_role k (r ∷ rs) a b (inl f) (inr j) e = let l = role_low (suc k) rs b j in let m = ap (λ (z : OffTree). z.role) f in absurd (omega arith)
  same_role k (r ∷ rs) a b (inr i) (inl g) e = let l = role_low (suc k) rs a i in let m = ap (λ (z : OffTree). z.role) g in absurd (omega arith)
  same_role k (r ∷ rs) a b (inr i) (inr j) e = same_role (suc k) rs a b i j e

  once_statements : (k : ℕ) (rs : List RoleRowTree) → Once (statements F all k rs)
  once_statements k [] = tt
  once_statements k (r ∷ rs) = (λ i. let h = role_low (suc k) rs (statement F all k r) i in absurd (omega arith), once_statements (suc k) rs)

  pub row_has : (k : ℕ) (rs : List RoleRowTree) (r : RoleRowTree) → In r rs → (o : OffTree) × At_row r o rs (statements F all k rs)
  row_has k [] r i = absurd i
  row_has k (q ∷ qs) r (inl e) = (statement F all k q, inl (e, refl))
  row_has k (q ∷ qs) r (inr i) = let h = row_has (suc k) qs r i in (h.0, inr h.1)

  pub row_is : (k : ℕ) (rs : List RoleRowTree) (r : RoleRowTree) (o : OffTree) → At_row r o rs (statements F all k rs) → In r rs × In o (statements F all k rs) × ((j : ℕ) × (o ≡ statement F all j r))
  row_is k [] r o h = absurd h
  row_is k (q ∷ qs) r o (inl e) = (inl e.0, inl e.1, (k, sym e.1 ∙ ap (statement F all k) e.0))
  row_is k (q ∷ qs) r o (inr h) = let a = row_is (suc k) qs r o h in (inr a.0, inr a.1, a.2)

pub end_in : (os : List OffTree) (b : ℕ) (o : OffTree) → In o (at_end os b) → In o os × (o.base ≡ b)
end_in os b o i = elim (In-append o (filter (λ (o : OffTree). eqb o.base b && not (is_own o)) os) (filter (λ (o : OffTree). eqb o.base b && is_own o) os) i) [
  | inl j ↦ (let q = In-filter (λ (o : OffTree). eqb o.base b && not (is_own o)) o os j in (q.0, eqb-true _ _ (and_parts (eqb o.base b) (not (is_own o)) q.1).0))
  | inr j ↦ (let q = In-filter (λ (o : OffTree). eqb o.base b && is_own o) o os j in (q.0, eqb-true _ _ (and_parts (eqb o.base b) (is_own o) q.1).0))
]

pub in_end : (os : List OffTree) (b : ℕ) (o : OffTree) → In o os → o.base ≡ b → In o (at_end os b)
in_end os b o i e = go (is_own o) refl
  where
    go : (c : Bool) → is_own o ≡ c → In o (at_end os b)
    go true f = In-right o (filter (λ (o : OffTree). eqb o.base b && not (is_own o)) os) (filter (λ (o : OffTree). eqb o.base b && is_own o) os) (In-kept (λ (o : OffTree). eqb o.base b && is_own o) o os i (and_from _ _ (eq-eqb _ _ e) f))
    go false f = In-left o (filter (λ (o : OffTree). eqb o.base b && not (is_own o)) os) (filter (λ (o : OffTree). eqb o.base b && is_own o) os) (In-kept (λ (o : OffTree). eqb o.base b && not (is_own o)) o os i (and_from _ _ (eq-eqb _ _ e) (ap not f)))

once_end : (os : List OffTree) (b : ℕ) → Once os → Once (at_end os b)
once_end os b h = Once-append _ _ (Once-filter (λ (o : OffTree). eqb o.base b && not (is_own o)) os h) (Once-filter (λ (o : OffTree). eqb o.base b && is_own o) os h)
    (λ o i j.
    let p = (and_parts (eqb o.base b) (not (is_own o)) (In-filter (λ (o : OffTree). eqb o.base b && not (is_own o)) o os i).1).1 in
    let q = (and_parts (eqb o.base b) (is_own o) (In-filter (λ (o : OffTree). eqb o.base b && is_own o) o os j).1).1 in
    true≢false (sym q ∙ not-true _ p))

-- the variable tree

module _ (F : ℕ → Var) where
  -- F says of each loop of the body what the variable tree says, where u is the variable of the nearest loop round the body
  abbrev mutual
    pub Fits_item : ℕ → ItemTree → Type 0
    Fits_item u (Write s) = Unit {0}
    Fits_item u (Copy x) = Unit {0}
    Fits_item u (For x y s d) = (F x ≡ var_of u x y s (F y)) × Fits x d
    Fits_item u (If c a b) = Unit {0}
    Fits_item u (SignOff o) = Unit {0}

    pub Fits : ℕ → BodyTree → Type 0
    Fits u Nil = Unit {0}
    Fits u (Then i d) = Fits_item u i × Fits u d

mutual
  away_item : (i : ItemTree) (u : ℕ) (F : ℕ → Var) (z : ℕ) → (In z (item_vars i) → ⊥) → tree_item i u F z ≡ F z
  away_item (Write s) u F z h = refl
  away_item (Copy x) u F z h = refl
  away_item (For x y s d) u F z h = away_body d x (set_var F x (var_of u x y s (F y))) z (λ i. h (inr i)) ∙ rw (ne_eqb z x (λ e. h (inl (sym e)))) refl
  away_item (If c a b) u F z h = away_body b u (tree_body a u F) z (λ i. h (In-right z (vars a) (vars b) i)) ∙ away_body a u F z (λ i. h (In-left z (vars a) (vars b) i))
  away_item (SignOff o) u F z h = refl

  pub away_body : (d : BodyTree) (u : ℕ) (F : ℕ → Var) (z : ℕ) → (In z (vars d) → ⊥) → tree_body d u F z ≡ F z
  away_body Nil u F z h = refl
  away_body (Then i d) u F z h = away_body d u (tree_item i u F) z (λ j. h (In-right z (item_vars i) (vars d) j)) ∙ away_item i u F z (λ j. h (In-left z (item_vars i) (vars d) j))

fits : (G : ℕ → Var) (d : BodyTree) (u : ℕ) (F : ℕ → Var) (b : Bool) (L : List ℕ) → BodyIn b L d → Once (vars d) → ((z : ℕ) → In z L → In z (vars d) → ⊥)
    → ((z : ℕ) → In z L ⊎ In z (vars d) → G z ≡ tree_body d u F z) → Fits G u d
fits G Nil u F b L q o a h = tt
fits G (Then (Write s) d) u F b L q o a h = (tt, fits G d u F b L q.1 o a h)
fits G (Then (Copy x) d) u F b L q o a h = (tt, fits G d u F b L q.1 o a h)
fits G (Then (SignOff t) d) u F b L q o a h = absurd q.0
fits G (Then (If c e f) d) u F b L q o a h = (
  tt,
  fits G d u (tree_item (If c e f) u F) b L q.1 (Once-right (vars e ++ vars f) (vars d) o) (λ z i j. a z i (In-right z (vars e ++ vars f) (vars d) j))
      (λ z i. elim i [ inl j ↦ h z (inl j) | inr j ↦ h z (inr (In-right z (vars e ++ vars f) (vars d) j)) ]),
)
fits G (Then (For x y s e) d) u F b L q o a h =
    let v : Var = var_of u x y s (F y) in
    let F1 : ℕ → Var = set_var F x v in
    let F2 : ℕ → Var = tree_body e x F1 in
    let here : (z : ℕ) → In z (x ∷ vars e) → In z (vars d) → ⊥ = Once-apart (x ∷ vars e) (vars d) o in
    let oe = Once-left (x ∷ vars e) (vars d) o in
    let x_is : G x ≡ v = h x (inr (inl refl)) ∙ (away_body d u F2 x (here x (inl refl)) ∙ (away_body e x F1 x oe.0 ∙ rw (eq-eqb x x refl) refl)) in
    let y_ne : eqb y x ≡ false = ne_eqb y x (λ f. a y q.0.1 (inl (sym f))) in
    let y_is : G y ≡ F y = h y (inl q.0.1) ∙ (away_body d u F2 y (λ i. a y q.0.1 (inr (In-right y (vars e) (vars d) i))) ∙ (away_body e x F1 y (λ i. a y q.0.1 (inr (In-left y (vars e) (vars d) i))) ∙ rw y_ne refl)) in (
      (
        x_is ∙ ap (λ z. var_of u x y s z) (sym y_is),
        fits G e x F1 b (x ∷ L) q.0.2 oe.1
            (λ z i j. elim i [ inl f ↦ oe.0 (subst (λ (z : ℕ). In z (vars e)) (sym f) j) | inr k ↦ a z k (inr (In-left z (vars e) (vars d) j)) ])
            (λ z i. elim i [
              | inl j ↦ elim j [
                | inl f ↦ (h z (inr (inl f)) ∙ away_body d u F2 z (here z (inl f)))
                | inr k ↦ (h z (inl k) ∙ away_body d u F2 z (λ m. a z k (inr (In-right z (vars e) (vars d) m))))
              ]
              | inr j ↦ (h z (inr (inr (In-left z (vars e) (vars d) j))) ∙ away_body d u F2 z (here z (inr j)))
            ]),
      ),
      fits G d u F2 b L q.1 (Once-right (x ∷ vars e) (vars d) o) (λ z i j. a z i (inr (In-right z (vars e) (vars d) j)))
          (λ z i. elim i [ inl j ↦ h z (inl j) | inr j ↦ h z (inr (inr (In-right z (vars e) (vars d) j))) ]),
    )

pub good_fits : (core : BodyTree) → Good core → Fits (var_tree core) 0 core
good_fits core g = fits (var_tree core) core 0 (λ x. var0) true (0 ∷ []) g.inside (good_once core g)
    (λ z i j. elim i [ inl e ↦ good_not_zero core g (subst (λ (z : ℕ). In z (vars core)) (sym e) j) | inr k ↦ k ]) (λ z i. refl)

pub good_zero : (core : BodyTree) → Good core → var_tree core 0 ≡ var0
good_zero core g = away_body core 0 (λ x. var0) 0 (good_not_zero core g)

module _ (F : ℕ → Var) (K : List ℕ) where
  -- the base of z is straight, and its path goes on to z
  pub record Based (z : ℕ) : Type 0 where
    pub path : (F z).path ≡ (F (F z).base).path ++ (F z).rel
    pub straight : (F (F z).base).straight ≡ true
    pub known : In (F z).base K
    pub self : (F z).straight ≡ true → ((F z).base ≡ z) × ((F z).rel ≡ [])

  based_one : (x y : ℕ) (s : Step) (c : Bool) → F x ≡ child_var c x s (F y) → Based y → In x K → Based x
  based_one x y s true e h i =
      let b : (F x).base ≡ x = ap (λ (v : Var). v.base) e in
      let r : (F x).rel ≡ [] = ap (λ (v : Var). v.rel) e in
      record {
        path = sym (append-nil (F x).path) ∙ (ap (λ (z : ℕ). (F z).path ++ []) (sym b) ∙ ap (λ z. (F (F x).base).path ++ z) (sym r));
        straight = ap (λ (z : ℕ). (F z).straight) b ∙ ap (λ (v : Var). v.straight) e;
        known = subst (λ (z : ℕ). In z K) (sym b) i;
        self = λ q. (b, r);
      }
  based_one x y s false e h i =
      let b : (F x).base ≡ (F y).base = ap (λ (v : Var). v.base) e in
      let r : (F x).rel ≡ (F y).rel ++ s ∷ [] = ap (λ (v : Var). v.rel) e in
      record {
        path = ap (λ (v : Var). v.path) e ∙ (ap (λ z. z ++ s ∷ []) h.path ∙ (append_assoc (F (F y).base).path (F y).rel (s ∷ [])
            ∙ (ap (λ (z : ℕ). (F z).path ++ ((F y).rel ++ s ∷ [])) (sym b) ∙ ap (λ z. (F (F x).base).path ++ z) (sym r))));
        straight = ap (λ (z : ℕ). (F z).straight) b ∙ h.straight;
        known = subst (λ (z : ℕ). In z K) (sym b) h.known;
        self = λ q. absurd (true≢false (sym q ∙ ap (λ (v : Var). v.straight) e));
      }

  pub no_vars : (L : List ℕ) (d : BodyTree) → BodyIn false L d → (z : ℕ) → In z (vars d) → ⊥
  no_vars L Nil q z i = i
  no_vars L (Then (Write s) d) q z i = no_vars L d q.1 z i
  no_vars L (Then (Copy x) d) q z i = no_vars L d q.1 z i
  no_vars L (Then (For x y s e) d) q z i = absurd (false≢true q.0.0)
  no_vars L (Then (SignOff o) d) q z i = q.0
  no_vars L (Then (If c a b) d) q z i = elim (In-append z (vars a ++ vars b) (vars d) i) [
    | inl j ↦ elim (In-append z (vars a) (vars b) j) [ inl k ↦ no_vars L a q.0.1 z k | inr k ↦ no_vars L b q.0.2 z k ]
    | inr j ↦ no_vars L d q.1 z j
  ]

  based : (d : BodyTree) (u : ℕ) (b : Bool) (L : List ℕ) → BodyIn b L d → Fits F u d → ((z : ℕ) → In z (vars d) → In z K) → ((z : ℕ) → In z L → Based z) → (z : ℕ) → In z (vars d) → Based z
  based Nil u b L q f k h z i = absurd i
  based (Then (Write s) d) u b L q f k h z i = based d u b L q.1 f.1 k h z i
  based (Then (Copy x) d) u b L q f k h z i = based d u b L q.1 f.1 k h z i
  based (Then (SignOff t) d) u b L q f k h z i = absurd q.0
  based (Then (If c a e) d) u b L q f k h z i = elim (In-append z (vars a ++ vars e) (vars d) i) [
    | inl j ↦ absurd (elim (In-append z (vars a) (vars e) j) [ inl m ↦ no_vars L a q.0.1 z m | inr m ↦ no_vars L e q.0.2 z m ])
    | inr j ↦ based d u b L q.1 f.1 (λ y m. k y (In-right y (vars a ++ vars e) (vars d) m)) h z j
  ]
  based (Then (For x y s e) d) u b L q f k h z i =
      let here : Based x = based_one x y s (is_straight u y s (F y)) f.0.0 (h y q.0.1) (k x (inl refl)) in
      elim (In-append z (x ∷ vars e) (vars d) i) [
        | inl j ↦ elim j [
          | inl g ↦ subst (λ (z : ℕ). Based z) g here
          | inr m ↦ based e x b (x ∷ L) q.0.2 f.0.1 (λ y m. k y (inr (In-left y (vars e) (vars d) m)))
              (λ y m. elim m [ inl g ↦ subst (λ (z : ℕ). Based z) g here | inr n ↦ h y n ]) z m
        ]
        | inr j ↦ based d u b L q.1 f.1 (λ y m. k y (inr (In-right y (vars e) (vars d) m))) h z j
      ]

  pub based_zero : F 0 ≡ var0 → In 0 K → Based 0
  based_zero e i =
      let b : (F 0).base ≡ 0 = ap (λ (v : Var). v.base) e in
      let r : (F 0).rel ≡ [] = ap (λ (v : Var). v.rel) e in
      record {
        path = sym (append-nil (F 0).path) ∙ (ap (λ (z : ℕ). (F z).path ++ []) (sym b) ∙ ap (λ z. (F (F 0).base).path ++ z) (sym r));
        straight = ap (λ (z : ℕ). (F z).straight) b ∙ ap (λ (v : Var). v.straight) e;
        known = subst (λ (z : ℕ). In z K) (sym b) i;
        self = λ q. (b, r);
      }

pub good_based : (core : BodyTree) → Good core → (z : ℕ) → In z (0 ∷ vars core) → Based (var_tree core) (0 ∷ vars core) z
good_based core g z i =
    let F : ℕ → Var = var_tree core in
    let K : List ℕ = 0 ∷ vars core in
    let zero_based : Based F K 0 = based_zero F K (good_zero core g) (inl refl) in
    elim i [
      | inl e ↦ subst (λ (z : ℕ). Based F K z) e zero_based
      | inr j ↦ based F K core 0 true (0 ∷ []) g.inside (good_fits core g) (λ y m. inr m) (λ y m. elim m [ inl e ↦ subst (λ (z : ℕ). Based F K z) e zero_based | inr n ↦ absurd n ]) z j
    ]

-- the variables of the rows

operand_rows_in : (L : List ℕ) (o : OperandTree) → operand_in L o → (r : RoleRowTree) → In r (operand_rows o) → In r.var L
operand_rows_in L (Path x tail) h r (inl e) = subst (λ (z : RoleRowTree). In z.var L) e h
operand_rows_in L (Path x tail) h r (inr i) = absurd i
operand_rows_in L (Str b) h r i = absurd i
operand_rows_in L (Num l) h r i = absurd i

mutual
  pub cond_rows_in : (L : List ℕ) (c : CondTree) → cond_in L c → (r : RoleRowTree) → In r (cond_rows c) → In r.var L
  cond_rows_in L Always h r i = absurd i
  cond_rows_in L (Exists x tail) h r (inl e) = subst (λ (z : RoleRowTree). In z.var L) e h
  cond_rows_in L (Exists x tail) h r (inr i) = absurd i
  cond_rows_in L (Compare l q s) h r i = elim (In-append r (operand_rows l) (operand_rows s) i) [ inl j ↦ operand_rows_in L l h.0 r j | inr j ↦ operand_rows_in L s h.1 r j ]
  cond_rows_in L (Not c) h r i = cond_rows_in L c h r i
  cond_rows_in L (AllOf cs) h r i = conds_rows_in L cs h r i
  cond_rows_in L (AnyOf cs) h r i = conds_rows_in L cs h r i

  conds_rows_in : (L : List ℕ) (cs : CondTrees) → conds_in L cs → (r : RoleRowTree) → In r (conds_rows cs) → In r.var L
  conds_rows_in L no_cond h r i = absurd i
  conds_rows_in L (more_conds c cs) h r i = elim (In-append r (cond_rows c) (conds_rows cs) i) [ inl j ↦ cond_rows_in L c h.0 r j | inr j ↦ conds_rows_in L cs h.1 r j ]

rows_in : (d : BodyTree) (b : Bool) (L : List ℕ) → BodyIn b L d → (r : RoleRowTree) → In r (rows d) → In r.var L ⊎ In r.var (vars d)
rows_in Nil b L q r i = absurd i
rows_in (Then (Write s) d) b L q r i = rows_in d b L q.1 r i
rows_in (Then (SignOff o) d) b L q r i = absurd q.0
rows_in (Then (Copy x) d) b L q r i = elim i [ inl e ↦ inl (subst (λ (z : RoleRowTree). In z.var L) e q.0) | inr j ↦ rows_in d b L q.1 r j ]
rows_in (Then (For x y s e) d) b L q r i = elim (In-append r (own_row x ∷ rows e) (rows d) i) [
  | inl j ↦ elim j [
    | inl f ↦ inr (inl (ap (λ (z : RoleRowTree). z.var) f))
    | inr k ↦ elim (rows_in e b (x ∷ L) q.0.2 r k) [
      | inl m ↦ elim m [ inl f ↦ inr (inl f) | inr n ↦ inl n ]
      | inr m ↦ inr (inr (In-left r.var (vars e) (vars d) m))
    ]
  ]
  | inr j ↦ elim (rows_in d b L q.1 r j) [ inl m ↦ inl m | inr m ↦ inr (inr (In-right r.var (vars e) (vars d) m)) ]
]
rows_in (Then (If c a e) d) b L q r i = elim (In-append r (cond_rows c ++ (rows a ++ rows e)) (rows d) i) [
  | inl j ↦ elim (In-append r (cond_rows c) (rows a ++ rows e) j) [
    | inl k ↦ inl (cond_rows_in L c q.0.0 r k)
    | inr k ↦ elim (In-append r (rows a) (rows e) k) [
      | inl m ↦ elim (rows_in a false L q.0.1 r m) [ inl n ↦ inl n | inr n ↦ inr (In-left r.var (vars a ++ vars e) (vars d) (In-left r.var (vars a) (vars e) n)) ]
      | inr m ↦ elim (rows_in e false L q.0.2 r m) [ inl n ↦ inl n | inr n ↦ inr (In-left r.var (vars a ++ vars e) (vars d) (In-right r.var (vars a) (vars e) n)) ]
    ]
  ]
  | inr j ↦ elim (rows_in d b L q.1 r j) [ inl m ↦ inl m | inr m ↦ inr (In-right r.var (vars a ++ vars e) (vars d) m) ]
]

pub roles_known : (core : BodyTree) → Good core → (r : RoleRowTree) → In r (roles_of core) → In r.var (0 ∷ vars core)
roles_known core g r (inl e) = inl (ap (λ (z : RoleRowTree). z.var) e)
roles_known core g r (inr i) = elim (rows_in core true (0 ∷ []) g.inside r i) [
  | inl j ↦ elim j [ inl e ↦ inl e | inr k ↦ absurd k ]
  | inr j ↦ inr j
]

-- the way to a straight variable

module _ (ends : ℕ → List OffTree) (p : OffTree → Bool) (b : ℕ) where
  -- p picks one statement, which is of b
  pub record Picks : Type 0 where
    pub others : (x : ℕ) → eqb x b ≡ false → (o : OffTree) → In o (ends x) → p o ≡ false
    pub left : List OffTree
    pub itself : OffTree
    pub right : List OffTree
    pub are : ends b ≡ left ++ itself ∷ right
    pub picked : p itself ≡ true
    pub based : itself.base ≡ b
    pub none_left : (o : OffTree) → In o left → p o ≡ false
    pub none_right : (o : OffTree) → In o right → p o ≡ false

  quiet_add : (d : BodyTree) (os : List OffTree) → quiet p d ≡ true → ((o : OffTree) → In o os → p o ≡ false) → quiet p (add_offs d os) ≡ true
  quiet_add Nil [] q h = refl
  quiet_add Nil (o ∷ os) q h = and_from _ _ (ap not (h o (inl refl))) (quiet_add Nil os refl (λ r i. h r (inr i)))
  quiet_add (Then i d) os q h = let a = and_parts (quiet_item p i) (quiet p d) q in and_from _ _ a.0 (quiet_add d os a.1 h)

  -- a body of the core has no statement
  quiet_core : (d : BodyTree) (c : Bool) (L : List ℕ) → BodyIn c L d → quiet p d ≡ true
  quiet_core Nil c L q = refl
  quiet_core (Then (Write s) d) c L q = quiet_core d c L q.1
  quiet_core (Then (Copy x) d) c L q = quiet_core d c L q.1
  quiet_core (Then (SignOff o) d) c L q = absurd q.0
  quiet_core (Then (For x y s e) d) c L q = and_from _ _ (quiet_core e c (x ∷ L) q.0.2) (quiet_core d c L q.1)
  quiet_core (Then (If k a e) d) c L q = and_from _ _ (and_from _ _ (quiet_core a false L q.0.1) (quiet_core e false L q.0.2)) (quiet_core d c L q.1)

  module _ (pk : Picks) where
    -- where the loop of b isn't, its statement isn't
    away : (d : BodyTree) (c : Bool) (L : List ℕ) → BodyIn c L d → (In b (vars d) → ⊥) → quiet p (place ends d) ≡ true
    away Nil c L q h = refl
    away (Then (Write s) d) c L q h = away d c L q.1 h
    away (Then (Copy x) d) c L q h = away d c L q.1 h
    away (Then (SignOff o) d) c L q h = absurd q.0
    away (Then (If k a e) d) c L q h =
        and_from _ _ (and_from _ _ (quiet_core a false L q.0.1) (quiet_core e false L q.0.2)) (away d c L q.1 (λ i. h (In-right b (vars a ++ vars e) (vars d) i)))
    away (Then (For x y s e) d) c L q h =
        and_from _ _
        (quiet_add (place ends e) (ends x) (away e c (x ∷ L) q.0.2 (λ i. h (inr (In-left b (vars e) (vars d) i)))) (pk.others x (ne_eqb x b (λ f. h (inl f)))))
        (away d c L q.1 (λ i. h (inr (In-right b (vars e) (vars d) i))))

    own_offs : (left : List OffTree) → ((o : OffTree) → In o left → p o ≡ false) → Own p b (offs_body (left ++ pk.itself ∷ pk.right))
    own_offs [] h = Itself pk.picked pk.based (quiet_add Nil pk.right refl pk.none_right)
    own_offs (o ∷ left) h = Before (ap not (h o (inl refl))) (own_offs left (λ r i. h r (inr i)))

    own_body : (d : BodyTree) → quiet p d ≡ true → Own p b (add_offs d (ends b))
    own_body Nil q = subst (λ (z : List OffTree). Own p b (offs_body z)) (sym pk.are) (own_offs pk.left pk.none_left)
    own_body (Then i d) q = let r = and_parts (quiet_item p i) (quiet p d) q in Before r.0 (own_body d r.1)

    module _ (F : ℕ → Var) where
      -- the way from the body of u to that of b, with the steps between them
      pub record Found (u : ℕ) (D : BodyTree) : Type 0 where
        pub straight : (F u).straight ≡ true
        pub step : Step
        pub rest : List Step
        pub way : Way p b u D (step ∷ rest)
        pub path : (F b).path ≡ (F u).path ++ step ∷ rest
        pub one : one_desc (F b).path ≡ true

      skip_found : (u : ℕ) (i : ItemTree) (D : BodyTree) → quiet_item p i ≡ true → Found u D → Found u (Then i D)
      skip_found u i D q r = record { straight = r.straight; step = r.step; rest = r.rest; way = Skip q r.way; path = r.path; one = r.one }

      straight_parts : (u x y : ℕ) (s : Step) → F x ≡ var_of u x y s (F y) → (F x).straight ≡ true → ((F y).straight ≡ true) × (y ≡ u) × (one_desc (F x).path ≡ true)
      straight_parts u x y s e h =
          let a = and_parts (F y).straight (eqb y u && one_desc ((F y).path ++ s ∷ [])) (sym (ap (λ (v : Var). v.straight) e) ∙ h) in
          let q = and_parts (eqb y u) (one_desc ((F y).path ++ s ∷ [])) a.1 in
          (a.0, eqb-true _ _ q.0, ap (λ (v : Var). one_desc v.path) e ∙ q.1)

      find : (u : ℕ) (d : BodyTree) (c : Bool) (L : List ℕ) (os : List OffTree) → BodyIn c L d → Fits F u d → Once (vars d) → In b (vars d) → (F b).straight ≡ true → ((o : OffTree) → In o os → p o ≡ false) → Found u (add_offs (place ends d) os)
      find u Nil c L os q f o i st h = absurd i
      find u (Then (Write s) d) c L os q f o i st h = skip_found u (Write s) _ refl (find u d c L os q.1 f.1 o i st h)
      find u (Then (Copy x) d) c L os q f o i st h = skip_found u (Copy x) _ refl (find u d c L os q.1 f.1 o i st h)
      find u (Then (SignOff t) d) c L os q f o i st h = absurd q.0
      find u (Then (If k a e) d) c L os q f o i st h =
          skip_found u (If k a e) _ (and_from _ _ (quiet_core a false L q.0.1) (quiet_core e false L q.0.2))
          (find u d c L os q.1 f.1 (Once-right (vars a ++ vars e) (vars d) o) (elim (In-append b (vars a ++ vars e) (vars d) i) [
            | inl j ↦ absurd (elim (In-append b (vars a) (vars e) j) [ inl m ↦ no_vars F L L a q.0.1 b m | inr m ↦ no_vars F L L e q.0.2 b m ])
            | inr j ↦ j
          ]) st h)
      find u (Then (For x y s e) d) c L os q f o i st h =
          let oe = Once-left (x ∷ vars e) (vars d) o in
          elim (In-append b (x ∷ vars e) (vars d) i) [
            | inl j ↦ (
                let rest : quiet p (add_offs (place ends d) os) ≡ true = quiet_add (place ends d) os (away d c L q.1 (Once-apart (x ∷ vars e) (vars d) o b j)) h in
                elim j [
                  | inl g ↦ (
                      let a = straight_parts u x y s f.0.0 (ap (λ (z : ℕ). (F z).straight) g ∙ st) in
                      record {
                        straight = ap (λ (z : ℕ). (F z).straight) (sym a.1) ∙ a.0;
                        step = s;
                        rest = [];
                        way = subst (λ (z : ℕ). Way p b u (Then (For x z s (add_offs (place ends e) (ends x))) (add_offs (place ends d) os)) (s ∷ [])) (sym a.1)
                            (subst (λ (z : ℕ). Way p b u (Then (For z u s (add_offs (place ends e) (ends z))) (add_offs (place ends d) os)) (s ∷ [])) (sym g)
                            (Here (Top (own_body (place ends e) (away e c (x ∷ L) q.0.2 (λ k. oe.0 (subst (λ (z : ℕ). In z (vars e)) (sym g) k))))) rest));
                        path = ap (λ (z : ℕ). (F z).path) (sym g) ∙ (ap (λ (v : Var). v.path) f.0.0 ∙ ap (λ (z : ℕ). (F z).path ++ s ∷ []) a.1);
                        one = ap (λ (z : ℕ). one_desc (F z).path) (sym g) ∙ a.2;
                      })
                  | inr k ↦ (
                      let ne : eqb x b ≡ false = ne_eqb x b (λ g. oe.0 (subst (λ (z : ℕ). In z (vars e)) (sym g) k)) in
                      let r = find x e c (x ∷ L) (ends x) q.0.2 f.0.1 oe.1 k st (pk.others x ne) in
                      let a = straight_parts u x y s f.0.0 r.straight in
                      record {
                        straight = ap (λ (z : ℕ). (F z).straight) (sym a.1) ∙ a.0;
                        step = s;
                        rest = r.step ∷ r.rest;
                        way = subst (λ (z : ℕ). Way p b u (Then (For x z s (add_offs (place ends e) (ends x))) (add_offs (place ends d) os)) (s ∷ r.step ∷ r.rest)) (sym a.1) (Here r.way rest);
                        path = r.path ∙ (ap (λ (v : Var). v.path ++ r.step ∷ r.rest) f.0.0 ∙ (append_assoc (F y).path (s ∷ []) (r.step ∷ r.rest) ∙ ap (λ (z : ℕ). (F z).path ++ s ∷ r.step ∷ r.rest) a.1));
                        one = r.one;
                      })
                ])
            | inr j ↦ skip_found u (For x y s (add_offs (place ends e) (ends x))) _
                (quiet_add (place ends e) (ends x) (away e c (x ∷ L) q.0.2 (λ k. Once-apart (x ∷ vars e) (vars d) o b (inr k) j)) (pk.others x (ne_eqb x b (λ g. Once-apart (x ∷ vars e) (vars d) o b (inl g) j))))
                (find u d c L os q.1 f.1 (Once-right (x ∷ vars e) (vars d) o) j st h)
          ]

module _ (core : BodyTree) (g : Good core) where
  -- what picks one statement of all
  picks : (p : OffTree → Bool) (o : OffTree) → In o (offs_of core) → p o ≡ true → ((q : OffTree) → In q (offs_of core) → (q ≡ o → ⊥) → p q ≡ false) → Picks (at_end (offs_of core)) p o.base
  picks p o i picked differs =
      let os : List OffTree = offs_of core in
      let V : ℕ → Var = var_tree core in
      let rs : List RoleRowTree = roles_of core in
      let r = round_member o (at_end os o.base) (once_end os o.base (once_statements V rs 0 rs)) (in_end os o.base o i refl) in
      record {
        others = λ x n q j. let e = end_in os x q j in differs q e.0 (λ f. true≢false (sym (eq-eqb x o.base (sym e.1 ∙ ap (λ (z : OffTree). z.base) f)) ∙ n));
        left = r.left;
        itself = o;
        right = r.right;
        are = r.are;
        picked = picked;
        based = refl;
        none_left = λ q j. differs q (end_in os o.base q (subst (λ (z : List OffTree). In q z) (sym r.are) (In-left q r.left (o ∷ r.right) j))).0 (λ f. r.not_left (subst (λ (z : OffTree). In z r.left) f j));
        none_right = λ q j. differs q (end_in os o.base q (subst (λ (z : List OffTree). In q z) (sym r.are) (In-right q r.left (o ∷ r.right) (inr j)))).0 (λ f. r.not_right (subst (λ (z : OffTree). In z r.right) f j));
      }

  -- the way to the base of each statement, by the steps of the base's path, of which at most one is a descendant step
  pub way_of : (p : OffTree → Bool) (o : OffTree) → In o (offs_of core) → p o ≡ true → ((q : OffTree) → In q (offs_of core) → (q ≡ o → ⊥) → p q ≡ false) → In o.base (0 ∷ vars core) → (var_tree core o.base).straight ≡ true
      → Way p o.base 0 (reading core).body (var_tree core o.base).path × (one_desc (var_tree core o.base).path ≡ true)
  way_of p o i picked differs (inl e) st =
      let pk = picks p o i picked differs in
      let path : (var_tree core o.base).path ≡ [] = ap (λ (z : ℕ). (var_tree core z).path) (sym e) ∙ ap (λ (v : Var). v.path) (good_zero core g) in
      let away_zero : quiet p (place (at_end (offs_of core)) core) ≡ true = away (at_end (offs_of core)) p o.base pk core true (0 ∷ []) g.inside (λ j. good_not_zero core g (subst (λ (z : ℕ). In z (vars core)) (sym e) j)) in
      let body : Own p o.base (add_offs (place (at_end (offs_of core)) core) (at_end (offs_of core) o.base)) = own_body (at_end (offs_of core)) p o.base pk (place (at_end (offs_of core)) core) away_zero in (
        subst (λ (z : List Step). Way p o.base 0 (reading core).body z) (sym path)
            (subst (λ (z : ℕ). Way p o.base z (add_offs (place (at_end (offs_of core)) core) (at_end (offs_of core) z)) []) (sym e) (Top body)),
        ap one_desc path,
      )
  way_of p o i picked differs (inr j) st =
      let pk = picks p o i picked differs in
      let r = find (at_end (offs_of core)) p o.base pk (var_tree core) 0 core true (0 ∷ []) (at_end (offs_of core) 0) g.inside (good_fits core g) (good_once core g) j st
      (pk.others 0 (ne_eqb 0 o.base (λ e. good_not_zero core g (subst (λ (z : ℕ). In z (vars core)) (sym e) j)))) in
      (subst (λ (z : List Step). Way p o.base 0 (reading core).body z) (sym (r.path ∙ ap (λ (v : Var). v.path ++ r.step ∷ r.rest) (good_zero core g))) r.way, r.one)
