-- A role more, given to nodes.
use Rattle.std.proofs.Common.{◌≡◌, ◌⊎◌, ℕ, zero, suc, ◌+◌, ◌-◌, ◌<◌, ◌≤◌, Bool, true, false, cond, ◌||◌, List, [], ◌∷◌, ◌++◌, length, max, get_or, set, take, slice_get, Some, refl, sym, ◌∙◌, ap, subst, inl, inr, arith, eqb}
use Rattle.std.specs.List.{filter}
use Rattle.std.proofs.lemmas.Bool.{cases_eq, cases_lt, eq-eqb, ne_eqb, true≢false}
use Rattle.std.proofs.lemmas.List.{get_or_default, get_or-set_other, get_or-set_same, length-set, map-append, take_more}
use Rattle.std.proofs.lemmas.List.Elements.{filter-append}
use Rattle.base_laws.proofs.Members.{in_map}
use Rattle.base_laws.proofs.Numbers.{count_high}
use Rattle.gcx_base.specs.declared.ids.Role.{Role}
use Rattle.gcx_model.specs.Given.{IsAboveLast}
use Rattle.gcx_model.specs.Members.{In, count}
use Rattle.tree_laws.proofs.Lists.{In-append, In-filter}
use Rattle.trace_check.specs.Reaching.{covers, in_range}
use Rattle.trace_check.specs.Wanting.{AreBelow, IsGivenTo, is_last, numbers_in, with_role}
use Rattle.trace_check.specs.declared.reach.Range.{Range}
use Rattle.trace_check.proofs.Entries.{all_far, more_far, not_far, same_far, so_far}
use Rattle.trace_check.proofs.Reached.{covers_push}

-- ---- the last role

last_push : (roles : List Role) (role : Role) → is_last (roles ++ role ∷ []) role ≡ true
last_push [] role = eq-eqb role.0 role.0 refl
last_push (r ∷ []) role = eq-eqb role.0 role.0 refl
last_push (r ∷ s ∷ rest) role = last_push (s ∷ rest) role

not_last : (roles : List Role) (role : Role) → AreBelow role.0 roles → is_last roles role ≡ false
not_last [] role h = refl
not_last (r ∷ []) role h = let l = h r (inl refl) in ne_eqb r.0 role.0 (λ e. omega (arith, l, e))
not_last (r ∷ s ∷ rest) role h = not_last (s ∷ rest) role (λ x i. h x (inr i))

-- a role that isn't the last one and stands below the next one is above the last one
pub above_last : (roles : List Role) (role : Role) → AreBelow (suc role.0) roles → is_last roles role ≡ false → IsAboveLast roles role
above_last [] role h e = tt
above_last (r ∷ []) role h e = elim (cases_lt r.0 role.0) [
  | inl a ↦ a
  | inr b ↦ (let l = h r (inl refl) in absurd (true≢false (sym (eq-eqb r.0 role.0 (omega (arith, l, b))) ∙ e)))
]
above_last (r ∷ s ∷ rest) role h e = above_last (s ∷ rest) role (λ x i. h x (inr i)) e

pub last_at : (roles : List Role) (role last : Role) → Some last ≡ slice_get roles (length roles - 1) → eqb last.0 role.0 ≡ is_last roles role
last_at [] role last e = absurd (cc)
last_at (r ∷ []) role last e = let f : last ≡ r = cc in ap (λ (x : Role). eqb x.0 role.0) f
last_at (r ∷ s ∷ rest) role last e =
    let n : length (r ∷ s ∷ rest) - 1 ≡ suc (length (s ∷ rest) - 1) = omega arith in
    last_at (s ∷ rest) role last (e ∙ ap (slice_get (r ∷ s ∷ rest)) n)

-- it stands there once
with_again : (role : Role) (roles : List Role) → with_role role (with_role role roles) ≡ with_role role roles
with_again role roles = go (is_last roles role) refl
  where
    go : (b : Bool) → is_last roles role ≡ b → with_role role (cond b roles (roles ++ role ∷ [])) ≡ cond b roles (roles ++ role ∷ [])
    go true e = ap (λ (b : Bool). cond b roles (roles ++ role ∷ [])) e
    go false e = ap (λ (b : Bool). cond b (roles ++ role ∷ []) ((roles ++ role ∷ []) ++ role ∷ [])) (last_push roles role)

-- and stands below the next one
pub below_with : (role : Role) (roles : List Role) → AreBelow (suc role.0) roles → AreBelow (suc role.0) (with_role role roles)
below_with role roles h = go (is_last roles role)
  where
    go : (b : Bool) → AreBelow (suc role.0) (cond b roles (roles ++ role ∷ []))
    go true r i = h r i
    go false r i = elim (In-append r roles (role ∷ []) i) [
      | inl j ↦ h r j
      | inr j ↦ elim j [ inl e ↦ (let f = ap (λ (x : Role). x.0) e in omega (arith, f)) | inr k ↦ absurd k ]
    ]

-- ---- entries

pub given_none : (role : Role) (p : ℕ → Bool) (old : List (List Role)) → ((k : ℕ) → k < length old → p k ≡ false) → IsGivenTo role p old old
given_none role p old none = record {
  as_many = refl;
  entries = λ k l. sym (ap (λ (b : Bool). cond b (with_role role (get_or old k [])) (get_or old k [])) (none k l));
}

pub given_same : (role : Role) (p q : ℕ → Bool) (old new : List (List Role)) → ((k : ℕ) → k < length old → p k ≡ q k) → IsGivenTo role p old new → IsGivenTo role q old new
given_same role p q old new same h = record {
  as_many = h.as_many;
  entries = λ k l. h.entries k l ∙ ap (λ (b : Bool). cond b (with_role role (get_or old k [])) (get_or old k [])) (same k l);
}

pub given_then : (role : Role) (p q : ℕ → Bool) (old mid new : List (List Role)) → IsGivenTo role p old mid → IsGivenTo role q mid new → IsGivenTo role (λ k. p k || q k) old new
given_then role p q old mid new h g = record {
  as_many = g.as_many ∙ h.as_many;
  entries = λ k l.
      g.entries k (let e = h.as_many in omega (arith, l, e))
      ∙ (ap (λ (roles : List Role). cond (q k) (with_role role roles) roles) (h.entries k l) ∙ both (p k) (q k) (get_or old k []));
}
  where
    both : (a b : Bool) (roles : List Role) → cond b (with_role role (cond a (with_role role roles) roles)) (cond a (with_role role roles) roles) ≡ cond (a || b) (with_role role roles) roles
    both true true roles = with_again role roles
    both true false roles = refl
    both false b roles = refl

-- ---- the entries of a range

-- one entry more
pub given_one : (role : Role) (first i : ℕ) (old mid : List (List Role)) (d roles : List Role) → i < length mid → first ≤ i → IsGivenTo role (so_far first i) old mid
    → roles ≡ with_role role (get_or mid i d) → IsGivenTo role (so_far first (i + 1)) old (set mid i roles)
given_one role first i old mid d roles l from h is = record {
  as_many = length-set mid i roles ∙ h.as_many;
  entries = λ k m. elim (cases_eq k i) [
    | inl same ↦
        ap (λ (j : ℕ). get_or (set mid i roles) j []) same
        ∙ (get_or-set_same mid i roles [] l
        ∙ (is
        ∙ (ap (with_role role) (get_or_default mid i d [] l ∙ (h.entries i there ∙ ap (λ (b : Bool). cond b (with_role role (get_or old i [])) (get_or old i [])) (not_far first i)))
        ∙ sym (ap (λ (b : Bool). cond b (with_role role (get_or old k [])) (get_or old k [])) (ap (so_far first (i + 1)) same ∙ more_far first i from) ∙ ap (λ (j : ℕ). with_role role (get_or old j [])) same))))
    | inr other ↦
        get_or-set_other mid i k roles [] other
        ∙ (h.entries k m ∙ ap (λ (b : Bool). cond b (with_role role (get_or old k [])) (get_or old k [])) (same_far first i k other))
  ];
}
  where
    there : i < length old
    there = let e = h.as_many in omega (arith, l, e)

pub given_range : (r : Range) (node : ℕ) (role : Role) (old new : List (List Role)) → node ≤ max r.first (suc r.last) → ((r.last < node) ⊎ (length old ≤ node))
    → IsGivenTo role (so_far r.first node) old new → IsGivenTo role (λ k. in_range k r) old new
given_range r node role old new most end h = given_same role (so_far r.first node) (λ k. in_range k r) old new (all_far r node (length old) most end) h

-- one range more
pub given_ranges : (ranges : List Range) (i : ℕ) (d : Range) (role : Role) (old mid new : List (List Role)) → i < length ranges → IsGivenTo role (covers (take i ranges)) old mid
    → IsGivenTo role (λ k. in_range k (get_or ranges i d)) mid new → IsGivenTo role (covers (take (i + 1) ranges)) old new
given_ranges ranges i d role old mid new l h g =
    given_same role (λ k. covers (take i ranges) k || in_range k (get_or ranges i d)) (covers (take (i + 1) ranges)) old new
    (λ k m. sym (ap (λ (rs : List Range). covers rs k) (take_more ranges i d l) ∙ covers_push (take i ranges) (get_or ranges i d) k))
    (given_then role (covers (take i ranges)) (λ k. in_range k (get_or ranges i d)) old mid new h g)

-- ---- the roles of a node

count_push : (k n : ℕ) → count k (suc n) ≡ count k n ++ (k + n) ∷ []
count_push k zero = ap (λ (i : ℕ). i ∷ []) (let e : k ≡ k + 0 = omega arith in e)
count_push k (suc n) = ap (λ (l : List ℕ). k ∷ l) (count_push (suc k) n ∙ ap (λ (i : ℕ). count (suc k) n ++ i ∷ []) (let e : suc k + n ≡ k + suc n = omega arith in e))

-- roles among the first ones are below the next one
pub below_by : (roles : List Role) (p : ℕ → Bool) (n : ℕ) → numbers_in roles ≡ filter p (count 0 n) → AreBelow n roles
below_by roles p n e r i =
    let there = In-filter p r.0 (count 0 n) (subst (λ (l : List ℕ). In r.0 l) e (in_map (λ (x : Role). x.0) r roles i)) in
    let l = count_high 0 n r.0 there.0 in
    omega (arith, l)

-- a role more, where it is given
pub roles_push : (roles : List Role) (p : ℕ → Bool) (role : Role) → numbers_in roles ≡ filter p (count 0 role.0)
    → numbers_in (cond (p role.0) (with_role role roles) roles) ≡ filter p (count 0 (suc role.0))
roles_push roles p role e =
    let more : filter p (count 0 (suc role.0)) ≡ filter p (count 0 role.0) ++ cond (p role.0) (role.0 ∷ []) [] =
    ap (filter p) (count_push 0 role.0 ∙ ap (λ (i : ℕ). count 0 role.0 ++ i ∷ []) (let z : 0 + role.0 ≡ role.0 = omega arith in z))
    ∙ filter-append p (count 0 role.0) (role.0 ∷ []) in
    go (p role.0) ∙ sym more
  where
    behind : with_role role roles ≡ roles ++ role ∷ []
    behind = ap (λ (b : Bool). cond b roles (roles ++ role ∷ [])) (not_last roles role (below_by roles p role.0 e))

    go : (b : Bool) → numbers_in (cond b (with_role role roles) roles) ≡ filter p (count 0 role.0) ++ cond b (role.0 ∷ []) []
    go true = ap numbers_in behind ∙ (map-append (λ (x : Role). x.0) roles (role ∷ []) ∙ ap (λ (l : List ℕ). l ++ role.0 ∷ []) e)
    go false = e ∙ append_none (filter p (count 0 role.0))
      where
        append_none : (l : List ℕ) → l ≡ l ++ []
        append_none [] = refl
        append_none (x ∷ l) = ap (λ (m : List ℕ). x ∷ m) (append_none l)
