-- What the store tells of a row that contracts see.
use Rattle.std.proofs.Common.{◌≡◌, ◌==◌, ℕ, zero, suc, ◌+◌, ◌<◌, ◌≤◌, Bool, true, false, cond, not, add-one, take, List, [], ◌∷◌, ◌++◌, length, refl, sym, ◌∙◌, ap, subst, inl, inr, arith, Some, None, Option, get_or}
use Rattle.std.specs.Prelude.{option_map, option_and_then, IsSome}
use Rattle.std.specs.List.{list_any}
use Rattle.std.specs.FinMap.{get}
use Rattle.std.specs.Ordering.{nat_cmp}
use Rattle.std.specs.Cmp.{nat_cmp_total}
use Rattle.std.specs.FinSet as set
use Rattle.std.specs.FinSet.{from_list, from_list_push, nat_cmp-IsAntisymmetric}
use Rattle.std.proofs.lemmas.List.{append-nil}
use Rattle.std.proofs.lemmas.List.Elements.{filter-append}
use Rattle.std.proofs.lemmas.Bool.{or_left, or_right, or_from, or_parts, eq-eqb}
use Rattle.gcx_base.specs.declared.ids.Role.{Role}
use Rattle.gcx_model.specs.Members.{In}
use Rattle.gcx_model.specs.Paths.{head}
use Rattle.node_store.specs.Rows.{StoreRow, parent_of, Rises, IsTree}
use Rattle.buf_tree.specs.Row.{Row}
use Rattle.buf_tree.specs.Shape.{Store, Cell, num, cells, at_serial, entry_in, Shape, Shaped}
use Rattle.buf_tree.specs.View.{View, InUse, Innermost}
use Rattle.buf_tree.specs.Calls.{Started, root_row, numbers, less}
use Rattle.buf_tree.proofs.Shaping.{get_of}

module _ (m : Store) (xs : List Cell) (p : ℕ) (s : Shaped m) (is : cells m ≡ xs) where
  shape_seen : Shape m xs
  shape_seen = subst (λ (zs : List Cell). Shape m zs) is s

  pub entry_at : (c : Cell) → In c xs → c.place ≡ p → get m p ≡ Some (entry_in xs c)
  entry_at c i e = ap (get m) (sym e) ∙ get_of m xs shape_seen c i

  pub used : InUse xs p → IsSome (get m p)
  used u = subst (λ o. IsSome o) (sym (entry_at u.cell u.among u.place)) refl

  pub row_at : (c : Cell) → In c xs → c.place ≡ p → (r : Row) → option_map (λ (e : StoreRow Row). e.payload) (get m p) ≡ Some r → c.row ≡ r
  row_at c i e r h =
      let same : Some c.row ≡ Some r = sym (ap (option_map (λ (x : StoreRow Row). x.payload)) (entry_at c i e)) ∙ h in
      cc

pub innermost_used : (xs : List Cell) (p : ℕ) → Innermost xs p → InUse xs p
innermost_used xs p i = record { cell = i.cell; among = i.among; place = i.place }

-- the root is the first row
module _ (m : Store) (root : Option ℕ) (t : IsTree m root) where
  no_root : Shape m [] → root ≡ None
  no_root s = go root refl
    where
      go : (o : Option ℕ) → root ≡ o → o ≡ None
      go None e = refl
      go (Some p) e =
          let h = t.top p e in
          let bad : Some h.0 ≡ None = sym h.1 ∙ s.gets p in
          absurd (cc)

  first_is_root : (x : Cell) (xs : List Cell) → Shape m (x ∷ xs) → root ≡ Some x.place
  first_is_root x xs s = climb rise.0 rise.1
    where
      at : get m x.place ≡ Some (entry_in (x ∷ xs) x)
      at = get_of m (x ∷ xs) s x (inl refl)

      rise : (n : ℕ) × Rises m root n x.place
      rise = t.rises x.place (subst (λ o. IsSome o) (sym at) refl)

      zero_num : num x ≡ 0
      zero_num = elim (s.up x (inl refl)) [
        | inl z ↦ z
        | inr a ↦ elim a.1 [
          | inl e ↦ (let l = a.3 in let f = ap num e in absurd (omega arith))
          | inr j ↦ (let l = a.3 in let f = s.rising.0 a.0 j in absurd (omega arith))
        ]
      ]

      alone : parent_of m x.place ≡ None
      alone = ap (option_and_then (λ (e : StoreRow Row). e.parent)) at ∙ ap (λ b. cond b None (option_map (λ (c : Cell). c.place) (at_serial x.row.parent (x ∷ xs)))) (eq-eqb (num x) 0 zero_num)

      climb : (n : ℕ) → Rises m root n x.place → root ≡ Some x.place
      climb zero h = h
      climb (suc n) h =
          let bad : None ≡ Some h.0 = sym alone ∙ h.1 in
          absurd (cc)

  pub root_is : (xs : List Cell) → Shaped m → cells m ≡ xs → root ≡ option_map (λ (c : Cell). c.place) (head xs)
  root_is xs s is = go xs (subst (λ (zs : List Cell). Shape m zs) is s)
    where
      go : (ys : List Cell) → Shape m ys → root ≡ option_map (λ (c : Cell). c.place) (head ys)
      go [] h = no_root h
      go (y ∷ ys) h = first_is_root y ys h

-- a role of the list is in it
pub any_at : (xs : List Role) (i k : ℕ) (d : Role) → i < length xs → ((get_or xs i d).0 == k) ≡ true → list_any (λ j. j == k) (numbers xs) ≡ true
any_at [] i k d l e = absurd (omega arith)
any_at (x ∷ xs) zero k d l e = or_left _ _ e
any_at (x ∷ xs) (suc i) k d l e = or_right _ _ (any_at xs i k d (omega arith) e)

take_every : (xs : List Role) (i : ℕ) → length xs ≤ i → take i xs ≡ xs
take_every [] zero l = refl
take_every [] (suc i) l = refl
take_every (x ∷ xs) zero l = absurd (omega arith)
take_every (x ∷ xs) (suc i) l = ap (λ z. x ∷ z) (take_every xs i (omega arith))

take_next : (xs : List Role) (i : ℕ) (d : Role) → i < length xs → numbers (take (suc i) xs) ≡ numbers (take i xs) ++ (get_or xs i d).0 ∷ []
take_next [] i d l = absurd (omega arith)
take_next (x ∷ xs) zero d l = refl
take_next (x ∷ xs) (suc i) d l = ap (λ z. x.0 ∷ z) (take_next xs i d (omega arith))

any_push : (xs : List ℕ) (y k : ℕ) → list_any (λ j. j == k) xs ≡ false → (y == k) ≡ false → list_any (λ j. j == k) (xs ++ y ∷ []) ≡ false
any_push [] y k h e = or_from _ _ e refl
any_push (x ∷ xs) y k h e = let q = or_parts (x == k) (list_any (λ j. j == k) xs) h in or_from _ _ q.0 (any_push xs y k q.1 e)

-- a role of the front or the next one
pub any_next : (xs : List Role) (i k : ℕ) (d : Role) → i < length xs → list_any (λ j. j == k) (numbers (take i xs)) ≡ false → ((get_or xs i d).0 == k) ≡ false → list_any (λ j. j == k) (numbers (take (i + 1) xs)) ≡ false
any_next xs i k d l h e =
    ap (λ n. list_any (λ j. j == k) (numbers (take n xs))) (add-one i)
    ∙ ap (list_any (λ j. j == k)) (take_next xs i d l) ∙ any_push (numbers (take i xs)) (get_or xs i d).0 k h e

pub any_end : (xs : List Role) (i k : ℕ) → length xs ≤ i → list_any (λ j. j == k) (numbers (take i xs)) ≡ false → list_any (λ j. j == k) (numbers xs) ≡ false
any_end xs i k l h = ap (λ zs. list_any (λ j. j == k) (numbers zs)) (sym (take_every xs i l)) ∙ h

-- the roles that are given, one by one
pub less_next : (gs as_ : List Role) (i : ℕ) (d : Role) (b : Bool) (s s' : set.FinSet nat_cmp) → i < length gs → s ≡ from_list (less (numbers (take i gs)) (numbers as_)) → list_any (λ k. k == (get_or gs i d).0) (numbers as_) ≡ b
    → s' ≡ cond b s (set.insert s (get_or gs i d).0) → s' ≡ from_list (less (numbers (take (i + 1) gs)) (numbers as_))
less_next gs as_ i d b s s' l e f g =
    let p : ℕ → Bool = λ r. not (list_any (λ y. y == r) (numbers as_)) in
    let x : ℕ = (get_or gs i d).0 in
    let more : less (numbers (take (i + 1) gs)) (numbers as_) ≡ less (numbers (take i gs)) (numbers as_) ++ cond (p x) (x ∷ []) [] =
    ap (λ n. less (numbers (take n gs)) (numbers as_)) (add-one i) ∙ ap (λ zs. less zs (numbers as_)) (take_next gs i d l) ∙ filter-append p (numbers (take i gs)) (x ∷ []) in
    g ∙ go b f ∙ ap (λ zs. from_list {R = nat_cmp} zs) (sym more)
  where
    go : (b : Bool) → list_any (λ y. y == (get_or gs i d).0) (numbers as_) ≡ b
        → cond b s (set.insert s (get_or gs i d).0) ≡ from_list (less (numbers (take i gs)) (numbers as_) ++ cond (not (list_any (λ y. y == (get_or gs i d).0) (numbers as_))) ((get_or gs i d).0 ∷ []) [])
    go true f = rw (f, e) (ap (λ zs. from_list {R = nat_cmp} zs) (sym (append-nil _)))
    go false f = rw (f, e) (sym (from_list_push nat_cmp_total nat_cmp-IsAntisymmetric (less (numbers (take i gs)) (numbers as_)) (get_or gs i d).0))

pub less_same : (s : set.FinSet nat_cmp) (gs as_ given ahead : List Role) → s ≡ from_list (less (numbers gs) (numbers as_)) → gs ≡ given → as_ ≡ ahead → s ≡ from_list (less (numbers given) (numbers ahead))
less_same s gs as_ given ahead e f h = e ∙ (λ t. from_list {R = nat_cmp} (less (numbers (f t)) (numbers (h t))))

less_none : (xs : List ℕ) → less xs [] ≡ xs
less_none [] = refl
less_none (x ∷ xs) = ap (λ z. x ∷ z) (less_none xs)

pub all_left : (s : set.FinSet nat_cmp) (gs given : List Role) → s ≡ from_list (less (numbers gs) (numbers [])) → gs ≡ given → s ≡ from_list (numbers given)
all_left s gs given e f = e ∙ ap (λ zs. from_list {R = nat_cmp} zs) (less_none (numbers gs)) ∙ (λ t. from_list {R = nat_cmp} (numbers (f t)))

-- the document node of a new buffer is the innermost open one
pub root_innermost : (v : View) (gs : List Role) (p : ℕ) → Started v gs → Some p ≡ option_map (λ (c : Cell). c.place) (head v.rows) → Innermost v.rows p
root_innermost v gs p c h =
    let same : Some p ≡ Some c.row.0 = h ∙ ap (λ (xs : List Cell). option_map (λ (x : Cell). x.place) (head xs)) c.row.1 in
    let is : c.row.0 ≡ p = cc in
    subst (λ (xs : List Cell). Innermost xs p) (sym c.row.1) (record {
      cell = record { place = c.row.0; row = root_row gs };
      among = inl refl;
      place = is;
      is_open = refl;
      last = λ d i o. elim i [ inl f ↦ (let z = ap num f in omega arith) | inr k ↦ absurd k ];
    })
