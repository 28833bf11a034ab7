-- Which of the roles of a new node are kept at it, statement by statement.
use Rattle.std.proofs.Common.{◌≡◌, ◌⊎◌, ◌==◌, ℕ, zero, suc, ◌+◌, ◌<◌, ◌≤◌, Bool, true, false, not, cond, ◌&&◌, ◌||◌, List, [], ◌∷◌, length, refl, sym, ◌∙◌, ap, inl, inr, arith, get_or, ltb, Some, None, Option, is_some}
use Rattle.std.specs.Prelude.{◌↔◌, slice_index_or}
use Rattle.std.specs.FinSet.{contains, retain, remove}
use Rattle.std.proofs.lemmas.Bool.{true≢false, false≢true, eq-eqb, ne_eqb, ltb-true, ltb-false, cases_Bool, cases_eq, false_from_ne_true}
use Rattle.gcx_model.specs.declared.item.Off.{Off}
use Rattle.gcx_model.specs.Tree.{Node}
use Rattle.buf_tree.specs.Row.{Row}
use Rattle.buf_tree.specs.Rows.{Meet}
use Rattle.buf_tree.specs.Shape.{Cell}
use Rattle.buf_tree.specs.Spread.{SpreadView, is_spread_in}
use Rattle.buf_tree.specs.Tops.{HasTopRoom, IsNewTop, KeepsSpread, OwnApart, StaysAt, kept_by}
use Rattle.buf_tree.proofs.Spreading.{Roles, in_retain, in_remove, same_roles}

-- ---- sets

-- what the tests tell alike of the members stays alike
retain_alike : (s : Roles) (p q : ℕ → Bool) → ((k : ℕ) → contains s k ≡ true → p k ≡ q k) → retain s p ≡ retain s q
retain_alike s p q h = same_roles (retain s p) (retain s q) (λ k. in_retain s p k ∙ go k (contains s k) refl ∙ sym (in_retain s q k))
  where
    go : (k : ℕ) (b : Bool) → contains s k ≡ b → (contains s k && p k) ≡ (contains s k && q k)
    go k true e = ap (λ b. contains s k && b) (h k e)
    go k false e = ap (λ b. b && p k) e ∙ sym (ap (λ b. b && q k) e)

pub all_stay : (s : Roles) (p : ℕ → Bool) → ((k : ℕ) → contains s k ≡ true → p k ≡ true) → s ≡ retain s p
all_stay s p h = same_roles s (retain s p) (λ k. go k (contains s k) refl ∙ sym (in_retain s p k))
  where
    go : (k : ℕ) (b : Bool) → contains s k ≡ b → contains s k ≡ (contains s k && p k)
    go k true e = e ∙ sym (ap (λ b. b && p k) e ∙ h k e)
    go k false e = e ∙ sym (ap (λ b. b && p k) e)

-- ---- one statement

-- a role that isn't there can't be taken
pub unheld : (s : Roles) (k : ℕ) (stays : Bool) → contains s k ≡ false → s ≡ cond stays s (remove s k)
unheld s k true e = refl
unheld s k false e = same_roles s (remove s k) (λ q. elim (cases_eq q k) [
  | inl f ↦ ap (contains s) f ∙ e ∙ sym (in_remove s k q ∙ ap (λ b. not b && contains s q) (eq-eqb q k f))
  | inr f ↦ sym (in_remove s k q ∙ ap (λ b. not b && contains s q) (ne_eqb q k f))
])

pub stays_then : (s s' : Roles) (k : ℕ) (stays : Bool) → stays ≡ true → s' ≡ s → s' ≡ cond stays s (remove s k)
stays_then s s' k stays e f = f ∙ sym (ap (λ b. cond b s (remove s k)) e)

pub goes_then : (s s' : Roles) (k : ℕ) (stays : Bool) → (stays ≡ true → ⊥) → s' ≡ remove s k → s' ≡ cond stays s (remove s k)
goes_then s s' k stays e f = f ∙ sym (ap (λ b. cond b s (remove s k)) (false_from_ne_true stays e))

-- ---- the table, entry by entry

-- behind the first i entries each of their roles is gone that doesn't stay
abbrev pub upto : ℕ → (ℕ → Bool) → ℕ → Bool
upto i stays r = not (ltb r i) || stays r

upto_stays : (i : ℕ) (stays : ℕ → Bool) (r : ℕ) → stays r ≡ true → upto i stays r ≡ true
upto_stays i stays r e = ap (λ b. not (ltb r i) || b) e ∙ either (not (ltb r i))
  where
    either : (b : Bool) → (b || true) ≡ true
    either true = refl
    either false = refl

not_below : (r i : ℕ) → i ≤ r → ltb r i ≡ false
not_below r i l = false_from_ne_true (ltb r i) (λ e. let k = ltb-true r i e in omega arith)

below : (r i : ℕ) → r < i → ltb r i ≡ true
below r i l = elim (cases_Bool (ltb r i)) [ inl e ↦ e | inr e ↦ (let k = ltb-false r i e in absurd (omega arith)) ]

pub upto_none : (s : Roles) (stays : ℕ → Bool) → s ≡ retain s (upto 0 stays)
upto_none s stays = all_stay s (upto 0 stays) (λ k h. ap (λ b. not b || stays k) (not_below k 0 (omega arith)))

upto_next : (i : ℕ) (stays : ℕ → Bool) (r : ℕ) → upto (i + 1) stays r ≡ cond (r == i) (stays i) (upto i stays r)
upto_next i stays r = elim (cases_eq r i) [
  | inl e ↦ ap (λ b. not b || stays r) (below r (i + 1) (omega arith)) ∙ ap stays e ∙ sym (ap (λ b. cond b (stays i) (upto i stays r)) (eq-eqb r i e))
  | inr e ↦ ap (λ b. not b || stays r) (same (ltb r i) refl e) ∙ sym (ap (λ b. cond b (stays i) (upto i stays r)) (ne_eqb r i e))
]
  where
    apart : (a b : ℕ) → (a ≡ b → ⊥) → b ≤ a → b + 1 ≤ a
    apart a b n l = omega arith

    same : (b : Bool) → ltb r i ≡ b → (r ≡ i → ⊥) → ltb r (i + 1) ≡ ltb r i
    same true e n = let k = ltb-true r i e in below r (i + 1) (omega arith) ∙ sym e
    same false e n = let k = ltb-false r i e in not_below r (i + 1) (apart r i n k) ∙ sym e

-- an entry whose role stays changes nothing
next_stays : (s : Roles) (i : ℕ) (stays : ℕ → Bool) → stays i ≡ true → retain s (upto i stays) ≡ retain s (upto (i + 1) stays)
next_stays s i stays e = retain_alike s (upto i stays) (upto (i + 1) stays) (λ k h. elim (cases_eq k i) [
  | inl f ↦ ap (upto i stays) f ∙ upto_stays i stays i e ∙ sym (upto_next i stays k ∙ ap (λ b. cond b (stays i) (upto i stays k)) (eq-eqb k i f) ∙ e)
  | inr f ↦ sym (upto_next i stays k ∙ ap (λ b. cond b (stays i) (upto i stays k)) (ne_eqb k i f))
])

next_goes : (s : Roles) (i : ℕ) (stays : ℕ → Bool) → stays i ≡ false → remove (retain s (upto i stays)) i ≡ retain s (upto (i + 1) stays)
next_goes s i stays e = same_roles (remove (retain s (upto i stays)) i) (retain s (upto (i + 1) stays)) (λ k.
    in_remove (retain s (upto i stays)) i k
    ∙ ap (λ b. not (k == i) && b) (in_retain s (upto i stays) k)
    ∙ elim (cases_eq k i) [
      | inl f ↦ ap (λ b. not b && (contains s k && upto i stays k)) (eq-eqb k i f)
          ∙ sym (in_retain s (upto (i + 1) stays) k ∙ ap (λ b. contains s k && b) (upto_next i stays k ∙ ap (λ b. cond b (stays i) (upto i stays k)) (eq-eqb k i f) ∙ e) ∙ never (contains s k))
      | inr f ↦ ap (λ b. not b && (contains s k && upto i stays k)) (ne_eqb k i f)
          ∙ sym (in_retain s (upto (i + 1) stays) k ∙ ap (λ b. contains s k && b) (upto_next i stays k ∙ ap (λ b. cond b (stays i) (upto i stays k)) (ne_eqb k i f)))
    ])
  where
    never : (b : Bool) → (b && false) ≡ false
    never true = refl
    never false = refl

pub kept_next : (s : Roles) (i : ℕ) (stays : ℕ → Bool) (slot : Option Off) → ((top : Off) → slot ≡ Some top → top.role.0 ≡ i) → (slot ≡ None → stays i ≡ true) → kept_by slot stays (retain s (upto i stays)) ≡ retain s (upto (i + 1) stays)
kept_next s i stays None f g = next_stays s i stays (g refl)
kept_next s i stays (Some top) f g =
    let e = f top refl in
    ap (λ k. cond (stays k) (retain s (upto i stays)) (remove (retain s (upto i stays)) k)) e ∙ go (stays i) refl
  where
    go : (b : Bool) → stays i ≡ b → cond b (retain s (upto i stays)) (remove (retain s (upto i stays)) i) ≡ retain s (upto (i + 1) stays)
    go true h = next_stays s i stays h
    go false h = next_goes s i stays h

beyond : (tops : List (Option Off)) (r : ℕ) → length tops ≤ r → slice_index_or tops r None ≡ None
beyond [] r l = refl
beyond (t ∷ tops) zero l = absurd (omega arith)
beyond (t ∷ tops) (suc r) l = beyond tops r (omega arith)

pub upto_all : (s s' : Roles) (tops : List (Option Off)) (i : ℕ) (stays : ℕ → Bool) → length tops ≤ i → ((r : ℕ) → slice_index_or tops r None ≡ None → stays r ≡ true) → s' ≡ retain s (upto i stays) → s' ≡ retain s stays
upto_all s s' tops i stays l others e = e ∙ retain_alike s (upto i stays) stays (λ k h. elim (cases_Bool (ltb k i)) [
  | inl f ↦ ap (λ b. not b || stays k) f
  | inr f ↦ (let z = ltb-false k i f in ap (λ b. not b || stays k) f ∙ sym (others k (beyond tops k (omega arith))))
])

-- the entry at i, as it is read
pub slot_at : (tops : List (Option Off)) (i : ℕ) (slot : Option Off) → i < length tops → slot ≡ get_or tops i slot → slice_index_or tops i None ≡ slot
slot_at [] i slot l e = absurd (omega arith)
slot_at (t ∷ tops) zero slot l e = sym e
slot_at (t ∷ tops) (suc i) slot l e = slot_at tops i slot (omega arith) e

-- whether the node is a top doesn't change as roles of the table go
top_same : (xs : List Cell) (top : Off) (s s' : Roles) (p n : Node) → contains s' top.own.0 ≡ contains s top.own.0 → IsNewTop xs top s p n → IsNewTop xs top s' p n
top_same xs top s s' p n e (inl a) = inl (a.0, e ∙ a.1)
top_same xs top s s' p n e (inr u) = inr u

pub tops_later : (xs : List Cell) (tops : List (Option Off)) (s s' : Roles) (p n : Node) (i : ℕ) (stays : ℕ → Bool) → OwnApart tops → StaysAt xs tops s p n stays → s' ≡ retain s (upto i stays)
    → (top : Off) → slice_index_or tops i None ≡ Some top → top.role.0 ≡ i → (stays top.role.0 ≡ true) ↔ IsNewTop xs top s' p n
tops_later xs tops s s' p n i stays own t e top f g =
    let is = t.at_tops i top f in
    let kept : contains s' top.own.0 ≡ contains s top.own.0 =
    ap (λ (z : Roles). contains z top.own.0) e ∙ in_retain s (upto i stays) top.own.0
    ∙ ap (λ b. contains s top.own.0 && b) (upto_stays i stays top.own.0 (t.others top.own.0 (own i top f))) ∙ both (contains s top.own.0) in (
      (λ h. top_same xs top s s' p n kept (is.0 (ap stays (sym g) ∙ h))),
      (λ h. ap stays g ∙ is.1 (top_same xs top s' s p n (sym kept) h)),
    )
  where
    both : (b : Bool) → (b && true) ≡ b
    both true = refl
    both false = refl

-- ---- the invariant of the table

pub room_grows : (tops : List (Option Off)) (cap cap' : ℕ) → cap ≤ cap' → HasTopRoom tops cap → HasTopRoom tops cap'
room_grows tops cap cap' l h r top e = let a = h r top e in (a.0, omega (arith, a.1, l))

-- where none of the roles is in the table, each stays
pub none_meets : (tops : List (Option Off)) (s spread : Roles) (stays : ℕ → Bool) (b : Bool) → b ≡ false → ((b ≡ true) ↔ ((k : ℕ) × (contains s k ≡ true) × (contains spread k ≡ true)))
    → ((r : ℕ) → contains spread r ≡ is_some (slice_index_or tops r None)) → ((r : ℕ) → slice_index_or tops r None ≡ None → stays r ≡ true) → s ≡ retain s stays
none_meets tops s spread stays b e m all others = all_stay s stays (λ k h. others k (empty_slot (slice_index_or tops k None) (sym (all k) ∙ false_from_ne_true (contains spread k) (λ f. false≢true (sym e ∙ m.1 (k, h, f))))))
  where
    empty_slot : (o : Option Off) → is_some o ≡ false → o ≡ None
    empty_slot None f = refl
    empty_slot (Some top) f = absurd (true≢false f)

-- ---- whether a row keeps a spread role, or has one from above

pub keeps_some : (s : SpreadView) (row : Row) (roles : Roles) (b : Bool) → (b ≡ true) ↔ ((row.covered ≡ true) ⊎ Meet row.roles roles) → ((r : ℕ) → contains roles r ≡ is_spread_in (Some s) r) → (b ≡ true) ↔ KeepsSpread (Some s) row
keeps_some s row roles b h is = (
  (λ e. (refl, elim (h.0 e) [ inl c ↦ inl c | inr m ↦ inr (m.0, sym (is m.0) ∙ m.2, m.1) ])),
  (λ k. h.1 (elim k.1 [ inl c ↦ inl c | inr m ↦ inr (m.0, m.2, is m.0 ∙ m.1) ])),
)

pub keeps_none : (row : Row) → (false ≡ true) ↔ KeepsSpread None row
keeps_none row = ((λ e. absurd (false≢true e)), (λ k. k.0))
