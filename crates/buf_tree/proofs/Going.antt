-- The searches on from a row.
use Rattle.std.proofs.Common.{◌≡◌, ◌==◌, ℕ, ◌<◌, true, false, List, sym, ◌∙◌, ap, subst, inl, inr, ◌⊎◌, arith, Some, None, Option}
use Rattle.std.specs.Prelude.{IsSome}
use Rattle.std.specs.FinMap.{get}
use Rattle.std.proofs.lemmas.Bool.{false≢true, eqb-true, eq-eqb, cases_lt}
use Rattle.gcx_base.specs.declared.steps.Axis.{Axis}
use Rattle.gcx_base.specs.declared.steps.Axis.TheVariants.{Child, Descendant}
use Rattle.gcx_base.specs.declared.steps.Test.{Test}
use Rattle.gcx_base.specs.Tests.{passes}
use Rattle.tree_laws.proofs.Lists.{In}
use Rattle.node_store.specs.Rows.{parent_of, next_of, head_of, children_in}
use Rattle.buf_tree.specs.Shape.{Store, Cell, num, cells, at_place, Shaped}
use Rattle.buf_tree.specs.Walk.{Nested, Inside, Within, Climbs, JustBehind, BehindIn, On, serial_in, high_at}
use Rattle.buf_tree.specs.Match.{IsChild, IsFrom}
use Rattle.buf_tree.proofs.Shaping.{rising_same}
use Rattle.buf_tree.proofs.Kin.{row_of_place, first_kid, no_first_kid, next_kid, no_next_kid, parent_row, no_parent}
use Rattle.buf_tree.proofs.Lines.{within_trans, child_inside, behind_first, climbs_start, behind_sibling, climbs_on}
use Rattle.buf_tree.proofs.Seeking.{same_place, serial_at_place, rows_fewer, Answer, below_lies, child_lies}

-- the rows just behind are the first of those below
just_behind : (xs : List Cell) (c h g : Cell) (p : ℕ) → In g xs → g.place ≡ p → JustBehind xs h g → Inside xs c g → BehindIn xs (Inside xs c) (num h) (Some p)
just_behind xs c h g p i e b k = (g, i, e, k, b.high, λ x j y l. b.none x j l)

module _ (m : Store) (s : Shaped m) where
  -- children
  pub child_first : (c : Cell) → In c (cells m) → (p : ℕ) → c.place ≡ p → (o : Option ℕ) → o ≡ head_of (children_in (get m p)) → BehindIn (cells m) (IsChild c) (num c) o
  child_first c i p e None f = λ x j k l. no_first_kid m (cells m) s c i (sym (f ∙ ap (λ q. head_of (children_in (get m q))) (sym e))) x j k
  child_first c i p e (Some q) f =
      let r = first_kid m (cells m) s c i q (sym (f ∙ ap (λ z. head_of (children_in (get m z))) (sym e))) in
      (r.0, r.1, r.3, r.2, r.2.1, λ x j k l. r.4 x j k)

  pub child_next : (c h : Cell) → In c (cells m) → In h (cells m) → IsChild c h → (p : ℕ) → h.place ≡ p → (o : Option ℕ) → o ≡ next_of m p → BehindIn (cells m) (IsChild c) (num h) o
  child_next c h i j k p e None f = λ x t y l. no_next_kid m (cells m) s h c j i k (sym (f ∙ ap (next_of m) (sym e))) x t y l
  child_next c h i j k p e (Some q) f =
      let r = next_kid m (cells m) s h j q (sym (f ∙ ap (next_of m) (sym e))) in
      let is : r.0 ≡ c = rising_same (cells m) s.rising r.0 c r.1 i (sym r.2.0 ∙ k.0) in
      let z = r.3 in
      (z.0, z.1, z.3, subst (λ (y : Cell). IsChild y z.0) is z.2, z.4, λ x t y l. z.5 x t (subst (λ (w : Cell). IsChild w x) (sym is) y) l)

  pub from_top : (c h : Cell) (top from : ℕ) → In c (cells m) → In h (cells m) → c.place ≡ top → h.place ≡ from → (from == top) ≡ true → (o : Option ℕ) → o ≡ head_of (children_in (get m top)) → BehindIn (cells m) (IsChild c) (num h) o
  from_top c h top from i j e f t o g =
      let is : c ≡ h = same_place m s c h top i j e (f ∙ eqb-true from top t) in
      subst (λ (x : Cell). BehindIn (cells m) (IsChild c) (num x) o) is (child_first c i top e o g)

  pub from_child : (c h : Cell) (top from : ℕ) → In c (cells m) → In h (cells m) → c.place ≡ top → h.place ≡ from → (from == top) ≡ false → (c ≡ h) ⊎ IsChild c h → (o : Option ℕ) → o ≡ next_of m from → BehindIn (cells m) (IsChild c) (num h) o
  from_child c h top from i j e f t (inl z) o g = absurd (false≢true (sym t ∙ eq-eqb from top (sym f ∙ ap (λ (x : Cell). x.place) (sym z) ∙ e)))
  from_child c h top from i j e f t (inr k) o g = child_next c h i j k from f o g

  pub high_less : (R : Cell → Type 0) (h : Cell) → In h (cells m) → (p : ℕ) → h.place ≡ p → (o : Option ℕ) → BehindIn (cells m) R (num h) o → high_at (cells m) o < high_at (cells m) (Some p)
  high_less R h i p e None b = omega arith
  high_less R h i p e (Some q) b =
      let x = serial_at_place m s h i p e in
      let y = serial_at_place m s b.0 b.1 q b.2 in
      let z = b.4 in
      let l : serial_in (cells m) (at_place p (cells m)) < serial_in (cells m) (at_place q (cells m)) = omega arith in
      let f = rows_fewer (cells m) (serial_in (cells m) (at_place p (cells m))) (serial_in (cells m) (at_place q (cells m))) b.0 b.1 (sym y) l in
      omega arith

module _ (m : Store) (s : Shaped m) (nest : Nested (cells m)) where
  pub behind_child : (p q : ℕ) → head_of (children_in (get m p)) ≡ Some q → (c h : Cell) → In c (cells m) → In h (cells m) → h.place ≡ p → Within (cells m) c h → BehindIn (cells m) (Inside (cells m) c) (num h) (Some q)
  behind_child p q f c h i j e w =
      let r = first_kid m (cells m) s h j q (ap (λ z. head_of (children_in (get m z))) e ∙ f) in
      just_behind (cells m) c h r.0 q r.1 r.3 (behind_first (cells m) s.rising nest s.up h r.0 j r.1 r.2 r.4) (within_trans (cells m) s.rising nest s.up c h r.0 w (child_inside (cells m) s.rising nest s.up h r.0 j r.1 r.2))

-- on the way up from the row at `place`
abbrev pub Ups : Store → (top place at : ℕ) → Type 0
Ups m top place at = (c h : Cell) → In c (cells m) → In h (cells m) → c.place ≡ top → h.place ≡ place → (t : Cell) × In t (cells m) × (t.place ≡ at) × Climbs (cells m) c h t

module _ (m : Store) (s : Shaped m) (nest : Nested (cells m)) (top place : ℕ) where
  pub ups_start : ((c h : Cell) → In c (cells m) → In h (cells m) → c.place ≡ top → h.place ≡ place → Within (cells m) c h) → head_of (children_in (get m place)) ≡ None → Ups m top place place
  ups_start w f c h i j e k = (h, j, k, climbs_start (cells m) s.rising nest s.up c h j (w c h i j e k) (no_first_kid m (cells m) s h j (ap (λ z. head_of (children_in (get m z))) k ∙ f)))

  pub ups_cell : (at : ℕ) → IsSome (get m top) → IsSome (get m place) → Ups m top place at → (t : Cell) × In t (cells m) × (t.place ≡ at)
  ups_cell at a b u =
      let c = row_of_place m (cells m) s top a in
      let h = row_of_place m (cells m) s place b in
      let t = u c.0 h.0 c.1 h.1 c.2 h.2 in
      (t.0, t.1, t.2)

  inner : (c t : Cell) (at : ℕ) → c.place ≡ top → t.place ≡ at → (at == top) ≡ false → Within (cells m) c t → Inside (cells m) c t
  inner c t at e f n (inl g) = absurd (false≢true (sym n ∙ eq-eqb at top (sym f ∙ ap (λ (x : Cell). x.place) (sym g) ∙ e)))
  inner c t at e f n (inr k) = k

  pub ups_found : (at q : ℕ) → Ups m top place at → (at == top) ≡ false → next_of m at ≡ Some q → (c h : Cell) → In c (cells m) → In h (cells m) → c.place ≡ top → h.place ≡ place → BehindIn (cells m) (Inside (cells m) c) (num h) (Some q)
  ups_found at q u n f c h i j e k =
      let t = u c h i j e k in
      let r = next_kid m (cells m) s t.0 t.1 q (ap (next_of m) t.2 ∙ f) in
      let z = r.3 in
      let b = behind_sibling (cells m) s.rising nest s.up c h t.0 r.0 z.0 i j t.1 r.1 z.1 t.3 (inner c t.0 at e t.2 n t.3.low) r.2 z.2 z.4 z.5 in
      just_behind (cells m) c h z.0 q z.1 z.3 b.0 b.1

  pub ups_on : (at q : ℕ) → Ups m top place at → (at == top) ≡ false → next_of m at ≡ None → parent_of m at ≡ Some q → Ups m top place q
  ups_on at q u n f g c h i j e k =
      let t = u c h i j e k in
      let r = parent_row m (cells m) s t.0 t.1 q (ap (parent_of m) t.2 ∙ g) in
      (r.0, r.1, r.3, climbs_on (cells m) s.rising nest s.up c h t.0 r.0 i j t.1 r.1 t.3 (inner c t.0 at e t.2 n t.3.low) r.2 (no_next_kid m (cells m) s t.0 r.0 t.1 r.1 r.2 (ap (next_of m) t.2 ∙ f)))

  pub ups_less : (at q : ℕ) (t : Cell) → In t (cells m) → t.place ≡ at → parent_of m at ≡ Some q → serial_in (cells m) (at_place q (cells m)) < serial_in (cells m) (at_place at (cells m))
  ups_less at q t i e g =
      let r = parent_row m (cells m) s t i q (ap (parent_of m) e ∙ g) in
      let x = serial_at_place m s t i at e in
      let y = serial_at_place m s r.0 r.1 q r.3 in
      let z = r.2.1 in
      omega arith

  pub ups_lost : (at : ℕ) → Ups m top place at → (at == top) ≡ false → parent_of m at ≡ None → (c h : Cell) → In c (cells m) → In h (cells m) → c.place ≡ top → h.place ≡ place → BehindIn (cells m) (Inside (cells m) c) (num h) None
  ups_lost at u n g c h i j e k =
      let t = u c h i j e k in
      let z = no_parent m (cells m) s t.0 t.1 (ap (parent_of m) t.2 ∙ g) in
      let b = (inner c t.0 at e t.2 n t.3.low).behind in
      absurd (omega arith)

  pub ups_end : (at : ℕ) → Ups m top place at → (at == top) ≡ true → (c h : Cell) → In c (cells m) → In h (cells m) → c.place ≡ top → h.place ≡ place → BehindIn (cells m) (Inside (cells m) c) (num h) None
  ups_end at u n c h i j e k x y w l =
      let t = u c h i j e k in
      let is : t.0 ≡ c = same_place m s t.0 c top t.1 i (t.2 ∙ eqb-true at top n) e in
      t.3.none x y l (subst (λ (z : Cell). Inside (cells m) z x) (sym is) w)

-- ---- a search on from a row, over some of the rows

module _ (xs : List Cell) (R : Cell → Type 0) (t : Test) (bound : ℕ) (same : (a b : Cell) → In a xs → In b xs → num a ≡ num b → a ≡ b) where
  pub on_start : (o : Option ℕ) → BehindIn xs R bound o → On xs R t bound o
  on_start o b = (bound, omega arith, b, λ x i r l h p. absurd (omega arith))

  pub on_next : (p : ℕ) (b : On xs R t bound (Some p)) → passes t b.2.0.row.kind ≡ false → (o : Option ℕ) → BehindIn xs R (num b.2.0) o → On xs R t bound o
  on_next p b e o next = (
    num b.2.0,
    (let l = b.1 in let h = b.2.4 in omega arith),
    next,
    λ x i r l h q. elim (cases_lt b.0 (num x)) [
      | inl hi ↦ (
          let z = b.2.5 x i r hi in
          let is : x ≡ b.2.0 = same x b.2.0 i b.2.1 (omega arith) in
          false≢true (sym e ∙ ap (λ (y : Cell). passes t y.row.kind) (sym is) ∙ q))
      | inr lo ↦ b.3 x i r l lo q
    ],
  )

  pub on_found : (p : ℕ) (b : On xs R t bound (Some p)) → passes t b.2.0.row.kind ≡ true → Answer xs R t bound (Some p)
  on_found p b e = (
    b.2.0,
    b.2.1,
    b.2.2,
    b.2.3,
    e,
    (let l = b.1 in let h = b.2.4 in omega arith),
    λ x i r l q. elim (cases_lt b.0 (num x)) [
      | inl hi ↦ b.2.5 x i r hi
      | inr lo ↦ absurd (b.3 x i r l lo q)
    ],
  )

  pub on_end : On xs R t bound None → Answer xs R t bound None
  on_end b x i r l q = elim (cases_lt b.0 (num x)) [ inl hi ↦ b.2 x i r hi | inr lo ↦ b.3 x i r l lo q ]

-- from where it goes on
pub from_kid : (xs : List Cell) (axis : Axis) (c h : Cell) → axis ≡ Child → IsFrom xs axis c h → (c ≡ h) ⊎ IsChild c h
from_kid xs axis c h e (inl f) = inl f
from_kid xs axis c h e (inr k) = inr (child_lies xs axis c h e k)

pub from_within : (m : Store) → Shaped m → Nested (cells m) → (axis : Axis) (c h : Cell) → axis ≡ Descendant → In c (cells m) → In h (cells m) → IsFrom (cells m) axis c h → Within (cells m) c h
from_within m s n axis c h e i j (inl f) = inl f
from_within m s n axis c h e i j (inr k) = inr (below_lies m s n axis c h e i j k)

pub within_at : (m : Store) → Shaped m → (c t h : Cell) (p : ℕ) → In t (cells m) → In h (cells m) → t.place ≡ p → h.place ≡ p → Inside (cells m) c t → Within (cells m) c h
within_at m s c t h p i j e f k = inr (subst (λ (x : Cell). Inside (cells m) c x) (same_place m s t h p i j e f) k)
