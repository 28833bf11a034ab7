-- The searches for bases above and below a row.
use Rattle.std.proofs.Common.{◌≡◌, ℕ, ◌≤◌, Bool, true, false, List, refl, sym, ◌∙◌, ap, inl, inr, arith, Some, None, Option}
use Rattle.std.specs.Prelude.{option_map, IsSome, ◌↔◌, ◌⊎◌}
use Rattle.std.specs.FinSet.{contains}
use Rattle.std.specs.FinMap.{get}
use Rattle.std.proofs.lemmas.Bool.{false≢true, cases_lt}
use Rattle.gcx_model.specs.declared.item.Off.{Off}
use Rattle.tree_laws.proofs.Lists.{In}
use Rattle.node_store.specs.Rows.{StoreRow, parent_of}
use Rattle.buf_tree.specs.Row.{Row}
use Rattle.buf_tree.specs.Shape.{Store, Cell, num, cells, Shaped}
use Rattle.buf_tree.specs.Walk.{Nested, Inside, Within, BeforeIn}
use Rattle.buf_tree.specs.Ways.{is_waiting, BaseAbove, BaseBelow}
use Rattle.buf_tree.proofs.Shaping.{rising_same}
use Rattle.buf_tree.proofs.Kin.{parent_row, no_parent}
use Rattle.buf_tree.proofs.Lines.{child_inside, inside_trans, parent_within}
use Rattle.buf_tree.proofs.Seeking.{cell_row}

-- on the way up from h: a base above is this row or above it
abbrev pub Upwards : List Cell → Off → Cell → Option ℕ → Type 0
Upwards rows off h None = BaseAbove rows off h → ⊥
Upwards rows off h (Some p) = (t : Cell) × In t rows × (t.place ≡ p) × Inside rows t h × ((b : Cell) → In b rows → Inside rows b h → is_waiting b.row off ≡ true → Within rows b t)

-- on the way back over the rows below c: a base there is before the edge
abbrev pub Backwards : List Cell → Off → Cell → Option ℕ → Type 0
Backwards rows off c at = (edge : ℕ) × BeforeIn rows (Inside rows c) edge at × ((b : Cell) → In b rows → Inside rows c b → edge ≤ num b → is_waiting b.row off ≡ true → ⊥)

module _ (m : Store) (s : Shaped m) (nest : Nested (cells m)) (off : Off) where
  pub upwards_start : (h : Cell) → In h (cells m) → (o : Option ℕ) → o ≡ parent_of m h.place → Upwards (cells m) off h o
  upwards_start h i None e = λ b. let z = no_parent m (cells m) s h i (sym e) in let l = b.2.behind in absurd (omega arith)
  upwards_start h i (Some q) e =
      let k = parent_row m (cells m) s h i q (sym e) in
      (k.0, k.1, k.3, child_inside (cells m) s.rising nest s.up k.0 h k.1 i k.2, λ b j n w. parent_within (cells m) s.rising nest s.up b k.0 h j k.1 i n k.2)

  pub upwards_found : (h : Cell) (p : ℕ) → Upwards (cells m) off h (Some p) → (r : Row) → option_map (λ (e : StoreRow Row). e.payload) (get m p) ≡ Some r → is_waiting r off ≡ true → BaseAbove (cells m) off h
  upwards_found h p u r f w = (u.0, u.1, u.3, ap (λ (x : Row). is_waiting x off) (cell_row m s u.0 u.1 p u.2 r f) ∙ w)

  pub upwards_on : (h : Cell) → In h (cells m) → (p : ℕ) → Upwards (cells m) off h (Some p) → (r : Row) → option_map (λ (e : StoreRow Row). e.payload) (get m p) ≡ Some r → is_waiting r off ≡ false → (o : Option ℕ) → o ≡ parent_of m p → Upwards (cells m) off h o
  upwards_on h i p u r f w None e = λ b.
      let z = no_parent m (cells m) s u.0 u.1 (ap (parent_of m) u.2 ∙ sym e) in
      elim (u.4 b.0 b.1 b.2 b.3) [
        | inl y ↦ false≢true (sym w ∙ sym (ap (λ (x : Row). is_waiting x off) (ap (λ (c : Cell). c.row) y ∙ cell_row m s u.0 u.1 p u.2 r f)) ∙ b.3)
        | inr y ↦ (let l = y.behind in absurd (omega arith))
      ]
  upwards_on h i p u r f w (Some q) e =
      let k = parent_row m (cells m) s u.0 u.1 q (ap (parent_of m) u.2 ∙ sym e) in (
        k.0,
        k.1,
        k.3,
        inside_trans (cells m) s.rising nest s.up k.0 u.0 h (child_inside (cells m) s.rising nest s.up k.0 u.0 k.1 u.1 k.2) u.3,
        λ b j n x. elim (u.4 b j n x) [
          | inl y ↦ absurd (false≢true (sym w ∙ sym (ap (λ (x : Row). is_waiting x off) (ap (λ (c : Cell). c.row) y ∙ cell_row m s u.0 u.1 p u.2 r f)) ∙ x))
          | inr y ↦ parent_within (cells m) s.rising nest s.up b k.0 u.0 j k.1 u.1 y k.2
        ],
      )

  pub backwards_start : (c : Cell) (o : Option ℕ) → (k : ℕ) × BeforeIn (cells m) (Inside (cells m) c) k o × ((x : Cell) → In x (cells m) → Inside (cells m) c x → k ≤ num x → ⊥) → Backwards (cells m) off c o
  backwards_start c o b = (b.0, b.1, λ x i k l w. b.2 x i k l)

  pub backwards_found : (c : Cell) (p : ℕ) → Backwards (cells m) off c (Some p) → (r : Row) → option_map (λ (e : StoreRow Row). e.payload) (get m p) ≡ Some r → is_waiting r off ≡ true → BaseBelow (cells m) off c
  backwards_found c p b r f w = (b.1.0, b.1.1, b.1.3, ap (λ (x : Row). is_waiting x off) (cell_row m s b.1.0 b.1.1 p b.1.2 r f) ∙ w)

  pub backwards_on : (c : Cell) (p : ℕ) → (b : Backwards (cells m) off c (Some p)) → (r : Row) → option_map (λ (e : StoreRow Row). e.payload) (get m p) ≡ Some r → is_waiting r off ≡ false → (o : Option ℕ) → BeforeIn (cells m) (Inside (cells m) c) (num b.1.0) o → Backwards (cells m) off c o
  backwards_on c p b r f w o next = (
    num b.1.0,
    next,
    λ x i k l y. elim (cases_lt (num x) b.0) [
      | inl lo ↦ (
          let z = b.1.5 x i k lo in
          let is : x ≡ b.1.0 = rising_same (cells m) s.rising x b.1.0 i b.1.1 (omega arith) in
          false≢true (sym w ∙ sym (ap (λ (x : Row). is_waiting x off) (ap (λ (c : Cell). c.row) is ∙ cell_row m s b.1.0 b.1.1 p b.1.2 r f)) ∙ y))
      | inr hi ↦ b.2 x i k hi y
    ],
  )

  pub backwards_end : (c : Cell) → Backwards (cells m) off c None → BaseBelow (cells m) off c → ⊥
  backwards_end c b x = elim (cases_lt (num x.0) b.0) [ inl lo ↦ b.1 x.0 x.1 x.2 lo | inr hi ↦ b.2 x.0 x.1 x.2 hi x.3 ]

pub either_below : (own above below : Bool) (A B : Type 0) → own ≡ false → ((above ≡ true) ↔ A) → above ≡ false → ((below ≡ true) ↔ B) → (below ≡ true) ↔ ((own ≡ false) × (A ⊎ B))
either_below own above below A B e a f b = (
  (λ h. (e, inr (b.0 h))),
  (λ h. elim h.1 [ inl x ↦ absurd (false≢true (sym f ∙ a.1 x)) | inr x ↦ b.1 x ]),
)

-- the payload of the row at a place
pub paid_is : (o : Option (StoreRow Row)) (e : StoreRow Row) (r : Row) → o ≡ Some e → option_map (λ (x : StoreRow Row). x.payload) o ≡ Some r → e.payload ≡ r
paid_is o e r f h = let z : Some e.payload ≡ Some r = sym (ap (option_map (λ (x : StoreRow Row). x.payload)) f) ∙ h in cc

pub has_paid : (o : Option (StoreRow Row)) (r : Row) (k : ℕ) → IsSome o → option_map (λ (x : StoreRow Row). x.payload) o ≡ Some r → contains r.roles k ≡ true → (e : StoreRow Row) × (o ≡ Some e) × (contains e.payload.roles k ≡ true)
has_paid None r k u h e = absurd (cc)
has_paid (Some x) r k u h e = (x, refl, ap (λ (y : Row). contains y.roles k) (paid_is (Some x) x r refl h) ∙ e)
