-- What a cursor of the store tells of the rows.
use Rattle.std.proofs.Common.{◌≡◌, ℕ, ◌<◌, false, List, refl, sym, ◌∙◌, ap, subst, arith, Option, Some, None}
use Rattle.std.specs.Prelude.{IsSome, IfSome, option_map}
use Rattle.std.specs.FinMap.{get}
use Rattle.gcx_base.specs.declared.kind.Kind.{Kind}
use Rattle.gcx_base.specs.declared.kind.Kind.TheVariants.{Document, Element, Text}
use Rattle.tree_laws.proofs.Lists.{In}
use Rattle.node_store.specs.Rows.{StoreRow, parent_of}
use Rattle.buf_tree.specs.Row.{Row}
use Rattle.gcx_base.specs.Kinds.{is_text}
use Rattle.buf_tree.specs.Shape.{Store, Cell, num, at_place, Shape, Shaped}
use Rattle.buf_tree.specs.Walk.{serial_in, low_at, high_at, rows_behind}
use Rattle.buf_tree.specs.View.{InUse}
use Rattle.buf_tree.proofs.Shaping.{get_of, cells_is, at_place_is}
use Rattle.buf_tree.proofs.Kin.{row_of_place, parent_row}
use Rattle.buf_tree.proofs.Seeking.{rows_fewer}

-- the rows that a cursor walks over are those that the buffer tells
pub shaped : (m : Store) (rows : List Cell) → Shape m rows → Shaped m
shaped m rows s = subst (λ (xs : List Cell). Shape m xs) (sym (cells_is m rows s)) s

pub if_some : {X : Type 0} (o : Option X) (P Q : X → Type 0) → ((x : X) → P x → Q x) → IfSome o P → IfSome o Q
if_some None P Q f h = tt
if_some (Some x) P Q f h = f x h

-- a kind that isn't a text's
pub no_text_kind : (k : Kind) → ((b : List ℕ) → k ≡ Text b → ⊥) → false ≡ is_text k
no_text_kind Document h = refl
no_text_kind (Element name) h = refl
no_text_kind (Text b) h = absurd (h b refl)

module _ (m : Store) (rows : List Cell) (s : Shape m rows) where
  pub row_here : (p : ℕ) (r : Row) → option_map (λ (e : StoreRow Row). e.payload) (get m p) ≡ Some r → (c : Cell) → In c rows → c.place ≡ p → c.row ≡ r
  row_here p r h c i e =
      let same : Some c.row ≡ Some r = sym (ap (option_map (λ (x : StoreRow Row). x.payload)) (ap (get m) (sym e) ∙ get_of m rows s c i)) ∙ h in
      cc

  pub num_here : (p : ℕ) (r : Row) (k : ℕ) → option_map (λ (e : StoreRow Row). e.payload) (get m p) ≡ Some r → k ≡ r.serial → (c : Cell) → In c rows → c.place ≡ p → num c ≡ k
  num_here p r k h f c i e = ap (λ (x : Row). x.serial) (row_here p r h c i e) ∙ sym f

  serial_of_place : (c : Cell) (p : ℕ) → In c rows → c.place ≡ p → serial_in rows (at_place p rows) ≡ num c
  serial_of_place c p i e = ap (λ q. serial_in rows (at_place q rows)) (sym e) ∙ ap (serial_in rows) (at_place_is rows s.apart c i)

  pub low_less : (c d : Cell) (p q : ℕ) → In c rows → In d rows → c.place ≡ p → d.place ≡ q → num d < num c → low_at rows (Some q) < low_at rows (Some p)
  low_less c d p q i j e f l = let a = serial_of_place c p i e in let b = serial_of_place d q j f in omega arith

  pub high_less : (c d : Cell) (p q : ℕ) → In c rows → In d rows → c.place ≡ p → d.place ≡ q → num c < num d → high_at rows (Some q) < high_at rows (Some p)
  high_less c d p q i j e f l =
      let a = ap (rows_behind rows) (serial_of_place c p i e) in
      let b = ap (rows_behind rows) (serial_of_place d q j f) in
      let less = rows_fewer rows (num c) (num d) d j refl l in
      omega arith

  -- a parent's row stands before
  pub parent_less : (p q : ℕ) → IsSome (get m p) → parent_of m p ≡ Some q → low_at rows (Some q) < low_at rows (Some p)
  parent_less p q u e =
      let c = row_of_place m rows s p u in
      let d = parent_row m rows s c.0 c.1 q (ap (parent_of m) c.2 ∙ e) in
      low_less c.0 d.0 p q c.1 d.1 c.2 d.3 d.2.1

  -- the row at a place in use
  pub used_row : (p : ℕ) → IsSome (get m p) → InUse rows p
  used_row p u = let c = row_of_place m rows s p u in record { cell = c.0; among = c.1; place = c.2 }

-- a store that is this one
pub same_shape : (m n : Store) (rows : List Cell) → n ≡ m → Shape m rows → Shape n rows
same_shape m n rows e s = subst (λ (x : Store). Shape x rows) (sym e) s
