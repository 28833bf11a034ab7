-- The innermost open row behind each row that is made.
use Rattle.std.proofs.Common.{◌≡◌, ℕ, ◌+◌, ◌<◌, ◌≤◌, Bool, true, false, cond, not, List, [], ◌∷◌, ◌++◌, refl, sym, ◌∙◌, ap, subst, inl, inr, arith, Some, None, Option}
use Rattle.std.specs.Prelude.{option_map}
use Rattle.std.specs.Ordering.{nat_cmp}
use Rattle.std.specs.FinSet.{FinSet}
use Rattle.std.proofs.lemmas.Bool.{false≢true}
use Rattle.gcx_base.specs.declared.ids.Role.{Role}
use Rattle.gcx_base.specs.declared.kind.Kind.{Kind}
use Rattle.gcx_base.specs.Kinds.{is_text}
use Rattle.gcx_model.specs.Members.{In}
use Rattle.gcx_model.specs.Paths.{head}
use Rattle.node_store.specs.declared.store.Place.{Place}
use Rattle.tree_laws.proofs.Lists.{In-left, In-right, In-append}
use Rattle.buf_tree.specs.Shape.{Cell, num, at_place}
use Rattle.buf_tree.specs.View.{View, Innermost, num_in, level_in}
use Rattle.buf_tree.specs.Calls.{Started}
use Rattle.buf_tree.specs.Loose.{Passed, open_among, last_open, passed_cell}
use Rattle.buf_tree.specs.PassedCalls.{row_with, OpenedWith, OpenedPassed}
use Rattle.buf_tree.proofs.Reading.{root_innermost}
use Rattle.buf_tree.proofs.Shaping.{at_place_in}
use Rattle.buffer_tests.specs.Passed.{IsTop}

pub top_begun : (v : View) (gs : List Role) (p : ℕ) → Started v gs → Some p ≡ option_map (λ (c : Cell). c.place) (head v.rows) → IsTop v.rows p 0
top_begun v gs p s h = record {
  inner = root_innermost v gs p s h;
  low = λ c i. elim (subst (λ (xs : List Cell). In c xs) s.row.1 i) [ inl e ↦ (let f = ap num e in omega arith) | inr k ↦ absurd k ];
  flat = λ c i. elim (subst (λ (xs : List Cell). In c xs) s.row.1 i) [ inl e ↦ (let f = ap num e in let l = ap (λ (x : Cell). x.row.level) e in omega arith) | inr k ↦ absurd k ];
}

module _ (rows : List Cell) (q last : ℕ) (t : IsTop rows q last) where
  low_level : (c : Cell) → In c rows → c.row.level ≤ last
  low_level c i = let a = t.flat c i in let b = t.low c i in omega arith

  pub level_at : level_in (at_place q rows) ≤ last
  level_at = go (at_place q rows) refl
    where
      go : (o : Option Cell) → at_place q rows ≡ o → level_in o ≤ last
      go None e = omega arith
      go (Some c) e = low_level c (at_place_in q rows c e).0

  pub level_open : level_in (last_open rows) ≤ last
  level_open = go None rows (omega arith) low_level
    where
      go : (o : Option Cell) (cs : List Cell) → level_in o ≤ last → ((c : Cell) → In c cs → c.row.level ≤ last) → level_in (open_among o cs) ≤ last
      go o [] l k = l
      go o (c ∷ cs) l k = go (cond c.row.is_open (Some c) o) cs (by c.row.is_open) (λ d i. k d (inr i))
        where
          by : (b : Bool) → level_in (cond b (Some c) o) ≤ last
          by true = k c (inl refl)
          by false = l

  -- a row behind the others
  module _ (n : Cell) (behind : last < num n) (level : n.row.level ≤ num n) where
    split : {X : Type 0} (c : Cell) → In c (rows ++ n ∷ []) → (In c rows → X) → (n ≡ c → X) → X
    split c i f g = elim (In-append c rows (n ∷ []) i) [ inl j ↦ f j | inr j ↦ elim j [ inl e ↦ g e | inr z ↦ absurd z ] ]

    low_more : (c : Cell) → In c (rows ++ n ∷ []) → num c ≤ num n
    low_more c i = split c i (λ j. let l = t.low c j in omega arith) (λ e. let f = ap num e in omega arith)

    flat_more : (c : Cell) → In c (rows ++ n ∷ []) → c.row.level ≤ num c
    flat_more c i = split c i (t.flat c) (λ e. subst (λ (x : Cell). x.row.level ≤ num x) e level)

    pub top_open : n.row.is_open ≡ true → IsTop (rows ++ n ∷ []) n.place (num n)
    top_open o = record {
      inner = record { cell = n; among = In-right n rows (n ∷ []) (inl refl); place = refl; is_open = o; last = λ d i p. low_more d i };
      low = low_more;
      flat = flat_more;
    }

    pub top_shut : n.row.is_open ≡ false → IsTop (rows ++ n ∷ []) q (num n)
    top_shut o = record {
      inner = record {
        cell = t.inner.cell;
        among = In-left t.inner.cell rows (n ∷ []) t.inner.among;
        place = t.inner.place;
        is_open = t.inner.is_open;
        last = λ d i p. split d i (λ j. t.inner.last d j p) (λ e. absurd (false≢true (sym o ∙ ap (λ (x : Cell). x.row.is_open) e ∙ p)));
      };
      low = low_more;
      flat = flat_more;
    }

module _ (v w : View) (q last : ℕ) (t : IsTop v.rows q last) (kind : Kind) (roles : FinSet nat_cmp) (ahead : ℕ) (o : Option Place) (c : OpenedWith v w q (option_map (λ (x : Place). x.0) o) kind roles ahead) where
  -- behind a new element or text
  module _ (p : Place) (is : o ≡ Some p) (s : ℕ) (same : s ≡ v.nodes) (behind : last < s) where
    now : OpenedWith v w q (Some p.0) kind roles ahead
    now = subst (λ (x : Option Place). OpenedWith v w q (option_map (λ (y : Place). y.0) x) kind roles ahead) is c

    low : last < v.nodes
    low = omega (arith, same, behind)

    deep : level_in (at_place q v.rows) + 1 ≤ v.nodes
    deep = let l = level_at v.rows q last t in let b = low in omega arith

    abbrev cell : Cell
    cell = record { place = p.0; row = row_with v q kind roles }

    pub top_element : is_text kind ≡ false → IsTop w.rows p.0 s
    top_element f = subst (λ (k : ℕ). IsTop w.rows p.0 k) (sym same) (subst (λ (xs : List Cell). IsTop xs p.0 v.nodes) (sym now.rows) (top_open v.rows q last t cell low deep (ap not f)))

    pub top_text : is_text kind ≡ true → IsTop w.rows q s
    top_text f = subst (λ (k : ℕ). IsTop w.rows q k) (sym same) (subst (λ (xs : List Cell). IsTop xs q v.nodes) (sym now.rows) (top_shut v.rows q last t cell low deep (ap not f)))

  -- behind a text that is gone at once
  pub top_gone : o ≡ None → IsTop w.rows q last
  top_gone e =
      let now : OpenedWith v w q None kind roles ahead = subst (λ (x : Option Place). OpenedWith v w q (option_map (λ (y : Place). y.0) x) kind roles ahead) e c in
      subst (λ (xs : List Cell). IsTop xs q last) (sym now.rows) t

-- behind a row that is made late
module _ (v w : View) (q last p : ℕ) (x : Passed) (t : IsTop v.rows q last) (c : OpenedPassed v w p x) (behind : last < x.serial) where
  abbrev late : Cell
  late = passed_cell (num_in (last_open v.rows)) (level_in (last_open v.rows)) p x

  deep_late : level_in (last_open v.rows) + 1 ≤ x.serial
  deep_late = let l = level_open v.rows q last t in let b = behind in omega arith

  pub top_late : IsTop w.rows p x.serial
  top_late = subst (λ (xs : List Cell). IsTop xs p x.serial) (sym c.rows) (top_open v.rows q last t late behind deep_late refl)
