-- The invariant of a buffer through a change of a row and a purge.
use Rattle.std.proofs.Common.{rules, ◌≡◌, ◌≢◌, ◌==◌, ℕ, suc, ◌+◌, ◌-◌, ◌<◌, ◌≤◌, Bool, true, false, cond, not, ◌&&◌, List, [], ◌∷◌, ◌++◌, length, map, refl, sym, ◌∙◌, ap, subst, inl, inr, ◌⊎◌, arith, Some, None, Option}
use Rattle.std.specs.Prelude.{option_map, IsSome, IsTrue, ◌↔◌, Result, Ok, Err, OnErr}
use Rattle.std.specs.FinMap.{get, len, same_map, empty}
use Rattle.std.proofs.lemmas.List.{length-append, map-append}
use Rattle.std.specs.Ordering.{nat_cmp}
use Rattle.std.specs.Cmp.{nat_cmp_total}
use Rattle.std.specs.FinSet as set
use Rattle.std.specs.FinSet.{FinSet, nat_cmp-IsAntisymmetric, len-empty, empty_of_len}
use Rattle.std.proofs.lemmas.Bool.{false≢true, eqb-true, eq-eqb, ne_eqb, cases_eq}
use Rattle.tree_laws.proofs.Lists.{In, In-left, In-append, In-filter}
use Rattle.node_store.specs.Rows.{StoreRow, changed_at, paid_by, with_payload, planted, appended}
use Rattle.buf_tree.specs.Row.{Row}
use Rattle.buf_tree.specs.Shape.{Store, Cell, num, cells, is_under, entry_in, Shape, Shaped, with_at}
use Rattle.gcx_base.specs.Kinds.{is_text}
use Rattle.buf_tree.specs.Rows.{shut_row, untaken, IsDead, serials, is_bare}
use Rattle.gcx_base.specs.declared.kind.Kind.{Kind}
use Rattle.gcx_base.specs.declared.ids.Serial.{Serial}
use Rattle.base_laws.proofs.Members.{in_map, from_map}
use Rattle.buf_tree.specs.Purge.{is_gone, Keeps, Tidy, TidyBut, Purged, Cleared}
use Rattle.buf_tree.specs.View.{View, Ordered, Kept, Ready, Innermost}
use Rattle.buf_tree.specs.Calls.{HasRole, Left}
use Rattle.buf_tree.proofs.Shaping.{cells_is, shaped, get_of, rows_number}
use Rattle.buf_tree.proofs.Grown.{shape_appended, shape_planted}
use Rattle.buf_tree.proofs.Changes.{shape_changed, g_num, get_changed}

length-map : {X Y : Type 0} (f : X → Y) (xs : List X) → length (map f xs) ≡ length xs
length-map f [] = refl
length-map f (x ∷ xs) = ap suc (length-map f xs)

pub length_serials : (ss : List Serial) → length (serials ss) ≡ length ss
length_serials ss = length-map (λ (s : Serial). s.0) ss

-- a sublist is in order
pub ordered_part : (xs ys : List Cell) → ((c : Cell) → In c ys → In c xs) → Ordered xs → Ordered ys
ordered_part xs ys i o = record { nested = λ b c j k. o.nested b c (i b j) (i c k); open_last = λ a b j k. o.open_last a b (i a j) (i b k) }

ordered_push : (xs : List Cell) (n : Cell) (q : ℕ) → (i : Innermost xs q) → n.row.parent ≡ num i.cell → ((x : Cell) → In x xs → num x < num n) → Ordered xs → Ordered (xs ++ n ∷ [])
ordered_push xs n q i par last o = record { nested = nested; open_last = open_last }
  where
    split : (c : Cell) → In c (xs ++ n ∷ []) → In c xs ⊎ (n ≡ c)
    split c j = elim (In-append c xs (n ∷ []) j) [ inl k ↦ inl k | inr k ↦ elim k [ inl e ↦ inr e | inr z ↦ absurd z ] ]

    nested : (b c : Cell) → In b (xs ++ n ∷ []) → In c (xs ++ n ∷ []) → c.row.parent < num b → num b < num c → c.row.parent ≤ b.row.parent
    nested b c j k l m = elim (split b j) [
      | inl jb ↦ elim (split c k) [
        | inl kc ↦ o.nested b c jb kc l m
        | inr e ↦ (let p = ap (λ (x : Cell). x.row.parent) e in let z = o.open_last i.cell b i.among jb i.is_open (omega arith) in omega arith)
      ]
      | inr e ↦ elim (split c k) [
        | inl kc ↦ (let z = last c kc in let y = ap num e in absurd (omega arith))
        | inr f ↦ (let y = ap num e in let z = ap num f in absurd (omega arith))
      ]
    ]

    open_last : (a b : Cell) → In a (xs ++ n ∷ []) → In b (xs ++ n ∷ []) → a.row.is_open ≡ true → num a < num b → num a ≤ b.row.parent
    open_last a b j k op l = elim (split a j) [
      | inl ja ↦ elim (split b k) [
        | inl kb ↦ o.open_last a b ja kb op l
        | inr e ↦ (let p = ap (λ (x : Cell). x.row.parent) e in let z = i.last a ja op in omega arith)
      ]
      | inr e ↦ elim (split b k) [
        | inl kb ↦ (let z = last b kb in let y = ap num e in absurd (omega arith))
        | inr f ↦ (let y = ap num e in let z = ap num f in absurd (omega arith))
      ]
    ]

module _ (f : Row → Row) (keeps : (r : Row) → ((f r).serial ≡ r.serial) × ((f r).parent ≡ r.parent)) (opens : (r : Row) → (f r).is_open ≡ true → r.is_open ≡ true) (m : Store) (p : ℕ) where
  pub cells_changed : Shaped m → cells (changed_at (paid_by f) p m) ≡ map (with_at f p) (cells m)
  cells_changed s = cells_is (changed_at (paid_by f) p m) (map (with_at f p) (cells m)) (shape_changed f p keeps m (cells m) s)

  ordered_changed : (xs : List Cell) → Ordered xs → Ordered (map (with_at f p) xs)
  ordered_changed xs o = record {
    nested = λ b c j k l n.
        let x = from_map (with_at f p) b xs j in
        let y = from_map (with_at f p) c xs k in
        let a1 = sym (g_num f p keeps x.0) ∙ ap num x.2 in
        let a2 = sym (g_num f p keeps y.0) ∙ ap num y.2 in
        let b1 = sym (par x.0) ∙ ap (λ (z : Cell). z.row.parent) x.2 in
        let b2 = sym (par y.0) ∙ ap (λ (z : Cell). z.row.parent) y.2 in
        let z = o.nested x.0 y.0 x.1 y.1 (omega arith) (omega arith) in omega arith;
    open_last = λ a b j k op l.
        let x = from_map (with_at f p) a xs j in
        let y = from_map (with_at f p) b xs k in
        let a1 = sym (g_num f p keeps x.0) ∙ ap num x.2 in
        let a2 = sym (g_num f p keeps y.0) ∙ ap num y.2 in
        let b2 = sym (par y.0) ∙ ap (λ (z : Cell). z.row.parent) y.2 in
        let z = o.open_last x.0 y.0 x.1 y.1 (was x.0 (ap (λ (w : Cell). w.row.is_open) x.2 ∙ op)) (omega arith) in omega arith;
  }
    where
      par : (c : Cell) → (with_at f p c).row.parent ≡ c.row.parent
      par c = go (c.place == p)
        where
          go : (b : Bool) → (cond b (record { place = c.place; row = f c.row }) c).row.parent ≡ c.row.parent
          go true = (keeps c.row).1
          go false = refl

      was : (c : Cell) → (with_at f p c).row.is_open ≡ true → c.row.is_open ≡ true
      was c = go (c.place == p)
        where
          go : (b : Bool) → (cond b (record { place = c.place; row = f c.row }) c).row.is_open ≡ true → c.row.is_open ≡ true
          go true e = opens c.row e
          go false e = e

  -- all but the changed row are kept as before
  pub tidy_changed : Tidy (cells m) → TidyBut (Some p) (map (with_at f p) (cells m))
  tidy_changed t c i n =
      let r = from_map (with_at f p) c (cells m) i in
      elim (cases_eq r.0.place p) [
        | inl e ↦ absurd (n (ap (λ z. Some z) (sym e ∙ sym (place_same r.0) ∙ ap (λ (z : Cell). z.place) r.2)))
        | inr d ↦ subst (λ (z : Cell). Keeps (map (with_at f p) (cells m)) z) (sym (kept_as r.0 d) ∙ r.2) (elim (t r.0 r.1) [
          | inl alive ↦ inl alive
          | inr k ↦ inr (with_at f p k.0, in_map (with_at f p) k.0 (cells m) k.1, under_same (num r.0) k.0 ∙ k.2)
        ])
      ]
    where
      kept_as : (c : Cell) → c.place ≢ p → with_at f p c ≡ c
      kept_as c d = rw (ne_eqb c.place p d) refl

      place_same : (c : Cell) → (with_at f p c).place ≡ c.place
      place_same c = go (c.place == p)
        where
          go : (b : Bool) → (cond b (record { place = c.place; row = f c.row }) c).place ≡ c.place
          go true = refl
          go false = refl

      parent_same : (c : Cell) → (with_at f p c).row.parent ≡ c.row.parent
      parent_same c = go (c.place == p)
        where
          go : (b : Bool) → (cond b (record { place = c.place; row = f c.row }) c).row.parent ≡ c.row.parent
          go true = (keeps c.row).1
          go false = refl

      under_same : (k : ℕ) (c : Cell) → is_under k (with_at f p c) ≡ is_under k c
      under_same k c = λ t. not (g_num f p keeps c t == 0) && (parent_same c t == k)

  pub ready_changed : (gone : List ℕ) (cap count nodes : ℕ) → Kept m gone cap count nodes → (c : Cell) → In c (cells m) → c.place ≡ p → Ready (changed_at (paid_by f) p m) p gone cap count nodes
  ready_changed gone cap count nodes k c i e =
      let s = shape_changed f p keeps m (cells m) k.shape in
      let is = cells_changed k.shape in
      record {
        shape = shaped (changed_at (paid_by f) p m) (map (with_at f p) (cells m)) s;
        there = there_now c i e;
        tidy = subst (λ (zs : List Cell). TidyBut (Some p) zs) (sym is) (tidy_changed k.tidy);
        held = ap length is ∙ length-map (with_at f p) (cells m) ∙ k.held;
        room = k.room;
        below = λ d j.
            let r = from_map (with_at f p) d (cells m) (subst (λ (zs : List Cell). In d zs) is j) in
            let l = k.below r.0 r.1 in
            let a = g_num f p keeps r.0 in
            let b = ap num r.2 in
            omega arith;
        ordered = subst (λ (zs : List Cell). Ordered zs) (sym is) (ordered_changed (cells m) k.ordered);
      }
    where
      there_now : (c : Cell) → In c (cells m) → c.place ≡ p → IsSome (get (changed_at (paid_by f) p m) p)
      there_now c i e =
          let at : get m p ≡ Some (entry_in (cells m) c) = ap (get m) (sym e) ∙ get_of m (cells m) k.shape c i in
          let now : get (changed_at (paid_by f) p m) p ≡ Some (paid_by f (entry_in (cells m) c)) =
          get_changed (paid_by f) p m p ∙ ap (λ b. cond b (option_map (paid_by f) (get m p)) (get m p)) (eq-eqb p p refl) ∙ ap (option_map (paid_by f)) at in
          subst (λ o. IsSome o) (sym now) refl

-- what a purge keeps of it
pub kept_cleared : (m m' : Store) (p : ℕ) (gone gone' : List ℕ) (cap cap' count nodes n n' : ℕ) → Ready m p gone cap count nodes → Cleared m m' gone gone' → n' + length (cells m') ≡ n + length (cells m) → n ≡ length gone → n' ≡ length gone' → cap ≤ cap' → Kept m' gone' cap' (count - (n' - n)) nodes
kept_cleared m m' p gone gone' cap cap' count nodes n n' r c e h h' l =
    let longer = ap length c.left.1 ∙ length-append gone c.left.0 in
    record {
      shape = c.shape;
      tidy = c.left.2.tidy;
      held = omega (arith, r.held, e, h, h', longer);
      room = omega (arith, r.held, e, h, h', longer, r.room, l);
      below = λ d i. r.below d (In-filter (λ (x : Cell). not (is_gone c.left.0 x)) d (cells m) (subst (λ (zs : List Cell). In d zs) c.left.2.leaves.rows i)).0;
      ordered = ordered_part (cells m) (cells m') (λ d i. (In-filter (λ (x : Cell). not (is_gone c.left.0 x)) d (cells m) (subst (λ (zs : List Cell). In d zs) c.left.2.leaves.rows i)).0) r.ordered;
    }

-- and where nothing is to go
pub kept_still : (m : Store) (p : ℕ) (gone : List ℕ) (cap count nodes : ℕ) → Ready m p gone cap count nodes → Cleared m m gone gone → Kept m gone cap count nodes
kept_still m p gone cap count nodes r c = record { shape = r.shape; tidy = c.left.2.tidy; held = r.held; room = r.room; below = r.below; ordered = r.ordered }

keeps_shut : (r : Row) → ((shut_row r).serial ≡ r.serial) × ((shut_row r).parent ≡ r.parent)
keeps_shut r = (refl, refl)

opens_shut : (r : Row) → (shut_row r).is_open ≡ true → r.is_open ≡ true
opens_shut r e = absurd (false≢true e)

pub ready_shut : (m m' : Store) (xs : List Cell) (p : ℕ) (gone : List ℕ) (cap count nodes : ℕ) → cells m ≡ xs → m' ≡ changed_at (paid_by shut_row) p m → Kept m gone cap count nodes → Innermost xs p → Ready m' p gone cap count nodes
ready_shut m m' xs p gone cap count nodes e f k i =
    subst (λ (z : Store). Ready z p gone cap count nodes) (sym f)
    (ready_changed shut_row keeps_shut opens_shut m p gone cap count nodes k i.cell (subst (λ (zs : List Cell). In i.cell zs) (sym e) i.among) i.place)

pub cells_shut : (m m' : Store) (xs : List Cell) (p : ℕ) → cells m ≡ xs → m' ≡ changed_at (paid_by shut_row) p m → Shaped m → cells m' ≡ map (with_at shut_row p) xs
cells_shut m m' xs p e f s = ap cells f ∙ cells_changed shut_row keeps_shut opens_shut m p s ∙ ap (map (with_at shut_row p)) e

pub left_by_purge : (v w : View) (m m' : Store) (xs : List Cell) → cells m ≡ xs → cells m' ≡ w.rows → Cleared m m' v.gone w.gone → Left v w xs
left_by_purge v w m m' xs e f c = record {
  left = c.left.0;
  gone = c.left.1;
  purged = subst (λ (zs : List Cell). Purged zs w.rows c.left.0) e (subst (λ (zs : List Cell). Purged (cells m) zs c.left.0) f c.left.2);
}

-- a row more, which something keeps
module _ (m m' : Store) (xs : List Cell) (q p : ℕ) (row : Row) (is : cells m ≡ xs) (s : Shaped m) (t : Tidy (cells m)) (od : Ordered (cells m)) (i : Innermost xs q) (free : get m p ≡ None) (now : m' ≡ appended m q p row)
    (under : row.parent ≡ num i.cell) (last : (x : Cell) → In x xs → num x < row.serial) where
  shape_then : Shape m' (xs ++ record { place = p; row = row } ∷ [])
  shape_then = subst (λ (z : Store). Shape z (xs ++ record { place = p; row = row } ∷ [])) (ap (λ (k : ℕ). appended m k p row) i.place ∙ sym now)
      (shape_appended m xs (subst (λ (zs : List Cell). Shape m zs) is s) i.cell i.among p row free under last)

  pub cells_appended : cells m' ≡ xs ++ record { place = p; row = row } ∷ []
  cells_appended = cells_is m' (xs ++ record { place = p; row = row } ∷ []) shape_then

  pub kept_appended : (gone : List ℕ) (cap count nodes : ℕ) → length (cells m) ≡ count → length gone + (count + 1) ≤ cap → ((x : Cell) → In x xs → num x < nodes) → row.serial ≡ nodes → (IsDead row → ⊥) → Kept m' gone cap (count + 1) (nodes + 1)
  kept_appended gone cap count nodes h room below new alive = record {
    shape = shaped m' (xs ++ record { place = p; row = row } ∷ []) shape_then;
    tidy = subst (λ (zs : List Cell). Tidy zs) (sym cells_appended) (λ c j. elim (In-append c xs (record { place = p; row = row } ∷ []) j) [
      | inl k ↦ elim (subst (λ (zs : List Cell). Tidy zs) is t c k) [ inl lives ↦ inl lives | inr d ↦ inr (d.0, In-left d.0 xs (record { place = p; row = row } ∷ []) d.1, d.2) ]
      | inr k ↦ elim k [ inl e ↦ inl (λ dead. alive (subst (λ (x : Cell). IsDead x.row) (sym e) dead)) | inr z ↦ absurd z ]
    ]);
    held = ap length cells_appended ∙ length-append xs (record { place = p; row = row } ∷ []) ∙ ap (λ k. k + 1) (sym (ap length is) ∙ h);
    room = room;
    below = λ c j. elim (In-append c xs (record { place = p; row = row } ∷ []) (subst (λ (zs : List Cell). In c zs) cells_appended j)) [
      | inl k ↦ (let l = below c k in omega arith)
      | inr k ↦ elim k [ inl e ↦ (let l = ap num e in omega arith) | inr z ↦ absurd z ]
    ];
    ordered = subst (λ (zs : List Cell). Ordered zs) (sym cells_appended) (ordered_push xs (record { place = p; row = row }) q i under last (subst (λ (zs : List Cell). Ordered zs) is od));
  }

pub row_in : (m : Store) (xs : List Cell) (q : ℕ) (r : Row) → cells m ≡ xs → Shaped m → (i : Innermost xs q) → option_map (λ (e : StoreRow Row). e.payload) (get m q) ≡ Some r → r.serial ≡ num i.cell
row_in m xs q r e s i h =
    let t : Shape m xs = subst (λ (zs : List Cell). Shape m zs) e s in
    let g : get m q ≡ Some (entry_in xs i.cell) = ap (get m) (sym i.place) ∙ get_of m xs t i.cell i.among in
    let same : Some i.cell.row ≡ Some r = sym (ap (option_map (λ (x : StoreRow Row). x.payload)) g) ∙ h in
    let is : i.cell.row ≡ r = cc in
    sym (ap (λ (x : Row). x.serial) is)

pub free_place : (m : Store) (xs : List Cell) (p : ℕ) → cells m ≡ xs → Shaped m → get m p ≡ None → (c : Cell) → In c xs → c.place ≡ p → ⊥
free_place m xs p e s free c i f =
    let t : Shape m xs = subst (λ (zs : List Cell). Shape m zs) e s in
    let bad : None ≡ Some (entry_in xs c) = sym free ∙ ap (get m) (sym f) ∙ get_of m xs t c i in
    absurd (cc)

pub kept_opened : (m m' : Store) (v : View) (q p : ℕ) (row above : Row) (gone0 gone : List ℕ) (cap0 cap count nodes : ℕ) → cells m ≡ v.rows → Kept m gone0 cap0 count nodes → Innermost v.rows q → get m p ≡ None → m' ≡ appended m q p row
    → row.serial ≡ nodes → option_map (λ (e : StoreRow Row). e.payload) (get m q) ≡ Some above → row.parent ≡ above.serial → length gone + (count + 1) ≤ cap → (IsDead row → ⊥) → Kept m' gone cap (count + 1) (nodes + 1)
kept_opened m m' v q p row above gone0 gone cap0 cap count nodes e k i free now new h par room alive =
    kept_appended m m' v.rows q p row e k.shape k.tidy k.ordered i free now (par ∙ row_in m v.rows q above e k.shape i h) (λ x j. let l = below x j in omega arith) gone cap count nodes k.held room below new alive
  where
    below : (x : Cell) → In x v.rows → num x < nodes
    below x j = k.below x (subst (λ (zs : List Cell). In x zs) (sym e) j)

pub cells_opened : (m m' : Store) (v : View) (q p : ℕ) (row above : Row) (gone0 : List ℕ) (cap0 count nodes : ℕ) → cells m ≡ v.rows → Kept m gone0 cap0 count nodes → Innermost v.rows q → get m p ≡ None → m' ≡ appended m q p row
    → row.serial ≡ nodes → option_map (λ (e : StoreRow Row). e.payload) (get m q) ≡ Some above → row.parent ≡ above.serial → cells m' ≡ v.rows ++ record { place = p; row = row } ∷ []
cells_opened m m' v q p row above gone0 cap0 count nodes e k i free now new h par =
    cells_appended m m' v.rows q p row e k.shape k.tidy k.ordered i free now (par ∙ row_in m v.rows q above e k.shape i h) (λ x j. let l = k.below x (subst (λ (zs : List Cell). In x zs) (sym e) j) in omega arith)

pub kept_same : (m m' : Store) (gone gone' : List ℕ) (cap cap' count nodes : ℕ) → m' ≡ m → gone' ≡ gone → cap ≤ cap' → Kept m gone cap count nodes → Kept m' gone' cap' count nodes
kept_same m m' gone gone' cap cap' count nodes e f l k =
    subst (λ (z : Store). Kept z gone' cap' count nodes) (sym e) (record { shape = k.shape; tidy = k.tidy; held = k.held; room = omega (arith, k.room, ap length f, l); below = k.below; ordered = k.ordered })

pub more_rows : (m : Store) (xs : List Cell) (c : Cell) → Shaped m → cells m ≡ xs ++ c ∷ [] → len m ≡ length xs + 1
more_rows m xs c s e = rows_number m (cells m) s ∙ ap length e ∙ length-append xs (c ∷ [])

keeps_untaken : (k : ℕ) (r : Row) → ((untaken k r).serial ≡ r.serial) × ((untaken k r).parent ≡ r.parent)
keeps_untaken k r = (refl, refl)

pub role_there : (m : Store) (xs : List Cell) (p k : ℕ) → Shaped m → cells m ≡ xs → HasRole xs p k → (e : StoreRow Row) × (get m p ≡ Some e) × (set.contains e.payload.roles k ≡ true)
role_there m xs p k s e i = (entry_in (cells m) i.cell, ap (get m) (sym i.place) ∙ get_of m (cells m) s i.cell (subst (λ (zs : List Cell). In i.cell zs) (sym e) i.among), i.has)

pub ready_untaken : (m m' : Store) (xs : List Cell) (p k : ℕ) (gone : List ℕ) (cap count nodes : ℕ) → cells m ≡ xs → m' ≡ changed_at (paid_by (untaken k)) p m → Kept m gone cap count nodes → HasRole xs p k → Ready m' p gone cap count nodes
ready_untaken m m' xs p k gone cap count nodes e f h i =
    subst (λ (z : Store). Ready z p gone cap count nodes) (sym f)
    (ready_changed (untaken k) (keeps_untaken k) (λ r o. o) m p gone cap count nodes h i.cell (subst (λ (zs : List Cell). In i.cell zs) (sym e) i.among) i.place)

pub cells_untaken : (m m' : Store) (xs : List Cell) (p k : ℕ) → cells m ≡ xs → m' ≡ changed_at (paid_by (untaken k)) p m → Shaped m → cells m' ≡ map (with_at (untaken k) p) xs
cells_untaken m m' xs p k e f s = ap cells f ∙ cells_changed (untaken k) (keeps_untaken k) (λ r o. o) m p s ∙ ap (map (with_at (untaken k) p)) e

-- a payload written back as it was
pub row_again : (m : Store) (p : ℕ) (x y : Row) → option_map (λ (e : StoreRow Row). e.payload) (get m p) ≡ Some y → x ≡ y → changed_at (with_payload x) p m ≡ m
row_again m p x y h s = same_map nat_cmp_total nat_cmp-IsAntisymmetric (changed_at (with_payload x) p m) m (λ q. get_changed (with_payload x) p m q ∙ go q (q == p) refl)
  where
    same : (o : Option (StoreRow Row)) → option_map (λ (e : StoreRow Row). e.payload) o ≡ Some y → option_map (with_payload x) o ≡ o
    same None e = refl
    same (Some e) k = let is : e.payload ≡ y = cc in ap (λ (z : Row). Some (record e { payload = z })) (s ∙ sym is)

    go : (q : ℕ) (b : Bool) → (q == p) ≡ b → cond b (option_map (with_payload x) (get m q)) (get m q) ≡ get m q
    go q true e = same (get m q) (ap (λ z. option_map (λ (d : StoreRow Row). d.payload) (get m z)) (eqb-true q p e) ∙ h)
    go q false e = refl

pub on_err : {X E P : Type 0} (r : Result X E) → P → OnErr r P
on_err (Ok x) h = tt
on_err (Err e) h = h

-- the first row
pub cells_planted : (m m' : Store) (p : ℕ) (row : Row) → m ≡ empty → m' ≡ planted m p row → row.serial ≡ 0 → cells m' ≡ record { place = p; row = row } ∷ []
cells_planted m m' p row e f z = cells_is m' (record { place = p; row = row } ∷ []) (subst (λ (x : Store). Shape x (record { place = p; row = row } ∷ [])) (sym (f ∙ ap (λ (x : Store). planted x p row) e)) (shape_planted p row z))

pub kept_planted : (m m' : Store) (p : ℕ) (row : Row) (gone : List ℕ) (cap : ℕ) → m ≡ empty → m' ≡ planted m p row → row.serial ≡ 0 → row.is_open ≡ true → length gone + 1 ≤ cap → Kept m' gone cap 1 1
kept_planted m m' p row gone cap e f z op room =
    let is = cells_planted m m' p row e f z in
    let s : Shape m' (record { place = p; row = row } ∷ []) = subst (λ (x : Store). Shape x (record { place = p; row = row } ∷ [])) (sym (f ∙ ap (λ (x : Store). planted x p row) e)) (shape_planted p row z) in
    record {
      shape = shaped m' (record { place = p; row = row } ∷ []) s;
      tidy = subst (λ (zs : List Cell). Tidy zs) (sym is) (λ c i. elim i [ inl g ↦ inl (λ dead. let b : true ≡ false = sym op ∙ ap (λ (x : Cell). x.row.is_open) g ∙ dead.0 in absurd (cc)) | inr k ↦ absurd k ]);
      held = ap length is;
      room = room;
      below = λ c i. elim (subst (λ (zs : List Cell). In c zs) is i) [ inl g ↦ (let l = ap num g in omega arith) | inr k ↦ absurd k ];
      ordered = subst (λ (zs : List Cell). Ordered zs) (sym is) (record {
        nested = λ b c i j k l. elim i [ inl g ↦ elim j [ inl h ↦ (let x = ap num g in let y = ap num h in absurd (omega arith)) | inr h ↦ absurd h ] | inr g ↦ absurd g ];
        open_last = λ a b i j k l. elim i [ inl g ↦ elim j [ inl h ↦ (let x = ap num g in let y = ap num h in absurd (omega arith)) | inr h ↦ absurd h ] | inr g ↦ absurd g ];
      });
    }

-- a node that is gone at once
pub kept_bare : (m : Store) (gone gone' : List ℕ) (s cap cap' count nodes : ℕ) → Kept m gone cap count nodes → gone' ≡ gone ++ s ∷ [] → length gone + (count + 1) ≤ cap' → Kept m gone' cap' count (nodes + 1)
kept_bare m gone gone' s cap cap' count nodes k e l = record {
  shape = k.shape;
  tidy = k.tidy;
  held = k.held;
  room = omega (arith, ap length e ∙ length-append gone (s ∷ []), l);
  below = λ c i. let b = k.below c i in omega arith;
  ordered = k.ordered;
}

pub serials_push : (ss : List Serial) (s : Serial) → serials (ss ++ s ∷ []) ≡ serials ss ++ s.0 ∷ []
serials_push ss s = map-append (λ (x : Serial). x.0) ss (s ∷ [])

-- a new row that isn't gone at once is kept
pub alive_new : (row : Row) (kind : Kind) (roles : FinSet nat_cmp) → row.is_open ≡ not (is_text kind) → row.roles ≡ roles → is_bare kind roles ≡ false → IsDead row → ⊥
alive_new row kind roles o r b dead = go (is_text kind) (sym dead.0 ∙ o) b
  where
    none : (set.len roles == 0) ≡ true
    none = ap (λ (x : FinSet nat_cmp). set.len x == 0) (sym r ∙ dead.1) ∙ eq-eqb _ 0 (len-empty nat_cmp)

    go : (t : Bool) → false ≡ not t → (t && (set.len roles == 0)) ≡ false → ⊥
    go true e f = false≢true (sym f ∙ none)
    go false e f = false≢true e

pub bare_len : (b : Bool) (s : FinSet nat_cmp) → IsTrue b ↔ (s ≡ set.empty) → b ≡ (set.len s == 0)
bare_len true s h = let t : IsTrue true = search rules in sym (ap (λ (x : FinSet nat_cmp). set.len x == 0) (h.0 t) ∙ eq-eqb _ 0 (len-empty nat_cmp))
bare_len false s h = sym (ne_eqb (set.len s) 0 (λ e. let t : IsTrue false = h.1 (empty_of_len s e) in search rules))
