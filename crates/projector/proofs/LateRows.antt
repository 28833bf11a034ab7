-- Rows that are made late, one after the other.
use Rattle.std.proofs.Common.{◌≡◌, ℕ, suc, ◌+◌, ◌<◌, max, List, [], ◌∷◌, ◌++◌, add-one, drop, get_or, length, refl, sym, ◌∙◌, ap, subst, inl, inr, arith, Some, None, Option}
use Rattle.std.specs.Prelude.{Result, Ok, Err, OnErr}
use Rattle.std.proofs.Math.Seq.{drop-cons}
use Rattle.std.proofs.lemmas.List.{append-nil, append_assoc, length-append}
use Rattle.gcx_model.specs.Tree.{Node}
use Rattle.gcx_model.specs.Members.{In}
use Rattle.gcx_model.specs.Past.{Past}
use Rattle.tree_laws.proofs.Lists.{In-append, In-left, In-right}
use Rattle.node_store.specs.declared.store.Place.{Place}
use Rattle.buf_tree.specs.Loose.{Passed, Loosely, StandsLoosely, last_open, passed_cell, cells_passed, with_passed}
use Rattle.buf_tree.specs.PassedCalls.{OpenedPassed, RestsLoosely}
use Rattle.buf_tree.specs.Shape.{Cell, CellsRise, num}
use Rattle.buf_tree.specs.View.{View, Innermost, num_in, level_in}
use Rattle.buf_tree.proofs.OpenRows.{row_there}
use Rattle.buf_tree.proofs.OwnPlaces.{rows_rise}
use Rattle.buf_tree.proofs.PassedRows.{open_append, passed_push, places_of, places_length, settles_one}
use Rattle.base_laws.proofs.Members.{in_drop}
use Rattle.projector.specs.declared.passed.PassedName.{PassedName}
use Rattle.projector.specs.Projector.{KeepsPlace}
use Rattle.projector.specs.Opening.{HasInnermost}
use Rattle.projector.specs.Late.{IsShallow, Made, MakesRows, MakesSome, most_late, passed_in, passed_of}
use Rattle.projector.specs.LateRows.{MayMake}
use Rattle.projector.proofs.Places.{none_open}

rising_front : (cs ds : List Cell) → CellsRise (cs ++ ds) → CellsRise cs
rising_front [] ds r = tt
rising_front (c ∷ cs) ds r = (λ y i. r.0 y (In-left y cs ds i), rising_front cs ds r.1)

-- those behind are greater
pub rising_behind : (cs ds : List Cell) → CellsRise (cs ++ ds) → (c : Cell) → In c cs → (d : Cell) → In d ds → num c < num d
rising_behind [] ds r c i d j = absurd i
rising_behind (x ∷ cs) ds r c (inl e) d j = let l = r.0 d (In-right d cs ds j) in let f = ap num e in omega arith
rising_behind (x ∷ cs) ds r c (inr i) d j = rising_behind cs ds r.1 c i d j

-- while a node is open, one of the rows that are there is
pub late_innermost : (v : View) (xs : List Passed) (past : Past) → StandsLoosely xs v past → (a : Node) → past.tree.at ≡ Some a → HasInnermost v.rows
late_innermost v xs past h a e =
    let there = row_there v xs past a h e in
    record { rising = rising_front v.rows _ (rows_rise v xs past h (places_of xs) (places_length xs)).0; place = there.0; innermost = there.1 }

-- no row that is there lies deeper
pub shallow_rows : (v : View) (xs : List Passed) → Loosely IsShallow xs v → IsShallow v
shallow_rows v xs d c i o = d (places_of xs) (places_length xs) c (In-left c v.rows _ i) o

-- ---- one row

module _ (v : View) (x : Passed) (may : MayMake x v) where
  abbrev coming : List Passed
  coming = x ∷ may.rest

  abbrev row : Cell
  row = passed_cell (num_in (last_open v.rows)) (level_in (last_open v.rows)) x.serial x

  among : In row (with_passed (places_of coming) coming v).rows
  among = In-right row v.rows (cells_passed (places_of coming) coming v.rows) (inl refl)

  -- its element is open
  pub made_open : (a : Node) × (may.past.tree.at ≡ Some a)
  made_open = go may.past.tree.at refl
    where
      go : (o : Option Node) → may.past.tree.at ≡ o → (a : Node) × (o ≡ Some a)
      go None e = absurd (none_open (with_passed (places_of coming) coming v) may.past (may.stands (places_of coming) (places_length coming)) e row among refl)
      go (Some a) e = (a, refl)

  pub make_innermost : HasInnermost v.rows
  make_innermost = late_innermost v coming may.past may.stands made_open.0 made_open.1

  pub make_behind : (c : Cell) → In c v.rows → num c < x.serial
  make_behind c i = rising_behind v.rows (cells_passed (places_of coming) coming v.rows) (rows_rise v coming may.past may.stands (places_of coming) (places_length coming)).0 c i row (inl refl)

  pub make_passed : x.serial < v.nodes
  make_passed = (rows_rise v coming may.past may.stands (places_of coming) (places_length coming)).1 row among

-- ---- one after the other

-- with one element more there is one row more
rows_push : (rows : List Cell) (ps : List ℕ) (xs : List Passed) (p : ℕ) (x : Passed) → length ps ≡ length xs
    → rows ++ cells_passed (ps ++ p ∷ []) (xs ++ x ∷ []) rows ≡ (rows ++ cells_passed ps xs rows) ++ cells_passed (p ∷ []) (x ∷ []) (rows ++ cells_passed ps xs rows)
rows_push rows ps xs p x e =
    ap (λ z. rows ++ z) (passed_push (last_open rows) ps xs p x e)
    ∙ sym (append_assoc rows (cells_passed ps xs rows) _)
    ∙ ap (λ o. (rows ++ cells_passed ps xs rows) ++ passed_cell (num_in o) (level_in o) p x ∷ []) (sym (open_append None rows (cells_passed ps xs rows)))

most_push : (xs : List Passed) (x : Passed) (v u w : View) → u.most ≡ most_late xs v u → w.most ≡ max u.most (length u.rows + 1) → length w.rows ≡ length u.rows + 1 → w.most ≡ most_late (xs ++ x ∷ []) v w
most_push [] x v u w e f n = omega arith
most_push (y ∷ ys) x v u w e f n = omega arith

pub made_none : (v : View) → Made [] v v
made_none v = record { places = []; count = refl; rows = sym (append-nil v.rows); gone = refl; waiting = refl; nodes = refl; taken = refl; most = refl; spread = refl }

made_more : (xs : List Passed) (x : Passed) (v u w : View) (p : ℕ) → Made xs v u → OpenedPassed u w p x → Made (xs ++ x ∷ []) v w
made_more xs x v u w p m o = record {
  places = m.places ++ p ∷ [];
  count = length-append m.places (p ∷ []) ∙ ap (λ k. k + 1) m.count ∙ sym (length-append xs (x ∷ []));
  rows = o.rows ∙ ap (λ (rows : List Cell). rows ++ cells_passed (p ∷ []) (x ∷ []) rows) m.rows ∙ sym (rows_push v.rows m.places xs p x m.count);
  gone = o.gone ∙ m.gone;
  waiting = o.waiting ∙ m.waiting;
  nodes = o.nodes ∙ m.nodes;
  taken = o.taken ∙ m.taken;
  most = most_push xs x v u w m.most o.most (ap length o.rows ∙ length-append u.rows _);
  spread = o.spread ∙ m.spread;
}

-- Of all the elements these are left, and the place kept is that of the innermost open row.
pub record Making (all left : List Passed) (v w : View) (at : Option Place) : Type 0 where
  pub made : List Passed
  pub split : all ≡ made ++ left
  pub makes : MakesRows made left v w
  pub place : KeepsPlace at w.rows
  pub shallow : Loosely IsShallow left w

next : (xs : List PassedName) (k : ℕ) → k < length xs → drop k xs ≡ get_or xs k (record { from = 0; to = 0; serial = 0 }) ∷ drop (k + 1) xs
next xs k low = drop-cons xs k (record { from = 0; to = 0; serial = 0 }) low ∙ ap (λ i. get_or xs k (record { from = 0; to = 0; serial = 0 }) ∷ drop i xs) (sym (add-one k))

pub making_none : (xs : List Passed) (v : View) (at : Option Place) → KeepsPlace at v.rows → Loosely IsShallow xs v → Making xs xs v v at
making_none xs v at k d = record { made = []; split = refl; makes = record { rows = made_none v; rests = λ past h. h }; place = k; shallow = d }

-- the row that was made is the innermost open one
new_innermost_row : (u w : View) (p : ℕ) (x : Passed) → ((c : Cell) → In c u.rows → num c < x.serial) → OpenedPassed u w p x → Innermost w.rows p
new_innermost_row u w p x behind o = subst (λ (rows : List Cell). Innermost rows p) (sym o.rows) (record {
  cell = c;
  among = In-right c u.rows (c ∷ []) (inl refl);
  place = refl;
  is_open = refl;
  last = λ d i s. elim (In-append d u.rows (c ∷ []) i) [
    | inl j ↦ (let l = behind d j in omega arith)
    | inr j ↦ elim j [ inl e ↦ (let f = ap num e in omega arith) | inr z ↦ absurd z ]
  ];
})
  where
    c : Cell
    c = passed_cell (num_in (last_open u.rows)) (level_in (last_open u.rows)) p x

-- the others lie no deeper than before
shallow_rest : (x : Passed) (left : List Passed) (u w : View) (p : ℕ) → OpenedPassed u w p x → Loosely IsShallow (x ∷ left) u → Loosely IsShallow left w
shallow_rest x left u w p o d places e c i s = d (p ∷ places) (ap suc e) c (subst (λ (rows : List Cell). In c rows) same i) s
  where
    same : (with_passed places left w).rows ≡ (with_passed (p ∷ places) (x ∷ left) u).rows
    same = ap (λ (rows : List Cell). rows ++ cells_passed places left rows) o.rows ∙ ap (λ (z : View). z.rows) (sym (settles_one u x left p places))

pub making_more : (all : List Passed) (x : Passed) (left : List Passed) (v u w : View) (at : Option Place) (p : Place) → Making all (x ∷ left) v u at → ((c : Cell) → In c u.rows → num c < x.serial)
    → OpenedPassed u w p.0 x → RestsLoosely u w x → Making all left v w (Some p)
making_more all x left v u w at p m behind o rests = record {
  made = m.made ++ x ∷ [];
  split = m.split ∙ sym (append_assoc m.made (x ∷ []) left);
  makes = record {
    rows = made_more m.made x v u w p.0 m.makes.rows o;
    rests = λ past h. rests left past (m.makes.rests past (subst (λ (xs : List Passed). StandsLoosely xs v past) (append_assoc m.made (x ∷ []) left) h));
  };
  place = new_innermost_row u w p.0 x behind o;
  shallow = shallow_rest x left u w p.0 o m.shallow;
}

-- the next one is the first of those that are left
pub making_next : (bytes : List ℕ) (xs : List PassedName) (k : ℕ) (v w : View) (at : Option Place) → k < length xs → Making (passed_in bytes xs) (passed_in bytes (drop k xs)) v w at
    → Making (passed_in bytes xs) (passed_of bytes (get_or xs k (record { from = 0; to = 0; serial = 0 })) ∷ passed_in bytes (drop (k + 1) xs)) v w at
making_next bytes xs k v w at low m = subst (λ (ys : List PassedName). Making (passed_in bytes xs) (passed_in bytes ys) v w at) (next xs k low) m

pub next_among : (xs : List PassedName) (k : ℕ) → k < length xs → In (get_or xs k (record { from = 0; to = 0; serial = 0 })) xs
next_among xs k low =
    let x : PassedName = get_or xs k (record { from = 0; to = 0; serial = 0 }) in
    in_drop k x xs (subst (λ (ys : List PassedName). In x ys) (sym (next xs k low)) (inl refl))

-- it may be made
pub making_may : (all : List Passed) (x : Passed) (left : List Passed) (v u : View) (at : Option Place) (past : Past) → StandsLoosely all v past → Making all (x ∷ left) v u at → MayMake x u
making_may all x left v u at past h m = record {
  rest = left;
  past = past;
  stands = m.makes.rests past (subst (λ (xs : List Passed). StandsLoosely xs v past) m.split h);
  shallow = m.shallow;
}

pub making_some : (all left : List Passed) (v w : View) (at : Option Place) → Making all left v w at → MakesSome all v w
making_some all left v w at m = record { made = m.made; left = left; split = m.split; makes = m.makes }

pub making_all : (all : List Passed) (v w : View) (at : Option Place) → Making all [] v w at → MakesRows all [] v w
making_all all v w at m = subst (λ (xs : List Passed). MakesRows xs [] v w) (sym (m.split ∙ append-nil m.made)) m.makes

-- no row lies deeper then
pub made_shallow : (xs : List Passed) (v w : View) → Made xs v w → Loosely IsShallow xs v → IsShallow w
made_shallow xs v w m d c i o = d m.places m.count c (subst (λ (rows : List Cell). In c rows) m.rows i) o

-- what holds holds behind an error
pub err_holds : {A E P : Type 0} (r : Result A E) → P → OnErr r P
err_holds (Ok a) p = tt
err_holds (Err e) p = p

-- nothing is made, or all
pub makes_none : (xs : List Passed) (v : View) → MakesSome xs v v
makes_none xs v = record { made = []; left = xs; split = refl; makes = record { rows = made_none v; rests = λ past h. h } }

pub makes_all : (xs : List Passed) (v w : View) → MakesRows xs [] v w → MakesSome xs v w
makes_all xs v w m = record { made = xs; left = []; split = sym (append-nil xs); makes = m }
