-- Rows that stand for a past, each at the place of its own serial: what is seen of them is the same, and no two have one place.
use Rattle.std.proofs.Common.{◌≡◌, ◌<◌, ◌≤◌, Bool, true, false, cond, List, [], ◌∷◌, map, refl, sym, ◌∙◌, ap, subst, inl, inr, ◌⊎◌, arith, Some, None}
use Rattle.std.proofs.lemmas.Bool.{false≢true, eq-eqb, ne_eqb}
use Rattle.gcx_model.specs.Tree.{Node, serial_of, is_open_at}
use Rattle.gcx_model.specs.Nodes.{Rising as RisingNodes}
use Rattle.gcx_model.specs.Held.{held, is_held}
use Rattle.gcx_model.specs.Past.{Past}
use Rattle.base_laws.proofs.Lists.{nil_cons, cons_head, cons_tail}
use Rattle.base_laws.proofs.Members.{in_map, from_map}
use Rattle.tree_laws.proofs.Lists.{In, In-filter}
use Rattle.tree_laws.proofs.Matches.{Numbered-high, Rising-filter}
use Rattle.tree_laws.proofs.Freeze.{within_self}
use Rattle.past_laws.proofs.Bases.{is_grown}
use Rattle.buf_tree.specs.Shape.{Cell, num, CellsRise, at_place}
use Rattle.buf_tree.specs.View.{View, Innermost}
use Rattle.buf_tree.specs.Stands.{Seen, seen, told, StandsFor}
use Rattle.buf_tree.specs.Loose.{open_among, last_open, with_passed, LastIsInnermost, RowsRise}
use Rattle.buf_tree.proofs.Shaping.{rising_same}
use Rattle.buf_tree.proofs.Changes.{map-map}
use Rattle.buf_tree.proofs.Standing.{pair_left}
use Rattle.buf_tree.proofs.Feeding.{at_held}

rising_seen : (past : Past) (cs : List Cell) (ns : List Node) → map seen cs ≡ map (told past) ns → RisingNodes ns → CellsRise cs
rising_seen past [] ns e r = tt
rising_seen past (c ∷ cs) [] e r = absurd (nil_cons (seen c) (map seen cs) (sym e))
rising_seen past (c ∷ cs) (n ∷ ns) e r = (low, rising_seen past cs ns (cons_tail _ _ _ _ e) r.1)
  where
    low : (d : Cell) → In d cs → num c < num d
    low d i =
        let q = pair_left seen (told past) cs ns (cons_tail _ _ _ _ e) d i in
        let l = r.0 q.0 q.1 in
        let f : num c ≡ serial_of n = ap (λ (s : Seen). s.serial) (cons_head _ _ _ _ e) in
        let g : num d ≡ serial_of q.0 = ap (λ (s : Seen). s.serial) q.2 in
        omega arith

-- the rows of a view that stands for a past are in document order
pub rising_rows : (v : View) (past : Past) → StandsFor v past → CellsRise v.rows
rising_rows v past h = rising_seen past v.rows (held past.plan past.tree past.acts) h.rows (Rising-filter 0 (is_held past.plan past.tree past.acts) past.tree.nodes (is_grown past h.is_past).numbered)

-- the last open row is the greatest of the open ones
abbrev pub LastOpen : List Cell → Cell → Type 0
LastOpen cs c = In c cs × (c.row.is_open ≡ true) × ((d : Cell) → In d cs → d.row.is_open ≡ true → num d ≤ num c)

abbrev Some_open : List Cell → Cell → Type 0
Some_open cs c = (e : Cell) × (open_among (Some c) cs ≡ Some e) × ((c ≡ e) ⊎ In e cs) × (e.row.is_open ≡ true) × (num c ≤ num e) × ((d : Cell) → In d cs → d.row.is_open ≡ true → num d ≤ num e)

open_some : (cs : List Cell) → CellsRise cs → (c : Cell) → c.row.is_open ≡ true → ((d : Cell) → In d cs → num c < num d) → Some_open cs c
open_some [] r c o l = (c, refl, inl refl, o, omega arith, λ d i. absurd i)
open_some (x ∷ cs) r c o l = go x.row.is_open refl (λ f. open_some cs r.1 x f r.0) (open_some cs r.1 c o (λ d i. l d (inr i)))
  where
    go : (b : Bool) → x.row.is_open ≡ b → (x.row.is_open ≡ true → Some_open cs x) → Some_open cs c
        → (e : Cell) × (open_among (cond b (Some x) (Some c)) cs ≡ Some e) × ((c ≡ e) ⊎ In e (x ∷ cs)) × (e.row.is_open ≡ true) × (num c ≤ num e) × ((d : Cell) → In d (x ∷ cs) → d.row.is_open ≡ true → num d ≤ num e)
    go true f k m =
        let q = k f in
        let l0 = l x (inl refl) in
        let l1 = q.4 in
        (q.0, q.1, inr q.2, q.3, omega arith, λ d i p. elim i [ inl g ↦ (let z = ap num g in omega arith) | inr j ↦ q.5 d j p ])
    go false f k q =
        (q.0, q.1, elim q.2 [ inl g ↦ inl g | inr i ↦ inr (inr i) ], q.3, q.4, λ d i p. elim i [ inl g ↦ absurd (false≢true (sym f ∙ ap (λ (z : Cell). z.row.is_open) g ∙ p)) | inr j ↦ q.5 d j p ])

pub open_last : (cs : List Cell) → CellsRise cs → (d : Cell) → In d cs → d.row.is_open ≡ true → (e : Cell) × (last_open cs ≡ Some e) × LastOpen cs e
open_last [] r d i o = absurd i
open_last (x ∷ cs) r d i o = go x.row.is_open refl (λ j. open_last cs r.1 d j o)
  where
    go : (b : Bool) → x.row.is_open ≡ b → (In d cs → (e : Cell) × (last_open cs ≡ Some e) × LastOpen cs e) → (e : Cell) × (open_among (cond b (Some x) None) cs ≡ Some e) × LastOpen (x ∷ cs) e
    go true f k =
        let q = open_some cs r.1 x f r.0 in
        let l1 = q.4 in
        (q.0, q.1, (q.2, q.3, λ c j p. elim j [ inl g ↦ (let z = ap num g in omega arith) | inr k ↦ q.5 c k p ]))
    go false f k = elim i [
      | inl g ↦ absurd (false≢true (sym f ∙ ap (λ (z : Cell). z.row.is_open) g ∙ o))
      | inr j ↦ (
          let q = k j in
          (q.0, q.1, (inr q.2.0, q.2.1, λ c n p. elim n [ inl g ↦ absurd (false≢true (sym f ∙ ap (λ (z : Cell). z.row.is_open) g ∙ p)) | inr m ↦ q.2.2 c m p ])))
    ]

pub last_is_innermost : LastIsInnermost
last_is_innermost cs q r i =
    let e = open_last cs r i.cell i.among i.is_open in
    let up = i.last e.0 e.2.0 e.2.1 in
    let down = e.2.2 i.cell i.among i.is_open in
    e.1 ∙ ap (λ c. Some c) (rising_same cs r e.0 i.cell e.2.0 i.among (omega arith))

-- the serial of no row is that of the next node
pub rows_low : (v : View) (past : Past) → StandsFor v past → (c : Cell) → In c v.rows → num c < v.nodes
rows_low v past h c i =
    let r = pair_left seen (told past) v.rows (held past.plan past.tree past.acts) h.rows c i in
    let l = Numbered-high 0 past.tree.nodes (is_grown past h.is_past).numbered r.0 (In-filter (is_held past.plan past.tree past.acts) r.0 past.tree.nodes r.1).0 in
    let f : num c ≡ serial_of r.0 = ap (λ (s : Seen). s.serial) r.2 in
    let n = h.nodes in
    omega arith

pub rows_rise : RowsRise
rows_rise v xs past h ps e = (rising_rows (with_passed ps xs v) past (h ps e), rows_low (with_passed ps xs v) past (h ps e))

-- the row at the place of its own serial
abbrev pub own_place : Cell → Cell
own_place c = record { place = num c; row = c.row }

abbrev pub flat : View → View
flat v = record v { rows = map own_place v.rows }

pub flat_seen : (cs : List Cell) → map seen (map own_place cs) ≡ map seen cs
flat_seen cs = map-map own_place seen cs

pub flat_stands : (v : View) (past : Past) → StandsFor v past → StandsFor (flat v) past
flat_stands v past h = record { is_past = h.is_past; spread = h.spread; rows = flat_seen v.rows ∙ h.rows; kept = h.kept; waiting = h.waiting; nodes = h.nodes }

pub own_found : (cs : List Cell) → CellsRise cs → (c : Cell) → In c cs → at_place (num c) (map own_place cs) ≡ Some (own_place c)
own_found [] r c i = absurd i
own_found (x ∷ cs) r c (inl e) = ap (λ b. cond b (Some (own_place x)) (at_place (num c) (map own_place cs))) (eq-eqb (num x) (num c) (ap num e)) ∙ ap (λ z. Some (own_place z)) e
own_found (x ∷ cs) r c (inr i) = ap (λ b. cond b (Some (own_place x)) (at_place (num c) (map own_place cs))) (ne_eqb (num x) (num c) (λ e. let l = r.0 c i in absurd (omega arith))) ∙ own_found cs r.1 c i

-- Where a node is open, the last open row is there, and is that of the innermost open node.
module _ (v : View) (past : Past) (h : StandsFor v past) (a : Node) (at : past.tree.at ≡ Some a) where
  pub top_row : (e : Cell) × (last_open v.rows ≡ Some e) × LastOpen v.rows e
  top_row =
      let q = pair_left (told past) seen (held past.plan past.tree past.acts) v.rows (sym h.rows) a (at_held past h.is_past a at) in
      open_last v.rows (rising_rows v past h) q.0 q.1 (sym (ap (λ (s : Seen). s.is_open) q.2) ∙ subst (λ o. is_open_at o (serial_of a) ≡ true) (sym at) (within_self (serial_of a) a (eq-eqb _ _ refl)))

  pub inner : Innermost (flat v).rows (num top_row.0)
  inner = record {
    cell = own_place top_row.0;
    among = in_map own_place top_row.0 v.rows top_row.2.0;
    place = refl;
    is_open = top_row.2.1;
    last = λ d i o. let q = from_map own_place d v.rows i in let l = top_row.2.2 q.0 q.1 (ap (λ (z : Cell). z.row.is_open) q.2 ∙ o) in let z = ap num q.2 in omega arith;
  }

  pub found_own : at_place (num top_row.0) (flat v).rows ≡ Some (own_place top_row.0)
  found_own = own_found v.rows (rising_rows v past h) top_row.0 top_row.2.0

  pub found : at_place (num top_row.0) (flat v).rows ≡ Some inner.cell
  unfolding inner
  found = found_own
