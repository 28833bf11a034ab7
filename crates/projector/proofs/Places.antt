-- The places of open nodes in the rows of a buffer.
use Rattle.std.proofs.Common.{◌≡◌, ◌==◌, ℕ, ◌≤◌, ◌<◌, Bool, true, false, cond, not, List, [], ◌∷◌, ◌++◌, map, refl, sym, ◌∙◌, ap, subst, inl, inr, ◌⊎◌, arith, Some, None, Option}
use Rattle.std.specs.Prelude.{option_map, IfSome}
use Rattle.std.proofs.lemmas.Bool.{true≢false, false≢true, eq-eqb, ne_eqb}
use Rattle.gcx_base.specs.declared.kind.Kind.{Kind}
use Rattle.gcx_base.specs.declared.ids.Role.{Role}
use Rattle.gcx_model.specs.Tree.{Node, Root, Under, serial_of, Tree, End, grow, grow_at, is_open_at}
use Rattle.gcx_model.specs.Members.{In}
use Rattle.gcx_model.specs.Paths.{head}
use Rattle.gcx_model.specs.Nodes.{Grown, Rising as NodesRise}
use Rattle.gcx_model.specs.Growth.{level}
use Rattle.gcx_model.specs.Held.{is_held, held}
use Rattle.gcx_model.specs.Past.{Past, past_fed}
use Rattle.tree_laws.proofs.Lists.{In-filter, In-kept, In-append, In-left, In-right}
use Rattle.tree_laws.proofs.Matches.{Numbered-high, Numbered-same, Rising-filter}
use Rattle.tree_laws.proofs.Freeze.{within_self}
use Rattle.past_laws.proofs.Bases.{is_grown}
use Rattle.past_laws.proofs.Awaited.{within_low}
use Rattle.node_store.specs.declared.store.Place.{Place}
use Rattle.gcx_base.specs.Kinds.{is_text}
use Rattle.base_laws.proofs.Members.{from_map}
use Rattle.buf_tree.specs.Rows.{shut_row}
use Rattle.buf_tree.specs.Shape.{Cell, num, CellsRise, at_place, at_serial, place_for, with_at}
use Rattle.buf_tree.specs.Purge.{is_gone}
use Rattle.buf_tree.specs.View.{View, Innermost, num_in, level_in, serial_at}
use Rattle.buf_tree.specs.Calls.{Started, Closed, new_row, with_new}
use Rattle.buf_tree.specs.Stands.{Seen, seen, told, StandsFor}
use Rattle.buf_tree.proofs.Shaping.{rising_same, at_place_is, at_serial_is}
use Rattle.buf_tree.proofs.Standing.{pair_left, held_up, parent_told}
use Rattle.buf_tree.proofs.Feeding.{at_held, top_is}
use Rattle.projector.specs.Opening.{HasInnermost}
use Rattle.projector.specs.Projector.{KeepsPlace}

-- a row has the number of its node
serial_told : (past : Past) (c : Cell) (n : Node) → seen c ≡ told past n → num c ≡ serial_of n
serial_told past c n e = ap (λ (s : Seen). s.serial) e

-- rows rise as their nodes do
rise_rows : (past : Past) (xs : List Cell) (ns : List Node) → map seen xs ≡ map (told past) ns → NodesRise ns → CellsRise xs
rise_rows past [] ns e r = tt
rise_rows past (x ∷ xs) [] e r = absurd (cc)
rise_rows past (x ∷ xs) (n ∷ ns) e r =
    let top : seen x ≡ told past n = cc in
    let rest : map seen xs ≡ map (told past) ns = cc in (
      (λ y i.
          let q = pair_left seen (told past) xs ns rest y i in
          let l = r.0 q.0 q.1 in
          let a = serial_told past x n top in
          let b = serial_told past y q.0 q.2 in
          omega arith),
      rise_rows past xs ns rest r.1,
    )

module _ (v : View) (past : Past) (h : StandsFor v past) where
  abbrev P : Tree
  P = past.tree

  w : Grown past.tree
  w = is_grown past h.is_past

  pub rising : CellsRise v.rows
  rising = rise_rows past v.rows (held past.plan P past.acts) h.rows (Rising-filter 0 (is_held past.plan P past.acts) P.nodes w.numbered)

  -- the node of a row
  node_of : (c : Cell) → In c v.rows → (n : Node) × In n past.tree.nodes × (seen c ≡ told past n)
  node_of c i =
      let r = pair_left seen (told past) v.rows (held past.plan P past.acts) h.rows c i in
      (r.0, (In-filter (is_held past.plan P past.acts) r.0 P.nodes r.1).0, r.2)

  pub below_nodes : (c : Cell) → In c v.rows → num c < v.nodes
  below_nodes c i =
      let r = node_of c i in
      let l = Numbered-high 0 P.nodes w.numbered r.0 r.1 in
      let e = serial_told past c r.0 r.2 in
      let n = h.nodes in
      omega arith

  -- the row of a held node
  row_for : (n : Node) → In n (held past.plan past.tree past.acts) → (c : Cell) × In c v.rows × (told past n ≡ seen c)
  row_for = pair_left (told past) seen (held past.plan P past.acts) v.rows (sym h.rows)

  pub none_open : past.tree.at ≡ None → (c : Cell) → In c v.rows → c.row.is_open ≡ true → ⊥
  none_open e c i o =
      let r = node_of c i in
      false≢true (sym (ap (λ z. is_open_at z (serial_of r.0)) e) ∙ (sym (ap (λ (s : Seen). s.is_open) r.2) ∙ o))

  module _ (a : Node) (e : past.tree.at ≡ Some a) where
    open_now : is_open_at past.tree.at (serial_of a) ≡ true
    open_now = ap (λ z. is_open_at z (serial_of a)) e ∙ within_self (serial_of a) a (eq-eqb _ _ refl)

    -- the innermost open node has a row
    pub open_row : (c : Cell) × In c v.rows × (num c ≡ serial_of a) × (c.row.is_open ≡ true)
    open_row =
        let r = row_for a (at_held past h.is_past a e) in
        (r.0, r.1, sym (ap (λ (s : Seen). s.serial) r.2), sym (ap (λ (s : Seen). s.is_open) r.2) ∙ open_now)

    -- no deeper than rows of open nodes are
    pub shallow : ((c : Cell) → In c v.rows → c.row.is_open ≡ true → c.row.level ≤ 1000) → level a ≤ 1000
    shallow d =
        let r = row_for a (at_held past h.is_past a e) in
        let l = d r.0 r.1 (sym (ap (λ (s : Seen). s.is_open) r.2) ∙ open_now) in
        subst (λ (z : ℕ). z ≤ 1000) (sym (ap (λ (s : Seen). s.level) r.2)) l

    -- and that is the innermost one
    pub innermost_at : (c : Cell) → In c v.rows → num c ≡ serial_of a → Innermost v.rows c.place
    innermost_at c i s = record {
      cell = c;
      among = i;
      place = refl;
      is_open = (let q = open_row in subst (λ (z : Cell). z.row.is_open ≡ true) (rising_same v.rows rising q.0 c q.1 i (q.2 ∙ sym s)) q.3);
      last = λ d j o.
          let r = node_of d j in
          let b : is_open_at (Some a) (serial_of r.0) ≡ true = sym (ap (λ z. is_open_at z (serial_of r.0)) e) ∙ (sym (ap (λ (s : Seen). s.is_open) r.2) ∙ o) in
          let l = within_low P w (serial_of r.0) a (w.at_in a e) b in
          let f = serial_told past d r.0 r.2 in
          omega arith;
    }

  -- the parent's row, if the innermost open node has one
  abbrev pub Up : Option ℕ → Type 0
  Up o = ((past.tree.at ≡ Some Root) × (o ≡ None))
      ⊎ ((p : Node) × (s : ℕ) × (k : Kind) × (past.tree.at ≡ Some (Under p s k)) × (c : Cell) × In c v.rows × (num c ≡ serial_of p) × (o ≡ Some c.place))

  pub up_from : (q : ℕ) → (i : Innermost v.rows q) → Up (place_for v.rows i.cell.row)
  up_from q i =
      let t = top_is v past q h i in
      let r = node_of i.cell i.among in
      let same : r.0 ≡ t.0 = Numbered-same 0 P.nodes w.numbered r.0 t.0 r.1 (w.at_in t.0 t.1) (sym (ap (λ (s : Seen). s.serial) r.2) ∙ sym t.2) in
      go t.0 t.1 t.2 (r.2 ∙ ap (told past) same)
    where
      go : (a : Node) → past.tree.at ≡ Some a → serial_of a ≡ num i.cell → seen i.cell ≡ told past a → Up (place_for v.rows i.cell.row)
      go Root e s f = inl (e, ap (λ b. cond b None (option_map (λ (c : Cell). c.place) (at_serial i.cell.row.parent v.rows))) (eq-eqb (num i.cell) 0 (sym s)))
      go (Under p s k) e n f =
          let inside = w.at_in (Under p s k) e in
          let low = w.below p s k inside in
          let parent : i.cell.row.parent ≡ serial_of p = parent_told i.cell.row p s k (λ z. absurd (omega arith)) (sym n) (ap (λ (z : Seen). z.parent) f) in
          let keeps = (In-filter (is_held past.plan P past.acts) (Under p s k) P.nodes (at_held past h.is_past (Under p s k) e)).1 in
          let up = In-kept (is_held past.plan P past.acts) p P.nodes (w.upward p s k inside) (held_up past w p s k inside keeps) in
          let c = row_for p up in
          let num_is : num c.0 ≡ serial_of p = sym (ap (λ (z : Seen). z.serial) c.2) in
          inr (
            p,
            s,
            k,
            e,
            c.0,
            c.1,
            num_is,
            ap (λ b. cond b None (option_map (λ (c : Cell). c.place) (at_serial i.cell.row.parent v.rows))) (ne_eqb (num i.cell) 0 (λ z. absurd (omega arith)))
                ∙ ap (option_map (λ (c : Cell). c.place)) (at_serial_is v.rows rising c.0 i.cell.row.parent c.1 (num_is ∙ sym parent)),
          )

-- what the rows tell of the row at a place
pub level_is : (xs : List Cell) → ((a b : Cell) → In a xs → In b xs → a.place ≡ b.place → a ≡ b) → (q : ℕ) → Innermost xs q → ((c : Cell) → In c xs → c.row.is_open ≡ true → c.row.level ≤ 1000) → level_in (at_place q xs) ≤ 1000
level_is xs apart q i d = subst (λ (o : Option Cell). level_in o ≤ 1000) (sym (ap (λ p. at_place p xs) (sym i.place) ∙ at_place_is xs apart i.cell i.among)) (d i.cell i.among i.is_open)

pub serial_is : (xs : List Cell) → ((a b : Cell) → In a xs → In b xs → a.place ≡ b.place → a ≡ b) → (c : Cell) → In c xs → (q : ℕ) → c.place ≡ q → serial_at q xs ≡ num c
serial_is xs apart c i q e = ap (λ (o : Option Cell). num_in o) (ap (λ p. at_place p xs) (sym e) ∙ at_place_is xs apart c i)

-- the first row is that of the document node
pub first_row : (xs : List Cell) → CellsRise xs → (c : Cell) → In c xs → num c ≡ 0 → head xs ≡ Some c
first_row [] r c i z = absurd i
first_row (x ∷ xs) r c (inl e) z = ap (λ y. Some y) e
first_row (x ∷ xs) r c (inr i) z = let l = r.0 c i in absurd (omega arith)

-- while a node is open, a row is
pub has_innermost : (v : View) (past : Past) → StandsFor v past → (a : Node) → past.tree.at ≡ Some a → HasInnermost v.rows
has_innermost v past h a e =
    let q = open_row v past h a e in
    record { rising = rising v past h; place = q.0.place; innermost = innermost_at v past h a e q.0 q.1 q.2 }

-- where no place is kept, the document node is the innermost open one
pub root_innermost : (rows : List Cell) → (i : HasInnermost rows) → KeepsPlace None rows → (head rows ≡ Some i.innermost.cell) × Innermost rows i.innermost.cell.place
root_innermost rows i k =
    let c = i.innermost.cell in (
      first_row rows i.rising c i.innermost.among (k c i.innermost.among i.innermost.is_open),
      record { cell = c; among = i.innermost.among; place = refl; is_open = i.innermost.is_open; last = i.innermost.last },
    )

-- ---- behind a token

-- a new element is the innermost open node
pub element_place : (v : View) (q p : ℕ) (kind : Kind) (given ahead : List Role) → is_text kind ≡ false → ((c : Cell) → In c v.rows → num c < v.nodes) → Innermost (v.rows ++ record { place = p; row = new_row v q kind given ahead } ∷ []) p
element_place v q p kind given ahead t low = record {
  cell = record { place = p; row = new_row v q kind given ahead };
  among = In-right (record { place = p; row = new_row v q kind given ahead }) v.rows _ (inl refl);
  place = refl;
  is_open = ap not t;
  last = λ d i o. elim (In-append d v.rows (record { place = p; row = new_row v q kind given ahead } ∷ []) i) [
    | inl j ↦ (let l = low d j in omega arith)
    | inr j ↦ elim j [ inl e ↦ (let f = ap num e in omega arith) | inr k ↦ absurd k ]
  ];
}

-- a text leaves the place as it was
pub text_place : (kept : Option Place) (v : View) (q : ℕ) (at : Option ℕ) (kind : Kind) (given ahead : List Role) → is_text kind ≡ true → KeepsPlace kept v.rows → KeepsPlace kept (with_new at (new_row v q kind given ahead) v.rows)
text_place kept v q None kind given ahead t k = k
text_place (Some r) v q (Some p) kind given ahead t k = record {
  cell = k.cell;
  among = In-left k.cell v.rows _ k.among;
  place = k.place;
  is_open = k.is_open;
  last = λ d i o. elim (In-append d v.rows (record { place = p; row = new_row v q kind given ahead } ∷ []) i) [
    | inl j ↦ k.last d j o
    | inr j ↦ elim j [ inl e ↦ absurd (true≢false (sym o ∙ sym (ap (λ (c : Cell). c.row.is_open) e) ∙ ap not t)) | inr z ↦ absurd z ]
  ];
}
text_place None v q (Some p) kind given ahead t k = λ d i o. elim (In-append d v.rows (record { place = p; row = new_row v q kind given ahead } ∷ []) i) [
  | inl j ↦ k d j o
  | inr j ↦ elim j [ inl e ↦ absurd (true≢false (sym o ∙ sym (ap (λ (c : Cell). c.row.is_open) e) ∙ ap not t)) | inr z ↦ absurd z ]
]

shut_same : (q : ℕ) (c : Cell) → ((with_at shut_row q c).place ≡ c.place) × (num (with_at shut_row q c) ≡ num c)
shut_same q c = go (c.place == q)
  where
    go : (b : Bool) → ((cond b (record { place = c.place; row = shut_row c.row }) c).place ≡ c.place) × (num (cond b (record { place = c.place; row = shut_row c.row }) c) ≡ num c)
    go true = (refl, refl)
    go false = (refl, refl)

-- a row that is there behind the end was there before, at its place
was_there : (v u : View) (q : ℕ) → Closed v u q → (c : Cell) → In c u.rows → (d : Cell) × In d v.rows × (d.place ≡ c.place) × (num d ≡ num c)
was_there v u q k c i =
    let j = (In-filter (λ (c : Cell). not (is_gone k.leaves.left c)) c (map (with_at shut_row q) v.rows) (subst (λ (z : List Cell). In c z) k.leaves.purged.leaves.rows i)).0 in
    let r = from_map (with_at shut_row q) c v.rows j in
    let s = shut_same q r.0 in
    (r.0, r.1, sym s.0 ∙ ap (λ (c : Cell). c.place) r.2, sym s.1 ∙ ap num r.2)

-- the end goes up to the parent
pub up_place : (v v' u : View) (q : ℕ) → v'.rows ≡ v.rows → Closed v' u q → (past : Past) → (h : StandsFor v past) → StandsFor u (past_fed End past) → (o : Option Place) → Up v past h (option_map (λ (p : Place). p.0) o) → KeepsPlace o u.rows
up_place v v' u q b k past h g None (inl t) = λ c i x. absurd (none_open u (past_fed End past) g (ap (λ z. (grow_at z End past.tree).at) t.0) c i x)
up_place v v' u q b k past h g (Some p) (inl t) = let e = t.1 in absurd (cc)
up_place v v' u q b k past h g None (inr (p, s, kind, e, c, i, n, f)) = absurd (cc)
up_place v v' u q b k past h g (Some pl) (inr (p, s, kind, e, c, i, n, f)) =
    let at : (grow End past.tree).at ≡ Some p = ap (λ z. (grow_at z End past.tree).at) e in
    let r = open_row u (past_fed End past) g p at in
    let d = was_there v' u q k r.0 r.1 in
    let same : d.0 ≡ c = rising_same v.rows (rising v past h) d.0 c (subst (λ (zs : List Cell). In d.0 zs) b d.1) i (d.3 ∙ (r.2 ∙ sym n)) in
    let here : r.0.place ≡ pl.0 = (let z : pl.0 ≡ c.place = cc in sym d.2 ∙ (ap (λ (x : Cell). x.place) same ∙ sym z)) in
    subst (λ (z : ℕ). Innermost u.rows z) here (innermost_at u (past_fed End past) g p at r.0 r.1 r.2)

-- the kept place, or the root's, is the innermost open node's
pub kept_innermost : (rows : List Cell) → HasInnermost rows → (kept : Option Place) → KeepsPlace kept rows → (p : Place) → (kept ≡ Some p) ⊎ ((kept ≡ None) × IfSome (head rows) (λ (c : Cell). c.place ≡ p.0)) → Innermost rows p.0
kept_innermost rows i kept k p (inl f) = subst (λ (o : Option Place). KeepsPlace o rows) f k
kept_innermost rows i kept k p (inr f) =
    let r = root_innermost rows i (subst (λ (o : Option Place). KeepsPlace o rows) f.0 k) in
    let s : i.innermost.cell.place ≡ p.0 = subst (λ (o : Option Cell). IfSome o (λ (c : Cell). c.place ≡ p.0)) r.0 f.1 in
    subst (λ (z : ℕ). Innermost rows z) s r.1

-- in a new buffer the document node alone is open
pub started_place : (v : View) (given : List Role) → Started v given → KeepsPlace None v.rows
started_place v given s = λ c i o. elim (subst (λ (xs : List Cell). In c xs) s.row.1 i) [ inl e ↦ sym (ap num e) | inr j ↦ absurd j ]
