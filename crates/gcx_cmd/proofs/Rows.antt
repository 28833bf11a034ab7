-- The rows of a store that a buffer gave back.
use Rattle.std.proofs.Common.{◌≡◌, ◌==◌, ℕ, Bool, true, false, cond, List, [], ◌∷◌, length, map, filter, Option, Some, None, refl, sym, ◌∙◌, ap, subst, inl, inr}
use Rattle.std.specs.Prelude.{option_map, option_and_then}
use Rattle.std.specs.Ordering.{nat_cmp}
use Rattle.std.specs.Cmp.{nat_cmp_total}
use Rattle.std.specs.FinMap.{empty, get, get-empty, same_map, nat_cmp-IsAntisymmetric}
use Rattle.std.specs.FinSet as set
use Rattle.std.proofs.lemmas.Bool.{false≢true, eq-eqb}
use Rattle.std.proofs.lemmas.List.{length-map}
use Rattle.node_store.specs.Rows.{StoreRow}
use Rattle.tree_laws.proofs.Lists.{In, In-filter}
use Rattle.gcx_model.specs.Tree.{Node, Tree}
use Rattle.gcx_model.specs.Past.{Past}
use Rattle.buf_tree.specs.Row.{Row}
use Rattle.buf_tree.specs.Shape.{Store, Cell, num, CellsRise, at_serial, place_for, is_under, entry_in, Shape}
use Rattle.buf_tree.specs.Spread.{SameButRoles, bare_cell}
use Rattle.buf_tree.specs.Stands.{Seen, seen, told, parent_seen}
use Rattle.buf_tree.specs.View.{View}
use Rattle.buf_tree.proofs.Changes.{map-map}
use Rattle.buf_tree.proofs.Shaping.{at_place_is, at_serial_is, held_in, rows_number}
use Rattle.buf_tree.proofs.Standing.{pair_left}
use Rattle.gcx_cmd.specs.Running.{serial_in, serials_in, AreRising, Shows, RowsAre}

-- the store holds the rows as they are kept
abbrev pub HasRows : Store → View → Type 0
HasRows m v = Shape m v.kept × SameButRoles v.kept v.rows

-- what a row tells beside its roles
abbrev bare : Seen → Seen
bare s = record s { roles = set.empty; covered = false }

abbrev bare_seen : Cell → Seen
bare_seen c = seen (bare_cell c)

abbrev bare_told : Past → Node → Seen
bare_told past n = bare (told past n)

-- the rows kept tell it of the same nodes
kept_tell : (past : Past) (v : View) (ns : List Node) → SameButRoles v.kept v.rows → map seen v.rows ≡ map (told past) ns → map bare_seen v.kept ≡ map (bare_told past) ns
kept_tell past v ns same e =
    sym (map-map bare_cell seen v.kept)
    ∙ (ap (map seen) same ∙ (map-map bare_cell seen v.rows ∙ (sym (map-map seen bare v.rows) ∙ (ap (map bare) e ∙ map-map (told past) bare ns))))

-- ---- children

rising_filter : (p : Cell → Bool) (xs : List Cell) → CellsRise xs → CellsRise (filter p xs)
rising_filter p [] r = r
rising_filter p (x ∷ xs) r = go (p x) (rising_filter p xs r.1)
  where
    go : (b : Bool) → CellsRise (filter p xs) → CellsRise (cond b (x ∷ filter p xs) (filter p xs))
    go true rest = (λ y i. r.0 y (In-filter p y xs i).0, rest)
    go false rest = rest

are_rising : (ys : List Cell) → CellsRise ys → AreRising (map num ys)
are_rising [] r = tt
are_rising (y ∷ []) r = tt
are_rising (y ∷ (z ∷ ys)) r = (r.0 z (inl refl), are_rising (z ∷ ys) r.1)

module _ (m : Store) (xs : List Cell) (s : Shape m xs) where
  gets_cell : (c : Cell) → In c xs → get m c.place ≡ Some (entry_in xs c)
  gets_cell c i = s.gets c.place ∙ ap (option_map (entry_in xs)) (at_place_is xs s.apart c i)

  serial_here : (c : Cell) → In c xs → serial_in m c.place ≡ Some (num c)
  serial_here c i = ap (option_map (λ (e : StoreRow Row). e.payload.serial)) (gets_cell c i)

  children_serials : (ys : List Cell) → ((d : Cell) → In d ys → In d xs) → serials_in m (map (λ (d : Cell). d.place) ys) ≡ map num ys
  children_serials [] h = refl
  children_serials (y ∷ ys) h = rw (serial_here y (h y (inl refl))) (ap (λ (l : List ℕ). num y ∷ l) (children_serials ys (λ d i. h d (inr i))))

  rising_children : (c : Cell) → AreRising (serials_in m (entry_in xs c).children)
  rising_children c = subst AreRising (sym (children_serials (filter (is_under (num c)) xs) (λ d i. (In-filter (is_under (num c)) d xs i).0))) (are_rising (filter (is_under (num c)) xs) (rising_filter (is_under (num c)) xs s.rising))

  -- the row of the parent is that of the serial that the row keeps
  parent_kept : (c : Cell) → In c xs → option_and_then (serial_in m) (place_for xs c.row) ≡ parent_seen c.row
  parent_kept c i = go (c.row.serial == 0) refl
    where
      go : (b : Bool) → (c.row.serial == 0) ≡ b → option_and_then (serial_in m) (cond b None (option_map (λ (d : Cell). d.place) (at_serial c.row.parent xs))) ≡ cond b None (Some c.row.parent)
      go true e = refl
      go false e = elim (s.up c i) [
        | inl z ↦ absurd (false≢true (sym e ∙ eq-eqb c.row.serial 0 z))
        | inr a ↦
            ap (λ (o : Option Cell). option_and_then (serial_in m) (option_map (λ (d : Cell). d.place) o)) (at_serial_is xs s.rising a.0 c.row.parent a.1 a.2)
            ∙ serial_here a.0 a.1 ∙ ap (λ (k : ℕ). Some k) a.2
      ]

  shows_here : (past : Past) (c : Cell) → In c xs → (n : Node) → bare_seen c ≡ bare_told past n → Shows m past.tree (entry_in xs c) n
  shows_here past c i n e = record {
    serial = ap (λ (z : Seen). z.serial) e;
    kind = ap (λ (z : Seen). z.kind) e;
    is_open = ap (λ (z : Seen). z.is_open) e;
    parent = parent_kept c i ∙ ap (λ (z : Seen). z.parent) e;
  }

  -- rows that tell what the past tells of these nodes are theirs
  are_theirs : (past : Past) (ns : List Node) → map bare_seen xs ≡ map (bare_told past) ns → RowsAre m past.tree ns
  are_theirs past ns e = record {
    each = λ p x g.
        let h = held_in m xs s p x g in
        let t = pair_left bare_seen (bare_told past) xs ns e h.0 h.1 in
        (t.0, t.1, subst (λ (y : StoreRow Row). Shows m past.tree y t.0) (sym h.3) (shows_here past h.0 h.1 t.0 t.2));
    all = λ n i.
        let r = pair_left (bare_told past) bare_seen ns xs (sym e) n i in
        (r.0.place, entry_in xs r.0, gets_cell r.0 r.1, shows_here past r.0 r.1 n (sym r.2));
    count = rows_number m xs s ∙ sym (length-map xs bare_seen) ∙ ap length e ∙ length-map ns (bare_told past);
    order = λ p x g.
        let h = held_in m xs s p x g in
        subst (λ (y : StoreRow Row). AreRising (serials_in m y.children)) (sym h.3) (rising_children h.0);
  }

pub rows_are : (m : Store) (v : View) → HasRows m v → (past : Past) (ns : List Node) → map seen v.rows ≡ map (told past) ns → RowsAre m past.tree ns
rows_are m v s past ns e = are_theirs m v.kept s.0 past ns (kept_tell past v ns s.1 e)

-- where no node is held the store is empty
pub no_rows : (m : Store) (P : Tree) → RowsAre m P [] → m ≡ empty
no_rows m P r = same_map nat_cmp_total nat_cmp-IsAntisymmetric m empty (λ p. go p (get m p) refl ∙ sym (get-empty nat_cmp p))
  where
    go : (p : ℕ) (o : Option (StoreRow Row)) → get m p ≡ o → o ≡ None
    go p None e = refl
    go p (Some x) e = let h = r.each p x e in absurd h.1
