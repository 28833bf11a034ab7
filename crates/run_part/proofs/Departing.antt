-- Which nodes leave the buffer with a token.
use Rattle.std.proofs.Common.{◌≡◌, ⊎_elim, ◌==◌, ◌||◌, ◌<◌, ℕ, Bool, true, false, not, cond, List, [], ◌∷◌, ◌++◌, length, map, drop, reverse, refl, sym, ◌∙◌, ap, subst, inl, inr, arith, eq-eqb, eqb-true, Some, None, Option}
use Rattle.std.specs.List.{filter, list_any}
use Rattle.std.proofs.lemmas.List.{append-nil, reverse-append, map-append}
use Rattle.std.proofs.lemmas.List.Elements.{filter-append}
use Rattle.std.proofs.lemmas.Bool.{cases_Bool}
use Rattle.std.proofs.Math.Seq.{drop-append_seam}
use Rattle.std.proofs.Math.Bool.{or-true}
use Rattle.gcx_model.specs.Tree.{Node, serial_of, TreeToken as Said, grow}
use Rattle.gcx_model.specs.Members.{In}
use Rattle.gcx_model.specs.Held.{held, has_serial, departed}
use Rattle.gcx_model.specs.Past.{Past, past_fed, Opens}
use Rattle.past_laws.proofs.Ahead.{new_node}
use Rattle.past_laws.proofs.Bases.{is_grown}
use Rattle.tree_laws.proofs.Lists.{In-left, filter_none}
use Rattle.tree_laws.proofs.Matches.{Numbered-high}
use Rattle.past_laws.proofs.RowFacts.{open_behind}
use Rattle.buf_tree.specs.Rows.{shut_row}
use Rattle.buf_tree.specs.Shape.{Cell, num, with_at}
use Rattle.buf_tree.specs.View.{View}
use Rattle.buf_tree.specs.Calls.{gone_new, left_out, new_row, with_new}
use Rattle.buf_tree.specs.Stands.{Seen, StandsFor}
use Rattle.buf_tree.proofs.Departed.{rows_rise, has_same, departed_rows}
use Rattle.buf_tree.proofs.Withdrawing.{left_is}
use Rattle.projector.specs.Projector.{Changes, DoesBy}
use Rattle.projector.specs.declared.projector.Fed.{Fed}
use Rattle.projector.specs.declared.projector.Fed.TheVariants as outcomes
use Rattle.run_part.proofs.RowsHeld.{row_node}

unequal : (j k : ℕ) → j < k → (j == k) ≡ false
unequal j k l = ⊎_elim (λ t. let e = eqb-true j k t in absurd (omega arith)) (λ f. f) (cases_Bool (j == k))

-- ---- rows and numbers

listed : (now : List Cell) (d : Cell) → In d now → list_any (λ (e : Cell). num e == num d) now ≡ true
listed [] d i = absurd i
listed (x ∷ now) d (inl f) = ap (λ b. b || list_any (λ (e : Cell). num e == num d) now) (eq-eqb (num x) (num d) (ap num f))
listed (x ∷ now) d (inr i) = ap (λ b. (num x == num d) || b) (listed now d i) ∙ or-true (num x == num d)

unlisted : (now : List Cell) (k : ℕ) → ((d : Cell) → In d now → num d < k) → list_any (λ (d : Cell). num d == k) now ≡ false
unlisted [] k h = refl
unlisted (x ∷ now) k h = ap (λ b. b || list_any (λ (d : Cell). num d == k) now) (unequal (num x) k (h x (inl refl))) ∙ unlisted now k (λ d i. h d (inr i))

-- what stays in front isn't left out
pub none_out : (xs ys : List Cell) → left_out xs (xs ++ ys) ≡ []
none_out xs ys = ap (λ (z : List Cell). map num (reverse z)) (filter_none (λ (c : Cell). not (list_any (λ (d : Cell). num d == num c) (xs ++ ys))) xs (λ c i. ap not (listed (xs ++ ys) c (In-left c xs ys i))))

same_shut : (p : ℕ) (c : Cell) → num (with_at shut_row p c) ≡ num c
same_shut p c = go (c.place == p)
  where
    go : (b : Bool) → num (cond b (record { place = c.place; row = shut_row c.row }) c) ≡ num c
    go true = refl
    go false = refl

-- ---- departures

departed_last : (xs : List Node) (n : Node) (now : List Node) → departed (xs ++ n ∷ []) now ≡ departed (n ∷ []) now ++ departed xs now
departed_last xs n now =
    let f : Node → Bool = λ (m : Node). not (has_serial now (serial_of m)) in
    ap (λ (z : List Node). map serial_of (reverse z)) (filter-append f xs (n ∷ []))
    ∙ (ap (map serial_of) (reverse-append (filter f xs) (filter f (n ∷ [])))
    ∙ map-append serial_of (reverse (filter f (n ∷ []))) (reverse (filter f xs)))

departed_one : (n : Node) (now : List Node) (b : Bool) → has_serial now (serial_of n) ≡ b → departed (n ∷ []) now ≡ cond b [] (serial_of n ∷ [])
departed_one n now b e = ap (λ (z : Bool). map serial_of (reverse (cond (not z) (n ∷ []) []))) e ∙ go b
  where
    go : (b : Bool) → map serial_of (reverse (cond (not b) (n ∷ []) [])) ≡ cond b [] (serial_of n ∷ [])
    go true = refl
    go false = refl

module _ (stood : Past → Type 0) (past : Past) (v w : View) (t : Said) (h : StandsFor v past) (g : StandsFor w (past_fed t past)) (none : v.gone ≡ []) where
  abbrev there : List Node
  there = held past.plan past.tree past.acts

  abbrev now : List Node
  now = held past.plan (grow t past.tree) past.acts

  abbrev fresh : List Node
  fresh = drop (length past.tree.nodes) (grow t past.tree).nodes

  low : (d : Cell) → In d v.rows → num d < length past.tree.nodes
  low d i =
      let r = row_node v past h d i in
      let l = Numbered-high 0 past.tree.nodes (is_grown past h.is_past).numbered r.0 r.1 in
      let e : num d ≡ serial_of r.0 = ap (λ (z : Seen). z.serial) r.2 in
      omega arith

  -- of the node that is opened
  opened : (n : Node) → Opens past.tree t n → (at : Option ℕ) (c : Cell) → num c ≡ v.nodes → (rows : List Cell) → w.rows ≡ rows → rows ≡ with_new at c.row v.rows → departed (there ++ fresh) now ≡ gone_new at v.nodes
  opened n o None c e rows a b =
      let q = new_node past.tree t n o in
      let k : serial_of n ≡ v.nodes = q.1 ∙ sym h.nodes in
      let same : w.rows ≡ v.rows = a ∙ b in
      let has : has_serial now (serial_of n) ≡ false = has_same (past_fed t past) w.rows now (serial_of n) g.rows
      ∙ (ap (λ (z : List Cell). list_any (λ (d : Cell). num d == serial_of n) z) same
      ∙ unlisted v.rows (serial_of n) (λ d i. let l = low d i in let m = q.1 in omega arith)) in
      let old : departed there now ≡ [] = sym (departed_rows v w past (past_fed t past) h g) ∙ (ap (left_out v.rows) (same ∙ sym (append-nil v.rows)) ∙ none_out v.rows []) in
      ap (λ (z : List Node). departed (there ++ z) now) q.0
      ∙ (departed_last there n now
      ∙ (ap (λ (z : List ℕ). z ++ departed there now) (departed_one n now false has)
      ∙ (ap (λ (z : List ℕ). serial_of n ∷ z) old ∙ ap (λ z. z ∷ []) k)))
  opened n o (Some p) c e rows a b =
      let q = new_node past.tree t n o in
      let k : serial_of n ≡ v.nodes = q.1 ∙ sym h.nodes in
      let x : Cell = record { place = p; row = c.row } in
      let same : w.rows ≡ v.rows ++ x ∷ [] = a ∙ b in
      let is : num x ≡ serial_of n = e ∙ sym k in
      let has : has_serial now (serial_of n) ≡ true = has_same (past_fed t past) w.rows now (serial_of n) g.rows
      ∙ (ap (λ (z : List Cell). list_any (λ (d : Cell). num d == serial_of n) z) same
      ∙ subst (λ z. list_any (λ (d : Cell). num d == z) (v.rows ++ x ∷ []) ≡ true) is (listed (v.rows ++ x ∷ []) x (last v.rows x))) in
      let old : departed there now ≡ [] = sym (departed_rows v w past (past_fed t past) h g) ∙ (ap (left_out v.rows) same ∙ none_out v.rows (x ∷ [])) in
      ap (λ (z : List Node). departed (there ++ z) now) q.0
      ∙ (departed_last there n now
      ∙ (ap (λ (z : List ℕ). z ++ departed there now) (departed_one n now true has)
      ∙ old))
    where
      last : (xs : List Cell) (x : Cell) → In x (xs ++ x ∷ [])
      last [] x = inl refl
      last (y ∷ xs) x = inr (last xs x)

  pub gone_fed : (f : Fed) → Changes stood v w t f → DoesBy f t past → w.gone ≡ departed (there ++ fresh) now
  gone_fed (outcomes.Opened s given) c d =
      let row = new_row v c.parent c.kind given c.opened.ahead in
      let rows : w.rows ≡ with_new c.at row v.rows = ap (λ (z : View). z.rows) c.opened.cleared ∙ c.opened.opened.rows in
      let gone : w.gone ≡ gone_new c.at v.nodes = ap (λ (z : View). z.gone) c.opened.cleared ∙ (c.opened.opened.gone ∙ ap (λ (z : List ℕ). z ++ gone_new c.at v.nodes) none) in
      gone ∙ sym (opened d.0 d.1 c.at (record { place = 0; row = row }) refl (with_new c.at row v.rows) rows refl)
  gone_fed (outcomes.Closed s) c d =
      let l = c.1.closed.leaves in
      let gone : w.gone ≡ l.left = l.gone ∙ ap (λ (z : List ℕ). z ++ l.left) none in
      let shut = with_at shut_row c.1.place in
      let r = rows_rise v past h in
      let left : l.left ≡ left_out v.rows w.rows = left_is shut (same_shut c.1.place) v.rows w.rows l.left r l.purged in
      let same : (grow t past.tree).nodes ≡ past.tree.nodes = ap (λ (z : Said). (grow z past.tree).nodes) d.1 ∙ (open_behind past.tree d.0 d.2).2 in
      let empty : fresh ≡ [] = ap (drop (length past.tree.nodes)) (same ∙ sym (append-nil past.tree.nodes)) ∙ drop-append_seam past.tree.nodes [] in
      gone ∙ (left ∙ (departed_rows v w past (past_fed t past) h g ∙ ap (λ (z : List Node). departed z now) (sym (ap (λ (z : List Node). there ++ z) empty ∙ append-nil there))))
