-- What a token makes of the rows that a buffer stands for.
use Rattle.std.proofs.Common.{◌≡◌, ◌==◌, ℕ, Bool, true, false, cond, ◌||◌, List, [], ◌∷◌, ◌++◌, length, map, drop, refl, sym, ◌∙◌, ap, subst, inl, inr, arith, Some, None, Option}
use Rattle.std.specs.List.{filter}
use Rattle.std.proofs.lemmas.List.{append-nil}
use Rattle.std.proofs.lemmas.Bool.{or_left, false≢true, eqb-true, eq-eqb, ne_eqb, cases_eq, false_from_ne_true}
use Rattle.gcx_base.specs.declared.kind.Kind.{Kind}
use Rattle.gcx_model.specs.Tree.{Tree, TreeToken, Start, Chars, End, Node, Root, Under, serial_of, within, is_open_at, grow, grow_at}
use Rattle.gcx_model.specs.Growth.{may_come, level}
use Rattle.gcx_model.specs.Held.{is_held, held}
use Rattle.gcx_model.specs.Past.{Past, IsPast, past_fed}
use Rattle.tree_laws.proofs.Lists.{In, In-left, In-right, In-append, In-filter, In-kept}
use Rattle.tree_laws.proofs.Matches.{Grown, Grown-grow, added, added_at, grow_nodes}
use Rattle.tree_laws.proofs.Freeze.{within_self}
use Rattle.past_laws.proofs.Changes.{live_by_feed}
use Rattle.past_laws.proofs.Awaited.{waiting_law, within_low}
use Rattle.past_laws.proofs.PastForms.{past_feeds}
use Rattle.past_laws.proofs.Bases.{is_grown}
use Rattle.placed_laws.proofs.HeldChanges.{held_by_feed}
use Rattle.buf_tree.specs.Rows.{shut_row}
use Rattle.buf_tree.specs.Shape.{Cell, num, CellsRise, with_at}
use Rattle.buf_tree.specs.Purge.{Purged}
use Rattle.buf_tree.specs.View.{View, Innermost}
use Rattle.buf_tree.specs.Calls.{Closed}
use Rattle.buf_tree.specs.Spread.{SpreadView, SpreadsAs}
use Rattle.buf_tree.specs.Stands.{Seen, seen, told, StandsFor, KeepsAs, awaited_by, told_row}
use Rattle.buf_tree.proofs.Shaping.{rising_same}
use Rattle.buf_tree.proofs.Changes.{map-map}
use Rattle.buf_tree.proofs.Standing.{pair_left, rows_held, held_up}

pub map_both : {S X Y R : Type 0} (f : X → S) (g : Y → S) (f' : X → R) (g' : Y → R) (xs : List X) (ys : List Y) → map f xs ≡ map g ys → ((x : X) (y : Y) → In x xs → In y ys → f x ≡ g y → f' x ≡ g' y) → map f' xs ≡ map g' ys
map_both f g f' g' [] [] e h = refl
map_both f g f' g' [] (y ∷ ys) e h = absurd (cc)
map_both f g f' g' (x ∷ xs) [] e h = absurd (cc)
map_both f g f' g' (x ∷ xs) (y ∷ ys) e h =
    let a : f x ≡ g y = cc in
    let b : map f xs ≡ map g ys = cc in
    λ t. h x y (inl refl) (inl refl) a t ∷ map_both f g f' g' xs ys b (λ s u i j. h s u (inr i) (inr j)) t

pub at_held : (past : Past) → IsPast past → (a : Node) → past.tree.at ≡ Some a → In a (held past.plan past.tree past.acts)
at_held past is a e =
    In-kept (is_held past.plan past.tree past.acts) a past.tree.nodes ((is_grown past is).at_in a e)
    (or_left _ _ (subst (λ o. is_open_at o (serial_of a) ≡ true) (sym e) (within_self (serial_of a) a (eq-eqb _ _ refl))))

module _ (t : TreeToken) (past : Past) (is : IsPast past) where
  abbrev later : List Node
  later = held past.plan past.tree past.acts ++ added t past.tree

  drop_same : {X : Type 0} (xs ys : List X) → drop (length xs) (xs ++ ys) ≡ ys
  drop_same [] ys = refl
  drop_same (x ∷ xs) ys = drop_same xs ys

  behind : drop (length past.tree.nodes) (grow t past.tree).nodes ≡ added t past.tree
  behind = ap (drop (length past.tree.nodes)) (grow_nodes t past.tree) ∙ drop_same past.tree.nodes (added t past.tree)

  -- the nodes held behind the token
  pub held_fed : held past.plan (grow t past.tree) past.acts ≡ filter (is_held past.plan (grow t past.tree) past.acts) later
  held_fed = held_by_feed is.core is.good past.plan is.placed past.tree is.grown t past.acts ∙ ap (λ z. filter (is_held past.plan (grow t past.tree) past.acts) (held past.plan past.tree past.acts ++ z)) behind

  later_inside : (n : Node) → In n later → In n (grow t past.tree).nodes
  later_inside n i = subst (λ (zs : List Node). In n zs) (sym (grow_nodes t past.tree)) (elim (In-append n (held past.plan past.tree past.acts) (added t past.tree) i) [
    | inl j ↦ In-left n past.tree.nodes (added t past.tree) (In-filter (is_held past.plan past.tree past.acts) n past.tree.nodes j).0
    | inr j ↦ In-right n past.tree.nodes (added t past.tree) j
  ])

  new_parent : (at : Option Node) (t : TreeToken) (n : Node) (s : ℕ) (k : Kind) → In (Under n s k) (added_at at t past.tree) → at ≡ Some n
  new_parent None t n s k i = absurd i
  new_parent (Some a) (Start name) n s k (inl e) = let f : a ≡ n = cc in ap (λ z. Some z) f
  new_parent (Some a) (Start name) n s k (inr i) = absurd i
  new_parent (Some a) (Chars b) n s k (inl e) = let f : a ≡ n = cc in ap (λ z. Some z) f
  new_parent (Some a) (Chars b) n s k (inr i) = absurd i
  new_parent (Some a) End n s k i = absurd i

  later_upward : (n : Node) (s : ℕ) (k : Kind) → In (Under n s k) later → In n later
  later_upward n s k i = elim (In-append (Under n s k) (held past.plan past.tree past.acts) (added t past.tree) i) [
    | inl j ↦ (let f = In-filter (is_held past.plan past.tree past.acts) (Under n s k) past.tree.nodes j in
        In-left n (held past.plan past.tree past.acts) (added t past.tree) (In-kept (is_held past.plan past.tree past.acts) n past.tree.nodes ((is_grown past is).upward n s k f.0) (held_up past (is_grown past is) n s k f.0 f.1)))
    | inr j ↦ In-left n (held past.plan past.tree past.acts) (added t past.tree) (at_held past is n (new_parent past.tree.at t n s k j))
  ]

-- the innermost open node of the rows is the tree's
pub top_is : (v : View) (past : Past) (q : ℕ) → StandsFor v past → (i : Innermost v.rows q) → (a : Node) × (past.tree.at ≡ Some a) × (serial_of a ≡ num i.cell)
top_is v past q h i =
    let r = pair_left seen (told past) v.rows (held past.plan past.tree past.acts) h.rows i.cell i.among in
    go past.tree.at refl r.0 (In-filter (is_held past.plan past.tree past.acts) r.0 past.tree.nodes r.1).0 (sym (ap (λ (s : Seen). s.is_open) r.2) ∙ i.is_open) (ap (λ (s : Seen). s.serial) r.2)
  where
    go : (o : Option Node) → past.tree.at ≡ o → (n : Node) → In n past.tree.nodes → is_open_at past.tree.at (serial_of n) ≡ true → num i.cell ≡ serial_of n → (a : Node) × (o ≡ Some a) × (serial_of a ≡ num i.cell)
    go None e n j o s = absurd (false≢true (subst (λ z. is_open_at z (serial_of n) ≡ true) e o))
    go (Some a) e n j o s =
        let low = within_low past.tree (is_grown past h.is_past) (serial_of n) a ((is_grown past h.is_past).at_in a e) (subst (λ z. is_open_at z (serial_of n) ≡ true) e o) in
        let c = pair_left (told past) seen (held past.plan past.tree past.acts) v.rows (sym h.rows) a (at_held past h.is_past a e) in
        let opened : is_open_at past.tree.at (serial_of a) ≡ true = subst (λ z. is_open_at z (serial_of a) ≡ true) (sym e) (within_self (serial_of a) a (eq-eqb _ _ refl)) in
        let high = i.last c.0 c.1 (sym (ap (λ (s : Seen). s.is_open) c.2) ∙ opened) in
        let same = ap (λ (s : Seen). s.serial) c.2 in
        (a, refl, omega arith)

module _ (t : TreeToken) (past : Past) (is : IsPast past) where
  later_all : (n : Node) → In n (grow t past.tree).nodes → is_held past.plan (grow t past.tree) past.acts n ≡ true → In n (later t past is)
  later_all n i h =
      let j : In n (held past.plan (grow t past.tree) past.acts) = In-kept (is_held past.plan (grow t past.tree) past.acts) n (grow t past.tree).nodes i h in
      let k = subst (λ (zs : List Node). In n zs) (held_fed t past is) j in
      (In-filter (is_held past.plan (grow t past.tree) past.acts) n (later t past is) k).0

  -- the rows are right before the purge, so they are right behind it
  pub fed_rows : (xs ys : List Cell) (gone : List ℕ) → CellsRise xs → Purged xs ys gone → map seen xs ≡ map (told (past_fed t past)) (later t past is) → map seen ys ≡ map (told (past_fed t past)) (held past.plan (grow t past.tree) past.acts)
  fed_rows xs ys gone r u e =
      rows_held (past_fed t past) (Grown-grow t past.tree (is_grown past is)) xs ys gone r u (later t past is) e (later_inside t past is) (later_upward t past is) later_all
      ∙ ap (map (told (past_fed t past))) (sym (held_fed t past is))

  -- of the row of a node that was there, whether it is open
  pub row_same : (n : Node) (b : Bool) → In n past.tree.nodes → is_open_at (grow t past.tree).at (serial_of n) ≡ b → told (past_fed t past) n ≡ record (told past n) { is_open = b }
  row_same n b i e = ap (told_row (level n)) (live_by_feed past is t n i).1 ∙ ap (λ z. record (told past n) { is_open = z }) e

abbrev pub is_top : Option Node → ℕ → Bool
is_top None k = false
is_top (Some a) k = serial_of a == k

-- a closed node is open no more, and the others are as before
pub end_open : (P : Tree) → Grown P → (k : ℕ) → is_open_at (grow End P).at k ≡ cond (is_top P.at k) false (is_open_at P.at k)
end_open P w k = go P.at refl
  where
    go : (o : Option Node) → P.at ≡ o → is_open_at (grow_at o End P).at k ≡ cond (is_top o k) false (is_open_at o k)
    go None e = ap (λ z. is_open_at z k) e
    go (Some Root) e = last (0 == k)
      where
        last : (b : Bool) → false ≡ cond b false b
        last true = refl
        last false = refl
    go (Some (Under q s kd)) e = last (s == k) refl
      where
        last : (b : Bool) → (s == k) ≡ b → within k q ≡ cond b false (b || within k q)
        last true f = false_from_ne_true _ (λ g. let i = w.at_in (Under q s kd) e in let l = within_low P w k q (w.upward q s kd i) g in let b = w.below q s kd i in let z = eqb-true s k f in absurd (omega arith))
        last false f = refl

pub added_end : (P : Tree) → added End P ≡ []
added_end P = go P.at
  where
    go : (o : Option Node) → added_at o End P ≡ []
    go None = refl
    go (Some a) = refl

pub stands_closed : (v u : View) (q : ℕ) → CellsRise v.rows → CellsRise (map (with_at shut_row q) v.rows) → ((a b : Cell) → In a v.rows → In b v.rows → a.place ≡ b.place → a ≡ b) → Innermost v.rows q → v.waiting ≡ [] → Closed v u q
    → (past : Past) → StandsFor v past → may_come End past.tree ≡ true → KeepsAs u (past_fed End past) → StandsFor u (past_fed End past)
stands_closed v u q rise rise' apart i idle c past h m keep = record {
  is_past = past_feeds past h.is_past End m;
  spread = subst (λ (z : Option SpreadView). SpreadsAs z past.plan) (sym c.spread) h.spread;
  rows = rows_left;
  kept = keep rows_left;
  waiting = ap (map awaited_by) (c.waiting ∙ idle) ∙ sym ((waiting_law past h.is_past).0 End);
  nodes = c.nodes ∙ h.nodes ∙ sym (ap length (grow_nodes End past.tree ∙ ap (λ z. past.tree.nodes ++ z) (added_end past.tree) ∙ append-nil past.tree.nodes));
}
  where
    top : (a : Node) × (past.tree.at ≡ Some a) × (serial_of a ≡ num i.cell)
    top = top_is v past q h i

    w : Grown past.tree
    w = is_grown past h.is_past

    one_row : (c : Cell) → In c v.rows → num c ≡ num i.cell → c ≡ i.cell
    one_row c j g = rising_same v.rows rise c i.cell j i.among g

    each : (c : Cell) (n : Node) → In c v.rows → In n (held past.plan past.tree past.acts) → seen c ≡ told past n → seen (with_at shut_row q c) ≡ told (past_fed End past) n
    each c n j k e = elim (cases_eq c.place q) [
      | inl f ↦ (
          let is : c ≡ i.cell = apart c i.cell j i.among (f ∙ sym i.place) in
          let t : is_top past.tree.at (serial_of n) ≡ true = ap (λ o. is_top o (serial_of n)) top.1 ∙ eq-eqb _ _ (top.2 ∙ sym (ap num is) ∙ ap (λ (s : Seen). s.serial) e) in
          ap seen (ap (λ b. cond b (record { place = c.place; row = shut_row c.row }) c) (eq-eqb c.place q f))
          ∙ ap (λ (s : Seen). record s { is_open = false }) e
          ∙ sym (row_same End past h.is_past n false (In-filter (is_held past.plan past.tree past.acts) n past.tree.nodes k).0 (end_open past.tree w (serial_of n) ∙ ap (λ b. cond b false (is_open_at past.tree.at (serial_of n))) t)))
      | inr d ↦ (
          let t : is_top past.tree.at (serial_of n) ≡ false = ap (λ o. is_top o (serial_of n)) top.1 ∙ ne_eqb _ _ (λ g. d (ap (λ (x : Cell). x.place) (one_row c j (ap (λ (s : Seen). s.serial) e ∙ sym g ∙ top.2)) ∙ i.place)) in
          ap seen (ap (λ b. cond b (record { place = c.place; row = shut_row c.row }) c) (ne_eqb c.place q d))
          ∙ e
          ∙ sym (row_same End past h.is_past n (is_open_at past.tree.at (serial_of n)) (In-filter (is_held past.plan past.tree past.acts) n past.tree.nodes k).0 (end_open past.tree w (serial_of n) ∙ ap (λ b. cond b false (is_open_at past.tree.at (serial_of n))) t)))
    ]

    rows_now : map seen (map (with_at shut_row q) v.rows) ≡ map (told (past_fed End past)) (later End past h.is_past)
    rows_now =
        map-map (with_at shut_row q) seen v.rows
        ∙ map_both seen (told past) (λ c. seen (with_at shut_row q c)) (told (past_fed End past)) v.rows (held past.plan past.tree past.acts) h.rows each
        ∙ ap (map (told (past_fed End past))) (sym (ap (λ z. held past.plan past.tree past.acts ++ z) (added_end past.tree) ∙ append-nil (held past.plan past.tree past.acts)))

    rows_left : map seen u.rows ≡ map (told (past_fed End past)) (held past.plan (grow End past.tree) past.acts)
    rows_left = fed_rows End past h.is_past (map (with_at shut_row q) v.rows) u.rows c.leaves.left rise' c.leaves.purged rows_now
