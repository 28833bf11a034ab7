-- A node that is given no role, behind passed elements.
use Rattle.std.proofs.Common.{◌≡◌, ℕ, ◌+◌, ◌<◌, Bool, true, false, not, ◌&&◌, List, [], ◌∷◌, ◌++◌, length, map, drop, refl, sym, ◌∙◌, ap, subst, inl, inr, arith, Some, None, Option}
use Rattle.std.specs.Ordering.{nat_cmp}
use Rattle.std.specs.FinSet.{from_list, len-empty}
use Rattle.std.proofs.Math.Seq.{drop-append_seam}
use Rattle.std.proofs.lemmas.List.{map-append}
use Rattle.std.proofs.lemmas.Bool.{and_parts, false_from_ne_true, false≢true, true≢false, eq-eqb}
use Rattle.gcx_base.specs.declared.kind.Kind.{Kind}
use Rattle.gcx_base.specs.declared.kind.Kind.TheVariants.{Element, Text}
use Rattle.gcx_model.specs.Tree.{Node, Under, TreeToken, Start, Chars, serial_of, grow}
use Rattle.gcx_model.specs.Growth.{may_come, may_come_at}
use Rattle.gcx_model.specs.Members.{count}
use Rattle.gcx_model.specs.Held.{given, taken, live, roles_given, path_of, statement_of, on_off, all_signed, held, is_held}
use Rattle.gcx_model.specs.Past.{Past, IsPast, past_fed, past_grown, token_for, IsNode}
use Rattle.base_laws.proofs.Lists.{nil_cons, cons_head, cons_tail}
use Rattle.base_laws.proofs.Members.{from_map, in_drop, map_same}
use Rattle.tree_laws.proofs.Lists.{In, In-append, In-filter, In-kept, In-left, In-right, filter_none}
use Rattle.tree_laws.proofs.Matches.{Grown, Numbered-high, Numbered-same, added, grow_nodes}
use Rattle.placed_laws.proofs.Stays.{new_serial}
use Rattle.past_laws.proofs.Awaited.{waiting_law}
use Rattle.past_laws.proofs.PastForms.{past_feeds}
use Rattle.past_laws.proofs.Bases.{is_grown}
use Rattle.spread_laws.specs.Tops.{is_kept_at}
use Rattle.spread_laws.proofs.Tops.{kept_are_live}
use Rattle.buf_tree.specs.Row.{Row}
use Rattle.buf_tree.specs.Rows.{below_row}
use Rattle.buf_tree.specs.Shape.{Cell, num}
use Rattle.buf_tree.specs.View.{View, capped, num_in, level_in}
use Rattle.buf_tree.specs.Calls.{Opened, new_row, new_roles, with_new, gone_new, most_new, stays}
use Rattle.buf_tree.specs.Spread.{SpreadView, SpreadsAs, kept_roles}
use Rattle.buf_tree.specs.Stands.{seen, told, StandsFor, KeepsAs, GivenTo, awaited_by}
use Rattle.buf_tree.specs.Loose.{Passed, last_open, passed_cell, with_passed, StandsLoosely, GivesNone, PassesElement, PassesText}
use Rattle.buf_tree.proofs.KeptStands.{kept_set, kept_fed, nums_told}
use Rattle.buf_tree.proofs.Opening.{stands_opened}
use Rattle.buf_tree.proofs.PassedRows.{rows_same, kept_same, places_of, places_length, places_push, front_push}
use Rattle.buf_tree.proofs.OwnPlaces.{flat, flat_seen, flat_stands, own_place, rows_low, top_row, inner, found, found_own}
use Rattle.buf_tree.proofs.WithRoles.{new_alone}

-- where an element or a text may come, a node is open
open_at : (o : Option Node) (kind : Kind) (ns : List Node) → may_come_at o (token_for kind) ns ≡ true → (a : Node) × (o ≡ Some a)
open_at None kind ns m = absurd (false≢true m)
open_at (Some a) kind ns m = (a, refl)

-- none is given, so none is taken
given_none : (past : Past) (t : TreeToken) → Grown past.tree → GivesNone past t → GivenTo past t [] []
given_none past t w h n e = (sym none, sym (filter_none (taken past.plan (grow t past.tree) past.acts n) cs (λ r i. untaken r i)))
  where
    cs : List ℕ
    cs = count 0 (length past.plan.roles)

    is : added t past.tree ≡ n ∷ []
    is = sym (ap (drop (length past.tree.nodes)) (grow_nodes t past.tree) ∙ drop-append_seam past.tree.nodes (added t past.tree)) ∙ e

    among : In n (added t past.tree)
    among = subst (λ (zs : List Node). In n zs) (sym is) (inl refl)

    inside : In n (grow t past.tree).nodes
    inside = subst (λ (zs : List Node). In n zs) (sym (grow_nodes t past.tree)) (In-right n past.tree.nodes (added t past.tree) among)

    none : roles_given past.plan (grow t past.tree) n ≡ []
    none = h n (inside, λ i. let l = Numbered-high 0 past.tree.nodes w.numbered n i in let z = new_serial t past.tree w n among in absurd (omega arith))

    untaken : (r : ℕ) → In r (count 0 (length past.plan.roles)) → taken past.plan (grow t past.tree) past.acts n r ≡ false
    untaken r i = go (given past.plan (grow t past.tree) n r) refl
      where
        go : (b : Bool) → given past.plan (grow t past.tree) n r ≡ b → taken past.plan (grow t past.tree) past.acts n r ≡ false
        go true f = absurd (subst (λ (zs : List ℕ). In r zs) none (In-kept (given past.plan (grow t past.tree) n) r (count 0 (length past.plan.roles)) i f))
        go false f = ap (λ b. b && on_off (all_signed (path_of past.plan) (grow t past.tree) past.acts n) (statement_of past.plan r)) f

-- ---- what is kept behind it

grown_fed : (s : Option SpreadView) (past : Past) (t : TreeToken) (n : Node) → kept_set s (past_grown t past) n ≡ kept_set s (past_fed t past) n
grown_fed None past t n = refl
grown_fed (Some s) past t n = refl

-- lists of a tree's nodes with the same numbers are the same
same_nodes : (ns : List Node) → ((a b : Node) → In a ns → In b ns → serial_of a ≡ serial_of b → a ≡ b) → (xs ys : List Node) → ((n : Node) → In n xs → In n ns) → ((n : Node) → In n ys → In n ns) → map serial_of xs ≡ map serial_of ys → xs ≡ ys
same_nodes ns one [] [] i j e = refl
same_nodes ns one [] (y ∷ ys) i j e = absurd (nil_cons (serial_of y) (map serial_of ys) e)
same_nodes ns one (x ∷ xs) [] i j e = absurd (nil_cons (serial_of x) (map serial_of xs) (sym e))
same_nodes ns one (x ∷ xs) (y ∷ ys) i j e = λ t. one x y (i x (inl refl)) (j y (inl refl)) (cons_head _ _ _ _ e) t ∷ same_nodes ns one xs ys (λ n k. i n (inr k)) (λ n k. j n (inr k)) (cons_tail _ _ _ _ e) t

module _ (past : Past) (is : IsPast past) (kind : Kind) (node : IsNode kind) (m : may_come (token_for kind) past.tree ≡ true) (p : Node) (at : past.tree.at ≡ Some p) (gives : GivesNone past (token_for kind))
    (s : Option SpreadView) (ks rs : List Cell) (rows : map seen rs ≡ map (told past) (held past.plan past.tree past.acts)) (kept : map (λ c. c.row.roles) ks ≡ map (kept_set s past) (held past.plan past.tree past.acts)) where
  abbrev came : TreeToken
  came = token_for kind

  abbrev ns : List Node
  ns = held past.plan past.tree past.acts

  abbrev now : Past
  now = past_grown (token_for kind) past

  abbrev born : Node
  born = Under p (length past.tree.nodes) kind

  is_now : IsPast (past_grown (token_for kind) past)
  is_now = let f = past_feeds past is came m in record { core = f.core; good = f.good; placed = f.placed; grown = f.grown; stated = f.stated; within = is.within }

  born_in : In born (grow came past.tree).nodes
  born_in = in_drop (length past.tree.nodes) born (grow came past.tree).nodes (subst (λ (zs : List Node). In born zs) (sym (new_alone past.tree p at kind node)) (inl refl))

  none_given : roles_given past.plan (grow came past.tree) born ≡ []
  none_given = gives born (born_in, λ i. let l = Numbered-high 0 past.tree.nodes (is_grown past is).numbered born i in absurd (omega arith))

  none_live : (r : ℕ) → In r (count 0 (length past.plan.roles)) → live past.plan (grow came past.tree) past.acts born r ≡ false
  none_live r i = false_from_ne_true _ (λ e.
      let g = (and_parts (given past.plan (grow came past.tree) born r) (not (taken past.plan (grow came past.tree) past.acts born r)) e).0 in
      subst (λ (zs : List ℕ). In r zs) none_given (In-kept (given past.plan (grow came past.tree) born) r (count 0 (length past.plan.roles)) i g))

  none_kept : (s : Option SpreadView) → kept_roles s (past_grown (token_for kind) past) born ≡ []
  none_kept None = filter_none (live past.plan (grow came past.tree) past.acts born) (count 0 (length past.plan.roles)) none_live
  none_kept (Some w) = filter_none (is_kept_at now born) (count 0 (length past.plan.roles)) (λ r i. false_from_ne_true _ (λ e. true≢false (sym ((kept_are_live now is_now born born_in).0 r e) ∙ none_live r i)))

  inside : (n : Node) → In n ns → In n past.tree.nodes
  inside n i = (In-filter (is_held past.plan past.tree past.acts) n past.tree.nodes i).0

  more : (n : Node) → In n past.tree.nodes → In n (grow came past.tree).nodes
  more n i = subst (λ (zs : List Node). In n zs) (sym (grow_nodes came past.tree)) (In-left n past.tree.nodes (added came past.tree) i)

  held_in : (n : Node) → In n (held past.plan (grow came past.tree) past.acts) → In n (grow came past.tree).nodes
  held_in n i = (In-filter (is_held past.plan (grow came past.tree) past.acts) n (grow came past.tree).nodes i).0

  one : (a b : Node) → In a (grow came past.tree).nodes → In b (grow came past.tree).nodes → serial_of a ≡ serial_of b → a ≡ b
  one = Numbered-same 0 (grow came past.tree).nodes (is_grown now is_now).numbered

  kept_old : map (λ c. c.row.roles) ks ≡ map (kept_set s (past_grown (token_for kind) past)) ns
  kept_old = kept ∙ map_same (kept_set s past) (kept_set s now) ns (λ n i. sym (grown_fed s past came n ∙ ap (λ zs. from_list {R = nat_cmp} zs) (kept_fed s past is came n (inside n i))))

  -- where it is gone at once
  kept_behind : map seen rs ≡ map (told (past_grown (token_for kind) past)) (held past.plan (grow came past.tree) past.acts) → map (λ c. c.row.roles) ks ≡ map (kept_set s (past_grown (token_for kind) past)) (held past.plan (grow came past.tree) past.acts)
  kept_behind rows' = kept_old ∙ ap (map (kept_set s now)) (same_nodes (grow came past.tree).nodes one ns (held past.plan (grow came past.tree) past.acts) (λ n i. more n (inside n i)) held_in (sym (nums_told past rs ns rows) ∙ nums_told now rs (held past.plan (grow came past.tree) past.acts) rows'))

  -- and where it has the row c
  kept_born : (c : Cell) → num c ≡ length past.tree.nodes → c.row.roles ≡ from_list [] → map seen (rs ++ c ∷ []) ≡ map (told (past_grown (token_for kind) past)) (held past.plan (grow came past.tree) past.acts)
      → map (λ c. c.row.roles) (ks ++ c ∷ []) ≡ map (kept_set s (past_grown (token_for kind) past)) (held past.plan (grow came past.tree) past.acts)
  kept_born c n r rows' =
      map-append (λ (d : Cell). d.row.roles) ks (c ∷ [])
      ∙ ((λ i. kept_old i ++ (r ∙ ap (λ zs. from_list {R = nat_cmp} zs) (sym (none_kept s))) i ∷ [])
      ∙ (sym (map-append (kept_set s now) ns (born ∷ []))
      ∙ ap (map (kept_set s now)) (same_nodes (grow came past.tree).nodes one (ns ++ born ∷ []) (held past.plan (grow came past.tree) past.acts) there held_in numbers)))
    where
      there : (n : Node) → In n (ns ++ born ∷ []) → In n (grow came past.tree).nodes
      there n i = elim (In-append n ns (born ∷ []) i) [
        | inl j ↦ more n (inside n j)
        | inr j ↦ elim j [ inl e ↦ subst (λ (z : Node). In z (grow came past.tree).nodes) e born_in | inr z ↦ absurd z ]
      ]

      numbers : map serial_of (ns ++ born ∷ []) ≡ map serial_of (held past.plan (grow came past.tree) past.acts)
      numbers =
          map-append serial_of ns (born ∷ [])
          ∙ ((λ i. sym (nums_told past rs ns rows) i ++ sym n i ∷ [])
          ∙ (sym (map-append num rs (c ∷ []))
          ∙ nums_told now (rs ++ c ∷ []) (held past.plan (grow came past.tree) past.acts) rows'))

module _ (v : View) (xs : List Passed) (past : Past) (h : StandsLoosely xs v past) (idle : v.waiting ≡ []) where
  -- with rows at some places
  abbrev base : View
  base = with_passed (places_of xs) xs v

  stands : StandsFor base past
  stands = h (places_of xs) (places_length xs)

  module _ (kind : Kind) (k : IsNode kind) (m : may_come (token_for kind) past.tree ≡ true) (gives : GivesNone past (token_for kind)) where
    abbrev t : TreeToken
    t = token_for kind

    top : (a : Node) × (past.tree.at ≡ Some a)
    top = open_at past.tree.at kind past.tree.nodes m

    abbrev last : Cell
    last = (top_row base past stands top.0 top.1).0

    abbrev row : Row
    row = new_row (flat base) (num last) kind [] []

    -- what `open_node` makes of them, where the new row gets the place, or none
    abbrev opened : Option ℕ → View
    opened o = record (flat base) { rows = with_new o row (flat base).rows; kept = with_new o row base.kept; nodes = v.nodes + 1; gone = v.gone ++ gone_new o v.nodes; taken = capped (v.taken + 0); most = most_new o (flat base) }

    -- nothing is kept at the new node, and what is kept at the others stays
    keeps : (o : Option ℕ) → KeepsAs (opened o) (past_grown t past)
    keeps None rows = kept_behind past stands.is_past kind k m top.0 top.1 gives v.spread base.kept (flat base).rows (flat_stands base past stands).rows stands.kept rows
    keeps (Some p) rows = kept_born past stands.is_past kind k m top.0 top.1 gives v.spread base.kept (flat base).rows (flat_stands base past stands).rows stands.kept (record { place = p; row = row }) stands.nodes refl rows

    stands_new : (o : Option ℕ) → Opened (flat base) (opened o) (num last) o kind [] [] → StandsFor (opened o) (past_grown t past)
    stands_new o c = stands_opened (flat base) (opened o) (num last) o kind [] [] (inner base past stands top.0 top.1) (found base past stands top.0 top.1) k c past (flat_stands base past stands) m (given_none past t (is_grown past stands.is_past) gives) (keeps o)

    fed : (w : View) → w.waiting ≡ [] → w.nodes ≡ v.nodes + 1 → w.spread ≡ v.spread → (o : Option ℕ) → map seen w.rows ≡ map seen (opened o).rows → map (λ c. c.row.roles) w.kept ≡ map (λ c. c.row.roles) (opened o).kept → StandsFor (opened o) (past_grown t past) → StandsFor w (past_fed t past)
    fed w i n f o e g s = record {
      is_past = past_feeds past stands.is_past t m;
      spread = subst (λ (z : Option SpreadView). SpreadsAs z past.plan) (sym f) stands.spread;
      rows = e ∙ s.rows;
      kept = subst (λ (z : Option SpreadView). map (λ c. c.row.roles) w.kept ≡ map (kept_set z (past_fed t past)) (held past.plan (grow t past.tree) past.acts)) (sym f)
          (g ∙ (s.kept ∙ map_same (kept_set v.spread (past_grown t past)) (kept_set v.spread (past_fed t past)) (held past.plan (grow t past.tree) past.acts) (λ n j. grown_fed v.spread past t n)));
      waiting = ap (map awaited_by) i ∙ sym ((waiting_law past stands.is_past).0 t);
      nodes = n ∙ s.nodes;
    }

  -- the serial of no row is that of the next node
  low : (c : Cell) → In c (flat base).rows → c.place < v.nodes
  low c i =
      let q = from_map own_place c base.rows i in
      let l = rows_low base past stands q.0 q.1 in
      let g : num q.0 ≡ c.place = ap (λ (z : Cell). z.place) q.2 in
      omega arith

  text_stays : (bytes : List ℕ) → false ≡ stays (Text bytes) [] []
  text_stays bytes = ap not (sym (eq-eqb _ 0 (len-empty nat_cmp)))

  opened_text : (bytes : List ℕ) (m : may_come (Chars bytes) past.tree ≡ true) (g : GivesNone past (Chars bytes)) → Opened (flat base) (opened (Text bytes) tt m g None) (num (last (Text bytes) tt m g)) None (Text bytes) [] []
  opened_text bytes m g = record { rows = refl; gone = refl; held = text_stays bytes; free = λ c i e. absurd (cc); waiting = refl; nodes = refl; taken = refl; most = refl; spread = refl }

  opened_element : (name : List ℕ) (m : may_come (Start name) past.tree ≡ true) (g : GivesNone past (Start name)) → Opened (flat base) (opened (Element name) tt m g (Some v.nodes)) (num (last (Element name) tt m g)) (Some v.nodes) (Element name) [] []
  opened_element name m g = record { rows = refl; gone = refl; held = refl; free = λ c i e. let l = low c i in let f = some_same v.nodes c.place e in absurd (omega arith); waiting = refl; nodes = refl; taken = refl; most = refl; spread = refl }
    where
      some_same : (x y : ℕ) → Some x ≡ Some y → x ≡ y
      some_same x y e = cc

  text_fed : (bytes : List ℕ) → may_come (Chars bytes) past.tree ≡ true → GivesNone past (Chars bytes) → StandsLoosely xs (record v { nodes = v.nodes + 1 }) (past_fed (Chars bytes) past)
  text_fed bytes m g ps e =
      fed (Text bytes) tt m g (with_passed ps xs (record v { nodes = v.nodes + 1 })) idle refl refl None
      (rows_same v.rows ps (places_of xs) xs e (places_length xs) ∙ sym (flat_seen base.rows))
      (kept_same v.kept v.rows ps (places_of xs) xs e (places_length xs))
      (stands_new (Text bytes) tt m g None (opened_text bytes m g))

  element_fed : (name : List ℕ) → may_come (Start name) past.tree ≡ true → GivesNone past (Start name) → StandsLoosely (xs ++ record { name = name; serial = v.nodes } ∷ []) (record v { nodes = v.nodes + 1 }) (past_fed (Start name) past)
  element_fed name m g ps e =
      fed (Element name) tt m g (with_passed ps (xs ++ x ∷ []) (record v { nodes = v.nodes + 1 })) idle refl refl (Some v.nodes)
      (rows_same v.rows ps (places_of xs ++ 0 ∷ []) (xs ++ x ∷ []) e (places_push xs 0 x)
      ∙ ap (map seen) (front_push v.rows v.rows xs 0 x)
      ∙ map-append seen base.rows (cell ∷ [])
      ∙ (λ z. sym (flat_seen base.rows) z ++ same z ∷ [])
      ∙ sym (map-append seen (flat base).rows (new ∷ [])))
      (kept_same v.kept v.rows ps (places_of xs ++ 0 ∷ []) (xs ++ x ∷ []) e (places_push xs 0 x)
      ∙ ap (map (λ (c : Cell). c.row.roles)) (front_push v.kept v.rows xs 0 x)
      ∙ map-append (λ (c : Cell). c.row.roles) base.kept (cell ∷ [])
      ∙ sym (map-append (λ (c : Cell). c.row.roles) base.kept (new ∷ [])))
      (stands_new (Element name) tt m g (Some v.nodes) (opened_element name m g))
    where
      x : Passed
      x = record { name = name; serial = v.nodes }

      cell : Cell
      cell = passed_cell (num_in (last_open base.rows)) (level_in (last_open base.rows)) 0 x

      new : Cell
      new = record { place = v.nodes; row = new_row (flat base) (num (last (Element name) tt m g)) (Element name) [] [] }

      a : Node
      a = (top (Element name) tt m g).0

      at : past.tree.at ≡ Some a
      at = (top (Element name) tt m g).1

      same : seen cell ≡ seen (record { place = v.nodes; row = new_row (flat base) (num (last (Element name) tt m g)) (Element name) [] [] })
      same =
          ap (λ o. seen (passed_cell (num_in o) (level_in o) 0 x)) (top_row base past stands a at).1
          ∙ sym (ap (λ o. seen (record { place = v.nodes; row = below_row (num_in o) (level_in o) v.nodes (Element name) (new_roles [] []) })) (found_own base past stands a at))

pub passes_text : PassesText
passes_text v xs past bytes h i m g = text_fed v xs past h i bytes m g

pub passes_element : PassesElement
passes_element v xs past name h i m g = element_fed v xs past h i name m g
