-- The end of the innermost open element, where that has no role and its row is the last one: no other row goes with it.
use Rattle.std.proofs.Common.{◌≡◌, ℕ, ◌<◌, ◌≤◌, Bool, true, false, cond, ◌&&◌, List, [], ◌∷◌, ◌++◌, length, map, refl, sym, ◌∙◌, ap, subst, inl, inr, arith, Some, None, Option}
use Rattle.std.specs.List.{filter}
use Rattle.std.specs.Ordering.{nat_cmp}
use Rattle.std.specs.FinSet as set
use Rattle.std.specs.FinSet.{from_list}
use Rattle.std.proofs.lemmas.List.{append-nil}
use Rattle.std.proofs.lemmas.List.Elements.{filter-append}
use Rattle.std.proofs.lemmas.Bool.{or_cases, or_left, or_right, or_from, and_parts, and_from, false≢true, true≢false, eq-eqb, ne_eqb, false_from_ne_true}
use Rattle.gcx_model.specs.Tree.{Tree, Node, End, serial_of, within, is_open_at, grow}
use Rattle.gcx_model.specs.Growth.{may_come, may_come_at}
use Rattle.gcx_model.specs.Nodes.{Rising as RisingNodes}
use Rattle.gcx_model.specs.Paths.{any}
use Rattle.gcx_model.specs.Members.{count}
use Rattle.gcx_model.specs.Held.{live, is_live, roles_live, is_held, held}
use Rattle.gcx_model.specs.Past.{Past, past_fed}
use Rattle.base_laws.proofs.Lists.{nil_cons, cons_head, cons_tail}
use Rattle.base_laws.proofs.Members.{filter_all, map_same}
use Rattle.tree_laws.proofs.Lists.{In, In-left, In-append, In-filter, In-kept, any_in, any_from}
use Rattle.tree_laws.proofs.Matches.{Grown, Numbered-same, Rising-filter, grow_nodes}
use Rattle.tree_laws.proofs.Freeze.{within_self}
use Rattle.past_laws.proofs.Changes.{live_by_feed}
use Rattle.past_laws.proofs.Awaited.{waiting_law, within_low}
use Rattle.past_laws.proofs.PastForms.{past_feeds}
use Rattle.past_laws.proofs.Bases.{is_grown}
use Rattle.buf_tree.specs.Shape.{Cell}
use Rattle.buf_tree.specs.View.{View, num_in, level_in}
use Rattle.buf_tree.specs.Stands.{Seen, seen, told, StandsFor, awaited_by}
use Rattle.buf_tree.specs.Loose.{last_open, passed_cell, cells_passed, with_passed, EndsPassed}
use Rattle.buf_tree.proofs.Standing.{empty_list, none_passes}
use Rattle.buf_tree.proofs.Feeding.{map_both, at_held, held_fed, row_same, is_top, end_open, added_end}
use Rattle.buf_tree.proofs.KeptStands.{kept_set, kept_fed}
use Rattle.buf_tree.proofs.PassedRows.{rows_same, kept_same, places_of, places_length, places_push, front_push}

-- lists that agree member by member do so before the last one
module _ {S X Y : Type 0} (f : X → S) (g : Y → S) where
  split_last : (xs : List X) (x : X) (ys : List Y) → map f (xs ++ x ∷ []) ≡ map g ys → (zs : List Y) × (y : Y) × (ys ≡ zs ++ y ∷ []) × (map f xs ≡ map g zs) × (f x ≡ g y)
  split_last [] x [] e = absurd (nil_cons (f x) [] (sym e))
  split_last [] x (y ∷ []) e = ([], y, refl, refl, cons_head _ _ _ _ e)
  split_last [] x (y ∷ (z ∷ ys)) e = absurd (nil_cons (g z) (map g ys) (cons_tail _ _ _ _ e))
  split_last (w ∷ xs) x [] e = absurd (nil_cons (f w) (map f (xs ++ x ∷ [])) (sym e))
  split_last (w ∷ xs) x (y ∷ ys) e =
      let r = split_last xs x ys (cons_tail _ _ _ _ e) in
      let top : f w ≡ g y = cons_head _ _ _ _ e in
      (y ∷ r.0, r.1, ap (λ z. y ∷ z) r.2, (λ t. top t ∷ r.3 t), r.4)

-- and one list has one front
one_front : {X : Type 0} (xs ys : List X) (x y : X) → xs ++ x ∷ [] ≡ ys ++ y ∷ [] → xs ≡ ys
one_front [] [] x y e = refl
one_front {X = X} [] (z ∷ ys) x y e = absurd (no_end ys y (cons_tail _ _ _ _ e))
  where
    no_end : (zs : List X) (z : X) → [] ≡ zs ++ z ∷ [] → ⊥
    no_end [] z h = nil_cons z [] h
    no_end (w ∷ zs) z h = nil_cons w (zs ++ z ∷ []) h
one_front {X = X} (z ∷ xs) [] x y e = absurd (no_end xs x (sym (cons_tail _ _ _ _ e)))
  where
    no_end : (zs : List X) (z : X) → [] ≡ zs ++ z ∷ [] → ⊥
    no_end [] z h = nil_cons z [] h
    no_end (w ∷ zs) z h = nil_cons w (zs ++ z ∷ []) h
one_front (z ∷ xs) (w ∷ ys) x y e = λ t. cons_head _ _ _ _ e t ∷ one_front xs ys x y (cons_tail _ _ _ _ e) t

below_last : (ns : List Node) (n : Node) → RisingNodes (ns ++ n ∷ []) → (m : Node) → In m ns → serial_of m < serial_of n
below_last [] n r m i = absurd i
below_last (x ∷ ns) n r m (inl e) = let l = r.0 n (last ns) in let f = ap serial_of e in omega arith
  where
    last : (zs : List Node) → In n (zs ++ n ∷ [])
    last [] = inl refl
    last (z ∷ zs) = inr (last zs)
below_last (x ∷ ns) n r m (inr i) = below_last ns n r.1 m i

-- ---- the end

open_at : (o : Option Node) (ns : List Node) → may_come_at o End ns ≡ true → (a : Node) × (o ≡ Some a)
open_at None ns m = absurd (false≢true m)
open_at (Some a) ns m = (a, refl)

module _ (v : View) (rs ks : List Cell) (c d : Cell) (open_row : c.row.is_open ≡ true) (roles : c.row.roles ≡ set.empty) (past : Past) (h : StandsFor (record v { rows = rs ++ c ∷ []; kept = ks ++ d ∷ [] }) past) (m : may_come End past.tree ≡ true) where
  abbrev P : Tree
  P = past.tree

  abbrev Q : Tree
  Q = grow End P

  w : Grown P
  w = is_grown past h.is_past

  abbrev ns : List Node
  ns = held past.plan P past.acts

  abbrev kept : Node → Bool
  kept n = is_held past.plan Q past.acts n

  top : (a : Node) × (P.at ≡ Some a)
  top = open_at P.at P.nodes m

  abbrev split : (zs : List Node) × (y : Node) × (ns ≡ zs ++ y ∷ []) × (map seen rs ≡ map (told past) zs) × (seen c ≡ told past y)
  split = split_last seen (told past) rs c ns h.rows

  abbrev zs : List Node
  zs = split.0

  abbrev node : Node
  node = split.1

  whole : ns ≡ zs ++ node ∷ []
  whole = split.2

  nodes_now : Q.nodes ≡ P.nodes
  nodes_now = grow_nodes End P ∙ ap (λ z. P.nodes ++ z) (added_end P) ∙ append-nil P.nodes

  low : (n : Node) → In n zs → serial_of n < serial_of node
  low = below_last zs node (subst (λ (xs : List Node). RisingNodes xs) whole (Rising-filter 0 (is_held past.plan P past.acts) P.nodes w.numbered))

  low_held : (n : Node) → In n ns → serial_of n ≤ serial_of node
  low_held n i = elim (In-append n zs (node ∷ []) (subst (λ (xs : List Node). In n xs) whole i)) [
    | inl j ↦ (let l = low n j in omega arith)
    | inr j ↦ elim j [ inl e ↦ (let f = ap serial_of e in omega arith) | inr x ↦ absurd x ]
  ]

  among : In node ns
  among = subst (λ (xs : List Node). In node xs) (sym whole) (last zs)
    where
      last : (xs : List Node) → In node (xs ++ node ∷ [])
      last [] = inl refl
      last (x ∷ xs) = inr (last xs)

  inside : (n : Node) → In n ns → In n P.nodes
  inside n i = (In-filter (is_held past.plan P past.acts) n P.nodes i).0

  before : (n : Node) → In n zs → In n ns
  before n i = subst (λ (xs : List Node). In n xs) (sym whole) (In-left n zs (node ∷ []) i)

  -- the last row is that of the innermost open node
  top_last : serial_of top.0 ≡ serial_of node
  top_last =
      let l = low_held top.0 (at_held past h.is_past top.0 top.1) in
      let o : within (serial_of node) top.0 ≡ true = ap (λ o. is_open_at o (serial_of node)) (sym top.1) ∙ sym (ap (λ (s : Seen). s.is_open) split.4) ∙ open_row in
      let g = within_low P w (serial_of node) top.0 (w.at_in top.0 top.1) o in
      omega arith

  open_now : (n : Node) → In n zs → is_open_at Q.at (serial_of n) ≡ is_open_at P.at (serial_of n)
  open_now n i = end_open P w (serial_of n) ∙ ap (λ b. cond b false (is_open_at P.at (serial_of n))) (ap (λ o. is_top o (serial_of n)) top.1 ∙ ne_eqb (serial_of top.0) (serial_of n) (λ e. let l = low n i in let t = top_last in absurd (omega arith)))

  closed_now : is_open_at Q.at (serial_of node) ≡ false
  closed_now = end_open P w (serial_of node) ∙ ap (λ b. cond b false (is_open_at P.at (serial_of node))) (ap (λ o. is_top o (serial_of node)) top.1 ∙ eq-eqb (serial_of top.0) (serial_of node) top_last)

  abbrev cs : List ℕ
  cs = count 0 (length past.plan.roles)

  live_now : (n : Node) → In n P.nodes → is_live past.plan P past.acts n ≡ true → is_live past.plan Q past.acts n ≡ true
  live_now n j l =
      let r = any_in (live past.plan P past.acts n) cs l in
      any_from (live past.plan Q past.acts n) r.0 cs r.1 ((live_by_feed past h.is_past End n j).0 r.0 ∙ r.2)

  live_then : (n : Node) → In n P.nodes → is_live past.plan Q past.acts n ≡ true → is_live past.plan P past.acts n ≡ true
  live_then n j l =
      let r = any_in (live past.plan Q past.acts n) cs l in
      any_from (live past.plan P past.acts n) r.0 cs r.1 (sym ((live_by_feed past h.is_past End n j).0 r.0) ∙ r.2)

  still : (n : Node) → In n zs → kept n ≡ true
  still n i =
      let f = In-filter (is_held past.plan P past.acts) n P.nodes (before n i) in
      elim (or_cases (is_open_at P.at (serial_of n)) (any (λ x. within (serial_of n) x && is_live past.plan P past.acts x) P.nodes) f.1) [
        | inl o ↦ or_left _ _ (open_now n i ∙ o)
        | inr l ↦ (
            let r = any_in (λ (x : Node). within (serial_of n) x && is_live past.plan P past.acts x) P.nodes l in
            let a = and_parts (within (serial_of n) r.0) (is_live past.plan P past.acts r.0) r.2 in
            or_right _ _ (any_from (λ (x : Node). within (serial_of n) x && is_live past.plan Q past.acts x) r.0 Q.nodes (subst (λ (xs : List Node). In r.0 xs) (sym nodes_now) r.1) (and_from _ _ a.0 (live_now r.0 r.1 a.1))))
      ]

  not_live : is_live past.plan P past.acts node ≡ false
  not_live = none_passes (live past.plan P past.acts node) cs (empty_list (roles_live past.plan P past.acts node) (sym (ap (λ (s : Seen). s.roles) split.4) ∙ roles))

  -- below it nothing has a role
  gone : kept node ≡ false
  gone = or_from _ _ closed_now (false_from_ne_true _ (λ l.
      let r = any_in (λ (x : Node). within (serial_of node) x && is_live past.plan Q past.acts x) Q.nodes l in
      let a = and_parts (within (serial_of node) r.0) (is_live past.plan Q past.acts r.0) r.2 in
      let i : In r.0 P.nodes = subst (λ (xs : List Node). In r.0 xs) nodes_now r.1 in
      let d = live_then r.0 i a.1 in
      let k : is_held past.plan P past.acts r.0 ≡ true = or_right _ _ (any_from (λ (x : Node). within (serial_of r.0) x && is_live past.plan P past.acts x) r.0 P.nodes i (and_from _ _ (within_self (serial_of r.0) r.0 (eq-eqb _ _ refl)) d)) in
      let up = low_held r.0 (In-kept (is_held past.plan P past.acts) r.0 P.nodes i k) in
      let down = within_low P w (serial_of node) r.0 i a.0 in
      let is : r.0 ≡ node = Numbered-same 0 P.nodes w.numbered r.0 node i (inside node among) (omega arith) in
      true≢false (sym (subst (λ (x : Node). is_live past.plan P past.acts x ≡ true) is d) ∙ not_live)))

  held_now : held past.plan Q past.acts ≡ zs
  held_now =
      held_fed End past h.is_past
      ∙ ap (λ z. filter kept (ns ++ z)) (added_end P)
      ∙ ap (filter kept) (append-nil ns ∙ whole)
      ∙ filter-append kept zs (node ∷ [])
      ∙ (λ t. filter_all kept zs still t ++ cond (gone t) (node ∷ []) [])
      ∙ append-nil zs

  rows_now : map seen rs ≡ map (told (past_fed End past)) (held past.plan Q past.acts)
  rows_now =
      map_both seen (told past) seen (told (past_fed End past)) rs zs split.3 (λ d n i j e. e ∙ sym (row_same End past h.is_past n (is_open_at P.at (serial_of n)) (inside n (before n j)) (open_now n j)))
      ∙ ap (map (told (past_fed End past))) (sym held_now)

  -- what is kept at the others stays
  kept_front : map (λ (x : Cell). x.row.roles) ks ≡ map (kept_set v.spread past) zs
  kept_front =
      let r = split_last (λ (x : Cell). x.row.roles) (kept_set v.spread past) ks d ns h.kept in
      r.3 ∙ ap (map (kept_set v.spread past)) (one_front r.0 zs r.1 node (sym r.2 ∙ whole))

  kept_now : map (λ (x : Cell). x.row.roles) ks ≡ map (kept_set v.spread (past_fed End past)) (held past.plan Q past.acts)
  kept_now =
      kept_front
      ∙ map_same (kept_set v.spread past) (kept_set v.spread (past_fed End past)) zs (λ n i. sym (ap (λ xs. from_list {R = nat_cmp} xs) (kept_fed v.spread past h.is_past End n (inside n (before n i)))))
      ∙ ap (map (kept_set v.spread (past_fed End past))) (sym held_now)

  ended : v.waiting ≡ [] → StandsFor (record v { rows = rs; kept = ks }) (past_fed End past)
  ended idle = record {
    is_past = past_feeds past h.is_past End m;
    spread = h.spread;
    rows = rows_now;
    kept = kept_now;
    waiting = ap (map awaited_by) idle ∙ sym ((waiting_law past h.is_past).0 End);
    nodes = h.nodes ∙ sym (ap length nodes_now);
  }

pub ends_passed : EndsPassed
ends_passed v xs x past h idle m ps e = record {
  is_past = now.is_past;
  spread = now.spread;
  rows = rows_same v.rows ps (places_of xs) xs e (places_length xs) ∙ now.rows;
  kept = kept_same v.kept v.rows ps (places_of xs) xs e (places_length xs) ∙ now.kept;
  waiting = now.waiting;
  nodes = now.nodes;
}
  where
    rs : List Cell
    rs = v.rows ++ cells_passed (places_of xs) xs v.rows

    ks : List Cell
    ks = v.kept ++ cells_passed (places_of xs) xs v.rows

    c : Cell
    c = passed_cell (num_in (last_open rs)) (level_in (last_open rs)) 0 x

    all : StandsFor (with_passed (places_of xs ++ 0 ∷ []) (xs ++ x ∷ []) v) past
    all = h (places_of xs ++ 0 ∷ []) (places_push xs 0 x)

    then_ : StandsFor (record v { rows = rs ++ c ∷ []; kept = ks ++ c ∷ [] }) past
    then_ = subst (λ (u : View). StandsFor u past) (λ t. record v { rows = front_push v.rows v.rows xs 0 x t; kept = front_push v.kept v.rows xs 0 x t }) all

    now : StandsFor (record v { rows = rs; kept = ks }) (past_fed End past)
    now = ended v rs ks c c refl refl past then_ m idle
