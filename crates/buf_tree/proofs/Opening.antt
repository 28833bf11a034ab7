-- A new node in the rows that a buffer stands for.
use Rattle.std.proofs.Common.{◌≡◌, ◌==◌, ℕ, suc, add-one, ◌+◌, ◌<◌, Bool, true, false, cond, not, ◌&&◌, ◌||◌, List, [], ◌∷◌, ◌++◌, length, map, drop, refl, sym, ◌∙◌, ap, subst, inl, inr, arith, Some, None, Option}
use Rattle.std.specs.Prelude.{is_some}
use Rattle.std.specs.List.{filter, list_any}
use Rattle.std.specs.Ordering.{nat_cmp}
use Rattle.std.specs.FinSet as set
use Rattle.std.specs.FinSet.{from_list, empty_of_len, len-empty}
use Rattle.std.proofs.lemmas.List.{map-append, length-append, append-nil}
use Rattle.std.proofs.lemmas.List.Elements.{filter-append}
use Rattle.std.proofs.lemmas.Bool.{or_left, or_right, or_cases, and_parts, and_from, false≢true, eqb-true, eq-eqb, ne_eqb, false_from_ne_true}
use Rattle.gcx_base.specs.declared.ids.Role.{Role}
use Rattle.gcx_base.specs.declared.kind.Kind.{Kind}
use Rattle.gcx_base.specs.declared.kind.Kind.TheVariants.{Document, Element, Text}
use Rattle.gcx_model.specs.Tree.{Tree, TreeToken, Node, Under, serial_of, within, is_open_at, grow, grow_at}
use Rattle.gcx_model.specs.Growth.{may_come, level}
use Rattle.gcx_model.specs.Paths.{any}
use Rattle.gcx_model.specs.Members.{count}
use Rattle.gcx_model.specs.Core.{OffTree}
use Rattle.gcx_model.specs.Run.{Action, Wrote, Offed}
use Rattle.gcx_model.specs.Placed.{is_own}
use Rattle.gcx_model.specs.Held.{given, taken, live, roles_live, is_live, is_held, held}
use Rattle.gcx_model.specs.Past.{Past, past_fed, open_nodes, awaited, waiting_offs, roles_signed, IsNode, past_grown, token_for}
use Rattle.tree_laws.proofs.Lists.{In, In-filter, In-kept, any_in, any_from, filter_same}
use Rattle.tree_laws.proofs.Matches.{Grown, added, added_at, grow_nodes, Numbered-high, Numbered-same}
use Rattle.past_laws.proofs.Bases.{is_grown}
use Rattle.past_laws.proofs.Changes.{filter_both, live_by_feed}
use Rattle.past_laws.proofs.Ahead.{new_unsigned}
use Rattle.past_laws.proofs.PastForms.{past_feeds}
use Rattle.past_laws.proofs.RowFacts.{open_behind}
use Rattle.past_laws.proofs.Awaited.{within_low}
use Rattle.gcx_base.specs.Kinds.{is_text}
use Rattle.base_laws.proofs.Members.{in_drop, flat_map_same, filter_all}
use Rattle.base_laws.proofs.Bools.{same_bools}
use Rattle.buf_tree.specs.Shape.{Cell, num, at_place}
use Rattle.buf_tree.specs.View.{View, Innermost, num_in, level_in}
use Rattle.buf_tree.specs.Calls.{Opened, numbers, less, new_roles, new_row, stays, with_new}
use Rattle.buf_tree.specs.Spread.{SpreadView, SpreadsAs}
use Rattle.buf_tree.specs.Stands.{Seen, seen, told, StandsFor, KeepsAs, GivenTo, awaited_by}
use Rattle.buf_tree.proofs.Standing.{pair_left, none_kept, none_passes, empty_list}
use Rattle.buf_tree.proofs.Feeding.{map_both, held_fed, row_same, top_is}

-- ---- lists

pub listed : (xs : List ℕ) (r : ℕ) → In r xs → list_any (λ y. y == r) xs ≡ true
listed [] r i = absurd i
listed (x ∷ xs) r (inl e) = or_left _ _ (eq-eqb x r e)
listed (x ∷ xs) r (inr i) = or_right _ _ (listed xs r i)

pub in_listed : (xs : List ℕ) (r : ℕ) → list_any (λ y. y == r) xs ≡ true → In r xs
in_listed [] r h = absurd (false≢true h)
in_listed (x ∷ xs) r h = elim (or_cases (x == r) (list_any (λ y. y == r) xs) h) [
  | inl e ↦ inl (eqb-true x r e)
  | inr k ↦ inr (in_listed xs r k)
]

-- those that pass the one test and not the other
pub less_filtered : (g t : ℕ → Bool) (cs : List ℕ) → less (filter g cs) (filter t cs) ≡ filter (λ r. g r && not (t r)) cs
less_filtered g t cs =
    filter_same (λ r. not (list_any (λ y. y == r) (filter t cs))) (λ r. not (t r)) (filter g cs) (λ r i. ap not (found r (In-filter g r cs i).0))
    ∙ sym (filter_both (λ r. not (t r)) g (λ r. g r && not (t r)) cs (λ r. refl))
  where
    found : (r : ℕ) → In r cs → list_any (λ y. y == r) (filter t cs) ≡ t r
    found r i = same_bools (list_any (λ y. y == r) (filter t cs)) (t r) (λ h. (In-filter t r cs (in_listed (filter t cs) r h)).1) (λ h. listed (filter t cs) r (In-kept t r cs i h))

-- ---- the new node

module _ (P : Tree) (w : Grown P) (a : Node) (at : P.at ≡ Some a) where
  abbrev new : Kind → Node
  new kind = Under a (length P.nodes) kind

  added_new : (kind : Kind) → IsNode kind → added (token_for kind) P ≡ new kind ∷ []
  added_new Document n = absurd n
  added_new (Element v) n = ap (λ o. added_at o (token_for (Element v)) P) at
  added_new (Text v) n = ap (λ o. added_at o (token_for (Text v)) P) at

  at_new : (kind : Kind) → IsNode kind → (grow (token_for kind) P).at ≡ cond (is_text kind) (Some a) (Some (new kind))
  at_new Document n = absurd n
  at_new (Element v) n = ap (λ o. (grow_at o (token_for (Element v)) P).at) at
  at_new (Text v) n = ap (λ o. (grow_at o (token_for (Text v)) P).at) at

  old_open : (kind : Kind) → IsNode kind → (n : Node) → In n P.nodes → is_open_at (grow (token_for kind) P).at (serial_of n) ≡ is_open_at P.at (serial_of n)
  old_open kind k n i = ap (λ o. is_open_at o (serial_of n)) (at_new kind k) ∙ go (is_text kind) ∙ ap (λ o. is_open_at o (serial_of n)) (sym at)
    where
      go : (b : Bool) → is_open_at (cond b (Some a) (Some (new kind))) (serial_of n) ≡ within (serial_of n) a
      go false = ap (λ b. b || within (serial_of n) a) (ne_eqb (length P.nodes) (serial_of n) (λ e. let l = Numbered-high 0 P.nodes w.numbered n i in absurd (omega arith)))
      go true = refl

  new_open : (kind : Kind) → IsNode kind → is_open_at (grow (token_for kind) P).at (length P.nodes) ≡ not (is_text kind)
  new_open kind k = ap (λ o. is_open_at o (length P.nodes)) (at_new kind k) ∙ go (is_text kind)
    where
      go : (b : Bool) → is_open_at (cond b (Some a) (Some (new kind))) (length P.nodes) ≡ not b
      go false = or_left _ _ (eq-eqb (length P.nodes) (length P.nodes) refl)
      go true = false_from_ne_true _ (λ e. let l = within_low P w (length P.nodes) a (w.at_in a at) e in let h = Numbered-high 0 P.nodes w.numbered a (w.at_in a at) in absurd (omega arith))

  open_new : (kind : Kind) → IsNode kind → open_nodes (grow (token_for kind) P) ≡ cond (is_text kind) (open_nodes P) (new kind ∷ open_nodes P)
  open_new Document n = absurd n
  open_new (Element v) n = ((open_behind P a at).0 v).1
  open_new (Text v) n = ((open_behind P a at).1 b_of).1
    where
      b_of : List ℕ
      b_of = v

module _ (v u : View) (q : ℕ) (at : Option ℕ) (kind : Kind) (gs as_ : List Role) (i : Innermost v.rows q) (here : at_place q v.rows ≡ Some i.cell) (k : IsNode kind) (c : Opened v u q at kind gs as_)
    (past : Past) (h : StandsFor v past) (m : may_come (token_for kind) past.tree ≡ true) (gv : GivenTo past (token_for kind) gs as_) where
  abbrev P : Tree
  P = past.tree

  abbrev t : TreeToken
  t = token_for kind

  abbrev Q : Tree
  Q = grow t P

  w : Grown P
  w = is_grown past h.is_past

  top : (a : Node) × (P.at ≡ Some a) × (serial_of a ≡ num i.cell)
  top = top_is v past q h i

  abbrev node : Node
  node = Under top.0 (length P.nodes) kind

  abbrev ns : List Node
  ns = held past.plan P past.acts

  abbrev kept : Node → Bool
  kept n = is_held past.plan Q past.acts n

  nodes_now : Q.nodes ≡ P.nodes ++ node ∷ []
  nodes_now = grow_nodes t P ∙ ap (λ z. P.nodes ++ z) (added_new P w top.0 top.1 kind k)

  drop_same : {X : Type 0} (xs ys : List X) → drop (length xs) (xs ++ ys) ≡ ys
  drop_same [] ys = refl
  drop_same (x ∷ xs) ys = drop_same xs ys

  opens : drop (length P.nodes) Q.nodes ≡ node ∷ []
  opens = ap (drop (length P.nodes)) nodes_now ∙ drop_same P.nodes (node ∷ [])

  abbrev cs : List ℕ
  cs = count 0 (length past.plan.roles)

  roles_now : less (numbers gs) (numbers as_) ≡ roles_live past.plan Q past.acts node
  roles_now =
      (λ z. less ((gv node opens).0 z) ((gv node opens).1 z))
      ∙ less_filtered (given past.plan Q node) (taken past.plan Q past.acts node) cs

  not_there : In node P.nodes → ⊥
  not_there j = let l = Numbered-high 0 P.nodes w.numbered node j in absurd (omega arith)

  in_now : In node Q.nodes
  in_now = subst (λ (zs : List Node). In node zs) (sym nodes_now) (last P.nodes)
    where
      last : (zs : List Node) → In node (zs ++ node ∷ [])
      last [] = inl refl
      last (z ∷ zs) = inr (last zs)

  unsigned_now : roles_signed past.plan past.acts node ≡ []
  unsigned_now = (new_unsigned past h.is_past t node (in_now, not_there)).1

  place_for_row : num_in (at_place q v.rows) ≡ serial_of top.0
  place_for_row = ap num_in here ∙ sym top.2

  parent_now : cond (v.nodes == 0) None (Some (num_in (at_place q v.rows))) ≡ Some (serial_of top.0)
  parent_now =
      ap (λ b. cond b None (Some (num_in (at_place q v.rows)))) (ne_eqb v.nodes 0 (λ e. let l = Numbered-high 0 P.nodes w.numbered top.0 (w.at_in top.0 top.1) in let z = h.nodes in absurd (omega arith)))
      ∙ ap (λ z. Some z) place_for_row

  level_now : level_in (at_place q v.rows) + 1 ≡ suc (level top.0)
  level_now =
      let r = pair_left seen (told past) v.rows ns h.rows i.cell i.among in
      let is : r.0 ≡ top.0 = Numbered-same 0 P.nodes w.numbered r.0 top.0 (In-filter (is_held past.plan P past.acts) r.0 P.nodes r.1).0 (w.at_in top.0 top.1) (sym (ap (λ (s : Seen). s.serial) r.2) ∙ sym top.2) in
      add-one (level_in (at_place q v.rows)) ∙ ap suc (ap level_in here ∙ ap (λ (s : Seen). s.level) r.2 ∙ ap level is)

  same : (p : ℕ) → seen (record { place = p; row = new_row v q kind gs as_ }) ≡ told (past_fed t past) node
  same p = λ z. record {
    serial = h.nodes z;
    level = level_now z;
    parent = parent_now z;
    kind = kind;
    is_open = sym (new_open P w top.0 top.1 kind k) z;
    roles = from_list {R = nat_cmp} (roles_now z);
    signed = from_list {R = nat_cmp} (sym unsigned_now z);
    covered = false;
  }

  each : (c : Cell) (n : Node) → In c v.rows → In n ns → seen c ≡ told past n → seen c ≡ told (past_fed t past) n
  each c n j z e = let f = (In-filter (is_held past.plan P past.acts) n P.nodes z).0 in e ∙ sym (row_same t past h.is_past n (is_open_at P.at (serial_of n)) f (old_open P w top.0 top.1 kind k n f))

  old_rows : map seen v.rows ≡ map (told (past_fed t past)) ns
  old_rows = map_both seen (told past) seen (told (past_fed t past)) v.rows ns h.rows each

  any_live : (n : Node) → In n P.nodes → is_live past.plan P past.acts n ≡ true → is_live past.plan Q past.acts n ≡ true
  any_live n j l =
      let r = any_in (live past.plan P past.acts n) cs l in
      any_from (live past.plan Q past.acts n) r.0 cs r.1 ((live_by_feed past h.is_past t n j).0 r.0 ∙ r.2)

  inside : (n : Node) → In n P.nodes → In n Q.nodes
  inside n j = subst (λ (zs : List Node). In n zs) (sym nodes_now) (front P.nodes j)
    where
      front : (zs : List Node) → In n zs → In n (zs ++ node ∷ [])
      front [] x = absurd x
      front (z ∷ zs) (inl e) = inl e
      front (z ∷ zs) (inr x) = inr (front zs x)

  still : (n : Node) → In n ns → kept n ≡ true
  still n j =
      let f = In-filter (is_held past.plan P past.acts) n P.nodes j in
      elim (or_cases (is_open_at P.at (serial_of n)) (any (λ x. within (serial_of n) x && is_live past.plan P past.acts x) P.nodes) f.1) [
        | inl o ↦ or_left _ _ (old_open P w top.0 top.1 kind k n f.0 ∙ o)
        | inr l ↦ (
            let r = any_in (λ (x : Node). within (serial_of n) x && is_live past.plan P past.acts x) P.nodes l in
            let a = and_parts (within (serial_of n) r.0) (is_live past.plan P past.acts r.0) r.2 in
            or_right _ _ (any_from (λ (x : Node). within (serial_of n) x && is_live past.plan Q past.acts x) r.0 Q.nodes (inside r.0 r.1) (and_from _ _ a.0 (any_live r.0 r.1 a.1))))
      ]

  -- the new node is held where it is open or a role is live at it
  kept_new : kept node ≡ (not (is_text kind) || is_live past.plan Q past.acts node)
  kept_new = ap (λ b. b || any (λ x. within (length P.nodes) x && is_live past.plan Q past.acts x) Q.nodes) (new_open P w top.0 top.1 kind k) ∙ ap (λ b. not (is_text kind) || b) (same_bools _ _ fwd bwd)
    where
      bwd : is_live past.plan Q past.acts node ≡ true → any (λ x. within (length P.nodes) x && is_live past.plan Q past.acts x) Q.nodes ≡ true
      bwd l = any_from (λ (x : Node). within (length P.nodes) x && is_live past.plan Q past.acts x) node Q.nodes in_now (and_from _ _ (or_left _ _ (eq-eqb (length P.nodes) (length P.nodes) refl)) l)

      alone : (x : Node) (zs : List Node) → ((y : Node) → In y zs → within (length P.nodes) y ≡ true → ⊥) → In x (zs ++ node ∷ []) → within (length P.nodes) x ≡ true → x ≡ node
      alone x [] f (inl e) i = sym e
      alone x [] f (inr z) i = absurd z
      alone x (z ∷ zs) f (inl e) i = absurd (f x (inl e) i)
      alone x (z ∷ zs) f (inr j) i = alone x zs (λ y l. f y (inr l)) j i

      fwd : any (λ x. within (length P.nodes) x && is_live past.plan Q past.acts x) Q.nodes ≡ true → is_live past.plan Q past.acts node ≡ true
      fwd l =
          let r = any_in (λ (x : Node). within (length P.nodes) x && is_live past.plan Q past.acts x) Q.nodes l in
          let a = and_parts (within (length P.nodes) r.0) (is_live past.plan Q past.acts r.0) r.2 in
          let is : r.0 ≡ node = alone r.0 P.nodes (λ y j e. let x = within_low P w (length P.nodes) y j e in let z = Numbered-high 0 P.nodes w.numbered y j in absurd (omega arith)) (subst (λ (zs : List Node). In r.0 zs) nodes_now r.1) a.0 in
          subst (λ (x : Node). is_live past.plan Q past.acts x ≡ true) is a.1

  len_zero : (xs : List ℕ) → (set.len (from_list {R = nat_cmp} xs) == 0) ≡ true → xs ≡ []
  len_zero xs e = empty_list xs (empty_of_len (from_list {R = nat_cmp} xs) (eqb-true _ 0 e))

  none_len : (xs : List ℕ) → xs ≡ [] → (set.len (from_list {R = nat_cmp} xs) == 0) ≡ true
  none_len xs e = ap (λ (ys : List ℕ). set.len (from_list {R = nat_cmp} ys) == 0) e ∙ eq-eqb _ 0 (len-empty nat_cmp)

  live_len : (set.len (new_roles gs as_) == 0) ≡ not (is_live past.plan Q past.acts node)
  live_len = same_bools _ _
      (λ e. ap not (none_passes (live past.plan Q past.acts node) cs (sym roles_now ∙ len_zero (less (numbers gs) (numbers as_)) e)))
      (λ e. none_len (less (numbers gs) (numbers as_)) (roles_now ∙ none_kept (live past.plan Q past.acts node) cs (flip _ e)))
    where
      flip : (b : Bool) → not b ≡ true → b ≡ false
      flip true e = absurd (false≢true e)
      flip false e = refl

  kept_stays : kept node ≡ stays kind gs as_
  kept_stays = kept_new ∙ go (is_text kind) (is_live past.plan Q past.acts node) ∙ ap (λ b. not (is_text kind && b)) (sym live_len)
    where
      go : (a b : Bool) → (not a || b) ≡ not (a && not b)
      go true true = refl
      go true false = refl
      go false true = refl
      go false false = refl

  held_now : filter kept (ns ++ added t P) ≡ ns ++ cond (is_some at) (node ∷ []) []
  held_now =
      ap (λ z. filter kept (ns ++ z)) (added_new P w top.0 top.1 kind k)
      ∙ filter-append kept ns (node ∷ [])
      ∙ (λ z. filter_all kept ns still z ++ cond ((kept_stays ∙ sym c.held) z) (node ∷ []) [])

  rows_now : (o : Option ℕ) → map seen (with_new o (new_row v q kind gs as_) v.rows) ≡ map (told (past_fed t past)) (ns ++ cond (is_some o) (node ∷ []) [])
  rows_now None = old_rows ∙ ap (map (told (past_fed t past))) (sym (append-nil ns))
  rows_now (Some p) =
      map-append seen v.rows (record { place = p; row = new_row v q kind gs as_ } ∷ [])
      ∙ (λ z. old_rows z ++ same p z ∷ [])
      ∙ sym (map-append (told (past_fed t past)) ns (node ∷ []))

  still_waits : waiting_offs (past_grown t past) ≡ waiting_offs past
  still_waits = flat_map_same (awaited Q) (awaited P) (drop past.fed past.acts) (λ x j. wait x (in_drop past.fed x past.acts j))
    where
      go : (o : OffTree) (s : ℕ) → s < length P.nodes → (b : Bool) → filter (λ n. serial_of n == s) (cond b (open_nodes P) (node ∷ open_nodes P)) ≡ filter (λ n. serial_of n == s) (open_nodes P)
      go o s l true = refl
      go o s l false = ap (λ b. cond b (node ∷ filter (λ n. serial_of n == s) (open_nodes P)) (filter (λ n. serial_of n == s) (open_nodes P))) (ne_eqb (length P.nodes) s (λ e. absurd (omega arith)))

      wait : (x : Action) → In x past.acts → awaited Q x ≡ awaited P x
      wait (Wrote b) j = refl
      wait (Offed o s) j =
          let r = (h.is_past.stated o s j).1 in
          let l = Numbered-high 0 P.nodes w.numbered r.0 (In-filter _ r.0 P.nodes r.1).0 in
          let e = r.2 in
          let low : s < length P.nodes = omega arith in
          ap (λ zs. cond (is_own o) [] (map (λ n. record { level = level n; off = o }) (filter (λ n. serial_of n == s) zs))) (open_new P w top.0 top.1 kind k)
          ∙ ap (λ zs. cond (is_own o) [] (map (λ n. record { level = level n; off = o }) zs)) (go o s low (is_text kind))

  pub stands_opened : KeepsAs u (past_grown (token_for kind) past) → StandsFor u (past_grown (token_for kind) past)
  stands_opened keep =
      let fed = past_feeds past h.is_past t m in
      let rows : map seen u.rows ≡ map (told (past_fed t past)) (held past.plan Q past.acts) = ap (map seen) c.rows ∙ rows_now at ∙ ap (map (told (past_fed t past))) (sym (held_fed t past h.is_past ∙ held_now)) in
      record {
        is_past = record { core = fed.core; good = fed.good; placed = fed.placed; grown = fed.grown; stated = fed.stated; within = h.is_past.within };
        spread = subst (λ (z : Option SpreadView). SpreadsAs z past.plan) (sym c.spread) h.spread;
        rows = rows;
        kept = keep rows;
        waiting = ap (map awaited_by) c.waiting ∙ h.waiting ∙ sym still_waits;
        nodes = c.nodes ∙ ap (λ z. z + 1) h.nodes ∙ sym (ap length nodes_now ∙ length-append P.nodes (node ∷ []));
      }
