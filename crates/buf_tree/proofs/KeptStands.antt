-- What is kept at the rows behind a token and behind an action is what is kept at the nodes.
use Rattle.std.proofs.Common.{◌≡◌, ◌==◌, ℕ, Bool, true, false, cond, not, ◌&&◌, List, [], ◌∷◌, length, map, refl, sym, ◌∙◌, ap, inl, inr, ◌⊎◌, Some, None, Option}
use Rattle.std.specs.List.{filter}
use Rattle.std.specs.Ordering.{nat_cmp}
use Rattle.std.specs.FinSet.{FinSet, from_list, contains, remove}
use Rattle.std.proofs.lemmas.Bool.{and_parts, and_from}
use Rattle.gcx_model.specs.Tree.{Node, TreeToken, serial_of, grow}
use Rattle.gcx_model.specs.Members.{count}
use Rattle.gcx_model.specs.Core.{OffTree}
use Rattle.gcx_model.specs.Run.{Offed}
use Rattle.gcx_model.specs.Placed.{offs_in}
use Rattle.gcx_model.specs.Held.{live, held, is_held}
use Rattle.gcx_model.specs.Past.{Past, IsPast, past_fed, past_acted}
use Rattle.tree_laws.proofs.Lists.{In, In-filter, In-kept, filter_same}
use Rattle.tree_laws.proofs.Matches.{Numbered-same}
use Rattle.past_laws.specs.Pasts.{bases}
use Rattle.past_laws.proofs.Bases.{is_grown}
use Rattle.past_laws.proofs.Changes.{live_by_feed, roles_by_act}
use Rattle.spread_laws.specs.Tops.{is_kept_at}
use Rattle.spread_laws.proofs.Opened.{kept_by_feed}
use Rattle.spread_laws.proofs.Acted.{kept_by_act}
use Rattle.buf_tree.specs.Shape.{Cell, num}
use Rattle.buf_tree.specs.Spread.{SpreadView, is_spread_in, kept_roles, seen_rows}
use Rattle.buf_tree.specs.Stands.{Seen, seen, told}
use Rattle.buf_tree.proofs.Bridging.{has_from}
use Rattle.buf_tree.proofs.Changes.{map-map}
use Rattle.buf_tree.proofs.Feeding.{map_both}
use Rattle.buf_tree.proofs.Lifting.{seen_is}
use Rattle.buf_tree.proofs.Signing.{has_listed}
use Rattle.buf_tree.proofs.Spreading.{Upward, spread_cell, in_remove, same_roles}
use Rattle.buf_tree.proofs.Standing.{pair_left}

abbrev pub kept_set : Option SpreadView → Past → Node → FinSet nat_cmp
kept_set s past n = from_list {R = nat_cmp} (kept_roles s past n)

-- ---- rows and nodes, one for one by their numbers

both_maps : {X Y A B : Type 0} (f : X → A) (g : Y → A) (f' : X → B) (g' : Y → B) (xs : List X) (ys : List Y) → map f xs ≡ map g ys → map f' xs ≡ map g' ys → map {B = A × B} (λ x. (f x, f' x)) xs ≡ map (λ y. (g y, g' y)) ys
both_maps f g f' g' [] [] e h = refl
both_maps f g f' g' [] (y ∷ ys) e h = absurd (cc)
both_maps f g f' g' (x ∷ xs) [] e h = absurd (cc)
both_maps {X} {Y} {A} {B} f g f' g' (x ∷ xs) (y ∷ ys) e h =
    let a : f x ≡ g y = cc in
    let b : map f xs ≡ map g ys = cc in
    let c : f' x ≡ g' y = cc in
    let d : map f' xs ≡ map g' ys = cc in
    λ t. (a t, c t) ∷ both_maps f g f' g' xs ys b d t

pub kept_nums : (s : Option SpreadView) (ks : List Cell) → Upward [] ks → map num ks ≡ map num (seen_rows s ks)
kept_nums s ks u = sym (map-map (spread_cell (is_spread_in s) (seen_rows s ks)) num ks) ∙ sym (ap (map num) (seen_is s ks u))

pub nums_told : (past : Past) (rs : List Cell) (ns : List Node) → map seen rs ≡ map (told past) ns → map num rs ≡ map serial_of ns
nums_told past rs ns e = map_both seen (told past) num serial_of rs ns e (λ c n i j h. ap (λ (z : Seen). z.serial) h)

module _ (s : Option SpreadView) (past : Past) (ks rs : List Cell) (ns : List Node) (nums : map num ks ≡ map num rs) (rows : map seen rs ≡ map (told past) ns) where
  -- what is kept at each row is what is kept at the node of its number,
  pub kept_at : map (λ c. c.row.roles) ks ≡ map (kept_set s past) ns → IsPast past → ((n : Node) → In n ns → In n past.tree.nodes) → (c : Cell) (n : Node) → In c ks → In n ns → num c ≡ serial_of n → c.row.roles ≡ kept_set s past n
  kept_at e is inside c n i j h =
      let r = pair_left (λ (d : Cell). (num d, d.row.roles)) (λ (m : Node). (serial_of m, kept_set s past m)) ks ns (both_maps num serial_of (λ (d : Cell). d.row.roles) (kept_set s past) ks ns (nums ∙ nums_told past rs ns rows) e) c i in
      let same : r.0 ≡ n = Numbered-same 0 past.tree.nodes (is_grown past is).numbered r.0 n (inside r.0 r.1) (inside n j) (sym (ap (λ z. z.0) r.2) ∙ h) in
      ap (λ z. z.1) r.2 ∙ ap (kept_set s past) same

  -- and where it is, it is so for all of them
  pub kept_all : ((c : Cell) (n : Node) → In c ks → In n ns → num c ≡ serial_of n → c.row.roles ≡ kept_set s past n) → map (λ c. c.row.roles) ks ≡ map (kept_set s past) ns
  kept_all h = map_both num serial_of (λ (c : Cell). c.row.roles) (kept_set s past) ks ns (nums ∙ nums_told past rs ns rows) h

-- ---- behind a token

pub kept_fed : (s : Option SpreadView) (past : Past) → IsPast past → (t : TreeToken) (n : Node) → In n past.tree.nodes → kept_roles s (past_fed t past) n ≡ kept_roles s past n
kept_fed None past is t n i = filter_same (live past.plan (grow t past.tree) past.acts n) (live past.plan past.tree past.acts n) (count 0 (length past.plan.roles)) (λ r k. (live_by_feed past is t n i).0 r)
kept_fed (Some v) past is t n i = (kept_by_feed past is t n i).1

-- ---- behind an action

less_one : (xs : List ℕ) (k : ℕ) → from_list {R = nat_cmp} (filter (λ r. not (r == k)) xs) ≡ remove (from_list xs) k
less_one xs k =
    same_roles (from_list {R = nat_cmp} (filter (λ r. not (r == k)) xs)) (remove (from_list xs) k) (λ q.
    has_listed (filter (λ r. not (r == k)) xs) q (not (q == k) && contains (from_list {R = nat_cmp} xs) q)
    (λ i. let f = In-filter (λ r. not (r == k)) q xs i in and_from _ _ f.1 (has_listed xs q true (λ j. refl) (λ e. f.0)))
    (λ h. let a = and_parts (not (q == k)) (contains (from_list {R = nat_cmp} xs) q) h in In-kept (λ r. not (r == k)) q xs (has_from xs q a.1) a.0)
    ∙ sym (in_remove (from_list xs) k q))

-- the role is kept at the node then
abbrev pub keeps_then : Option SpreadView → Past → Node → (role : ℕ) → Bool
keeps_then None past n r = live past.plan past.tree past.acts n r
keeps_then (Some v) past n r = is_kept_at past n r

pub kept_acted : (s : Option SpreadView) (past : Past) → IsPast past → (o : OffTree) → In o (offs_in past.plan.body) → (m : Node) → In m (bases past o) → (n : Node) → In n past.tree.nodes
    → kept_set s (past_acted (Offed o (serial_of m)) past) n ≡ cond (keeps_then s (past_acted (Offed o (serial_of m)) past) n o.role) (kept_set s past n) (remove (kept_set s past n) o.role)
kept_acted s past is o j m b n i = ap (λ zs. from_list {R = nat_cmp} zs) (roles s) ∙ sets (keeps_then s (past_acted (Offed o (serial_of m)) past) n o.role)
  where
    roles : (s : Option SpreadView) → kept_roles s (past_acted (Offed o (serial_of m)) past) n ≡ cond (keeps_then s (past_acted (Offed o (serial_of m)) past) n o.role) (kept_roles s past n) (filter (λ r. not (r == o.role)) (kept_roles s past n))
    roles None = roles_by_act past is o j m b n i
    roles (Some v) = kept_by_act past is o j m b n i

    sets : (c : Bool) → from_list {R = nat_cmp} (cond c (kept_roles s past n) (filter (λ r. not (r == o.role)) (kept_roles s past n))) ≡ cond c (kept_set s past n) (remove (kept_set s past n) o.role)
    sets true = refl
    sets false = less_one (kept_roles s past n) o.role

-- ---- behind a call

-- Each row kept then is a row kept before, with its roles, or has what is kept at its node: so they all have.
module _ (s : Option SpreadView) (past now : Past) (is : IsPast past) (is_now : IsPast now) (more : (n : Node) → In n past.tree.nodes → In n now.tree.nodes) (same : (n : Node) → In n past.tree.nodes → kept_roles s now n ≡ kept_roles s past n)
    (ks rs ks' rs' : List Cell) (nums : map num ks ≡ map num rs) (rows : map seen rs ≡ map (told past) (held past.plan past.tree past.acts)) (kept : map (λ c. c.row.roles) ks ≡ map (kept_set s past) (held past.plan past.tree past.acts)) (nums' : map num ks' ≡ map num rs') where
  abbrev ns : List Node
  ns = held past.plan past.tree past.acts

  abbrev ms : List Node
  ms = held now.plan now.tree now.acts

  inside : (n : Node) → In n (held past.plan past.tree past.acts) → In n past.tree.nodes
  inside n i = (In-filter (is_held past.plan past.tree past.acts) n past.tree.nodes i).0

  inside_now : (n : Node) → In n (held now.plan now.tree now.acts) → In n now.tree.nodes
  inside_now n i = (In-filter (is_held now.plan now.tree now.acts) n now.tree.nodes i).0

  -- the row stood before, with the same roles
  abbrev pub Stayed : Cell → Type 0
  Stayed c = (d : Cell) × In d ks × (num d ≡ num c) × (c.row.roles ≡ d.row.roles)

  stayed : (c : Cell) (n : Node) → In n (held now.plan now.tree now.acts) → num c ≡ serial_of n → Stayed c → c.row.roles ≡ kept_set s now n
  stayed c n j e d =
      let r = pair_left num serial_of ks ns (nums ∙ nums_told past rs ns rows) d.0 d.1 in
      let then_ : d.0.row.roles ≡ kept_set s past r.0 = kept_at s past ks rs ns nums rows kept is inside d.0 r.0 d.1 r.1 r.2 in
      let is_n : r.0 ≡ n = Numbered-same 0 now.tree.nodes (is_grown now is_now).numbered r.0 n (more r.0 (inside r.0 r.1)) (inside_now n j) (sym r.2 ∙ (d.2 ∙ e)) in
      d.3 ∙ (then_ ∙ (sym (ap (λ zs. from_list {R = nat_cmp} zs) (same r.0 (inside r.0 r.1))) ∙ ap (kept_set s now) is_n))

  pub kept_moved : ((c : Cell) → In c ks' → Stayed c ⊎ ((n : Node) → In n (held now.plan now.tree now.acts) → num c ≡ serial_of n → c.row.roles ≡ kept_set s now n)) → map seen rs' ≡ map (told now) (held now.plan now.tree now.acts)
      → map (λ c. c.row.roles) ks' ≡ map (kept_set s now) (held now.plan now.tree now.acts)
  kept_moved from rows' = kept_all s now ks' rs' ms nums' rows' (λ c n i j e. elim (from c i) [ inl d ↦ stayed c n j e d | inr h ↦ h n j e ])
