-- The rows of a slab's cells, and what each call makes of them.
use Rattle.std.proofs.Common.{◌≡◌, ◌+◌, ◌≤◌, ℕ, List, [], ◌∷◌, Option, Some, None, cond, refl, sym, ap, subst, ◌∙◌, arith, rules, inl, inr, count_by, is_some, map, true}
use Rattle.std.specs.Prelude.{option_map, IsSome, IfSome, slice_index_or}
use Rattle.std.specs.FinMap.{empty, get, len}
use Rattle.std.proofs.Math.ListN.{get_or-map}
use Rattle.std.proofs.lemmas.List.Sums.{sum_by-cons}
use Rattle.slab.specs.Slab.{Slab, slab_len}
use Rattle.slab.specs.Slab as slab
use Rattle.slab.proofs.SlabLemmas.{Updates-with_value}
use Rattle.std.proofs.lemmas.Bool.{cases_eq, eq-eqb, ne_eqb}
use Rattle.node_store.specs.declared.slab_nodes.Cell.{Cell}
use Rattle.node_store.specs.Rows.{StoreRow, Rows, with_payload, changed_at, planted, appended, unlinked, last_of, children_of, parent_of, is_listed, IsTree}
use Rattle.node_store.specs.Links.{Linked, linked_cell, rows_of, linked_at, Holds, altered, put, fresh_cell, with_last, with_paid, joined, IsSound}
use Rattle.node_store.specs.declared.store.Place.{Place}
use Rattle.node_store.specs.Slots.{index_of, linked_of, cells_of, links}
use Rattle.node_store.proofs.Maps.{some_row, is_there, parent_at, child_at, used_parent, used_child}
use Rattle.node_store.proofs.Siblings.{head_listed, last_listed, after_listed, before_listed}
use Rattle.node_store.proofs.Trees.{tree_empty, tree_planted, tree_appended, tree_unlinked, tree_paid, len_paid}
use Rattle.node_store.proofs.Held.{get_row, len_rows, rows_is, sound_of, holds_empty, holds_planted, holds_appended, holds_unlinked, holds_paid}

count_mapped : {X Y : Type 0} (f : X → Y) (xs : List (Option X)) → count_by is_some (map (option_map f) xs) ≡ count_by is_some xs
count_mapped f [] = refl
count_mapped {X} {Y} f (None ∷ xs) = omega (arith, count_mapped f xs, sum_by-cons (λ (o : Option X). cond (is_some o) 1 0) None xs, sum_by-cons (λ (o : Option Y). cond (is_some o) 1 0) None (map (option_map f) xs))
count_mapped {X} {Y} f (Some x ∷ xs) = omega (arith, count_mapped f xs, sum_by-cons (λ (o : Option X). cond (is_some o) 1 0) (Some x) xs, sum_by-cons (λ (o : Option Y). cond (is_some o) 1 0) (Some (f x)) (map (option_map f) xs))

module _ {T : Type 0} where
  pub cell_links : (s : Slab (Cell T)) (p : ℕ) → linked_cell (cells_of s) p ≡ links s p
  cell_links s p = get_or-map (option_map linked_of) s.slots p None

  pub len_slots : (s : Slab (Cell T)) → len (rows_of (cells_of s)) ≡ slab_len s
  len_slots s = len_rows (cells_of s) ∙ count_mapped linked_of s.slots

  -- links that hold a tree are sound, and tell its rows
  pub record Tells (s : Slab (Cell T)) (rows : Rows T) (root : Option ℕ) : Type 0 where
    pub rows_are : rows_of (cells_of s) ≡ rows
    pub sound : (most : ℕ) → slab_len s ≤ most → IsSound (cells_of s) root most

  pub tells : (s : Slab (Cell T)) (rows : Rows T) (root : Option ℕ) → Holds rows (links s) → IsTree rows root → Tells s rows root
  tells s rows root holds t =
      let held : Holds rows (linked_cell (cells_of s)) = λ p. cell_links s p ∙ holds p in
      let are = rows_is (cells_of s) rows root held t in
      record {
        rows_are = are;
        sound = λ most fits. sound_of (cells_of s) rows root held t most (subst (λ n. n ≤ most) (sym (len_slots s) ∙ ap len are) fits);
      }

  module _ (s : Slab (Cell T)) (root : Option ℕ) (most : ℕ) (sound : IsSound (cells_of s) root most) where
    abbrev rows : Rows T
    rows = rows_of (cells_of s)

    pub held : Holds rows (links s)
    held p = sym (cell_links s p) ∙ sound.holds p

    pub told_planted : (s' : Slab (Cell T)) (k : ℕ) (x : T) → rows ≡ empty → links s' ≡ put k (Some (fresh_cell None None x)) (links s) → Tells s' (planted rows k x) (Some k)
    told_planted s' k x none is =
        subst (λ m. Tells s' (planted m k x) (Some k)) (sym none)
        (tells s' (planted empty k x) (Some k)
        (subst (Holds (planted empty k x)) (sym is) (holds_planted (links s) k x (subst (λ m. Holds m (links s)) none held)))
        (tree_planted k x))

    -- a dead cell has no row, and a living one its row
    pub row_free : (k : ℕ) → links s k ≡ None → get rows k ≡ None
    row_free k none = get_row (cells_of s) k ∙ ap (option_map _) (cell_links s k ∙ none)

    pub told_appended : (s' : Slab (Cell T)) (q k : ℕ) (prev last : Option ℕ) (x : T) → IsSome (get rows q) → links s k ≡ None
        → ((e : StoreRow T) → get rows q ≡ Some e → last ≡ last_of e.children)
        → links s' ≡ joined (Some q) last (Some k) (altered (with_last (Some k)) q (put k (Some (fresh_cell (Some q) prev x)) (links s)))
        → Tells s' (appended rows q k x) root
    told_appended s' q k prev last x used none lasts is =
        let e = some_row (get rows q) used in
        let free = row_free k none in
        tells s' (appended rows q k x) root
        (subst (Holds (appended rows q k x)) (sym (is ∙ ap (λ l. joined (Some q) l (Some k) (altered (with_last (Some k)) q (put k (Some (fresh_cell (Some q) prev x)) (links s)))) (lasts e.0 e.1)))
        (holds_appended rows root q k x e.0 e.1 free sound.tree (links s) held prev))
        (tree_appended rows root q k x e.0 e.1 free sound.tree)

    pub told_unlinked : (s' : Slab (Cell T)) (k : ℕ) (m : Linked T) (e : StoreRow T) → get rows k ≡ Some e → e.children ≡ [] → links s k ≡ Some m
        → links s' ≡ joined m.parent m.prev m.next (put k None (links s))
        → Tells s' (unlinked rows k) (cond (is_some (parent_of rows k)) root None)
    told_unlinked s' k m e has childless there is =
        let some : Some m ≡ Some (linked_at rows k e) = sym there ∙ held k ∙ ap (option_map (linked_at rows k)) has in
        let same : m ≡ linked_at rows k e = search some in
        tells s' (unlinked rows k) (cond (is_some (parent_of rows k)) root None)
        (subst (Holds (unlinked rows k)) (sym (is ∙ ap (λ n. joined n.parent n.prev n.next (put k None (links s))) same))
        (holds_unlinked rows root k e has childless sound.tree (links s) held))
        (tree_unlinked rows root k e has childless sound.tree)

    pub told_paid : (s' : Slab (Cell T)) (k : ℕ) (x : T) → IsSome (get rows k) → links s' ≡ altered (with_paid x) k (links s) → Tells s' (changed_at (with_payload x) k rows) root
    told_paid s' k x used is =
        let e = some_row (get rows k) used in
        tells s' (changed_at (with_payload x) k rows) root
        (subst (Holds (changed_at (with_payload x) k rows)) (sym is) (holds_paid rows root k e.0 e.1 x (links s) held))
        (tree_paid rows root k e.0 e.1 x sound.tree)

  pub told_new : (s : Slab (Cell T)) → s.slots ≡ [] → Tells s empty None
  told_new s none = tells s empty None (holds_empty (links s) (λ p. ap (λ l. option_map linked_of (slice_index_or l p None)) none)) tree_empty

module _ {T : Type 0} (s : Slab (Cell T)) (root : Option ℕ) (most : ℕ) (sound : IsSound (cells_of s) root most) where
  abbrev here : Rows T
  here = rows_of (cells_of s)

  -- a cell in use keeps its row
  pub cell_is : (q : ℕ) (c : Cell T) → slab.get s q ≡ Some c → IsSome (get here q) → (e : StoreRow T) × (get here q ≡ Some e) × (linked_of c ≡ linked_at here q e)
  cell_is q c there used =
      let e = some_row (get here q) used in
      let some : Some (linked_of c) ≡ Some (linked_at here q e.0) =
      ap (option_map linked_of) (sym there) ∙ held s root most sound q ∙ ap (option_map (linked_at here q)) e.1 in
      (e.0, e.1, search some)

  places_used : (o : Option Place) → ((k : ℕ) → index_of o ≡ Some k → IsSome (get here k)) → IfSome o (λ p. IsSome (get here p.0))
  places_used None used = tt
  places_used (Some p) used = used p.0 refl

  pub parent_used : (q : ℕ) (c : Cell T) → slab.get s q ≡ Some c → IsSome (get here q) → IfSome c.parent (λ p. IsSome (get here p.0))
  parent_used q c there used =
      let is = cell_is q c there used in
      places_used c.parent (λ k e. used_parent here k q (sound.tree.up q k (parent_at here q is.0 is.1 ∙ sym (ap (λ m. m.parent) is.2) ∙ e)))

  pub first_used : (q : ℕ) (c : Cell T) → slab.get s q ≡ Some c → IsSome (get here q) → IfSome c.first (λ p. IsSome (get here p.0))
  first_used q c there used =
      let is = cell_is q c there used in
      places_used c.first (λ k e. used_child here k q (sound.tree.down k q (child_at here q k is.0 is.1 ∙ head_listed is.0.children k (sym (ap (λ m. m.first) is.2) ∙ e))))

  pub last_used : (q : ℕ) (c : Cell T) → slab.get s q ≡ Some c → IsSome (get here q) → IfSome c.last (λ p. IsSome (get here p.0))
  last_used q c there used =
      let is = cell_is q c there used in
      places_used c.last (λ k e. used_child here k q (sound.tree.down k q (child_at here q k is.0 is.1 ∙ last_listed is.0.children k (sym (ap (λ m. m.last) is.2) ∙ e))))

  beside_used : (k : ℕ) (a : Option ℕ) → is_listed k (children_of here a) ≡ true → IsSome (get here k)
  beside_used k None h = absurd (cc)
  beside_used k (Some a) h = used_child here k a (sound.tree.down k a h)

  pub next_used : (q : ℕ) (c : Cell T) → slab.get s q ≡ Some c → IsSome (get here q) → IfSome c.next (λ p. IsSome (get here p.0))
  next_used q c there used =
      let is = cell_is q c there used in
      places_used c.next (λ k e. beside_used k is.0.parent (after_listed q (children_of here is.0.parent) k (sym (ap (λ m. m.next) is.2) ∙ e)))

  pub prev_used : (q : ℕ) (c : Cell T) → slab.get s q ≡ Some c → IsSome (get here q) → IfSome c.prev (λ p. IsSome (get here p.0))
  prev_used q c there used =
      let is = cell_is q c there used in
      places_used c.prev (λ k e. beside_used k is.0.parent (before_listed q (children_of here is.0.parent) k (sym (ap (λ m. m.prev) is.2) ∙ e)))

-- a payload that is written behind `get_mut`
module _ {T : Type 0} where
  pub paid_links : (s : Slab (Cell T)) (k : ℕ) (c : Cell T) (x : T) → slab.get s k ≡ Some c → links (slab.with_value s k (record c { payload = x })) ≡ altered (with_paid x) k (links s)
  paid_links s k c x there = λ i p. at p i
    where
      updates : slab.Updates s (slab.with_value s k (record c { payload = x })) k (Some (record c { payload = x }))
      updates = Updates-with_value s k (record c { payload = x }) (subst (λ o. IsSome o) (sym there) (search rules))

      at : (p : ℕ) → links (slab.with_value s k (record c { payload = x })) p ≡ altered (with_paid x) k (links s) p
      at p = elim (cases_eq p k) [
        | inl pk ↦
            ap (λ q. option_map linked_of (slab.get (slab.with_value s k (record c { payload = x })) q)) pk
            ∙ ap (option_map linked_of) updates.changed
            ∙ sym (ap (λ b. cond b (option_map (with_paid x) (links s p)) (links s p)) (eq-eqb p k pk) ∙ ap (λ q. option_map (with_paid x) (links s q)) pk ∙ ap (λ o. option_map (with_paid x) (option_map linked_of o)) there)
        | inr nk ↦
            ap (option_map linked_of) (updates.others p nk)
            ∙ sym (ap (λ b. cond b (option_map (with_paid x) (links s p)) (links s p)) (ne_eqb p k nk))
      ]

  module _ (s : Slab (Cell T)) (root : Option ℕ) (most : ℕ) (sound : IsSound (cells_of s) root most) (k : ℕ) (c : Cell T) (there : slab.get s k ≡ Some c) (used : IsSome (get (rows_of (cells_of s)) k)) (x : T) where
    abbrev written : Slab (Cell T)
    written = slab.with_value s k (record c { payload = x })

    told : Tells written (changed_at (with_payload x) k (rows_of (cells_of s))) root
    told = told_paid s root most sound written k x used (paid_links s k c x there)

    pub paid_rows : rows_of (cells_of written) ≡ changed_at (with_payload x) k (rows_of (cells_of s))
    paid_rows = told.rows_are

    pub paid_sound : IsSound (cells_of written) root most
    paid_sound =
        let e = some_row (get (rows_of (cells_of s)) k) used in
        let same = sym (len_slots written) ∙ ap len paid_rows ∙ len_paid (rows_of (cells_of s)) root k e.0 e.1 x in
        let fits = sound.within in
        told.sound most (omega (arith, same))

-- a leaf's cell is taken out, and its neighbours joined
module _ {T : Type 0} (s : Slab (Cell T)) (root : Option ℕ) (most : ℕ) (sound : IsSound (cells_of s) root most) where
  taken_links : (s' : Slab (Cell T)) (k : ℕ) → slab.Updates s s' k None → links s' ≡ put k None (links s)
  taken_links s' k u = λ i p. at p i
    where
      at : (p : ℕ) → links s' p ≡ put k None (links s) p
      at p = elim (cases_eq p k) [
        | inl pk ↦ ap (links s') pk ∙ ap (option_map linked_of) u.changed ∙ sym (ap (λ b. cond b None (links s p)) (eq-eqb p k pk))
        | inr nk ↦ ap (option_map linked_of) (u.others p nk) ∙ sym (ap (λ b. cond b None (links s p)) (ne_eqb p k nk))
      ]

  some_index : (o : Option Place) → is_some (index_of o) ≡ is_some o
  some_index None = refl
  some_index (Some p) = refl

  module _ (taken after_join : Slab (Cell T)) (k : ℕ) (c : Cell T) (leaf : (e : StoreRow T) × (get (rows_of (cells_of s)) k ≡ Some e) × (e.children ≡ []))
      (there : slab.get s k ≡ Some c) (u : slab.Updates s taken k None) (len_taken : slab_len taken + 1 ≡ slab_len s)
      (joins : links after_join ≡ joined (index_of c.parent) (index_of c.prev) (index_of c.next) (links taken)) (len_joined : slab_len after_join ≡ slab_len taken) where
    told_left : Tells after_join (unlinked (rows_of (cells_of s)) k) (cond (is_some (parent_of (rows_of (cells_of s)) k)) root None)
    told_left = told_unlinked s root most sound after_join k (linked_of c) leaf.0 leaf.1 leaf.2 (ap (option_map linked_of) there)
        (joins ∙ ap (joined (index_of c.parent) (index_of c.prev) (index_of c.next)) (taken_links taken k u))

    pub unlinked_rows : rows_of (cells_of after_join) ≡ unlinked (rows_of (cells_of s)) k
    unlinked_rows = told_left.rows_are

    has_parent : is_some (parent_of (rows_of (cells_of s)) k) ≡ is_some c.parent
    has_parent =
        let is = cell_is s root most sound k c there (is_there (rows_of (cells_of s)) k leaf.0 leaf.1) in
        ap is_some (parent_at (rows_of (cells_of s)) k is.0 is.1 ∙ sym (ap (λ m. m.parent) is.2)) ∙ some_index c.parent

    pub unlinked_sound : IsSound (cells_of after_join) (cond (is_some c.parent) root None) most
    unlinked_sound =
        let fits = sound.within in
        let was = len_slots s in
        subst (λ b. IsSound (cells_of after_join) (cond b root None) most) has_parent (told_left.sound most (omega (arith, len_joined, len_taken)))
