-- Rows are added and taken out.
use Rattle.std.proofs.Common.{◌≡◌, ◌≢◌, ℕ, ◌+◌, ◌<◌, ◌≤◌, true, false, cond, List, [], ◌∷◌, Option, Some, None, length, max, Fits, w64, refl, sym, ap, subst, ◌∙◌, inl, inr, arith, rules}
use Rattle.std.specs.Prelude.{option_map, IsSome, IfSome}
use Rattle.std.specs.FinMap as fin
use Rattle.std.specs.List.{AllByRecursion, IsDistinct}
use Rattle.std.specs.Ordering.{nat_cmp}
use Rattle.std.proofs.lemmas.Bool.{cases_eq, eq-eqb, ne_eqb}
use Rattle.std.proofs.lemmas.List.{length-map}
use Rattle.std.proofs.Math.Facts.{Fits-of_lt}
use Rattle.node_store.specs.Rows.{Rows, StoreRow, leaf, with_child, is_listed, changed, changed_at, planted, appended, unlinked, left_by, without_child, parent_of, last_of, IsTree}
use Rattle.node_store.specs.Links.{Linked, rows_of, linked_at, fresh_cell, with_last, altered, put, joined, Holds}
use Rattle.node_store.proofs.Siblings.{listed_cases, not_listed}
use Rattle.node_store.proofs.Maps.{get_same, get_other, gone_other, some_row, is_there, len_new}
use Rattle.node_store.proofs.Trees.{tree_planted, tree_appended, len_appended}
use Rattle.node_store.proofs.Held.{rows_is, sound_of, holds_planted, holds_appended}
use Rattle.raw_nodes.specs.Spots.{Spot, same_ptr, places, found, updated, IsInSomeBlock}
use Rattle.raw_nodes.specs.Nodes.{place_of, index_in, cells_of, Numbered, Chain, IsFree, IsStore, Keeps}
use Rattle.raw_nodes.specs.Heaps.{IsHeap}
use Rattle.raw_nodes.specs.Edits.{to_row, to_last, join_put}
use Rattle.raw_nodes.specs.Raw.{raw_of, IsRaw, Spares}
use Rattle.raw_nodes.specs.Steps.{Ready, Appends, Plants}
use Rattle.raw_nodes.specs.declared.arena.Arena.{Arena}
use Rattle.raw_nodes.specs.declared.arena.Link.{Link}
use Rattle.raw_nodes.specs.declared.node.Node.{Node}
use Rattle.raw_nodes.specs.declared.heap.Heap.{Heap}
use Rattle.raw_nodes.specs.declared.rows.RawRows.{RawRows}
use Rattle.raw_nodes.proofs.Blocks.{held_at, found_at, held_within, place_alike}
use Rattle.raw_nodes.proofs.Looks.{look, look_node, found_living, look_updated, look_altered, last_in, index_alike, Lives, Calm, calm_still, calm_updated, calm_both, chain_calm, join_looks, held_elsewhere, places_updated, numbered_updated, alive_still}
use Rattle.raw_nodes.proofs.Stored.{last_used, alive_of, below, rows_most, rows_less}
use Rattle.raw_nodes.proofs.Readying.{keeps, dead_look}

-- how many cells are spare where a block is made only for a row more than all cells held
spared : (len cells now was most : ℕ) → len ≤ cells → cells ≤ was + 255 → was ≤ most → len + 1 ≤ most → (len < cells → now ≡ cells) → (len ≡ cells → now ≡ cells + 256) → now ≤ most + 255
spared len cells now was most held spare above more left full = elim (cases_eq len cells) [
  | inl e ↦ omega (arith, full e)
  | inr n ↦ omega (arith, left (omega arith))
]

-- ---- rows that are not there

module _ {T : Type 0} where
  pub none_changed : (f : StoreRow T → StoreRow T) (q : ℕ) (m : Rows T) (j : ℕ) → fin.get (changed_at f q m) j ≡ None → fin.get m j ≡ None
  none_changed f q m j none = go (fin.get m q) refl none
    where
      go : (o : Option (StoreRow T)) → fin.get m q ≡ o → fin.get (changed f q m o) j ≡ None → fin.get m j ≡ None
      go None is none = none
      go (Some e) is none = elim (cases_eq j q) [
        | inl jq ↦ let bad : None ≡ Some (f e) = sym none ∙ get_same m q (f e) j jq in absurd (cc)
        | inr d ↦ sym (get_other m q (f e) j d) ∙ none
      ]

  none_inserted : (m : Rows T) (k : ℕ) (e : StoreRow T) (j : ℕ) → fin.get (fin.insert m k e) j ≡ None → (j ≢ k) × (fin.get m j ≡ None)
  none_inserted m k e j none = elim (cases_eq j k) [
    | inl jk ↦ let bad : None ≡ Some e = sym none ∙ get_same m k e j jk in absurd (cc)
    | inr d ↦ (d, sym (get_other m k e j d) ∙ none)
  ]

  pub none_unlinked : (m : Rows T) (k j : ℕ) → j ≢ k → fin.get (unlinked m k) j ≡ None → fin.get m j ≡ None
  none_unlinked m k j d none = sym (gone_other m k j d) ∙ go (parent_of m k) none
    where
      go : (o : Option ℕ) → fin.get (left_by (fin.remove m k) k o) j ≡ None → fin.get (fin.remove m k) j ≡ None
      go None none = none
      go (Some q) none = none_changed (without_child k) q (fin.remove m k) j none

-- ---- living cells

mapped_some : {X Y : Type 0} (f : X → Y) (o : Option X) → IsSome o → IsSome (option_map f o)
mapped_some f None h = absurd (cc)
mapped_some f (Some y) h = search rules

pub unmapped_none : {X Y : Type 0} (f : X → Y) (o : Option X) → option_map f o ≡ None → o ≡ None
unmapped_none f None e = refl
unmapped_none f (Some x) e = absurd (cc)

module _ {T : Type 0} where
  pub lives_in : (cells : List (Spot (Node T))) (rows : Rows T) → Holds rows (look cells) → (l : Option Link) → ((j : ℕ) → index_in cells l ≡ Some j → IsSome (fin.get rows j)) → Lives cells l
  lives_in cells rows holds None used = tt
  lives_in cells rows holds (Some l) used = subst (λ o. IsSome o) (sym (holds (place_of cells l.ptr))) (mapped_some _ _ (used (place_of cells l.ptr) refl))

  pub lives_found : (cells : List (Spot (Node T))) (l : Option Link) → Lives cells l → IfSome l (λ k. IsSome (found cells k.ptr))
  lives_found cells None h = tt
  lives_found cells (Some l) h = found_living cells l h

  pub lives_put : (cells later : List (Spot (Node T))) (k : ℕ) (c : Option (Linked T)) → places later ≡ places cells → look later ≡ put k c (look cells) → (l : Option Link) → Lives cells l
      → ((j : ℕ) → index_in cells l ≡ Some j → j ≢ k) → Lives later l
  lives_put cells later k c same is None h apart = tt
  lives_put cells later k c same is (Some l) h apart =
      subst (λ j. IsSome (look later j)) (sym (place_alike later cells l.ptr same))
      (subst (λ o. IsSome o) (sym (ap (λ f. f (place_of cells l.ptr)) is ∙ ap (λ b. cond b c (look cells (place_of cells l.ptr))) (ne_eqb (place_of cells l.ptr) k (apart (place_of cells l.ptr) refl)))) h)

  lives_altered : (cells later : List (Spot (Node T))) (f : Linked T → Linked T) (k : ℕ) → places later ≡ places cells → look later ≡ altered f k (look cells) → (l : Option Link) → Lives cells l → Lives later l
  lives_altered cells later f k same is None h = tt
  lives_altered cells later f k same is (Some l) h =
      subst (λ j. IsSome (look later j)) (sym (place_alike later cells l.ptr same))
      (subst (λ g. IsSome (g (place_of cells l.ptr))) (sym is) (alive_still f k (place_of cells l.ptr) (look cells) h))

  -- ---- the free list

  pub chain_apart : (cells later : List (Spot (Node T))) (k : ℕ) → places later ≡ places cells → ((j : ℕ) → j ≢ k → held_at later j ≡ held_at cells j)
      → (l : Option Link) (fs : List ℕ) → is_listed k fs ≡ false → Chain cells l fs → Chain later l fs
  chain_apart cells later k same others l [] fresh c = c
  chain_apart cells later k same others l (f ∷ fs) fresh c =
      let parts = not_listed k f fs fresh in
      (c.0, c.1, c.2, place_alike later cells c.0.ptr same ∙ c.3, others f parts.0 ∙ c.4, c.5, chain_apart cells later k same others c.1.next fs parts.1 c.6)

  pub chain_dead : (cells : List (Spot (Node T))) (l : Option Link) (fs : List ℕ) → Chain cells l fs → (k : ℕ) → is_listed k fs ≡ true → look cells k ≡ None
  chain_dead cells l [] c k listed = absurd (cc)
  chain_dead cells l (f ∷ fs) c k listed = elim (cases_eq f k) [
    | inl fk ↦ ap (look cells) (sym fk) ∙ dead_look cells f c.1 c.4 c.5.0
    | inr d ↦ chain_dead cells c.1.next fs c.6 k (listed_cases k f fs listed d)
  ]

  -- ---- the whole

  pub heap_kept : (h : Heap T) (arena : Arena (Node T)) → IsHeap h → places arena.cells ≡ places h.arena.cells → Numbered 0 arena.cells
      → IsHeap (record { arena = arena; blocks = h.blocks; links = h.links; alloc = h.alloc })
  heap_kept h arena heap same numbered =
      record {
        apart = subst (λ ps. IsDistinct same_ptr ps) (sym same) heap.apart;
        placed = subst (AllByRecursion IsInSomeBlock) (sym same) heap.placed;
        table = same ∙ heap.table;
        blocks = heap.blocks;
        laid = same ∙ heap.laid;
        numbered = numbered;
      }

  pub long_alike : (cells later : List (Spot (Node T))) → places later ≡ places cells → length later ≡ length cells
  long_alike cells later same = sym (length-map later (λ (s : Spot (Node T)). s.at)) ∙ ap length same ∙ length-map cells (λ (s : Spot (Node T)). s.at)

  pub store_is : (cells : List (Spot (Node T))) (rows : Rows T) (free root : Option Link) (len most : ℕ) → Holds rows (look cells) → IsTree rows (index_in cells root) → len ≡ fin.len rows → len ≤ most
      → (fs : List ℕ) → IsFree cells free fs → IsStore cells free root len most
  store_is cells rows free root len most holds tree count fits fs dead =
      record {
        sound = sound_of (cells_of cells) rows (index_in cells root) holds tree most (subst (λ n. n ≤ most) count fits);
        count = count ∙ ap fin.len (sym (rows_is (cells_of cells) rows (index_in cells root) holds tree));
        dead = (fs, dead);
      }

  -- ---- a dead cell is made a row

  -- the cell at hand
  module _ (old new : RawRows T) (raw : IsRaw old) (link : Link) (ready : Ready old new link) where
    abbrev rows : Rows T
    rows = rows_of (cells_of old.heap.arena.cells)

    abbrev made : List (Spot (Node T))
    made = new.heap.arena.cells

    abbrev spot : ℕ
    spot = place_of new.heap.arena.cells link.ptr

    -- what the free list tells of it
    pub dead_node : (n : Node T) × (found made link.ptr ≡ Some n) × (n.payload ≡ None) × Chain made n.next ready.later
    dead_node =
        let c = ready.free.chain in
        (c.1, found_at made link.ptr ∙ c.4, c.5.0, c.6)

    pub link_found : IsSome (found made link.ptr)
    link_found = subst (λ o. IsSome o) (sym dead_node.1) (search rules)

    pub spot_within : spot < length made
    spot_within = held_within made spot (subst (λ o. IsSome o) (found_at made link.ptr) link_found)

    pub spot_dead : look made spot ≡ None
    spot_dead = dead_look made spot dead_node.0 (sym (found_at made link.ptr) ∙ dead_node.1) dead_node.2

    pub spot_free : fin.get rows spot ≡ None
    spot_free = unmapped_none (linked_at rows spot) (fin.get rows spot) (sym (ready.holds spot) ∙ spot_dead)

    same_node : (n : Node T) → found made link.ptr ≡ Some n → dead_node.0 ≡ n
    same_node n is = let both : Some dead_node.0 ≡ Some n = sym dead_node.1 ∙ is in search both

    pub no_payload : (n : Node T) → found made link.ptr ≡ Some n → n.payload ≡ None
    no_payload n is = ap (λ m. m.payload) (sym (same_node n is)) ∙ dead_node.2

    pub rest : (n : Node T) → found made link.ptr ≡ Some n → Chain made n.next ready.later
    rest n is = subst (λ m. Chain made m.next ready.later) (same_node n is) dead_node.3

    pub root_stays : index_in made new.root ≡ index_in old.heap.arena.cells old.root
    root_stays = ap (index_in made) ready.fields.0 ∙ go old.root refl
      where
        go : (o : Option Link) → old.root ≡ o → index_in made o ≡ index_in old.heap.arena.cells o
        go None is = refl
        go (Some l) is =
            let top = raw.store.sound.tree.top (place_of old.heap.arena.cells l.ptr) (ap (index_in old.heap.arena.cells) is) in
            ap Some (ready.stay l.ptr (below old.heap.arena.cells (place_of old.heap.arena.cells l.ptr) (alive_of old.heap.arena.cells (place_of old.heap.arena.cells l.ptr) (is_there rows (place_of old.heap.arena.cells l.ptr) top.0 top.1))))

    -- what the calls make of the cells behind, where they hold these rows
    pub free_left : (n : Node T) → found made link.ptr ≡ Some n → (f : Node T → Node T) (later : List (Spot (Node T))) (more : Rows T) → Calm (updated f made link.ptr) later → Holds more (look later)
        → ((j : ℕ) → fin.get more j ≡ None → (j ≢ spot) × (fin.get rows j ≡ None)) → IsFree later n.next ready.later
    free_left n is f later more calm holds none =
        let same : places (updated f made link.ptr) ≡ places made = places_updated f made link.ptr in
        record {
          chain = chain_calm (updated f made link.ptr) later calm n.next ready.later
              (chain_apart made (updated f made link.ptr) spot same (λ j d. held_elsewhere f made link.ptr n is j d) n.next ready.later ready.free.once.0 (rest n is));
          once = ready.free.once.1;
          all = λ j lt gone.
              let away = none j (unmapped_none (linked_at more j) (fin.get more j) (sym (holds j) ∙ gone)) in
              let dead : look made j ≡ None = ready.holds j ∙ ap (option_map (linked_at rows j)) away.1 in
              let listed = ready.free.all j (subst (λ n. j < n) (long_alike made later (calm.places_same ∙ same)) lt) dead in
              listed_cases j spot ready.later listed (λ e. away.0 (sym e));
        }

    -- the rows can be counted
    pub room : Fits w64 (new.len + 1)
    room =
        let bound = rows_less made spot spot_within spot_dead in
        let same : rows_of (cells_of made) ≡ rows = rows_is (cells_of made) rows (index_in old.heap.arena.cells old.root) ready.holds raw.store.sound.tree in
        let counted : new.len ≡ fin.len (rows_of (cells_of made)) = ready.fields.1 ∙ raw.store.count ∙ ap fin.len (sym same) in
        let long : length made ≡ length new.heap.links.items =
        sym (length-map made (λ (s : Spot (Node T)). s.at)) ∙ ap length ready.heap.table ∙ length-map new.heap.links.items (λ (l : Link). l.ptr) in
        let small = new.heap.links.small in
        let within = new.heap.links.ok in
        Fits-of_lt (omega (arith, bound, counted, long, small, within.0, within.1))

    spare_kept : (most : ℕ) → old.most ≤ most → fin.len rows + 1 ≤ most → length made ≤ most + 255
    spare_kept most above more = spared (fin.len rows) (length old.heap.arena.cells) (length made) old.most most (rows_most old.heap.arena.cells) raw.spare above more ready.spares.0 ready.spares.1

    used_apart : (j : ℕ) → IsSome (fin.get rows j) → j ≢ spot
    used_apart j used e = go (fin.get rows spot) spot_free (subst (λ k. IsSome (fin.get rows k)) e used)
      where
        go : (o : Option (StoreRow T)) → o ≡ None → IsSome o → ⊥
        go None e h = cc
        go (Some y) e h = cc

    module _ (n : Node T) (here : found made link.ptr ≡ Some n) (x : T) where
      -- `plant`
      module _ (none : rows ≡ fin.empty) where
        abbrev planted_cells : List (Spot (Node T))
        planted_cells = updated (to_row None None x) new.heap.arena.cells link.ptr

        plant_places : places planted_cells ≡ places made
        plant_places = places_updated (to_row None None x) made link.ptr

        plant_holds : Holds (planted fin.empty spot x) (look planted_cells)
        plant_holds =
            subst (Holds (planted fin.empty spot x)) (sym (λ i k. look_updated (to_row None None x) made link.ptr n here k i))
            (holds_planted (look made) spot x (subst (λ m. Holds m (look made)) none ready.holds))

        plant_root : index_in planted_cells (Some link) ≡ Some spot
        plant_root = index_alike made planted_cells plant_places (Some link)

        one_row : fin.len (planted fin.empty spot x) ≡ 1
        one_row = len_new fin.empty spot (leaf None x) (fin.get-empty nat_cmp spot) ∙ ap (λ k. k + 1) (fin.len-empty _ _)

        plant_tree : IsTree (planted fin.empty spot x) (index_in planted_cells (Some link))
        plant_tree = subst (IsTree (planted fin.empty spot x)) (sym plant_root) (tree_planted spot x)

        plant_free : IsFree planted_cells n.next ready.later
        plant_free = free_left n here (to_row None None x) planted_cells (planted fin.empty spot x) (calm_still planted_cells) plant_holds
            (λ j gone. let away = none_inserted fin.empty spot (leaf None x) j gone in (away.0, ap (λ m. fin.get m j) none ∙ away.1))

        module _ (arena : Arena (Node T)) (is : arena.cells ≡ planted_cells) (most : ℕ) (highest : most ≡ max new.most 1) where
          abbrev planted_raw : RawRows T
          planted_raw =
              record {
                heap = record { arena = arena; blocks = new.heap.blocks; links = new.heap.links; alloc = new.heap.alloc };
                free = n.next;
                root = Some link;
                len = 1;
                most = most;
              }

          pub plant_raw : IsRaw planted_raw
          plant_raw =
              record {
                heap = heap_kept new.heap arena ready.heap (ap places is ∙ plant_places) (subst (Numbered 0) (sym is) (numbered_updated (to_row None None x) (λ m. refl) made link.ptr ready.heap.numbered));
                store = subst (λ cs. IsStore cs n.next (Some link) 1 most) (sym is)
                    (store_is planted_cells (planted fin.empty spot x) n.next (Some link) 1 most plant_holds plant_tree (sym one_row) (omega (arith, highest)) ready.later plant_free);
                spare = subst (λ k. k ≤ most + 255) (sym (ap length is ∙ long_alike made planted_cells plant_places))
                    (spare_kept most (omega (arith, highest, ready.fields.2)) (omega (arith, highest, ap fin.len none ∙ fin.len-empty _ _)));
              }

          pub plants : Plants (raw_of old) (raw_of planted_raw) spot x
          plants =
              record {
                rows = ap (λ cs. rows_of (cells_of cs)) is ∙ rows_is (cells_of planted_cells) (planted fin.empty spot x) (index_in planted_cells (Some link)) plant_holds plant_tree ∙ ap (λ m. planted m spot x) (sym none);
                root = ap (λ cs. index_in cs (Some link)) is ∙ plant_root;
                most = highest ∙ ap (λ k. max k 1) ready.fields.2;
                spares = subst (Spares (raw_of old)) (sym (ap length is ∙ long_alike made planted_cells plant_places)) ready.spares;
              }

      -- `append`
      module _ (q : ℕ) (up : Link) (used : IsSome (fin.get rows q)) (at : place_of old.heap.arena.cells up.ptr ≡ q) where
        abbrev parent_row : (e : StoreRow T) × (fin.get rows q ≡ Some e)
        parent_row = some_row (fin.get rows q) used

        up_at : place_of made up.ptr ≡ q
        up_at = ready.stay up.ptr (subst (λ k. k < length old.heap.arena.cells) (sym at) (below old.heap.arena.cells q (alive_of old.heap.arena.cells q used))) ∙ at

        up_lives : Lives made (Some up)
        up_lives = lives_in made rows ready.holds (Some up) (λ j h. let same : place_of made up.ptr ≡ j = search h in subst (λ k. IsSome (fin.get rows k)) (sym up_at ∙ same) used)

        pub up_found : IsSome (found made up.ptr)
        up_found = found_living made up up_lives

        module _ (m : Node T) (there : found made up.ptr ≡ Some m) where
          up_keeps : Keeps made m (linked_at rows q parent_row.0)
          up_keeps =
              keeps made m (linked_at rows q parent_row.0)
              (sym (look_node made q m (ap (held_at made) (sym up_at) ∙ sym (found_at made up.ptr) ∙ there)) ∙ ready.holds q ∙ ap (option_map (linked_at rows q)) parent_row.1)

          last_there : (j : ℕ) → index_in made m.last ≡ Some j → IsSome (fin.get rows j)
          last_there j h = last_used rows (index_in old.heap.arena.cells old.root) raw.store.sound.tree q parent_row.0 parent_row.1 j (sym up_keeps.last ∙ h)

          abbrev two : List (Spot (Node T))
          two = updated (to_row (Some up) m.last x) new.heap.arena.cells link.ptr

          two_places : places two ≡ places made
          two_places = places_updated (to_row (Some up) m.last x) made link.ptr

          two_look : look two ≡ put spot (Some (fresh_cell (Some q) (index_in made m.last) x)) (look made)
          two_look =
              (λ i k. look_updated (to_row (Some up) m.last x) made link.ptr n here k i)
              ∙ ap (λ k. put spot (Some (fresh_cell (Some k) (index_in made m.last) x)) (look made)) up_at

          up_lives_two : Lives two (Some up)
          up_lives_two = lives_put made two spot _ two_places two_look (Some up) up_lives (λ j h. let same : place_of made up.ptr ≡ j = search h in used_apart j (subst (λ k. IsSome (fin.get rows k)) (sym up_at ∙ same) used))

          last_lives_two : Lives two m.last
          last_lives_two = lives_put made two spot _ two_places two_look m.last (lives_in made rows ready.holds m.last last_there) (λ j h. used_apart j (last_there j h))

          link_lives_two : Lives two (Some link)
          link_lives_two =
              subst (λ j. IsSome (look two j)) (sym (place_alike two made link.ptr two_places))
              (subst (λ o. IsSome o) (sym (ap (λ f. f spot) two_look ∙ ap (λ b. cond b (Some (fresh_cell (Some q) (index_in made m.last) x)) (look made spot)) (eq-eqb spot spot refl))) (search rules))

          pub up_found_two : IsSome (found two up.ptr)
          up_found_two = found_living two up up_lives_two

          abbrev three : List (Spot (Node T))
          three = updated (to_last (Some link)) two up.ptr

          calm_three : Calm two three
          calm_three = calm_updated (to_last (Some link)) (λ k. refl) two up.ptr up_lives_two

          three_look_by : look three ≡ altered (with_last (index_in two (Some link))) (place_of two up.ptr) (look two)
          three_look_by = look_altered (to_last (Some link)) (with_last (index_in two (Some link))) two up.ptr up_found_two (last_in two (Some link))

          three_look : look three ≡ altered (with_last (Some spot)) q (put spot (Some (fresh_cell (Some q) (index_in made m.last) x)) (look made))
          three_look =
              let l = place_alike two made link.ptr two_places in
              let u = place_alike two made up.ptr two_places ∙ up_at in
              three_look_by ∙ (λ i. altered (with_last (Some (l i))) (u i) (two_look i))

          lives_three : (l : Option Link) → Lives two l → Lives three l
          lives_three l h = lives_altered two three (with_last (index_in two (Some link))) (place_of two up.ptr) calm_three.places_same three_look_by l h

          pub parent_found_three : IfSome (Some up) (λ l. IsSome (found three l.ptr))
          parent_found_three = lives_found three (Some up) (lives_three (Some up) up_lives_two)

          pub last_found_three : IfSome m.last (λ l. IsSome (found three l.ptr))
          last_found_three = lives_found three m.last (lives_three m.last last_lives_two)

          pub link_found_three : IfSome (Some link) (λ l. IsSome (found three l.ptr))
          link_found_three = lives_found three (Some link) (lives_three (Some link) link_lives_two)

          abbrev four : List (Spot (Node T))
          four = join_put (Some up) m.last (Some link) three

          joins : (look four ≡ joined (index_in three (Some up)) (index_in three m.last) (index_in three (Some link)) (look three)) × Calm three four
          joins = join_looks three (Some up) m.last (Some link) (lives_three (Some up) up_lives_two) (lives_three m.last last_lives_two) (lives_three (Some link) link_lives_two)

          three_places : places three ≡ places made
          three_places = calm_three.places_same ∙ two_places

          four_look : look four ≡ joined (Some q) (last_of parent_row.0.children) (Some spot) (altered (with_last (Some spot)) q (put spot (Some (fresh_cell (Some q) (index_in made m.last) x)) (look made)))
          four_look =
              let u = place_alike three made up.ptr three_places ∙ up_at in
              let v = index_alike made three three_places m.last ∙ up_keeps.last in
              let l = place_alike three made link.ptr three_places in
              joins.0 ∙ (λ i. joined (Some (u i)) (v i) (Some (l i)) (three_look i))

          calm_four : Calm two four
          calm_four = calm_both two three four calm_three joins.1

          four_places : places four ≡ places made
          four_places = calm_four.places_same ∙ two_places

          four_holds : Holds (appended rows q spot x) (look four)
          four_holds =
              subst (Holds (appended rows q spot x)) (sym four_look)
              (holds_appended rows (index_in old.heap.arena.cells old.root) q spot x parent_row.0 parent_row.1 spot_free raw.store.sound.tree (look made) ready.holds (index_in made m.last))

          four_root : index_in four new.root ≡ index_in old.heap.arena.cells old.root
          four_root = index_alike made four four_places new.root ∙ root_stays

          four_tree : IsTree (appended rows q spot x) (index_in four new.root)
          four_tree = subst (IsTree (appended rows q spot x)) (sym four_root) (tree_appended rows (index_in old.heap.arena.cells old.root) q spot x parent_row.0 parent_row.1 spot_free raw.store.sound.tree)

          four_free : IsFree four n.next ready.later
          four_free = free_left n here (to_row (Some up) m.last x) four (appended rows q spot x) calm_four four_holds
              (λ j gone. none_inserted rows spot (leaf (Some q) x) j (none_changed (with_child spot) q (fin.insert rows spot (leaf (Some q) x)) j gone))

          four_len : new.len + 1 ≡ fin.len (appended rows q spot x)
          four_len =
              ap (λ k. k + 1) (ready.fields.1 ∙ raw.store.count)
              ∙ sym (len_appended rows (index_in old.heap.arena.cells old.root) q spot x parent_row.0 parent_row.1 spot_free)

          module _ (arena : Arena (Node T)) (is : arena.cells ≡ four) (most : ℕ) (highest : most ≡ max new.most (new.len + 1)) where
            abbrev appended_raw : RawRows T
            appended_raw =
                record {
                  heap = record { arena = arena; blocks = new.heap.blocks; links = new.heap.links; alloc = new.heap.alloc };
                  free = n.next;
                  root = new.root;
                  len = new.len + 1;
                  most = most;
                }

            pub append_raw : IsRaw appended_raw
            append_raw =
                record {
                  heap = heap_kept new.heap arena ready.heap (ap places is ∙ four_places)
                      (subst (Numbered 0) (sym is) (calm_four.numbers (numbered_updated (to_row (Some up) m.last x) (λ k. refl) made link.ptr ready.heap.numbered)));
                  store = subst (λ cs. IsStore cs n.next new.root (new.len + 1) most) (sym is)
                      (store_is four (appended rows q spot x) n.next new.root (new.len + 1) most four_holds four_tree four_len (omega (arith, highest)) ready.later four_free);
                  spare = subst (λ k. k ≤ most + 255) (sym (ap length is ∙ long_alike made four four_places))
                      (spare_kept most (omega (arith, highest, ready.fields.2)) (omega (arith, highest, ready.fields.1, raw.store.count)));
                }

            rows_four : rows_of (cells_of arena.cells) ≡ appended rows q spot x
            rows_four = ap (λ cs. rows_of (cells_of cs)) is ∙ rows_is (cells_of four) (appended rows q spot x) (index_in four new.root) four_holds four_tree

            pub appends : Appends (raw_of old) (raw_of appended_raw) q spot x
            appends =
                record {
                  free = spot_free;
                  rows = rows_four;
                  root = ap (λ cs. index_in cs new.root) is ∙ four_root;
                  most = highest ∙ (λ i. max (ready.fields.2 i) ((four_len ∙ ap fin.len (sym rows_four)) i));
                  spares = subst (Spares (raw_of old)) (sym (ap length is ∙ long_alike made four four_places)) ready.spares;
                }
