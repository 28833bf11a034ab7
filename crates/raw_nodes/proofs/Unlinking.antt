-- A row is taken out, and a payload is written.
use Rattle.std.proofs.Common.{◌≡◌, ◌≢◌, ◌==◌, ◌||◌, ℕ, ◌+◌, ◌-◌, ◌<◌, ◌≤◌, Bool, true, false, cond, List, [], ◌∷◌, Option, Some, None, length, is_some, refl, sym, ap, subst, ◌∙◌, inl, inr, arith, rules}
use Rattle.std.specs.Prelude.{option_map, IsSome, IfSome}
use Rattle.std.specs.FinMap as fin
use Rattle.std.proofs.lemmas.Bool.{cases_eq, eq-eqb, ne_eqb}
use Rattle.node_store.specs.Rows.{Rows, StoreRow, head_of, with_payload, children_in, is_listed, children_of, changed_at, unlinked, parent_of, Distinct, IsTree}
use Rattle.node_store.specs.Links.{rows_of, linked_at, with_paid, altered, put, joined, Holds}
use Rattle.node_store.proofs.Siblings.{or_right, false_of}
use Rattle.node_store.proofs.Maps.{some_row, is_there, parent_at}
use Rattle.node_store.proofs.Trees.{tree_unlinked, len_unlinked, away, tree_paid, len_paid}
use Rattle.node_store.proofs.Held.{rows_is, holds_unlinked, holds_paid}
use Rattle.raw_nodes.specs.Spots.{Spot, places, found, written, updated}
use Rattle.raw_nodes.specs.Nodes.{place_of, index_in, linked_in, cells_of, Numbered, Chain, IsFree, IsStore, Keeps, paid_node}
use Rattle.raw_nodes.specs.Edits.{to_dead, join_put}
use Rattle.raw_nodes.specs.Lends.{with_written}
use Rattle.raw_nodes.specs.Raw.{raw_of, IsRaw}
use Rattle.raw_nodes.specs.Steps.{Unlinks}
use Rattle.raw_nodes.specs.declared.arena.Arena.{Arena}
use Rattle.raw_nodes.specs.declared.arena.Link.{Link}
use Rattle.raw_nodes.specs.declared.node.Node.{Node}
use Rattle.raw_nodes.specs.declared.rows.RawRows.{RawRows}
use Rattle.raw_nodes.proofs.Blocks.{held_at, found_at, held_within, held_same, place_alike}
use Rattle.raw_nodes.proofs.Updates.{written_updated}
use Rattle.raw_nodes.proofs.Looks.{look, look_written, look_node, look_updated, index_alike, Lives, Calm, calm_updated, chain_calm, join_looks, held_elsewhere, places_updated, numbered_updated}
use Rattle.raw_nodes.proofs.Stored.{parent_used, prev_used, next_used, before_apart, after_apart, alive_of}
use Rattle.raw_nodes.proofs.Readying.{keeps}
use Rattle.raw_nodes.proofs.Changing.{none_changed, none_unlinked, unmapped_none, lives_put, chain_apart, chain_dead, long_alike, store_is, lives_in, lives_found, heap_kept}

module _ {T : Type 0} where
  module _ (old : RawRows T) (raw : IsRaw old) (k : ℕ) (link : Link) (at : place_of old.heap.arena.cells link.ptr ≡ k)
      (e : StoreRow T) (has : fin.get (rows_of (cells_of old.heap.arena.cells)) k ≡ Some e)
      (m : Node T) (there : found old.heap.arena.cells link.ptr ≡ Some m) where
    abbrev were : List (Spot (Node T))
    were = old.heap.arena.cells

    abbrev rows_were : Rows T
    rows_were = rows_of (cells_of old.heap.arena.cells)

    abbrev root_was : Option ℕ
    root_was = index_in old.heap.arena.cells old.root

    tree : IsTree rows_were root_was
    tree = raw.store.sound.tree

    leaf_held : held_at were k ≡ Some m
    leaf_held = ap (held_at were) (sym at) ∙ sym (found_at were link.ptr) ∙ there

    leaf_keeps : Keeps were m (linked_at rows_were k e)
    leaf_keeps = keeps were m (linked_at rows_were k e) (sym (look_node were k m leaf_held) ∙ raw.store.sound.holds k ∙ ap (option_map (linked_at rows_were k)) has)

    pub leaf_paid : m.payload ≡ Some e.payload
    leaf_paid = leaf_keeps.payload

    lives_were : (l : Option Link) → ((j : ℕ) → index_in were l ≡ Some j → IsSome (fin.get rows_were j)) → Lives were l
    lives_were l used = lives_in were rows_were raw.store.sound.holds l used

    siblings_once : Distinct (children_of rows_were e.parent)
    siblings_once = go e.parent
      where
        at_row : (o : Option (StoreRow T)) (a : ℕ) → fin.get rows_were a ≡ o → Distinct (children_in o)
        at_row None a is = tt
        at_row (Some d) a is = tree.once a d is

        go : (o : Option ℕ) → Distinct (children_of rows_were o)
        go None = tt
        go (Some a) = at_row (fin.get rows_were a) a refl

    module _ (childless : e.children ≡ []) where
      parent_away : (j : ℕ) → index_in were m.parent ≡ Some j → j ≢ k
      parent_away j h =
          let under : e.parent ≡ Some j = sym leaf_keeps.parent ∙ h in
          let d = some_row (fin.get rows_were j) (parent_used rows_were root_was tree k e has j under) in
          away rows_were root_was k e has childless tree j (parent_at rows_were k e has ∙ under) d.0 d.1

      leaf_first : m.first ≡ None
      leaf_first = unmapped_none (λ l. place_of were l.ptr) m.first (leaf_keeps.first ∙ ap head_of childless)

      abbrev out : List (Spot (Node T))
      out = updated (to_dead link old.free) old.heap.arena.cells link.ptr

      out_places : places out ≡ places were
      out_places = places_updated (to_dead link old.free) were link.ptr

      out_look : look out ≡ put k None (look were)
      out_look = (λ i j. look_updated (to_dead link old.free) were link.ptr m there j i) ∙ ap (λ p. put p None (look were)) at

      lives_out : (l : Option Link) → ((j : ℕ) → index_in were l ≡ Some j → IsSome (fin.get rows_were j)) → ((j : ℕ) → index_in were l ≡ Some j → j ≢ k) → Lives out l
      lives_out l used apart = lives_put were out k None out_places out_look l (lives_were l used) apart

      parent_out : Lives out m.parent
      parent_out = lives_out m.parent (λ j h. parent_used rows_were root_was tree k e has j (sym leaf_keeps.parent ∙ h)) parent_away

      prev_out : Lives out m.prev
      prev_out = lives_out m.prev (λ j h. prev_used rows_were root_was tree k e has j (sym leaf_keeps.prev ∙ h)) (λ j h. before_apart k (children_of rows_were e.parent) j siblings_once (sym leaf_keeps.prev ∙ h))

      next_out : Lives out m.next
      next_out = lives_out m.next (λ j h. next_used rows_were root_was tree k e has j (sym leaf_keeps.next ∙ h)) (λ j h. after_apart k (children_of rows_were e.parent) j siblings_once (sym leaf_keeps.next ∙ h))

      pub parent_found_out : IfSome m.parent (λ l. IsSome (found out l.ptr))
      parent_found_out = lives_found out m.parent parent_out

      pub prev_found_out : IfSome m.prev (λ l. IsSome (found out l.ptr))
      prev_found_out = lives_found out m.prev prev_out

      pub next_found_out : IfSome m.next (λ l. IsSome (found out l.ptr))
      next_found_out = lives_found out m.next next_out

      abbrev closed : List (Spot (Node T))
      closed = join_put m.parent m.prev m.next out

      closes : (look closed ≡ joined (index_in out m.parent) (index_in out m.prev) (index_in out m.next) (look out)) × Calm out closed
      closes = join_looks out m.parent m.prev m.next parent_out prev_out next_out

      closed_places : places closed ≡ places were
      closed_places = closes.1.places_same ∙ out_places

      closed_look : look closed ≡ joined (linked_at rows_were k e).parent (linked_at rows_were k e).prev (linked_at rows_were k e).next (put k None (look were))
      closed_look =
          let p = index_alike were out out_places m.parent ∙ leaf_keeps.parent in
          let v = index_alike were out out_places m.prev ∙ leaf_keeps.prev in
          let x = index_alike were out out_places m.next ∙ leaf_keeps.next in
          closes.0 ∙ (λ i. joined (p i) (v i) (x i) (out_look i))

      closed_holds : Holds (unlinked rows_were k) (look closed)
      closed_holds = subst (Holds (unlinked rows_were k)) (sym closed_look) (holds_unlinked rows_were root_was k e has childless tree (look were) raw.store.sound.holds)

      -- the root
      abbrev root_now : Option Link
      root_now = cond (is_some m.parent) old.root None

      some_index : (cells : List (Spot (Node T))) (o : Option Link) → is_some (index_in cells o) ≡ is_some o
      some_index cells None = refl
      some_index cells (Some p) = refl

      index_cond : (b : Bool) → index_in were (cond b old.root None) ≡ cond b root_was None
      index_cond true = refl
      index_cond false = refl

      closed_root : index_in closed root_now ≡ cond (is_some (parent_of rows_were k)) root_was None
      closed_root =
          index_alike were closed closed_places root_now ∙ index_cond (is_some m.parent)
          ∙ ap (λ b. cond b root_was None) (sym (some_index were m.parent) ∙ ap is_some (leaf_keeps.parent ∙ sym (parent_at rows_were k e has)))

      closed_tree : IsTree (unlinked rows_were k) (index_in closed root_now)
      closed_tree = subst (IsTree (unlinked rows_were k)) (sym closed_root) (tree_unlinked rows_were root_was k e has childless tree)

      -- the free list
      living : look were k ≡ Some (linked_at rows_were k e)
      living = raw.store.sound.holds k ∙ ap (option_map (linked_at rows_were k)) has

      not_free : is_listed k raw.store.dead.0 ≡ false
      not_free = false_of _ (λ listed.
          let bad : Some (linked_at rows_were k e) ≡ None = sym living ∙ chain_dead were old.free raw.store.dead.0 raw.store.dead.1.chain k listed in
          absurd (cc))

      out_held : held_at out k ≡ Some (to_dead link old.free m)
      out_held =
          ap (λ cs. held_at cs k) (sym (written_updated (to_dead link old.free) were link.ptr m there))
          ∙ held_same were link.ptr (to_dead link old.free m) k (sym at) (held_within were k (subst (λ o. IsSome o) (sym leaf_held) (search rules)))

      out_chain : Chain out (Some link) (k ∷ raw.store.dead.0)
      out_chain = (
        link,
        to_dead link old.free m,
        refl,
        place_alike out were link.ptr out_places ∙ at,
        out_held,
        (refl, ap (λ o. is_some o || false) leaf_first),
        chain_apart were out k out_places (λ j d. held_elsewhere (to_dead link old.free) were link.ptr m there j (λ same. d (same ∙ at))) old.free raw.store.dead.0 not_free raw.store.dead.1.chain,
      )

      listed_now : (j : ℕ) → j < length closed → look closed j ≡ None → is_listed j (k ∷ raw.store.dead.0) ≡ true
      listed_now j lt gone = elim (cases_eq k j) [
        | inl kj ↦ ap (λ b. b || is_listed j raw.store.dead.0) (eq-eqb k j kj)
        | inr d ↦
            let none = none_unlinked rows_were k j (λ jk. d (sym jk)) (unmapped_none (linked_at (unlinked rows_were k) j) (fin.get (unlinked rows_were k) j) (sym (closed_holds j) ∙ gone)) in
            let dead : look were j ≡ None = raw.store.sound.holds j ∙ ap (option_map (linked_at rows_were j)) none in
            or_right (k == j) _ (raw.store.dead.1.all j (subst (λ n. j < n) (long_alike were closed closed_places) lt) dead)
      ]

      closed_free : IsFree closed (Some link) (k ∷ raw.store.dead.0)
      closed_free =
          record {
            chain = chain_calm out closed closes.1 (Some link) (k ∷ raw.store.dead.0) out_chain;
            once = (not_free, raw.store.dead.1.once);
            all = listed_now;
          }

      fewer : fin.len (unlinked rows_were k) + 1 ≡ old.len
      fewer = len_unlinked rows_were root_was k e has childless tree ∙ sym raw.store.count

      pub some_rows : 1 ≤ old.len
      some_rows = omega (arith, fewer)

      module _ (arena : Arena (Node T)) (is : arena.cells ≡ closed) (root : Option Link) (root_is : root ≡ cond (is_some m.parent) old.root None) where
        abbrev unlinked_raw : RawRows T
        unlinked_raw =
            record {
              heap = record { arena = arena; blocks = old.heap.blocks; links = old.heap.links; alloc = old.heap.alloc };
              free = Some link;
              root = root;
              len = old.len - 1;
              most = old.most;
            }

        pub unlink_raw : IsRaw unlinked_raw
        unlink_raw =
            let count : old.len - 1 ≡ fin.len (unlinked rows_were k) = omega (arith, fewer) in
            let fits : fin.len rows_were ≤ old.most = raw.store.sound.within in
            let counted = raw.store.count in
            record {
              heap = heap_kept old.heap arena raw.heap (ap places is ∙ closed_places)
                  (subst (Numbered 0) (sym is) (closes.1.numbers (numbered_updated (to_dead link old.free) (λ n. refl) were link.ptr raw.heap.numbered)));
              store = subst (λ cs. IsStore cs (Some link) root (old.len - 1) old.most) (sym is)
                  (subst (λ r. IsStore closed (Some link) r (old.len - 1) old.most) (sym root_is)
                  (store_is closed (unlinked rows_were k) (Some link) root_now (old.len - 1) old.most closed_holds closed_tree count (omega (arith, fits, counted)) (k ∷ raw.store.dead.0) closed_free));
              spare = subst (λ n. n ≤ old.most + 255) (sym (ap length is ∙ long_alike were closed closed_places)) raw.spare;
            }

        pub unlinks : Unlinks (raw_of old) (raw_of unlinked_raw) k
        unlinks =
            record {
              rows = ap (λ cs. rows_of (cells_of cs)) is ∙ rows_is (cells_of closed) (unlinked rows_were k) (index_in closed root_now) closed_holds closed_tree;
              root = ap (λ cs. index_in cs root) is ∙ ap (index_in closed) root_is ∙ closed_root;
              most = refl;
              cells = ap length is ∙ long_alike were closed closed_places;
            }

  -- ---- a payload is written

  module _ (old : RawRows T) (raw : IsRaw old) (k : ℕ) (link : Link) (at : place_of old.heap.arena.cells link.ptr ≡ k)
      (e : StoreRow T) (has : fin.get (rows_of (cells_of old.heap.arena.cells)) k ≡ Some e)
      (m : Node T) (there : found old.heap.arena.cells link.ptr ≡ Some m) (w : T) where
    abbrev before_it : List (Spot (Node T))
    before_it = old.heap.arena.cells

    abbrev paid_cells : List (Spot (Node T))
    paid_cells = written old.heap.arena.cells link.ptr (paid_node m w)

    abbrev rows_before : Rows T
    rows_before = rows_of (cells_of old.heap.arena.cells)

    paid_in : (o : Option T) → m.payload ≡ o → IsSome o → linked_in before_it (paid_node m w) ≡ option_map (with_paid w) (linked_in before_it m)
    paid_in None is some = absurd (cc)
    paid_in (Some x) is some = sym (ap (λ o. option_map (with_paid w) (option_map (λ y. record {
      parent = index_in before_it m.parent;
      first = index_in before_it m.first;
      last = index_in before_it m.last;
      prev = index_in before_it m.prev;
      next = index_in before_it m.next;
      payload = y;
    }) o)) is)

    node_paid : IsSome m.payload
    node_paid = subst (λ o. IsSome o) (sym (leaf_paid old raw k link at e has m there)) (search rules)

    paid_look : look paid_cells ≡ altered (with_paid w) k (look before_it)
    paid_look = λ i j. at_cell j i
      where
        at_cell : (j : ℕ) → look paid_cells j ≡ altered (with_paid w) k (look before_it) j
        at_cell j = look_written before_it link.ptr (paid_node m w) j (subst (λ o. IsSome o) (sym there) (search rules)) ∙ elim (cases_eq j k) [
          | inl jk ↦
              ap (λ b. cond b (linked_in before_it (paid_node m w)) (look before_it j)) (eq-eqb j (place_of before_it link.ptr) (jk ∙ sym at))
              ∙ paid_in m.payload refl node_paid
              ∙ ap (option_map (with_paid w)) (sym (ap (look before_it) jk ∙ look_node before_it k m (ap (held_at before_it) (sym at) ∙ sym (found_at before_it link.ptr) ∙ there)))
              ∙ sym (ap (λ b. cond b (option_map (with_paid w) (look before_it j)) (look before_it j)) (eq-eqb j k jk))
          | inr d ↦
              ap (λ b. cond b (linked_in before_it (paid_node m w)) (look before_it j)) (ne_eqb j (place_of before_it link.ptr) (λ same. d (same ∙ at)))
              ∙ sym (ap (λ b. cond b (option_map (with_paid w) (look before_it j)) (look before_it j)) (ne_eqb j k d))
        ]

    paid_calm : Calm before_it paid_cells
    paid_calm =
        subst (Calm before_it) (sym (written_updated (λ n. paid_node n w) before_it link.ptr m there))
        (calm_updated (λ n. paid_node n w) (λ n. refl) before_it link.ptr
        (alive_of before_it (place_of before_it link.ptr) (subst (λ j. IsSome (fin.get rows_before j)) (sym at) (is_there rows_before k e has))))

    paid_holds : Holds (changed_at (with_payload w) k rows_before) (look paid_cells)
    paid_holds = subst (Holds (changed_at (with_payload w) k rows_before)) (sym paid_look) (holds_paid rows_before (index_in before_it old.root) k e has w (look before_it) raw.store.sound.holds)

    pub paid_root : index_in paid_cells old.root ≡ index_in before_it old.root
    paid_root = index_alike before_it paid_cells paid_calm.places_same old.root

    pub paid_long : length paid_cells ≡ length before_it
    paid_long = long_alike before_it paid_cells paid_calm.places_same

    paid_tree : IsTree (changed_at (with_payload w) k rows_before) (index_in paid_cells old.root)
    paid_tree = subst (IsTree (changed_at (with_payload w) k rows_before)) (sym paid_root) (tree_paid rows_before (index_in before_it old.root) k e has w raw.store.sound.tree)

    pub paid_rows : rows_of (cells_of paid_cells) ≡ changed_at (with_payload w) k rows_before
    paid_rows = rows_is (cells_of paid_cells) (changed_at (with_payload w) k rows_before) (index_in paid_cells old.root) paid_holds paid_tree

    paid_free : IsFree paid_cells old.free raw.store.dead.0
    paid_free =
        record {
          chain = chain_calm before_it paid_cells paid_calm old.free raw.store.dead.0 raw.store.dead.1.chain;
          once = raw.store.dead.1.once;
          all = λ j lt gone.
              let none = none_changed (with_payload w) k rows_before j (unmapped_none (linked_at (changed_at (with_payload w) k rows_before) j) (fin.get (changed_at (with_payload w) k rows_before) j) (sym (paid_holds j) ∙ gone)) in
              let dead : look before_it j ≡ None = raw.store.sound.holds j ∙ ap (option_map (linked_at rows_before j)) none in
              raw.store.dead.1.all j (subst (λ n. j < n) paid_long lt) dead;
        }

    pub paid_raw : IsRaw (record {
      heap = record { arena = with_written old.heap.arena link.ptr (paid_node m w); blocks = old.heap.blocks; links = old.heap.links; alloc = old.heap.alloc };
      free = old.free;
      root = old.root;
      len = old.len;
      most = old.most;
    })
    paid_raw =
        let counted = raw.store.count in
        let fits : fin.len rows_before ≤ old.most = raw.store.sound.within in
        record {
          heap = heap_kept old.heap (with_written old.heap.arena link.ptr (paid_node m w)) raw.heap paid_calm.places_same (paid_calm.numbers raw.heap.numbered);
          store = store_is paid_cells (changed_at (with_payload w) k rows_before) old.free old.root old.len old.most paid_holds paid_tree
              (raw.store.count ∙ sym (len_paid rows_before (index_in before_it old.root) k e has w)) (omega (arith, counted, fits)) raw.store.dead.0 paid_free;
          spare = subst (λ n. n ≤ old.most + 255) (sym paid_long) raw.spare;
        }
