-- A dead cell is there: the first of the free list, or that of a new block.
use Rattle.std.proofs.Common.{◌≡◌, ℕ, suc, ◌+◌, ◌-◌, ◌<◌, ◌≤◌, true, false, List, [], ◌∷◌, ◌++◌, Option, Some, None, map, length, refl, sym, ap, subst, ◌∙◌, inl, inr, arith, rules}
use Rattle.std.specs.Prelude.{option_map, option_and_then, IsSome, Result, Ok, Err, IfOk}
use Rattle.std.specs.FinMap as fin
use Rattle.std.proofs.lemmas.Bool.{cases_lt}
use Rattle.std.proofs.lemmas.List.{map-append, length-append, length-map}
use Rattle.node_store.specs.Rows.{Rows, is_listed}
use Rattle.node_store.specs.Links.{Linked, rows_of, linked_at, Holds}
use Rattle.raw_nodes.specs.Spots.{Spot, places, IsApart}
use Rattle.raw_nodes.specs.Nodes.{place_of, index_in, linked_in, cells_of, Chain, dead_nodes, head_link, IsFree, Keeps}
use Rattle.raw_nodes.specs.Heaps.{IsHeap, Grows, addresses}
use Rattle.raw_nodes.specs.Raw.{IsRaw}
use Rattle.raw_nodes.specs.Steps.{Ready}
use Rattle.raw_nodes.specs.declared.arena.Link.{Link}
use Rattle.raw_nodes.specs.declared.node.Node.{Node}
use Rattle.raw_nodes.specs.declared.rows.RawRows.{RawRows}
use Rattle.raw_nodes.proofs.Blocks.{held_at, held_within}
use Rattle.raw_nodes.proofs.Looks.{look, look_at, look_node}
use Rattle.raw_nodes.proofs.Stored.{parent_used, first_used, last_used, next_used, prev_used, rows_less, all_rows, alive_of, below, linked, used_of, place_more, held_more, held_past, numbers, numbers_once, numbers_have, fresh_chain, dead_there}

abbrev linked_with : {T : Type 0} → Option ℕ → Option ℕ → Option ℕ → Option ℕ → Option ℕ → Option T → Option (Linked T)
linked_with a b c d e o = option_map (λ x. record { parent = a; first = b; last = c; prev = d; next = e; payload = x }) o

module _ {T : Type 0} where
  pub dead_look : (cells : List (Spot (Node T))) (k : ℕ) (n : Node T) → held_at cells k ≡ Some n → n.payload ≡ None → look cells k ≡ None
  dead_look cells k n is gone = look_node cells k n is ∙ ap (option_map _) gone

  pub keeps : (cells : List (Spot (Node T))) (n : Node T) (m : Linked T) → linked_in cells n ≡ Some m → Keeps cells n m
  keeps cells n m is = go n.payload refl is
    where
      go : (o : Option T) → n.payload ≡ o
          → linked_with (index_in cells n.parent) (index_in cells n.first) (index_in cells n.last) (index_in cells n.prev) (index_in cells n.next) o ≡ Some m → Keeps cells n m
      go None at e = absurd (cc)
      go (Some x) at e =
          let made : Linked T =
          record {
            parent = index_in cells n.parent;
            first = index_in cells n.first;
            last = index_in cells n.last;
            prev = index_in cells n.prev;
            next = index_in cells n.next;
            payload = x;
          } in
          let same : made ≡ m = search e in
          record {
            parent = ap (λ y. y.parent) same;
            first = ap (λ y. y.first) same;
            last = ap (λ y. y.last) same;
            prev = ap (λ y. y.prev) same;
            next = ap (λ y. y.next) same;
            payload = at ∙ ap (λ y. Some y.payload) same;
          }

  module _ (old : RawRows T) (raw : IsRaw old) where
    abbrev cells : List (Spot (Node T))
    cells = old.heap.arena.cells

    abbrev rows : Rows T
    rows = rows_of (cells_of old.heap.arena.cells)

    -- ---- the first of the free list

    first_of : (link : Link) (fs : List ℕ) → IsFree cells (Some link) fs → Ready old old link
    first_of link [] free = let bad = free.chain in absurd (cc)
    first_of link (f ∷ later) free =
        let c = free.chain in
        let same : link ≡ c.0 = search c.2 in
        let at : f ≡ place_of cells link.ptr = sym (ap (λ l. place_of cells l.ptr) same ∙ c.3) in
        let lt = held_within cells f (subst (λ o. IsSome o) (sym c.4) (search rules)) in
        let less = rows_less cells f lt (dead_look cells f c.1 c.4 c.5.0) in
        record {
          heap = raw.heap;
          later = later;
          free = subst (λ k. IsFree cells (Some link) (k ∷ later)) at free;
          holds = raw.store.sound.holds;
          fields = (refl, refl, refl);
          stay = λ p lt. refl;
          spares = (λ lt. refl, λ e. absurd (omega (arith, less, e)));
        }

    pub ready_old : (link : Link) → old.free ≡ Some link → Ready old old link
    ready_old link is = first_of link raw.store.dead.0 (subst (λ o. IsFree cells o raw.store.dead.0) is raw.store.dead.1)

    -- ---- a new block

    none_free : old.free ≡ None → IsFree cells None []
    none_free is = go raw.store.dead.0 (subst (λ o. IsFree cells o raw.store.dead.0) is raw.store.dead.1)
      where
        go : (fs : List ℕ) → IsFree cells None fs → IsFree cells None []
        go [] free = free
        go (f ∷ fs) free = let c = free.chain in let bad = c.2 in absurd (cc)

    pub full_rows : old.free ≡ None → fin.len rows ≡ length cells
    full_rows is = all_rows cells (none_free is)

    module _ (more : List (Spot (Node T))) where
      index_more : (l : Option Link) → ((k : ℕ) → index_in cells l ≡ Some k → IsSome (fin.get rows k)) → index_in (cells ++ more) l ≡ index_in cells l
      index_more None used = refl
      index_more (Some l) used = ap Some (place_more cells more l.ptr (below cells (place_of cells l.ptr) (alive_of cells (place_of cells l.ptr) (used (place_of cells l.ptr) refl))))

      -- a row's node leads to rows
      linked_more : (k : ℕ) (n : Node T) → held_at cells k ≡ Some n → IsSome n.payload → linked_in (cells ++ more) n ≡ linked_in cells n
      linked_more k n is paid =
          let lives : IsSome (look cells k) = subst (λ o. IsSome o) (sym (look_node cells k n is)) (mapped_some _ n.payload paid) in
          let e = linked cells (index_in cells old.root) old.most raw.store.sound k (used_of cells (index_in cells old.root) old.most raw.store.sound k lives) in
          let ks = keeps cells n (linked_at rows k e.0) (sym (look_node cells k n is) ∙ e.2) in
          let t = raw.store.sound.tree in
          let p = index_more n.parent (λ j h. parent_used rows (index_in cells old.root) t k e.0 e.1 j (sym ks.parent ∙ h)) in
          let f = index_more n.first (λ j h. first_used rows (index_in cells old.root) t k e.0 e.1 j (sym ks.first ∙ h)) in
          let l = index_more n.last (λ j h. last_used rows (index_in cells old.root) t k e.0 e.1 j (sym ks.last ∙ h)) in
          let v = index_more n.prev (λ j h. prev_used rows (index_in cells old.root) t k e.0 e.1 j (sym ks.prev ∙ h)) in
          let x = index_more n.next (λ j h. next_used rows (index_in cells old.root) t k e.0 e.1 j (sym ks.next ∙ h)) in
          λ i. linked_with (p i) (f i) (l i) (v i) (x i) n.payload
        where
          mapped_some : {Y : Type 0} (f : T → Y) (o : Option T) → IsSome o → IsSome (option_map f o)
          mapped_some f None h = absurd (cc)
          mapped_some f (Some y) h = search rules

      look_low : (k : ℕ) → k < length cells → look (cells ++ more) k ≡ look cells k
      look_low k lt = look_at (cells ++ more) k ∙ ap (option_and_then (linked_in (cells ++ more))) (held_more cells more k lt) ∙ go (held_at cells k) refl ∙ sym (look_at cells k)
        where
          paid : (n : Node T) → held_at cells k ≡ Some n → (o : Option T) → n.payload ≡ o → linked_in (cells ++ more) n ≡ linked_in cells n
          paid n is None gone = ap (linked_with (index_in (cells ++ more) n.parent) (index_in (cells ++ more) n.first) (index_in (cells ++ more) n.last) (index_in (cells ++ more) n.prev) (index_in (cells ++ more) n.next)) gone
              ∙ sym (ap (linked_with (index_in cells n.parent) (index_in cells n.first) (index_in cells n.last) (index_in cells n.prev) (index_in cells n.next)) gone)
          paid n is (Some x) some = linked_more k n is (subst (λ o. IsSome o) (sym some) (search rules))

          go : (o : Option (Node T)) → held_at cells k ≡ o → option_and_then (linked_in (cells ++ more)) o ≡ option_and_then (linked_in cells) o
          go None is = refl
          go (Some n) is = paid n is n.payload refl

      look_past : (k : ℕ) → length cells ≤ k → look cells k ≡ None
      look_past k le = go (look cells k) refl
        where
          go : (o : Option (Linked T)) → look cells k ≡ o → look cells k ≡ None
          go None is = is
          go (Some m) is = let lt = below cells k (subst (λ o. IsSome o) (sym is) (search rules)) in absurd (omega arith)

      look_high : (links : List Link) → map (λ s. s.held) more ≡ dead_nodes (length cells) links → (k : ℕ) → length cells ≤ k → look (cells ++ more) k ≡ None
      look_high links dead k le = go (held_at (cells ++ more) k) refl
        where
          go : (o : Option (Node T)) → held_at (cells ++ more) k ≡ o → look (cells ++ more) k ≡ None
          go None is = look_at (cells ++ more) k ∙ ap (option_and_then (linked_in (cells ++ more))) is
          go (Some n) is = dead_look (cells ++ more) k n is (dead_there more (length cells) links dead (k - length cells) n (sym (held_past cells more k le) ∙ is))

      holds_more : (links : List Link) → map (λ s. s.held) more ≡ dead_nodes (length cells) links → Holds rows (look (cells ++ more))
      holds_more links dead k = elim (cases_lt k (length cells)) [
        | inl lt ↦ look_low k lt ∙ raw.store.sound.holds k
        | inr le ↦ look_high links dead k le ∙ sym (look_past k le) ∙ raw.store.sound.holds k
      ]

      listed_more : (j : ℕ) → IsFree cells None [] → (links : List Link) → length links ≡ 256 → length more ≡ 256 → j < length (cells ++ more) → look (cells ++ more) j ≡ None
          → is_listed j (numbers (length cells) 256) ≡ true
      listed_more j free links ll ml lt none = elim (cases_lt j (length cells)) [
        | inl low ↦ let bad : false ≡ true = free.all j low (sym (look_low j low) ∙ none) in absurd (cc)
        | inr le ↦ numbers_have j (length cells) 256 le (omega (arith, length-append cells more))
      ]

      free_more : IsFree cells None [] → IsApart (cells ++ more) → (links : List Link) → length links ≡ 256 → length more ≡ 256 → (first : Link) → head_link links ≡ Some first
          → places more ≡ addresses links → map (λ s. s.held) more ≡ dead_nodes (length cells) links
          → IsFree (cells ++ more) (Some first) (numbers (length cells) 256)
      free_more free apart links ll ml first head table dead =
          record {
            chain = subst (λ l. Chain (cells ++ more) l (numbers (length cells) 256)) head
                (subst (λ n. Chain (cells ++ more) (head_link links) (numbers (length cells) n)) ll
                (fresh_chain (cells ++ more) apart (places cells) (map (λ s. s.held) cells) (length cells) links
                (length-map cells (λ (s : Spot (Node T)). s.at)) (length-map cells (λ (s : Spot (Node T)). s.held))
                (map-append (λ (s : Spot (Node T)). s.at) cells more ∙ ap (λ ps. places cells ++ ps) table)
                (map-append (λ (s : Spot (Node T)). s.held) cells more ∙ ap (λ hs. map (λ s. s.held) cells ++ hs) dead)));
            once = numbers_once (length cells) 256;
            all = λ j lt none. listed_more j free links ll ml lt none;
          }

    pub ready_new : (new : RawRows T) (first : Link) → old.free ≡ None → IsHeap new.heap → Grows old.heap new.heap first → (new.root ≡ old.root) × (new.len ≡ old.len) × (new.most ≡ old.most) → Ready old new first
    ready_new new first is heap grows same =
        let links = grows.0 in
        let more = grows.3 in
        let are : new.heap.arena.cells ≡ cells ++ more = grows.4 in
        let ml : length more ≡ 256 = sym (length-map more (λ (s : Spot (Node T)). s.at)) ∙ ap length grows.5 ∙ length-map links (λ (l : Link). l.ptr) ∙ grows.1 in
        let free = free_more more (none_free is) (subst IsApart are heap.apart) links grows.1 ml first grows.2 grows.5 grows.6 in
        let here : IsFree new.heap.arena.cells (Some first) (numbers (length cells) 256) = subst (λ cs. IsFree cs (Some first) (numbers (length cells) 256)) (sym are) free in
        let full = full_rows is in
        let c = here.chain in
        let it : first ≡ c.0 = search c.2 in
        let at : length cells ≡ place_of new.heap.arena.cells first.ptr = sym (ap (λ l. place_of new.heap.arena.cells l.ptr) it ∙ c.3) in
        record {
          heap = heap;
          later = numbers (suc (length cells)) 255;
          free = subst (λ k. IsFree new.heap.arena.cells (Some first) (k ∷ numbers (suc (length cells)) 255)) at here;
          holds = subst (λ cs. Holds rows (look cs)) (sym are) (holds_more more links grows.6);
          fields = same;
          stay = λ p lt. ap (λ cs. place_of cs p) are ∙ place_more cells more p lt;
          spares = (λ lt. absurd (omega (arith, full, lt)), λ e. ap length are ∙ length-append cells more ∙ ap (λ n. length cells + n) ml);
        }

pub ok_more : {X E : Type 0} (P Q : X → Type 0) (r : Result X E) → ((x : X) → P x → Q x) → IfOk r P → IfOk r Q
ok_more P Q (Ok x) f h = f x h
ok_more P Q (Err e) f h = h
