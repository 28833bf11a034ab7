-- What a new block makes of the heap.
use Rattle.std.proofs.Common.{◌≡◌, ℕ, zero, suc, ◌+◌, ◌<◌, List, [], ◌∷◌, ◌++◌, Option, Some, map, length, drop, get_or, refl, sym, ap, subst, ◌∙◌, arith, append_assoc, append-nil}
use Rattle.std.proofs.lemmas.List.{map-append, length-map}
use Rattle.std.proofs.Math.Seq.{drop-append_seam}
use Rattle.std.specs.List.{AllByRecursion}
use denote.RawPtr.{Ptr, ◌+ₚ◌}
use Rattle.raw_nodes.specs.Places.{somes}
use Rattle.raw_nodes.specs.Spots.{Spot, places, spots, run_places, IsApart, IsInSomeBlock}
use Rattle.raw_nodes.specs.Nodes.{Numbered, dead_nodes, head_link}
use Rattle.raw_nodes.specs.Heaps.{IsBlock, AreBlocks, block_places, IsHeap, Grows, addresses}
use Rattle.raw_nodes.specs.declared.arena.Link.{Link}
use Rattle.raw_nodes.specs.declared.node.Node.{Node}
use Rattle.raw_nodes.specs.declared.heap.Block.{Block}
use Rattle.raw_nodes.specs.declared.heap.Heap.{Heap}
use Rattle.raw_nodes.proofs.Runs.{places_spots}

pub somes_map : {X : Type 0} (xs : List X) → somes (map Some xs) ≡ xs
somes_map [] = refl
somes_map (x ∷ xs) = ap (λ ys. x ∷ ys) (somes_map xs)

pub full : {X : Type 0} (cs : List (Option X)) (xs : List X) → cs ≡ map Some xs → cs ≡ map Some (somes cs)
full cs xs e = e ∙ ap (map Some) (sym (ap somes e ∙ somes_map xs))

held_spots : {X : Type 0} (s : ℕ) (p : Ptr) (xs : List X) → map (λ t. t.held) (spots s p xs) ≡ xs
held_spots s p [] = refl
held_spots s p (x ∷ xs) = ap (λ ys. x ∷ ys) (held_spots s (p +ₚ s) xs)

pub drop_mapped : {X Y : Type 0} (f : X → Y) (n : ℕ) (xs : List X) → map f (drop n xs) ≡ drop n (map f xs)
drop_mapped f zero xs = refl
drop_mapped f (suc n) [] = refl
drop_mapped f (suc n) (x ∷ xs) = drop_mapped f n xs

run_long : (s : ℕ) (p : Ptr) (n : ℕ) → length (run_places s p n) ≡ n
run_long s p zero = refl
run_long s p (suc n) = ap suc (run_long s (p +ₚ s) n)

dead_long : (T : Type 0) (k : ℕ) (ls : List Link) → length (dead_nodes {T = T} k ls) ≡ length ls
dead_long T k [] = refl
dead_long T k (l ∷ ls) = ap suc (dead_long T (suc k) ls)

numbered_dead : (T : Type 0) (k s : ℕ) (p : Ptr) (ls : List Link) → Numbered k (spots s p (dead_nodes {T = T} k ls))
numbered_dead T k s p [] = tt
numbered_dead T k s p (l ∷ ls) = (refl, numbered_dead T (suc k) s (p +ₚ s) ls)

-- where the links lie that came behind the old ones
pub new_addresses : (old new : List Link) (s : ℕ) (p : Ptr) (n : ℕ) → addresses new ≡ addresses old ++ run_places s p n → addresses (drop (length old) new) ≡ run_places s p n
new_addresses old new s p n tabled =
    drop_mapped (λ (l : Link). l.ptr) (length old) new
    ∙ ap (drop (length old)) tabled
    ∙ ap (λ k. drop k (addresses old ++ run_places s p n)) (sym (length-map old (λ (l : Link). l.ptr)))
    ∙ drop-append_seam (addresses old) (run_places s p n)

all_both : {X : Type 0} (P : X → Type 0) (xs ys : List X) → AllByRecursion P xs → AllByRecursion P ys → AllByRecursion P (xs ++ ys)
all_both P [] ys a b = b
all_both P (x ∷ xs) ys a b = (a.0, all_both P xs ys a.1 b)

module _ {T : Type 0} where
  blocks_more : (bs : List (Block T)) (b : Block T) → AreBlocks bs → IsBlock b → AreBlocks (bs ++ b ∷ [])
  blocks_more [] b all one = (one, tt)
  blocks_more (c ∷ cs) b all one = (all.0, blocks_more cs b all.1 one)

  pub places_more : (bs : List (Block T)) (b : Block T) → block_places (bs ++ b ∷ []) ≡ block_places bs ++ b.run.places
  places_more [] b = append-nil b.run.places
  places_more (c ∷ cs) b = ap (λ ps. c.run.places ++ ps) (places_more cs b) ∙ sym (append_assoc c.run.places (block_places cs) b.run.places)

  numbered_both : (k : ℕ) (ss ts : List (Spot (Node T))) → Numbered k ss → Numbered (k + length ss) ts → Numbered k (ss ++ ts)
  numbered_both k [] ts a b = let same : k + 0 ≡ k = omega arith in subst (λ n. Numbered n ts) same b
  numbered_both k (s ∷ ss) ts a b =
      let same : k + suc (length ss) ≡ suc k + length ss = omega arith in
      (a.0, numbered_both (suc k) ss ts a.1 (subst (λ n. Numbered n ts) same b))

  module _ (old new : Heap T) (h : IsHeap old) (s : ℕ) (base : Ptr) (slots : List (Option (Node T))) (b : Block T)
      (tabled : addresses new.links.items ≡ addresses old.links.items ++ run_places s base 256)
      (filled : slots ≡ map Some (dead_nodes (length old.links.items) (drop (length old.links.items) new.links.items)))
      (celled : new.arena.cells ≡ old.arena.cells ++ spots s base (somes slots)) where
    abbrev nodes : List (Node T)
    nodes = dead_nodes (length old.links.items) (drop (length old.links.items) new.links.items)

    abbrev links : List Link
    links = drop (length old.links.items) new.links.items

    values : somes slots ≡ nodes
    values = ap somes filled ∙ somes_map nodes

    cells_are : new.arena.cells ≡ old.arena.cells ++ spots s base nodes
    cells_are = celled ∙ ap (λ xs. old.arena.cells ++ spots s base xs) values

    link_places : addresses links ≡ run_places s base 256
    link_places = new_addresses old.links.items new.links.items s base 256 tabled

    pub links_long : length links ≡ 256
    links_long = sym (length-map links (λ (l : Link). l.ptr)) ∙ ap length link_places ∙ run_long s base 256

    node_places : places (spots s base nodes) ≡ run_places s base 256
    node_places = places_spots s base nodes ∙ ap (run_places s base) (dead_long T (length old.links.items) links ∙ links_long)

    pub run_is : places (spots s base (somes slots)) ≡ run_places s base 256
    run_is = ap (λ xs. places (spots s base xs)) values ∙ node_places

    all_places : places new.arena.cells ≡ places old.arena.cells ++ run_places s base 256
    all_places = ap places cells_are ∙ map-append (λ (t : Spot (Node T)). t.at) old.arena.cells (spots s base nodes) ∙ ap (λ ps. places old.arena.cells ++ ps) node_places

    as_many : length old.arena.cells ≡ length old.links.items
    as_many = sym (length-map old.arena.cells (λ (t : Spot (Node T)). t.at)) ∙ ap length h.table ∙ length-map old.links.items (λ (l : Link). l.ptr)

    pub grown : IsApart new.arena.cells → AllByRecursion IsInSomeBlock (run_places s base 256) → new.blocks.items ≡ old.blocks.items ++ b ∷ [] → b.run.at ≡ b.base.ptr → b.run.places ≡ places (spots s base (somes slots)) → b.deed.at ≡ b.base.ptr → b.deed.len ≡ 256 → IsHeap new
    grown apart placed pushed at ps deed_at deed_len =
        record {
          apart = apart;
          placed = subst (AllByRecursion IsInSomeBlock) (sym all_places) (all_both IsInSomeBlock (places old.arena.cells) (run_places s base 256) h.placed placed);
          table = all_places ∙ ap (λ qs. qs ++ run_places s base 256) h.table ∙ sym tabled;
          blocks = subst AreBlocks (sym pushed) (blocks_more old.blocks.items b h.blocks (at, ap length (ps ∙ run_is) ∙ run_long s base 256, deed_at, deed_len));
          laid = all_places ∙ ap (λ qs. qs ++ run_places s base 256) h.laid ∙ ap (λ qs. block_places old.blocks.items ++ qs) (sym (ps ∙ run_is))
              ∙ sym (ap block_places pushed ∙ places_more old.blocks.items b);
          numbered = subst (Numbered 0) (sym cells_are) (numbered_both 0 old.arena.cells (spots s base nodes) h.numbered
              (subst (λ n. Numbered n (spots s base nodes)) (sym (zero_more (length old.arena.cells) ∙ as_many)) (numbered_dead T (length old.links.items) s base links)));
        }
      where
        zero_more : (n : ℕ) → 0 + n ≡ n
        zero_more n = omega arith

    head_first : (ls : List Link) (l : Link) → 0 < length ls → get_or ls 0 l ≡ l → head_link ls ≡ Some l
    head_first [] l some e = absurd (omega arith)
    head_first (k ∷ ks) l some e = ap Some e

    get_dropped : (n : ℕ) (ls : List Link) (l : Link) → get_or (drop n ls) 0 l ≡ get_or ls n l
    get_dropped zero ls l = refl
    get_dropped (suc n) [] l = refl
    get_dropped (suc n) (k ∷ ks) l = get_dropped n ks l

    pub grows : (first : Link) → first ≡ get_or new.links.items (length old.links.items) first → Grows old new first
    grows first is =
        let long = links_long in (
          links,
          links_long,
          head_first links first (omega arith) (get_dropped (length old.links.items) new.links.items first ∙ sym is),
          spots s base nodes,
          cells_are,
          node_places ∙ sym link_places,
          held_spots s base nodes ∙ ap (λ n. dead_nodes n links) (sym as_many),
        )
