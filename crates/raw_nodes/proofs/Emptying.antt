-- Places that are emptied one after another, and blocks that are freed.
use Rattle.std.proofs.Common.{◌≡◌, ℕ, zero, suc, ◌+◌, ◌-◌, ◌<◌, List, [], ◌∷◌, ◌++◌, Option, Some, None, map, length, replicate, take, drop, set, get_or, refl, sym, ap, subst, ◌∙◌, arith}
use Rattle.std.proofs.lemmas.List.{length-append, length-map}
use Rattle.std.proofs.Math.Seq.{drop-append_seam, take-append_seam}
use denote.RawPtr.{Ptr}
use Rattle.std.specs.List.{AllByRecursion}
use Rattle.raw_nodes.specs.Places.{IsFilled}
use Rattle.raw_nodes.specs.Nodes.{IsToldByLinks}
use Rattle.raw_nodes.specs.Spots.{Spot, places, IsLast}
use Rattle.raw_nodes.specs.Heaps.{IsBlock, AreBlocks, block_places}
use Rattle.raw_nodes.specs.declared.node.Node.{Node}
use Rattle.raw_nodes.specs.declared.heap.Block.{Block}
use Rattle.raw_nodes.proofs.Growing.{places_more, drop_mapped}

module _ {X : Type 0} where
  -- the first i places are empty
  abbrev pub emptying : ℕ → List X → List (Option X)
  emptying zero xs = map Some xs
  emptying (suc i) [] = []
  emptying (suc i) (x ∷ xs) = None ∷ emptying i xs

  pub emptying_at : (i : ℕ) (xs : List X) → i < length xs → IsFilled (emptying i xs) i
  emptying_at zero [] lt = absurd (omega arith)
  emptying_at zero (x ∷ xs) lt = (x, refl)
  emptying_at (suc i) [] lt = absurd (omega arith)
  emptying_at (suc i) (x ∷ xs) lt = emptying_at i xs (omega arith)

  pub emptying_more : (i : ℕ) (xs : List X) → i < length xs → set (emptying i xs) i None ≡ emptying (suc i) xs
  emptying_more zero [] lt = absurd (omega arith)
  emptying_more zero (x ∷ xs) lt = refl
  emptying_more (suc i) [] lt = absurd (omega arith)
  emptying_more (suc i) (x ∷ xs) lt = ap (λ ys. None ∷ ys) (emptying_more i xs (omega arith))

  pub emptying_all : (xs : List X) → emptying (length xs) xs ≡ replicate (length xs) None
  emptying_all [] = refl
  emptying_all (x ∷ xs) = ap (λ ys. None ∷ ys) (emptying_all xs)

  pub mapped_held : (ss : List (Spot X)) → map (λ s. Some s.held) ss ≡ map Some (map (λ s. s.held) ss)
  mapped_held [] = refl
  mapped_held (s ∷ ss) = ap (λ ys. Some s.held ∷ ys) (mapped_held ss)

  take_mapped : {Y : Type 0} (f : X → Y) (n : ℕ) (xs : List X) → map f (take n xs) ≡ take n (map f xs)
  take_mapped f zero xs = refl
  take_mapped f (suc n) [] = refl
  take_mapped f (suc n) (x ∷ xs) = ap (λ ys. f x ∷ ys) (take_mapped f n xs)

module _ {T : Type 0} where
  pub emptying_told : (i : ℕ) (xs : List (Node T)) → AllByRecursion IsToldByLinks xs → (n : Node T) → get_or (emptying i xs) i None ≡ Some n → IsToldByLinks n
  emptying_told zero [] all n is = absurd (cc)
  emptying_told zero (x ∷ xs) all n is = let same : x ≡ n = search is in subst (λ m. IsToldByLinks m) same all.0
  emptying_told (suc i) [] all n is = absurd (cc)
  emptying_told (suc i) (x ∷ xs) all n is = emptying_told i xs all.1 n is

  -- all cells tell what they hold
  abbrev pub AreTold : List (Spot (Node T)) → Type 0
  AreTold ss = AllByRecursion (λ s. IsToldByLinks s.held) ss

  pub told_front : (n : ℕ) (ss : List (Spot (Node T))) → AreTold ss → AreTold (take n ss)
  told_front zero ss h = tt
  told_front (suc n) [] h = tt
  told_front (suc n) (s ∷ ss) h = (h.0, told_front n ss h.1)

  pub told_end : (n : ℕ) (ss : List (Spot (Node T))) → AreTold ss → AllByRecursion IsToldByLinks (map (λ s. s.held) (drop n ss))
  told_end zero [] h = tt
  told_end zero (s ∷ ss) h = (h.0, told_end zero ss h.1)
  told_end (suc n) [] h = tt
  told_end (suc n) (s ∷ ss) h = told_end n ss h.1

  -- how many cells the last block has
  pub last_long : (ss : List (Spot (Node T))) (ps : List Ptr) → IsLast ps ss → length (map (λ s. s.held) (drop (length ss - length ps) ss)) ≡ length ps
  last_long ss ps last =
      length-map (drop (length ss - length ps) ss) (λ (s : Spot (Node T)). s.held)
      ∙ sym (length-map (drop (length ss - length ps) ss) (λ (s : Spot (Node T)). s.at)) ∙ ap length last.1

  pub last_parts : (bs : List (Block T)) (b : Block T) → AreBlocks (bs ++ b ∷ []) → AreBlocks bs × IsBlock b
  last_parts [] b all = (tt, all.0)
  last_parts (c ∷ cs) b all = let rest = last_parts cs b all.1 in ((all.0, rest.0), rest.1)

  module _ (bs : List (Block T)) (b : Block T) (cells : List (Spot (Node T))) (laid : places cells ≡ block_places (bs ++ b ∷ [])) (full : length b.run.places ≡ 256) where
    placed : places cells ≡ block_places bs ++ b.run.places
    placed = laid ∙ places_more bs b

    long : length cells ≡ length (block_places bs) + length b.run.places
    long = sym (length-map cells (λ (s : Spot (Node T)). s.at)) ∙ ap length placed ∙ length-append (block_places bs) b.run.places

    pub last_block : IsLast b.run.places cells
    last_block =
        let l = long in
        let before : length cells - length b.run.places ≡ length (block_places bs) = omega (arith, l) in (
          omega (arith, l),
          drop_mapped (λ (s : Spot (Node T)). s.at) (length cells - length b.run.places) cells ∙ ap (λ n. drop n (places cells)) before
              ∙ ap (drop (length (block_places bs))) placed ∙ drop-append_seam (block_places bs) b.run.places,
        )

    pub blocks_left : places (take (length cells - 256) cells) ≡ block_places bs
    blocks_left =
        let l = long in
        let before : length cells - 256 ≡ length (block_places bs) = omega (arith, l, full) in
        take_mapped (λ (s : Spot (Node T)). s.at) (length cells - 256) cells ∙ ap (λ n. take n (places cells)) before
        ∙ ap (take (length (block_places bs))) placed ∙ take-append_seam (block_places bs) b.run.places
