-- A block's places as they are filled one after another, and the links to them.
use Rattle.std.proofs.Common.{◌≡◌, ℕ, zero, suc, ◌+◌, ◌*◌, ◌<◌, List, [], ◌∷◌, ◌++◌, Option, Some, None, map, length, replicate, get_or, set, refl, sym, ap, ◌∙◌, arith, slice_get}
use Rattle.std.proofs.Math.ListN.{length-replicate}
use denote.RawPtr.{Ptr, block_ptr, null_ptr, ◌+ₚ◌}
use Rattle.raw_nodes.specs.Spots.{run_places, cell_ptr}
use Rattle.raw_nodes.specs.Nodes.{dead_node, dead_nodes, head_link}
use Rattle.raw_nodes.specs.declared.arena.Link.{Link}
use Rattle.raw_nodes.specs.declared.node.Node.{Node}

next_link : (ls : List Link) → head_link ls ≡ slice_get ls 0
next_link [] = refl
next_link (l ∷ ls) = refl

module _ (T : Type 0) where
  -- the first i dead nodes are there
  abbrev pub filling : ℕ → ℕ → List Link → List (Option (Node T))
  filling zero k ls = replicate (length ls) None
  filling (suc i) k [] = []
  filling (suc i) k (l ∷ ls) = Some (dead_node k (Some l) (head_link ls)) ∷ filling i (suc k) ls

  pub filling_none : (i k : ℕ) (ls : List Link) → get_or (filling i k ls) i None ≡ None
  filling_none zero k [] = refl
  filling_none zero k (l ∷ ls) = refl
  filling_none (suc i) k [] = refl
  filling_none (suc i) k (l ∷ ls) = filling_none i (suc k) ls

  pub filling_long : (i k : ℕ) (ls : List Link) → length (filling i k ls) ≡ length ls
  filling_long zero k ls = length-replicate (length ls) None
  filling_long (suc i) k [] = refl
  filling_long (suc i) k (l ∷ ls) = ap suc (filling_long i (suc k) ls)

  pub filling_more : (i k : ℕ) (ls : List Link) → i < length ls → set (filling i k ls) i (Some (dead_node (k + i) (slice_get ls i) (slice_get ls (suc i)))) ≡ filling (suc i) k ls
  filling_more zero k [] lt = absurd (omega arith)
  filling_more zero k (l ∷ ls) lt = ap (λ n. Some n ∷ replicate (length ls) None) (λ j. dead_node (add_none k j) (Some l) (sym (next_link ls) j))
    where
      add_none : (k : ℕ) → k + 0 ≡ k
      add_none k = omega arith
  filling_more (suc i) k [] lt = absurd (omega arith)
  filling_more (suc i) k (l ∷ ls) lt =
      let shift : k + suc i ≡ suc k + i = omega arith in
      ap (λ xs. Some (dead_node k (Some l) (head_link ls)) ∷ xs) (ap (λ n. set (filling i (suc k) ls) i (Some (dead_node n (slice_get ls i) (slice_get ls (suc i))))) shift ∙ filling_more i (suc k) ls (omega arith))

  pub filling_all : (k : ℕ) (ls : List Link) → filling (length ls) k ls ≡ map Some (dead_nodes k ls)
  filling_all k [] = refl
  filling_all k (l ∷ ls) = ap (λ xs. Some (dead_node k (Some l) (head_link ls)) ∷ xs) (filling_all (suc k) ls)

moved : (p : Ptr) (a b c : ℕ) → a + b ≡ c → (p +ₚ a) +ₚ b ≡ p +ₚ c
moved (block_ptr b o) x y z e = let same : o + x + y ≡ o + z = omega (arith, e) in ap (block_ptr b) same
moved null_ptr x y z e = refl

unmoved : (p : Ptr) (n : ℕ) → n ≡ 0 → p ≡ p +ₚ n
unmoved (block_ptr b o) n e = let same : o ≡ o + n = omega (arith, e) in ap (block_ptr b) same
unmoved null_ptr n e = refl

-- one place more at the end of a run
pub run_more : (s : ℕ) (p : Ptr) (n : ℕ) → run_places s p n ++ cell_ptr s p n ∷ [] ≡ run_places s p (suc n)
run_more s p zero = ap (λ q. q ∷ []) (sym (unmoved p (0 * s) (none s)))
  where
    none : (s : ℕ) → 0 * s ≡ 0
    none s = omega arith
run_more s p (suc n) =
    let at : s + n * s ≡ suc n * s = omega arith in
    ap (λ ps. p ∷ ps) (ap (λ q. run_places s (p +ₚ s) n ++ q ∷ []) (sym (moved p s (n * s) (suc n * s) at)) ∙ run_more s (p +ₚ s) n)
