-- Cells lie in blocks, where pointers to them may be compared with null.
use Rattle.std.proofs.Common.{◌≡◌, ℕ, zero, suc, ◌+◌, ◌*◌, ◌^◌, ◌<◌, Bool, true, false, cond, List, [], ◌∷◌, ◌++◌, Some, length, drop, slice_get, refl, sym, ap, subst, ◌∙◌, arith}
use Rattle.std.specs.Prelude.{IsSome, IfSome}
use Rattle.std.specs.List.{AllByRecursion}
use denote.RawPtr.{Ptr, block_ptr, count_of}
use Rattle.raw_nodes.specs.Spots.{Spot, same_ptr, places, found, run_places, IsIn, IsInSomeBlock}
use Rattle.raw_nodes.specs.Heaps.{addresses}
use Rattle.raw_nodes.specs.declared.arena.Link.{Link}
use Rattle.raw_nodes.proofs.Pointers.{same_ptr_eq}
use Rattle.raw_nodes.proofs.Growing.{new_addresses}

-- ---- a block's cells

run_placed : (s b o n : ℕ) → o + n * s < 2 ^ 63 → AllByRecursion IsInSomeBlock (run_places s (block_ptr b o) n)
run_placed s b o zero lt = tt
run_placed s b o (suc n) lt =
    let more : s + n * s ≡ suc n * s = omega arith in
    let here : o < 2 ^ 63 = omega (arith, lt) in
    let rest : o + s + n * s < 2 ^ 63 = omega (arith, lt, more) in
    ((tt, here), run_placed s b (o + s) n rest)

-- a block that begins where its pointer leads
pub block_placed : (s : ℕ) (p : Ptr) (n : ℕ) → IsIn p → count_of p ≡ 0 → n * s < 2 ^ 63 → AllByRecursion IsInSomeBlock (run_places s p n)
block_placed s p n within start lt =
    let first : within.1 ≡ 0 = sym (ap count_of within.2) ∙ start in
    subst (λ q. AllByRecursion IsInSomeBlock (run_places s q n)) (sym within.2) (run_placed s within.0 within.1 n (omega (arith, lt, first)))

-- ---- one cell

pub found_placed : {X : Type 0} (ss : List (Spot X)) (p : Ptr) → AllByRecursion IsInSomeBlock (places ss) → IsSome (found ss p) → IsInSomeBlock p
found_placed [] p all some = absurd (cc)
found_placed (s ∷ ss) p all some = go (same_ptr s.at p) refl some (λ there. found_placed ss p all.1 there)
  where
    go : (b : Bool) → same_ptr s.at p ≡ b → IsSome (cond b (Some s.held) (found ss p)) → (IsSome (found ss p) → IsInSomeBlock p) → IsInSomeBlock p
    go true same some rest = subst IsInSomeBlock (same_ptr_eq s.at p same) all.0
    go false same some rest = rest some

pub link_placed : (ls : List Link) (i : ℕ) → AllByRecursion IsInSomeBlock (addresses ls) → IfSome (slice_get ls i) (λ l. IsInSomeBlock l.ptr)
link_placed [] i all = tt
link_placed (l ∷ ls) zero all = all.0
link_placed (l ∷ ls) (suc i) all = link_placed ls i all.1

-- ---- a block more

pub new_placed : (old new : List Link) (s : ℕ) (p : Ptr) (n : ℕ) → addresses new ≡ addresses old ++ run_places s p n → AllByRecursion IsInSomeBlock (run_places s p n)
    → AllByRecursion IsInSomeBlock (addresses (drop (length old) new))
new_placed old new s p n tabled all = subst (AllByRecursion IsInSomeBlock) (sym (new_addresses old new s p n tabled)) all
