-- Cells that lie apart are found by their pointers, and by their numbers.
use Rattle.std.proofs.Common.{◌≡◌, ◌≢◌, ℕ, zero, suc, ◌<◌, Bool, true, false, cond, List, [], ◌∷◌, Option, Some, None, map, length, get_or, refl, ap, ◌∙◌, arith}
use Rattle.std.specs.Prelude.{IsSome}
use Rattle.std.specs.List.{AllByRecursion, IsDistinct}
use Rattle.std.proofs.lemmas.List.{length-map}
use denote.RawPtr.{Ptr}
use Rattle.raw_nodes.specs.Spots.{Spot, same_ptr, places, IsApart, found, written}
use Rattle.raw_nodes.specs.Nodes.{place_of}
use Rattle.raw_nodes.proofs.Pointers.{same_ptr_refl}

pub none_apart : (X : Type 0) → IsApart {X = X} []
unfolding IsDistinct
none_apart X = tt

apart_at : (p : Ptr) (ps : List Ptr) (k : ℕ) (d : Ptr) → AllByRecursion (λ q. same_ptr p q ≡ false) ps → k < length ps → same_ptr p (get_or ps k d) ≡ false
apart_at p [] k d all lt = absurd (omega arith)
apart_at p (q ∷ qs) zero d all lt = all.0
apart_at p (q ∷ qs) (suc k) d all lt = apart_at p qs k d all.1 (omega arith)

module _ {X : Type 0} where
  apart_parts : (s : Spot X) (ss : List (Spot X)) → IsApart (s ∷ ss) → AllByRecursion (λ q. same_ptr s.at q ≡ false) (places ss) × IsApart ss
  unfolding IsDistinct
  apart_parts s ss a = (a.0, a.1)

  -- the number of a cell is that of its pointer
  pub place_at : (ss : List (Spot X)) (k : ℕ) (d : Ptr) → IsApart ss → k < length ss → place_of ss (get_or (places ss) k d) ≡ k
  place_at [] k d a lt = absurd (omega arith)
  place_at (s ∷ ss) zero d a lt = ap (λ b. cond b 0 (suc (place_of ss s.at))) (same_ptr_refl s.at)
  place_at (s ∷ ss) (suc k) d a lt =
      let parts = apart_parts s ss a in
      let long : k < length (places ss) = omega (arith, length-map ss (λ (t : Spot X). t.at)) in
      ap (λ b. cond b 0 (suc (place_of ss (get_or (places ss) k d)))) (apart_at s.at (places ss) k d parts.0 long) ∙ ap suc (place_at ss k d parts.1 (omega arith))

  -- what is found at a pointer is what the cell with its number holds
  abbrev pub held_at : List (Spot X) → ℕ → Option X
  held_at ss k = get_or (map (λ s. Some s.held) ss) k None

  pub found_at : (ss : List (Spot X)) (p : Ptr) → found ss p ≡ held_at ss (place_of ss p)
  found_at [] p = refl
  found_at (s ∷ ss) p = go (same_ptr s.at p) (found_at ss p)
    where
      go : (b : Bool) → found ss p ≡ held_at ss (place_of ss p) → cond b (Some s.held) (found ss p) ≡ get_or (Some s.held ∷ map (λ t. Some t.held) ss) (cond b 0 (suc (place_of ss p))) None
      go true rest = refl
      go false rest = rest

  pub held_within : (ss : List (Spot X)) (k : ℕ) → IsSome (held_at ss k) → k < length ss
  held_within [] k some = absurd (cc)
  held_within (s ∷ ss) zero some = omega arith
  held_within (s ∷ ss) (suc k) some = let rest = held_within ss k some in omega arith

  -- ---- a write

  pub places_written : (ss : List (Spot X)) (p : Ptr) (w : X) → places (written ss p w) ≡ places ss
  places_written [] p w = refl
  places_written (s ∷ ss) p w = go (same_ptr s.at p) (places_written ss p w)
    where
      go : (b : Bool) → places (written ss p w) ≡ places ss → places (cond b (record { at = s.at; held = w } ∷ ss) (s ∷ written ss p w)) ≡ s.at ∷ places ss
      go true rest = refl
      go false rest = ap (λ ps. s.at ∷ ps) rest

  pub held_same : (ss : List (Spot X)) (p : Ptr) (w : X) (k : ℕ) → k ≡ place_of ss p → k < length ss → held_at (written ss p w) k ≡ Some w
  held_same [] p w k e lt = absurd (omega arith)
  held_same (s ∷ ss) p w zero e lt = go (same_ptr s.at p) e
    where
      go : (b : Bool) → 0 ≡ cond b 0 (suc (place_of ss p)) → get_or (map (λ t. Some t.held) (cond b (record { at = s.at; held = w } ∷ ss) (s ∷ written ss p w))) 0 None ≡ Some w
      go true e = refl
      go false e = absurd (omega (arith, e))
  held_same (s ∷ ss) p w (suc k) e lt = go (same_ptr s.at p) e (λ same. held_same ss p w k same (omega arith))
    where
      go : (b : Bool) → suc k ≡ cond b 0 (suc (place_of ss p)) → (k ≡ place_of ss p → held_at (written ss p w) k ≡ Some w)
          → get_or (map (λ t. Some t.held) (cond b (record { at = s.at; held = w } ∷ ss) (s ∷ written ss p w))) (suc k) None ≡ Some w
      go true e rest = absurd (omega (arith, e))
      go false e rest = rest (omega (arith, e))

  pub held_other : (ss : List (Spot X)) (p : Ptr) (w : X) (k : ℕ) → k ≢ place_of ss p → held_at (written ss p w) k ≡ held_at ss k
  held_other [] p w k d = refl
  held_other (s ∷ ss) p w zero d = go (same_ptr s.at p) d
    where
      go : (b : Bool) → 0 ≢ cond b 0 (suc (place_of ss p)) → get_or (map (λ t. Some t.held) (cond b (record { at = s.at; held = w } ∷ ss) (s ∷ written ss p w))) 0 None ≡ Some s.held
      go true d = absurd (d refl)
      go false d = refl
  held_other (s ∷ ss) p w (suc k) d = go (same_ptr s.at p) d (held_other ss p w k)
    where
      go : (b : Bool) → suc k ≢ cond b 0 (suc (place_of ss p)) → (k ≢ place_of ss p → held_at (written ss p w) k ≡ held_at ss k)
          → get_or (map (λ t. Some t.held) (cond b (record { at = s.at; held = w } ∷ ss) (s ∷ written ss p w))) (suc k) None ≡ held_at ss k
      go true d rest = refl
      go false d rest = rest (λ e. d (ap suc e))

  -- places alone tell where a pointer's cell stands
  pub place_alike : {Y : Type 0} (ss : List (Spot X)) (ts : List (Spot Y)) (p : Ptr) → places ss ≡ places ts → place_of ss p ≡ place_of ts p
  place_alike [] [] p e = refl
  place_alike [] (t ∷ ts) p e = absurd (cc)
  place_alike (s ∷ ss) [] p e = absurd (cc)
  place_alike (s ∷ ss) (t ∷ ts) p e =
      let here : s.at ≡ t.at = ap (head_or s.at) e in
      let rest : places ss ≡ places ts = ap tail_of e in
      ap (λ q. cond (same_ptr q p) 0 (suc (place_of ss p))) here ∙ ap (λ n. cond (same_ptr t.at p) 0 (suc n)) (place_alike ss ts p rest)
    where
      head_or : Ptr → List Ptr → Ptr
      head_or q [] = q
      head_or q (x ∷ xs) = x

      tail_of : List Ptr → List Ptr
      tail_of [] = []
      tail_of (x ∷ xs) = xs
