-- From the mask of one block to the bytes that pass a test, and to the first that does.
use Rattle.std.proofs.Common.{◌≡◌, ℕ, ◌+◌, ◌%◌, ◌^◌, ◌<◌, ◌≤◌, eqb, Bool, true, false, not, cond, ◌||◌, List, [], ◌∷◌, map, length, get_or, take, get_or-take, length-take, replicate, Fits, w8, bit_or, Some, None, refl, sym, ap, ap₂, ◌∙◌, arith}
use Rattle.std.proofs.lemmas.Bool.{agree_below, agree_below_at, true≢false}
use Rattle.std.proofs.lemmas.Simd.{map-map, mask_l-mod, length-chunk, first_set_mask_l, run_in_chunk_le, run_in_chunk_fails, run_in_chunk_stops}
use Rattle.std.proofs.lemmas.List.{length-map}
use Rattle.std.proofs.lemmas.List.Sums.{list_all-from_AllPass}
use Rattle.std.proofs.lemmas.List.Elements.{All-from_get_or}
use Rattle.std.specs.List.{prefix_len, list_all}
use lib.Lanes.{chunk, zip2, mask_l, top}
use Rattle.memchr.specs.Find.{IsFirst, Nowhere, Passes, is_byte3}
use Rattle.doc_parts.specs.Blocks.{PassesBlock, first_set}

zip2-map : (h : ℕ → ℕ → ℕ) (f g : ℕ → ℕ) (xs : List ℕ) → zip2 h (map f xs) (map g xs) ≡ map (λ x. h (f x) (g x)) xs
zip2-map h f g [] = refl
zip2-map h f g (x ∷ xs) = ap (λ r. h (f x) (g x) ∷ r) (zip2-map h f g xs)

-- an operation on two vectors that were computed lane by lane from v
pub joined : (h : ℕ → ℕ → ℕ) (f g : ℕ → ℕ) (v : List ℕ) {a b : List ℕ} → a ≡ map f v → b ≡ map g v → zip2 h a b ≡ map (λ x. h (f x) (g x)) v
joined h f g v p q = ap₂ (zip2 h) p q ∙ zip2-map h f g v

pub splat_is : (v : List ℕ) (n y : ℕ) → length v ≡ n → replicate n y ≡ map (λ _. y) v
splat_is [] n y e = ap (λ k. replicate k y) (sym e)
splat_is (x ∷ xs) n y e = ap (λ k. replicate k y) (sym e) ∙ ap (λ r. y ∷ r) (splat_is xs (length xs) y refl)

pub itself : (v : List ℕ) → v ≡ map (λ x. x) v
itself [] = refl
itself (x ∷ xs) = ap (λ r. x ∷ r) (itself xs)

module _ (q : ℕ → Bool) (d : List ℕ) (i n r : ℕ) (z : List ℕ) (room : i + n ≤ length d) (few : n ≤ 64)
    (found : r ≡ first_set (mask_l (map (top 7) z) % 2 ^ 64) n) (f : ℕ → ℕ) (lanes : z ≡ map f (chunk i n d)) where
  abbrev stops : ℕ → Bool
  stops x = top 7 (f x)

  counted : r ≡ prefix_len (λ x. not (stops x)) (chunk i n d)
  counted =
      let v = chunk i n d in
      let long = length-chunk i n d room in
      let mask = ap (λ l. mask_l l % 2 ^ 64) (ap (map (top 7)) lanes ∙ map-map (top 7) f v) ∙ mask_l-mod (map stops v) 64 (omega (arith, length-map v stops, long)) in
      found ∙ ap (λ m. first_set m n) mask ∙ first_set_mask_l stops v n long few

  goes_on : (k : ℕ) → i ≤ k → k < i + r → stops (get_or d k 0) ≡ false
  goes_on = run_in_chunk_fails stops d i n r 0 room counted

  few_pass : r ≤ n
  few_pass = run_in_chunk_le stops d i n r 0 room counted

  -- each byte at which no lane stops passes q, which is computed for each byte
  pub passes_in : ((k : ℕ) → Fits w8 (get_or d k 0)) → agree_below (λ x. stops x || q x) (λ _. true) 256 ≡ true → PassesBlock q d i n r
  passes_in fits all = record {
    within = few_pass;
    pass = λ k from to. sym (ap (λ b. b || q (get_or d k 0)) (goes_on k from to)) ∙ agree_below_at (λ x. stops x || q x) (λ _. true) 256 (get_or d k 0) all (fits k).fits;
  }

  -- the lanes stop at the bytes that pass q
  module _ (same : (x : ℕ) → stops x ≡ q x) where
    none_before : Nowhere (Passes q d) i (i + r)
    none_before k low below is = absurd (true≢false (sym is ∙ sym (same (get_or d k 0)) ∙ goes_on k low below))

    pub first_inside : r < n → IsFirst (Passes q d) i (i + n) (Some (i + r))
    first_inside inside = (
      record { low = omega arith; high = omega arith; before = none_before },
      sym (same (get_or d (i + r) 0)) ∙ run_in_chunk_stops stops d i n r 0 room counted inside,
    )

    pub none_inside : n ≤ r → IsFirst (Passes q d) i (i + n) None
    none_inside past k low below = none_before k low (omega arith)

-- what stands in a lane where a byte is compared with three
abbrev pub lane_of : ℕ → ℕ → ℕ → ℕ → ℕ
lane_of a b c x = bit_or (bit_or (cond (eqb x a) 255 0) (cond (eqb x b) 255 0)) (cond (eqb x c) 255 0)

pub lane_tells : (a b c x : ℕ) → top 7 (lane_of a b c x) ≡ is_byte3 a b c x
lane_tells a b c x = by (eqb x a) (eqb x b) (eqb x c)
  where
    by : (p q r : Bool) → top 7 (bit_or (bit_or (cond p 255 0) (cond q 255 0)) (cond r 255 0)) ≡ (p || q) || r
    by true true true = refl
    by true true false = refl
    by true false true = refl
    by true false false = refl
    by false true true = refl
    by false true false = refl
    by false false true = refl
    by false false false = refl

-- a run at the start
pub front_passes : (q : ℕ → Bool) (bytes : List ℕ) (n run : ℕ) → n ≤ length bytes → PassesBlock q bytes 0 n run → list_all q (take run bytes) ≡ true
front_passes q bytes n run room h =
    let few = h.within in
    list_all-from_AllPass q (take run bytes) (All-from_get_or (λ x. q x ≡ true) (take run bytes) 0
    (λ k inside.
    let below : k < run = omega (arith, length-take run bytes) in
    ap q (get_or-take run bytes k 0 below) ∙ h.pass k (omega arith) (omega arith)))
