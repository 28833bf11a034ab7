-- Cells side by side: a block's places are cells, and cells that are owned together lie apart. Assumes `Logic`.
use mathlib.Core.Path.{◌≡◌, refl, ap, subst}
use mathlib.Core.Bool.{Bool, true, false}
use Prim.Native.Nat.{ℕ, suc, ◌+◌, ◌-◌, ◌<◌, ◌≤◌}
use lib.ListN.{length}
use native.Mathlib.Omega.{arith}
use mathlib.Core.List.{List, [], ◌∷◌, ◌++◌, map}
use seplogic.Ra.Ura.{Ura}
use base.Fraction.{full_share}
use base.Logic.{ent, sep, via, never, never_e, fst∗, id⊢, mono_r}
use base.Fml.{ftrue, fat}
use prog.Model.{Model}
use types.Logic.{Logic, sem}
use contract.Monad.{fact, fact_i, fact_use}
use types.Kit.{Item, Goal, Seq, mean, prop, ‵, raw, some, given, ◌⊛◌, ◌$◌, ◌∵◌, !, qed, by, move, keep, drop, learn, pick, use1, use2, split, fsplit, fjoin, done}
use denote.RattleType.{RattleType}
use denote.Steps.{nothing}
use denote.Memory.{part_at}
use denote.RawPtr.{Ptr, block_ptr, null_ptr, lies_at, room_for, ◌+ₚ◌}
use mir.Val.{Val}
use Rattle.std.specs.Prelude.{Some}
use Rattle.std.specs.List.{AllByRecursion, IsDistinct}
use Rattle.core.proofs.mem.Param.{El, R, el_x, elτ}
use Rattle.std_alloc.proofs.RcSteps.{Good}
use Rattle.raw_nodes.specs.Ownership.{slots}
use Rattle.raw_nodes.specs.Spots.{Spot, same_ptr, spots, spots_own, run_places, places, IsApart}
use Rattle.raw_nodes.proofs.Memory.{sz, value_out}
use Rattle.raw_nodes.proofs.Pointers.{same_ptr_eq}

module _ {M : Type 1} {𝓤 : Ura M} {𝓛 : Logic 𝓤} {K : Type 0} {Γ : List (Item 𝓤)} {G : Goal 𝓤 𝓛.H} where
  -- a fact that an entry shows is learned, and it stays
  pub knows : K → {i : Item 𝓤} (φ : Type 0) → ent 𝓤 (mean 𝓛 i) (fact 𝓤 φ) → (φ → Seq K 𝓛 (i ∷ Γ) G) → Seq K 𝓛 (i ∷ Γ) G
  knows t {i} φ h k =
      let shown : Seq K 𝓛 (i ∷ Γ) (prop (fact 𝓤 φ)) = use1 𝓛 (raw (fact 𝓤 φ)) h $ keep t (0 ∷ []) $ done t in
      record { prf = fact_use 𝓤 φ shown.prf (λ x. (k x).prf) }

  pub knows2 : K → {i j : Item 𝓤} (φ : Type 0) → ent 𝓤 (sep 𝓤 (mean 𝓛 i) (mean 𝓛 j)) (fact 𝓤 φ) → (φ → Seq K 𝓛 (i ∷ j ∷ Γ) G) → Seq K 𝓛 (i ∷ j ∷ Γ) G
  knows2 t {i} {j} φ h k =
      let shown : Seq K 𝓛 (i ∷ j ∷ Γ) (prop (fact 𝓤 φ)) = use2 𝓛 (raw (fact 𝓤 φ)) h $ keep t (0 ∷ []) $ done t in
      record { prf = fact_use 𝓤 φ shown.prf (λ x. (k x).prf) }

module _ (R : RattleType) {M : Type 1} {𝓤 : Ura M} (𝓛 : Logic 𝓤) where
  pub own_cut : (xs ys : List (Spot R.Denot)) → ent 𝓤 (sem 𝓛 (spots_own R (xs ++ ys))) (sep 𝓤 (sem 𝓛 (spots_own R xs)) (sem 𝓛 (spots_own R ys)))
  own_cut [] ys = qed 𝓛 (‵ (spots_own R ys) ∷ []) ∵ nothing ! $ done !
  own_cut (x ∷ xs) ys = qed 𝓛 (‵ (spots_own R (x ∷ xs ++ ys)) ∷ []) ∵ fsplit ! $ move ! (1 ∷ []) $
      use1 𝓛 (‵ (spots_own R xs) ⊛ ‵ (spots_own R ys)) (own_cut xs ys) $ split ! $ move ! (2 ∷ 0 ∷ []) $ fjoin ! $ done !

  pub own_glue : (xs ys : List (Spot R.Denot)) → ent 𝓤 (sep 𝓤 (sem 𝓛 (spots_own R xs)) (sem 𝓛 (spots_own R ys))) (sem 𝓛 (spots_own R (xs ++ ys)))
  own_glue [] ys = qed 𝓛 (‵ ftrue ∷ ‵ (spots_own R ys) ∷ []) ∵ drop ! $ done !
  own_glue (x ∷ xs) ys = qed 𝓛 (‵ (spots_own R (x ∷ xs)) ∷ ‵ (spots_own R ys) ∷ []) ∵ fsplit ! $ move ! (1 ∷ 2 ∷ []) $
      use2 𝓛 (‵ (spots_own R (xs ++ ys))) (own_glue xs ys) $ move ! (1 ∷ 0 ∷ []) $ fjoin ! $ done !

module _ (E : El) {M : Type 1} {𝓤 : Ura M} (𝓛 : Logic 𝓤) where
  -- full places are cells, and back
  pub run_in : (xs : List (el_x E)) (b o : ℕ) → ent 𝓤 (sem 𝓛 (slots (R E) b o (map Some xs))) (sem 𝓛 (spots_own (R E) (spots (sz E) (block_ptr b o) xs)))
  run_in [] b o = id⊢ 𝓤 _
  run_in (x ∷ xs) b o = mono_r 𝓤 (sem 𝓛 (part_at (R E) full_share x b o)) (run_in xs b (o + sz E))

  pub run_out : (xs : List (el_x E)) (b o : ℕ) → ent 𝓤 (sem 𝓛 (spots_own (R E) (spots (sz E) (block_ptr b o) xs))) (sem 𝓛 (slots (R E) b o (map Some xs)))
  run_out [] b o = id⊢ 𝓤 _
  run_out (x ∷ xs) b o = mono_r 𝓤 (sem 𝓛 (part_at (R E) full_share x b o)) (run_out xs b (o + sz E))

  -- a cell is room, whatever it holds
  pub room_of : (p : Ptr) (x : el_x E) → ent 𝓤 (sem 𝓛 (lies_at (R E) full_share p x)) (sem 𝓛 (room_for (elτ E) p))
  room_of (block_ptr b o) x = qed 𝓛 (‵ (part_at (R E) full_share x b o) ∷ []) ∵
      use1 𝓛 (some (λ (v : Val). given (Good (elτ E) v) (‵ (fat full_share (elτ E) b o v) ⊛ ‵ (E.row.own_val x (v ∷ []))))) (value_out 0 E.row E.laws 𝓛 x b o) $
      pick ! (λ v. learn ! (λ good. split ! $ keep ! (0 ∷ []) $ by ! (𝓛.laws.at_room (elτ E) b o v)))
  room_of null_ptr x = id⊢ 𝓤 _

  module _ (𝓜 : Model 𝓤 𝓛.H) (some_size : 0 < sz E) where
    crowd : (p : Ptr) → ent 𝓤 (sep 𝓤 (sem 𝓛 (room_for (elτ E) p)) (sem 𝓛 (room_for (elτ E) p))) (never 𝓤)
    crowd (block_ptr b o) = 𝓜.room-room (elτ E) (elτ E) b o o o (omega arith, omega arith) (omega arith, omega arith)
    crowd null_ptr = fst∗ 𝓤 (never 𝓤) (never 𝓤)

    -- two cells lie at two pointers
    differ : (p q : Ptr) (x y : el_x E) → ent 𝓤 (sep 𝓤 (sem 𝓛 (lies_at (R E) full_share p x)) (sem 𝓛 (lies_at (R E) full_share q y))) (fact 𝓤 (same_ptr p q ≡ false))
    differ p q x y = go (same_ptr p q) refl
      where
        go : (b : Bool) → same_ptr p q ≡ b → ent 𝓤 (sep 𝓤 (sem 𝓛 (lies_at (R E) full_share p x)) (sem 𝓛 (lies_at (R E) full_share q y))) (fact 𝓤 (same_ptr p q ≡ false))
        go true is = via 𝓤 (never 𝓤) (subst (λ r. ent 𝓤 (sep 𝓤 (sem 𝓛 (lies_at (R E) full_share p x)) (sem 𝓛 (lies_at (R E) full_share r y))) (never 𝓤)) (same_ptr_eq p q is)
            (qed 𝓛 (‵ (lies_at (R E) full_share p x) ∷ ‵ (lies_at (R E) full_share p y) ∷ []) ∵
            use1 𝓛 (‵ (room_for (elτ E) p)) (room_of p x) $ move ! (1 ∷ []) $ use1 𝓛 (‵ (room_for (elτ E) p)) (room_of p y) $ by ! (crowd p))) (never_e 𝓤 _)
        go false is = fact_i 𝓤 (same_ptr p q ≡ false) _ is

    head_apart : (p : Ptr) (x : el_x E) (ss : List (Spot (el_x E)))
        → ent 𝓤 (sep 𝓤 (sem 𝓛 (lies_at (R E) full_share p x)) (sem 𝓛 (spots_own (R E) ss))) (fact 𝓤 (AllByRecursion (λ q. same_ptr p q ≡ false) (places ss)))
    head_apart p x [] = fact_i 𝓤 _ _ tt
    head_apart p x (s ∷ ss) = qed 𝓛 (‵ (lies_at (R E) full_share p x) ∷ ‵ (spots_own (R E) (s ∷ ss)) ∷ []) ∵ move ! (1 ∷ []) $ fsplit ! $ move ! (2 ∷ 0 ∷ []) $
        knows2 ! (same_ptr p s.at ≡ false) (differ p s.at x s.held) (λ here. move ! (0 ∷ 2 ∷ []) $
        knows2 ! (AllByRecursion (λ q. same_ptr p q ≡ false) (places ss)) (head_apart p x ss) (λ rest.
        by ! (fact_i 𝓤 (AllByRecursion (λ q. same_ptr p q ≡ false) (places (s ∷ ss))) _ (here, rest))))

    -- cells that are owned together lie apart
    pub lie_apart : (ss : List (Spot (el_x E))) → ent 𝓤 (sem 𝓛 (spots_own (R E) ss)) (fact 𝓤 (IsApart ss))
    unfolding IsDistinct
    lie_apart [] = fact_i 𝓤 _ _ tt
    lie_apart (s ∷ ss) = qed 𝓛 (‵ (spots_own (R E) (s ∷ ss)) ∷ []) ∵ fsplit ! $
        knows2 ! (AllByRecursion (λ q. same_ptr s.at q ≡ false) (places ss)) (head_apart s.at s.held ss) (λ here. move ! (1 ∷ []) $
        knows ! (IsApart ss) (lie_apart ss) (λ rest. by ! (fact_i 𝓤 (IsApart (s ∷ ss)) _ (here, rest))))

module _ (R : RattleType) {M : Type 1} {𝓤 : Ura M} (𝓛 : Logic 𝓤) where
  -- a run of cells doesn't begin at null
  pub run_null : (size : ℕ) (xs : List R.Denot) → 0 < length xs → ent 𝓤 (sem 𝓛 (spots_own R (spots size null_ptr xs))) (never 𝓤)
  run_null size [] long = absurd (omega arith)
  run_null size (x ∷ xs) long = fst∗ 𝓤 (never 𝓤) (sem 𝓛 (spots_own R (spots size null_ptr xs)))

-- the places of values side by side
pub places_spots : {X : Type 0} (size : ℕ) (p : Ptr) (xs : List X) → places (spots size p xs) ≡ run_places size p (length xs)
places_spots size p [] = refl
places_spots size p (x ∷ xs) = ap (λ ps. p ∷ ps) (places_spots size (p +ₚ size) xs)

pub length_spots : {X : Type 0} (size : ℕ) (p : Ptr) (xs : List X) → length (spots size p xs) ≡ length xs
length_spots size p [] = refl
length_spots size p (x ∷ xs) = ap suc (length_spots size (p +ₚ size) xs)

-- cells at places side by side are values side by side
pub side_by_side : {X : Type 0} (size : ℕ) (p : Ptr) (ss : List (Spot X)) → places ss ≡ run_places size p (length ss) → ss ≡ spots size p (map (λ s. s.held) ss)
side_by_side size p [] e = refl
side_by_side {X} size p (s ∷ ss) e =
    let here : s.at ≡ p = ap (head_or p) e in
    let rest : places ss ≡ run_places size (p +ₚ size) (length ss) = ap tail_of e in
    let rest_is = side_by_side size (p +ₚ size) ss rest in
    λ i. let one : Spot X = record { at = here i; held = s.held } in one ∷ rest_is i
  where
    head_or : Ptr → List Ptr → Ptr
    head_or q [] = q
    head_or q (x ∷ xs) = x

    tail_of : List Ptr → List Ptr
    tail_of [] = []
    tail_of (x ∷ xs) = xs

pub rest_long : (n k : ℕ) → k ≤ n → n - (n - k) ≡ k
rest_long n k le = omega arith
