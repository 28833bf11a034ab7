-- What the walks of the owner share: one cell is taken out, put back, or seen. Assumes `Logic`.
use mathlib.Core.Path.{◌≡◌, refl, sym}
use mathlib.Core.Bool.{Bool, true, false, cond}
use mathlib.Core.List.{List, [], ◌∷◌}
use seplogic.Ra.Ura.{Ura}
use base.Fraction.{full_share}
use base.Logic.{ent, sep, via, snd∗}
use base.Fml.{Fml, Lft, ftrue, fsep}
use types.Logic.{Logic, sem}
use types.Kit.{‵, ◌⊛◌, ◌$◌, ◌∵◌, !, qed, move, keep, use1, use2, split, fsplit, fjoin, rewrite, done}
use denote.RattleType.{RattleType}
use denote.RawPtr.{Ptr, lies_at}
use denote.Struct.Lending.{lent_at}
use Rattle.std.specs.Prelude.{Some}
use Rattle.raw_nodes.specs.Spots.{Spot, same_ptr, found, written, spots_own, spots_lent}
use Rattle.raw_nodes.proofs.Pointers.{same_ptr_eq}

module _ (R : RattleType) where
  -- the cells but for the one at p
  abbrev pub besides : List (Spot R.Denot) → Ptr → Fml
  besides [] p = ftrue
  besides (s ∷ ss) p = cond (same_ptr s.at p) (spots_own R ss) (fsep (lies_at R full_share s.at s.held) (besides ss p))

  module _ {M : Type 1} {𝓤 : Ura M} (𝓛 : Logic 𝓤) where
    pub spot_out : (ss : List (Spot R.Denot)) (p : Ptr) (x : R.Denot) → found ss p ≡ Some x → ent 𝓤 (sem 𝓛 (spots_own R ss)) (sep 𝓤 (sem 𝓛 (lies_at R full_share p x)) (sem 𝓛 (besides ss p)))
    spot_out [] p x e = absurd (cc)
    spot_out (s ∷ ss) p x e = go (same_ptr s.at p) refl e (spot_out ss p x)
      where
        go : (b : Bool) → same_ptr s.at p ≡ b → cond b (Some s.held) (found ss p) ≡ Some x
            → (found ss p ≡ Some x → ent 𝓤 (sem 𝓛 (spots_own R ss)) (sep 𝓤 (sem 𝓛 (lies_at R full_share p x)) (sem 𝓛 (besides ss p))))
            → ent 𝓤 (sem 𝓛 (spots_own R (s ∷ ss))) (sep 𝓤 (sem 𝓛 (lies_at R full_share p x)) (sem 𝓛 (cond b (spots_own R ss) (fsep (lies_at R full_share s.at s.held) (besides ss p)))))
        go true is e rest =
            let held : s.held ≡ x = search e in
            qed 𝓛 (‵ (spots_own R (s ∷ ss)) ∷ []) ∵ fsplit ! $ rewrite ! 0 (λ (a : Ptr). ‵ (lies_at R full_share a s.held)) (same_ptr_eq s.at p is) refl $
            rewrite ! 0 (λ (y : R.Denot). ‵ (lies_at R full_share p y)) held refl $ done !
        go false is e rest =
            qed 𝓛 (‵ (spots_own R (s ∷ ss)) ∷ []) ∵ fsplit ! $ move ! (1 ∷ []) $ use1 𝓛 (‵ (lies_at R full_share p x) ⊛ ‵ (besides ss p)) (rest e) $ split ! $
            move ! (2 ∷ 1 ∷ []) $ fjoin ! $ move ! (1 ∷ []) $ done !

    pub spot_in : (ss : List (Spot R.Denot)) (p : Ptr) (x w : R.Denot) → found ss p ≡ Some x → ent 𝓤 (sep 𝓤 (sem 𝓛 (lies_at R full_share p w)) (sem 𝓛 (besides ss p))) (sem 𝓛 (spots_own R (written ss p w)))
    spot_in [] p x w e = absurd (cc)
    spot_in (s ∷ ss) p x w e = go (same_ptr s.at p) refl e (spot_in ss p x w)
      where
        go : (b : Bool) → same_ptr s.at p ≡ b → cond b (Some s.held) (found ss p) ≡ Some x
            → (found ss p ≡ Some x → ent 𝓤 (sep 𝓤 (sem 𝓛 (lies_at R full_share p w)) (sem 𝓛 (besides ss p))) (sem 𝓛 (spots_own R (written ss p w))))
            → ent 𝓤 (sep 𝓤 (sem 𝓛 (lies_at R full_share p w)) (sem 𝓛 (cond b (spots_own R ss) (fsep (lies_at R full_share s.at s.held) (besides ss p)))))
            (sem 𝓛 (spots_own R (cond b (record { at = s.at; held = w } ∷ ss) (s ∷ written ss p w))))
        go true is e rest =
            qed 𝓛 (‵ (lies_at R full_share p w) ∷ ‵ (spots_own R ss) ∷ []) ∵ rewrite ! 0 (λ (a : Ptr). ‵ (lies_at R full_share a w)) (sym (same_ptr_eq s.at p is)) refl $ fjoin ! $ done !
        go false is e rest =
            qed 𝓛 (‵ (lies_at R full_share p w) ∷ ‵ (fsep (lies_at R full_share s.at s.held) (besides ss p)) ∷ []) ∵ move ! (1 ∷ []) $ fsplit ! $ move ! (2 ∷ 1 ∷ []) $
            use2 𝓛 (‵ (spots_own R (written ss p w))) (rest e) $ move ! (1 ∷ 0 ∷ []) $ fjoin ! $ done !

    pub spot_seen : (κ : Lft) (ss : List (Spot R.Denot)) (p : Ptr) (x : R.Denot) → found ss p ≡ Some x → ent 𝓤 (sem 𝓛 (spots_lent R ss κ)) (sem 𝓛 (lent_at R p x κ))
    spot_seen κ [] p x e = absurd (cc)
    spot_seen κ (s ∷ ss) p x e = go (same_ptr s.at p) refl e (spot_seen κ ss p x)
      where
        go : (b : Bool) → same_ptr s.at p ≡ b → cond b (Some s.held) (found ss p) ≡ Some x
            → (found ss p ≡ Some x → ent 𝓤 (sem 𝓛 (spots_lent R ss κ)) (sem 𝓛 (lent_at R p x κ))) → ent 𝓤 (sem 𝓛 (spots_lent R (s ∷ ss) κ)) (sem 𝓛 (lent_at R p x κ))
        go true is e rest =
            let held : s.held ≡ x = search e in
            qed 𝓛 (‵ (spots_lent R (s ∷ ss) κ) ∷ []) ∵ fsplit ! $ keep ! (0 ∷ []) $ rewrite ! 0 (λ (a : Ptr). ‵ (lent_at R a s.held κ)) (same_ptr_eq s.at p is) refl $
            rewrite ! 0 (λ (y : R.Denot). ‵ (lent_at R p y κ)) held refl $ done !
        go false is e rest = via 𝓤 _ (snd∗ 𝓤 (sem 𝓛 (lent_at R s.at s.held κ)) (sem 𝓛 (spots_lent R ss κ))) (rest e)
