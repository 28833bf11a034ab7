-- The rows of the owner and of a link. Assumes `Logic`.
use mathlib.Core.Path.{◌≡◌, refl, subst}
use mathlib.Core.List.{List, [], ◌∷◌, ◌++◌}
use mir.Val.{Val, vstruct, vnil, of_list}
use types.Kit.{Item, Goal, Seq, ‵, ◌$◌, fpick, fsplit, feq_l, drop}
use denote.Shadow.{makes_shadow}
use Rattle.raw_nodes.proofs.Memory.{mark}
use seplogic.Ra.Ura.{Ura}
use base.Logic.{ent, emp, never, fst∗}
use base.Fml.{Lft}
use types.Logic.{Logic, sem}
use denote.RattleType.{RattleType}
use denote.Memory.{shared_of}
use denote.RawPtr.{Ptr, null_ptr}
use denote.Struct.Lending.{lent_at}
use denote.Struct.Owning.{shape}
use denote.Struct.Struct.{Struct}
use Rattle.std.specs.Prelude.{Option, Some, None, IsSome}
use Rattle.core.proofs.mem.Param.{El, R}
use Rattle.raw_nodes.specs.Spots.{Spot, found}
use Rattle.raw_nodes.specs.contracts.arena.Arena as A-type
use Rattle.raw_nodes.specs.contracts.arena.Link as L-type
use Rattle.raw_nodes.specs.contracts.arena.Run as R-type

abbrev pub Ar : El → RattleType
Ar E = A-type.the_row (R E)

abbrev pub Lk : RattleType
Lk = L-type.the_row

-- the one field of the owner, which takes no bytes
abbrev pub Mark : El → RattleType
Mark E = Struct (shape (A-type.the_type (R E)))

pub mark_made : (E : El) {M : Type 1} {𝓤 : Ura M} (𝓛 : Logic 𝓤) → ent 𝓤 (emp 𝓤) (sem 𝓛 ((Mark E).own_val (tt, tt) (mark ∷ [])))
mark_made E 𝓛 = makes_shadow 𝓛 ((Mark E).own_val (tt, tt) (mark ∷ [])) (λ vss. (tt, ((λ uss. (tt, tt)), tt))) ((vstruct vnil ∷ [], tt), (refl, ((tt, (refl, tt)), tt)))

abbrev pub Rn : El → RattleType
Rn E = R-type.the_row (R E)

abbrev pub RunMark : El → RattleType
RunMark E = Struct (shape (R-type.the_type (R E)))

pub run_mark_made : (E : El) {M : Type 1} {𝓤 : Ura M} (𝓛 : Logic 𝓤) → ent 𝓤 (emp 𝓤) (sem 𝓛 ((RunMark E).own_val (tt, tt) (mark ∷ [])))
run_mark_made E 𝓛 = makes_shadow 𝓛 ((RunMark E).own_val (tt, tt) (mark ∷ [])) (λ vss. (tt, ((λ uss. (tt, tt)), tt))) ((vstruct vnil ∷ [], tt), (refl, ((tt, (refl, tt)), tt)))

module _ {M : Type 1} {𝓤 : Ura M} {𝓛 : Logic 𝓤} {K : Type 0} {Γ : List (Item 𝓤)} {G : Goal 𝓤 𝓛.H} where
  pub run_mark_had : K → (E : El) (vs : List Val) → (vs ≡ mark ∷ [] → Seq K 𝓛 Γ G) → Seq K 𝓛 (‵ ((RunMark E).own_val (tt, tt) vs) ∷ Γ) G
  run_mark_had t E vs k = fpick t (λ vss. fsplit t $ feq_l t (λ ev. fsplit t $ fpick t (λ uss. fsplit t $ feq_l t (λ e. drop t $ drop t $
      k (subst (λ (ws : List Val). vs ≡ vstruct (of_list (ws ++ [])) ∷ []) e ev)))))

pub found_value : {X : Type 0} (ss : List (Spot X)) (p : Ptr) → IsSome (found ss p) → (x : X) × (found ss p ≡ Some x)
found_value {X} ss p some = go (found ss p) refl some
  where
    go : (o : Option X) → found ss p ≡ o → IsSome o → (x : X) × (found ss p ≡ Some x)
    go None e h = absurd (cc)
    go (Some x) e h = (x, e)

pub unblocked : {M : Type 1} {𝓤 : Ura M} (𝓛 : Logic 𝓤) (R : RattleType) (x : R.Denot) (κ : Lft) → ent 𝓤 (sem 𝓛 (lent_at R null_ptr x κ)) (never 𝓤)
unblocked {𝓤 = 𝓤} 𝓛 R x κ = fst∗ 𝓤 (never 𝓤) (sem 𝓛 (shared_of R x 0 0 κ))
