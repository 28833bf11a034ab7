-- A `&` to a full slot holds a `&` to its value, and a `&` to an empty one nothing. Assumes `Logic`.
use mathlib.Core.Path.{refl}
use Prim.Native.Nat.{ℕ}
use mathlib.Core.List.{[], ◌∷◌, ◌++◌}
use seplogic.Ra.Ura.{Ura}
use base.Fraction.{full_share}
use base.Logic.{ent, sep}
use base.Fml.{Lft, Incl, Incl-trans, fbor}
use contract.BorrowLft.{meet_⊑_right}
use ghost.Rules.{Toks, span}
use prog.Memory.{align}
use types.Logic.{Logic, sem, lfts}
use types.Kit.{‵, raw, ◌⊛◌, later, ◌$◌, ◌∵◌, !, qed, keep, use2, split, fsplit, fjoin, rewrite, await, updating, now, done}
use denote.RattleType.{RattleType}
use denote.Memory.{part_of, part_at, shared_of}
use denote.Param.{layout}
use denote.Param.Laws.{Laws}
use denote.Param.Shared.{Sharable, parts_share}
use denote.Sharing.{ShrLaws}
use denote.SharingLaws.{nothing_shr_laws}
use denote.Steps.{nothing}
use denote.RawPtr.{block_ptr}
use denote.Struct.Field.{row_field}
use denote.Struct.Struct.{Struct}
use denote.Struct.CellSteps.{first_at}
use denote.Struct.Lending.{Lends-nothing, lent_at, lent_at_shr_laws}
use Rattle.std.specs.Prelude.{Option, Some, None}
use Rattle.raw_nodes.specs.contracts.slot.Slot as C
use Rattle.raw_nodes.proofs.slot.Slot.TheLaw.Statement.{statement}

laws : (T : RattleType) (L : Laws T) (d : Option T.Denot) (b o : ℕ) → ShrLaws ((C.the_written T).shr_at d b o)
laws T L None b o = nothing_shr_laws
laws T L (Some x) b o = lent_at_shr_laws T L.shr_laws (block_ptr b o) x

sharable : (T : RattleType) (L : Laws T) → Sharable (row_field T)
sharable T L = record { alone = L.one; single = λ M 𝓤 𝓛 x vs is. L.single x vs is; shares = λ M 𝓤 𝓛. L.shares 𝓛; shr_laws = L.shr_laws }

module _ (T : RattleType) (L : Laws T) {M : Type 1} {𝓤 : Ura M} (𝓛 : Logic 𝓤) where
  open 𝓛 use {H, A}

  abbrev Only : RattleType
  Only = Struct (record { name = []; args = []; types = []; fields = T ∷ [] })

  full : (x : T.Denot) (κ : Lft) (ts : Toks) (b o : ℕ) → Incl (span ts) (T.lives ++ []) → Incl (span ts) κ
      → ent 𝓤 (sep 𝓤 (A.bor κ (part_at Only full_share (x, tt) b o)) (lfts 𝓛 ts)) (H.⇛ (sep 𝓤 (sem 𝓛 (lent_at T (block_ptr b o) x κ)) (lfts 𝓛 ts)))
  full x κ ts b o inc sp =
      qed 𝓛 (‵ (fbor κ (part_at Only full_share (x, tt) b o)) ∷ raw (lfts 𝓛 ts) ∷ []) ∵ updating ! $
      use2 𝓛 (later (‵ (shared_of Only (x, tt) b o κ) ⊛ raw (lfts 𝓛 ts))) (parts_share 𝓛 (row_field T ∷ []) [] [] [] (sharable T L, tt) (x, tt) κ ts b o inc sp) $ await ! tt $ split ! $
      fsplit ! $ fsplit ! $ keep ! (0 ∷ 3 ∷ []) $ rewrite ! 0 (λ (e : ℕ). ‵ (shared_of T x b e κ)) (first_at (align (layout T)) o) refl $ nothing ! $ fjoin ! $ now ! $ done !

  made : (d : Option T.Denot) (κ : Lft) (ts : Toks) (b o : ℕ) → Incl (span ts) (C.the_written T).lives → Incl (span ts) κ
      → ent 𝓤 (sep 𝓤 (A.bor κ (part_at (C.the_written T) full_share d b o)) (lfts 𝓛 ts)) (H.⇛ (sep 𝓤 (sem 𝓛 ((C.the_written T).shr_at d b o κ)) (lfts 𝓛 ts)))
  unfolding part_of
  made None κ ts b o inc sp = Lends-nothing 𝓛 (part_at (C.the_written T) full_share None b o) (C.the_written T).lives κ ts inc sp
  made (Some x) κ ts b o inc sp = full x κ ts b o (Incl-trans inc (meet_⊑_right (T.lives ++ []) (T.lives ++ []))) sp

pub shares : (T : RattleType) (L : Laws T) → statement T L
shares T L = record {
  shr_laws = λ d b o. laws T L d b o;
  shares = λ M 𝓤 𝓛 d κ ts b o inc sp. made T L 𝓛 d κ ts b o inc sp;
}
