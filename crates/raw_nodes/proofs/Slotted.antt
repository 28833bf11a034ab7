-- What the walks of a slot share. Assumes `Logic`.
--     value_had, value_put, none_had, none_put      what a slot owns at its one machine value, and back
--     held_out      a full slot lies where its value does, with the way back at any value
use mathlib.Core.Path.{◌≡◌, refl}
use Prim.Native.Nat.{ℕ}
use mathlib.Core.List.{List, [], ◌∷◌}
use seplogic.Ra.Ura.{Ura}
use base.Fraction.{full_share}
use mir.Val.{Val}
use base.Logic.{ent, sep, wand, all_e, apply∗}
use base.Fml.{Fml, ftrue, fsep}
use types.Logic.{Logic, sem}
use types.Kit.{Item, Goal, Seq, Step, step, ‵, raw, ◌⊛◌, ◌$◌, ◌∵◌, !, qed, by, move, keep, drop, use1, use2, split, fsplit, fsplit3, fjoin, fpick, fpack, each, assume, frame, rewrite, done}
use denote.RattleType.{RattleType}
use denote.Laws.{Typed}
use denote.Memory.{part_of, part_at, cell_at}
use denote.Param.{layout}
use denote.Steps.{nothing}
use denote.Struct.Members.{Member}
use denote.Struct.Struct.{Struct}
use denote.Struct.CellSteps.{BackTo, only_out}
use Rattle.std.specs.Prelude.{Option, Some, None, IsSome}
use Rattle.core.proofs.mem.Param.{El, R, el_x, elτ, lawful, Good}
use Rattle.core.proofs.cell.Inside.{Good as Fits, one as one_of, round, Good-round, wraps, unwraps}
use Rattle.raw_nodes.specs.contracts.slot.Slot as S-type
use Rattle.raw_nodes.specs.contracts.slot.Slot.TheInside as inside

module _ (E : El) where
  abbrev pub Sl : RattleType
  Sl = S-type.the_row (R E)

  -- the slot's one field
  abbrev pub Fields : RattleType
  Fields = inside.the_row (R E)

  abbrev pub inner : Member
  inner = record { row = R E; ty = elτ E }

  abbrev pub Only : RattleType
  Only = Struct (record { name = []; args = []; types = []; fields = R E ∷ [] })

  pub slot_Fits : (v : Val) → Good E v → Fits (layout Sl) (round v)
  slot_Fits v good = Good-round [] (elτ E) v good

pub some_value : {X : Type 0} (d : Option X) → IsSome d → (x : X) × (d ≡ Some x)
some_value None some = absurd (cc)
some_value (Some x) some = (x, refl)

module _ (E : El) {M : Type 1} {𝓤 : Ura M} {𝓛 : Logic 𝓤} {K : Type 0} {Γ : List (Item 𝓤)} {G : Goal 𝓤 𝓛.H} where
  pub value_had : K → (x : el_x E) (vs : List Val) → ((v : Val) → Good E v → vs ≡ round v ∷ [] → Seq K 𝓛 (‵ (E.row.own_val x (v ∷ [])) ∷ Γ) G) → Seq K 𝓛 (‵ ((Sl E).own_val (Some x) vs) ∷ Γ) G
  value_had t x vs k = fsplit t $ drop t $ unwraps (inner E) t (lawful E 𝓛) [] [] x vs k

  pub value_put : K → (x : el_x E) (v : Val) → Good E v → Step K 𝓛 (‵ ((Sl E).own_val (Some x) (round v ∷ [])) ∷ Γ) G (‵ (E.row.own_val x (v ∷ [])) ∷ Γ) G
  value_put t x v good = step (λ s.
      use1 𝓛 (‵ ((Fields E).own_val (record { value = x }) (round v ∷ []))) (wraps (inner E) 𝓛 [] [] x v) $
      nothing t $ fpack t (Typed (Fields E).mir (round v ∷ [])) (λ _. ftrue) (slot_Fits E v good, tt) $ fjoin t $ s)

  pub none_had : K → (vs : List Val) → ((w : Val) → Fits (layout (Sl E)) w → vs ≡ w ∷ [] → Seq K 𝓛 Γ G) → Seq K 𝓛 (‵ ((Sl E).own_val None vs) ∷ Γ) G
  none_had t vs k = fsplit t $ fpick t (λ typed. drop t $ drop t $ let got = one_of (layout (Sl E)) vs typed in k got.0 got.2 got.1)

  pub none_put : K → (w : Val) → Fits (layout (Sl E)) w → Step K 𝓛 (‵ ((Sl E).own_val None (w ∷ [])) ∷ Γ) G Γ G
  none_put t w good = step (λ s. nothing t $ nothing t $ fpack t (Typed (Fields E).mir (w ∷ [])) (λ _. ftrue) (good, tt) $ fjoin t $ s)

module _ (E : El) {M : Type 1} {𝓤 : Ura M} (𝓛 : Logic 𝓤) (b o : ℕ) where
  abbrev Held : el_x E → Fml
  Held x = part_at (Sl E) full_share (Some x) b o

  abbrev Whole : el_x E → Fml
  Whole x = part_at (Only E) full_share (x, tt) b o

  bare : (x : el_x E) → ent 𝓤 (sem 𝓛 (Held x)) (sem 𝓛 (Whole x))
  unfolding part_of
  bare x = qed 𝓛 (‵ (Held x) ∷ []) ∵ fpick ! (λ vs. fsplit3 ! $ keep ! (0 ∷ 2 ∷ []) $ fjoin ! $ fpack ! (List Val) (λ us. fsep (cell_at full_share (Only E).mir us b o) ((Only E).own_val (x, tt) us)) vs $ done !)

  laid : (x : el_x E) → ent 𝓤 (sem 𝓛 (Whole x)) (sem 𝓛 (Held x))
  unfolding part_of
  laid x = qed 𝓛 (‵ (Whole x) ∷ []) ∵ fpick ! (λ vs. fsplit ! $ move ! (1 ∷ []) $ unwraps (inner E) ! (lawful E 𝓛) [] [] x vs (λ v good e.
      rewrite ! 1 (λ (us : List Val). ‵ (cell_at full_share (Only E).mir us b o)) e refl $ value_put E ! x v good $ move ! (1 ∷ 0 ∷ []) $ fjoin ! $
      fpack ! (List Val) (λ us. fsep (cell_at full_share (Sl E).mir us b o) ((Sl E).own_val (Some x) us)) (round v ∷ []) $ done !))

  pub held_out : (x : el_x E) → ent 𝓤 (sem 𝓛 (Held x)) (sep 𝓤 (sem 𝓛 (part_at (R E) full_share x b o)) (BackTo 𝓛 [] [] [] (inner E) (λ y. sem 𝓛 (Held y)) b o))
  held_out x = qed 𝓛 (‵ (Held x) ∷ []) ∵ use1 𝓛 (‵ (Whole x)) (bare x) $
      use1 𝓛 (‵ (part_at (R E) full_share x b o) ⊛ raw (BackTo 𝓛 [] [] [] (inner E) (λ y. sem 𝓛 (Whole y)) b o)) (only_out 𝓛 [] [] [] (inner E) (lawful E 𝓛) b o x) $ split ! $ frame ! $
      each ! (λ (y : el_x E). wand 𝓤 (sem 𝓛 (part_at (R E) full_share y b o)) (sem 𝓛 (Held y))) (λ y. assume ! (‵ (part_at (R E) full_share y b o)) $ move ! (1 ∷ []) $
      use1 𝓛 (raw (wand 𝓤 (sem 𝓛 (part_at (R E) full_share y b o)) (sem 𝓛 (Whole y)))) (all_e 𝓤 (λ (z : el_x E). wand 𝓤 (sem 𝓛 (part_at (R E) full_share z b o)) (sem 𝓛 (Whole z))) y) $ move ! (1 ∷ 0 ∷ []) $
      use2 𝓛 (‵ (Whole y)) (apply∗ 𝓤 (sem 𝓛 (part_at (R E) full_share y b o)) (sem 𝓛 (Whole y))) $ by ! (laid y))

  -- the way back at one value
  pub goes_back : (x : el_x E) → ent 𝓤 (sep 𝓤 (sem 𝓛 (part_at (R E) full_share x b o)) (BackTo 𝓛 [] [] [] (inner E) (λ y. sem 𝓛 (Held y)) b o)) (sem 𝓛 (Held x))
  goes_back x = qed 𝓛 (‵ (part_at (R E) full_share x b o) ∷ raw (BackTo 𝓛 [] [] [] (inner E) (λ y. sem 𝓛 (Held y)) b o) ∷ []) ∵ move ! (1 ∷ []) $
      use1 𝓛 (raw (wand 𝓤 (sem 𝓛 (part_at (R E) full_share x b o)) (sem 𝓛 (Held x)))) (all_e 𝓤 (λ (z : el_x E). wand 𝓤 (sem 𝓛 (part_at (R E) full_share z b o)) (sem 𝓛 (Held z))) x) $ move ! (1 ∷ 0 ∷ []) $
      by ! (apply∗ 𝓤 (sem 𝓛 (part_at (R E) full_share x b o)) (sem 𝓛 (Held x)))
