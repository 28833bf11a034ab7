-- `take` moves the value out, and its bytes stay. Assumes `Logic`.
use mathlib.Core.Path.{◌≡◌, refl, sym, subst}
use Prim.Native.Nat.{ℕ}
use mathlib.Core.List.{List, [], ◌∷◌, ◌++◌}
use seplogic.Ra.Ura.{Ura}
use base.Fraction.{full_share}
use mir.Syntax.{Fn, named}
use mir.MapTy.{inst_fn}
use mir.Val.{Val, vptr}
use base.Logic.{SProp, ent, sep}
use base.Fml.{Lft, GName, Share, ftrue, flft, fobs, fbor}
use prog.Wp.{Env, Calls, Loops, WpFn, Tables}
use types.Logic.{Logic}
use contract.Monad.{fact}
use contract.Running.{tables, tables_of}
use sound.WpLaws.{WpFn-mono}
use types.Kit.{Item, ⋆, ‵, ◌⊛◌, at_ret, ◌$◌, ◌∵◌, !, qed, by, move, keep, split, join, rewrite, fsplit, fsplit3, fjoin, fjoin3, feq_i, feq_l, suffices, frame, done}
use types.Part.{whole, sub}
use types.Run.{stop, fld, load, addr, of_opd, first, blocks, exec, returns, enter, look_raw}
use types.ByLocal.{alloc_all, pass_all, free_all, look_at, get, get_in, through, sets, sets_last, env}
use types.SemTy.{Body as Borrowed}
use denote.Exit.{yes}
use denote.RattleType.{owns}
use denote.Memory.{mem, cell_at}
use denote.Ref.{MutBor, MutRef}
use denote.Builtin.{RefMutOf}
use denote.Signature.{plain}
use denote.Steps.{nothing, opens, closes}
use denote.Triple.Carry.{spared}
use denote.Triple.Clauses.{Clauses, Ended, closing}
use denote.Triple.Entry.{on_entry}
use denote.Triple.Spec.{Meets, triple_of}
use denote.Triple.Table.{entered, run_framed}
use denote.Triple.Walked.{needs, Stays, stay_ref, walk_of, ends_at, Goes-ref, walk_Meets}
use Rattle.std_alloc.proofs.VecSteps.Shapes.{after}
use Rattle.std.specs.Prelude.{Option, Some, None, IsSome}
use Rattle.core.proofs.mem.Param.{El, R, args, el_x}
use Rattle.core.proofs.cell.Inside.{round}
use Rattle.raw_nodes.proofs.Memory.{says_both}
use Rattle.raw_nodes.proofs.Slotted.{Sl, slot_Fits, some_value, value_had, none_put}
use Rattle.raw_nodes.specs.contracts.slot.Slot.take.Key.{name as #self}
use Rattle.raw_nodes.proofs.slot.Slot.take.Statement as stated
use Rattle.raw_nodes.proofs.slot.Slot.take.Code as code

module _ (E : El) where
  abbrev function : Fn
  function = inst_fn (args E) code.function

  abbrev ended : Ended
  ended = record { signature = record { lifetimes = 1; outlives = []; params = RefMutOf (0 ∷ []) tt (plain (λ _. Sl E)) (λ _. tt) ∷ []; result = plain (λ _. R E) }; kept = (yes, tt) }

  abbrev stayed : Stays ended.signature.params ended.kept
  stayed = (stay_ref (0 ∷ []) tt (plain (λ _. Sl E)), tt)

  abbrev Gives0 : Option (el_x E) → el_x E → Option (el_x E) → Type 0
  Gives0 d r new = d ≡ Some r

  abbrev Gives1 : Option (el_x E) → el_x E → Option (el_x E) → Type 0
  Gives1 d r new = new ≡ None

  abbrev spec : {M : Type 1} {𝓤 : Ura M} (𝓛 : Logic 𝓤) → Clauses 𝓤 ended
  spec {𝓤 = 𝓤} 𝓛 κs a = record { ghost = Unit {0}; requires = λ _. fact 𝓤 (IsSome a.0.now); ensures = λ _ r w. sep 𝓤 (fact 𝓤 (Gives0 a.0.now r w.0.now)) (fact 𝓤 (Gives1 a.0.now r w.0.now)) }

module _ (E : El) {M : Type 1} {𝓤 : Ura M} (𝓛 : Logic 𝓤) (C : Calls 𝓤 𝓛.H) (Λ : Loops 𝓤 𝓛.H) (κ : Lft) (q : Share) (rb ro : ℕ) (γ : GName) (d : Option (el_x E)) (us0 : List Val) where
  open 𝓛 use {H, A}

  abbrev self : MutBor (Option (el_x E))
  self = record { ref_ptr = (rb, ro); ghost_name = γ; now = d }

  abbrev bound : (walk_of 𝓛 (ended E) (stayed E) (spec E 𝓛)).Ghost
  bound = (((κ, tt), (q, tt), tt, (self, tt), (us0, tt)), tt)

  abbrev Post : Val → SProp 𝓤
  Post = (walk_of 𝓛 (ended E) (stayed E) (spec E 𝓛)).post bound

  exits : us0 ≡ vptr rb ro ∷ [] → (r : el_x E) (v : Val) (new : Option (el_x E)) → Gives0 E d r new → Gives1 E d r new → ent 𝓤 (⋆ 𝓛 (‵ (fobs γ ((Sl E).coded.code new)) ∷ ‵ (fbor κ (Borrowed (mem (Sl E)) rb ro γ)) ∷ ‵ (flft κ q) ∷ ‵ ((R E).own_val r (v ∷ [])) ∷ [])) (Post v)
  exits passed r v new g0 g1 =
      qed 𝓛 (‵ (fobs γ ((Sl E).coded.code new)) ∷ ‵ (fbor κ (Borrowed (mem (Sl E)) rb ro γ)) ∷ ‵ (flft κ q) ∷ ‵ ((R E).own_val r (v ∷ [])) ∷ []) ∵
      suffices ! _ (ends_at 𝓛 (ended E) (stayed E) (spec E 𝓛) bound v r (new, tt) (tt, tt)) $ says_both ! g0 g1 $
      nothing ! $ move ! (3 ∷ 0 ∷ []) $ join ! $ frame ! $ feq_i ! (List Val) us0 (vptr rb ro ∷ []) passed $ fjoin3 ! $ nothing ! $ move ! (1 ∷ 0 ∷ []) $ fjoin ! $ done !

  abbrev Had : List (Item 𝓤)
  Had = ‵ (fobs γ ((Sl E).coded.code d)) ∷ ‵ (fbor κ (Borrowed (mem (Sl E)) rb ro γ)) ∷ ‵ (flft κ q) ∷ []

  walk : us0 ≡ vptr rb ro ∷ [] → (x : el_x E) → d ≡ Some x → ent 𝓤 (⋆ 𝓛 Had) (WpFn 𝓤 H C Λ (function E) (vptr rb ro ∷ []) Post)
  walk passed x is =
      qed 𝓛 Had ∵ enter ! C Λ (function E) (vptr rb ro ∷ []) _ $ alloc_all ! (λ l. pass_all ! refl ((tt, tt), tt) $
      let En : Env 𝓤 H = env (function E).locals l in
      opens ! tt (Sl E) {h = d} rb ro (λ vs. move ! (1 ∷ []) $ rewrite ! 0 (λ (c : Option (el_x E)). ‵ ((Sl E).own_val c vs)) is refl $ value_had E ! x vs (λ v good told.
      rewrite ! 1 (λ (us : List Val). ‵ (cell_at full_share (Sl E).mir us rb ro)) told refl $ move ! (1 ∷ []) $
      -- [the slot's cell; what the value owns; the open borrow; obs; auth]
      first ! $ blocks ! $ sets ! (addr ! (through ! refl (stop !))) refl (tt, tt) $
      sets_last ! (of_opd ! (load ! (through ! refl (stop !)) (look_raw ! 0 refl))) refl (slot_Fits E v good) $
      exec ! C Λ En (after 1 (function E).body) (at_ret En Post) $
      sets ! (of_opd ! (get ! refl)) refl (slot_Fits E v good) $ sets ! (of_opd ! (get_in ! (fld ! refl (stop !)) (sub ! 0 refl (whole !)))) refl good $ sets ! (of_opd ! (get ! refl)) refl good $
      none_put E ! (round v) (slot_Fits E v good) $ move ! (1 ∷ 0 ∷ 3 ∷ 4 ∷ 5 ∷ 2 ∷ []) $ closes ! tt (Sl E) None (round v ∷ []) rb ro $
      returns ! (look_at ! 0 refl) $ free_all ! refl $ keep ! (0 ∷ 1 ∷ 2 ∷ 3 ∷ []) $ by ! (exits passed x v None is refl))))

  entry : IsSome d → ent 𝓤 (on_entry 𝓛 (ended E).signature (κ, tt) (q, tt) (self, tt) (us0, tt)) (WpFn 𝓤 H C Λ (function E) (us0 ++ []) Post)
  entry there =
      let had = some_value d there in
      qed 𝓛 ((‵ (flft κ q) ⊛ ‵ ftrue) ∷ ‵ (owns (MutRef (named 0) κ (Sl E) ∷ []) (self, tt) (us0, tt)) ∷ []) ∵
      split ! $ move ! (2 ∷ []) $ fsplit ! $ fsplit3 ! $ feq_l ! (λ e0. keep ! (0 ∷ 1 ∷ 3 ∷ []) $
      by ! (subst (λ (ws : List Val). ent 𝓤 (⋆ 𝓛 Had) (WpFn 𝓤 H C Λ (function E) (ws ++ []) Post)) (sym e0) (walk e0 had.0 had.1)))

meets : (E : El) {M : Type 1} {𝓤 : Ura M} (𝓛 : Logic 𝓤) (𝓣 : Tables 𝓤 𝓛.H)
    → Meets 𝓛 (ended E).signature (WpFn 𝓤 𝓛.H 𝓣.C 𝓣.Λ (function E)) (closing 𝓛 (ended E) (spec E 𝓛))
meets E {𝓤 = 𝓤} 𝓛 𝓣 =
    walk_Meets 𝓛 (ended E) (stayed E) (Goes-ref 𝓛 1 0 tt (plain (λ _. Sl E)), tt) (spec E 𝓛) (WpFn 𝓤 𝓛.H 𝓣.C 𝓣.Λ (function E)) (WpFn-mono 𝓤 𝓛.H 𝓛.laws 𝓣 (function E))
    (λ z. needs 𝓤 (IsSome z.0.3.0.now) _ (entry E 𝓛 𝓣.C 𝓣.Λ z.0.0.0 z.0.1.0 z.0.3.0.ref_ptr.0 z.0.3.0.ref_ptr.1 z.0.3.0.ghost_name z.0.3.0.now z.0.4.0))

pub take_spec : {M : Type 1} → stated.statement M
unfolding tables_of
take_spec 𝓤 𝓛 𝓜 𝓡 wired X LX y =
    let E : El = record { row = X; laws = LX } in
    let 𝓣 : Tables 𝓤 𝓛.H = tables_of 𝓤 𝓛.H 𝓜 (tables 𝓤 𝓛.H 𝓜 𝓡 𝓡.env) in
    let k = #self (args E) in
    spared 𝓛 (ended E).signature (𝓡.run (𝓡.env k)) (run_framed 𝓤 𝓛.H 𝓜 𝓡 (𝓡.env k)) 1 (X.lives, tt) (closing 𝓛 (ended E) (spec E 𝓛))
    (entered 𝓤 𝓛.H (triple_of 𝓛 (ended E).signature (closing 𝓛 (ended E) (spec E 𝓛))) 𝓣.C 𝓣.Λ k (function E) (code.unfolded 𝓤 𝓛.H 𝓜 𝓡 wired (X, tt)) (meets E 𝓛 𝓣))
    ((y.0.0, y.0.1, tt, y.0.3, y.0.4), y.1)
