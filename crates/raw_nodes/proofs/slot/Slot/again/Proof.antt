-- `again` copies the bytes of an empty slot. Assumes `Logic`.
use mathlib.Core.Path.{◌≡◌, refl, sym, subst}
use Prim.Native.Nat.{ℕ}
use mathlib.Core.List.{List, [], ◌∷◌, ◌++◌}
use seplogic.Ra.Ura.{Ura}
use base.Fraction.{full_share}
use mir.Syntax.{Fn, named}
use mir.MapTy.{inst_fn}
use mir.Val.{Val, vptr}
use base.Logic.{SProp, ent, sep}
use base.Fml.{Lft, GName, Share, ftrue, flft, fobs, fbor}
use prog.Wp.{Env, Calls, Loops, WpFn, Tables}
use types.Logic.{Logic}
use contract.Monad.{fact}
use contract.Running.{tables, tables_of}
use sound.WpLaws.{WpFn-mono}
use types.Kit.{Item, ⋆, ‵, ◌⊛◌, at_ret, ◌$◌, ◌∵◌, !, qed, by, move, keep, split, join, rewrite, fsplit, fsplit3, fjoin, fjoin3, feq_i, feq_l, suffices, frame, done}
use types.Run.{stop, load, addr, of_opd, first, blocks, exec, returns, enter, look_raw}
use types.ByLocal.{alloc_all, pass_all, free_all, look_at, get, through, sets, sets_last, env}
use types.SemTy.{Body as Borrowed}
use denote.Exit.{yes}
use denote.RattleType.{owns}
use denote.Memory.{mem, cell_at}
use denote.Ref.{MutBor, MutRef}
use denote.Builtin.{RefMutOf}
use denote.Signature.{plain}
use denote.Steps.{nothing, opens, closes}
use denote.Triple.Carry.{spared}
use denote.Triple.Clauses.{Clauses, Ended, closing}
use denote.Triple.Entry.{on_entry}
use denote.Triple.Spec.{Meets, triple_of}
use denote.Triple.Table.{entered, run_framed}
use denote.Triple.Walked.{needs, Stays, stay_ref, walk_of, ends_at, Goes-ref, walk_Meets}
use Rattle.std_alloc.proofs.VecSteps.Shapes.{after}
use Rattle.std.specs.Prelude.{Option, None}
use Rattle.core.proofs.mem.Param.{El, args, el_x}
use Rattle.raw_nodes.proofs.Memory.{says_both}
use Rattle.raw_nodes.proofs.Slotted.{Sl, none_had, none_put}
use Rattle.raw_nodes.specs.contracts.slot.Slot.again.Key.{name as #self}
use Rattle.raw_nodes.proofs.slot.Slot.again.Statement as stated
use Rattle.raw_nodes.proofs.slot.Slot.again.Code as code

module _ (E : El) where
  abbrev function : Fn
  function = inst_fn (args E) code.function

  abbrev ended : Ended
  ended = record { signature = record { lifetimes = 1; outlives = []; params = RefMutOf (0 ∷ []) tt (plain (λ _. Sl E)) (λ _. tt) ∷ []; result = plain (λ _. Sl E) }; kept = (yes, tt) }

  abbrev stayed : Stays ended.signature.params ended.kept
  stayed = (stay_ref (0 ∷ []) tt (plain (λ _. Sl E)), tt)

  abbrev Gives0 : Option (el_x E) → Option (el_x E) → Type 0
  Gives0 r new = r ≡ None

  abbrev Gives1 : Option (el_x E) → Option (el_x E) → Type 0
  Gives1 r new = new ≡ None

  abbrev spec : {M : Type 1} {𝓤 : Ura M} (𝓛 : Logic 𝓤) → Clauses 𝓤 ended
  spec {𝓤 = 𝓤} 𝓛 κs a = record { ghost = Unit {0}; requires = λ _. fact 𝓤 (a.0.now ≡ None); ensures = λ _ r w. sep 𝓤 (fact 𝓤 (Gives0 r w.0.now)) (fact 𝓤 (Gives1 r w.0.now)) }

module _ (E : El) {M : Type 1} {𝓤 : Ura M} (𝓛 : Logic 𝓤) (C : Calls 𝓤 𝓛.H) (Λ : Loops 𝓤 𝓛.H) (κ : Lft) (q : Share) (rb ro : ℕ) (γ : GName) (d : Option (el_x E)) (us0 : List Val) where
  open 𝓛 use {H, A}

  abbrev self : MutBor (Option (el_x E))
  self = record { ref_ptr = (rb, ro); ghost_name = γ; now = d }

  abbrev bound : (walk_of 𝓛 (ended E) (stayed E) (spec E 𝓛)).Ghost
  bound = (((κ, tt), (q, tt), tt, (self, tt), (us0, tt)), tt)

  abbrev Post : Val → SProp 𝓤
  Post = (walk_of 𝓛 (ended E) (stayed E) (spec E 𝓛)).post bound

  exits : us0 ≡ vptr rb ro ∷ [] → (v : Val) → ent 𝓤 (⋆ 𝓛 (‵ (fobs γ ((Sl E).coded.code None)) ∷ ‵ (fbor κ (Borrowed (mem (Sl E)) rb ro γ)) ∷ ‵ (flft κ q) ∷ ‵ ((Sl E).own_val None (v ∷ [])) ∷ [])) (Post v)
  exits passed v =
      qed 𝓛 (‵ (fobs γ ((Sl E).coded.code None)) ∷ ‵ (fbor κ (Borrowed (mem (Sl E)) rb ro γ)) ∷ ‵ (flft κ q) ∷ ‵ ((Sl E).own_val None (v ∷ [])) ∷ []) ∵
      suffices ! _ (ends_at 𝓛 (ended E) (stayed E) (spec E 𝓛) bound v None (None, tt) (tt, tt)) $ says_both ! refl refl $
      nothing ! $ move ! (3 ∷ 0 ∷ []) $ join ! $ frame ! $ feq_i ! (List Val) us0 (vptr rb ro ∷ []) passed $ fjoin3 ! $ nothing ! $ move ! (1 ∷ 0 ∷ []) $ fjoin ! $ done !

  abbrev Had : List (Item 𝓤)
  Had = ‵ (fobs γ ((Sl E).coded.code d)) ∷ ‵ (fbor κ (Borrowed (mem (Sl E)) rb ro γ)) ∷ ‵ (flft κ q) ∷ []

  walk : us0 ≡ vptr rb ro ∷ [] → d ≡ None → ent 𝓤 (⋆ 𝓛 Had) (WpFn 𝓤 H C Λ (function E) (vptr rb ro ∷ []) Post)
  walk passed is =
      qed 𝓛 Had ∵ enter ! C Λ (function E) (vptr rb ro ∷ []) _ $ alloc_all ! (λ l. pass_all ! refl ((tt, tt), tt) $
      let En : Env 𝓤 H = env (function E).locals l in
      opens ! tt (Sl E) {h = d} rb ro (λ vs. move ! (1 ∷ []) $ rewrite ! 0 (λ (c : Option (el_x E)). ‵ ((Sl E).own_val c vs)) is refl $ none_had E ! vs (λ w fits told.
      rewrite ! 0 (λ (us : List Val). ‵ (cell_at full_share (Sl E).mir us rb ro)) told refl $
      -- [the slot's cell; the open borrow; obs; auth]
      first ! $ blocks ! $ sets ! (addr ! (through ! refl (stop !))) refl (tt, tt) $
      sets_last ! (of_opd ! (load ! (through ! refl (stop !)) (look_raw ! 0 refl))) refl fits $
      exec ! C Λ En (after 1 (function E).body) (at_ret En Post) $ sets ! (of_opd ! (get ! refl)) refl fits $
      none_put E ! w fits $ move ! (1 ∷ 0 ∷ []) $ closes ! tt (Sl E) None (w ∷ []) rb ro $
      returns ! (look_at ! 0 refl) $ free_all ! refl $ keep ! (0 ∷ 1 ∷ 2 ∷ []) $ none_put E ! w fits $ move ! (1 ∷ 2 ∷ 3 ∷ 0 ∷ []) $ by ! (exits passed w))))

  entry : d ≡ None → ent 𝓤 (on_entry 𝓛 (ended E).signature (κ, tt) (q, tt) (self, tt) (us0, tt)) (WpFn 𝓤 H C Λ (function E) (us0 ++ []) Post)
  entry none =
      qed 𝓛 ((‵ (flft κ q) ⊛ ‵ ftrue) ∷ ‵ (owns (MutRef (named 0) κ (Sl E) ∷ []) (self, tt) (us0, tt)) ∷ []) ∵
      split ! $ move ! (2 ∷ []) $ fsplit ! $ fsplit3 ! $ feq_l ! (λ e0. keep ! (0 ∷ 1 ∷ 3 ∷ []) $
      by ! (subst (λ (ws : List Val). ent 𝓤 (⋆ 𝓛 Had) (WpFn 𝓤 H C Λ (function E) (ws ++ []) Post)) (sym e0) (walk e0 none)))

meets : (E : El) {M : Type 1} {𝓤 : Ura M} (𝓛 : Logic 𝓤) (𝓣 : Tables 𝓤 𝓛.H)
    → Meets 𝓛 (ended E).signature (WpFn 𝓤 𝓛.H 𝓣.C 𝓣.Λ (function E)) (closing 𝓛 (ended E) (spec E 𝓛))
meets E {𝓤 = 𝓤} 𝓛 𝓣 =
    walk_Meets 𝓛 (ended E) (stayed E) (Goes-ref 𝓛 1 0 tt (plain (λ _. Sl E)), tt) (spec E 𝓛) (WpFn 𝓤 𝓛.H 𝓣.C 𝓣.Λ (function E)) (WpFn-mono 𝓤 𝓛.H 𝓛.laws 𝓣 (function E))
    (λ z. needs 𝓤 (z.0.3.0.now ≡ None) _ (entry E 𝓛 𝓣.C 𝓣.Λ z.0.0.0 z.0.1.0 z.0.3.0.ref_ptr.0 z.0.3.0.ref_ptr.1 z.0.3.0.ghost_name z.0.3.0.now z.0.4.0))

pub again_spec : {M : Type 1} → stated.statement M
unfolding tables_of
again_spec 𝓤 𝓛 𝓜 𝓡 wired X LX y =
    let E : El = record { row = X; laws = LX } in
    let 𝓣 : Tables 𝓤 𝓛.H = tables_of 𝓤 𝓛.H 𝓜 (tables 𝓤 𝓛.H 𝓜 𝓡 𝓡.env) in
    let k = #self (args E) in
    spared 𝓛 (ended E).signature (𝓡.run (𝓡.env k)) (run_framed 𝓤 𝓛.H 𝓜 𝓡 (𝓡.env k)) 1 (X.lives, tt) (closing 𝓛 (ended E) (spec E 𝓛))
    (entered 𝓤 𝓛.H (triple_of 𝓛 (ended E).signature (closing 𝓛 (ended E) (spec E 𝓛))) 𝓣.C 𝓣.Λ k (function E) (code.unfolded 𝓤 𝓛.H 𝓜 𝓡 wired (X, tt)) (meets E 𝓛 𝓣))
    ((y.0.0, y.0.1, tt, y.0.3, y.0.4), y.1)
