-- `within` moves a block's pointer up to one of its cells. Assumes `Logic`.
use mathlib.Core.Path.{◌≡◌, refl, sym, ap, subst, ◌∙◌}
use Prim.Native.Nat.{◌+◌, ◌*◌, ◌<◌, ◌^◌}
use native.Mathlib.Omega.{arith}
use mathlib.Core.List.{List, [], ◌∷◌, ◌++◌}
use seplogic.Ra.Ura.{Ura}
use base.Fraction.{full_share}
use mir.Syntax.{Fn, w64}
use mir.MapTy.{inst_fn}
use mir.Val.{Val, vint}
use base.Logic.{SProp, ent}
use base.Fml.{ftrue, fat}
use prog.Wp.{Env, Calls, Loops, WpFn, Tables}
use types.Logic.{Logic}
use contract.Monad.{fact}
use contract.Running.{tables, tables_of}
use sound.WpLaws.{WpFn-mono}
use types.Kit.{⋆, ‵, at_ret, ◌$◌, ◌∵◌, !, qed, by, move, keep, rewrite, fsplit, fjoin, feq_l, flt_l, suffices, frame, done}
use types.Part.{whole, sub, agg}
use types.Run.{stop, fld, of_opd, bin, size_lit, and_then, no_more, first, blocks, exec, returns, enter}
use types.ByLocal.{alloc_all, pass_all, free_all, look_at, get, get_in, sets, sets_last, take_at, give_at, env}
use denote.Exit.{no}
use denote.RattleType.{owns}
use denote.Param.{layout}
use denote.RawPtr.{Ptr, block_ptr}
use denote.Builtin.{usize}
use denote.Signature.{plain}
use denote.Steps.{nothing}
use denote.Triple.Carry.{spared}
use denote.Triple.Clauses.{Clauses, Ended, closing}
use denote.Triple.Entry.{on_entry}
use denote.Triple.Spec.{Meets, triple_of}
use denote.Triple.Table.{entered, run_framed}
use denote.Triple.Walked.{says, needs, Stays, stay_dropped, walk_of, ends_at, Goes-dropped, walk_Meets}
use Rattle.std_alloc.proofs.VecSteps.Shapes.{after}
use Rattle.std_alloc.proofs.RcSteps.{word, word-Good}
use Rattle.core.proofs.mem.Param.{El, args}
use Rattle.raw_nodes.specs.Spots.{IsIn, cell_ptr}
use Rattle.raw_nodes.proofs.Memory.{Bs, sz, word_had, word_made}
use Rattle.raw_nodes.proofs.Arenas.{Lk}
use Rattle.raw_nodes.specs.contracts.arena.Link.within.Key.{name as #self}
use Rattle.raw_nodes.proofs.arena.Link.within.Statement as stated
use Rattle.raw_nodes.proofs.arena.Link.within.Code as code

module _ (E : El) where
  abbrev function : Fn
  function = inst_fn (args E) code.function

  abbrev ended : Ended
  ended = record { signature = record { lifetimes = 0; outlives = []; params = plain (λ _. Bs E) ∷ plain (λ _. usize) ∷ []; result = plain (λ _. Lk) }; kept = (no, (no, tt)) }

  abbrev stayed : Stays ended.signature.params ended.kept
  stayed = (stay_dropped (plain (λ _. Bs E)) no, (stay_dropped (plain (λ _. usize)) no, tt))

  abbrev Asks : (Bs E).Denot → (usize).Denot → Type 0
  Asks base index = IsIn base.ptr × (index * sz E < 2 ^ 63) × (sz E < 2 ^ 63)

  abbrev Gives0 : (Bs E).Denot → (usize).Denot → Lk.Denot → Type 0
  Gives0 base index r = r.ptr ≡ cell_ptr (sz E) base.ptr index

  abbrev spec : {M : Type 1} {𝓤 : Ura M} (𝓛 : Logic 𝓤) → Clauses 𝓤 ended
  spec {𝓤 = 𝓤} 𝓛 κs a = record { ghost = Unit {0}; requires = λ _. fact 𝓤 (Asks a.0 a.1.0); ensures = λ _ r w. fact 𝓤 (Gives0 a.0 a.1.0 r) }

module _ (E : El) {M : Type 1} {𝓤 : Ura M} (𝓛 : Logic 𝓤) (C : Calls 𝓤 𝓛.H) (Λ : Loops 𝓤 𝓛.H) (base : (Bs E).Denot) (index : (usize).Denot) (us0 us1 : List Val) where
  open 𝓛 use {H, A}

  abbrev bound : (walk_of 𝓛 (ended E) (stayed E) (spec E 𝓛)).Ghost
  bound = ((tt, tt, tt, (base, (index, tt)), (us0, (us1, tt))), tt)

  abbrev Post : Val → SProp 𝓤
  Post = (walk_of 𝓛 (ended E) (stayed E) (spec E 𝓛)).post bound

  exits : (r : Lk.Denot) (v : Val) → Gives0 E base index r → ent 𝓤 (⋆ 𝓛 (‵ (Lk.own_val r (v ∷ [])) ∷ [])) (Post v)
  exits r v g0 =
      qed 𝓛 (‵ (Lk.own_val r (v ∷ [])) ∷ []) ∵
      suffices ! _ (ends_at 𝓛 (ended E) (stayed E) (spec E 𝓛) bound v r (tt, (tt, tt)) (tt, (tt, tt))) $ says ! g0 $
      nothing ! $ frame ! $ nothing ! $ nothing ! $ fjoin ! $ nothing ! $ fjoin ! $ done !

  walk : Asks E base index → index < 2 ^ 64 → ent 𝓤 (⋆ 𝓛 []) (WpFn 𝓤 H C Λ (function E) (word base.ptr ∷ vint w64 index ∷ []) Post)
  walk asked fits_index =
      let b = asked.0.0 in let o = asked.0.1 in let e = asked.0.2 in
      let s = sz E in let tiny : s < 2 ^ 64 = omega arith in let far : index * s < 2 ^ 64 = omega arith in
      let p : Ptr = block_ptr b (index * s + o) in let turned : index * s + o ≡ o + index * s = omega arith in
      qed 𝓛 [] ∵ enter ! C Λ (function E) (word base.ptr ∷ vint w64 index ∷ []) _ $ alloc_all ! (λ l. pass_all ! refl (word-Good [] base.ptr, ((tt, record { fits = fits_index }), tt)) $
      let En : Env 𝓤 H = env (function E).locals l in
      take_at ! 1 $ rewrite ! 0 (λ (a : Ptr). ‵ (fat full_share (layout (Bs E)) (l 1) 0 (word a))) e refl $ give_at ! 1 $ first ! $ blocks ! $
      sets ! (bin ! (get ! refl) (size_lit ! (record { fits = tiny })) (record { fits = far })) refl (tt, record { fits = far }) $
      sets_last ! (bin ! (get_in ! (fld ! refl (stop !)) (sub ! 0 refl (whole !))) (get ! refl) tt) refl (tt, tt) $
      exec ! C Λ En (after 1 (function E).body) (at_ret En Post) $ sets ! (of_opd ! (get ! refl)) refl (tt, tt) $ sets ! (of_opd ! (get ! refl)) refl (tt, tt) $
      sets ! (agg ! (and_then ! (get ! refl) (no_more !))) refl (word-Good [] p) $ word_made ! p $
      returns ! (look_at ! 0 refl) $ free_all ! refl $ keep ! (0 ∷ []) $ by ! (exits (record { ptr = p }) (word p) (ap (λ k. block_ptr b k) turned ∙ sym (ap (λ a. cell_ptr s a index) e))))

  entry : Asks E base index → ent 𝓤 (on_entry 𝓛 (ended E).signature tt tt (base, (index, tt)) (us0, (us1, tt))) (WpFn 𝓤 H C Λ (function E) (us0 ++ (us1 ++ [])) Post)
  entry asked =
      qed 𝓛 (‵ ftrue ∷ ‵ (owns (Bs E ∷ usize ∷ []) (base, (index, tt)) (us0, (us1, tt))) ∷ []) ∵
      move ! (1 ∷ []) $
      fsplit ! $
      word_had ! base.ptr us0 (λ e0.
      fsplit ! $
      fsplit ! $ feq_l ! (λ e1. flt_l ! (λ fits_index.
      keep ! [] $
      by ! (subst (λ (ws : List Val × List Val). ent 𝓤 (⋆ 𝓛 []) (WpFn 𝓤 H C Λ (function E) (ws.0 ++ (ws.1 ++ [])) Post)) (λ j. (sym e0 j, sym e1 j)) (walk asked fits_index)))))

meets : (E : El) {M : Type 1} {𝓤 : Ura M} (𝓛 : Logic 𝓤) (𝓣 : Tables 𝓤 𝓛.H)
    → Meets 𝓛 (ended E).signature (WpFn 𝓤 𝓛.H 𝓣.C 𝓣.Λ (function E)) (closing 𝓛 (ended E) (spec E 𝓛))
meets E {𝓤 = 𝓤} 𝓛 𝓣 =
    walk_Meets 𝓛 (ended E) (stayed E) (Goes-dropped 𝓛 0 (plain (λ _. Bs E)) no (λ κs x f. refl), (Goes-dropped 𝓛 0 (plain (λ _. usize)) no (λ κs x f. refl), tt)) (spec E 𝓛) (WpFn 𝓤 𝓛.H 𝓣.C 𝓣.Λ (function E)) (WpFn-mono 𝓤 𝓛.H 𝓛.laws 𝓣 (function E))
    (λ z. needs 𝓤 (Asks E z.0.3.0 z.0.3.1.0) _ (entry E 𝓛 𝓣.C 𝓣.Λ z.0.3.0 z.0.3.1.0 z.0.4.0 z.0.4.1.0))

pub within_spec : {M : Type 1} → stated.statement M
unfolding tables_of
within_spec 𝓤 𝓛 𝓜 𝓡 wired X LX y =
    let E : El = record { row = X; laws = LX } in
    let 𝓣 : Tables 𝓤 𝓛.H = tables_of 𝓤 𝓛.H 𝓜 (tables 𝓤 𝓛.H 𝓜 𝓡 𝓡.env) in
    let k = #self (args E) in
    spared 𝓛 (ended E).signature (𝓡.run (𝓡.env k)) (run_framed 𝓤 𝓛.H 𝓜 𝓡 (𝓡.env k)) 1 (X.lives, tt) (closing 𝓛 (ended E) (spec E 𝓛))
    (entered 𝓤 𝓛.H (triple_of 𝓛 (ended E).signature (closing 𝓛 (ended E) (spec E 𝓛))) 𝓣.C 𝓣.Λ k (function E) (code.unfolded 𝓤 𝓛.H 𝓜 𝓡 wired (X, tt)) (meets E 𝓛 𝓣))
    ((y.0.0, y.0.1, tt, y.0.3, y.0.4), y.1)
