-- `follow_mut` lends the value of the cell, and the cells follow it. Assumes `Logic`.
use mathlib.Core.Path.{◌≡◌, refl, sym, subst}
use Prim.Native.Nat.{ℕ}
use mathlib.Core.List.{List, [], ◌∷◌, ◌++◌}
use seplogic.Ra.Ura.{Ura}
use base.Fraction.{full_share}
use mir.Syntax.{Fn, named}
use mir.MapTy.{inst_fn}
use mir.Val.{Val, vptr}
use base.Logic.{SProp, ent, sep, never, id⊢}
use base.Fml.{Lft, GName, Share, Fml, ftrue, fsep, fat, flft, fobs, fbor}
use prog.Wp.{Env, Calls, Loops, WpFn, Tables}
use types.Logic.{Logic, sem}
use contract.Monad.{fact}
use contract.Running.{tables, tables_of}
use sound.WpLaws.{WpFn-mono}
use types.Kit.{Item, ⋆, ‵, raw, ◌⊛◌, some, later, await, pick, at_ret, ◌$◌, ◌∵◌, !, qed, by, move, keep, use1, use2, split, join, group, rewrite, fsplit, fsplit3, fjoin, fjoin3, fpack, feq_l, suffices, frame, done}
use types.Part.{whole, sub}
use types.Run.{stop, fld, of_opd, addr, first, blocks, exec, returns, enter}
use types.ByLocal.{alloc_all, pass_all, free_all, look_at, get, get_in, through, sets, sets_last, env}
use types.SemTy.{Body as Borrowed}
use denote.Exit.{no}
use denote.RattleType.{owns}
use denote.Memory.{mem, cell_at, part_of}
use denote.Param.{layout}
use denote.RawPtr.{Ptr, block_ptr, in_a_block}
use denote.Ref.{MutBor, MutRef}
use denote.Builtin.{RefMutOf}
use denote.Signature.{plain, mut_ref_to}
use denote.Steps.{nothing, opens}
use denote.Triple.Carry.{spared}
use denote.Triple.Clauses.{Clauses, Ended, closing}
use denote.Triple.Entry.{on_entry}
use denote.Triple.Spec.{Meets, triple_of}
use denote.Triple.Table.{entered, run_framed}
use denote.Triple.Walked.{says, needs, Stays, stay_dropped, walk_of, ends_at, Goes-dropped, Goes-spent_ref, walk_Meets}
use Rattle.std_alloc.proofs.VecSteps.Shapes.{after}
use Rattle.std_alloc.proofs.RcSteps.{word, word-Good}
use types.ByLocal.{take_at, give_at}
use Rattle.std.specs.Prelude.{Some, IsSome}
use Rattle.core.proofs.mem.Param.{El, R, args, el_x}
use Rattle.raw_nodes.specs.Spots.{found, spots_own}
use denote.RawPtr.{lies_at}
use Rattle.raw_nodes.proofs.Memory.{word_had}
use Rattle.raw_nodes.proofs.Found.{besides, spot_out, spot_in}
use Rattle.raw_nodes.proofs.Arenas.{Ar, Lk, Mark, found_value}
use denote.Follow.{follows, Part, lends_Part}
use Rattle.raw_nodes.specs.Lends.{with_written}
use Rattle.raw_nodes.specs.contracts.arena.Arena.follow_mut.Key.{name as #self}
use Rattle.raw_nodes.proofs.arena.Arena.follow_mut.Statement as stated
use Rattle.raw_nodes.proofs.arena.Arena.follow_mut.Code as code

module _ (E : El) where
  abbrev function : Fn
  function = inst_fn (args E) code.function

  abbrev ended : Ended
  ended = record { signature = record { lifetimes = 1; outlives = []; params = RefMutOf (0 ∷ []) tt (plain (λ _. Ar E)) (λ _. tt) ∷ plain (λ _. Lk) ∷ []; result = RefMutOf (0 ∷ []) tt (plain (λ _. R E)) (λ _. tt) }; kept = (no, (no, tt)) }

  abbrev stayed : Stays ended.signature.params ended.kept
  stayed = (stay_dropped (mut_ref_to (0 ∷ []) tt (plain (λ _. Ar E))) no, (stay_dropped (plain (λ _. Lk)) no, tt))

  abbrev Asks : (Ar E).Denot → Lk.Denot → Type 0
  Asks d link = IsSome (found d.cells link.ptr)

  abbrev Gives0 : (Ar E).Denot → Lk.Denot → MutBor (el_x E) → Type 0
  Gives0 d link r = found d.cells link.ptr ≡ Some r.now

  abbrev spec : {M : Type 1} {𝓤 : Ura M} (𝓛 : Logic 𝓤) → Clauses 𝓤 ended
  spec {𝓤 = 𝓤} 𝓛 κs a = record { ghost = Unit {0}; requires = λ _. fact 𝓤 (Asks a.0.now a.1.0); ensures = λ _ r w. sep 𝓤 (sem 𝓛 (follows (Ar E) (R E) a.0.ghost_name r.ghost_name (with_written a.0.now a.1.0.ptr))) (fact 𝓤 (Gives0 a.0.now a.1.0 r)) }

module _ (E : El) {M : Type 1} {𝓤 : Ura M} (𝓛 : Logic 𝓤) (C : Calls 𝓤 𝓛.H) (Λ : Loops 𝓤 𝓛.H) (κ : Lft) (q : Share) (rb ro : ℕ) (γ : GName) (d : (Ar E).Denot) (link : Lk.Denot) (us0 us1 : List Val) where
  open 𝓛 use {H, A}

  abbrev self : MutBor (Ar E).Denot
  self = record { ref_ptr = (rb, ro); ghost_name = γ; now = d }

  abbrev bound : (walk_of 𝓛 (ended E) (stayed E) (spec E 𝓛)).Ghost
  bound = (((κ, tt), (q, tt), tt, (self, (link, tt)), (us0, (us1, tt))), tt)

  abbrev Post : Val → SProp 𝓤
  Post = (walk_of 𝓛 (ended E) (stayed E) (spec E 𝓛)).post bound

  abbrev new : el_x E → (Ar E).Denot
  new w = with_written d link.ptr w

  module _ (vs : List Val) (b o : ℕ) where
    -- all but the value
    abbrev Rest : Fml
    Rest = fsep (besides (R E) d.cells link.ptr) (fsep ((Mark E).own_val (tt, tt) vs) (cell_at full_share (Ar E).mir vs rb ro))

    back : link.ptr ≡ block_ptr b o → (x : el_x E) → found d.cells link.ptr ≡ Some x
        → (w : el_x E) → ent 𝓤 (sep 𝓤 (sem 𝓛 ((mem (R E)).own_at w b o)) (sem 𝓛 Rest)) (sem 𝓛 ((mem (Ar E)).own_at (new w) rb ro))
    unfolding part_of
    back e x is w =
        qed 𝓛 (‵ (lies_at (R E) full_share (block_ptr b o) w) ∷ ‵ Rest ∷ []) ∵ rewrite ! 0 (λ (p : Ptr). ‵ (lies_at (R E) full_share p w)) (sym e) refl $
        move ! (1 ∷ []) $ fsplit3 ! $ move ! (3 ∷ 0 ∷ []) $
        use2 𝓛 (‵ (spots_own (R E) (new w).cells)) (spot_in (R E) 𝓛 d.cells link.ptr x w is) $
        move ! (1 ∷ 0 ∷ []) $ fjoin ! $ move ! (1 ∷ 0 ∷ []) $ fjoin ! $
        fpack ! (List Val) (λ us. fsep (cell_at full_share (Ar E).mir us rb ro) ((Ar E).own_val (new w) us)) vs $ done !

  exits : (v : Val) (r : MutBor (el_x E)) → Gives0 E d link r
      → ent 𝓤 (sep 𝓤 (sem 𝓛 ((MutRef (named 0) κ (R E)).own_val r (v ∷ []))) (sep 𝓤 (A.lft κ q) (sem 𝓛 (follows (Ar E) (R E) γ r.ghost_name new)))) (Post v)
  exits v r e =
      qed 𝓛 (‵ ((MutRef (named 0) κ (R E)).own_val r (v ∷ [])) ∷ ‵ (flft κ q) ∷ ‵ (follows (Ar E) (R E) γ r.ghost_name new) ∷ []) ∵
      suffices ! _ (ends_at 𝓛 (ended E) (stayed E) (spec E 𝓛) bound v r (tt, (tt, tt)) (tt, (tt, tt))) $
      nothing ! $ nothing ! $ fjoin ! $ nothing ! $ fjoin ! $ join ! $ nothing ! $ move ! (2 ∷ 0 ∷ []) $ join ! $ join ! $ frame ! $ says ! e $ done !

  abbrev Had : List (Item 𝓤)
  Had = ‵ (fobs γ ((Ar E).coded.code d)) ∷ ‵ (fbor κ (Borrowed (mem (Ar E)) rb ro γ)) ∷ ‵ (flft κ q) ∷ []

  walk : Asks E d link → ent 𝓤 (⋆ 𝓛 Had) (WpFn 𝓤 H C Λ (function E) (vptr rb ro ∷ word link.ptr ∷ []) Post)
  walk asked =
      let one = found_value d.cells link.ptr asked in let x = one.0 in let code = (Ar E).coded.code d in
      qed 𝓛 Had ∵ enter ! C Λ (function E) (vptr rb ro ∷ word link.ptr ∷ []) _ $ alloc_all ! (λ l. pass_all ! refl ((tt, tt), (word-Good [] link.ptr, tt)) $
      let En : Env 𝓤 H = env (function E).locals l in
      opens ! tt (Ar E) {h = d} rb ro (λ vs. move ! (1 ∷ []) $ fsplit ! $ move ! (1 ∷ []) $
      use1 𝓛 (‵ (lies_at (R E) full_share link.ptr x) ⊛ ‵ (besides (R E) d.cells link.ptr)) (spot_out (R E) 𝓛 d.cells link.ptr x one.1) $ split ! $
      in_a_block ! link.ptr (λ p. lies_at (R E) full_share p x) (id⊢ 𝓤 (never 𝓤)) (λ b o e.
      take_at ! 2 $ rewrite ! 0 (λ (p : Ptr). ‵ (fat full_share (layout Lk) (l 2) 0 (word p))) e refl $ give_at ! 2 $ first ! $ blocks ! $
      sets ! (of_opd ! (get_in ! (fld ! refl (stop !)) (sub ! 0 refl (whole !)))) refl (tt, tt) $
      let way = back vs b o e x one.1 in
      sets_last ! (addr ! (through ! refl (stop !))) refl (tt, tt) $ exec ! C Λ En (after 1 (function E).body) (at_ret En Post) $ sets ! (of_opd ! (get ! refl)) refl (tt, tt) $
      move ! (1 ∷ 2 ∷ 3 ∷ []) $ fjoin3 ! $ move ! (2 ∷ 3 ∷ 4 ∷ 1 ∷ 0 ∷ []) $ group ! 5 $
      use1 𝓛 (later (some (λ (δ : GName). raw (Part 𝓛 (Ar E) (R E) new (named 0) κ q rb ro b o γ (sem 𝓛 (Rest vs b o)) way x δ))))
      (lends_Part 𝓛 (Ar E) (R E) new (named 0) κ q rb ro b o γ (sem 𝓛 (Rest vs b o)) way code code x) $ await ! tt $ pick ! (λ δ.
      returns ! (look_at ! 0 refl) $ free_all ! refl $ keep ! (0 ∷ []) $ by ! (exits (vptr b o) (record { ref_ptr = (b, o); ghost_name = δ; now = x }) one.1)))))

  entry : Asks E d link → ent 𝓤 (on_entry 𝓛 (ended E).signature (κ, tt) (q, tt) (self, (link, tt)) (us0, (us1, tt))) (WpFn 𝓤 H C Λ (function E) (us0 ++ (us1 ++ [])) Post)
  entry asked =
      qed 𝓛 ((‵ (flft κ q) ⊛ ‵ ftrue) ∷ ‵ (owns (MutRef (named 0) κ (Ar E) ∷ Lk ∷ []) (self, (link, tt)) (us0, (us1, tt))) ∷ []) ∵
      split ! $ move ! (2 ∷ []) $
      fsplit ! $
      fsplit3 ! $ feq_l ! (λ e0.
      move ! (2 ∷ []) $
      fsplit ! $
      word_had ! link.ptr us1 (λ e1.
      keep ! (1 ∷ 2 ∷ 3 ∷ []) $
      by ! (subst (λ (ws : List Val × List Val). ent 𝓤 (⋆ 𝓛 Had) (WpFn 𝓤 H C Λ (function E) (ws.0 ++ (ws.1 ++ [])) Post)) (λ j. (sym e0 j, sym e1 j)) (walk asked))))

meets : (E : El) {M : Type 1} {𝓤 : Ura M} (𝓛 : Logic 𝓤) (𝓣 : Tables 𝓤 𝓛.H)
    → Meets 𝓛 (ended E).signature (WpFn 𝓤 𝓛.H 𝓣.C 𝓣.Λ (function E)) (closing 𝓛 (ended E) (spec E 𝓛))
meets E {𝓤 = 𝓤} 𝓛 𝓣 =
    walk_Meets 𝓛 (ended E) (stayed E) (Goes-spent_ref 𝓛 1 (0 ∷ []) tt (plain (λ _. Ar E)), (Goes-dropped 𝓛 1 (plain (λ _. Lk)) no (λ κs x f. refl), tt)) (spec E 𝓛) (WpFn 𝓤 𝓛.H 𝓣.C 𝓣.Λ (function E)) (WpFn-mono 𝓤 𝓛.H 𝓛.laws 𝓣 (function E))
    (λ z. needs 𝓤 (Asks E z.0.3.0.now z.0.3.1.0) _ (entry E 𝓛 𝓣.C 𝓣.Λ z.0.0.0 z.0.1.0 z.0.3.0.ref_ptr.0 z.0.3.0.ref_ptr.1 z.0.3.0.ghost_name z.0.3.0.now z.0.3.1.0 z.0.4.0 z.0.4.1.0))

pub follow_mut_spec : {M : Type 1} → stated.statement M
unfolding tables_of
follow_mut_spec 𝓤 𝓛 𝓜 𝓡 wired X LX y =
    let E : El = record { row = X; laws = LX } in
    let 𝓣 : Tables 𝓤 𝓛.H = tables_of 𝓤 𝓛.H 𝓜 (tables 𝓤 𝓛.H 𝓜 𝓡 𝓡.env) in
    let k = #self (args E) in
    spared 𝓛 (ended E).signature (𝓡.run (𝓡.env k)) (run_framed 𝓤 𝓛.H 𝓜 𝓡 (𝓡.env k)) 1 (X.lives, tt) (closing 𝓛 (ended E) (spec E 𝓛))
    (entered 𝓤 𝓛.H (triple_of 𝓛 (ended E).signature (closing 𝓛 (ended E) (spec E 𝓛))) 𝓣.C 𝓣.Λ k (function E) (code.unfolded 𝓤 𝓛.H 𝓜 𝓡 wired (X, tt)) (meets E 𝓛 𝓣))
    ((y.0.0, y.0.1, tt, y.0.3, y.0.4), y.1)
