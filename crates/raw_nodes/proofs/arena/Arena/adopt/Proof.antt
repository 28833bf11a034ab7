-- `adopt` takes a block's full places over. Assumes `Logic`.
use mathlib.Core.Path.{◌≡◌, refl, sym, ap, subst, ◌∙◌}
use Prim.Native.Nat.{ℕ, ◌*◌, ◌<◌, ◌^◌}
use lib.ListN.{length}
use mathlib.Core.List.{List, [], ◌∷◌, ◌++◌}
use seplogic.Ra.Ura.{Ura}
use mir.Syntax.{Fn, named}
use mir.MapTy.{inst_fn}
use mir.Val.{Val, vptr}
use base.Logic.{SProp, ent, never, id⊢}
use base.Fml.{Lft, GName, Share, ftrue, flft, fobs, fbor}
use prog.Model.{Model}
use prog.Wp.{Calls, Loops, WpFn, Tables}
use types.Logic.{Logic}
use contract.Monad.{fact}
use contract.Running.{tables, tables_of}
use sound.WpLaws.{WpFn-mono}
use types.Kit.{Item, ⋆, ‵, ◌⊛◌, ◌$◌, ◌∵◌, !, qed, by, move, keep, use1, use2, split, join, rewrite, fsplit, fsplit3, fjoin, fjoin3, feq_i, feq_l, flt_l, flt_i, use0, suffices, frame, done}
use types.Part.{agg}
use types.Run.{and_then, no_more, returns, enter}
use types.ByLocal.{alloc_all, pass_all, free_all, look_at, get, sets}
use types.SemTy.{Body as Borrowed}
use denote.Exit.{yes, no}
use denote.RattleType.{owns}
use denote.Memory.{mem}
use denote.RawPtr.{Ptr, block_ptr, in_a_block}
use denote.Ref.{MutBor, MutRef}
use denote.Builtin.{RefMutOf}
use denote.Signature.{plain}
use denote.Steps.{nothing, opens, closes}
use denote.Triple.Carry.{spared}
use denote.Triple.Clauses.{Clauses, Ended, closing}
use denote.Triple.Entry.{on_entry}
use denote.Triple.Spec.{Meets, triple_of}
use denote.Triple.Table.{entered, run_framed}
use denote.Triple.Walked.{needs, Stays, stay_dropped, stay_ref, walk_of, ends_at, Goes-ref, walk_Meets}
use Rattle.core.proofs.alloc.Calls.{Goes-blank}
use Rattle.core.proofs.mem.Param.{El, R, args, el_x}
use Rattle.raw_nodes.specs.Places.{somes}
use Rattle.raw_nodes.specs.Ownership.{slots, cells_own}
use Rattle.raw_nodes.specs.Spots.{Spot, spots, spots_own, places, run_places, IsApart, IsFull}
use Rattle.raw_nodes.proofs.Memory.{Cr, sz, mark, mark_had, says_both, Place}
use Rattle.std.specs.Prelude.{Some}
use Rattle.std.proofs.lemmas.List.{length-map}
use Rattle.raw_nodes.proofs.Runs.{knows, own_glue, run_in, lie_apart, places_spots, length_spots}
use Rattle.raw_nodes.proofs.Arenas.{Ar, Rn, RunMark, run_mark_made}
use base.Logic.{sep}
use Rattle.raw_nodes.specs.contracts.arena.Arena.adopt.Key.{name as #self}
use Rattle.raw_nodes.proofs.arena.Arena.adopt.Statement as stated
use Rattle.raw_nodes.proofs.arena.Arena.adopt.Code as code

module _ (E : El) where
  abbrev function : Fn
  function = inst_fn (args E) code.function

  abbrev ended : Ended
  ended = record { signature = record { lifetimes = 1; outlives = []; params = RefMutOf (0 ∷ []) tt (plain (λ _. Ar E)) (λ _. tt) ∷ plain (λ _. Cr E) ∷ []; result = plain (λ _. Rn E) }; kept = (yes, (no, tt)) }

  abbrev stayed : Stays ended.signature.params ended.kept
  stayed = (stay_ref (0 ∷ []) tt (plain (λ _. Ar E)), (stay_dropped (plain (λ _. Cr E)) no, tt))

  abbrev Asks : (Ar E).Denot → (Cr E).Denot → Type 0
  Asks d cells = IsFull cells.slots × (0 < sz E)

  abbrev Gives0 : (Ar E).Denot → (Cr E).Denot → (Rn E).Denot → (Ar E).Denot → Type 0
  Gives0 d cells r new = new.cells ≡ d.cells ++ spots (sz E) cells.at (somes cells.slots)

  abbrev Gives1 : (Ar E).Denot → (Cr E).Denot → (Rn E).Denot → (Ar E).Denot → Type 0
  Gives1 d cells r new = IsApart new.cells × (r.at ≡ cells.at) × (r.places ≡ places (spots (sz E) cells.at (somes cells.slots)))

  abbrev spec : {M : Type 1} {𝓤 : Ura M} (𝓛 : Logic 𝓤) → Clauses 𝓤 ended
  spec {𝓤 = 𝓤} 𝓛 κs a = record { ghost = Unit {0}; requires = λ _. fact 𝓤 (Asks a.0.now a.1.0); ensures = λ _ r w. sep 𝓤 (fact 𝓤 (Gives0 a.0.now a.1.0 r w.0.now)) (fact 𝓤 (Gives1 a.0.now a.1.0 r w.0.now)) }

module _ (E : El) {M : Type 1} {𝓤 : Ura M} (𝓛 : Logic 𝓤) (𝓜 : Model 𝓤 𝓛.H) (C : Calls 𝓤 𝓛.H) (Λ : Loops 𝓤 𝓛.H) (κ : Lft) (q : Share) (rb ro : ℕ) (γ : GName) (d : (Ar E).Denot) (cells : (Cr E).Denot) (us0 us1 : List Val) where
  open 𝓛 use {H, A}

  abbrev self : MutBor (Ar E).Denot
  self = record { ref_ptr = (rb, ro); ghost_name = γ; now = d }

  abbrev bound : (walk_of 𝓛 (ended E) (stayed E) (spec E 𝓛)).Ghost
  bound = (((κ, tt), (q, tt), tt, (self, (cells, tt)), (us0, (us1, tt))), tt)

  abbrev Post : Val → SProp 𝓤
  Post = (walk_of 𝓛 (ended E) (stayed E) (spec E 𝓛)).post bound

  exits : us0 ≡ vptr rb ro ∷ [] → (r : (Rn E).Denot) (v : Val) (new : (Ar E).Denot) → Gives0 E d cells r new → Gives1 E d cells r new
      → ent 𝓤 (⋆ 𝓛 (‵ (fobs γ ((Ar E).coded.code new)) ∷ ‵ (fbor κ (Borrowed (mem (Ar E)) rb ro γ)) ∷ ‵ (flft κ q) ∷ ‵ ((Rn E).own_val r (v ∷ [])) ∷ [])) (Post v)
  exits passed r v new g0 g1 =
      qed 𝓛 (‵ (fobs γ ((Ar E).coded.code new)) ∷ ‵ (fbor κ (Borrowed (mem (Ar E)) rb ro γ)) ∷ ‵ (flft κ q) ∷ ‵ ((Rn E).own_val r (v ∷ [])) ∷ []) ∵
      suffices ! _ (ends_at 𝓛 (ended E) (stayed E) (spec E 𝓛) bound v r (new, (tt, tt)) (tt, (tt, tt))) $ says_both ! g0 g1 $
      nothing ! $ move ! (3 ∷ 0 ∷ []) $ join ! $ frame ! $ feq_i ! (List Val) us0 (vptr rb ro ∷ []) passed $ fjoin3 ! $ nothing ! $ nothing ! $ fjoin ! $ move ! (1 ∷ 0 ∷ []) $ fjoin ! $ done !

  abbrev Had : List (Item 𝓤)
  Had = ‵ (fobs γ ((Ar E).coded.code d)) ∷ ‵ (fbor κ (Borrowed (mem (Ar E)) rb ro γ)) ∷ ‵ (flft κ q) ∷ ‵ (cells_own (R E) cells.at cells.slots) ∷ []

  walk : us0 ≡ vptr rb ro ∷ [] → Asks E d cells → ent 𝓤 (⋆ 𝓛 Had) (WpFn 𝓤 H C Λ (function E) (vptr rb ro ∷ mark ∷ []) Post)
  walk passed asked =
      let xs : List (el_x E) = somes cells.slots in
      let ps : List Ptr = places (spots (sz E) cells.at xs) in
      let new : (Ar E).Denot = record { mark = d.mark; cells = d.cells ++ spots (sz E) cells.at xs } in
      let out : (Rn E).Denot = record { mark = record {}; at = cells.at; places = ps } in
      let count : length ps ≡ length xs = length-map (spots (sz E) cells.at xs) (λ (s : Spot (el_x E)). s.at) ∙ length_spots (sz E) cells.at xs in
      let sames : ps ≡ run_places (sz E) cells.at (length ps) = places_spots (sz E) cells.at xs ∙ ap (run_places (sz E) cells.at) (sym count) in
      let as_many : length cells.slots ≡ length ps = ap length asked.0 ∙ length-map xs Some ∙ sym count in
      qed 𝓛 Had ∵ move ! (3 ∷ []) $ in_a_block ! cells.at (λ p. cells_own (R E) p cells.slots) (id⊢ 𝓤 (never 𝓤)) (λ b o e. fsplit ! $ flt_l ! (λ small.
      rewrite ! 0 (λ (l : List (Place E)). ‵ (slots (R E) b o l)) asked.0 refl $
      use1 𝓛 (‵ (spots_own (R E) (spots (sz E) (block_ptr b o) xs))) (run_in E 𝓛 xs b o) $
      rewrite ! 0 (λ (p : Ptr). ‵ (spots_own (R E) (spots (sz E) p xs))) (sym e) refl $ move ! (1 ∷ 2 ∷ 3 ∷ 0 ∷ []) $
      enter ! C Λ (function E) (vptr rb ro ∷ mark ∷ []) _ $ alloc_all ! (λ l. pass_all ! refl ((tt, tt), ((tt, (tt, tt)), tt)) $
      opens ! tt (Ar E) {h = d} rb ro (λ vs. move ! (1 ∷ []) $ fsplit ! $ move ! (1 ∷ 6 ∷ []) $
      -- [the old cells; the new ones; the mark; its cell; the open borrow; obs; auth]
      use2 𝓛 (‵ (spots_own (R E) new.cells)) (own_glue (R E) 𝓛 d.cells (spots (sz E) cells.at xs)) $
      knows ! (IsApart new.cells) (lie_apart E 𝓛 𝓜 asked.1 new.cells) (λ apart.
      move ! (1 ∷ 0 ∷ []) $ fjoin ! $ move ! (1 ∷ 0 ∷ []) $ closes ! tt (Ar E) new vs rb ro $
      sets ! (agg ! (no_more !)) refl (tt, tt) $ sets ! (agg ! (and_then ! (get ! refl) (no_more !))) refl (tt, (tt, tt)) $
      returns ! (look_at ! 0 refl) $ free_all ! refl $ keep ! (0 ∷ 1 ∷ 2 ∷ []) $
      feq_i ! (List Ptr) ps (run_places (sz E) cells.at (length ps)) sames $
      flt_i ! (length ps * sz E) (2 ^ 63) (subst (λ k. k * sz E < 2 ^ 63) as_many small) $ fjoin ! $
      use0 𝓛 (‵ ((RunMark E).own_val (tt, tt) (mark ∷ []))) (run_mark_made E 𝓛) $ fjoin ! $ move ! (1 ∷ 2 ∷ 3 ∷ 0 ∷ []) $
      by ! (exits passed out mark new refl (apart, refl, refl)))))))

  entry : Asks E d cells → ent 𝓤 (on_entry 𝓛 (ended E).signature (κ, tt) (q, tt) (self, (cells, tt)) (us0, (us1, tt))) (WpFn 𝓤 H C Λ (function E) (us0 ++ (us1 ++ [])) Post)
  entry asked =
      qed 𝓛 ((‵ (flft κ q) ⊛ ‵ ftrue) ∷ ‵ (owns (MutRef (named 0) κ (Ar E) ∷ Cr E ∷ []) (self, (cells, tt)) (us0, (us1, tt))) ∷ []) ∵
      split ! $ move ! (2 ∷ []) $
      fsplit ! $
      fsplit3 ! $ feq_l ! (λ e0.
      move ! (2 ∷ []) $
      fsplit ! $
      fsplit ! $ mark_had ! E us1 (λ e1.
      -- [what the cells own; nothing; obs; the borrow; the token; ..]
      keep ! (2 ∷ 3 ∷ 4 ∷ 0 ∷ []) $
      by ! (subst (λ (ws : List Val × List Val). ent 𝓤 (⋆ 𝓛 Had) (WpFn 𝓤 H C Λ (function E) (ws.0 ++ (ws.1 ++ [])) Post)) (λ j. (sym e0 j, sym e1 j)) (walk e0 asked))))

meets : (E : El) {M : Type 1} {𝓤 : Ura M} (𝓛 : Logic 𝓤) (𝓜 : Model 𝓤 𝓛.H) (𝓣 : Tables 𝓤 𝓛.H)
    → Meets 𝓛 (ended E).signature (WpFn 𝓤 𝓛.H 𝓣.C 𝓣.Λ (function E)) (closing 𝓛 (ended E) (spec E 𝓛))
meets E {𝓤 = 𝓤} 𝓛 𝓜 𝓣 =
    walk_Meets 𝓛 (ended E) (stayed E) (Goes-ref 𝓛 1 0 tt (plain (λ _. Ar E)), (Goes-blank 𝓛 1 (plain (λ _. Cr E)) no (λ κs x f. tt), tt)) (spec E 𝓛) (WpFn 𝓤 𝓛.H 𝓣.C 𝓣.Λ (function E)) (WpFn-mono 𝓤 𝓛.H 𝓛.laws 𝓣 (function E))
    (λ z. needs 𝓤 (Asks E z.0.3.0.now z.0.3.1.0) _ (entry E 𝓛 𝓜 𝓣.C 𝓣.Λ z.0.0.0 z.0.1.0 z.0.3.0.ref_ptr.0 z.0.3.0.ref_ptr.1 z.0.3.0.ghost_name z.0.3.0.now z.0.3.1.0 z.0.4.0 z.0.4.1.0))

pub adopt_spec : {M : Type 1} → stated.statement M
unfolding tables_of
adopt_spec 𝓤 𝓛 𝓜 𝓡 wired X LX y =
    let E : El = record { row = X; laws = LX } in
    let 𝓣 : Tables 𝓤 𝓛.H = tables_of 𝓤 𝓛.H 𝓜 (tables 𝓤 𝓛.H 𝓜 𝓡 𝓡.env) in
    let k = #self (args E) in
    spared 𝓛 (ended E).signature (𝓡.run (𝓡.env k)) (run_framed 𝓤 𝓛.H 𝓜 𝓡 (𝓡.env k)) 1 (X.lives, tt) (closing 𝓛 (ended E) (spec E 𝓛))
    (entered 𝓤 𝓛.H (triple_of 𝓛 (ended E).signature (closing 𝓛 (ended E) (spec E 𝓛))) 𝓣.C 𝓣.Λ k (function E) (code.unfolded 𝓤 𝓛.H 𝓜 𝓡 wired (X, tt)) (meets E 𝓛 𝓜 𝓣))
    ((y.0.0, y.0.1, tt, y.0.3, y.0.4), y.1)
