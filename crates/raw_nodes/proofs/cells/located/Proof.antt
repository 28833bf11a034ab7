-- `located` reads off the right to free a block where the block begins. Assumes `Logic`.
use Rattle.std.proofs.Common.{◌≡◌, ℕ, List, [], ◌∷◌, ◌++◌, refl}
use mir.Syntax.{Fn}
use mir.MapTy.{inst_fn}
use mir.Val.{Val}
use base.Logic.{SProp, emp}
use prog.Wp.{WpFn}
use contract.Monad.{fact, fact_i}
use contract.Running.{tables}
use types.Kit.{‵, raw, ◌⊛◌, prop, ◌$◌, ◌∵◌, !, qed, by, move, drop, use0, split, regoal, fsplit, fjoin}
use types.Part.{agg}
use types.Run.{no_more, and_then, returns, enter}
use types.ByLocal.{alloc_all, pass_all, free_all, look_at, get, sets}
use denote.RattleType.{owns}
use denote.RawPtr.{count_of}
use denote.Builtin.{unit}
use denote.Signature.{Slot, plain, types_at}
use denote.Steps.{nothing}
use denote.Triple.Entry.{alive}
use denote.Triple.Walked.{Stays, stay_dropped, walk_of}
use mir.Raw.{raw as bare}
use mir.Syntax.{ty_array}
use Rattle.core.proofs.alloc.Calls.{Goes-blank}
use Rattle.core.proofs.mem.Param.{El, args, elτ}
use Rattle.std.proofs.raw_atomic.Walks.{proved_at, leaves}
use Rattle.std.proofs.GlobalToken.{dealloc_token_start}
use Rattle.raw_nodes.proofs.Memory.{mark, mark_had, mark_made, Mark, learns}
use Rattle.raw_nodes.specs.contracts.cells.located.{ended, clauses}
use Rattle.raw_nodes.specs.contracts.cells.located.Key.{name as #self}
use Rattle.raw_nodes.proofs.cells.located.Statement.{statement}
use Rattle.raw_nodes.proofs.cells.located.Code as code

abbrev first_slot : {n : ℕ} → List (Slot n) → Slot n
first_slot [] = plain (λ _. unit)
first_slot (s ∷ ss) = s

pub located_spec : {M : Type 1} → statement M
located_spec 𝓤 𝓛 𝓜 𝓡 wired X LX =
    let H = 𝓛.H in
    let E : El = record { row = X; laws = LX } in
    let ends = ended X in
    let c = clauses X 𝓛 𝓜.mem 𝓡.returns in
    let fn : Fn = inst_fn (args E) code.function in
    let slot = first_slot ends.signature.params in
    let stays : Stays ends.signature.params ends.kept = (stay_dropped slot ends.kept.0, tt) in
    let C = (tables 𝓤 H 𝓜 𝓡 𝓡.env).C in
    let Λ = (tables 𝓤 H 𝓜 𝓡 𝓡.env).Λ in
    proved_at 𝓛 ends stays c 𝓜 𝓡 (Goes-blank 𝓛 1 slot ends.kept.0 (λ κs x f. tt), tt) (#self (args E)) fn (code.unfolded 𝓤 H 𝓜 𝓡 wired (X, tt)) (λ z are.
    let Post : Val → SProp 𝓤 = (walk_of 𝓛 ends stays c).post z in
    let a = z.0.3 in
    let vss = z.0.4 in
    let d = a.0 in
    qed 𝓛 ((raw (alive 𝓛 ends.signature z.0.0 z.0.1) ⊛ ‵ (owns (types_at ends.signature.params z.0.0) a vss)) ∷ raw ((c z.0.0 a).requires z.1) ∷ []) ∵
    move ! (1 ∷ []) $ drop ! $ split ! $ move ! (1 ∷ []) $
    fsplit ! $ fsplit ! $ mark_had ! E vss.0 (λ told. move ! (1 ∷ []) $ drop ! $
    learns ! 1 (count_of d.at ≡ 0) (dealloc_token_start 𝓛 d.alloc (bare (ty_array (elτ E) d.len)) d.at) (λ start.
    regoal ! (λ (us : List Val). prop (WpFn 𝓤 H C Λ fn us Post)) (λ i. told i ++ []) refl $
    enter ! C Λ fn (mark ∷ []) Post $ alloc_all ! (λ l. pass_all ! refl ((tt, (tt, tt)), tt) $
    sets ! (agg ! (no_more !)) refl (tt, tt) $ sets ! (agg ! (and_then ! (get ! refl) (no_more !))) refl (tt, (tt, tt)) $
    returns ! (look_at ! 0 refl) $ free_all ! refl $
    use0 𝓛 (‵ ((Mark E).own_val (tt, tt) (mark ∷ []))) (mark_made E 𝓛) $ fjoin ! $
    use0 𝓛 (raw (fact 𝓤 ((d ≡ d) × (count_of d.at ≡ 0)))) (fact_i 𝓤 ((d ≡ d) × (count_of d.at ≡ 0)) (emp 𝓤) (refl, start)) $
    nothing ! $ nothing ! $ fjoin ! $ move ! (3 ∷ 0 ∷ 2 ∷ 1 ∷ []) $
    by ! (leaves 𝓛 ends stays c z mark d (tt, tt) (tt, tt))))))
