use Rattle.std.proofs.Common.{◌≡◌, ◌++◌, ◌∷◌, [], ℕ, List, length, map, inl, inr, refl, sym, ap, subst, ◌∙◌, arith}
use Rattle.std.specs.Prelude.{slice_get}
use Rattle.std.proofs.lemmas.Bool.{false≢true}
use Rattle.gcx_base.specs.declared.ids.VarId.{VarId}
use Rattle.cond_eval.proofs.Kept.{key_in, keys_push}
use Rattle.pull_eval.specs.Leaps.{GoesWith, HasNoTurns, IsTurnsOf}
use Rattle.pull_eval.specs.Turns.{TurnsStand, loop_var}
use Rattle.pull_eval.specs.declared.turns.Turns.{Turns}
use Rattle.pull_eval.proofs.TurnsKept.{get_below, get_there, get_set, get_last, get_stands, are_set, are_pushed, same_get, vars_set}
use Rattle.pull_eval.proofs.leaps.turns_of.Goals as goal

pub index-requires : goal.index-requires
index-requires c =
    let found : IsTurnsOf c.args.all.now.items c.args.guard.now.own_var c.in-Some.index = subst (λ (ts : List Turns). IsTurnsOf ts c.args.guard.now.own_var c.in-Some.index) c.deref.ensures.value c.in-Some.ensures in
    let low = get_below c.args.all.now.items c.in-Some.index found.0 found.1 in
    omega (arith, low, c.args.all.now.ok.0)

pub returns-then-goes_by-clause-there : goal.returns-then-goes_by-clause-there
returns-then-goes_by-clause-there c =
    let found : IsTurnsOf c.args.all.now.items c.args.guard.now.own_var c.in-Some.index = subst (λ (ts : List Turns). IsTurnsOf ts c.args.guard.now.own_var c.in-Some.index) c.deref.ensures.value c.in-Some.ensures in
    let low = get_below c.args.all.now.items c.in-Some.index found.0 found.1 in
    (c.index.result.now, get_there c.args.all.now.items c.in-Some.index c.index.result.now low c.index.ensures, c.goes_by.ensures.0 c.if-goes_by.true)

pub returns-then-goes_by-clause-count : goal.returns-then-goes_by-clause-count
returns-then-goes_by-clause-count c =
    let found : IsTurnsOf c.args.all.now.items c.args.guard.now.own_var c.in-Some.index = subst (λ (ts : List Turns). IsTurnsOf ts c.args.guard.now.own_var c.in-Some.index) c.deref.ensures.value c.in-Some.ensures in
    inl (key_in loop_var c.args.all.now.items c.in-Some.index found.0 c.args.guard.now.own_var (get_stands c.args.all.now.items c.in-Some.index found.0 found.1) found.2, refl)

pub index_mut-requires : goal.index_mut-requires
index_mut-requires c =
    let found : IsTurnsOf c.args.all.now.items c.args.guard.now.own_var c.in-Some.index = subst (λ (ts : List Turns). IsTurnsOf ts c.args.guard.now.own_var c.in-Some.index) c.deref.ensures.value c.in-Some.ensures in
    let low = get_below c.args.all.now.items c.in-Some.index found.0 found.1 in
    omega (arith, low, c.args.all.now.ok.0)

pub returns-else-goes_by-clause-there : goal.returns-else-goes_by-clause-there
returns-else-goes_by-clause-there c =
    let found : IsTurnsOf c.args.all.now.items c.args.guard.now.own_var c.in-Some.index = subst (λ (ts : List Turns). IsTurnsOf ts c.args.guard.now.own_var c.in-Some.index) c.deref.ensures.value c.in-Some.ensures in
    let low = get_below c.args.all.now.items c.in-Some.index found.0 found.1 in
    let n = c.new.ensures in
    (c.new.result, get_set c.args.all.now.items c.in-Some.index c.new.result low, record { step = ap (λ (z : _). z.now) n.step; own = ap (λ (z : _). z.now) n.own; other = ap (λ (z : _). z.now) n.other })

pub returns-else-goes_by-clause-stays : goal.returns-else-goes_by-clause-stays
returns-else-goes_by-clause-stays c =
    let found : IsTurnsOf c.args.all.now.items c.args.guard.now.own_var c.in-Some.index = subst (λ (ts : List Turns). IsTurnsOf ts c.args.guard.now.own_var c.in-Some.index) c.deref.ensures.value c.in-Some.ensures in
    λ rows P h. are_set rows P c.args.all.now.items c.in-Some.index found.0 c.new.result found.1 (c.new.ensures.var ∙ sym found.2) h (c.new.ensures.stands rows P)

pub returns-else-goes_by-clause-count : goal.returns-else-goes_by-clause-count
returns-else-goes_by-clause-count c =
    let found : IsTurnsOf c.args.all.now.items c.args.guard.now.own_var c.in-Some.index = subst (λ (ts : List Turns). IsTurnsOf ts c.args.guard.now.own_var c.in-Some.index) c.deref.ensures.value c.in-Some.ensures in
    inl (
      key_in loop_var c.args.all.now.items c.in-Some.index found.0 c.args.guard.now.own_var (get_stands c.args.all.now.items c.in-Some.index found.0 found.1) found.2,
      vars_set c.args.all.now.items c.in-Some.index found.0 c.new.result found.1 (c.new.ensures.var ∙ sym found.2),
    )

pub returns-in_ok-push-in-None-clause-there : goal.returns-in_ok-push-in-None-clause-there
returns-in_ok-push-in-None-clause-there c =
    let n = c.new-in-None.ensures in
    let number : c.len-index.result ≡ length c.args.all.now.items = omega (arith, c.len-index.ensures, c.args.all.now.ok.0) in (
      c.new-in-None.result,
      ap (λ (ts : List Turns). slice_get ts c.len-index.result) c.in_ok-push-in-None.ensures.items ∙ (ap (λ (i : ℕ). slice_get (c.args.all.now.items ++ c.new-in-None.result ∷ []) i) number ∙ get_last c.args.all.now.items c.new-in-None.result),
      record { step = ap (λ (z : _). z.now) n.step; own = ap (λ (z : _). z.now) n.own; other = ap (λ (z : _). z.now) n.other },
    )

pub returns-in_ok-push-in-None-clause-stays : goal.returns-in_ok-push-in-None-clause-stays
returns-in_ok-push-in-None-clause-stays c =
    let ts = c.args.all.now.items in
    let x = c.args.guard.now.own_var in
    let t = c.new-in-None.result in
    let none : HasNoTurns ts x = subst (λ (zs : List Turns). HasNoTurns zs x) c.deref.ensures.value c.in-None.ensures in
    λ rows P h. subst (λ (zs : List Turns). TurnsStand rows P zs) (sym c.in_ok-push-in-None.ensures.items)
    (are_pushed rows P ts t (subst (λ (y : VarId). HasNoTurns ts y) (sym c.new-in-None.ensures.var) none) h (c.new-in-None.ensures.stands rows P))

pub returns-in_ok-push-in-None-clause-count : goal.returns-in_ok-push-in-None-clause-count
returns-in_ok-push-in-None-clause-count c =
    let ts = c.args.all.now.items in
    let x = c.args.guard.now.own_var in
    let t = c.new-in-None.result in
    let none : HasNoTurns ts x = subst (λ (zs : List Turns). HasNoTurns zs x) c.deref.ensures.value c.in-None.ensures in
    inr (none, ap (λ (zs : List Turns). map loop_var zs) c.in_ok-push-in-None.ensures.items ∙ (keys_push loop_var ts t ∙ ap (λ (y : VarId). map loop_var ts ++ y ∷ []) c.new-in-None.ensures.var))

pub returns-then-goes_by-clause-kept : goal.returns-then-goes_by-clause-kept
returns-then-goes_by-clause-kept c t e by = refl

pub returns-else-goes_by-clause-kept : goal.returns-else-goes_by-clause-kept
returns-else-goes_by-clause-kept c t e by =
    let same = same_get c.args.all.now.items c.in-Some.index t c.index.result.now e c.index.ensures in
    absurd (false≢true (sym c.if-goes_by.false ∙ c.goes_by.ensures.1 (subst (λ (z : Turns). GoesWith z c.args.step.now c.args.guard.now) (sym same) by)))

pub returns-in_ok-push-in-None-clause-kept : goal.returns-in_ok-push-in-None-clause-kept
returns-in_ok-push-in-None-clause-kept c t e by =
    let low = get_below c.args.all.now.items c.len-index.result t e in
    absurd (omega (arith, low, c.len-index.ensures, c.args.all.now.ok.0))
