use Rattle.std.proofs.Common.{◌≡◌, ℕ, get_or, ap, sym, ◌∙◌, arith}
use Rattle.std.proofs.lemmas.Bool.{eq-eqb, eqb-true, false≢true}
use Rattle.gcx_base.specs.declared.ids.VarId.{VarId}
use Rattle.cond_eval.proofs.Kept.{none_in, none_more}
use Rattle.pull_eval.specs.Turns.{loop_var}
use Rattle.pull_eval.specs.declared.turns.Turns.{Turns}
use Rattle.pull_eval.proofs.TurnsKept.{get_there}
use Rattle.pull_eval.proofs.leaps.find.Goals as goal

pub turns-preserved : goal.turns-preserved
turns-preserved c =
    let t = c.index-all-index.result in
    let u : Turns = get_or c.args.all.now c.turns.index t in
    let at : t ≡ u = c.index-all-index.is in
    none_more loop_var c.args.all.now c.turns.index t c.args.var (c.turns-test.true, at)
    (λ e. false≢true (c.if-eq.ensures ∙ eq-eqb u.var.0 c.args.var.0 (ap (λ (x : Turns). x.var.0) (sym at) ∙ ap (λ (x : VarId). x.0) e))) c.turns.invariant

pub returns-then-eq : goal.returns-then-eq
returns-then-eq c =
    let t = c.index-all-index.result in
    let u : Turns = get_or c.args.all.now c.turns.index t in
    let at : t ≡ u = c.index-all-index.is in
    let var : u.var ≡ c.args.var = ap (λ (n : ℕ). record { 0 = n }) (eqb-true u.var.0 c.args.var.0 (sym c.if-eq.ensures)) in
    (t, get_there c.args.all.now c.turns.index t c.turns-test.true at, ap (λ (x : Turns). x.var) at ∙ var)

pub returns : goal.returns
returns c = none_in loop_var c.args.all.now c.turns.index c.args.var (omega (arith, c.turns-test.false)) c.turns.invariant
