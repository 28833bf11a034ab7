use Rattle.std.proofs.Common.{List, ℕ, Option, sym, ◌∙◌, ap, subst}
use Rattle.gcx_model.specs.Values.{Bytes, compare}
use Rattle.cond_memo.specs.Marks.{does, KeepsValue}
use Rattle.cond_eval.specs.Literals.{literal_value}
use Rattle.cond_memo.specs.declared.mark.Ask.{Ask}
use Rattle.cond_memo.proofs.mark.Mark.does.Goals as goal

pub returns-in_ok-left-in-Some : goal.returns-in_ok-left-in-Some
returns-in_ok-left-in-Some g c P keep m at kept =
    let ask = c.in-Some.ask in
    let whole = subst (λ (o : Option Ask). KeepsValue P keep o m) c.in-Some.is kept in
    c.satisfies.ensures ∙ ap (λ (v : List ℕ). compare ask.rel (Bytes v) (literal_value ask.literal)) (c.in_ok-left-in-Some.ensures.value P keep m at whole) ∙ sym (ap (λ (o : Option Ask). does P o m) c.in-Some.is)
