use Rattle.std.proofs.Common.{ℕ, List, [], ◌∷◌, refl, subst}
use Rattle.trace_check.specs.Telling.{IsTelling, Puts, line_in}
use Rattle.trace_check.specs.declared.telling.Told.{Told}
use Rattle.trace_check.proofs.TokensTold.{telling_none, whole_told}
use Rattle.trace_check.proofs.telling.text_of.Goals as goal

pub returns : goal.returns
returns c plan ts is =
    let none : Told = record { acts = 0; signed = 0; opened = 0 } in
    let start : IsTelling plan c.args.course.now 0 none = telling_none plan c.args.course.now none refl refl in
    let first : Puts [] c.put_opened.new.text.items (line_in plan c.args.course.now 0 ∷ [])
    = subst (λ (t : List ℕ). Puts t c.put_opened.new.text.items (line_in plan c.args.course.now 0 ∷ [])) c.new-text.ensures.items (c.in_ok-put_opened.ensures plan ts is) in
    whole_told plan ts c.args.course.now is [] c.put_opened.new.text.items c.put_acts.new.text.items c.put_tokens.new.text.items first
    (c.in_ok-put_acts.ensures.puts plan ts is start) (c.in_ok-put_tokens.ensures plan ts is (c.in_ok-put_acts.ensures.told plan ts is start))
