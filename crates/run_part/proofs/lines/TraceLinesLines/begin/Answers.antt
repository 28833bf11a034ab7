use Rattle.std.proofs.Common.{◌≡◌, ◌++◌, ℕ, List, true, subst}
use Rattle.std.specs.Prelude.{OnOk}
use Rattle.gcx_base.specs.declared.ids.Role.{Role}
use Rattle.run_part.specs.Telling.{document_text}
use Rattle.run_part.proofs.Results.{ok_map}
use Rattle.run_part.proofs.lines.TraceLinesLines.begin.Goals as goal

pub returns-clause-opened : goal.returns-clause-opened
returns-clause-opened c =
    let v = c.put_opened.new.trace.items in
    let text = document_text c.args.given.now in
    let is = subst (λ (g : List Role). OnOk c.put_opened.result (v ≡ c.self.inside.text.items ++ document_text g)) c.in_ok-roles.ensures c.put_opened.ensures.ok in
    let h = subst (λ (z : List ℕ). OnOk c.put_opened.result (v ≡ z ++ text)) c.self.view_is is in
    ok_map c.put_opened.result (λ (e : v ≡ c.args.self.now ++ text) (wanted : true ≡ true). e) h
