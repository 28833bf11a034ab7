use Rattle.std.proofs.Common.{◌≡◌, ◌++◌, ℕ, List, true, map, refl, subst}
use Rattle.std.specs.Prelude.{OnErr, OnOk}
use Rattle.gcx_model.specs.Demand.{Left, text_of_lines}
use Rattle.buf_tree.specs.Rows.{serials}
use Rattle.run_part.specs.Telling.{GrewPart, acted_lines}
use Rattle.run_part.proofs.Results.{err_map, ok_map}
use Rattle.run_part.proofs.lines.TraceLinesLines.tell.Goals as goal

pub returns-clause-told : goal.returns-clause-told
returns-clause-told c =
    let v = c.put_acted.new.trace.items in
    let text = text_of_lines (acted_lines c.args.acted ++ map Left (serials c.args.gone.now)) in
    let h = subst (λ (z : List ℕ). OnOk c.put_acted.result (v ≡ z ++ text)) c.self.view_is c.put_acted.ensures.told in
    ok_map c.put_acted.result (λ (e : v ≡ c.args.self.now ++ text) (wanted : true ≡ true). e) h

pub returns-clause-part : goal.returns-clause-part
returns-clause-part c =
    let v = c.put_acted.new.trace.items in
    let text = text_of_lines (acted_lines c.args.acted ++ map Left (serials c.args.gone.now)) in
    let h = subst (λ (z : List ℕ). OnErr c.put_acted.result (GrewPart z v text)) c.self.view_is c.put_acted.ensures.part in
    err_map c.put_acted.result (λ (e : GrewPart c.args.self.now v text). (refl, e)) h
