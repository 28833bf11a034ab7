use Rattle.std.proofs.Common.{◌≡◌, ◌++◌, ℕ, List, subst}
use Rattle.std.specs.Prelude.{OnErr, OnOk}
use Rattle.gcx_model.specs.Demand.{text_of_lines}
use Rattle.buf_tree.specs.Rows.{serials}
use Rattle.run_part.specs.Telling.{GrewPart, told_lines}
use Rattle.run_part.proofs.lines.TraceLines.tell_token.Goals as goal

pub returns-clause-told : goal.returns-clause-told
returns-clause-told c =
    subst (λ (z : List ℕ). OnOk c.put_token.result (c.put_token.new.trace.items ≡ z ++ text_of_lines (told_lines c.args.fed c.args.kind (serials c.args.gone.now)))) c.self.view_is c.put_token.ensures.told

pub returns-clause-part : goal.returns-clause-part
returns-clause-part c =
    subst (λ (z : List ℕ). OnErr c.put_token.result (GrewPart z c.put_token.new.trace.items (text_of_lines (told_lines c.args.fed c.args.kind (serials c.args.gone.now))))) c.self.view_is c.put_token.ensures.part
