use Rattle.std.proofs.Common.{◌∷◌, [], map}
use Rattle.gcx_model.specs.Demand.{Left, text_of_lines}
use Rattle.buf_trace.specs.Lines.{kind_tree}
use Rattle.buf_tree.specs.Rows.{serials}
use Rattle.run_part.specs.Telling.{GrewPart, fed_line, told_lines}
use Rattle.run_part.proofs.Acting.{on_err}
use Rattle.run_part.proofs.Telling.{lines_behind, lines_on, part_none}
use Rattle.run_part.proofs.lines.put_token.Goals as goal

pub returns-in_err-put_fed-clause-part : goal.returns-in_err-put_fed-clause-part
returns-in_err-put_fed-clause-part c =
    let u = c.args.trace.now.items in
    let v = c.put_fed.new.trace.items in
    let h : GrewPart u v (text_of_lines (told_lines c.args.fed c.args.kind (serials c.args.gone.now))) = part_none u v (text_of_lines (told_lines c.args.fed c.args.kind (serials c.args.gone.now))) c.in_err-put_fed.ensures.err in
    on_err _ _ h

pub returns-in_err-put_gone-clause-part : goal.returns-in_err-put_gone-clause-part
returns-in_err-put_gone-clause-part c =
    let u = c.args.trace.now.items in
    let v = c.put_gone.new.trace.items in
    let h : GrewPart u v (text_of_lines (told_lines c.args.fed c.args.kind (serials c.args.gone.now)))
    = lines_behind u c.put_fed.new.trace.items v (fed_line c.args.fed (kind_tree c.args.kind) ∷ []) (map Left (serials c.args.gone.now)) c.in_ok-put_fed.ensures.ok c.in_err-put_gone.ensures.part in
    on_err _ _ h

pub returns-clause-told : goal.returns-clause-told
returns-clause-told c =
    lines_on c.args.trace.now.items c.put_fed.new.trace.items c.put_gone.new.trace.items (fed_line c.args.fed (kind_tree c.args.kind) ∷ []) (map Left (serials c.args.gone.now)) c.in_ok-put_fed.ensures.ok c.in_ok-put_gone.ensures.ok
