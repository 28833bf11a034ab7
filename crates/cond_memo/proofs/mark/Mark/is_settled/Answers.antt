use Rattle.std.proofs.Common.{Option, sym, ◌∙◌, ap}
use Rattle.cond_memo.specs.Marks.{is_settled}
use Rattle.cond_memo.specs.declared.mark.Ask.{Ask}
use Rattle.cond_eval.proofs.Rows.{closed_told, at_node}
use Rattle.cond_memo.proofs.mark.Mark.is_settled.Goals as goal

pub returns-in-Some : goal.returns-in-Some
returns-in-Some g c P keep m a =
    c.is_closed.ensures a.cell a.cell_among a.at ∙ (closed_told c.args.buffer.now.rows P keep a.rows_of a.cell m (at_node c.args.buffer.now.rows P keep c.args.place.0 m a) ∙ sym (ap (λ (o : Option Ask). is_settled P o m) c.in-Some.is))
