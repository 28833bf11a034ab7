use Rattle.std.proofs.Common.{ℕ, Option, Result, Err, subst, sym, ap, ◌∙◌}
use Rattle.std.proofs.lemmas.Result.{err_from_is_err_and}
use Rattle.doc_chars.specs.Stream.{optional}
use Rattle.doc_machine.specs.declared.stop.Stop.{Stop}
use Rattle.doc_reader.specs.Piece.{ReadTo}
use Rattle.doc_reader.proofs.machine.Machine.read_first.Goals as goal

pub returns-in_err-read_char-in-Some-clause-read : goal.returns-in_err-read_char-in-Some-clause-read
returns-in_err-read_char-in-Some-clause-read c =
    let p = err_from_is_err_and c.from_residual.result c.from_residual.ensures.1 in
    let s : Stop = c.in_err-read_char-in-Some.field-0.0 in
    let lim = c.args.limits in
    subst (λ (r : Result ℕ Stop). ReadTo r lim c.args.place c.args.self.now (optional c.args.first) c.read_char.new.self) (sym (p.1 ∙ ap Err p.2))
    (subst (λ (o : Option ℕ). ReadTo (Err s) lim c.args.place c.args.self.now (optional o) c.read_char.new.self) (sym c.in-Some.is) c.in_err-read_char-in-Some.ensures)
