use Rattle.std.proofs.Common.{ap, sym, ◌∙◌, ◌&&◌, ◌==◌}
use Rattle.std.specs.FinSet as set
use Rattle.buf_tree.proofs.Keeping.{bare_len}
use Rattle.buf_tree.proofs.row.is_bare.Goals as goal

pub returns : goal.returns
returns c roles h = bare_len _ roles h ∙ ap (λ b. b && (set.len roles == 0)) (sym c.if-not-is_text.false ∙ c.is_text.ensures)
