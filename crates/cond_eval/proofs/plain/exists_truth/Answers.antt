use Rattle.std.proofs.Common.{vec_len, ap, ◌∙◌, arith}
use Rattle.gcx_model.specs.Tree.{serial_of}
use Rattle.gcx_model.specs.Paths.{matches}
use Rattle.gcx_model.specs.Answer.{is_any}
use Rattle.gcx_model.specs.Truth.{settle}
use Rattle.cond_eval.proofs.Comparisons.{not_empty, some_reached, shut_told}
use Rattle.cond_eval.proofs.plain.exists_truth.Goals as goal

pub returns : goal.returns
returns g c P keep n at first =
    c.settle.ensures
    ∙ (ap (λ b. settle b c.is_closed.result)
    (not_empty c.in_ok-set.set.items (vec_len c.in_ok-set.set) c.is_empty.result (omega (arith, c.in_ok-set.set.ok.0)) c.is_empty.ensures
    ∙ some_reached c.args.buffer.now.rows c.args.place.0 c.args.steps.now c.in_ok-set.set.items c.in_ok-set.ensures P keep n at first)
    ∙ ap (settle (is_any (matches P (serial_of n) c.args.steps.now))) (shut_told c.args.buffer.now.rows c.args.place.0 c.is_closed.result c.is_closed.ensures P keep n at))
