use Rattle.std.proofs.Common.{◌≡◌, ◌&&◌, List, sym, ap, ◌∙◌, subst}
use Rattle.std.specs.List.{filter}
use Rattle.gcx_model.specs.Tree.{serial_of, is_closed}
use Rattle.gcx_model.specs.Paths.{matches}
use Rattle.gcx_model.specs.Values.{compare}
use Rattle.gcx_model.specs.Answer.{some_pair}
use Rattle.gcx_model.specs.Truth.{settle}
use Rattle.cond_eval.specs.Comparing.{AreInUse, closed_values, Readable}
use Rattle.cond_eval.specs.declared.sets.Member.{Member}
use Rattle.cond_eval.proofs.Comparisons.{row_used, shut_told, closed_read, both_shut, one_open}
use Rattle.cond_eval.proofs.pairs.paths_truth.Goals as goal
use Rattle.cond_eval.proofs.pairs.paths_truth.Goals.{then-is_closed, else-is_closed}

pub some_pair_satisfies-requires-clause-lefts : goal.some_pair_satisfies-requires-clause-lefts
some_pair_satisfies-requires-clause-lefts g c = subst (λ (z : List Member). AreInUse c.args.buffer.now.rows z) (sym c.deref.ensures.value) c.in_ok-lefts.ensures.used

pub some_pair_satisfies-requires-clause-rights : goal.some_pair_satisfies-requires-clause-rights
some_pair_satisfies-requires-clause-rights g c = subst (λ (z : List Member). AreInUse c.args.buffer.now.rows z) (sym c.deref-2.ensures.value) c.in_ok-rights.ensures.used

pub is_closed-requires : goal.is_closed-requires
is_closed-requires g c = row_used c.args.buffer.now.rows c.args.left.0 c.requires.left

pub is_closed-requires-then-is_closed : goal.is_closed-requires-then-is_closed
is_closed-requires-then-is_closed g c = row_used c.args.buffer.now.rows c.args.right.0 c.requires.right

pub returns : goal.returns
returns g c P keep n m at bt kn km =
    let lefts = closed_read c.args.buffer.now.rows c.args.left.0 c.args.left_steps.now c.in_ok-lefts.lefts.items c.in_ok-lefts.ensures.closed P keep n at kn in
    let rights = closed_read c.args.buffer.now.rows c.args.right.0 c.args.right_steps.now c.in_ok-rights.rights.items c.in_ok-rights.ensures.closed P keep m bt km in
    let found : c.in_ok-found.found ≡ some_pair (compare c.args.rel) (closed_values P n c.args.left_steps.now) (closed_values P m c.args.right_steps.now) =
    c.in_ok-found.ensures P keep (filter (is_closed P) (matches P (serial_of n) c.args.left_steps.now)) (filter (is_closed P) (matches P (serial_of m) c.args.right_steps.now))
    (subst (λ (z : List Member). Readable c.args.buffer.now.rows P keep z (filter (is_closed P) (matches P (serial_of n) c.args.left_steps.now))) (sym c.deref.ensures.value) lefts)
    (subst (λ (z : List Member). Readable c.args.buffer.now.rows P keep z (filter (is_closed P) (matches P (serial_of m) c.args.right_steps.now))) (sym c.deref-2.ensures.value) rights) in
    let over : c.if-is_closed.settle ≡ (is_closed P n && is_closed P m) = elim c.if-is_closed.branch [
      | then-is_closed w ↦
          both_shut c.if-is_closed.settle c.is_closed.result w.is_closed-then-is_closed.result (is_closed P n) (is_closed P m) w.if-is_closed.true w.settle-is
          (shut_told c.args.buffer.now.rows c.args.left.0 c.is_closed.result c.is_closed.ensures P keep n at) (shut_told c.args.buffer.now.rows c.args.right.0 w.is_closed-then-is_closed.result w.is_closed-then-is_closed.ensures P keep m bt)
      | else-is_closed w ↦
          one_open c.if-is_closed.settle c.is_closed.result (is_closed P n) (is_closed P m) w.if-is_closed.false (w.settle-is ∙ w.if-is_closed.false) (shut_told c.args.buffer.now.rows c.args.left.0 c.is_closed.result c.is_closed.ensures P keep n at)
    ] in
    c.settle.ensures ∙ (ap (λ b. settle b c.if-is_closed.settle) found ∙ ap (settle (some_pair (compare c.args.rel) (closed_values P n c.args.left_steps.now) (closed_values P m c.args.right_steps.now))) over)
