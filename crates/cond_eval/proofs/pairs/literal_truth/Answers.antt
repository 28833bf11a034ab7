use Rattle.std.proofs.Common.{◌≡◌, List, [], ◌∷◌, sym, ap, ◌∙◌, subst}
use Rattle.std.specs.List.{filter}
use Rattle.gcx_model.specs.Tree.{serial_of, is_closed}
use Rattle.gcx_model.specs.Paths.{matches}
use Rattle.gcx_model.specs.Values.{compare}
use Rattle.gcx_model.specs.Answer.{some_pair}
use Rattle.gcx_model.specs.Truth.{settle}
use Rattle.cond_eval.specs.Literals.{literal_value}
use Rattle.cond_eval.specs.Comparing.{AreInUse, closed_values, Readable}
use Rattle.cond_eval.specs.declared.sets.Member.{Member}
use Rattle.cond_eval.proofs.Comparisons.{shut_told, closed_read}
use Rattle.cond_eval.proofs.pairs.literal_truth.Goals as goal

pub some_satisfies-requires-clause-used : goal.some_satisfies-requires-clause-used
some_satisfies-requires-clause-used g c = subst (λ (z : List Member). AreInUse c.args.buffer.now.rows z) (sym c.deref.ensures.value) c.in_ok-set.ensures.used

pub returns : goal.returns
returns g c P keep n at kn =
    let set = closed_read c.args.buffer.now.rows c.args.place.0 c.args.steps.now c.in_ok-set.set.items c.in_ok-set.ensures.closed P keep n at kn in
    let found : c.in_ok-found.found ≡ some_pair (compare c.args.rel) (closed_values P n c.args.steps.now) (literal_value c.args.literal.now ∷ []) =
    c.in_ok-found.ensures P keep (filter (is_closed P) (matches P (serial_of n) c.args.steps.now))
    (subst (λ (z : List Member). Readable c.args.buffer.now.rows P keep z (filter (is_closed P) (matches P (serial_of n) c.args.steps.now))) (sym c.deref.ensures.value) set) in
    c.settle.ensures ∙ (ap (λ b. settle b c.is_closed.result) found
    ∙ ap (settle (some_pair (compare c.args.rel) (closed_values P n c.args.steps.now) (literal_value c.args.literal.now ∷ []))) (shut_told c.args.buffer.now.rows c.args.place.0 c.is_closed.result c.is_closed.ensures P keep n at))
