use Rattle.std.proofs.Common.{rules, ◌≡◌, ◌^◌, Some, ap, sym, ◌∙◌}
use Rattle.std.specs.Prelude.{option_map, pos, ◌*ℤ◌}
use Rattle.std.specs.Ordering.{int_cmp}
use Rattle.gcx_model.specs.Values.{against}
use Rattle.xq_values.proofs.Wholes.{number_of_whole, against_whole}
use Rattle.xq_values.proofs.number.compare_number.Goals as goal

pub returns-in-Some : goal.returns-in-Some
returns-in-Some c =
    let compared : c.compare_whole.result ≡ int_cmp (pos c.in-Some.whole *ℤ pos (10 ^ 18)) c.args.units = search rules in
    ap Some (compared ∙ against_whole c.args.value.now c.in-Some.whole c.args.units c.in-Some.ensures)
    ∙ ap (option_map (λ d. against d c.args.units)) (sym (number_of_whole c.args.value.now c.in-Some.whole c.in-Some.ensures))
