use Rattle.std.proofs.Common.{List, sym, subst, arith}
use borrow.Author.Tests.{ltb-true, ltb-false}
use Rattle.gcx_base.specs.declared.ids.Role.{Role}
use Rattle.gcx_model.specs.Given.{IsAboveLast}
use Rattle.path_states.proofs.Climbing.{above_from, above_to}
use Rattle.matcher.proofs.roles.is_above.Goals as goal

pub returns-in-Some-clause-yes : goal.returns-in-Some-clause-yes
returns-in-Some-clause-yes c = λ h. subst (λ (xs : List Role). IsAboveLast xs c.args.role) c.items.ensures.same
    (above_from c.items.result.now c.in-Some.last.now c.args.role c.in-Some.ensures.item.3.0 c.in-Some.ensures.item.1 (ltb-true c.in-Some.last.now.0 c.args.role.0 h))

pub returns-in-Some-clause-no : goal.returns-in-Some-clause-no
returns-in-Some-clause-no c = λ h k.
    let l = above_to c.items.result.now c.in-Some.last.now c.args.role c.in-Some.ensures.item.3.0 c.in-Some.ensures.item.1 (subst (λ (xs : List Role). IsAboveLast xs c.args.role) (sym c.items.ensures.same) k) in
    let m = ltb-false c.in-Some.last.now.0 c.args.role.0 h in
    omega arith
