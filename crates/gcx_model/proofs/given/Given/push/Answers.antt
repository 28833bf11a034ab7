use Rattle.std.proofs.Common.{List, subst, sym}
use Rattle.gcx_base.specs.declared.ids.Role.{Role}
use Rattle.gcx_model.specs.Given.{IsAboveLast}
use Rattle.gcx_model.proofs.Rising.{rising_push}
use Rattle.gcx_model.proofs.given.Given.push.Goals as goal

pub invariant_of-self-2 : goal.invariant_of-self-2
invariant_of-self-2 c =
    let P : List Role → Type 0 = λ roles. IsAboveLast roles c.args.role in
    rw c.in_ok-push.ensures.ok (rising_push _ _ c.self.invariant (subst P (sym c.self.view_is) c.requires))
