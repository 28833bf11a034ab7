use Rattle.std.proofs.Common.{◌≡◌, Some, subst, rules}
use Rattle.std.specs.Prelude.{IfSome}
use Rattle.raw_nodes.specs.Spots.{IsInSomeBlock}
use Rattle.raw_nodes.proofs.maybe_link.MaybeLink.of.Goals as goal

pub to-requires : goal.to-requires
to-requires c =
    let is : c.args.link ≡ Some c.in-Some.link = search rules in
    subst (λ o. IfSome o (λ l. IsInSomeBlock l.ptr)) is c.requires
