use Rattle.std.proofs.Common.{ℕ, Option, subst}
use Rattle.std.specs.Prelude.{IfSome}
use Rattle.matcher.specs.Calls.{GivesCount}
use Rattle.projector.proofs.Entered.{entered_plainly, may_open_kept}
use Rattle.projector.proofs.projector.open_entered.Goals as goal

pub open_kept-requires-clause-spread : goal.open_kept-requires-clause-spread
open_kept-requires-clause-spread g c =
    may_open_kept c.args.matcher.now c.args.buffer.now c.args.kind c.requires.kind c.plain_sets.result.0.now c.plain_sets.result.1.now c.in-Some.count
    (c.plain_sets.ensures c.in-Some.count (subst (λ (o : Option ℕ). IfSome o (GivesCount c.args.matcher.now)) c.in-Some.is c.requires.plain)) c.requires.may

pub returns-in_ok-place-in-Some-clause-opens : goal.returns-in_ok-place-in-Some-clause-opens
returns-in_ok-place-in-Some-clause-opens g c =
    entered_plainly c.args.matcher.now c.args.buffer.now c.open_kept.new.self c.args.parent.0 c.args.kind c.in_ok-place-in-Some.place c.plain_sets.result.0.now c.plain_sets.result.1.now c.in-Some.count
    (c.plain_sets.ensures c.in-Some.count (subst (λ (o : Option ℕ). IfSome o (GivesCount c.args.matcher.now)) c.in-Some.is c.requires.plain))
    c.in_ok-place-in-Some.ensures.opened c.in_ok-place-in-Some.ensures.stands
