use Rattle.std.proofs.Common.{List, Option, Some, None, refl, sym, subst, arith}
use Rattle.gcx_model.specs.declared.item.Item.{Item}
use Rattle.gcx_model.specs.Core.{For}
use Rattle.pull_eval.specs.Position.{items}
use Rattle.pull_eval.specs.Acting.{IsNextItem}
use Rattle.pull_eval.specs.Leaps.{FirstIn, EntersAt}
use Rattle.node_store.specs.declared.store.Place.{Place}
use Rattle.pull_eval.specs.Rounds.{Began}
use Rattle.pull_eval.specs.declared.block.Next.TheVariants.{Unsought}
use Rattle.pull_eval.specs.declared.block.Round.{Round}
use Rattle.pull_eval.specs.declared.block.Block.{Block}
use Rattle.pull_eval.specs.declared.machine.Acted.{Acted}
use Rattle.pull_eval.specs.declared.position.Position.{Position}
use Rattle.pull_eval.proofs.Finding.{ok_none}
use Rattle.pull_eval.proofs.NextMatches.{row_below}
use Rattle.pull_eval.proofs.RoundMoves.{context_there, context_used}
use Rattle.pull_eval.proofs.LoopEntry.{enters, enters_from, first_at, passes, waits_there}
use Rattle.pull_eval.proofs.position.Position.enter_at.Goals as goal

pub place_of-context-requires : goal.place_of-context-requires
place_of-context-requires g c =
    let q = c.requires.first in
    context_there c.args.self.now c.args.buffer.now q.0 q.1 q.2 c.requires.begun c.args.for_loop.var.0 c.args.from.0 c.args.for_loop.step.now (items c.args.for_loop.body.now) (items c.args.rest.now) c.requires.next

pub begin_round-requires-clause-goes : goal.begin_round-requires-clause-goes
begin_round-requires-clause-goes g c =
    let q = c.requires.first in
    let r : Round = record { var = c.args.for_loop.var; step = c.args.for_loop.step; body = c.args.for_loop.body; context = c.place_of-context.result; present = c.in-Some.place; next = Unsought } in
    let after : Block = record { rest = c.args.rest; round = None; seen = 0 } in
    enters_from c.args.self.now c.args.buffer.now q.0 q.1 q.2 c.requires.begun r c.args.from.0 after c.requires.next c.place_of-context.result.0 c.place_of-context.ensures c.in-Some.place
    (first_at c.args.self.now c.args.buffer.now q.0 q.1 q.2 c.requires.begun r c.args.from.0 after c.requires.next (Some c.in-Some.place)
    (subst (λ (z : Option Place). FirstIn q.0.tree c.args.buffer.now.rows q.2.position.fs c.args.for_loop.var.0 c.args.from.0 c.args.for_loop.step.now (items c.args.for_loop.body.now) (items c.args.rest.now) z) c.in-Some.is q.3))

pub begin_round-requires-clause-some : goal.begin_round-requires-clause-some
begin_round-requires-clause-some g c =
    let q = c.requires.first in
    let u = context_used c.args.self.now c.args.buffer.now q.0 q.1 q.2 c.requires.begun c.args.for_loop.var.0 c.args.from.0 c.args.for_loop.step.now (items c.args.for_loop.body.now) (items c.args.rest.now) c.requires.next
    c.place_of-context.result.0 c.place_of-context.ensures in
    let l = row_below c.args.buffer.now q.0 q.2.buffer u.cell u.among in
    omega arith

pub returns-in_ok-push-in-Some-clause-moved : goal.returns-in_ok-push-in-Some-clause-moved
returns-in_ok-push-in-Some-clause-moved g c =
    let w = c.args.self.now in
    let v = c.args.buffer.now in
    let after : Block = c.go_on.new.self in
    let mid : Position = record c.args.self.now { top = c.go_on.new.self; below = c.push.new.self } in
    let r : Round = record { var = c.args.for_loop.var; step = c.args.for_loop.step; body = c.args.for_loop.body; context = c.place_of-context.result; present = c.in-Some.place; next = Unsought } in
    let next : IsNextItem w (For c.args.for_loop.var.0 c.args.from.0 c.args.for_loop.step.now (items c.args.for_loop.body.now)) (items after.rest.now) =
    subst (λ (z : List Item). IsNextItem c.args.self.now (For c.args.for_loop.var.0 c.args.from.0 c.args.for_loop.step.now (items c.args.for_loop.body.now)) (items z)) (sym c.go_on.ensures.rest) c.requires.next in
    ok_none c.begin_round.result (Began v mid c.begin_round.new.self r)
    (λ (a : Option Acted). EntersAt w c.begin_round.new.self v c.args.for_loop.var.0 c.args.from.0 c.args.for_loop.step.now (items c.args.for_loop.body.now) (items c.args.rest.now) c.args.first a)
    c.begin_round.ensures.began
    (λ began past k out b f. enters w v past k b c.requires.begun r c.args.from.0 after next mid c.begin_round.new.self
    (record { round = c.go_on.ensures.round; seen = c.go_on.ensures.seen; below = c.in_ok-push-in-Some.ensures.items; env = refl; copying = refl; turns = refl; is_begun = refl }) began c.place_of-context.ensures
    (first_at w v past k b c.requires.begun r c.args.from.0 after next (Some c.in-Some.place)
    (subst (λ (z : List Item). FirstIn past.tree v.rows b.position.fs c.args.for_loop.var.0 c.args.from.0 c.args.for_loop.step.now (items c.args.for_loop.body.now) (items z) (Some c.in-Some.place)) (sym c.go_on.ensures.rest)
    (subst (λ (z : Option Place). FirstIn past.tree v.rows b.position.fs c.args.for_loop.var.0 c.args.from.0 c.args.for_loop.step.now (items c.args.for_loop.body.now) (items c.args.rest.now) z) c.in-Some.is f))) out)

pub is_closed-requires : goal.is_closed-requires
is_closed-requires g c =
    let q = c.requires.first in
    context_used c.args.self.now c.args.buffer.now q.0 q.1 q.2 c.requires.begun c.args.for_loop.var.0 c.args.from.0 c.args.for_loop.step.now (items c.args.for_loop.body.now) (items c.args.rest.now) c.requires.next
    c.place_of-context.result.0 c.place_of-context.ensures

pub returns-then-is_closed-clause-moved : goal.returns-then-is_closed-clause-moved
returns-then-is_closed-clause-moved g c = λ past k out b f.
    (let w = c.args.self.now in
    let after : Block = c.go_on-then-is_closed.new.self in
    let n : Position = record c.args.self.now { top = c.go_on-then-is_closed.new.self } in
    let r : Round = record { var = c.args.for_loop.var; step = c.args.for_loop.step; body = c.args.for_loop.body; context = c.place_of-context.result; present = c.place_of-context.result; next = Unsought } in
    let next : IsNextItem w (For c.args.for_loop.var.0 c.args.from.0 c.args.for_loop.step.now (items c.args.for_loop.body.now)) (items after.rest.now) =
    subst (λ (z : List Item). IsNextItem c.args.self.now (For c.args.for_loop.var.0 c.args.from.0 c.args.for_loop.step.now (items c.args.for_loop.body.now)) (items z)) (sym c.go_on-then-is_closed.ensures.rest) c.requires.next in
    passes w c.args.buffer.now past k b c.requires.begun r c.args.from.0 after next n refl c.go_on-then-is_closed.ensures.round c.go_on-then-is_closed.ensures.seen refl refl refl refl refl
    c.place_of-context.result.0 c.is_closed.result c.place_of-context.ensures
    (first_at w c.args.buffer.now past k b c.requires.begun r c.args.from.0 after next None
    (subst (λ (z : List Item). FirstIn past.tree c.args.buffer.now.rows b.position.fs c.args.for_loop.var.0 c.args.from.0 c.args.for_loop.step.now (items c.args.for_loop.body.now) (items z) None) (sym c.go_on-then-is_closed.ensures.rest)
    (subst (λ (z : Option Place). FirstIn past.tree c.args.buffer.now.rows b.position.fs c.args.for_loop.var.0 c.args.from.0 c.args.for_loop.step.now (items c.args.for_loop.body.now) (items c.args.rest.now) z) c.in-None.is f)))
    c.is_closed.ensures c.if-is_closed.true out)

pub newest-seen-requires : goal.newest-seen-requires
newest-seen-requires g c =
    let q = c.requires.first in
    let u = context_used c.args.self.now c.args.buffer.now q.0 q.1 q.2 c.requires.begun c.args.for_loop.var.0 c.args.from.0 c.args.for_loop.step.now (items c.args.for_loop.body.now) (items c.args.rest.now) c.requires.next
    c.place_of-context.result.0 c.place_of-context.ensures in
    let l = row_below c.args.buffer.now q.0 q.2.buffer u.cell u.among in
    omega arith

pub returns-else-is_closed-clause-moved : goal.returns-else-is_closed-clause-moved
returns-else-is_closed-clause-moved g c = λ past k out b f.
    (let w = c.args.self.now in
    let after : Block = record { rest = c.args.rest; round = None; seen = 0 } in
    let n : Position = record c.args.self.now { top = record c.args.self.now.top { seen = c.newest-seen.result.0 } } in
    let r : Round = record { var = c.args.for_loop.var; step = c.args.for_loop.step; body = c.args.for_loop.body; context = c.place_of-context.result; present = c.place_of-context.result; next = Unsought } in
    waits_there w c.args.buffer.now past k b c.requires.begun r c.args.from.0 after c.requires.next n c.newest-seen.result.0 refl c.newest-seen.ensures refl refl refl refl refl
    c.place_of-context.result.0 c.is_closed.result c.place_of-context.ensures
    (first_at w c.args.buffer.now past k b c.requires.begun r c.args.from.0 after c.requires.next None
    (subst (λ (z : Option Place). FirstIn past.tree c.args.buffer.now.rows b.position.fs c.args.for_loop.var.0 c.args.from.0 c.args.for_loop.step.now (items c.args.for_loop.body.now) (items c.args.rest.now) z) c.in-None.is f))
    c.is_closed.ensures c.if-is_closed.false out)
