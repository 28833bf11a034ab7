use Rattle.pull_eval.specs.Position.{items}
use Rattle.pull_eval.specs.declared.block.Next.TheVariants.{Unsought}
use Rattle.pull_eval.specs.declared.block.Round.{Round}
use Rattle.pull_eval.specs.declared.block.Block.{Block}
use Rattle.std.proofs.Common.{None, subst}
use Rattle.pull_eval.specs.Leaps.{LeapsTo}
use Rattle.pull_eval.specs.declared.turns.Leap.{Leap}
use Rattle.pull_eval.proofs.NextMatches.{row_below}
use Rattle.pull_eval.proofs.RoundMoves.{context_there, context_used}
use Rattle.pull_eval.proofs.LoopEntry.{loop_at, first_stays, first_leaps, first_is_none}
use Rattle.pull_eval.proofs.position.Position.first_there.Goals as goal

pub place_of-context-requires : goal.place_of-context-requires
place_of-context-requires g c =
    let q = c.requires.beside in
    context_there c.args.self.now c.args.buffer.now q.0 q.1 q.2 c.requires.begun c.args.for_loop.var.0 c.args.from.0 c.args.for_loop.step.now (items c.args.for_loop.body.now) (items c.args.rest.now) c.requires.next

pub leap-requires-clause-no_copy : goal.leap-requires-clause-no_copy
leap-requires-clause-no_copy g c = c.requires.next.no_copy

pub leap-requires-clause-used : goal.leap-requires-clause-used
leap-requires-clause-used g c =
    let q = c.requires.beside in
    context_used c.args.self.now c.args.buffer.now q.0 q.1 q.2 c.requires.begun c.args.for_loop.var.0 c.args.from.0 c.args.for_loop.step.now (items c.args.for_loop.body.now) (items c.args.rest.now) c.requires.next
    c.place_of-context.result.0 c.place_of-context.ensures

pub leap-requires-clause-there : goal.leap-requires-clause-there
leap-requires-clause-there g c =
    let q = c.requires.beside in
    let r : Round = record { var = c.args.for_loop.var; step = c.args.for_loop.step; body = c.args.for_loop.body; context = c.place_of-context.result; present = c.place_of-context.result; next = Unsought } in
    let after : Block = record { rest = c.args.rest; round = None; seen = 0 } in
    (q.0, q.1, q.2, loop_at c.args.self.now c.args.buffer.now q.0 q.1 q.2 c.requires.begun r c.args.from.0 after c.requires.next c.place_of-context.result.0 c.place_of-context.ensures)

pub first_match-requires-clause-used : goal.first_match-requires-clause-used
first_match-requires-clause-used g c =
    let q = c.requires.beside in
    context_used c.args.self.now c.args.buffer.now q.0 q.1 q.2 c.requires.begun c.args.for_loop.var.0 c.args.from.0 c.args.for_loop.step.now (items c.args.for_loop.body.now) (items c.args.rest.now) c.requires.next
    c.place_of-context.result.0 c.place_of-context.ensures

pub first_match-requires-clause-below : goal.first_match-requires-clause-below
first_match-requires-clause-below g c = let q = c.requires.beside in row_below c.args.buffer.now q.0 q.2.buffer

pub returns-in-Stay-clause-first : goal.returns-in-Stay-clause-first
returns-in-Stay-clause-first g c = λ past k b.
    (let r : Round = record { var = c.args.for_loop.var; step = c.args.for_loop.step; body = c.args.for_loop.body; context = c.place_of-context.result; present = c.place_of-context.result; next = Unsought } in
    let after : Block = record { rest = c.args.rest; round = None; seen = 0 } in
    first_stays c.args.self.now c.args.buffer.now past k b c.requires.begun r c.args.from.0 after c.requires.next c.place_of-context.result.0 c.place_of-context.ensures c.leap.new.self (subst (λ (l : Leap). LeapsTo c.args.self.now c.leap.new.self c.args.buffer.now c.args.for_loop.var.0 c.args.for_loop.step.now (items c.args.for_loop.body.now) c.place_of-context.result.0 None l) c.in-Stay.is c.in_ok-leap.ensures.leaps) c.first_match.result c.first_match.ensures)

pub returns-in-To-clause-first : goal.returns-in-To-clause-first
returns-in-To-clause-first g c = λ past k b.
    (let r : Round = record { var = c.args.for_loop.var; step = c.args.for_loop.step; body = c.args.for_loop.body; context = c.place_of-context.result; present = c.place_of-context.result; next = Unsought } in
    let after : Block = record { rest = c.args.rest; round = None; seen = 0 } in
    first_leaps c.args.self.now c.args.buffer.now past k b c.requires.begun r c.args.from.0 after c.requires.next c.place_of-context.result.0 c.place_of-context.ensures c.leap.new.self c.in-To.place (subst (λ (l : Leap). LeapsTo c.args.self.now c.leap.new.self c.args.buffer.now c.args.for_loop.var.0 c.args.for_loop.step.now (items c.args.for_loop.body.now) c.place_of-context.result.0 None l) c.in-To.is c.in_ok-leap.ensures.leaps))

pub returns-in-Over-clause-first : goal.returns-in-Over-clause-first
returns-in-Over-clause-first g c = λ past k b.
    (let r : Round = record { var = c.args.for_loop.var; step = c.args.for_loop.step; body = c.args.for_loop.body; context = c.place_of-context.result; present = c.place_of-context.result; next = Unsought } in
    let after : Block = record { rest = c.args.rest; round = None; seen = 0 } in
    first_is_none c.args.self.now c.args.buffer.now past k b c.requires.begun r c.args.from.0 after c.requires.next c.place_of-context.result.0 c.place_of-context.ensures c.leap.new.self (subst (λ (l : Leap). LeapsTo c.args.self.now c.leap.new.self c.args.buffer.now c.args.for_loop.var.0 c.args.for_loop.step.now (items c.args.for_loop.body.now) c.place_of-context.result.0 None l) c.in-Over.is c.in_ok-leap.ensures.leaps))
