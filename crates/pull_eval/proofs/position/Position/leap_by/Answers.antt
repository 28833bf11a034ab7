use Rattle.std.proofs.Common.{List, inl, inr, refl, sym, ◌∙◌, ap, subst, arith}
use Rattle.pull_eval.specs.Position.{items}
use Rattle.pull_eval.specs.Leaps.{Looks}
use Rattle.pull_eval.specs.declared.turns.Turns.{Turns}
use Rattle.pull_eval.proofs.AtLoops.{bound_used, context_row, other_there, other_at, context_closed, leapt, stands_on}
use Rattle.pull_eval.proofs.HeldRows.{holds}
use Rattle.pull_eval.proofs.TurnsKept.{get_in, get_below, same_get, are_set}
use Rattle.pull_eval.proofs.Turning.{turned}
use Rattle.pull_eval.proofs.position.Position.leap_by.Goals as goal

pub is_settled-requires : goal.is_settled-requires
is_settled-requires g c = let q = c.requires.there in bound_used c.args.self.now c.args.buffer.now q.0 q.1 q.2 c.requires.begun c.requires.no_copy c.args.guard.now c.args.for_loop.var.0 c.args.for_loop.step.now (items c.args.for_loop.body.now) c.args.context.0 c.requires.guard q.3

pub returns-then-not-is_settled-clause-leaps : goal.returns-then-not-is_settled-clause-leaps
returns-then-not-is_settled-clause-leaps g c = λ past k b a. (b, refl, tt, inl refl)

pub unreachable-requires : goal.unreachable-requires
unreachable-requires g c = let q = c.requires.there in other_there c.args.self.now c.args.buffer.now q.0 q.1 q.2 c.requires.begun c.requires.no_copy c.args.guard.now c.args.for_loop.var.0 c.args.for_loop.step.now (items c.args.for_loop.body.now) c.args.context.0 c.requires.guard q.3 c.in_default.ensures

pub index_mut-requires : goal.index_mut-requires
index_mut-requires g c = let t = c.in_ok-index.ensures.there in let l = get_below c.turns_of.new.all.items c.in_ok-index.index t.0 t.1 in omega (arith, l, c.turns_of.new.all.ok.0)

pub look-requires-clause-context : goal.look-requires-clause-context
look-requires-clause-context g c =
    let q = c.requires.there in
    record { tree = q.0.tree; keep = holds q.0; node = q.3.env q.3.from; at = context_row c.args.self.now c.args.buffer.now q.0 q.1 q.2 c.requires.begun c.requires.no_copy c.args.guard.now c.args.for_loop.var.0 c.args.for_loop.step.now (items c.args.for_loop.body.now) c.args.context.0 c.requires.guard q.3 }

pub look-requires-clause-node : goal.look-requires-clause-node
look-requires-clause-node g c =
    let q = c.requires.there in
    record { tree = q.0.tree; keep = holds q.0; node = q.3.env c.args.guard.now.other_var.0; at = other_at c.args.self.now c.args.buffer.now q.0 q.1 q.2 c.requires.begun c.requires.no_copy c.args.guard.now c.args.for_loop.var.0 c.args.for_loop.step.now (items c.args.for_loop.body.now) c.args.context.0 c.requires.guard q.3 c.in-Some.node.0 c.in-Some.outer.0 (sym c.in-Some.ensures) }

pub returns-clause-leaps : goal.returns-clause-leaps
returns-clause-leaps g c = λ past k b a.
    (let w = c.args.self.now in
    let v = c.args.buffer.now in
    let there = c.in_ok-index.ensures.there in
    let ts : List Turns = c.turns_of.new.all.items in
    let t : Turns = there.0 in
    let u : Turns = c.look.new.self in
    let same = same_get ts c.in_ok-index.index t c.index_mut.result.now there.1 c.index_mut.ensures.value in
    let looks : Looks v.rows t u c.args.context.0 c.in-Some.node.0 c.in-Some.outer.0 c.args.from c.in_ok-leap.leap =
    subst (λ (z : Turns). Looks v.rows z u c.args.context.0 c.in-Some.node.0 c.in-Some.outer.0 c.args.from c.in_ok-leap.leap) same c.in_ok-leap.ensures.looks in
    let all = c.in_ok-index.ensures.stays v.rows past.tree b.position.turns in
    let stands = all.each t (get_in ts c.in_ok-index.index t there.1) in
    let settled = c.is_settled.ensures c.if-not-is_settled.false in
    let leapt_to = leapt c.args.self.now c.args.buffer.now past k b c.requires.begun c.requires.no_copy c.args.guard.now c.args.for_loop.var.0 c.args.for_loop.step.now (items c.args.for_loop.body.now) c.args.context.0 c.requires.guard a c.requires.closed settled t u there.2 c.in-Some.node.0 c.in-Some.outer.0 (sym c.in-Some.ensures) c.args.from c.in_ok-leap.leap looks stands in
    let on = stands_on c.args.self.now c.args.buffer.now past k b c.requires.begun c.requires.no_copy c.args.guard.now c.args.for_loop.var.0 c.args.for_loop.step.now (items c.args.for_loop.body.now) c.args.context.0 c.requires.guard a c.requires.closed settled t u there.2 c.in-Some.node.0 c.in-Some.outer.0 (sym c.in-Some.ensures) c.args.from c.in_ok-leap.leap looks stands in
    let h = turned w _ v past k b refl (are_set v.rows past.tree ts c.in_ok-index.index t u there.1 (c.look.ensures.var ∙ ap (λ (z : Turns). z.var) same) all on) in
    (h.0, h.1, leapt_to, inr (context_closed c.args.self.now c.args.buffer.now past k b c.requires.begun c.requires.no_copy c.args.guard.now c.args.for_loop.var.0 c.args.for_loop.step.now (items c.args.for_loop.body.now) c.args.context.0 c.requires.guard a c.requires.closed settled)))
