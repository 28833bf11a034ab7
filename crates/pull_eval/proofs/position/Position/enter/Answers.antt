use Rattle.std.proofs.Common.{◌≡◌, true, sym, subst}
use Rattle.gcx_model.specs.Core.{For}
use Rattle.pull_eval.specs.Position.{items}
use Rattle.pull_eval.specs.Acting.{IsNextItem}
use Rattle.pull_eval.specs.declared.position.Position.{Position}
use Rattle.pull_eval.proofs.Turning.{moved_on}
use Rattle.pull_eval.proofs.position.Position.enter.Goals as goal

pub enter_at-requires-clause-next : goal.enter_at-requires-clause-next
enter_at-requires-clause-next g c =
    subst (λ (z : Position). IsNextItem z (For c.args.for_loop.var.0 c.args.from.0 c.args.for_loop.step.now (items c.args.for_loop.body.now)) (items c.args.rest.now)) (sym c.in_ok-first.ensures.frame)
    (record { next = c.requires.next.next; no_copy = c.requires.next.no_copy })

pub enter_at-requires-clause-begun : goal.enter_at-requires-clause-begun
enter_at-requires-clause-begun g c = subst (λ (z : Position). z.is_begun ≡ true) (sym c.in_ok-first.ensures.frame) c.requires.begun

pub enter_at-requires-clause-first : goal.enter_at-requires-clause-first
enter_at-requires-clause-first g c = let q = c.requires.beside in let h = c.in_ok-first.ensures.first q.0 q.1 q.2 in (q.0, q.1, h.0, h.1)

pub returns-clause-moved : goal.returns-clause-moved
returns-clause-moved g c = λ past k out b.
    (let h = c.in_ok-first.ensures.first past k b in
    moved_on c.args.self.now c.first_there.new.self c.enter_at.new.self past k c.args.buffer.now c.args.buffer.now out out c.in_ok-acted.acted c.in_ok-first.ensures.frame (c.in_ok-acted.ensures.moved past k out h.0 h.1))
