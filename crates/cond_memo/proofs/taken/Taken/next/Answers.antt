use Rattle.std.proofs.lemmas.Result.{IfOk-weaker}
use Rattle.cond_memo.proofs.MarkTold.{rows_below}
use Rattle.cond_memo.proofs.UntakenRows.{may_pass, next_new, next_shut}
use Rattle.cond_memo.proofs.taken.Taken.next.Goals as goal

pub shut_by_now-requires : goal.shut_by_now-requires
shut_by_now-requires g c = let a = c.requires.may.asks.at in record { cell = a.cell; among = a.cell_among; place = a.at }

pub returns-in-Some-clause-next : goal.returns-in-Some-clause-next
returns-in-Some-clause-next g c = next_shut c.args.buffer.now c.args.self.now c.args.node.0 c.in-Some.place c.in-Some.ensures

pub first-requires-clause-used : goal.first-requires-clause-used
first-requires-clause-used g c = let a = c.requires.may.asks.at in record { cell = a.cell; among = a.cell_among; place = a.at }

pub first-requires-clause-below : goal.first-requires-clause-below
first-requires-clause-below g c = let r = c.requires.may in rows_below c.args.buffer.now.rows r.tree r.keep r.asks.at.rows_of c.args.buffer.now.nodes r.asks.count

pub pass_open-requires-clause-may : goal.pass_open-requires-clause-may
pass_open-requires-clause-may g c = may_pass c.args.buffer.now c.args.self.now c.args.node.0 c.in_ok-first.first c.in_ok-first.ensures c.in_default.ensures c.requires.may

pub returns-clause-next : goal.returns-clause-next
returns-clause-next g c =
    IfOk-weaker c.pass_open.result _ _ (λ r passes. next_new c.args.buffer.now c.args.self.now c.args.node.0 c.in_ok-first.first c.in_ok-first.ensures c.in_default.ensures c.pass_open.new.self r passes) c.pass_open.ensures.next
