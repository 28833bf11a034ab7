use Rattle.std.proofs.Common.{sym, ◌∙◌}
use Rattle.std.proofs.lemmas.Bool.{false≢true}
use Rattle.std.proofs.lemmas.Result.{IfOk-weaker}
use Rattle.cond_memo.proofs.UntakenRows.{at_goes, at_used, may_above, may_behind, takes_above, takes_behind}
use Rattle.cond_memo.proofs.taken.Taken.take.Goals as goal

pub serial-requires : goal.serial-requires
serial-requires g c = at_used c.args.buffer.now c.args.self.now c.args.node.0 c.args.place.0 c.requires.may

pub next-requires-clause-may : goal.next-requires-clause-may
next-requires-clause-may g c =
    may_above c.args.buffer.now c.args.self.now c.args.node.0 c.args.place c.serial.result c.serial.ensures.row (c.is_waiting.ensures.0 c.if-is_waiting.true) c.in_ok-self.field-0 c.in_ok-self.ensures c.requires.may

pub returns-then-is_waiting-clause-next : goal.returns-then-is_waiting-clause-next
returns-then-is_waiting-clause-next g c =
    IfOk-weaker c.next.result _ _
    (λ r finds. takes_above c.args.buffer.now c.args.self.now c.args.node.0 c.args.place c.serial.result c.serial.ensures.row (c.is_waiting.ensures.0 c.if-is_waiting.true) c.in_ok-self.field-0 c.in_ok-self.ensures c.next.new.self r finds)
    c.next.ensures.next

pub behind-requires-clause-from : goal.behind-requires-clause-from
behind-requires-clause-from g c = at_goes c.args.buffer.now c.args.self.now c.args.node.0 c.args.place.0 c.requires.may c.requires.fits

pub pass_open-requires-clause-may : goal.pass_open-requires-clause-may
pass_open-requires-clause-may g c =
    may_behind c.args.buffer.now c.args.self.now c.args.node.0 c.args.place c.serial.result c.serial.ensures.row (λ e. false≢true (sym c.if-is_waiting.false ∙ c.is_waiting.ensures.1 e)) c.in_ok-first.first c.in_ok-first.ensures c.requires.may

pub returns-clause-next : goal.returns-clause-next
returns-clause-next g c =
    IfOk-weaker c.pass_open.result _ _
    (λ r passes. takes_behind c.args.buffer.now c.args.self.now c.args.node.0 c.args.place c.serial.result c.serial.ensures.row (λ e. false≢true (sym c.if-is_waiting.false ∙ c.is_waiting.ensures.1 e)) c.in_ok-first.first c.in_ok-first.ensures c.pass_open.new.self r passes)
    c.pass_open.ensures.next
