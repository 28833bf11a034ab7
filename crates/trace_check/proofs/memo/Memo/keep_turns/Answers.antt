use Rattle.std.proofs.Common.{ℕ}
use Rattle.trace_check.specs.Memoing.{AreTurns}
use Rattle.trace_check.specs.declared.memo.Turns.{Turns}
use Rattle.trace_check.proofs.Memos.{kept_more}
use Rattle.trace_check.proofs.memo.Memo.keep_turns.Goals as goal

pub returns : goal.returns
returns c = λ t m e. record {
  known = m.known;
  turns = kept_more (λ (x from : ℕ) (k : Turns). AreTurns t from k) c.args.self.now.turns c.insert.new.self c.args.var.0 c.args.from
      (record { step = c.args.step; nodes = c.args.nodes }) c.in_ok-insert.ensures.updates.0 m.turns e;
}
