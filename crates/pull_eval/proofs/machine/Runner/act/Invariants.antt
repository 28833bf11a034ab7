use Rattle.std.proofs.Common.{◌≡◌, ℕ, true, false}
use Rattle.gcx_model.specs.Past.{Past}
use Rattle.pull_eval.specs.Acting.{Beside}
use Rattle.pull_eval.specs.Calls.{WasAsked}
use Rattle.pull_eval.specs.Weight.{weight}
use Rattle.pull_eval.proofs.machine.Runner.act.Given as goal

abbrev pub invariant-moves : goal.invariant-moves
invariant-moves g l = record {
  begun : l.self.position.is_begun ≡ true;
  again : l.again ≡ true → WasAsked (g.C.Conds.asked_last l.self.conds) l.self.position;
  fresh : l.asked ≡ false;
  stays : (past : Past) (k : ℕ) → Beside l.fn.self.position l.fn.buffer past k → g.C.Conds.stands l.fn.self.conds past.tree → Beside l.self.position l.buffer past k × g.C.Conds.stands l.self.conds past.tree;
  buffer : l.buffer ≡ l.fn.buffer;
  out : l.out.items ≡ l.fn.out.items;
}

abbrev pub decreases-moves : goal.decreases-moves
decreases-moves g l = weight l.buffer.rows l.self.position
