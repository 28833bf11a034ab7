use Rattle.std.proofs.Common.{◌≡◌, ◌≤◌, length}
use Rattle.xq_parse.specs.declared.route.Trail.{Trail}
use Rattle.xq_parse.specs.Machine.{State, steps}
use Rattle.xq_parse.specs.Reading.{run}
use Rattle.xq_parse.proofs.cursor.Cursor.steps.Given as goal

abbrev pub invariant-loop-self : goal.invariant-loop-self
invariant-loop-self l = record {
  moved : (k : Trail → State) → run 200 (steps l.initial.trail k) l.initial.self.rest.now ≡ run 200 (steps l.trail k) l.self.rest.now;
  shorter : length l.self.rest.now ≤ length l.initial.self.rest.now;
}

abbrev pub decreases-loop-self : goal.decreases-loop-self
decreases-loop-self l = length l.self.rest.now
