use Rattle.std.proofs.Common.{◌≡◌, ◌≤◌, length, List}
use Rattle.gcx_model.specs.declared.query.Clause.{Clause}
use Rattle.xq_parse.specs.declared.marks.Marks.{Marks}
use Rattle.xq_parse.specs.Places.{Scope}
use Rattle.xq_parse.specs.Machine.{State, clauses}
use Rattle.xq_parse.specs.Behind.{Extends}
use Rattle.xq_parse.specs.Reading.{run}
use Rattle.xq_parse.proofs.conditions.Parser.clauses.Given as goal

abbrev pub invariant-loop-self : goal.invariant-loop-self
invariant-loop-self l = record {
  moved : (k : Scope → Marks → List Clause → State) → run 200 (clauses l.initial.self.scope l.initial.self.marks l.initial.clauses k) l.initial.self.cursor.rest.now ≡ run 200 (clauses l.self.scope l.self.marks l.clauses k) l.self.cursor.rest.now;
  scope : Extends l.self.scope l.initial.self.scope;
  shorter : length l.self.cursor.rest.now ≤ length l.initial.self.cursor.rest.now;
}

abbrev pub decreases-loop-self : goal.decreases-loop-self
decreases-loop-self l = length l.self.cursor.rest.now
