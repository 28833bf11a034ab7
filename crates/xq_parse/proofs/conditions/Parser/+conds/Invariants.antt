use Rattle.std.proofs.Common.{◌≡◌, ◌≤◌, ◌+◌, ◌-◌, ◌*◌, length, List}
use Rattle.gcx_model.specs.Query.{QueryCondTree, cond_trees}
use Rattle.xq_parse.specs.declared.marks.Marks.{Marks}
use Rattle.xq_parse.specs.Machine.{State, ands, ors}
use Rattle.xq_parse.specs.Reading.{run}
use Rattle.xq_parse.proofs.conditions.Parser.+conds.Given as goal

abbrev pub decreases-atom : goal.decreases-atom
decreases-atom l = 10 * (200 - l.depth)

abbrev pub decreases-atoms : goal.decreases-atoms
decreases-atoms l = 10 * (200 - l.depth) + 1

abbrev pub decreases-all : goal.decreases-all
decreases-all l = 10 * (200 - l.depth) + 2

abbrev pub decreases-alls : goal.decreases-alls
decreases-alls l = 10 * (200 - l.depth) + 3

abbrev pub decreases-condition : goal.decreases-condition
decreases-condition l = 10 * (200 - l.depth) + 4

abbrev pub decreases-group : goal.decreases-group
decreases-group l = 10 * (200 - l.depth) + 5

abbrev pub decreases-negation : goal.decreases-negation
decreases-negation l = 10 * (200 - l.depth) + 6

abbrev pub invariant-atoms-loop-self : goal.invariant-atoms-loop-self
invariant-atoms-loop-self l = record {
  moved : (k : Marks → List QueryCondTree → State) → run 200 (ands l.depth l.initial.self.scope l.initial.self.marks (cond_trees l.initial.conds) k) l.initial.self.cursor.rest.now ≡ run 200 (ands l.depth l.self.scope l.self.marks (cond_trees l.conds) k) l.self.cursor.rest.now;
  scope : l.self.scope ≡ l.initial.self.scope;
  shorter : length l.self.cursor.rest.now ≤ length l.initial.self.cursor.rest.now;
}

abbrev pub decreases-atoms-loop-self : goal.decreases-atoms-loop-self
decreases-atoms-loop-self l = length l.self.cursor.rest.now

abbrev pub invariant-alls-loop-self : goal.invariant-alls-loop-self
invariant-alls-loop-self l = record {
  moved : (k : Marks → List QueryCondTree → State) → run 200 (ors l.depth l.initial.self.scope l.initial.self.marks (cond_trees l.initial.conds) k) l.initial.self.cursor.rest.now ≡ run 200 (ors l.depth l.self.scope l.self.marks (cond_trees l.conds) k) l.self.cursor.rest.now;
  scope : l.self.scope ≡ l.initial.self.scope;
  shorter : length l.self.cursor.rest.now ≤ length l.initial.self.cursor.rest.now;
}

abbrev pub decreases-alls-loop-self : goal.decreases-alls-loop-self
decreases-alls-loop-self l = length l.self.cursor.rest.now
