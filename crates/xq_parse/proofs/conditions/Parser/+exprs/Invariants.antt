use Rattle.std.proofs.Common.{◌≡◌, ◌≤◌, ◌+◌, ◌-◌, ◌*◌, length, List, []}
use Rattle.gcx_model.specs.Query.{ExprTree, expr_trees}
use Rattle.xq_parse.specs.declared.marks.Marks.{Marks}
use Rattle.xq_parse.specs.Machine.{State, rest, content}
use Rattle.xq_parse.specs.Reading.{run}
use Rattle.xq_parse.proofs.conditions.Parser.+exprs.Given as goal

abbrev pub decreases-expr : goal.decreases-expr
decreases-expr l = 10 * (200 - l.depth)

abbrev pub decreases-for_expr : goal.decreases-for_expr
decreases-for_expr l = 10 * (200 - l.depth) + 3

abbrev pub decreases-loop_body : goal.decreases-loop_body
decreases-loop_body l = 10 * (200 - l.depth) + 2

abbrev pub decreases-part : goal.decreases-part
decreases-part l = 10 * (200 - l.depth) + 1

abbrev pub decreases-if_expr : goal.decreases-if_expr
decreases-if_expr l = 10 * (200 - l.depth) + 3

abbrev pub decreases-other_branch : goal.decreases-other_branch
decreases-other_branch l = 10 * (200 - l.depth) + 2

abbrev pub decreases-list : goal.decreases-list
decreases-list l = 10 * (200 - l.depth) + 1

abbrev pub decreases-inner : goal.decreases-inner
decreases-inner l = 10 * (200 - l.depth) + 2

abbrev pub decreases-content : goal.decreases-content
decreases-content l = 10 * (200 - l.depth) + 2

abbrev pub decreases-tag : goal.decreases-tag
decreases-tag l = 10 * (200 - l.depth) + 3

abbrev pub decreases-elem : goal.decreases-elem
decreases-elem l = 10 * (200 - l.depth) + 4

abbrev pub invariant-list-loop-self : goal.invariant-list-loop-self
invariant-list-loop-self l = record {
  moved : (k : Marks → List ExprTree → State) → run 200 (rest l.depth l.initial.self.scope l.initial.self.marks (expr_trees l.initial.parts) k) l.initial.self.cursor.rest.now ≡ run 200 (rest l.depth l.self.scope l.self.marks (expr_trees l.parts) k) l.self.cursor.rest.now;
  scope : l.self.scope ≡ l.initial.self.scope;
  shorter : length l.self.cursor.rest.now ≤ length l.initial.self.cursor.rest.now;
}

abbrev pub decreases-list-loop-self : goal.decreases-list-loop-self
decreases-list-loop-self l = length l.self.cursor.rest.now

abbrev pub invariant-content-loop-body : goal.invariant-content-loop-body
invariant-content-loop-body l = record {
  moved : (k : Marks → List ExprTree → State) → run 200 (content l.depth l.initial.self.scope l.initial.self.marks l.name [] k) l.initial.self.cursor.rest.now ≡ run 200 (content l.depth l.self.scope l.self.marks l.name (expr_trees l.body) k) l.self.cursor.rest.now;
  scope : l.self.scope ≡ l.initial.self.scope;
  shorter : length l.self.cursor.rest.now ≤ length l.initial.self.cursor.rest.now;
}

abbrev pub decreases-content-loop-body : goal.decreases-content-loop-body
decreases-content-loop-body l = length l.self.cursor.rest.now
