-- What the commands but `run` write (this project's).
use Rattle.std.specs.Prelude.{ℕ, List, ◌++◌, codes, decimal, length}
use Rattle.gcx_model.specs.Demand.{peak_of}
use Rattle.gcx_model.specs.Held.{sum_given, sum_taken}
use Rattle.gcx_model.specs.Normal.{normal}
use Rattle.gcx_model.specs.Placed.{plan_of}
use Rattle.gcx_model.specs.Points.{actions}
use Rattle.gcx_model.specs.Query.{ExprTree}
use Rattle.gcx_model.specs.Seen.{seen_tree}
use Rattle.gcx_model.specs.Tree.{TreeToken}
use Rattle.signoff_place.specs.Explained.{explained}
use Rattle.gcx_cmd.specs.Diagnosis.{newline}

-- `explain` writes the plan of the query
abbrev pub explain_text : List ExprTree → List ℕ
explain_text q = explained (plan_of (normal q))

abbrev pub peak_line : (peak nodes given taken : ℕ) → List ℕ
peak_line peak nodes given taken =
    codes "peak " ++ (decimal peak ++ (codes " nodes " ++ (decimal nodes ++ (codes " given " ++ (decimal given ++ (codes " taken " ++ (decimal taken ++ newline)))))))

abbrev pub answer_line : (answer peak nodes given taken : ℕ) → List ℕ
answer_line answer peak nodes given taken = codes "answer " ++ (decimal answer ++ (codes " " ++ peak_line peak nodes given taken))

-- `peak` writes the greatest number of held nodes, the number of nodes, and the sums of Given and of Taken, over the tree of
-- these tokens with every action taken
abbrev pub peak_text : List ExprTree → List TreeToken → List ℕ
peak_text q ts =
    let plan = plan_of (normal q) in
    let P = seen_tree ts in
    peak_line (peak_of plan ts) (length P.nodes) (sum_given plan P) (sum_taken plan P (actions plan P))

-- `selfrun` writes these behind the number of the answer's bytes
abbrev pub selfrun_text : List ExprTree → List TreeToken → (answer : List ℕ) → List ℕ
selfrun_text q ts answer =
    let plan = plan_of (normal q) in
    let P = seen_tree ts in
    answer_line (length answer) (peak_of plan ts) (length P.nodes) (sum_given plan P) (sum_taken plan P (actions plan P))

-- `check` writes the number of the trace's lines
abbrev pub lines_line : (lines : ℕ) → List ℕ
lines_line lines = codes "trace " ++ (decimal lines ++ (codes " lines" ++ newline))

-- the query of `selfrun`
abbrev pub self_query : List ℕ
self_query = codes "<r>{for $i in /items/item return if ($i/price >= 50) then $i/note else ()}</r>"
