-- The lines of tokens and actions, and how a trace goes on by them (this project's).
use Rattle.std.specs.Prelude.{◌≡◌, ℕ, suc, Bool, true, false, List, [], ◌∷◌, ◌++◌, length, map, drop}
use Rattle.gcx_base.specs.declared.ids.Role.{Role}
use Rattle.gcx_model.specs.Tree.{Tree, TreeToken as Said, Start, Chars, End, grow}
use Rattle.gcx_model.specs.Core.{PlanTree}
use Rattle.gcx_model.specs.Run.{Action}
use Rattle.gcx_model.specs.Held.{held}
use Rattle.gcx_model.specs.Points.{so_far}
use Rattle.gcx_model.specs.Demand.{LineKind, DocumentNode, ElementNode, TextNode, Line, Written, left, act_lines, feed_line, demand, text_of_lines}
use Rattle.gcx_model.specs.Demand as tree
use Rattle.run_part.specs.Actors.{ComesWithin, StandAt, all_of}
use Rattle.gcx_model.specs.Seen.{seen_tree}
use Rattle.run_part.specs.Late.{MayFeedAll}
use Rattle.run_part.specs.View.{ActorsView}
use Rattle.buf_trace.specs.declared.line.LineKind.{LineKind as CodeKind}
use Rattle.buf_trace.specs.Lines.{kind_tree}
use Rattle.buf_tree.specs.Calls.{numbers}
use Rattle.projector.specs.declared.projector.Fed.{Fed}
use Rattle.projector.specs.declared.projector.Fed.TheVariants as outcomes
use Rattle.pull_eval.specs.declared.machine.Acted.{Acted}
use Rattle.pull_eval.specs.declared.machine.Acted.TheVariants as acted

-- it grew by a front of the text
abbrev pub GrewPart : (before after text : List ℕ) → Type 0
GrewPart before after text = (part : List ℕ) × (rest : List ℕ) × (text ≡ part ++ rest) × (after ≡ before ++ part)

-- the text of the line of the document node, which is given these roles
abbrev pub document_text : List Role → List ℕ
document_text given = text_of_lines (tree.Opened 0 DocumentNode (numbers given) ∷ [])

-- what a line tells of the node that the token opens
abbrev pub kind_said : Said → LineKind
kind_said (Start name) = ElementNode name
kind_said (Chars b) = TextNode
kind_said End = DocumentNode

-- the line of what a token did, where a node that it opened is of this kind
abbrev pub fed_line : Fed → LineKind → Line
fed_line (outcomes.Opened s given) k = tree.Opened s.0 k (numbers given)
fed_line (outcomes.Closed s) k = tree.Closed s.0

-- the same, and a line for each of these departures
abbrev pub told_lines : Fed → CodeKind → (gone : List ℕ) → List Line
told_lines fed k gone = fed_line fed (kind_tree k) ∷ map tree.Left gone

-- the line of an action, if there was one
abbrev pub acted_lines : Acted → List Line
acted_lines (acted.Wrote n) = Written n ∷ []
acted_lines (acted.SignedOff s r) = tree.SignedOff s.0 r.0 ∷ []
acted_lines acted.Blocked = []
acted_lines acted.Finished = []

-- the lines of a token, fed to P behind the actions A
abbrev pub fed_lines : PlanTree → Said → Tree → List Action → List Line
fed_lines plan t P A = feed_line plan t P.at P (grow t P) ++ left (held plan P A ++ drop (length P.nodes) (grow t P).nodes) (held plan (grow t P) A)

-- the lines of the actions over P from the first k to the first j
abbrev pub lines_to : PlanTree → Tree → (k j : ℕ) → List Line
lines_to plan P k j = act_lines plan P (so_far plan P k) (drop k (so_far plan P j))

-- those of the next one, where there was one
abbrev pub next_lines : PlanTree → Tree → (k : ℕ) → (more : Bool) → List Line
next_lines plan P k true = lines_to plan P k (suc k)
next_lines plan P k false = []

-- ---- what the actors tell, from each state for which they stood

-- the lines of a token, behind the actions so far
abbrev pub token_text : PlanTree → Said → Tree → ℕ → List ℕ
token_text plan t P k = text_of_lines (fed_lines plan t P (so_far plan P k))

-- they were told
abbrev pub TellsEach : {C : Type 0} → (C → Tree → Type 0) → ActorsView C → Said → (before after : List ℕ) → Type 0
TellsEach stands old t before after = (plan : PlanTree) (P : Tree) (k : ℕ) → StandAt stands plan old P k → ComesWithin t P → after ≡ before ++ token_text plan t P k

-- or a front of them
abbrev pub TellsPart : {C : Type 0} → (C → Tree → Type 0) → ActorsView C → Said → (before after : List ℕ) → Type 0
TellsPart stands old t before after = (plan : PlanTree) (P : Tree) (k : ℕ) → StandAt stands plan old P k → ComesWithin t P → GrewPart before after (token_text plan t P k)

-- the lines of the next action, where there was one
abbrev pub TellsAction : {C : Type 0} → (C → Tree → Type 0) → ActorsView C → (before after : List ℕ) → (more : Bool) → Type 0
TellsAction stands old before after more = (plan : PlanTree) (P : Tree) (k : ℕ) → StandAt stands plan old P k → after ≡ before ++ text_of_lines (next_lines plan P k more)

-- the lines of all actions that are left
abbrev pub TellsAll : {C : Type 0} → (C → Tree → Type 0) → ActorsView C → (before after : List ℕ) → Type 0
TellsAll stands old before after = (plan : PlanTree) (P : Tree) (k : ℕ) → StandAt stands plan old P k → after ≡ before ++ text_of_lines (lines_to plan P k (all_of plan P))

-- or a front of them
abbrev pub TellsFront : {C : Type 0} → (C → Tree → Type 0) → ActorsView C → (before after : List ℕ) → Type 0
TellsFront stands old before after = (plan : PlanTree) (P : Tree) (k : ℕ) → StandAt stands plan old P k → GrewPart before after (text_of_lines (lines_to plan P k (all_of plan P)))

-- ---- what lent tokens tell, from each state behind which they may come

-- the lines of all of them, with every action that is possible behind each
abbrev pub TellsLent : {C : Type 0} → (C → Tree → Type 0) → (ahead : ℕ) → ActorsView C → List Said → (before after : List ℕ) → Type 0
TellsLent stands ahead old more before after = (plan : PlanTree) (ts : List Said) → MayFeedAll stands plan ahead old ts more → after ≡ before ++ text_of_lines (demand plan more (seen_tree ts))

-- or a front of them
abbrev pub TellsSomeLent : {C : Type 0} → (C → Tree → Type 0) → (ahead : ℕ) → ActorsView C → List Said → (before after : List ℕ) → Type 0
TellsSomeLent stands ahead old more before after = (plan : PlanTree) (ts : List Said) → MayFeedAll stands plan ahead old ts more → GrewPart before after (text_of_lines (demand plan more (seen_tree ts)))
