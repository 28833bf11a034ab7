-- The demand run: every possible action before each token; its peak and its trace (this project's).
use Rattle.std.specs.Prelude.{ℕ, List, [], ◌∷◌, ◌++◌, map, length, flat_map, drop, max, Option, Some, None, codes}
use Rattle.std.specs.Fmt.{decimal}
use Rattle.gcx_base.specs.declared.kind.Kind.{Kind}
use Rattle.gcx_base.specs.declared.kind.Kind.TheVariants.{Document, Element, Text}
use Rattle.gcx_model.specs.Tree.{Node, Root, Under, serial_of, kind_of, Tree, TreeToken, Start, Chars, End, opening, grow}
use Rattle.gcx_model.specs.Query.{ExprTree}
use Rattle.gcx_model.specs.Core.{PlanTree}
use Rattle.gcx_model.specs.Run.{Action, Wrote, Offed}
use Rattle.gcx_model.specs.Placed.{plan_of}
use Rattle.gcx_model.specs.Held.{roles_given, held, departed}
use Rattle.gcx_model.specs.Growth.{tokens_of}
use Rattle.gcx_model.specs.Points.{actions}
use Rattle.gcx_model.specs.Normal.{normal}

-- what a line tells of a node's kind: of a text no more than that it is one
pub data LineKind : Type 0 where
  DocumentNode : LineKind
  ElementNode : (name : List ℕ) → LineKind
  TextNode : LineKind

abbrev pub line_kind : Kind → LineKind
line_kind Document = DocumentNode
line_kind (Element name) = ElementNode name
line_kind (Text b) = TextNode

-- a node was opened, with the roles given to it; a node was closed; so many bytes were written; a statement of this role was carried out, its base bound to this node; a node left the buffer
pub data Line : Type 0 where
  Opened : (serial : ℕ) (kind : LineKind) (roles : List ℕ) → Line
  Closed : (serial : ℕ) → Line
  Written : (bytes : ℕ) → Line
  SignedOff : (serial role : ℕ) → Line
  Left : (serial : ℕ) → Line

abbrev pub action_line : Action → Line
action_line (Wrote b) = Written (length b)
action_line (Offed o m) = SignedOff m o.role

-- a line for each node that was there before and isn't there now, by falling serial
abbrev pub left : (before now : List Node) → List Line
left before now = map Left (departed before now)

-- the actions `acts`, behind the actions A over the tree P
abbrev pub act_lines : PlanTree → Tree → (A acts : List Action) → List Line
act_lines plan P A [] = []
act_lines plan P A (a ∷ acts) = action_line a ∷ (left (held plan P A) (held plan P (A ++ a ∷ [])) ++ act_lines plan P (A ++ a ∷ []) acts)

abbrev pub opened_line : PlanTree → Tree → Node → Line
opened_line plan P n = Opened (serial_of n) (line_kind (kind_of n)) (roles_given plan P n)

-- the line of the token that made Q of P, and the node that it opened
abbrev pub feed_line : PlanTree → TreeToken → (at : Option Node) → (P Q : Tree) → List Line
feed_line plan t None P Q = []
feed_line plan (Start name) (Some p) P Q = opened_line plan Q (Under p (length P.nodes) (Element name)) ∷ []
feed_line plan (Chars b) (Some p) P Q = opened_line plan Q (Under p (length P.nodes) (Text b)) ∷ []
feed_line plan End (Some p) P Q = Closed (serial_of p) ∷ []

-- the token fed to P, behind the actions A, and then every possible action
abbrev pub feed_lines : PlanTree → TreeToken → (P Q : Tree) → List Action → List Line
feed_lines plan t P Q A = feed_line plan t P.at P Q ++ (left (held plan P A ++ drop (length P.nodes) Q.nodes) (held plan Q A) ++ act_lines plan Q A (drop (length A) (actions plan Q)))

abbrev pub demand : PlanTree → List TreeToken → Tree → List Line
demand plan [] P = []
demand plan (t ∷ ts) P = feed_lines plan t P (grow t P) (actions plan P) ++ demand plan ts (grow t P)

-- the lines of the demand run over the tokens
abbrev pub trace_lines : PlanTree → List TreeToken → List Line
trace_lines plan ts = opened_line plan opening Root ∷ (act_lines plan opening [] (actions plan opening) ++ demand plan ts opening)

abbrev pub kind_text : LineKind → List ℕ
kind_text DocumentNode = codes "/"
kind_text (ElementNode name) = name
kind_text TextNode = codes "#"

-- a space and the number
abbrev pub number_text : ℕ → List ℕ
number_text n = 32 ∷ decimal n

abbrev pub line_text : Line → List ℕ
line_text (Opened s k roles) = codes "+" ++ (number_text s ++ (32 ∷ (kind_text k ++ flat_map number_text roles)))
line_text (Closed s) = codes "-" ++ number_text s
line_text (Written n) = codes "w" ++ number_text n
line_text (SignedOff m r) = codes "o" ++ (number_text m ++ number_text r)
line_text (Left s) = codes "x" ++ number_text s

-- each line ends with the byte 0A
abbrev pub text_of_lines : List Line → List ℕ
text_of_lines lines = flat_map (λ l. line_text l ++ 10 ∷ []) lines

-- the greatest number of held nodes just after a token, each fed with every action of the tree before it taken
abbrev pub peak_from : PlanTree → List TreeToken → Tree → ℕ
peak_from plan [] P = 0
peak_from plan (t ∷ ts) P = max (length (held plan (grow t P) (actions plan P))) (peak_from plan ts (grow t P))

-- in the opening state too
abbrev pub peak_of : PlanTree → List TreeToken → ℕ
peak_of plan ts = max (length (held plan opening [])) (peak_from plan ts opening)

-- TraceText(q, P)
abbrev pub trace_text : List ExprTree → Tree → List ℕ
trace_text q P = text_of_lines (trace_lines (plan_of (normal q)) (tokens_of P))

-- Peak(q, P)
abbrev pub peak : List ExprTree → Tree → ℕ
peak q P = peak_of (plan_of (normal q)) (tokens_of P)
