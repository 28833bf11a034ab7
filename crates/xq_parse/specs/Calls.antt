-- This follows the code, for its proofs: no public clause speaks of it.
-- What a function of the parser does, by the machine: it stands for states that ask for what it reads, whatever comes then (`k`).
use Rattle.std.specs.Prelude.{ℕ, ◌≡◌, Bool, cond, List, [], Option, None, Result, option_map}
use Rattle.gcx_base.specs.declared.steps.Axis.{Axis}
use Rattle.gcx_base.specs.declared.steps.Axis.TheVariants as axes
use Rattle.gcx_base.specs.declared.steps.Step.{Step}
use Rattle.gcx_base.specs.declared.steps.Test.TheVariants as tests
use Rattle.gcx_model.specs.declared.query.Clause.{Clause}
use Rattle.gcx_model.specs.declared.query.QOperand.{QOperand}
use Rattle.gcx_model.specs.Query as trees
use Rattle.gcx_model.specs.Query.{QueryCondTree, ExprTree, cond_tree}
use Rattle.xq_lex.specs.declared.sign.Sign.TheVariants as signs
use Rattle.xq_lex.specs.declared.token.Tok.{Tok}
use Rattle.xq_parse.specs.declared.refusal.Refusal.{Refusal}
use Rattle.xq_parse.specs.declared.route.Var.{Var}
use Rattle.xq_parse.specs.declared.route.Trail.{Trail}
use Rattle.xq_parse.specs.declared.route.Route.{Route}
use Rattle.xq_parse.specs.declared.marks.Marks.{Marks}
use Rattle.xq_parse.specs.declared.conditions.Parser.{Parser}
use Rattle.xq_parse.specs.declared.conditions.AtomStart.{AtomStart}
use Rattle.xq_parse.specs.declared.expressions.LoopHead.{LoopHead}
use Rattle.xq_parse.specs.declared.expressions.ExprStart.{ExprStart}
use Rattle.xq_parse.specs.declared.expressions.Part.{Part}
use Rattle.xq_parse.specs.Grammar.{a_step}
use Rattle.xq_parse.specs.Places.{Scope}
use Rattle.xq_parse.specs.Machine.{State, deepest, all_state, ands, atom, axis_named, axis_or_name, clause_state, clauses, cond_state, condition, content, expr, first_step, inner, kind_test, listed_state, more_ands, more_clauses, more_ors, more_rest, name_behind, no_trail, operand, ors, path, rest, sign, source, steps, steps_behind, steps_state, tag, test, with_filter, with_start}
use Rattle.xq_parse.specs.Behind.{atom_behind, expr_behind, operand_behind, part_behind, path_behind}
use Rattle.xq_parse.specs.Reading.{Moves, run}

-- Reads what the first state asks for, and goes on as the second one.
abbrev pub Proceeds : {K X : Type 0} → (asked : K → State) → (behind : K → X → State) → (before after : List Tok) → Result X Refusal → Type 0
Proceeds {K} asked behind before after r = (k : K) → Moves (λ x. run deepest (behind k x) after) r (run deepest (asked k) before)

-- what is read is handed on
abbrev pub ReadsOne : {X : Type 0} → (asked : (X → State) → State) → (before after : List Tok) → Result X Refusal → Type 0
ReadsOne {X} asked before after r = Proceeds {K = X → State} asked (λ k x. k x) before after r

-- nothing of it is handed on
abbrev pub Skips : {X : Type 0} → (asked : State → State) → (before after : List Tok) → Result X Refusal → Type 0
Skips asked before after r = Proceeds {K = State} asked (λ s x. s) before after r

-- Takes a token, and the first state goes on as the second one; or takes none, and it goes on as the third.
abbrev pub Branches : {K : Type 0} → (asked taken passed : K → State) → (before after : List Tok) → Bool → Type 0
Branches {K} asked taken passed before after b = (k : K) → run deepest (asked k) before ≡ run deepest (cond b (taken k) (passed k)) after

-- A method of the parser: what it reads, as a tree, and what it noted of places are handed on.
abbrev pub Parses : {T V : Type 0} → (tree : T → V) → (asked : Scope → Marks → (Marks → V → State) → State) → (before after : Parser) → Result T Refusal → Type 0
Parses {T} {V} tree asked before after r =
    Proceeds {K = Marks → V → State} (asked before.scope before.marks) (λ k t. k after.marks (tree t)) before.cursor.rest.now after.cursor.rest.now r

-- and the variables that are in scope then
abbrev pub ParsesClauses : (asked : Scope → Marks → (Scope → Marks → List Clause → State) → State) → (before after : Parser) → Result (List Clause) Refusal → Type 0
ParsesClauses asked before after r =
    Proceeds {K = Scope → Marks → List Clause → State} (asked before.scope before.marks) (λ k cs. k after.scope after.marks cs) before.cursor.rest.now after.cursor.rest.now r

-- and the condition of a loop
abbrev pub ParsesHead : (asked : Scope → Marks → (Scope → Marks → List Clause → Option QueryCondTree → State) → State) → (before after : Parser) → Result LoopHead Refusal → Type 0
ParsesHead asked before after r =
    Proceeds {K = Scope → Marks → List Clause → Option QueryCondTree → State} (asked before.scope before.marks)
    (λ k h. k after.scope after.marks h.clauses (option_map cond_tree h.filter)) before.cursor.rest.now after.cursor.rest.now r

-- ---- separators: what stands behind one is read, or what stands behind the list

abbrev pub TakesAnd : (before after : List Tok) → Bool → Type 0
TakesAnd before after b = (n : ℕ) (sc : Scope) (m : Marks) (bs : List QueryCondTree)
    → Branches {K = Marks → List QueryCondTree → State} (ands n sc m bs) (λ k. atom n sc m (more_ands n sc bs k)) (λ k. k m bs) before after b

abbrev pub TakesOr : (before after : List Tok) → Bool → Type 0
TakesOr before after b = (n : ℕ) (sc : Scope) (m : Marks) (bs : List QueryCondTree)
    → Branches {K = Marks → List QueryCondTree → State} (ors n sc m bs) (λ k. all_state n sc m (more_ors n sc bs k)) (λ k. k m bs) before after b

abbrev pub TakesWhere : (before after : List Tok) → Bool → Type 0
TakesWhere before after b = (n : ℕ) (sc : Scope) (m : Marks)
    → Branches {K = Marks → Option QueryCondTree → State} (condition n sc m) (λ k. cond_state n sc m (with_filter k)) (λ k. k m None) before after b

-- of expressions, and of clauses
abbrev pub TakesComma : (before after : List Tok) → Bool → Type 0
TakesComma before after b = (n : ℕ) (sc : Scope) (m : Marks) (es : List ExprTree)
    → Branches {K = Marks → List ExprTree → State} (rest n sc m es) (λ k. expr n sc m (more_rest n sc es k)) (λ k. k m es) before after b

abbrev pub TakesClauseComma : (before after : List Tok) → Bool → Type 0
TakesClauseComma before after b = (sc : Scope) (m : Marks) (cs : List Clause)
    → Branches {K = Scope → Marks → List Clause → State} (clauses sc m cs) (λ k. clause_state sc m (more_clauses sc cs k)) (λ k. k sc m cs) before after b

-- ---- other tokens by which a rule goes one of two ways

-- the `)` of an empty parenthesis
abbrev pub TakesClose : (before after : List Tok) → Bool → Type 0
TakesClose before after b = (n : ℕ) (sc : Scope) (m : Marks)
    → Branches {K = Marks → ExprTree → State} (inner n sc m) (λ k. k m trees.Empty) (λ k. listed_state n sc m k) before after b

-- the end of a start tag
abbrev pub ReadsTagEnd : (before after : List Tok) → Result Bool Refusal → Type 0
ReadsTagEnd before after r = (n : ℕ) (sc : Scope) (m : Marks) (x : List ℕ)
    → Proceeds {K = Marks → List ExprTree → State} (tag n sc m x) (λ k short. cond short (k m []) (content n sc m x [] k)) before after r

-- the `(` of a kind test
abbrev pub TakesCall : (name : List ℕ) → (before after : List Tok) → Bool → Type 0
TakesCall x before after b = (a : Axis) → Branches {K = Step → State} (name_behind a x)
    (λ k. sign signs.ParenClose (k (a_step a (kind_test x)))) (λ k. k (a_step a (tests.Named x))) before after b

-- the `::` of an axis
abbrev pub TakesColons : (before after : List Tok) → Bool → Type 0
TakesColons before after b = (x : List ℕ) → Branches {K = Step → State} (axis_or_name x)
    (λ k. test (axis_named x) k) (λ k. k (a_step axes.Child (tests.Named x))) before after b

-- a slash stands next: no token is taken
abbrev pub SeesSlash : List Tok → Bool → Type 0
SeesSlash tokens b = (t : Trail) → Branches {K = Trail → State} (steps t) (λ k. first_step (steps_behind t k)) (λ k. k t) tokens tokens b

-- any number of steps go on as these
abbrev pub StepsAre : (next : (Trail → State) → State) → List Tok → Type 0
StepsAre next tokens = (k : Trail → State) → run deepest (steps no_trail k) tokens ≡ run deepest (next k) tokens

-- ---- how a rule begins

abbrev pub ReadsAtomStart : (depth : ℕ) → (before after : List Tok) → Result AtomStart Refusal → Type 0
ReadsAtomStart n before after r = (sc : Scope) (m : Marks)
    → Proceeds {K = Marks → QueryCondTree → State} (atom n sc m) (λ k s. atom_behind n sc m s k) before after r

abbrev pub ReadsExprStart : (depth : ℕ) → (before after : List Tok) → Result ExprStart Refusal → Type 0
ReadsExprStart n before after r = (sc : Scope) (m : Marks)
    → Proceeds {K = Marks → ExprTree → State} (expr n sc m) (λ k s. expr_behind n sc m s k) before after r

-- of a part of a constructor
abbrev pub ReadsPart : (depth : ℕ) → (before after : List Tok) → Result Part Refusal → Type 0
ReadsPart n before after r = (sc : Scope) (m : Marks) (x : List ℕ) (body : List ExprTree)
    → Proceeds {K = Marks → List ExprTree → State} (content n sc m x body) (λ k p. part_behind n sc m x body p k) before after r

-- the literal of an operand, where it is one
abbrev pub ReadsLiteral : (before after : List Tok) → Result (Option QOperand) Refusal → Type 0
ReadsLiteral before after r = (sc : Scope) (m : Marks)
    → Proceeds {K = Marks → QOperand → State} (operand sc m) (λ k l. operand_behind l sc m k) before after r

-- the variable of a path, where it has one
abbrev pub ReadsPathVar : (before after : List Tok) → Result (Option Var) Refusal → Type 0
ReadsPathVar before after r = Proceeds {K = Route → State} path (λ k v. path_behind v k) before after r

-- and of the path of a clause
abbrev pub ReadsSourceVar : (before after : List Tok) → Result (Option Var) Refusal → Type 0
ReadsSourceVar before after r = Proceeds {K = Route → State} source (λ k v. steps_state (with_start v k)) before after r
