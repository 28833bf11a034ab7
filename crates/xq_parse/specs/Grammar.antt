-- The grammar of queries (this project's language): derivations, their tokens, their trees, and what nests in them.
use Rattle.std.specs.Prelude.{ℕ, ℤ, ◌≡◌, ◌+◌, true, nat_lt, List, [], ◌∷◌, ◌++◌, Option, Some, None}
use Rattle.gcx_base.specs.declared.rel.Rel.{Rel}
use Rattle.gcx_base.specs.declared.rel.Rel.TheVariants as rels
use Rattle.gcx_base.specs.declared.steps.Axis.{Axis}
use Rattle.gcx_base.specs.declared.steps.Axis.TheVariants as axes
use Rattle.gcx_base.specs.declared.steps.Step.{Step as PathStep}
use Rattle.gcx_base.specs.declared.steps.Test.{Test as NodeTest}
use Rattle.gcx_base.specs.declared.steps.Test.TheVariants as tests
use Rattle.gcx_model.specs.declared.query.PathExpr.{PathExpr}
use Rattle.gcx_model.specs.declared.query.Clause.{Clause as LoopClause}
use Rattle.gcx_model.specs.declared.query.QOperand.{QOperand}
use Rattle.gcx_model.specs.declared.query.QOperand.TheVariants as sides
use Rattle.gcx_model.specs.Query as q
use Rattle.gcx_model.specs.Query.{QueryCondTree, ExprTree, conds_of, exprs_of}
use Rattle.xq_lex.specs.declared.sign.Sign.{Sign}
use Rattle.xq_lex.specs.declared.sign.Sign.TheVariants as signs
use Rattle.xq_parse.specs.Tokens.{Token, TName, TVar, TNum, TStr, TSlash, TSlashes, TSign, for_, in_, where_, return_, if_, then_, else_, or_, and_, not_, true_, exists_, text_, node_, child_, descendant_}

-- Test = Name | "*" | "text" "(" ")" | "node" "(" ")"
pub data TestSyntax : Type 0 where
  name_test : List ℕ → TestSyntax
  star_test : TestSyntax
  text_test : TestSyntax
  node_test : TestSyntax

abbrev pub test_tokens : TestSyntax → List Token
test_tokens (name_test x) = TName x ∷ []
test_tokens star_test = TSign signs.Star ∷ []
test_tokens text_test = TName text_ ∷ TSign signs.ParenOpen ∷ TSign signs.ParenClose ∷ []
test_tokens node_test = TName node_ ∷ TSign signs.ParenOpen ∷ TSign signs.ParenClose ∷ []

abbrev pub test_tree : TestSyntax → NodeTest
test_tree (name_test x) = tests.Named x
test_tree star_test = tests.AnyElement
test_tree text_test = tests.AnyText
test_tree node_test = tests.AnyNode

-- Step = "/" [("child" | "descendant") "::"] Test | "//" Test      (the number is the place of its slash)
pub data StepSyntax : Type 0 where
  plain : (at : ℕ) → TestSyntax → StepSyntax
  child : (at : ℕ) → TestSyntax → StepSyntax
  descendant : (at : ℕ) → TestSyntax → StepSyntax
  double : (at : ℕ) → TestSyntax → StepSyntax

abbrev pub step_tokens : StepSyntax → List Token
step_tokens (plain at t) = TSlash at ∷ test_tokens t
step_tokens (child at t) = TSlash at ∷ TName child_ ∷ TSign signs.Axis ∷ test_tokens t
step_tokens (descendant at t) = TSlash at ∷ TName descendant_ ∷ TSign signs.Axis ∷ test_tokens t
step_tokens (double at t) = TSlashes at ∷ test_tokens t

abbrev pub a_step : Axis → NodeTest → PathStep
a_step a t = record { axis = a; test = t }

abbrev pub step_tree : StepSyntax → PathStep
step_tree (plain at t) = a_step axes.Child (test_tree t)
step_tree (child at t) = a_step axes.Child (test_tree t)
step_tree (descendant at t) = a_step axes.Descendant (test_tree t)
step_tree (double at t) = a_step axes.Descendant (test_tree t)

-- {Step}
pub data StepsSyntax : Type 0 where
  no_step : StepsSyntax
  more_steps : StepSyntax → StepsSyntax → StepsSyntax

abbrev pub steps_tokens : StepsSyntax → List Token
steps_tokens no_step = []
steps_tokens (more_steps s ss) = step_tokens s ++ steps_tokens ss

abbrev pub steps_tree : StepsSyntax → List PathStep
steps_tree no_step = []
steps_tree (more_steps s ss) = step_tree s ∷ steps_tree ss

-- Path = Var {Step} | Step {Step}
pub data Path : Type 0 where
  from_var : (at : ℕ) (name : List ℕ) → StepsSyntax → Path
  from_root : StepSyntax → StepsSyntax → Path

abbrev pub path_tokens : Path → List Token
path_tokens (from_var at x ss) = TVar at x ∷ steps_tokens ss
path_tokens (from_root s ss) = step_tokens s ++ steps_tokens ss

abbrev pub a_path : Option (List ℕ) → List PathStep → PathExpr
a_path v ss = record { start = v; steps = ss }

abbrev pub path_tree : Path → PathExpr
path_tree (from_var at x ss) = a_path (Some x) (steps_tree ss)
path_tree (from_root s ss) = a_path None (step_tree s ∷ steps_tree ss)

-- [Var] Step {Step}
pub data Source : Type 0 where
  in_var : (at : ℕ) (name : List ℕ) → StepSyntax → StepsSyntax → Source
  in_root : StepSyntax → StepsSyntax → Source

abbrev pub source_tokens : Source → List Token
source_tokens (in_var at x s ss) = TVar at x ∷ (step_tokens s ++ steps_tokens ss)
source_tokens (in_root s ss) = step_tokens s ++ steps_tokens ss

abbrev pub source_tree : Source → PathExpr
source_tree (in_var at x s ss) = a_path (Some x) (step_tree s ∷ steps_tree ss)
source_tree (in_root s ss) = a_path None (step_tree s ∷ steps_tree ss)

-- Literal = String | Number
pub data Literal : Type 0 where
  text : List ℕ → Literal
  number : (units : ℤ) → Literal

abbrev pub literal_token : Literal → Token
literal_token (text x) = TStr x
literal_token (number u) = TNum u

abbrev pub literal_tree : Literal → QOperand
literal_tree (text x) = sides.Str x
literal_tree (number u) = sides.Num u

-- Operand = Path | Literal
pub data Operand : Type 0 where
  path_operand : Path → Operand
  literal_operand : Literal → Operand

abbrev pub operand_tokens : Operand → List Token
operand_tokens (path_operand p) = path_tokens p
operand_tokens (literal_operand l) = literal_token l ∷ []

abbrev pub operand_tree : Operand → QOperand
operand_tree (path_operand p) = sides.Path (path_tree p)
operand_tree (literal_operand l) = literal_tree l

-- Rel = "=" | "!=" | "<" | "<=" | ">" | ">="
abbrev pub rel_sign : Rel → Sign
rel_sign rels.Eq = signs.Eq
rel_sign rels.Ne = signs.Ne
rel_sign rels.Lt = signs.Lt
rel_sign rels.Le = signs.Le
rel_sign rels.Gt = signs.Gt
rel_sign rels.Ge = signs.Ge

-- one member alone is that member
abbrev pub all_of : List QueryCondTree → QueryCondTree
all_of [] = q.QueryAll (conds_of [])
all_of (c ∷ []) = c
all_of (c ∷ d ∷ ds) = q.QueryAll (conds_of (c ∷ d ∷ ds))

abbrev pub any_of : List QueryCondTree → QueryCondTree
any_of [] = q.QueryAny (conds_of [])
any_of (c ∷ []) = c
any_of (c ∷ d ∷ ds) = q.QueryAny (conds_of (c ∷ d ∷ ds))

-- Cond = All {"or" All}    All = Atom {"and" Atom}
-- Atom = "not" "(" Cond ")" | "true" "(" ")" | "exists" "(" Path ")" | "(" Cond ")" | Path Rel Operand | Literal Rel Path
mutual
  pub data Cond : Type 0 where
    cond_of : All → Ors → Cond

  pub data Ors : Type 0 where
    no_or : Ors
    or_more : All → Ors → Ors

  pub data All : Type 0 where
    all : Atom → Ands → All

  pub data Ands : Type 0 where
    no_and : Ands
    and_more : Atom → Ands → Ands

  pub data Atom : Type 0 where
    negated : Cond → Atom
    always : Atom
    existing : Path → Atom
    grouped : Cond → Atom
    compared : Path → Rel → Operand → Atom
    literal_first : Literal → Rel → Path → Atom

abbrev mutual
  pub cond_tokens : Cond → List Token
  cond_tokens (cond_of a os) = all_tokens a ++ ors_tokens os

  pub ors_tokens : Ors → List Token
  ors_tokens no_or = []
  ors_tokens (or_more a os) = TName or_ ∷ (all_tokens a ++ ors_tokens os)

  pub all_tokens : All → List Token
  all_tokens (all a bs) = atom_tokens a ++ ands_tokens bs

  pub ands_tokens : Ands → List Token
  ands_tokens no_and = []
  ands_tokens (and_more a bs) = TName and_ ∷ (atom_tokens a ++ ands_tokens bs)

  pub atom_tokens : Atom → List Token
  atom_tokens (negated c) = TName not_ ∷ TSign signs.ParenOpen ∷ (cond_tokens c ++ (TSign signs.ParenClose ∷ []))
  atom_tokens always = TName true_ ∷ TSign signs.ParenOpen ∷ TSign signs.ParenClose ∷ []
  atom_tokens (existing p) = TName exists_ ∷ TSign signs.ParenOpen ∷ (path_tokens p ++ (TSign signs.ParenClose ∷ []))
  atom_tokens (grouped c) = TSign signs.ParenOpen ∷ (cond_tokens c ++ (TSign signs.ParenClose ∷ []))
  atom_tokens (compared p r o) = path_tokens p ++ (TSign (rel_sign r) ∷ operand_tokens o)
  atom_tokens (literal_first l r p) = literal_token l ∷ TSign (rel_sign r) ∷ path_tokens p

abbrev mutual
  pub derived_cond : Cond → QueryCondTree
  derived_cond (cond_of a os) = any_of (all_tree a ∷ ors_tree os)

  pub ors_tree : Ors → List QueryCondTree
  ors_tree no_or = []
  ors_tree (or_more a os) = all_tree a ∷ ors_tree os

  pub all_tree : All → QueryCondTree
  all_tree (all a bs) = all_of (atom_tree a ∷ ands_tree bs)

  pub ands_tree : Ands → List QueryCondTree
  ands_tree no_and = []
  ands_tree (and_more a bs) = atom_tree a ∷ ands_tree bs

  pub atom_tree : Atom → QueryCondTree
  atom_tree (negated c) = q.QueryNot (derived_cond c)
  atom_tree always = q.QueryAlways
  atom_tree (existing p) = q.QueryExists (path_tree p)
  atom_tree (grouped c) = derived_cond c
  atom_tree (compared p r o) = q.QueryCompare (sides.Path (path_tree p)) r (operand_tree o)
  atom_tree (literal_first l r p) = q.QueryCompare (literal_tree l) r (sides.Path (path_tree p))

-- With n constructs open before it, at most `limit` are open at any token of it.
abbrev mutual
  pub CondFits : (limit n : ℕ) → Cond → Type 0
  CondFits limit n (cond_of a os) = AllFits limit n a × OrsFits limit n os

  pub OrsFits : (limit n : ℕ) → Ors → Type 0
  OrsFits limit n no_or = Unit {0}
  OrsFits limit n (or_more a os) = AllFits limit n a × OrsFits limit n os

  pub AllFits : (limit n : ℕ) → All → Type 0
  AllFits limit n (all a bs) = AtomFits limit n a × AndsFits limit n bs

  pub AndsFits : (limit n : ℕ) → Ands → Type 0
  AndsFits limit n no_and = Unit {0}
  AndsFits limit n (and_more a bs) = AtomFits limit n a × AndsFits limit n bs

  pub AtomFits : (limit n : ℕ) → Atom → Type 0
  AtomFits limit n (negated c) = (nat_lt n limit ≡ true) × CondFits limit (n + 1) c
  AtomFits limit n always = Unit {0}
  AtomFits limit n (existing p) = Unit {0}
  AtomFits limit n (grouped c) = (nat_lt n limit ≡ true) × CondFits limit (n + 1) c
  AtomFits limit n (compared p r o) = Unit {0}
  AtomFits limit n (literal_first l r p) = Unit {0}

-- Clause = Var "in" [Var] Step {Step}
pub data ClauseSyntax : Type 0 where
  clause : (at : ℕ) (name : List ℕ) → Source → ClauseSyntax

abbrev pub clause_tokens : ClauseSyntax → List Token
clause_tokens (clause at x s) = TVar at x ∷ TName in_ ∷ source_tokens s

abbrev pub a_clause : List ℕ → PathExpr → LoopClause
a_clause x p = record { var = x; path = p }

abbrev pub clause_tree : ClauseSyntax → LoopClause
clause_tree (clause at x s) = a_clause x (source_tree s)

-- {"," Clause}
pub data Clauses : Type 0 where
  no_clause : Clauses
  clause_more : ClauseSyntax → Clauses → Clauses

abbrev pub clauses_tokens : Clauses → List Token
clauses_tokens no_clause = []
clauses_tokens (clause_more c cs) = TSign signs.Comma ∷ (clause_tokens c ++ clauses_tokens cs)

abbrev pub clauses_tree : Clauses → List LoopClause
clauses_tree no_clause = []
clauses_tree (clause_more c cs) = clause_tree c ∷ clauses_tree cs

-- ["where" Cond]
pub data Where : Type 0 where
  no_where : Where
  where_cond : Cond → Where

abbrev pub where_tokens : Where → List Token
where_tokens no_where = []
where_tokens (where_cond c) = TName where_ ∷ cond_tokens c

abbrev pub where_tree : Where → Option QueryCondTree
where_tree no_where = None
where_tree (where_cond c) = Some (derived_cond c)

abbrev pub WhereFits : (limit n : ℕ) → Where → Type 0
WhereFits limit n no_where = Unit {0}
WhereFits limit n (where_cond c) = CondFits limit n c

-- Expr = For | If | Elem | Paren | Path
-- For = "for" Clause {"," Clause} ["where" Cond] "return" Expr
-- If = "if" "(" Cond ")" "then" Expr "else" Expr
-- Paren = "(" Inner     Inner = ")" | Expr {"," Expr} ")"
-- Elem = "<" Name Tag   Tag = "/>" | ">" Content      Content = "</" Name ">" | Elem Content | "{" Expr {"," Expr} "}" Content
mutual
  pub data Expr : Type 0 where
    for_expr : ClauseSyntax → Clauses → Where → Expr → Expr
    if_expr : Cond → Expr → Expr → Expr
    elem_expr : (name : List ℕ) → Tag → Expr
    paren_expr : Inner → Expr
    path_expr : Path → Expr

  pub data Inner : Type 0 where
    closed : Inner
    listed : Expr → Rest → Inner

  -- {"," Expr}
  pub data Rest : Type 0 where
    no_rest : Rest
    rest_more : Expr → Rest → Rest

  -- behind "<" Name
  pub data Tag : Type 0 where
    short : Tag
    long : Content → Tag

  -- behind "<" Name ">"
  pub data Content : Type 0 where
    ended : Content
    nested : (name : List ℕ) → Tag → Content → Content
    braced : Expr → Rest → Content → Content

-- The end tag of a constructor has the name of its start tag.
abbrev mutual
  pub expr_tokens : Expr → List Token
  expr_tokens (for_expr c cs w e) = TName for_ ∷ (clause_tokens c ++ (clauses_tokens cs ++ (where_tokens w ++ (TName return_ ∷ expr_tokens e))))
  expr_tokens (if_expr c a b) = TName if_ ∷ TSign signs.ParenOpen ∷ (cond_tokens c ++ (TSign signs.ParenClose ∷ TName then_ ∷ (expr_tokens a ++ (TName else_ ∷ expr_tokens b))))
  expr_tokens (elem_expr x t) = TSign signs.Lt ∷ TName x ∷ tag_tokens x t
  expr_tokens (paren_expr i) = TSign signs.ParenOpen ∷ inner_tokens i
  expr_tokens (path_expr p) = path_tokens p

  pub inner_tokens : Inner → List Token
  inner_tokens closed = TSign signs.ParenClose ∷ []
  inner_tokens (listed e r) = expr_tokens e ++ (rest_tokens r ++ (TSign signs.ParenClose ∷ []))

  pub rest_tokens : Rest → List Token
  rest_tokens no_rest = []
  rest_tokens (rest_more e r) = TSign signs.Comma ∷ (expr_tokens e ++ rest_tokens r)

  pub tag_tokens : (name : List ℕ) → Tag → List Token
  tag_tokens x short = TSign signs.EmptyEnd ∷ []
  tag_tokens x (long c) = TSign signs.Gt ∷ content_tokens x c

  pub content_tokens : (name : List ℕ) → Content → List Token
  content_tokens x ended = TSign signs.EndTag ∷ TName x ∷ TSign signs.Gt ∷ []
  content_tokens x (nested y t c) = TSign signs.Lt ∷ TName y ∷ (tag_tokens y t ++ content_tokens x c)
  content_tokens x (braced e r c) = TSign signs.BraceOpen ∷ (expr_tokens e ++ (rest_tokens r ++ (TSign signs.BraceClose ∷ content_tokens x c)))

-- `()` is empty, and a parenthesis of one expression is that expression.
abbrev pub seq_of : List ExprTree → ExprTree
seq_of [] = q.Empty
seq_of (e ∷ []) = e
seq_of (e ∷ f ∷ fs) = q.Seq (exprs_of (e ∷ f ∷ fs))

abbrev mutual
  pub derived_expr : Expr → ExprTree
  derived_expr (for_expr c cs w e) = q.QueryFor (clause_tree c ∷ clauses_tree cs) (where_tree w) (derived_expr e)
  derived_expr (if_expr c a b) = q.QueryIf (derived_cond c) (derived_expr a) (derived_expr b)
  derived_expr (elem_expr x t) = q.Elem x (exprs_of (tag_tree t))
  derived_expr (paren_expr i) = inner_tree i
  derived_expr (path_expr p) = q.QueryPath (path_tree p)

  pub inner_tree : Inner → ExprTree
  inner_tree closed = q.Empty
  inner_tree (listed e r) = seq_of (derived_expr e ∷ rest_tree r)

  pub rest_tree : Rest → List ExprTree
  rest_tree no_rest = []
  rest_tree (rest_more e r) = derived_expr e ∷ rest_tree r

  pub tag_tree : Tag → List ExprTree
  tag_tree short = []
  tag_tree (long c) = content_tree c

  pub content_tree : Content → List ExprTree
  content_tree ended = []
  content_tree (nested y t c) = q.Elem y (exprs_of (tag_tree t)) ∷ content_tree c
  content_tree (braced e r c) = (derived_expr e ∷ rest_tree r) ++ content_tree c

abbrev mutual
  pub ExprFits : (limit n : ℕ) → Expr → Type 0
  ExprFits limit n (for_expr c cs w e) = (nat_lt n limit ≡ true) × WhereFits limit (n + 1) w × ExprFits limit (n + 1) e
  ExprFits limit n (if_expr c a b) = (nat_lt n limit ≡ true) × CondFits limit (n + 1) c × ExprFits limit (n + 1) a × ExprFits limit (n + 1) b
  ExprFits limit n (elem_expr x t) = (nat_lt n limit ≡ true) × TagFits limit (n + 1) t
  ExprFits limit n (paren_expr i) = (nat_lt n limit ≡ true) × InnerFits limit (n + 1) i
  ExprFits limit n (path_expr p) = Unit {0}

  pub InnerFits : (limit n : ℕ) → Inner → Type 0
  InnerFits limit n closed = Unit {0}
  InnerFits limit n (listed e r) = ExprFits limit n e × RestFits limit n r

  pub RestFits : (limit n : ℕ) → Rest → Type 0
  RestFits limit n no_rest = Unit {0}
  RestFits limit n (rest_more e r) = ExprFits limit n e × RestFits limit n r

  pub TagFits : (limit n : ℕ) → Tag → Type 0
  TagFits limit n short = Unit {0}
  TagFits limit n (long c) = ContentFits limit n c

  pub ContentFits : (limit n : ℕ) → Content → Type 0
  ContentFits limit n ended = Unit {0}
  ContentFits limit n (nested y t c) = (nat_lt n limit ≡ true) × TagFits limit (n + 1) t × ContentFits limit n c
  ContentFits limit n (braced e r c) = ExprFits limit n e × RestFits limit n r × ContentFits limit n c

-- Query = Expr {"," Expr}
pub record Derivation : Type 0 where
  pub first : Expr
  pub others : Rest

abbrev pub derivation_tokens : Derivation → List Token
derivation_tokens d = expr_tokens d.first ++ rest_tokens d.others

abbrev pub derivation_tree : Derivation → List ExprTree
derivation_tree d = derived_expr d.first ∷ rest_tree d.others

-- The derivation spells the tokens, and nests at most `limit` constructs.
pub record Derives (limit : ℕ) (ts : List Token) (d : Derivation) : Type 0 where
  pub fits : ExprFits limit 0 d.first × RestFits limit 0 d.others
  pub spelled : derivation_tokens d ≡ ts

-- Some continuation of the tokens is a query: they are a front of one.
pub record Viable (limit : ℕ) (ts : List Token) : Type 0 where
  pub more : List Token
  pub whole : Derivation
  pub derives : Derives limit (ts ++ more) whole
