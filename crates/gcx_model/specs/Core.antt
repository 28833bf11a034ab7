-- Cores and plans as plain trees (ICDE 2007: loops over single steps, roles and signOff statements; that variables are numbers, and the items, are this project's).
use Rattle.std.specs.Prelude.{ℕ, ℤ, Bool, List}
use Rattle.gcx_base.specs.declared.rel.Rel.{Rel}
use Rattle.gcx_base.specs.declared.steps.Step.{Step}

-- one side of a comparison: a path from a variable, a string, or a number in units of 10^-18
pub data OperandTree : Type 0 where
  Path : (var : ℕ) (steps : List Step) → OperandTree
  Str : (bytes : List ℕ) → OperandTree
  Num : (units : ℤ) → OperandTree

mutual
  pub data CondTree : Type 0 where
    Always : CondTree
    Exists : (var : ℕ) (steps : List Step) → CondTree
    Compare : (left : OperandTree) (rel : Rel) (right : OperandTree) → CondTree
    Not : (condition : CondTree) → CondTree
    AllOf : (members : CondTrees) → CondTree
    AnyOf : (members : CondTrees) → CondTree

  pub data CondTrees : Type 0 where
    no_cond : CondTrees
    more_conds : (first : CondTree) (rest : CondTrees) → CondTrees

-- a role is given to the matches of a variable, to the first match of a tail at each of them, or to whole subtrees
pub data RoleTarget : Type 0 where
  Own : RoleTarget
  First : RoleTarget
  Whole : RoleTarget

-- a signOff statement: its base, the base's own role, the role, the steps from the base to the role's variable, the tail and the kind
pub record OffTree : Type 0 where
  pub base : ℕ
  pub own : ℕ
  pub role : ℕ
  pub rel : List Step
  pub tail : List Step
  pub kind : RoleTarget

mutual
  -- text that is written; a copy of a variable's node; a loop of a variable over one step from another one; a branch; a statement
  pub data ItemTree : Type 0 where
    Write : (bytes : List ℕ) → ItemTree
    Copy : (var : ℕ) → ItemTree
    For : (var from : ℕ) (step : Step) (body : BodyTree) → ItemTree
    If : (condition : CondTree) (this other : BodyTree) → ItemTree
    SignOff : (off : OffTree) → ItemTree

  pub data BodyTree : Type 0 where
    Nil : BodyTree
    Then : (first : ItemTree) (rest : BodyTree) → BodyTree

-- the loop of a variable: over this step from the parent
pub record VarRowTree : Type 0 where
  pub parent : ℕ
  pub step : Step

-- a role: its variable, a tail and a kind
pub record RoleRowTree : Type 0 where
  pub var : ℕ
  pub tail : List Step
  pub kind : RoleTarget

-- a plan: the core with statements in it; a row for each variable from 1; for each variable from 1, whether it is straight, and its fsa; the roles by their numbers
pub record PlanTree : Type 0 where
  pub body : BodyTree
  pub vars : List VarRowTree
  pub straight : List Bool
  pub fsa : List ℕ
  pub roles : List RoleRowTree
