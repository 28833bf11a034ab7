-- What is known of a condition over an open tree (this project's: a comparison waits for closed nodes, and a connective settles from the left).
use Rattle.std.specs.Prelude.{ℕ, Bool, true, false, cond, ◌&&◌, List, [], ◌∷◌, map, ◌==◌, filter}
use Rattle.gcx_model.specs.declared.truth.Truth.{Truth}
use Rattle.gcx_model.specs.declared.truth.Truth.TheVariants.{True, False, Unknown}
use Rattle.gcx_model.specs.Tree.{Node, serial_of, Tree, is_closed}
use Rattle.gcx_model.specs.Paths.{matches, value}
use Rattle.gcx_model.specs.Values.{ComparedValue, Bytes, Units, compare}
use Rattle.gcx_model.specs.Answer.{is_any, some_pair}
use Rattle.gcx_model.specs.Core.{OperandTree, Path, Str, Num, CondTree, CondTrees, Always, Exists, Compare, Not, AllOf, AnyOf, no_cond, more_conds}

-- the node to which each variable is bound
abbrev pub Env : Type 0
Env = ℕ → Node

abbrev pub bind_var : Env → ℕ → Node → Env
bind_var env x n = λ y. cond (y == x) n (env y)

abbrev pub node_value : Tree → Node → ComparedValue
node_value P n = Bytes (value P n)

-- a literal, or the values of the closed nodes for which the operand stands so far
abbrev pub settled_values : Tree → Env → OperandTree → List ComparedValue
settled_values P env (Path x steps) = map (node_value P) (filter (is_closed P) (matches P (serial_of (env x)) steps))
settled_values P env (Str b) = Bytes b ∷ []
settled_values P env (Num l) = Units l ∷ []

-- no more values come
abbrev pub is_over : Tree → Env → OperandTree → Bool
is_over P env (Path x steps) = is_closed P (env x)
is_over P env (Str b) = true
is_over P env (Num l) = true

-- true once found, false once nothing more can come
abbrev pub settle : (found over : Bool) → Truth
settle true over = True
settle false true = False
settle false false = Unknown

abbrev pub negate : Truth → Truth
negate True = False
negate False = True
negate Unknown = Unknown

-- the first that isn't True
abbrev pub both : Truth → Truth → Truth
both True v = v
both False v = False
both Unknown v = Unknown

-- the first that isn't False
abbrev pub either : Truth → Truth → Truth
either False v = v
either True v = True
either Unknown v = Unknown

-- Truth
abbrev mutual
  pub truth : CondTree → Env → Tree → Truth
  truth Always env P = True
  truth (Exists x steps) env P = settle (is_any (matches P (serial_of (env x)) steps)) (is_closed P (env x))
  truth (Compare l rel r) env P = settle (some_pair (compare rel) (settled_values P env l) (settled_values P env r)) (is_over P env l && is_over P env r)
  truth (Not c) env P = negate (truth c env P)
  truth (AllOf cs) env P = truth_all cs env P
  truth (AnyOf cs) env P = truth_any cs env P

  pub truth_all : CondTrees → Env → Tree → Truth
  truth_all no_cond env P = True
  truth_all (more_conds c cs) env P = both (truth c env P) (truth_all cs env P)

  pub truth_any : CondTrees → Env → Tree → Truth
  truth_any no_cond env P = False
  truth_any (more_conds c cs) env P = either (truth c env P) (truth_any cs env P)
