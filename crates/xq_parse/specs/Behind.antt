-- This follows the code, for its proofs: no public clause speaks of it.
-- What the machine expects behind a token that was looked at.
use Rattle.std.specs.Prelude.{ℕ, ◌≡◌, ◌+◌, ◌-◌, ◌<◌, ◌≤◌, length, drop, List, Option, Some, None}
use Rattle.gcx_base.specs.declared.steps.Axis.TheVariants as axes
use Rattle.gcx_base.specs.declared.steps.Step.{Step}
use Rattle.gcx_model.specs.declared.query.QOperand.{QOperand}
use Rattle.gcx_model.specs.Query.{QueryCondTree, ExprTree}
use Rattle.xq_lex.specs.declared.sign.Sign.TheVariants as signs
use Rattle.xq_parse.specs.declared.route.Var.{Var}
use Rattle.xq_parse.specs.declared.route.Route.{Route}
use Rattle.xq_parse.specs.declared.marks.Marks.{Marks}
use Rattle.xq_parse.specs.declared.conditions.AtomStart.{AtomStart}
use Rattle.xq_parse.specs.declared.conditions.AtomStart.TheVariants as atoms
use Rattle.xq_parse.specs.declared.expressions.ExprStart.{ExprStart}
use Rattle.xq_parse.specs.declared.expressions.ExprStart.TheVariants as exprs
use Rattle.xq_parse.specs.declared.expressions.Part.{Part}
use Rattle.xq_parse.specs.declared.expressions.Part.TheVariants as parts
use Rattle.xq_parse.specs.Places.{Scope}
use Rattle.xq_parse.specs.Machine.{State, deepest, sign, end_name, axis_or_name, test, steps, steps_state, no_trail, with_start, path, inner, side_seen, path_seen, not_state, true_state, exists_state, group_state, literal_state, compare_state, for_state, if_state, elem_state, after_nested, braces_state}

abbrev pub axis_found : Option (List ℕ) → (Step → State) → State
axis_found None k = test axes.Child k
axis_found (Some x) k = axis_or_name x k

abbrev pub path_behind : Option Var → (Route → State) → State
path_behind None k = steps_state (with_start None k)
path_behind (Some v) k = steps no_trail (with_start (Some v) k)

abbrev pub operand_behind : Option QOperand → Scope → Marks → (Marks → QOperand → State) → State
operand_behind None sc m k = path (side_seen sc m k)
operand_behind (Some o) sc m k = k m o

-- what stands behind the beginning of an atom
abbrev pub atom_behind : ℕ → Scope → Marks → AtomStart → (Marks → QueryCondTree → State) → State
atom_behind n sc m atoms.Not k = not_state (n + 1) sc m k
atom_behind n sc m atoms.True k = true_state m k
atom_behind n sc m atoms.Exists k = exists_state sc m k
atom_behind n sc m atoms.Group k = group_state (n + 1) sc m k
atom_behind n sc m (atoms.Literal l) k = literal_state l sc m k
atom_behind n sc m atoms.Path k = path (compare_state sc m k)

-- what opens a construct has room for it
abbrev pub HasRoom : ℕ → AtomStart → Type 0
HasRoom n atoms.Not = n < deepest
HasRoom n atoms.Group = n < deepest
HasRoom n s = Unit {0}

-- what stands behind the beginning of an expression
abbrev pub expr_behind : ℕ → Scope → Marks → ExprStart → (Marks → ExprTree → State) → State
expr_behind n sc m exprs.For k = for_state (n + 1) sc m k
expr_behind n sc m exprs.If k = if_state (n + 1) sc m k
expr_behind n sc m exprs.Elem k = elem_state (n + 1) sc m k
expr_behind n sc m exprs.Paren k = inner (n + 1) sc m k
expr_behind n sc m exprs.Path k = path (path_seen sc m k)

abbrev pub ExprHasRoom : ℕ → ExprStart → Type 0
ExprHasRoom n exprs.Path = Unit {0}
ExprHasRoom n s = n < deepest

-- what stands behind the beginning of a part of a constructor
abbrev pub part_behind : ℕ → Scope → Marks → List ℕ → List ExprTree → Part → (Marks → List ExprTree → State) → State
part_behind n sc m x body parts.End k = end_name x (sign signs.Gt (k m body))
part_behind n sc m x body parts.Nested k = elem_state (n + 1) sc m (after_nested n sc x body k)
part_behind n sc m x body parts.Braced k = braces_state n sc m x body k

abbrev pub PartHasRoom : ℕ → Part → Type 0
PartHasRoom n parts.Nested = n < deepest
PartHasRoom n s = Unit {0}

-- The scope is another one with more names inside.
pub record Extends (inner outer : Scope) : Type 0 where
  pub longer : length outer ≤ length inner
  pub same : drop (length inner - length outer) inner ≡ outer
