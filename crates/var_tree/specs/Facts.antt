-- This follows the code, for its proofs: no public clause speaks of it.
-- What is kept of the variables while a core is read (this project's).
use Rattle.std.specs.Prelude.{ℕ, zero, suc, Bool, true, cond, ◌&&◌, ◌||◌, List, [], ◌∷◌, ◌++◌, ◌==◌, slice_index_or}
use Rattle.gcx_model.specs.Variables.{is_child}
use Rattle.var_tree.specs.declared.VarFacts.{VarFacts}
use Rattle.var_tree.specs.Loops.{Loop}

-- whether a variable is straight, its fsa, and whether its path has child steps alone
pub record Facts : Type 0 where
  pub straight : Bool
  pub fsa : ℕ
  pub only_child : Bool

-- of variable 0
abbrev pub root_facts : Facts
root_facts = record { straight = true; fsa = 0; only_child = true }

abbrev pub facts_of : VarFacts → Facts
facts_of f = record { straight = f.straight; fsa = f.fsa.0; only_child = f.only_child }

-- of a variable, where those of the variables from 1 are known
abbrev pub facts_at : List Facts → ℕ → Facts
facts_at known zero = root_facts
facts_at known (suc k) = slice_index_or known k root_facts

abbrev pub kept_facts : (straight : Bool) → Loop → (parent : Facts) → Facts
kept_facts c l p = record { straight = c; fsa = cond c l.var p.fsa; only_child = is_child l.step.axis && p.only_child }

-- of the variable of a loop
abbrev pub next_facts : Loop → (parent : Facts) → Facts
next_facts l p = kept_facts (p.straight && ((l.parent == l.outer) && (is_child l.step.axis || p.only_child))) l p

-- of the variables of these loops too
abbrev pub with_loops : List Facts → List Loop → List Facts
with_loops known [] = known
with_loops known (l ∷ ls) = with_loops (known ++ next_facts l (facts_at known l.parent) ∷ []) ls
