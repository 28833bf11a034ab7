-- How the conditions of a core in the code are seen as plain trees (this project's).
use Rattle.std.specs.Prelude.{List, [], ◌∷◌, map, box_value}
use Rattle.gcx_model.specs.declared.cond.Operand.{Operand}
use Rattle.gcx_model.specs.declared.cond.Operand.TheVariants as operand
use Rattle.gcx_model.specs.declared.cond.Cond.{Cond, Cond-F, fold-Cond}
use Rattle.gcx_model.specs.declared.cond.Cond.TheOpen as cond
use Rattle.gcx_model.specs.declared.cond.CondList.{CondList, CondList-F}
use Rattle.gcx_model.specs.Core.{OperandTree, Path, Str, Num, CondTree, CondTrees, Always, Exists, Compare, Not, AllOf, AnyOf, no_cond, more_conds}

-- the operand as a plain tree
abbrev pub operand_tree : Operand → OperandTree
operand_tree (operand.Path x steps) = Path x.0 steps
operand_tree (operand.Str b) = Str b
operand_tree (operand.Num l) = Num l

abbrev pub core_conds_of : List CondTree → CondTrees
core_conds_of [] = no_cond
core_conds_of (c ∷ cs) = more_conds c (core_conds_of cs)

abbrev pub core_cond_layer : Cond-F CondTree CondTrees → CondTree
core_cond_layer cond.True = Always
core_cond_layer (cond.Exists x steps) = Exists x.0 steps
core_cond_layer (cond.Compare l rel r) = Compare (operand_tree l) rel (operand_tree r)
core_cond_layer (cond.Not c) = Not (box_value c)
core_cond_layer (cond.All cs) = AllOf cs
core_cond_layer (cond.Any cs) = AnyOf cs

abbrev pub core_conds_layer : CondList-F CondTree CondTrees → CondTrees
core_conds_layer cs = core_conds_of cs.members.items

-- the condition as a plain tree
abbrev pub core_cond_tree : Cond → CondTree
core_cond_tree c = fold-Cond CondTree CondTrees core_cond_layer core_conds_layer c

abbrev pub core_cond_trees : CondList → List CondTree
core_cond_trees cs = map core_cond_tree cs.members.items
