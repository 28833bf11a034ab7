-- What a point needs (this project's).
use Rattle.std.specs.Prelude.{◌≡◌, ℕ, true, List, [], ◌∷◌, ◌++◌, ◌⊎◌, Some}
use Rattle.gcx_model.specs.Tree.{Node, Root, serial_of, within, Tree}
use Rattle.gcx_model.specs.Paths.{matches, first}
use Rattle.gcx_model.specs.Members.{In}
use Rattle.gcx_model.specs.Core.{OperandTree, Path, Str, Num, CondTree, CondTrees, Always, Exists, Compare, Not, AllOf, AnyOf, no_cond, more_conds, ItemTree, Write, Copy, For, If, SignOff, BodyTree, Nil, Then, RoleRowTree}
use Rattle.gcx_model.specs.Truth.{Env}
use Rattle.gcx_model.specs.Run.{idle}
use Rattle.gcx_model.specs.Roles.{cond_rows}
use Rattle.gcx_model.specs.Points.{Frame, Rest, LoopRound, CopyPart, later, to_come}

-- a compared operand needs each of its matches with the whole subtree
abbrev pub Operand_needs : Tree → Env → OperandTree → Node → Type 0
Operand_needs P env (Path x steps) m = (j : Node) × In j (matches P (serial_of (env x)) steps) × (within (serial_of j) m ≡ true)
Operand_needs P env (Str b) m = ⊥
Operand_needs P env (Num l) m = ⊥

-- a condition needs the first match of each tail of an exists, and what its operands need
abbrev mutual
  pub Cond_needs : Tree → Env → CondTree → Node → Type 0
  Cond_needs P env Always m = ⊥
  Cond_needs P env (Exists x steps) m = first P (serial_of (env x)) steps ≡ Some m
  Cond_needs P env (Compare l rel r) m = Operand_needs P env l m ⊎ Operand_needs P env r m
  Cond_needs P env (Not c) m = Cond_needs P env c m
  Cond_needs P env (AllOf cs) m = Conds_need P env cs m
  Cond_needs P env (AnyOf cs) m = Conds_need P env cs m

  pub Conds_need : Tree → Env → CondTrees → Node → Type 0
  Conds_need P env no_cond m = ⊥
  Conds_need P env (more_conds c cs) m = Cond_needs P env c m ⊎ Conds_need P env cs m

-- the item with which a body goes on needs the nodes of its variables; a loop its matches too, a condition what it needs, a copy the whole subtree
abbrev pub Item_needs : Tree → Env → ItemTree → Node → Type 0
Item_needs P env (Write s) m = ⊥
Item_needs P env (Copy x) m = within (serial_of (env x)) m ≡ true
Item_needs P env (For x y s d) m = (env y ≡ m) ⊎ In m (matches P (serial_of (env y)) (s ∷ []))
Item_needs P env (If c a b) m = Cond_needs P env c m ⊎ ((r : RoleRowTree) × In r (cond_rows c) × (env r.var ≡ m))
Item_needs P env (SignOff o) m = env o.base ≡ m

abbrev pub Body_needs : Tree → Env → BodyTree → Node → Type 0
Body_needs P env Nil m = ⊥
Body_needs P env (Then i d) m = Item_needs P env i m

-- What a frame needs, under those above it: of a body what the item with which it goes on needs; of a round the present match, unless its body is done and its last action is taken, the later ones, and the parent's node; of a copy the whole subtree.
abbrev pub Frame_needs : Tree → (top : List Frame) → Frame → Node → Type 0
Frame_needs P top (Rest d env) m = Body_needs P env d m
Frame_needs P top (LoopRound x y s e env n) m = (((to_come P top ≡ idle true → ⊥) × (n ≡ m)) ⊎ In m (later n (matches P (serial_of (env y)) (s ∷ [])))) ⊎ (env y ≡ m)
Frame_needs P top (CopyPart x env k) m = within (serial_of (env x)) m ≡ true

-- what a point needs: that of each frame, and the document node, to which variable 0 is bound, until all is done and the last action is taken
abbrev pub Needs : Tree → (top fs : List Frame) → Node → Type 0
Needs P top [] m = (to_come P top ≡ idle true → ⊥) × (Root ≡ m)
Needs P top (f ∷ fs) m = Frame_needs P top f m ⊎ Needs P (top ++ f ∷ []) fs m

-- the item uses the variable
abbrev pub Uses : ItemTree → ℕ → Type 0
Uses (Write s) x = ⊥
Uses (Copy y) x = y ≡ x
Uses (For z y s d) x = y ≡ x
Uses (If c a b) x = (r : RoleRowTree) × In r (cond_rows c) × (r.var ≡ x)
Uses (SignOff o) x = o.base ≡ x
