-- A plan as the proofs read it: the path of each variable, the role rows, and the statement of each role.
use Rattle.std.proofs.Common.{ℕ, Bool, false, not, ◌&&◌, ◌||◌, List, [], ◌∷◌, eqb}
use Rattle.std.specs.List.{filter}
use Rattle.gcx_base.specs.declared.steps.Step.{Step}
use Rattle.gcx_model.specs.Tree.{Node, Root, Under, serial_of, within, Tree, is_open_at}
use Rattle.gcx_model.specs.Paths.{any, all, matches}
use Rattle.gcx_model.specs.Core.{OffTree, BodyTree, RoleRowTree}
use Rattle.gcx_model.specs.Variables.{var_tree}
use Rattle.gcx_model.specs.Roles.{roles_of}
use Rattle.gcx_model.specs.Run.{Action}
use Rattle.gcx_model.specs.Placed.{offs_of, placed_body}
use Rattle.gcx_model.specs.Held.{gives, is_off}

pub record Reading : Type 0 where
  pub body : BodyTree
  pub paths : ℕ → List Step
  pub roles : List RoleRowTree
  pub offs : List OffTree

abbrev pub reading : BodyTree → Reading
reading core = record { body = placed_body core; paths = λ x. (var_tree core x).path; roles = roles_of core; offs = offs_of core }

abbrev pub given : Reading → Tree → Node → RoleRowTree → Bool
given p P n r = gives P 0 (p.paths r.var) r.tail r.kind n

abbrev pub signed : Tree → List Action → OffTree → Node → Bool
signed P A o m = any (is_off o (serial_of m)) A

abbrev pub taken : Reading → Tree → List Action → Node → RoleRowTree → OffTree → Bool
taken p P A n r o = given p P n r && all (λ m. not (gives P (serial_of m) o.rel o.tail o.kind n) || signed P A o m) (matches P 0 (p.paths o.base))

-- some role of these rows is live at n
abbrev pub live_some : Reading → Tree → List Action → Node → List RoleRowTree → List OffTree → Bool
live_some p P A n [] os = false
live_some p P A n (r ∷ rs) [] = false
live_some p P A n (r ∷ rs) (o ∷ os) = (given p P n r && not (taken p P A n r o)) || live_some p P A n rs os

abbrev pub is_live : Reading → Tree → List Action → Node → Bool
is_live p P A n = live_some p P A n p.roles p.offs

abbrev pub is_held : Reading → Tree → List Action → Node → Bool
is_held p P A n = is_open_at P.at (serial_of n) || any (λ m. within (serial_of n) m && is_live p P A m) P.nodes

abbrev pub held : Reading → Tree → List Action → List Node
held p P A = filter (is_held p P A) P.nodes

-- n is the parent's serial
abbrev pub is_child_of : ℕ → Node → Bool
is_child_of n Root = false
is_child_of n (Under p s k) = eqb (serial_of p) n
