-- What the calls make of the rows that open a node with a set of roles, pass one, or make its row late.
use Rattle.std.specs.Prelude.{◌≡◌, ◌+◌, ◌⊎◌, ℕ, true, List, [], ◌∷◌, ◌++◌, Option, Some, None, length, drop, not, max, is_some}
use Rattle.std.specs.FinSet as set
use Rattle.std.specs.Ordering.{nat_cmp}
use Rattle.gcx_base.specs.declared.kind.Kind.{Kind}
use Rattle.gcx_model.specs.Growth.{may_come}
use Rattle.gcx_model.specs.Held.{roles_given, roles_taken}
use Rattle.gcx_model.specs.Members.{In}
use Rattle.gcx_model.specs.Past.{Past, past_grown, token_for}
use Rattle.gcx_model.specs.Tree.{Node, TreeToken, grow}
use Rattle.spread_laws.specs.Tops.{roles_kept}
use Rattle.buf_tree.specs.Row.{Row}
use Rattle.buf_tree.specs.Calls.{less, with_new, gone_new, most_new}
use Rattle.buf_tree.specs.Loose.{Passed, cells_passed, StandsLoosely}
use Rattle.buf_tree.specs.Rows.{is_bare, below_row}
use Rattle.buf_tree.specs.Shape.{Cell, at_place}
use Rattle.buf_tree.specs.Stands.{StandsFor}
use Rattle.buf_tree.specs.View.{View, capped, num_in, level_in}

-- the row of a new node with these roles, below the place q
abbrev pub row_with : View → (q : ℕ) → Kind → set.FinSet nat_cmp → Row
row_with v q kind roles = below_row (num_in (at_place q v.rows)) (level_in (at_place q v.rows)) v.nodes kind roles

-- A node opened with these roles below the place q, where so many others are taken in advance: all rows stay, and the new one stands behind them or is gone.
pub record OpenedWith (v w : View) (q : ℕ) (at : Option ℕ) (kind : Kind) (roles : set.FinSet nat_cmp) (ahead : ℕ) : Type 0 where
  pub rows : w.rows ≡ with_new at (row_with v q kind roles) v.rows
  pub gone : w.gone ≡ v.gone ++ gone_new at v.nodes
  pub held : is_some at ≡ not (is_bare kind roles)
  pub free : (c : Cell) → In c v.rows → at ≡ Some c.place → ⊥
  pub waiting : w.waiting ≡ v.waiting
  pub nodes : w.nodes ≡ v.nodes + 1
  pub taken : w.taken ≡ capped (v.taken + ahead)
  pub most : w.most ≡ most_new at v
  pub spread : w.spread ≡ v.spread

-- of the roles that the node is given which the token opens, these are left that aren't taken in advance
abbrev pub LeftTo : Past → TreeToken → set.FinSet nat_cmp → Type 0
LeftTo past t roles = (n : Node) → drop (length past.tree.nodes) (grow t past.tree).nodes ≡ n ∷ []
    → roles ≡ set.from_list (less (roles_given past.plan (grow t past.tree) n) (roles_taken past.plan (grow t past.tree) past.acts n))

-- Where roles are spread, the token may come behind one past at least for which the buffer stands, and these are left to the node.
abbrev pub MayOpenWith : View → TreeToken → set.FinSet nat_cmp → Type 0
MayOpenWith v t roles = (v.spread ≡ None) ⊎ ((past : Past) × StandsFor v past × (may_come t past.tree ≡ true) × LeftTo past t roles)

-- of the roles of the node that the token opens these are kept at it, where roles are spread
abbrev pub KeptTo : Past → TreeToken → set.FinSet nat_cmp → Type 0
KeptTo past t kept = (n : Node) → drop (length past.tree.nodes) (grow t past.tree).nodes ≡ n ∷ []
    → kept ≡ set.from_list (roles_kept (past_grown t past) n)

-- The same as `MayOpenWith`, and behind that past these are kept at the node.
abbrev pub MayOpenKept : View → TreeToken → (given kept : set.FinSet nat_cmp) → Type 0
MayOpenKept v t given kept = (v.spread ≡ None)
    ⊎ ((past : Past) × StandsFor v past × (may_come t past.tree ≡ true) × LeftTo past t given × KeptTo past t kept)

-- from v to w such a node came: for each past for which v stands, w stands for that with the node
abbrev pub StandsWith : (v w : View) → Kind → set.FinSet nat_cmp → Type 0
StandsWith v w kind roles = (past : Past) → StandsFor v past → may_come (token_for kind) past.tree ≡ true → LeftTo past (token_for kind) roles
    → StandsFor w (past_grown (token_for kind) past)

-- `open_passed`, at the place p: all rows stay, and that of the passed element stands behind them, below the last open one
pub record OpenedPassed (v w : View) (p : ℕ) (x : Passed) : Type 0 where
  pub rows : w.rows ≡ v.rows ++ cells_passed (p ∷ []) (x ∷ []) v.rows
  pub gone : w.gone ≡ v.gone
  pub free : (c : Cell) → In c v.rows → c.place ≡ p → ⊥
  pub waiting : w.waiting ≡ v.waiting
  pub nodes : w.nodes ≡ v.nodes
  pub taken : w.taken ≡ v.taken
  pub most : w.most ≡ max v.most (length v.rows + 1)
  pub spread : w.spread ≡ v.spread

-- Where roles are spread, the buffer stands loosely for one past at least, where this is the outermost passed element.
abbrev pub MayRest : View → Passed → Type 0
MayRest v x = (v.spread ≡ None) ⊎ ((xs : List Passed) × (past : Past) × StandsLoosely (x ∷ xs) v past)

-- with the row of the outermost passed element the others are passed below it
abbrev pub RestsLoosely : (v w : View) → Passed → Type 0
RestsLoosely v w x = (xs : List Passed) (past : Past) → StandsLoosely (x ∷ xs) v past → StandsLoosely xs w past
