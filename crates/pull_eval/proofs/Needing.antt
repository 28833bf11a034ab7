-- What the item that comes next uses is bound, and what it needs is held.
use Rattle.std.proofs.Common.{◌≡◌, ℕ, true, List, [], ◌∷◌, sym, subst, inl}
use Rattle.gcx_model.specs.Tree.{Node}
use Rattle.gcx_model.specs.Members.{In}
use Rattle.gcx_model.specs.Core.{ItemTree, BodyTree, Then}
use Rattle.gcx_model.specs.Run.{Action}
use Rattle.gcx_model.specs.Held.{path_of, is_held, held}
use Rattle.gcx_model.specs.Points.{so_far, Frame, Rest, PointAt}
use Rattle.gcx_model.specs.Needs.{Needs, Item_needs, Uses}
use Rattle.gcx_model.specs.Past.{Past}
use Rattle.tree_laws.proofs.Lists.{In-filter}
use Rattle.tree_laws.proofs.Matches.{Matches-in}
use Rattle.placed_laws.proofs.PointNeeds.{need_law, bound_law}
use Rattle.buf_tree.specs.View.{View}
use Rattle.cond_eval.specs.Asking.{IsBound}
use Rattle.pull_eval.specs.Acting.{Beside, IsNextItem}
use Rattle.pull_eval.specs.declared.position.Position.{Position}
use Rattle.pull_eval.proofs.HeldRows.{holds}
use Rattle.pull_eval.proofs.Frames.{at_item}

-- a node that is held after the first k actions is one that is held beside the past
pub held_now : (w : Position) (v : View) (past : Past) (k : ℕ) → Beside w v past k → (m : Node) → In m (held past.plan past.tree (so_far past.plan past.tree k)) → holds past m ≡ true
held_now w v past k b m i =
    (In-filter (is_held past.plan past.tree past.acts) m past.tree.nodes (subst (λ (A : List Action). In m (held past.plan past.tree A)) (sym b.acts) i)).1

-- what a point of the plan's frames needs is held
pub needed_held : (w : Position) (v : View) (past : Past) (k : ℕ) → Beside w v past k → (fs : List Frame) → PointAt past.plan past.tree k fs → (m : Node) → In m past.tree.nodes → Needs past.tree [] fs m → holds past m ≡ true
needed_held w v past k b fs p m i h = let is = b.buffer.is_past in held_now w v past k b m (need_law is.core is.good past.plan is.placed past.tree k b.state fs p m i h)

module _ (w : Position) (v : View) (past : Past) (k : ℕ) (b : Beside w v past k) (i : ItemTree) (d : BodyTree) (n : IsNextItem w i d) where
  -- a variable that the item uses is bound to a node of the tree
  pub used_in : (x : ℕ) → Uses i x → In ((at_item w v past k b i d n).env x) past.tree.nodes
  used_in x u =
      let is = b.buffer.is_past in
      let a = at_item w v past k b i d n in
      (Matches-in past.tree 0 (path_of past.plan x) (a.env x) (bound_law is.core is.good past.plan is.placed past.tree k b.state [] a.below i d a.env a.point.point x u).1).0

  pub used_bound : w.is_begun ≡ true → (x : ℕ) → Uses i x → IsBound v.rows w.env x ((at_item w v past k b i d n).env x)
  used_bound begun x u =
      let is = b.buffer.is_past in
      let a = at_item w v past k b i d n in
      a.bound begun x (a.env x) (bound_law is.core is.good past.plan is.placed past.tree k b.state [] a.below i d a.env a.point.point x u).0

  -- and what the item needs is held
  pub item_held : (m : Node) → In m past.tree.nodes → Item_needs past.tree (at_item w v past k b i d n).env i m → holds past m ≡ true
  item_held m j h = let a = at_item w v past k b i d n in needed_held w v past k b (Rest (Then i d) a.env ∷ a.below) a.point.point m j (inl h)
