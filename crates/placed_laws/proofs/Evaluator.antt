-- At each point: how its variables are bound, which statements wait, and that the evaluator sees in the held rows what it would see in the whole tree.
use Rattle.std.proofs.Common.{◌≡◌, ℕ, true, List, [], ◌∷◌, ◌++◌, refl, sym, ap, subst, inl, inr, append_assoc, ltb}
use Rattle.placed_laws.proofs.CorePlans.{good_zero}
use Rattle.gcx_model.specs.Needs.{Uses}
use Rattle.gcx_model.specs.Tree.{Node, serial_of, Tree, TreeToken}
use Rattle.gcx_base.specs.declared.steps.Step.{Step}
use Rattle.gcx_model.specs.Paths.{hits, matches}
use Rattle.gcx_model.specs.Core.{CondTree, For, If, SignOff, BodyTree, Then, OffTree, ItemTree, Write, Copy}
use Rattle.gcx_model.specs.Truth.{Env, truth}
use Rattle.gcx_model.specs.Run.{env0, Offed, copy}
use Rattle.tree_laws.proofs.Reading.{is_held, reading}
use Rattle.gcx_model.specs.Variables.{var_tree}
use Rattle.gcx_model.specs.Roles.{whole_row, roles_of}
use Rattle.gcx_model.specs.Cores.{Good}
use Rattle.tree_laws.proofs.Lists.{In, In-filter}
use Rattle.tree_laws.proofs.Matches.{Matches-in, Grown}
use Rattle.placed_laws.proofs.PointForms.{Frame, Rest, LoopRound, CopyPart, IsPoint, later}
use Rattle.placed_laws.proofs.Waits.{Waits, waits_unsigned, Waits-right}
use Rattle.placed_laws.proofs.Frames.{waits_bound, Here, Bound_in, Turn, Fact, Facts, facts, hit_on, Loop, Fact_item, bound_hit}
use Rattle.placed_laws.proofs.Need.{Frame_needs, Needs, needs_held}
use Rattle.placed_laws.proofs.Local.{later_held}
use Rattle.placed_laws.proofs.Pruned.{pruned, matches_kept, truth_kept, copy_kept}
use Rattle.tree_laws.proofs.Fed.{tree, grown, root_in}
use Rattle.placed_laws.proofs.CoreStates.{so_far, plan_way, offed_sig}

-- what a frame needs the point needs
frame_needs : (P : Tree) (pre top : List Frame) (f : Frame) (below : List Frame) (m : Node) → Frame_needs P (pre ++ top) f m → Needs P pre (top ++ f ∷ below) m
frame_needs P pre [] f below m h = inl (subst (λ (z : List Frame). Frame_needs P z f m) (append_none pre) h)
  where
    append_none : (xs : List Frame) → xs ++ [] ≡ xs
    append_none [] = refl
    append_none (x ∷ xs) = ap (λ z. x ∷ z) (append_none xs)
frame_needs P pre (g ∷ top) f below m h = inr (frame_needs P (pre ++ g ∷ []) top f below m (subst (λ (z : List Frame). Frame_needs P z f m) (sym (append_assoc pre (g ∷ []) top)) h))

-- the tree of the held nodes
abbrev pub held_tree : BodyTree → Tree → ℕ → Tree
held_tree core P k = pruned (is_held (reading core) P (so_far core P k)) P

module _ (core : BodyTree) (good : Good core) (ts : List TreeToken) (k : ℕ) (top : List Frame) (below : List Frame) where
  abbrev pub At : Frame → Type 0
  At f = IsPoint (tree ts) (reading core).body env0 (so_far core (tree ts) k) (top ++ f ∷ below)

  frame_held : (f : Frame) → At f → (m : Node) → In m (tree ts).nodes → Frame_needs (tree ts) top f m → is_held (reading core) (tree ts) (so_far core (tree ts) k) m ≡ true
  frame_held f st m i h = needs_held (tree ts) (grown ts) (root_in ts) core good (so_far core (tree ts) k) (top ++ f ∷ below) st m i (frame_needs (tree ts) [] top f below m h)

  -- the condition with which a frame goes on has over the held nodes the truth that it has over the tree
  pub truth_held : (c : CondTree) (a b d : BodyTree) (env : Env) → At (Rest (Then (If c a b) d) env) → truth c env (held_tree core (tree ts) k) ≡ truth c env (tree ts)
  truth_held c a b d env st = truth_kept (tree ts) (grown ts) (is_held (reading core) (tree ts) (so_far core (tree ts) k)) c env (λ m i h. frame_held (Rest (Then (If c a b) d) env) st m i (inl h))

  -- so have the later matches of a loop
  pub turns_held : (x y : ℕ) (s : Step) (e : BodyTree) (env : Env) (n : Node) → At (LoopRound x y s e env n) → later n (matches (held_tree core (tree ts) k) (serial_of (env y)) (s ∷ [])) ≡ later n (matches (tree ts) (serial_of (env y)) (s ∷ []))
  turns_held x y s e env n st = later_held (reading core) (tree ts) (so_far core (tree ts) k) (serial_of (env y)) (s ∷ []) n (λ m i.
      frame_held (LoopRound x y s e env n) st m (Matches-in (tree ts) (serial_of (env y)) (s ∷ []) m (In-filter (λ (j : Node). ltb (serial_of n) (serial_of j)) m (matches (tree ts) (serial_of (env y)) (s ∷ [])) i).0).0 (inl (inr i)))

  -- and all matches of a loop that comes next
  pub loop_held : (x y : ℕ) (s : Step) (e d : BodyTree) (env : Env) → At (Rest (Then (For x y s e) d) env) → matches (held_tree core (tree ts) k) (serial_of (env y)) (s ∷ []) ≡ matches (tree ts) (serial_of (env y)) (s ∷ [])
  loop_held x y s e d env st = matches_kept (tree ts) (grown ts) (is_held (reading core) (tree ts) (so_far core (tree ts) k)) (serial_of (env y)) (s ∷ []) (λ m i.
      frame_held (Rest (Then (For x y s e) d) env) st m (Matches-in (tree ts) (serial_of (env y)) (s ∷ []) m i).0 (inr i))

  facts_at : (pre top : List Frame) (f : Frame) → Facts (tree ts) (grown ts) core good pre (top ++ f ∷ below) → Fact (tree ts) (grown ts) core good (pre ++ top) f below
  facts_at pre [] f h = subst (λ (z : List Frame). Fact (tree ts) (grown ts) core good z f below) (append_none pre) h.0
    where
      append_none : (xs : List Frame) → xs ≡ xs ++ []
      append_none [] = refl
      append_none (x ∷ xs) = ap (λ z. x ∷ z) (append_none xs)
  facts_at pre (g ∷ top) f h = subst (λ (z : List Frame). Fact (tree ts) (grown ts) core good z f below) (append_assoc pre (g ∷ []) top) (facts_at (pre ++ g ∷ []) top f h.1)

  pub fact : (f : Frame) → At f → Fact (tree ts) (grown ts) core good top f below
  fact f st = facts_at [] top f (facts (tree ts) (grown ts) core good (root_in ts) (so_far core (tree ts) k) (top ++ f ∷ below) st)

  -- the present match of a loop is a match of its step from its parent's node, and of the variable's path
  pub turn_bound : (x y : ℕ) (s : Step) (e : BodyTree) (env : Env) (n : Node) → At (LoopRound x y s e env n)
      → In n (matches (tree ts) (serial_of (env y)) (s ∷ [])) × (hits 0 ((reading core).paths y) (env y) ≡ true) × (hits 0 ((reading core).paths x) n ≡ true)
  turn_bound x y s e env n st = let t : Turn (tree ts) (grown ts) core good top x y s e env n below = fact (LoopRound x y s e env n) st in (t.match, t.parent.hit, hit_on (tree ts) (grown ts) core good x y s t.straight t.var (env y) n t.parent.inside t.parent.hit t.match)

  -- the parent of a loop's variable is bound below to the node at which the loop runs
  pub parent_bound : (x y : ℕ) (s : Step) (e : BodyTree) (env : Env) (n : Node) → At (LoopRound x y s e env n) → Bound_in y (env y) below
  parent_bound x y s e env n st = let t : Turn (tree ts) (grown ts) core good top x y s e env n below = fact (LoopRound x y s e env n) st in t.bound

  -- a copy of the held nodes is one of the tree
  pub copy_held : (x : ℕ) (env : Env) (made : ℕ) → At (CopyPart x env made) → (most : ℕ) → copy most (held_tree core (tree ts) k) (env x) ≡ copy most (tree ts) (env x)
  copy_held x env made st most =
      let f : In (whole_row x) (roles_of core) × Here (tree ts) (grown ts) core good x (env x) below = fact (CopyPart x env made) st in
      copy_kept (tree ts) (grown ts) (is_held (reading core) (tree ts) (so_far core (tree ts) k)) most (env x) f.1.0.inside (λ m i h. frame_held (CopyPart x env made) st m i h)

-- At each point, a statement waits only where its base is bound, to the node at which it will be carried out.
pub waits_only : (core : BodyTree) (good : Good core) (ts : List TreeToken) (k : ℕ) (fs : List Frame) → IsPoint (tree ts) (reading core).body env0 (so_far core (tree ts) k) fs
    → (o : OffTree) (v : Env) → Waits o v fs → In o (reading core).offs × Bound_in o.base (v o.base) fs
waits_only core good ts k fs st o v h = waits_bound (tree ts) (grown ts) core good [] fs o v (facts (tree ts) (grown ts) core good (root_in ts) (so_far core (tree ts) k) fs st) h

-- While it waits, the base's node isn't signed for it.
pub waits_unsigned_at : (core : BodyTree) (good : Good core) (ts : List TreeToken) (k : ℕ) (fs : List Frame) → IsPoint (tree ts) (reading core).body env0 (so_far core (tree ts) k) fs
    → (o : OffTree) (v : Env) → Waits o v fs → In (Offed o (serial_of (v o.base))) (so_far core (tree ts) k) → ⊥
waits_unsigned_at core good ts k fs st o v h i =
    let y = plan_way core good o (waits_only core good ts k fs st o v h).0 in
    waits_unsigned (tree ts) (grown ts) (root_in ts) (reading core).body o (var_tree core o.base).path y.0 y.1 (so_far core (tree ts) k) fs st v h (offed_sig o (serial_of (v o.base)) (so_far core (tree ts) k) i)

-- what an item uses is bound below
uses_bound : (P : Tree) (w : Grown P) (core : BodyTree) (good : Good core) (i : ItemTree) (env : Env) (fs : List Frame) → Fact_item P w core good i env fs → (x : ℕ) → Uses i x → Bound_in x (env x) fs
uses_bound P w core good (Write s) env fs f x u = absurd u
uses_bound P w core good (Copy y) env fs f x u = subst (λ (z : ℕ). Bound_in z (env z) fs) u f.1.1
uses_bound P w core good (For z y s d) env fs f x u = let l : Loop P w core good z y s d env fs = f in subst (λ (z : ℕ). Bound_in z (env z) fs) u l.bound
uses_bound P w core good (If c a b) env fs f x u = subst (λ (z : ℕ). Bound_in z (env z) fs) u.2 (f u.0 u.1).1.1
uses_bound P w core good (SignOff o) env fs f x u = subst (λ (z : ℕ). Bound_in z (env z) fs) u f

module _ (core : BodyTree) (good : Good core) (ts : List TreeToken) (k : ℕ) (top below : List Frame) where
  abbrev all_facts : (f : Frame) → At core good ts k top below f → Facts (tree ts) (grown ts) core good [] (top ++ f ∷ below)
  all_facts f st = facts (tree ts) (grown ts) core good (root_in ts) (so_far core (tree ts) k) (top ++ f ∷ below) st

  below_facts : (pre up : List Frame) (f : Frame) → Facts (tree ts) (grown ts) core good pre (up ++ f ∷ below) → (over : List Frame) × Facts (tree ts) (grown ts) core good over below
  below_facts pre [] f h = (pre ++ f ∷ [], h.1)
  below_facts pre (g ∷ up) f h = below_facts (pre ++ g ∷ []) up f h.1

  -- what is bound below a frame is a match of its variable's path
  pub below_hit : (f : Frame) → At core good ts k top below f → (x : ℕ) (n : Node) → Bound_in x n below → In n (tree ts).nodes × (hits 0 ((reading core).paths x) n ≡ true)
  below_hit f st x n b = let h = below_facts [] top f (all_facts f st) in bound_hit (tree ts) (grown ts) core good (root_in ts) (good_zero core good) h.0 below x n h.1 b

  pub item_bound : (i : ItemTree) (d : BodyTree) (env : Env) → At core good ts k top below (Rest (Then i d) env) → (x : ℕ) → Uses i x → Bound_in x (env x) below
  item_bound i d env st x u = uses_bound (tree ts) (grown ts) core good i env (Rest (Then i d) env ∷ below) (fact core good ts k top below (Rest (Then i d) env) st).0 x u

  pub off_unsigned : (o : OffTree) (d : BodyTree) (env : Env) → At core good ts k top below (Rest (Then (SignOff o) d) env) → In (Offed o (serial_of (env o.base))) (so_far core (tree ts) k) → ⊥
  off_unsigned o d env st i = waits_unsigned_at core good ts k (top ++ Rest (Then (SignOff o) d) env ∷ below) st o env (Waits-right o env top (Rest (Then (SignOff o) d) env ∷ below) (inl (inl refl, refl))) i
