-- Going up: the levels from which steps lead to one of some levels.
use Rattle.std.proofs.Common.{◌≡◌, suc, ◌<◌, ◌≤◌, true, sym, ◌∙◌, ap, subst, inl, inr, arith}
use Rattle.std.proofs.lemmas.Bool.{eqb-true, eq-eqb}
use Rattle.gcx_base.specs.declared.steps.Axis.TheVariants.{Child, Descendant}
use Rattle.gcx_model.specs.Tree.{Node, Root, Under, serial_of, above, Tree}
use Rattle.gcx_model.specs.Paths.{lies}
use Rattle.gcx_model.specs.Nodes.{Grown}
use Rattle.gcx_model.specs.Growth.{level}
use Rattle.tree_laws.proofs.Lists.{In}
use Rattle.tree_laws.proofs.Matches.{Numbered-same}
use Rattle.tree_laws.proofs.Chains.{above_in, above_trans, above_self}
use Rattle.tree_laws.proofs.Growing.{level_above}
use Rattle.matcher.proofs.Leading.{in_within, within_in}

-- a node above another one lies at a lower level, and there is one node above at each level

pub level_same : (m a b : Node) → In a (above m) → In b (above m) → level a ≡ level b → a ≡ b
level_same Root a b (inl e) (inl f) d = sym e ∙ f
level_same Root a b (inl e) (inr i) d = absurd i
level_same Root a b (inr h) i d = absurd h
level_same (Under p s k) a b (inl e) (inl f) d = sym e ∙ f
level_same (Under p s k) a b (inl e) (inr i) d = let f = level_above p b i in let g = ap level e in absurd (omega arith)
level_same (Under p s k) a b (inr h) (inl f) d = let g = level_above p a h in let e = ap level f in absurd (omega arith)
level_same (Under p s k) a b (inr h) (inr i) d = level_same p a b h i d

-- of two nodes above a third one the one at the lower level is above the other
pub lower_above : (n a m : Node) → In a (above n) → In m (above n) → level a ≤ level m → In a (above m)
lower_above Root a m (inl e) (inl f) l = subst (λ (z : Node). In z (above m)) (sym f ∙ e) (above_self m)
lower_above Root a m (inl e) (inr i) l = absurd i
lower_above Root a m (inr h) i l = absurd h
lower_above (Under p s k) a m h (inl f) l = subst (λ (z : Node). In a (above z)) f h
lower_above (Under p s k) a m (inl e) (inr i) l = let f = level_above p m i in let g = ap level e in absurd (omega arith)
lower_above (Under p s k) a m (inr h) (inr i) l = lower_above p a m h i l

module _ (P : Tree) (w : Grown P) (n : Node) (i : In n P.nodes) where
  -- by a child step a node leads to the one at the next level, by a descendant step to those at greater ones
  pub child_from : (a m : Node) → In a (above n) → In m (above n) → level m ≡ suc (level a) → lies Child (serial_of a) m ≡ true
  child_from a Root h j e = absurd (omega arith)
  child_from a (Under p s k) h j e =
      let u : In p (above n) = above_trans p (Under p s k) n (inr (above_self p)) j in
      let f : level p ≡ level a = omega arith in
      eq-eqb (serial_of p) (serial_of a) (ap serial_of (level_same n p a u h f))

  pub child_to : (a m : Node) → In a (above n) → In m (above n) → lies Child (serial_of a) m ≡ true → level m ≡ suc (level a)
  child_to a Root h j e = absurd (cc)
  child_to a (Under p s k) h j e =
      let u : In p (above n) = above_trans p (Under p s k) n (inr (above_self p)) j in
      let f : p ≡ a = Numbered-same 0 P.nodes w.numbered p a (above_in P w n p i u) (above_in P w n a i h) (eqb-true _ _ e) in
      ap (λ (z : Node). suc (level z)) f

  pub below_from : (a m : Node) → In a (above n) → In m (above n) → level a < level m → lies Descendant (serial_of a) m ≡ true
  below_from a Root h j e = absurd (omega arith)
  below_from a (Under p s k) h j e =
      let u : In p (above n) = above_trans p (Under p s k) n (inr (above_self p)) j in
      let l : level a ≤ level p = omega arith in
      in_within a p (lower_above n a p h u l)

  pub below_to : (a m : Node) → In a (above n) → In m (above n) → lies Descendant (serial_of a) m ≡ true → level a < level m
  below_to a Root h j e = absurd (cc)
  below_to a (Under p s k) h j e =
      let u : In p (above n) = above_trans p (Under p s k) n (inr (above_self p)) j in
      let r = within_in (serial_of a) p e in
      let f : r.0 ≡ a = Numbered-same 0 P.nodes w.numbered r.0 a (above_in P w n r.0 i (above_trans r.0 p n r.1 u)) (above_in P w n a i h) r.2 in
      let l = level_above p r.0 r.1 in
      let g = ap level f in
      omega arith
