-- Where a copy goes on among the rows.
use Rattle.std.proofs.Common.{◌≡◌, ◌<◌, ℕ, true, List, [], ◌∷◌, ◌++◌, Option, Some, None, refl, sym, ◌∙◌, ap, subst, inl, inr, ◌⊎◌, arith, append_assoc}
use Rattle.std.specs.Prelude.{nat_lt}
use Rattle.std.proofs.lemmas.Bool.{false≢true, and_parts, eqb-true}
use Rattle.gcx_base.specs.declared.kind.Kind.{Kind}
use Rattle.gcx_base.specs.declared.kind.Kind.TheVariants.{Document}
use Rattle.gcx_base.specs.declared.steps.Axis.TheVariants.{Child}
use Rattle.gcx_model.specs.Tree.{Node, Root, Under, serial_of, kind_of, above, Tree}
use Rattle.gcx_base.specs.Tests.{passes}
use Rattle.gcx_model.specs.Paths.{lies, reach}
use Rattle.gcx_model.specs.Members.{In}
use Rattle.gcx_model.specs.Nodes.{Grown}
use Rattle.gcx_model.specs.Answer.{child_step, children}
use Rattle.gcx_model.specs.Core.{PlanTree}
use Rattle.gcx_model.specs.Points.{Frame}
use Rattle.gcx_model.specs.Copying.{CopyFrame, Inside, next_children, FinePoint}
use Rattle.tree_laws.proofs.Lists.{In-filter}
use Rattle.tree_laws.proofs.Matches.{Matches-in}
use Rattle.tree_laws.proofs.Chains.{hits_one}
use Rattle.move_laws.proofs.CopyMoves.{copy_frames_stand}
use Rattle.buf_tree.specs.Shape.{Cell}
use Rattle.cond_eval.specs.Asking.{PlacedAt}
use Rattle.pull_eval.specs.Position.{IsCopy, PresentAt}
use Rattle.pull_eval.specs.declared.block.Copying.{Copying}

-- ---- children

module _ (P : Tree) (g : Grown P) where
  -- a child is reached by the step, so it isn't the document node
  pub child_reached : (o m : Node) → In m (children P o) → In m P.nodes × (reach (serial_of o) child_step m ≡ true)
  child_reached o m i = let q = Matches-in P (serial_of o) (child_step ∷ []) m i in (q.0, hits_one P g (serial_of o) child_step m q.0 q.1)

  pub no_document : (o m : Node) → In m (children P o) → kind_of m ≡ Document → ⊥
  no_document o m i e =
      let r = (child_reached o m i).1 in
      let p = (and_parts (passes child_step.test (kind_of m)) (lies Child (serial_of o) m) r).0 in
      false≢true (subst (λ (z : Kind). passes child_step.test z ≡ true) e p)

  -- and its serial is the greater one
  pub child_high : (o m : Node) → In m (children P o) → serial_of o < serial_of m
  child_high o m i = go m (child_reached o m i).0 ((and_parts (passes child_step.test (kind_of m)) (lies Child (serial_of o) m) (child_reached o m i).1).1)
    where
      go : (m : Node) → In m P.nodes → lies Child (serial_of o) m ≡ true → serial_of o < serial_of m
      go Root j l = absurd (false≢true l)
      go (Under p s k) j l = let b = g.below p s k j in let e : serial_of p ≡ serial_of o = eqb-true (serial_of p) (serial_of o) l in omega arith

  pub next_in : (m : Node) (present : Option Node) (c : Node) (rest : List Node) → next_children P m present ≡ c ∷ rest → In c (children P m)
  next_in m None c rest e = subst (λ (z : List Node). In c z) (sym e) (inl refl)
  next_in m (Some q) c rest e = (In-filter (λ (n : Node). nat_lt (serial_of q) (serial_of n)) c (children P m) (subst (λ (z : List Node). In c z) (sym e) (inl refl))).0

-- ---- the frames of a copy

-- the outermost frame is within the copy of a node, which stands at the place
pub record Outer (rows : List Cell) (top : ℕ) (inner : List CopyFrame) : Type 0 where
  pub over : List CopyFrame
  pub copied : Node
  pub last : Option Node
  pub outermost : inner ≡ over ++ Inside copied last ∷ []
  pub at_copied : PlacedAt rows (serial_of copied) top

pub outer_of : (rows : List Cell) (c : Copying) (inner : List CopyFrame) → IsCopy rows c inner → Outer rows c.top.0 inner
outer_of rows c inner k = record { over = k.over; copied = k.copied; last = k.last; outermost = k.outermost; at_copied = k.at_copied }

same_frame : (m n : Node) (q r : Option Node) (fs gs : List CopyFrame) → Inside m q ∷ fs ≡ Inside n r ∷ gs → (m ≡ n) × (fs ≡ gs)
same_frame m n q r fs gs e = (cc, cc)

same_below : (f g : CopyFrame) (fs gs : List CopyFrame) → f ∷ fs ≡ g ∷ gs → fs ≡ gs
same_below f g fs gs e = cc

pub outer_swap : (rows : List Cell) (p : ℕ) (m : Node) (q r : Option Node) (below : List CopyFrame) → Outer rows p (Inside m q ∷ below) → Outer rows p (Inside m r ∷ below)
outer_swap rows p m q r below o = go o.over o.outermost
  where
    go : (over : List CopyFrame) → Inside m q ∷ below ≡ over ++ Inside o.copied o.last ∷ [] → Outer rows p (Inside m r ∷ below)
    go [] e =
        let s = same_frame m o.copied q o.last below [] e in
        record { over = []; copied = o.copied; last = r; outermost = ap (λ (z : Node). Inside z r ∷ below) s.0 ∙ ap (λ (z : List CopyFrame). Inside o.copied r ∷ z) s.1; at_copied = o.at_copied }
    go (x ∷ xs) e = record { over = Inside m r ∷ xs; copied = o.copied; last = o.last; outermost = ap (λ (z : List CopyFrame). Inside m r ∷ z) (same_below (Inside m q) x below (xs ++ Inside o.copied o.last ∷ []) e); at_copied = o.at_copied }

pub outer_push : (rows : List Cell) (p : ℕ) (f : CopyFrame) (inner : List CopyFrame) → Outer rows p inner → Outer rows p (f ∷ inner)
outer_push rows p f inner o = record { over = f ∷ o.over; copied = o.copied; last = o.last; outermost = ap (λ (z : List CopyFrame). f ∷ z) o.outermost; at_copied = o.at_copied }

pub outer_pop : (rows : List Cell) (p : ℕ) (f g : CopyFrame) (inner : List CopyFrame) → Outer rows p (f ∷ g ∷ inner) → Outer rows p (g ∷ inner)
outer_pop rows p f g inner o = go o.over o.outermost
  where
    go : (over : List CopyFrame) → f ∷ g ∷ inner ≡ over ++ Inside o.copied o.last ∷ [] → Outer rows p (g ∷ inner)
    go [] e = let s : g ∷ inner ≡ [] = same_below f (Inside o.copied o.last) (g ∷ inner) [] e in absurd (cc)
    go (x ∷ xs) e = record { over = xs; copied = o.copied; last = o.last; outermost = same_below f x (g ∷ inner) (xs ++ Inside o.copied o.last ∷ []) e; at_copied = o.at_copied }

-- of one frame the node is what is copied
pub outer_alone : (rows : List Cell) (p : ℕ) (m : Node) (q : Option Node) → Outer rows p (Inside m q ∷ []) → PlacedAt rows (serial_of m) p
outer_alone rows p m q o = go o.over o.outermost
  where
    go : (over : List CopyFrame) → Inside m q ∷ [] ≡ over ++ Inside o.copied o.last ∷ [] → PlacedAt rows (serial_of m) p
    go [] e = subst (λ (z : Node). PlacedAt rows (serial_of z) p) (sym (same_frame m o.copied q o.last [] [] e).0) o.at_copied
    go (x ∷ []) e = let s : [] ≡ Inside o.copied o.last ∷ [] = same_below (Inside m q) x [] (Inside o.copied o.last ∷ []) e in absurd (cc)
    go (x ∷ y ∷ xs) e = let s : [] ≡ y ∷ (xs ++ Inside o.copied o.last ∷ []) = same_below (Inside m q) x [] (y ∷ (xs ++ Inside o.copied o.last ∷ [])) e in absurd (cc)

pub copy_at : (rows : List Cell) (c : Copying) (m : Node) (q : Option Node) (below : List CopyFrame) → PlacedAt rows (serial_of m) c.node.0 → PresentAt rows q c.present → Outer rows c.top.0 (Inside m q ∷ below) → IsCopy rows c (Inside m q ∷ below)
copy_at rows c m q below a p o = record {
  node = m;
  present = q;
  below = below;
  innermost = refl;
  at_node = a;
  at_present = p;
  over = o.over;
  copied = o.copied;
  last = o.last;
  outermost = o.outermost;
  at_copied = o.at_copied;
}

-- What is copied lies above the nodes of the other frames.
pub deeper : (plan : PlanTree) (P : Tree) → Grown P → (k : ℕ) (fs : List Frame) (above : List CopyFrame) (m : Node) (q : Option Node) (below : List CopyFrame) (copied : Node) (last : Option Node) (over : List CopyFrame)
    → FinePoint plan P k (above ++ Inside m q ∷ below) fs → Inside m q ∷ below ≡ over ++ Inside copied last ∷ [] → ((over ≡ []) × (m ≡ copied)) ⊎ (serial_of copied < serial_of m)
deeper plan P g k fs above m q below copied last [] point e = inl (refl, (same_frame m copied q last below [] e).0)
deeper plan P g k fs above m q [] copied last (x ∷ []) point e = let s : [] ≡ Inside copied last ∷ [] = same_below (Inside m q) x [] (Inside copied last ∷ []) e in absurd (cc)
deeper plan P g k fs above m q [] copied last (x ∷ y ∷ xs) point e = let s : [] ≡ y ∷ (xs ++ Inside copied last ∷ []) = same_below (Inside m q) x [] (y ∷ (xs ++ Inside copied last ∷ [])) e in absurd (cc)
deeper plan P g k fs above m q (Inside o r ∷ below) copied last (x ∷ xs) point e =
    let deep : FinePoint plan P k ((above ++ Inside m q ∷ []) ++ Inside o r ∷ below) fs = subst (λ (z : List CopyFrame). FinePoint plan P k z fs) (sym (append_assoc above (Inside m q ∷ []) (Inside o r ∷ below))) point in
    let child : In m (children P o) = (copy_frames_stand plan P k (above ++ Inside m q ∷ []) o r below fs deep).1 m (present_is (copy_frames_stand plan P k above m q (Inside o r ∷ below) fs point).2) in
    let high = child_high P g o m child in
    elim (deeper plan P g k fs (above ++ Inside m q ∷ []) o r below copied last xs deep (same_below (Inside m q) x (Inside o r ∷ below) (xs ++ Inside copied last ∷ []) e)) [
      | inl s ↦ (let f = ap serial_of s.1 in inr (omega arith))
      | inr l ↦ inr (omega arith)
    ]
  where
    present_is : ((Inside o r ∷ below) ≡ []) ⊎ ((p : Node) × (rest : List CopyFrame) × (Inside o r ∷ below ≡ Inside p (Some m) ∷ rest)) → r ≡ Some m
    present_is (inl e) = absurd (cc)
    present_is (inr (p, rest, e)) = cc
