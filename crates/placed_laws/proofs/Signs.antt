-- Which signOffs a run takes: for a straight variable those of the nodes that its loops reach, each once.
use Rattle.std.proofs.Common.{◌≡◌, ℕ, zero, suc, Bool, true, false, cond, List, [], ◌∷◌, ◌++◌, refl, ap, subst, inl, inr, ◌⊎◌}
use Rattle.gcx_base.specs.declared.kind.Kind.{Kind}
use Rattle.gcx_base.specs.declared.kind.Kind.TheVariants.{Document, Element, Text}
use Rattle.gcx_model.specs.Tree.{Node, kind_of, Tree, is_closed}
use Rattle.gcx_model.specs.declared.truth.Truth.{Truth}
use Rattle.gcx_model.specs.declared.truth.Truth.TheVariants.{True, False, Unknown}
use Rattle.gcx_model.specs.Run.{Action, Wrote, Offed, Out, wrote, seq, seq_if, loop, copy_with, copy, choose}
use Rattle.gcx_model.specs.Core.{OffTree}
use Rattle.gcx_model.specs.Written.{end_tag}
use Rattle.gcx_model.specs.Answer.{children}
use Rattle.tree_laws.proofs.Lists.{In, In-append}

-- the nodes at which a statement of this kind is taken
abbrev pub sig : (OffTree → Bool) → List Action → List ℕ
sig p [] = []
sig p (Wrote b ∷ xs) = sig p xs
sig p (Offed o n ∷ xs) = cond (p o) (n ∷ sig p xs) (sig p xs)

pub sig-append : (p : OffTree → Bool) (xs bs : List Action) → sig p (xs ++ bs) ≡ sig p xs ++ sig p bs
sig-append p [] bs = refl
sig-append p (Wrote b ∷ xs) bs = sig-append p xs bs
sig-append p (Offed o n ∷ xs) bs = go (p o) (sig-append p xs bs)
  where
    go : (c : Bool) → sig p (xs ++ bs) ≡ sig p xs ++ sig p bs → cond c (n ∷ sig p (xs ++ bs)) (sig p (xs ++ bs)) ≡ cond c (n ∷ sig p xs) (sig p xs) ++ sig p bs
    go true e = ap (λ x. n ∷ x) e
    go false e = e

-- what is signed in a, and then in b, is signed in one of them
pub sig-seq : (p : OffTree → Bool) (m : ℕ) (a b : Out) → In m (sig p (seq a b).acts) → In m (sig p a.acts) ⊎ In m (sig p b.acts)
sig-seq p m a b h = go a.done h
  where
    go : (d : Bool) → In m (sig p (seq_if d a b).acts) → In m (sig p a.acts) ⊎ In m (sig p b.acts)
    go true i = In-append m (sig p a.acts) (sig p b.acts) (subst (λ (x : List ℕ). In m x) (sig-append p a.acts b.acts) i)
    go false i = inl i

pub sig-loop : (p : OffTree → Bool) (m : ℕ) (f : Node → Out) (ns : List Node) (over : Bool) → In m (sig p (loop f ns over).acts) → (n : Node) × In n ns × In m (sig p (f n).acts)
sig-loop p m f [] over h = absurd h
sig-loop p m f (n ∷ ns) over h = elim (sig-seq p m (f n) (loop f ns over) h) [
  | inl i ↦ (n, inl refl, i)
  | inr i ↦ (let r = sig-loop p m f ns over i in (r.0, inr r.1, r.2))
]

sig-copy_with : (p : OffTree → Bool) (m : ℕ) (k : Kind) (a : Out) → (In m (sig p a.acts) → ⊥) → In m (sig p (copy_with k a).acts) → ⊥
sig-copy_with p m Document a h i = h i
sig-copy_with p m (Element name) a h i = elim (sig-seq p m a (wrote (end_tag name)) i) [ inl j ↦ h j | inr j ↦ j ]
sig-copy_with p m (Text b) a h i = i

pub sig-copy : (p : OffTree → Bool) (m : ℕ) (most : ℕ) (P : Tree) (n : Node) → In m (sig p (copy most P n).acts) → ⊥
sig-copy p m zero P n h = h
sig-copy p m (suc most) P n h = sig-copy_with p m (kind_of n) _ (λ i. let r = sig-loop p m (copy most P) (children P n) (is_closed P n) i in sig-copy p m most P r.0 r.2) h

pub sig-choose : (p : OffTree → Bool) (m : ℕ) (k : Truth) (a b : Out) → In m (sig p (choose k a b).acts) → In m (sig p a.acts) ⊎ In m (sig p b.acts)
sig-choose p m True a b h = inl h
sig-choose p m False a b h = inr h
sig-choose p m Unknown a b h = absurd h
