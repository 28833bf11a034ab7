-- Steps from a set, one after another, are a longer path.
use Rattle.std.proofs.Common.{◌≡◌, ℕ, ◌+◌, ◌<◌, Bool, ◌&&◌, List, [], ◌∷◌, ◌++◌, length, get_or, take, refl, sym, ◌∙◌, ap, append_assoc, append-nil}
use Rattle.gcx_base.specs.Tests.{passes}
use Rattle.gcx_base.specs.declared.steps.Axis.{Axis}
use Rattle.gcx_base.specs.declared.steps.Axis.TheVariants.{Child, Descendant}
use Rattle.std.proofs.lemmas.List.{take_more}
use Rattle.gcx_base.specs.declared.steps.Step.{Step}
use Rattle.gcx_model.specs.Members.{In}
use Rattle.gcx_model.specs.Paths.{any, hits}
use Rattle.gcx_model.specs.Tree.{Node, Root, Under, kind_of, above, Tree}
use Rattle.tree_laws.proofs.Matches.{Grown}
use Rattle.doc_tree.proofs.Nodes.{Rises}
use Rattle.doc_tree.proofs.Steps.{hits-push}
use Rattle.doc_tree.specs.Sets.{along, stepped}
use Rattle.trace_check.specs.Reaching.{stepped_on}

-- one step more
pub stepped_push : (steps : List Step) (s : Step) (f : Node → Bool) → stepped_on (steps ++ s ∷ []) f ≡ stepped s (stepped_on steps f)
stepped_push [] s f = refl
stepped_push (t ∷ steps) s f = stepped_push steps s (stepped t f)

pub stepped_more : (steps : List Step) (k : ℕ) (s : Step) (f : Node → Bool) → k < length steps → s ≡ get_or steps k s → stepped s (stepped_on (take k steps) f) ≡ stepped_on (take (k + 1) steps) f
stepped_more steps k s f l e = sym (ap (λ (p : List Step). stepped_on p f) (take_more steps k s l ∙ ap (λ (x : Step). take k steps ++ x ∷ []) (sym e)) ∙ stepped_push (take k steps) s f)

-- the numbers fall along the ancestors of a node of the tree
pub rises : (C : Tree) → Grown C → (n : Node) → In n C.nodes → Rises n
rises C w Root i = tt
rises C w (Under p s k) i = (w.below p s k i, rises C w p (w.upward p s k i))

-- from what a path hits the steps reach what the longer path hits
pub hits_on : (steps : List Step) (n : ℕ) (rel : List Step) (m : Node) → Rises m → stepped_on steps (hits n rel) m ≡ hits n (rel ++ steps) m
hits_on [] n rel m r = ap (λ (p : List Step). hits n p m) (sym (append-nil rel))
hits_on (s ∷ steps) n rel m r =
    same_on steps (stepped s (hits n rel)) (hits n (rel ++ s ∷ [])) (λ x q. sym (hits-push n rel s x q)) m r
    ∙ (hits_on steps n (rel ++ s ∷ []) m r ∙ ap (λ (p : List Step). hits n p m) (append_assoc rel (s ∷ []) steps))
  where
    same_above : (f g : Node → Bool) → ((x : Node) → Rises x → f x ≡ g x) → (x : Node) → Rises x → any f (above x) ≡ any g (above x)
    same_above f g h Root q = rw (h Root q) refl
    same_above f g h (Under p s k) q = rw (h (Under p s k) q, same_above f g h p q.1) refl

    same_along : (a : Axis) (f g : Node → Bool) → ((x : Node) → Rises x → f x ≡ g x) → (x : Node) → Rises x → along a f x ≡ along a g x
    same_along Child f g h Root q = refl
    same_along Child f g h (Under p s k) q = h p q.1
    same_along Descendant f g h Root q = refl
    same_along Descendant f g h (Under p s k) q = same_above f g h p q.1

    same_step : (t : Step) (f g : Node → Bool) → ((x : Node) → Rises x → f x ≡ g x) → (x : Node) → Rises x → stepped t f x ≡ stepped t g x
    same_step t f g h x q = ap (λ (b : Bool). passes t.test (kind_of x) && b) (same_along t.axis f g h x q)

    same_on : (steps : List Step) (f g : Node → Bool) → ((x : Node) → Rises x → f x ≡ g x) → (x : Node) → Rises x → stepped_on steps f x ≡ stepped_on steps g x
    same_on [] f g h x q = h x q
    same_on (t ∷ steps) f g h x q = same_on steps (stepped t f) (stepped t g) (λ y z. same_step t f g h y z) x q
