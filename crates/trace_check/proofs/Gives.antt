-- What a statement reaches, from what its path hits.
use Rattle.std.proofs.Common.{◌≡◌, ℕ, Bool, List, ◌++◌, refl}
use Rattle.gcx_base.specs.declared.steps.Step.{Step}
use Rattle.gcx_model.specs.Core.{RoleTarget, Own, First, Whole}
use Rattle.gcx_model.specs.Held.{gives}
use Rattle.gcx_model.specs.Members.{In}
use Rattle.gcx_model.specs.Paths.{any, hits}
use Rattle.gcx_model.specs.Tree.{Node, Root, Under, above, Tree}
use Rattle.tree_laws.proofs.Matches.{Grown}
use Rattle.doc_tree.proofs.Nodes.{Rises}
use Rattle.trace_check.specs.Reaching.{role_reaches, stepped_on}
use Rattle.trace_check.proofs.Stepped.{hits_on, rises}

same_above : (f g : Node → Bool) → ((x : Node) → Rises x → f x ≡ g x) → (x : Node) → Rises x → any f (above x) ≡ any g (above x)
same_above f g h Root q = rw (h Root q) refl
same_above f g h (Under p s k) q = rw (h (Under p s k) q, same_above f g h p q.1) refl

pub gives_by : (C : Tree) → Grown C → (node : ℕ) (rel tail : List Step) (k : RoleTarget) (n : Node) → In n C.nodes → role_reaches C (hits node rel) tail k n ≡ gives C node rel tail k n
gives_by C w node rel tail Own n i = refl
gives_by C w node rel tail First n i = refl
gives_by C w node rel tail Whole n i = same_above (stepped_on tail (hits node rel)) (hits node (rel ++ tail)) (λ x q. hits_on tail node rel x q) n (rises C w n i)
