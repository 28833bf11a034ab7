-- Bindings, and the nodes to which they bind.
use Rattle.std.proofs.Common.{◌≡◌, ℕ, ◌-◌, ◌<◌, ◌==◌, Bool, true, false, cond, List, [], ◌∷◌, ◌++◌, length, take, refl, ◌∙◌, ap, inl, inr, arith}
use Rattle.std.proofs.lemmas.List.{length_push, take_at}
use Rattle.gcx_model.specs.Members.{In}
use Rattle.gcx_model.specs.Tree.{Node, serial_of, Tree}
use Rattle.gcx_model.specs.Truth.{bind_var}
use Rattle.doc_tree.specs.Rows.{node_at}
use Rattle.tree_laws.proofs.Lists.{In-append}
use Rattle.trace_check.specs.Scopes.{bound_in, env_of, IsBound}
use Rattle.trace_check.specs.declared.scope.Binding.{Binding}
use Rattle.trace_check.proofs.Numbers.{number_of}

bound_below : (most x node : ℕ) (bs : List Binding) → node < most → ((b : Binding) → In b bs → b.node < most) → bound_in node x bs < most
bound_below most x node [] h f = h
bound_below most x node (b ∷ bs) h f =
    bound_below most x (cond (b.var.0 == x) b.node node) bs (either (b.var.0 == x)) (λ y i. f y (inr i))
  where
    either : (t : Bool) → cond t b.node node < most
    either true = f b (inl refl)
    either false = h

-- a variable is bound to a node of the tree,
pub bound_there : (C : Tree) (bs : List Binding) → IsBound C bs → (x : ℕ) → bound_in 0 x bs < length C.nodes
bound_there C bs w x = bound_below (length C.nodes) x 0 bs w.some w.there

-- which has its number
pub bound_number : (C : Tree) (bs : List Binding) → IsBound C bs → (x : ℕ) → serial_of (node_at C.nodes (bound_in 0 x bs)) ≡ bound_in 0 x bs
bound_number C bs w x = number_of C w.grown (bound_in 0 x bs) (bound_there C bs w x)

-- one binding more
bound_push : (x node : ℕ) (bs : List Binding) (b : Binding) → bound_in node x (bs ++ b ∷ []) ≡ cond (b.var.0 == x) b.node (bound_in node x bs)
bound_push x node [] b = refl
bound_push x node (c ∷ bs) b = bound_push x (cond (c.var.0 == x) c.node node) bs b

eqb_flip : (a b : ℕ) → (a == b) ≡ (b == a)
eqb_flip a b = grind arith

cond_node : (ns : List Node) (t : Bool) (a b : ℕ) → node_at ns (cond t a b) ≡ cond t (node_at ns a) (node_at ns b)
cond_node ns true a b = refl
cond_node ns false a b = refl

pub env_push : (C : Tree) (bs : List Binding) (b : Binding) → env_of C (bs ++ b ∷ []) ≡ bind_var (env_of C bs) b.var.0 (node_at C.nodes b.node)
env_push C bs b = λ i x. at x i
  where
    at : (x : ℕ) → env_of C (bs ++ b ∷ []) x ≡ bind_var (env_of C bs) b.var.0 (node_at C.nodes b.node) x
    at x = ap (node_at C.nodes) (bound_push x 0 bs b) ∙ (cond_node C.nodes (b.var.0 == x) b.node (bound_in 0 x bs)
        ∙ ap (λ (t : Bool). cond t (node_at C.nodes b.node) (node_at C.nodes (bound_in 0 x bs))) (eqb_flip b.var.0 x))

pub bound_more : (C : Tree) (bs : List Binding) (b : Binding) → IsBound C bs → b.node < length C.nodes → IsBound C (bs ++ b ∷ [])
bound_more C bs b w l = record {
  grown = w.grown;
  some = w.some;
  there = λ y i. elim (In-append y bs (b ∷ []) i) [
    | inl j ↦ w.there y j
    | inr j ↦ last y j
  ];
}
  where
    last : (y : Binding) → In y (b ∷ []) → y.node < length C.nodes
    last y (inl e) = let same = ap (λ (z : Binding). z.node) e in omega (arith, l, same)
    last y (inr k) = absurd k

-- a binding that came is gone again
pub popped : (bs pushed rest : List Binding) (b : Binding) (n : ℕ) → rest ≡ take (n - 1) pushed → pushed ≡ bs ++ b ∷ [] → n ≡ length pushed → rest ≡ bs
popped bs pushed rest b n e f g =
    let l : length bs ≡ n - 1 = omega (arith, ap length f ∙ length_push bs b) in
    e ∙ (ap (take (n - 1)) f ∙ take_at bs (b ∷ []) (n - 1) l)
