-- Nodes and their numbers.
use Rattle.std.proofs.Common.{◌≡◌, ℕ, zero, suc, ◌+◌, ◌<◌, List, [], ◌∷◌, ◌++◌, length, map, get_or, take, drop, refl, sym, ◌∙◌, ap, inl, inr, arith}
use Rattle.std.proofs.Math.Seq.{take-append_seam}
use Rattle.gcx_base.specs.declared.kind.Kind.{Kind}
use Rattle.gcx_base.specs.declared.steps.Step.{Step}
use Rattle.gcx_model.specs.Members.{In}
use Rattle.gcx_model.specs.Paths.{hits, matches}
use Rattle.gcx_model.specs.Tree.{Node, Root, Under, serial_of, Tree}
use Rattle.tree_laws.proofs.Lists.{In-filter}
use Rattle.tree_laws.proofs.Matches.{Grown, Numbered, Numbered-high}
use Rattle.doc_tree.specs.Rows.{node_at}

stands : (k : ℕ) (xs : List Node) (m : Node) → Numbered k xs → In m xs → (i : ℕ) × (serial_of m ≡ k + i) × (get_or xs i Root ≡ m)
stands k [] m h i = absurd i
stands k (x ∷ xs) m h (inl e) = (0, (let s = ap serial_of e in omega (arith, s, h.0)), e)
stands k (x ∷ xs) m h (inr i) = let r = stands (suc k) xs m h.1 i in (suc r.0, (let s = r.1 in omega (arith, s)), r.2)

-- a node of the tree stands at its number
pub node_by : (C : Tree) → Grown C → (m : Node) → In m C.nodes → node_at C.nodes (serial_of m) ≡ m
node_by C w m i =
    let r = stands 0 C.nodes m w.numbered i in
    let s : serial_of m ≡ r.0 = (let e = r.1 in omega (arith, e)) in
    ap (node_at C.nodes) s ∙ r.2

pub in_tree : (C : Tree) → Grown C → (m : Node) → In m C.nodes → serial_of m < length C.nodes
in_tree C w m i = let h = Numbered-high 0 C.nodes w.numbered m i in omega (arith, h)

number_from : (k : ℕ) (xs : List Node) (i : ℕ) → Numbered k xs → i < length xs → serial_of (get_or xs i Root) ≡ k + i
number_from k [] i h l = absurd (omega (arith, l))
number_from k (x ∷ xs) zero h l = let e = h.0 in omega (arith, e)
number_from k (x ∷ xs) (suc i) h l = let e = number_from (suc k) xs i h.1 (omega (arith, l)) in omega (arith, e)

-- and has it
pub number_of : (C : Tree) → Grown C → (i : ℕ) → i < length C.nodes → serial_of (node_at C.nodes i) ≡ i
number_of C w i l = let e = number_from 0 C.nodes i w.numbered l in omega (arith, e)

-- an element by its index
pub in_at : {X : Type 0} (xs : List X) (i : ℕ) (d : X) → i < length xs → In (get_or xs i d) xs
in_at [] i d l = absurd (omega (arith, l))
in_at (x ∷ xs) zero d l = inl refl
in_at (x ∷ xs) (suc i) d l = inr (in_at xs i d (omega (arith, l)))

-- a list written back whole where it was lent
pub lent : {X : Type 0} (xs ys : List X) (n : ℕ) → length ys ≡ n → take n (ys ++ drop (length ys) xs) ≡ ys
lent {X} xs ys n e = ap (λ (k : ℕ). take k (ys ++ drop (length ys) xs)) (sym e) ∙ take-append_seam ys (drop (length ys) xs)

pub at_in : (xs : List Node) (i : ℕ) → i < length xs → In (get_or xs i Root) xs
at_in xs i l = in_at xs i Root l

-- the first node is the document node
pub root_first : (C : Tree) → Grown C → node_at C.nodes 0 ≡ Root
root_first C w = go C.nodes w.numbered w.below
  where
    go : (xs : List Node) → Numbered 0 xs → ((p : Node) (s : ℕ) (k : Kind) → In (Under p s k) xs → serial_of p < s) → node_at xs 0 ≡ Root
    go [] h low = refl
    go (Root ∷ xs) h low = refl
    go (Under p s k ∷ xs) h low = let l = low p s k (inl refl) in let z = h.0 in absurd (omega (arith, l, z))

-- what is made of the nodes is made of their numbers
pub map_numbers : {Y : Type 0} (C : Tree) → Grown C → (f : ℕ → Y) (g : Node → Y) → ((m : Node) → In m C.nodes → f (serial_of m) ≡ g m) → (n : ℕ) (steps : List Step)
    → map f (map serial_of (matches C n steps)) ≡ map g (matches C n steps)
map_numbers C w f g same n steps = go (matches C n steps) (λ m i. same m (In-filter (hits n steps) m C.nodes i).0)
  where
    go : (ms : List Node) → ((m : Node) → In m ms → f (serial_of m) ≡ g m) → map f (map serial_of ms) ≡ map g ms
    go [] h = refl
    go (m ∷ ms) h = rw (h m (inl refl), go ms (λ x i. h x (inr i))) refl
