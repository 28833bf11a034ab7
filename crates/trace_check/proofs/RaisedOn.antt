-- Entries raised one node after another.
use Rattle.std.proofs.Common.{◌≡◌, ℕ, suc, ◌+◌, ◌-◌, ◌<◌, ◌≤◌, Bool, cond, List, [], ◌∷◌, length, map, get_or, max, set, refl, sym, ◌∙◌, ap, subst, inl, inr, arith}
use Rattle.std.proofs.lemmas.Bool.{cases_eq, eq-eqb, ne_eqb}
use Rattle.std.proofs.lemmas.List.{get_or-set_same, get_or-set_other, length-map, length-set}
use Rattle.gcx_base.specs.declared.kind.Kind.{Kind}
use Rattle.gcx_model.specs.Members.{In}
use Rattle.gcx_model.specs.Tree.{Node, Root, Under, serial_of, Tree}
use Rattle.tree_laws.proofs.Matches.{Grown, Numbered}
use Rattle.trace_check.specs.Wanting.{by_node, greatest_in}
use Rattle.trace_check.proofs.Entries.{entry_by}
use Rattle.trace_check.proofs.Numbers.{at_in, in_tree, number_of}
use Rattle.trace_check.proofs.Raised.{raised, raised_all, raised_none, raised_step}

listed : (b : ℕ) (xs : List Node) → Numbered b xs → (a : List ℕ) (f : Node → ℕ) → length a ≡ length xs → ((n : Node) → In n xs → (i : ℕ) → serial_of n ≡ b + i → get_or a i 0 ≡ f n) → a ≡ map f xs
listed b [] h [] f e same = refl
listed b [] h (y ∷ a) f e same = absurd (omega (arith, e))
listed b (x ∷ xs) h [] f e same = absurd (omega (arith, e))
listed b (x ∷ xs) h (y ∷ a) f e same =
    ap (λ (z : ℕ). z ∷ a) (same x (inl refl) 0 (let z = h.0 in omega (arith, z)))
    ∙ ap (λ (l : List ℕ). f x ∷ l) (listed (suc b) xs h.1 a f (omega (arith, e)) (λ n i k s. same n (inr i) (suc k) (omega (arith, s))))

-- a list of entries, by the nodes' numbers
pub listed_by : (C : Tree) → Grown C → (a : List ℕ) (f : Node → ℕ) → length a ≡ length C.nodes → ((n : Node) → In n C.nodes → get_or a (serial_of n) 0 ≡ f n) → a ≡ by_node C f
listed_by C w a f e same = listed 0 C.nodes w.numbered a f e (λ n i k s. ap (λ (m : ℕ). get_or a m 0) (let z : k ≡ serial_of n = omega (arith, s) in z) ∙ same n i)

-- nothing is raised yet
pub raise_none : (C : Tree) → Grown C → (f : Node → ℕ) (last : List ℕ) (j : ℕ) → length C.nodes ≤ j → last ≡ by_node C f → last ≡ by_node C (λ n. raised C f j (serial_of n))
raise_none C w f last j l e =
    e ∙ listed_by C w (by_node C f) (λ n. raised C f j (serial_of n)) (length-map C.nodes f) (λ n i. entry_by C w f n i ∙ sym (raised_none C w f j l n i))

-- the entry of a node's parent is raised to its own
pub raise_on : (C : Tree) → Grown C → (f : Node → ℕ) (last new : List ℕ) (j p : ℕ) (q : Node) (kd : Kind) → In (Under q j kd) C.nodes → p ≡ serial_of q
    → last ≡ by_node C (λ n. raised C f (suc j) (serial_of n)) → new ≡ set last p (max (get_or last p 0) (get_or last j 0)) → new ≡ by_node C (λ n. raised C f j (serial_of n))
raise_on C w f last new j p q kd here at e is =
    listed_by C w new (λ n. raised C f j (serial_of n)) (ap length is ∙ (length-set last p (max (get_or last p 0) (get_or last j 0)) ∙ many)) entry
  where
    g : ℕ → ℕ
    g k = raised C f (suc j) k

    many : length last ≡ length C.nodes
    many = ap length e ∙ length-map C.nodes (λ n. raised C f (suc j) (serial_of n))

    own : (n : Node) → In n C.nodes → get_or last (serial_of n) 0 ≡ raised C f (suc j) (serial_of n)
    own n i = ap (λ (l : List ℕ). get_or l (serial_of n) 0) e ∙ entry_by C w (λ n. raised C f (suc j) (serial_of n)) n i

    up : In q C.nodes
    up = w.upward q j kd here

    entry : (n : Node) → In n C.nodes → get_or new (serial_of n) 0 ≡ raised C f j (serial_of n)
    entry n i = elim (cases_eq (serial_of n) p) [
      | inl same ↦
          (let there : p < length last = (let l = in_tree C w q up in omega (arith, l, at, many)) in
          let parent : get_or last p 0 ≡ raised C f (suc j) (serial_of n) = ap (λ (k : ℕ). get_or last k 0) (sym same) ∙ own n i in
          let child : get_or last j 0 ≡ raised C f (suc j) j = own (Under q j kd) here in
          ap (λ (l : List ℕ). get_or l (serial_of n) 0) is
          ∙ (ap (λ (k : ℕ). get_or (set last p (max (get_or last p 0) (get_or last j 0))) k 0) same
          ∙ (get_or-set_same last p (max (get_or last p 0) (get_or last j 0)) 0 there
          ∙ (ap (λ (x : ℕ). max x (get_or last j 0)) parent
          ∙ (ap (λ (x : ℕ). max (raised C f (suc j) (serial_of n)) x) child
          ∙ (ap (λ (b : Bool). max (raised C f (suc j) (serial_of n)) (cond b (raised C f (suc j) j) 0)) (sym (eq-eqb (serial_of q) (serial_of n) (sym at ∙ sym same)))
          ∙ sym (raised_step C w j q kd here f (serial_of n))))))))
      | inr other ↦
          (let apart : serial_of q ≡ serial_of n → ⊥ = λ z. other (sym (at ∙ z)) in
          let zero_max : max (raised C f (suc j) (serial_of n)) 0 ≡ raised C f (suc j) (serial_of n) = omega arith in
          ap (λ (l : List ℕ). get_or l (serial_of n) 0) is
          ∙ (get_or-set_other last p (serial_of n) (max (get_or last p 0) (get_or last j 0)) 0 other
          ∙ (own n i
          ∙ (sym zero_max
          ∙ (ap (λ (b : Bool). max (raised C f (suc j) (serial_of n)) (cond b (raised C f (suc j) j) 0)) (sym (ne_eqb (serial_of q) (serial_of n) apart))
          ∙ sym (raised_step C w j q kd here f (serial_of n)))))))
    ]

-- all are raised
pub raise_all : (C : Tree) → Grown C → (f : Node → ℕ) (last : List ℕ) (j : ℕ) → j ≤ 1 → last ≡ by_node C (λ n. raised C f j (serial_of n)) → last ≡ by_node C (greatest_in C f)
raise_all C w f last j few e = e ∙ same C.nodes
  where
    same : (xs : List Node) → map (λ n. raised C f j (serial_of n)) xs ≡ map (greatest_in C f) xs
    same [] = refl
    same (x ∷ xs) = ap (λ (y : ℕ). y ∷ map (λ n. raised C f j (serial_of n)) xs) (raised_all C w f j (serial_of x) few) ∙ ap (λ (l : List ℕ). greatest_in C f x ∷ l) (same xs)

-- a node but the first one has a parent
pub under_at : (C : Tree) → Grown C → (j : ℕ) → 0 < j → j < length C.nodes → (q : Node) × (kd : Kind) × In (Under q j kd) C.nodes
under_at C w j some l = go (get_or C.nodes j Root) (number_of C w j l) (at_in C.nodes j l)
  where
    go : (n : Node) → serial_of n ≡ j → In n C.nodes → (q : Node) × (kd : Kind) × In (Under q j kd) C.nodes
    go Root e i = absurd (omega (arith, e, some))
    go (Under q s kd) e i = (q, kd, subst (λ (k : ℕ). In (Under q k kd) C.nodes) e i)

pub many_by : (C : Tree) (f : Node → ℕ) (last : List ℕ) → last ≡ by_node C f → length last ≡ length C.nodes
many_by C f last e = ap length e ∙ length-map C.nodes f

-- the parent that was looked up stands before the node
pub raise_less : (C : Tree) → Grown C → (f : Node → ℕ) (last : List ℕ) (node parent : ℕ) → 1 < node → node ≤ length last → last ≡ by_node C (λ n. raised C f node (serial_of n))
    → ((p : Node) (k : Kind) → In (Under p (node - 1) k) C.nodes → parent ≡ serial_of p) → parent < node - 1
raise_less C w f last node parent some within e up =
    let m = many_by C (λ n. raised C f node (serial_of n)) last e in
    let u = under_at C w (node - 1) (omega (arith, some)) (omega (arith, some, within, m)) in
    let low = w.below u.0 (node - 1) u.1 u.2 in
    let at = up u.0 u.1 u.2 in
    omega (arith, low, at)

pub raise_step : (C : Tree) → Grown C → (f : Node → ℕ) (last : List ℕ) (node parent top : ℕ) → 1 < node → node ≤ length last → last ≡ by_node C (λ n. raised C f node (serial_of n))
    → ((p : Node) (k : Kind) → In (Under p (node - 1) k) C.nodes → parent ≡ serial_of p) → top ≡ max (get_or last parent 0) (get_or last (node - 1) 0)
    → set last parent top ≡ by_node C (λ n. raised C f (node - 1) (serial_of n))
raise_step C w f last node parent top some within e up is =
    let m = many_by C (λ n. raised C f node (serial_of n)) last e in
    let u = under_at C w (node - 1) (omega (arith, some)) (omega (arith, some, within, m)) in
    raise_on C w f last (set last parent top) (node - 1) parent u.0 u.1 u.2 (up u.0 u.1 u.2)
    (e ∙ ap (λ (k : ℕ). by_node C (λ n. raised C f k (serial_of n))) (let z : node ≡ suc (node - 1) = omega (arith, some) in z)) (ap (set last parent) is)
