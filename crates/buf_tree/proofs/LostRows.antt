-- Behind a statement that takes a spread role the rows have lost it that don't have it from a row that keeps it still: those at whose nodes it isn't live any more.
use Rattle.std.proofs.Common.{◌≡◌, ℕ, ◌<◌, Bool, not, ◌&&◌, List, [], ◌∷◌, ◌++◌, map, refl, ◌∙◌, ap, subst, inl, inr, ◌⊎◌, arith}
use Rattle.std.specs.FinSet.{contains}
use Rattle.gcx_base.specs.declared.kind.Kind.{Kind}
use Rattle.gcx_model.specs.Tree.{Node, Root, Under, serial_of}
use Rattle.gcx_model.specs.Nodes.{Rising}
use Rattle.gcx_model.specs.Held.{live, held, is_held}
use Rattle.gcx_model.specs.Past.{Past, IsPast}
use Rattle.tree_laws.proofs.Lists.{In, In-filter}
use Rattle.tree_laws.proofs.Matches.{Rising-filter}
use Rattle.tree_laws.proofs.Chains.{above_self}
use Rattle.past_laws.proofs.Bases.{is_grown}
use Rattle.past_laws.proofs.RowFacts.{held_above}
use Rattle.spread_laws.specs.Tops.{is_spread}
use Rattle.buf_tree.specs.Shape.{Cell, num}
use Rattle.buf_tree.specs.Recount.{is_lost}
use Rattle.buf_tree.specs.Spread.{roles_at, with_above}
use Rattle.buf_tree.proofs.KeptRows.{Paired, KeepsRow, NodeUp, NodesUp, live_rows, live_at, has_live_role}

pub paired_from : (R : Cell → Node → Type 0) (ks : List Cell) (ns : List Node) → map num ks ≡ map serial_of ns → ((c : Cell) (n : Node) → In c ks → In n ns → num c ≡ serial_of n → R c n) → Paired R ks ns
paired_from R [] [] e h = tt
paired_from R [] (n ∷ ns) e h = absurd (cc)
paired_from R (c ∷ cs) [] e h = absurd (cc)
paired_from R (c ∷ cs) (n ∷ ns) e h =
    let a : num c ≡ serial_of n = cc in
    let b : map num cs ≡ map serial_of ns = cc in
    (h c n (inl refl) (inl refl) a, paired_from R cs ns b (λ d m i j. h d m (inr i) (inr j)))

-- held nodes stand behind their parents
module _ (all : List Node) (closed : (p : Node) (s : ℕ) (k : Kind) → In (Under p s k) all → In p all × (serial_of p < s)) where
  nodes_from : (before xs : List Node) → Rising xs → ((n : Node) → In n xs → In n all) → ((n : Node) → In n before → (x : Node) → In x xs → serial_of n < serial_of x) → ((n : Node) → In n all → In n before ⊎ In n xs) → NodesUp before xs
  nodes_from before [] r i l s = tt
  nodes_from before (x ∷ xs) r i l s = (
    next x (i x (inl refl)) (λ n j. l n j x (inl refl)) before_x,
    nodes_from (before ++ x ∷ []) xs r.1 (λ n j. i n (inr j)) low here,
  )
    where
      none : (ns : List Node) → ((n : Node) → In n ns → serial_of n < 0) → ns ≡ []
      none [] h = refl
      none (n ∷ ns) h = let z = h n (inl refl) in absurd (omega arith)

      before_x : (p : Node) → In p all → serial_of p < serial_of x → In p before
      before_x p j z = elim (s p j) [
        | inl a ↦ a
        | inr a ↦ elim a [
          | inl e ↦ (let f = ap serial_of e in absurd (omega arith))
          | inr k ↦ (let y = r.0 p k in absurd (omega arith))
        ]
      ]

      next : (n : Node) → In n all → ((m : Node) → In m before → serial_of m < serial_of n) → ((p : Node) → In p all → serial_of p < serial_of n → In p before) → NodeUp before n
      next Root j h f = none before h
      next (Under p t k) j h f = let c = closed p t k j in f p c.0 c.1

      in_front : (m n : Node) (ns : List Node) → In m ns → In m (ns ++ n ∷ [])
      in_front m n [] j = absurd j
      in_front m n (y ∷ ns) (inl e) = inl e
      in_front m n (y ∷ ns) (inr j) = inr (in_front m n ns j)

      in_last : (n : Node) (ns : List Node) → In n (ns ++ n ∷ [])
      in_last n [] = inl refl
      in_last n (y ∷ ns) = inr (in_last n ns)

      which : (m n : Node) (ns : List Node) → In m (ns ++ n ∷ []) → In m ns ⊎ (n ≡ m)
      which m n [] (inl e) = inr e
      which m n [] (inr j) = absurd j
      which m n (y ∷ ns) (inl e) = inl (inl e)
      which m n (y ∷ ns) (inr j) = elim (which m n ns j) [ inl a ↦ inl (inr a) | inr a ↦ inr a ]

      low : (n : Node) → In n (before ++ x ∷ []) → (y : Node) → In y xs → serial_of n < serial_of y
      low n j y k = elim (which n x before j) [ inl a ↦ l n a y (inr k) | inr e ↦ subst (λ (z : Node). serial_of z < serial_of y) e (r.0 y k) ]

      here : (n : Node) → In n all → In n (before ++ x ∷ []) ⊎ In n xs
      here n j = elim (s n j) [
        | inl a ↦ inl (in_front n x before a)
        | inr a ↦ elim a [ inl e ↦ inl (subst (λ (z : Node). In z (before ++ x ∷ [])) e (in_last x before)) | inr k ↦ inr k ]
      ]

pub held_nodes_up : (past : Past) → IsPast past → NodesUp [] (held past.plan past.tree past.acts)
held_nodes_up past is =
    nodes_from ns closed [] ns (Rising-filter 0 (is_held past.plan past.tree past.acts) past.tree.nodes (is_grown past is).numbered) (λ n i. i) (λ n j. absurd j) (λ n i. inr i)
  where
    ns : List Node
    ns = held past.plan past.tree past.acts

    closed : (p : Node) (s : ℕ) (k : Kind) → In (Under p s k) ns → In p ns × (serial_of p < s)
    closed p s k i = (
      held_above past is (Under p s k) p i (inr (above_self p)),
      (is_grown past is).below p s k (In-filter (is_held past.plan past.tree past.acts) (Under p s k) past.tree.nodes i).0,
    )

-- Here `ns` are the nodes of the rows, before what nothing keeps leaves, and `now` is the past behind the statement.
module _ (now : Past) (is : IsPast now) (sp : ℕ → Bool) (spreads : (r : ℕ) → sp r ≡ is_spread now.plan r) (between : List Cell) (ns : List Node) (keep : Paired (KeepsRow now is) between ns) (up : NodesUp [] ns)
    (inside : (n : Node) → In n ns → In n now.tree.nodes) where
  pub roles_then : (n : Node) → In n ns → (k : ℕ) → contains (roles_at (with_above sp [] between) (serial_of n)) k ≡ live now.plan now.tree now.acts n k
  roles_then n i k =
      ap (λ z. contains z k) (live_at now is sp spreads (with_above sp [] between) ns (live_rows now is sp spreads between ns keep up inside) inside n i)
      ∙ has_live_role now is n k

  -- a row of the node has lost the role exactly where it had it, and it isn't live there any more
  pub lost_is : (c : Cell) (n : Node) → In n ns → num c ≡ serial_of n → (k : ℕ) → is_lost k (with_above sp [] between) c ≡ (contains c.row.roles k && not (live now.plan now.tree now.acts n k))
  lost_is c n i e k = ap (λ b. contains c.row.roles k && not b) (ap (λ (z : ℕ). contains (roles_at (with_above sp [] between) z) k) e ∙ roles_then n i k)
