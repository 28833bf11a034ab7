-- Ranges of numbers, and subtrees as such.
use Rattle.std.proofs.Common.{◌≡◌, ◌↔◌, ℕ, zero, suc, ◌+◌, ◌-◌, ◌<◌, ◌≤◌, Bool, true, false, ◌||◌, List, [], ◌∷◌, ◌++◌, length, map, get_or, take, refl, sym, ◌∙◌, ap, subst, inl, inr, arith, leb}
use Rattle.std.proofs.lemmas.Bool.{and_from, and_parts, eq-eqb, le-leb, leb-true, or_cases, or_right}
use Rattle.std.specs.List.{filter}
use Rattle.std.proofs.lemmas.List.{get_or-map, length-map, take_more}
use Rattle.gcx_model.specs.Members.{In}
use Rattle.gcx_model.specs.Nodes.{Rising}
use Rattle.gcx_model.specs.Tree.{Node, Root, serial_of, within, Tree}
use Rattle.base_laws.proofs.Bools.{same_bools}
use Rattle.tree_laws.proofs.Freeze.{within_self, within_trans}
use Rattle.tree_laws.proofs.Lists.{any_from, any_in, In-filter, In-left, In-right}
use Rattle.tree_laws.proofs.Matches.{Grown, Rising-filter}
use Rattle.trace_check.specs.Reaching.{Covers, in_range, is_within_some, numbers_of}
use Rattle.trace_check.specs.declared.reach.Range.{Range}
use Rattle.trace_check.proofs.Numbers.{at_in}
use Rattle.trace_check.proofs.Reached.{any-append, covers_push}

-- The subtrees of these nodes: their ranges are all before `done`, and up to there each node of one of them is in its range.
pub record HasSubtrees (C : Tree) (ns : List ℕ) (done : ℕ) (ranges : List Range) : Type 0 where
  pub covers : Covers C ranges (is_within_some ns)
  pub before : (n : Node) → In n C.nodes → is_within_some ns n ≡ true → serial_of n < done
  -- Behind the last of them each node up to there is in one of them.
  pub filled : (n : Node) → In n C.nodes → serial_of n < done → ((k : ℕ) → In k ns → k ≤ serial_of n) → is_within_some ns n ≡ true

within_push : (ns : List ℕ) (s : ℕ) (n : Node) → is_within_some (ns ++ s ∷ []) n ≡ (is_within_some ns n || within s n)
within_push ns s n = any-append (λ (i : ℕ). within i n) ns (s ∷ []) ∙ ap (λ (b : Bool). is_within_some ns n || b) (or_none (within s n))
  where
    or_none : (a : Bool) → (a || false) ≡ a
    or_none true = refl
    or_none false = refl

module _ (C : Tree) (w : Grown C) (ns : List ℕ) (done : ℕ) (ranges : List Range) (h : HasSubtrees C ns done ranges) (m : Node) (here : In m C.nodes) where
  -- a subtree behind the others
  pub subtrees_new : done ≤ serial_of m → (end : ℕ) → ((n : Node) → In n C.nodes → (within (serial_of m) n ≡ true) ↔ ((serial_of m ≤ serial_of n) × (serial_of n < end)))
      → (r : Range) → r.first ≡ serial_of m → r.last ≡ end - 1 → HasSubtrees C (ns ++ serial_of m ∷ []) end (ranges ++ r ∷ [])
  subtrees_new behind end ends r first last =
      let itself = (ends m here).0 (within_self (serial_of m) m (eq-eqb (serial_of m) (serial_of m) refl)) in
      let some : serial_of m < end = itself.1 in
      record {
        covers = λ n i.
            covers_push ranges r (serial_of n)
            ∙ (ap (λ (b : Bool). b || in_range (serial_of n) r) (h.covers n i)
            ∙ (ap (λ (b : Bool). is_within_some ns n || b) (in_subtree n i end ends r first last some) ∙ sym (within_push ns (serial_of m) n)));
        before = λ n i g. elim (or_cases (is_within_some ns n) (within (serial_of m) n) (sym (within_push ns (serial_of m) n) ∙ g)) [
          | inl a ↦ (let l = h.before n i a in omega (arith, l, behind, some))
          | inr b ↦ ((ends n i).0 b).1
        ];
        filled = λ n i l above.
            within_push ns (serial_of m) n
            ∙ or_right (is_within_some ns n) (within (serial_of m) n) ((ends n i).1 (above (serial_of m) (In-right (serial_of m) ns (serial_of m ∷ []) (inl refl)), l));
      }
    where
      in_subtree : (n : Node) → In n C.nodes → (end : ℕ) → ((n : Node) → In n C.nodes → (within (serial_of m) n ≡ true) ↔ ((serial_of m ≤ serial_of n) × (serial_of n < end)))
          → (r : Range) → r.first ≡ serial_of m → r.last ≡ end - 1 → serial_of m < end → in_range (serial_of n) r ≡ within (serial_of m) n
      in_subtree n i end ends r first last some = same_bools (in_range (serial_of n) r) (within (serial_of m) n)
          (λ g.
          let p = and_parts (leb r.first (serial_of n)) (leb (serial_of n) r.last) g in
          let a = leb-true r.first (serial_of n) p.0 in
          let b = leb-true (serial_of n) r.last p.1 in
          (ends n i).1 (omega (arith, a, first), omega (arith, b, last, some)))
          (λ g.
          let p = (ends n i).0 g in
          let a = p.0 in
          let b = p.1 in
          and_from (leb r.first (serial_of n)) (leb (serial_of n) r.last) (le-leb r.first (serial_of n) (omega (arith, a, first))) (le-leb (serial_of n) r.last (omega (arith, b, last))))

  -- a subtree in one of the others
  pub subtrees_in : serial_of m < done → ((k : ℕ) → In k ns → k ≤ serial_of m) → HasSubtrees C (ns ++ serial_of m ∷ []) done ranges
  subtrees_in l above =
      let top = any_in (λ (i : ℕ). within i m) ns (h.filled m here l above) in
      let same : (n : Node) → In n C.nodes → is_within_some (ns ++ serial_of m ∷ []) n ≡ is_within_some ns n
      = λ n i. within_push ns (serial_of m) n ∙ absorbed (is_within_some ns n) (within (serial_of m) n) (λ g. any_from (λ (k : ℕ). within k n) top.0 ns top.1 (within_trans C w top.0 m n here i top.2 g)) in
      record {
        covers = λ n i. h.covers n i ∙ sym (same n i);
        before = λ n i g. h.before n i (sym (same n i) ∙ g);
        filled = λ n i k g. same n i ∙ h.filled n i k (λ j q. g j (In-left j ns (serial_of m ∷ []) q));
      }
    where
      absorbed : (a b : Bool) → (b ≡ true → a ≡ true) → (a || b) ≡ a
      absorbed true b f = refl
      absorbed false true f = sym (f refl)
      absorbed false false f = refl

-- ---- the numbers of a set

-- each is of a node of the tree
pub set_node : (C : Tree) (f : Node → Bool) (ns : List ℕ) → ns ≡ numbers_of C f → (k : ℕ) → k < length ns → (m : Node) × In m C.nodes × (serial_of m ≡ get_or ns k 0)
set_node C f ns e k l =
    let few : k < length (filter f C.nodes) = (let a = ap length e in let b = length-map (filter f C.nodes) serial_of in omega (arith, l, a, b)) in (
      get_or (filter f C.nodes) k Root,
      (In-filter f (get_or (filter f C.nodes) k Root) C.nodes (at_in (filter f C.nodes) k few)).0,
      sym (ap (λ (x : List ℕ). get_or x k 0) e ∙ get_or-map serial_of (filter f C.nodes) k Root 0 few),
    )

rise_to : (xs : List Node) → Rising xs → (k : ℕ) → k < length xs → (x : ℕ) → In x (take k (map serial_of xs)) → x ≤ serial_of (get_or xs k Root)
rise_to [] r k l x i = absurd (omega (arith, l))
rise_to (y ∷ xs) r zero l x i = absurd i
rise_to (y ∷ xs) r (suc k) l x (inl e) = let h = r.0 (get_or xs k Root) (at_in xs k (omega (arith, l))) in omega (arith, h, e)
rise_to (y ∷ xs) r (suc k) l x (inr i) = rise_to xs r.1 k (omega (arith, l)) x i

-- and none before it is above it
pub set_rises : (C : Tree) → Grown C → (f : Node → Bool) (ns : List ℕ) → ns ≡ numbers_of C f → (k : ℕ) → k < length ns → (x : ℕ) → In x (take k ns) → x ≤ get_or ns k 0
set_rises C w f ns e k l x i =
    let few : k < length (filter f C.nodes) = (let a = ap length e in let b = length-map (filter f C.nodes) serial_of in omega (arith, l, a, b)) in
    let at : serial_of (get_or (filter f C.nodes) k Root) ≡ get_or ns k 0 = sym (ap (λ (x : List ℕ). get_or x k 0) e ∙ get_or-map serial_of (filter f C.nodes) k Root 0 few) in
    let h = rise_to (filter f C.nodes) (Rising-filter 0 f C.nodes w.numbered) k few x (subst (λ (z : List ℕ). In x (take k z)) e i) in
    omega (arith, h, at)

-- one more of them
pub set_more : (ns : List ℕ) (k s : ℕ) → k < length ns → s ≡ get_or ns k 0 → take k ns ++ s ∷ [] ≡ take (k + 1) ns
set_more ns k s l e = ap (λ (x : ℕ). take k ns ++ x ∷ []) e ∙ sym (take_more ns k 0 l)
