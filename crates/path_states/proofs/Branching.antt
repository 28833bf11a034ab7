-- The branches of path states: how they are gathered, and which of them a node's name finds.
use Rattle.std.proofs.Common.{◌≡◌, ℕ, zero, suc, ◌+◌, ◌<◌, ◌≤◌, true, false, List, [], ◌∷◌, ◌++◌, length, take, drop, get_or, leb, ltb, ltb-true, refl, sym, ◌∙◌, ap, subst, inl, inr, ◌⊎◌, arith, Some}
use Rattle.std.specs.Prelude.{slice_get}
use Rattle.std.specs.List.Sorted.{IsPartitionPoint, IsPermutation}
use Rattle.std.proofs.lemmas.Bool.{false≢true, le-leb}
use Rattle.std.proofs.lemmas.List.{length-append, take_all, take_more}
use Rattle.std.proofs.lemmas.List.Sorted.{IsPermutation-sym}
use Rattle.std.proofs.lemmas.Option.{get_or_from_slice_get, slice_get_within}
use Rattle.gcx_base.specs.Tests.{passes}
use Rattle.gcx_base.specs.declared.kind.Kind.{Kind}
use Rattle.gcx_base.specs.declared.kind.Kind.TheVariants.{Document, Element, Text}
use Rattle.gcx_base.specs.declared.steps.Axis.{Axis}
use Rattle.gcx_base.specs.declared.steps.Axis.TheVariants.{Child, Descendant}
use Rattle.gcx_base.specs.declared.steps.Test.{Test}
use Rattle.gcx_base.specs.declared.steps.Test.TheVariants.{Named, AnyElement, AnyText, AnyNode}
use Rattle.std.specs.Cmp.Lexicographic.{bytes_decides}
use Rattle.tree_laws.proofs.Lists.{In, In-left, In-right, In-append}
use Rattle.path_states.specs.Active.{Passes, PassesTo, Under}
use Rattle.path_states.specs.Branches.{BranchesAreBelow, AreBranches, AreSorted, HasBranch, HaveBranches, IsAskedNumber, IsBranch, PutsBranch, branch_name, branches_by, steps_by}
use Rattle.path_states.specs.Lists.{From, Gains}
use Rattle.path_states.specs.Names.{BranchesAreApart, HasNames, IsNameNumber, KnowsName}
use Rattle.path_states.specs.declared.branches.Branch.{Branch}
use Rattle.path_states.specs.declared.branches.Branches.{Branches}
use Rattle.path_states.specs.declared.paths.PathState.{PathState}
use Rattle.path_states.proofs.Gaining.{gains_as, gains_two, in_more}
use Rattle.path_states.proofs.Growing.{at_front, at_more, at_seam}
use Rattle.path_states.proofs.Looking.{at_in, none_at, one_at, some_at}
use Rattle.path_states.proofs.Naming.{in_sorted}

-- one branch more

module _ (tree : List PathState) (names : List (List ℕ)) (number : ℕ) (before : List Branch) where
  pub puts_one : (now : List Branch) (s : PathState) (b : Branch) → now ≡ before ++ b ∷ [] → slice_get tree number ≡ Some s → IsBranch names s number b → PutsBranch tree names number before now
  puts_one now s b e at is = record {
    stay = λ x i. subst (λ (z : List Branch). In x z) (sym e) (In-left x before (b ∷ []) i);
    of = λ x i. elim (In-append x before (b ∷ []) (subst (λ (z : List Branch). In x z) e i)) [
      | inl j ↦ inl j
      | inr j ↦ elim j [ inl f ↦ inr (subst (λ (z : Branch). z.state ≡ number) f is.leads) | inr k ↦ absurd k ]
    ];
    has = λ t here. record {
      branch = b;
      among = subst (λ (z : List Branch). In b z) (sym e) (In-right b before (b ∷ []) (inl refl));
      is = subst (λ (z : PathState). IsBranch names z number b) (one_at tree number s t at here) is;
    };
  }

  pub puts_none : ((s : PathState) → slice_get tree number ≡ Some s → ⊥) → PutsBranch tree names number before before
  puts_none none = record { stay = λ x i. i; of = λ x i. inl i; has = λ t here. absurd (none t here) }

-- those to a list of path states

module _ (tree : List PathState) (names : List (List ℕ)) where
  pub have_none : (branches : List Branch) → branches ≡ [] → HaveBranches tree names [] branches
  have_none branches e = record { of = λ b i. absurd (subst (λ (z : List Branch). In b z) e i); all = λ c s i at. absurd i }

  pub have_more : (numbers : List ℕ) (i : ℕ) (before now : List Branch) → i < length numbers → HaveBranches tree names (take i numbers) before → PutsBranch tree names (get_or numbers i 0) before now
      → HaveBranches tree names (take (i + 1) numbers) now
  have_more numbers i before now l h p = record {
    of = λ b j. subst (λ (z : List ℕ). In b.state z) (sym (take_more numbers i 0 l)) (elim (p.of b j) [
      | inl k ↦ In-left b.state (take i numbers) (get_or numbers i 0 ∷ []) (h.of b k)
      | inr e ↦ In-right b.state (take i numbers) (get_or numbers i 0 ∷ []) (inl (sym e))
    ]);
    all = λ c s j at. elim (in_more numbers i 0 c l j) [
      | inl k ↦ (let r = h.all c s k at in record { branch = r.branch; among = p.stay r.branch r.among; is = r.is })
      | inr e ↦ subst (λ (z : ℕ). HasBranch names s z now) e (p.has s (subst (λ (z : ℕ). slice_get tree z ≡ Some s) (sym e) at))
    ];
  }

  pub have_all : (numbers : List ℕ) (i : ℕ) (branches : List Branch) → length numbers ≤ i → HaveBranches tree names (take i numbers) branches → HaveBranches tree names numbers branches
  have_all numbers i branches l h = subst (λ (z : List ℕ). HaveBranches tree names z branches) (take_all i numbers l) h

  -- in another order
  pub have_sorted : (numbers : List ℕ) (xs ys : List Branch) → IsPermutation xs ys → HaveBranches tree names numbers xs → HaveBranches tree names numbers ys
  have_sorted numbers xs ys p h = record {
    of = λ b i. h.of b (in_sorted ys xs b (IsPermutation-sym xs ys p) i);
    all = λ c s i at. (let r = h.all c s i at in record { branch = r.branch; among = in_sorted xs ys r.branch p r.among; is = r.is });
  }

  -- those below a path state by either axis
  pub below_both : (s : PathState) (bs : Branches) → AreSorted tree names s.child_edges.items bs.child_edges.items → AreSorted tree names s.descendant_edges.items bs.descendant_edges.items → BranchesAreBelow tree names s bs
  below_both s bs k b Child = k
  below_both s bs k b Descendant = b

  -- those below one path state after the other

  pub each_none : (all : List Branches) → all ≡ [] → AreBranches tree names [] all
  each_none all e = record { same = ap length e; each = λ p s at. absurd (none_at [] p s (omega arith) at) }

  pub each_more : (states : List PathState) (i : ℕ) (s : PathState) (before now : List Branches) (bs : Branches) → i < length states → s ≡ get_or states i s → now ≡ before ++ bs ∷ [] → BranchesAreBelow tree names s bs
      → AreBranches tree names (take i states) before → AreBranches tree names (take (i + 1) states) now
  each_more states i s before now bs l is e are h = record {
    same = (let f = ap length more in let g = length-append (take i states) (s ∷ []) in let a = ap length e in let b = length-append before (bs ∷ []) in let c = h.same in omega arith);
    each = λ p t at. elim (at_more (take i states) s p t (subst (λ (z : List PathState). slice_get z p ≡ Some t) more at)) [
      | inl a ↦ (let r = h.each p t a in record { branches = r.branches; at = subst (λ (z : List Branches). slice_get z p ≡ Some r.branches) (sym e) (at_front before (bs ∷ []) p (slice_get_within before p r.branches r.at) ∙ r.at); are = r.are })
      | inr q ↦ record {
        branches = bs;
        at = subst (λ (z : List Branches). slice_get z p ≡ Some bs) (sym e) (subst (λ (z : ℕ). slice_get (before ++ bs ∷ []) z ≡ Some bs) (h.same ∙ sym q.0) (at_seam before bs));
        are = subst (λ (z : PathState). BranchesAreBelow tree names z bs) q.1 are;
      }
    ];
  }
    where
      more : take (i + 1) states ≡ take i states ++ s ∷ []
      more = take_more states i s l ∙ ap (λ (z : PathState). take i states ++ z ∷ []) (sym is)

  pub each_all : (states : List PathState) (i : ℕ) (all : List Branches) → length states ≤ i → AreBranches tree names (take i states) all → AreBranches tree names states all
  each_all states i all l h = subst (λ (z : List PathState). AreBranches tree names z all) (take_all i states l) h

-- parts of the branches

in_drop : (xs : List Branch) (k i : ℕ) (x : Branch) → k ≤ i → slice_get xs i ≡ Some x → In x (drop k xs)
in_drop [] k i x l e = absurd (none_at [] i x (omega arith) e)
in_drop (y ∷ xs) zero zero x l e = let f : y ≡ x = cc in inl f
in_drop (y ∷ xs) zero (suc i) x l e = inr (in_drop xs zero i x (omega arith) e)
in_drop (y ∷ xs) (suc k) zero x l e = absurd (omega arith)
in_drop (y ∷ xs) (suc k) (suc i) x l e = let m : k ≤ i = omega arith in in_drop xs k i x m e

in_take : (xs : List Branch) (k i : ℕ) (x : Branch) → i < k → slice_get xs i ≡ Some x → In x (take k xs)
in_take [] k i x l e = absurd (none_at [] i x (omega arith) e)
in_take (y ∷ xs) zero i x l e = absurd (omega arith)
in_take (y ∷ xs) (suc k) zero x l e = let f : y ≡ x = cc in inl f
in_take (y ∷ xs) (suc k) (suc i) x l e = let m : i < k = omega arith in inr (in_take xs k i x m e)

pub of_drop : (xs : List Branch) (k : ℕ) (x : Branch) → In x (drop k xs) → In x xs
of_drop xs zero x i = i
of_drop [] (suc k) x i = i
of_drop (y ∷ xs) (suc k) x i = inr (of_drop xs k x i)

pub of_take : (xs : List Branch) (k : ℕ) (x : Branch) → In x (take k xs) → In x xs
of_take xs zero x i = absurd i
of_take [] (suc k) x i = i
of_take (y ∷ xs) (suc k) x (inl e) = inl e
of_take (y ∷ xs) (suc k) x (inr i) = inr (of_take xs k x i)

less_or : (i j : ℕ) → (i < j) ⊎ (j ≤ i)
less_or i zero = inr (omega arith)
less_or zero (suc j) = inl (omega arith)
less_or (suc i) (suc j) = elim (less_or i j) [ inl a ↦ inl (omega arith) | inr a ↦ inr (omega arith) ]

module _ (xs : List Branch) (name k : ℕ) where
  -- behind those with lower names
  pub in_from : IsPartitionPoint (λ (b : Branch). ltb b.name name ≡ true) (λ (b : Branch). ltb b.name name ≡ false) xs k → (b : Branch) → In b xs → name ≤ b.name → In b (drop k xs)
  in_from point b i l =
      let r = at_in xs b i in
      elim (less_or r.0 k) [
        | inl m ↦ (
            let h = ltb-true _ _ (point.0 r.0 b (omega arith) m) in
            let e = ap branch_name (get_or_from_slice_get xs r.0 b b r.1) in
            absurd (omega arith))
        | inr m ↦ in_drop xs k r.0 b m r.1
      ]

  -- before those with higher ones
  pub in_up_to : IsPartitionPoint (λ (b : Branch). leb b.name name ≡ true) (λ (b : Branch). leb b.name name ≡ false) xs k → (b : Branch) → In b xs → b.name ≤ name → In b (take k xs)
  in_up_to point b i l =
      let r = at_in xs b i in
      elim (less_or r.0 k) [
        | inl m ↦ in_take xs k r.0 b m r.1
        | inr m ↦ (
            let e = ap branch_name (get_or_from_slice_get xs r.0 b b r.1) in
            let low : (get_or xs r.0 b).name ≤ name = omega arith in
            absurd (false≢true (sym (point.1 r.0 b m (slice_get_within xs r.0 b r.1)) ∙ le-leb _ _ low)))
      ]

-- which branches a node's name finds

-- a step that the node passes asks for its name, or for none
asks_so : (names : List (List ℕ)) (test : Test) (kind : Kind) (k number : ℕ) → BranchesAreApart names → KnowsName names test → passes test kind ≡ true → IsAskedNumber names test k → IsNameNumber names kind number
    → (k ≡ number) ⊎ (k ≡ length names)
asks_so names (Named n) Document k number apart knows is asks here = absurd here
asks_so names (Named n) (Element name) k number apart knows is (inl at) (inl here) = inl (apart k number n at (here ∙ ap Some (sym ((bytes_decides n name).0 is))))
asks_so names (Named n) (Element name) k number apart knows is (inl at) (inr q) = absurd (q.1 (subst (λ (z : List ℕ). In z names) ((bytes_decides n name).0 is) (knows n refl)))
asks_so names (Named n) (Element name) k number apart knows is (inr p) here = inr p.0
asks_so names (Named n) (Text bytes) k number apart knows is asks here = absurd (false≢true is)
asks_so names AnyElement kind k number apart knows is asks here = inr asks
asks_so names AnyText kind k number apart knows is asks here = inr asks
asks_so names AnyNode kind k number apart knows is asks here = inr asks

module _ (tree : List PathState) (names : List (List ℕ)) (numbers : List ℕ) (branches named others : List Branch) (sorted : AreSorted tree names numbers branches) (has : HasNames tree names) (apart : BranchesAreApart names)
    (kind : Kind) (number : ℕ) (is : IsNameNumber names kind number)
    (of_named : (b : Branch) → In b named → In b branches) (of_others : (b : Branch) → In b others → In b branches)
    (all_named : (b : Branch) → In b branches → b.name ≡ number → In b named) (all_others : (b : Branch) → In b branches → b.name ≡ length names → In b others) where
  abbrev Found : ℕ → Type 0
  Found y = From named (PassesTo tree kind) y ⊎ From others (PassesTo tree kind) y

  of_one : (list : List Branch) → ((b : Branch) → In b list → In b branches) → (y : ℕ) → From list (PassesTo tree kind) y → From numbers (Passes tree kind) y
  of_one list of y f = record { of = f.of.state; member = sorted.have.of f.of (of f.of f.member); is = f.is }

  found : (y : ℕ) → From numbers (Passes tree kind) y → Found y
  found y f =
      let r = sorted.have.all f.of f.is.state f.member f.is.at in
      let through : PassesTo tree kind r.branch y = subst (λ (z : ℕ). Passes tree kind z y) (sym r.is.leads) f.is in
      elim (asks_so names f.is.state.step.test kind r.branch.name number apart (has f.of f.is.state f.is.at) f.is.is r.is.asks is) [
        | inl e ↦ inl (record { of = r.branch; member = all_named r.branch r.among e; is = through })
        | inr e ↦ inr (record { of = r.branch; member = all_others r.branch r.among e; is = through })
      ]

  pub gains_asking : (before between now : List ℕ) → Gains before between (From named (PassesTo tree kind)) → Gains between now (From others (PassesTo tree kind)) → Gains before now (From numbers (Passes tree kind))
  gains_asking before between now g h = gains_as before now Found (From numbers (Passes tree kind))
      (λ y f. elim f [ inl a ↦ of_one named of_named y a | inr a ↦ of_one others of_others y a ])
      found
      (gains_two before between now (From named (PassesTo tree kind)) (From others (PassesTo tree kind)) g h)

-- the same list of another name
pub under_as : (list other : PathState → List ℕ) (tree : List PathState) (kind : Kind) → ((s : PathState) → list s ≡ other s) → (p c : ℕ) → Under list tree kind p c → Under other tree kind p c
under_as list other tree kind h p c u = record { state = u.state; at = u.at; from = subst (λ (z : List ℕ). From z (Passes tree kind) c) (h u.state) u.from }

pub from_as : (list other : PathState → List ℕ) (tree : List PathState) (kind : Kind) → ((s : PathState) → list s ≡ other s) → (above : List ℕ) (c : ℕ) → From above (Under list tree kind) c → From above (Under other tree kind) c
from_as list other tree kind h above c f = record { of = f.of; member = f.member; is = under_as list other tree kind h f.of c f.is }

-- what is gained by the branches of a path state
pub gains_below : (tree : List PathState) (names : List (List ℕ)) (all : List Branches) → AreBranches tree names tree all → (number : ℕ) (bs : Branches) → slice_get all number ≡ Some bs → (axis : Axis) (kind : Kind) (before now : List ℕ)
    → ((numbers : List ℕ) → AreSorted tree names numbers (branches_by axis bs) → Gains before now (From numbers (Passes tree kind))) → Gains before now (Under (steps_by axis) tree kind number)
gains_below tree names all are number bs at axis kind before now gains =
    let l = slice_get_within all number bs at in
    let e = are.same in
    let r = some_at tree number (omega arith) in
    let h = are.each number r.0 r.1 in
    gains_as before now (From (steps_by axis r.0) (Passes tree kind)) (Under (steps_by axis) tree kind number)
    (λ y f. record { state = r.0; at = r.1; from = f })
    (λ y u. subst (λ (z : PathState). From (steps_by axis z) (Passes tree kind) y) (one_at tree number u.state r.0 u.at r.1) u.from)
    (gains (steps_by axis r.0) (subst (λ (z : Branches). AreSorted tree names (steps_by axis r.0) (branches_by axis z)) (one_at all number h.branches bs h.at at) (h.are axis)))
