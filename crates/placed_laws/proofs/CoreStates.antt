-- The laws, for the plan of every core whose variables are numbered from 1 as they are read and used only inside their loops, and in which no branch of an If has a loop.
use Rattle.std.proofs.Common.{Option, Some, None, eqb, ◌≡◌, ℕ, zero, suc, ◌≤◌, Bool, true, false, cond, not, ◌&&◌, ◌||◌, List, [], ◌∷◌, ◌++◌, length, refl, sym, ◌∙◌, ap, subst, inl, inr, ◌⊎◌, arith}
use Rattle.std.specs.List.{filter}
use Rattle.std.specs.Prelude.{take, drop}
use Rattle.std.proofs.lemmas.List.{append-nil, take-append-drop}
use Rattle.std.proofs.lemmas.Bool.{or_cases, or_left, or_right, or_from, and_parts, false_from_ne_true, and_from, false≢true, true≢false, eq-eqb, not-true, ne_eqb}
use Rattle.gcx_base.specs.declared.kind.Kind.{Kind}
use Rattle.gcx_base.specs.declared.kind.Kind.TheVariants.{Document, Element, Text}
use Rattle.gcx_model.specs.Tree.{Node, Root, Under, serial_of, kind_of, within, is_open_at, Tree, TreeToken, opening, grow, grow_all, is_closed}
use Rattle.gcx_model.specs.Paths.{any, all, matches}
use Rattle.gcx_model.specs.Core.{ItemTree, Write, Copy, For, If, SignOff, BodyTree, Nil, Then, OffTree, RoleRowTree}
use Rattle.gcx_model.specs.declared.truth.Truth.{Truth}
use Rattle.gcx_model.specs.declared.truth.Truth.TheVariants.{True, False, Unknown}
use Rattle.gcx_model.specs.Truth.{Env, bind_var, truth}
use Rattle.gcx_model.specs.Run.{env0, Action, Wrote, Offed, Out, wrote, loop, seq, seq_if, choose, copy, copy_with, run_item, run}
use Rattle.tree_laws.proofs.Reading.{Reading, given, signed, taken, live_some, is_live, is_held, held, reading}
use Rattle.gcx_model.specs.Answer.{children}
use Rattle.gcx_model.specs.Written.{start_tag, end_tag, escaped}
use Rattle.gcx_model.specs.Held.{gives, is_off}
use Rattle.gcx_model.specs.Variables.{Var, var_tree, vars}
use Rattle.gcx_model.specs.Roles.{roles_of}
use Rattle.gcx_model.specs.Placed.{at_end, offs_body, add_offs, place, offs_of, of_role}
use Rattle.gcx_model.specs.Cores.{BodyIn, Good}
use Rattle.base_laws.proofs.Members.{in_take}
use Rattle.tree_laws.proofs.Lists.{In, Once, In-append, In-filter, In-kept, any_in, any_from, filter_none}
use Rattle.tree_laws.proofs.Matches.{Grown, Grown-grow, Grown-opening, Grown-all, Matches-from}
use Rattle.tree_laws.proofs.Chains.{chain_hits, one_desc}
use Rattle.placed_laws.proofs.Prefix.{Before, Same, More}
use Rattle.placed_laws.proofs.Whole.{run_grows_all, run_is_done}
use Rattle.placed_laws.proofs.Signs.{sig}
use Rattle.placed_laws.proofs.Needed.{Way, way_sig}
use Rattle.placed_laws.proofs.AllTaken.{off_eq, balance}
use Rattle.tree_laws.proofs.Equal.{off_refl, off_other}
use Rattle.placed_laws.proofs.Stays.{taken_stays as taken_fed, all_in, all_from}
use Rattle.placed_laws.proofs.Once.{way_once}
use Rattle.placed_laws.proofs.PointForms.{Frame, IsPoint}
use Rattle.placed_laws.proofs.Points.{point}
use Rattle.placed_laws.proofs.CorePlans.{same_role, At_row, row_is, end_in, good_based, roles_known, way_of}
use Rattle.tree_laws.proofs.Fed.{nodes_stay, tree, grown, root_in, closed_all}
use Rattle.placed_laws.proofs.Waits.{root_bound}
use Rattle.placed_laws.proofs.Need.{Needs, needs_held, off_row}

-- all actions of the plan's run
abbrev pub actions : BodyTree → Tree → List Action
actions core P = (run (reading core).body env0 P).acts

-- the first k of them: (P, k) is a core state
abbrev pub so_far : BodyTree → Tree → ℕ → List Action
so_far core P k = take k (actions core P)

-- Behind the first k actions there is a point.
pub points : (core : BodyTree) (P : Tree) (k : ℕ) → (fs : List Frame) × IsPoint P (reading core).body env0 (so_far core P k) fs
points core P k = point P (reading core).body env0 (so_far core P k) (drop k (actions core P)) (sym (take-append-drop k (actions core P)))

-- The need law. At each point behind the first k actions, what the point needs is held.
pub need : (core : BodyTree) → Good core → (ts : List TreeToken) (k : ℕ) (fs : List Frame) → IsPoint (tree ts) (reading core).body env0 (so_far core (tree ts) k) fs
    → (m : Node) → In m (tree ts).nodes → Needs (tree ts) [] fs m → In m (held (reading core) (tree ts) (so_far core (tree ts) k))
need core good ts k fs st m i h =
    In-kept (is_held (reading core) (tree ts) (so_far core (tree ts) k)) m (tree ts).nodes i
    (needs_held (tree ts) (grown ts) (root_in ts) core good (so_far core (tree ts) k) fs st m i h)

-- each statement that a run takes is one of the plan's

module _ (Q : OffTree → Type 0) where
  abbrev mutual
    pub Only_item : ItemTree → Type 0
    Only_item (Write s) = Unit {0}
    Only_item (Copy x) = Unit {0}
    Only_item (For x y s d) = Only d
    Only_item (If c a b) = Only a × Only b
    Only_item (SignOff o) = Q o

    pub Only : BodyTree → Type 0
    Only Nil = Unit {0}
    Only (Then i d) = Only_item i × Only d

  In-seq : (a : Action) (x y : Out) → In a (seq x y).acts → In a x.acts ⊎ In a y.acts
  In-seq a x y h = go x.done h
    where
      go : (d : Bool) → In a (seq_if d x y).acts → In a x.acts ⊎ In a y.acts
      go true i = In-append a x.acts y.acts i
      go false i = inl i

  In-loop : (a : Action) (f : Node → Out) (ns : List Node) (over : Bool) → In a (loop f ns over).acts → (n : Node) × In n ns × In a (f n).acts
  In-loop a f [] over h = absurd h
  In-loop a f (n ∷ ns) over h = elim (In-seq a (f n) (loop f ns over) h) [ inl i ↦ (n, inl refl, i) | inr i ↦ (let r = In-loop a f ns over i in (r.0, inr r.1, r.2)) ]

  not_wrote : (o : OffTree) (n : ℕ) (b : List ℕ) → In (Offed o n) (wrote b).acts → ⊥
  not_wrote o n b (inl e) = cc
  not_wrote o n b (inr i) = i

  no_copy_with : (o : OffTree) (n : ℕ) (k : Kind) (x : Out) → (In (Offed o n) x.acts → ⊥) → In (Offed o n) (copy_with k x).acts → ⊥
  no_copy_with o n Document x h i = h i
  no_copy_with o n (Element name) x h i = elim (In-seq (Offed o n) (wrote (start_tag name)) (seq x (wrote (end_tag name))) i) [
    | inl j ↦ not_wrote o n (start_tag name) j
    | inr j ↦ elim (In-seq (Offed o n) x (wrote (end_tag name)) j) [ inl k ↦ h k | inr k ↦ not_wrote o n (end_tag name) k ]
  ]
  no_copy_with o n (Text b) x h i = not_wrote o n (escaped b) i

  module _ (P : Tree) where
    no_copy : (o : OffTree) (n : ℕ) (most : ℕ) (m : Node) → In (Offed o n) (copy most P m).acts → ⊥
    no_copy o n zero m h = h
    no_copy o n (suc most) m h = no_copy_with o n (kind_of m) _ (λ i. let r = In-loop (Offed o n) (copy most P) (children P m) (is_closed P m) i in no_copy o n most r.0 r.2) h

    In-choose : (a : Action) (k : Truth) (x y : Out) → In a (choose k x y).acts → In a x.acts ⊎ In a y.acts
    In-choose a True x y h = inl h
    In-choose a False x y h = inr h
    In-choose a Unknown x y h = absurd h

    mutual
      item_only : (i : ItemTree) (env : Env) (o : OffTree) (n : ℕ) → Only_item i → In (Offed o n) (run_item i env P).acts → Q o
      item_only (Write s) env o n q h = absurd (not_wrote o n s h)
      item_only (Copy x) env o n q h = absurd (no_copy o n (length P.nodes) (env x) h)
      item_only (For x y s d) env o n q h = let r = In-loop (Offed o n) (λ m. run d (bind_var env x m) P) (matches P (serial_of (env y)) (s ∷ [])) (is_closed P (env y)) h in run_only d (bind_var env x r.0) o n q r.2
      item_only (If c a b) env o n q h = elim (In-choose (Offed o n) (truth c env P) (run a env P) (run b env P) h) [ inl i ↦ run_only a env o n q.0 i | inr i ↦ run_only b env o n q.1 i ]
      item_only (SignOff t) env o n q (inl e) = subst Q (same t o (serial_of (env t.base)) n e) q
        where
          same : (a b : OffTree) (i j : ℕ) → Offed a i ≡ Offed b j → a ≡ b
          same a b i j e = cc
      item_only (SignOff t) env o n q (inr i) = absurd i

      run_only : (d : BodyTree) (env : Env) (o : OffTree) (n : ℕ) → Only d → In (Offed o n) (run d env P).acts → Q o
      run_only Nil env o n q h = absurd h
      run_only (Then i d) env o n q h = elim (In-seq (Offed o n) (run_item i env P) (run d env P) h) [ inl j ↦ item_only i env o n q.0 j | inr j ↦ run_only d env o n q.1 j ]

  only_offs : (os : List OffTree) → ((o : OffTree) → In o os → Q o) → Only (offs_body os)
  only_offs [] h = tt
  only_offs (o ∷ os) h = (h o (inl refl), only_offs os (λ t i. h t (inr i)))

  only_add : (d : BodyTree) (os : List OffTree) → Only d → ((o : OffTree) → In o os → Q o) → Only (add_offs d os)
  only_add Nil os q h = only_offs os h
  only_add (Then i d) os q h = (q.0, only_add d os q.1 h)

  only_core : (d : BodyTree) (b : Bool) (L : List ℕ) → BodyIn b L d → Only d
  only_core Nil b L q = tt
  only_core (Then (Write s) d) b L q = (tt, only_core d b L q.1)
  only_core (Then (Copy x) d) b L q = (tt, only_core d b L q.1)
  only_core (Then (For x y s e) d) b L q = (only_core e b (x ∷ L) q.0.2, only_core d b L q.1)
  only_core (Then (If c a e) d) b L q = ((only_core a false L q.0.1, only_core e false L q.0.2), only_core d b L q.1)
  only_core (Then (SignOff o) d) b L q = absurd q.0

  only_place : (ends : ℕ → List OffTree) → ((x : ℕ) (o : OffTree) → In o (ends x) → Q o) → (d : BodyTree) (b : Bool) (L : List ℕ) → BodyIn b L d → Only (place ends d)
  only_place ends h Nil b L q = tt
  only_place ends h (Then (Write s) d) b L q = (tt, only_place ends h d b L q.1)
  only_place ends h (Then (Copy x) d) b L q = (tt, only_place ends h d b L q.1)
  only_place ends h (Then (For x y s e) d) b L q = (only_add (place ends e) (ends x) (only_place ends h e b (x ∷ L) q.0.2) (h x), only_place ends h d b L q.1)
  only_place ends h (Then (If c a e) d) b L q = ((only_core a false L q.0.1, only_core e false L q.0.2), only_place ends h d b L q.1)
  only_place ends h (Then (SignOff o) d) b L q = absurd q.0

pub plan_only : (core : BodyTree) → Good core → Only (λ t. In t (offs_of core)) (reading core).body
plan_only core good =
    only_add (λ t. In t (offs_of core)) (place (at_end (offs_of core)) core) (at_end (offs_of core) 0)
    (only_place (λ t. In t (offs_of core)) (at_end (offs_of core)) (λ x t j. (end_in (offs_of core) x t j).0) core true (0 ∷ []) good.inside)
    (λ t j. (end_in (offs_of core) 0 t j).0)

plan_takes : (core : BodyTree) → Good core → (P : Tree) (o : OffTree) (n : ℕ) → In (Offed o n) (actions core P) → In o (offs_of core)
plan_takes core good P o n i = run_only (λ t. In t (offs_of core)) P (reading core).body env0 o n (plan_only core good) i

-- the way to the base of each of the plan's statements
pub picked_way : (core : BodyTree) → Good core → (p : OffTree → Bool) (o : OffTree) → In o (offs_of core) → p o ≡ true → ((q : OffTree) → In q (offs_of core) → (q ≡ o → ⊥) → p q ≡ false)
    → Way p o.base 0 (reading core).body (var_tree core o.base).path × (one_desc (var_tree core o.base).path ≡ true)
picked_way core good p o i picked differs =
    let V : ℕ → Var = var_tree core in
    let r = off_row V (roles_of core) 0 (roles_of core) o i in
    let q = row_is V (roles_of core) 0 (roles_of core) r.0 o r.1 in
    let b = good_based core good (r.0).var (roles_known core good r.0 q.0) in
    let base : o.base ≡ (V (r.0).var).base = ap (λ (z : OffTree). z.base) q.2.1 in
    way_of core good p o i picked differs (subst (λ (z : ℕ). In z (0 ∷ vars core)) (sym base) b.known) (ap (λ (z : ℕ). (V z).straight) base ∙ b.straight)

pub plan_way : (core : BodyTree) → Good core → (o : OffTree) → In o (offs_of core) → Way (off_eq o) o.base 0 (reading core).body (var_tree core o.base).path × (one_desc (var_tree core o.base).path ≡ true)
plan_way core good o i = picked_way core good (off_eq o) o i (off_refl o) (λ q j n. off_other o q n)

-- a role picks its one statement too
pub role_way : (core : BodyTree) → Good core → (o : OffTree) → In o (offs_of core) → Way (of_role o.role) o.base 0 (reading core).body (var_tree core o.base).path × (one_desc (var_tree core o.base).path ≡ true)
role_way core good o i = picked_way core good (of_role o.role) o i (eq-eqb o.role o.role refl) (λ q j n. ne_eqb q.role o.role (λ e. n (same_role (var_tree core) (roles_of core) 0 (roles_of core) q o j i e)))

pub offed_sig : (o : OffTree) (n : ℕ) (xs : List Action) → In (Offed o n) xs → In n (sig (off_eq o) xs)
offed_sig o n [] i = absurd i
offed_sig o n (x ∷ xs) (inl e) = subst (λ (z : Action). In n (sig (off_eq o) (z ∷ xs))) (sym e) (rw (off_refl o) (inl refl))
offed_sig o n (Wrote b ∷ xs) (inr i) = offed_sig o n xs i
offed_sig o n (Offed t m ∷ xs) (inr i) = go (off_eq o t) (offed_sig o n xs i)
  where
    go : (c : Bool) → In n (sig (off_eq o) xs) → In n (cond c (m ∷ sig (off_eq o) xs) (sig (off_eq o) xs))
    go true h = inr h
    go false h = h

sig_rest : (p : OffTree → Bool) (x : Action) (xs : List Action) → Once (sig p (x ∷ xs)) → Once (sig p xs)
sig_rest p (Wrote b) xs h = h
sig_rest p (Offed o n) xs h = go (p o) h
  where
    go : (c : Bool) → Once (cond c (n ∷ sig p xs) (sig p xs)) → Once (sig p xs)
    go true h = h.1
    go false h = h

-- an action that takes a statement
abbrev pub is_taking : Action → Bool
is_taking (Wrote b) = false
is_taking (Offed o n) = true

once_from : (xs : List Action) → ((o : OffTree) (n : ℕ) → In (Offed o n) xs → Once (sig (off_eq o) xs)) → Once (filter is_taking xs)
once_from [] h = tt
once_from (Wrote b ∷ xs) h = once_from xs (λ o n i. h o n (inr i))
once_from (Offed o n ∷ xs) h = (
  (λ i.
      let j = offed_sig o n xs (In-filter is_taking (Offed o n) xs i).0 in
      let k : Once (n ∷ sig (off_eq o) xs) = subst (λ (c : Bool). Once (cond c (n ∷ sig (off_eq o) xs) (sig (off_eq o) xs))) (off_refl o) (h o n (inl refl)) in
      k.0 j),
  once_from xs (λ t m i. sig_rest (off_eq t) (Offed o n) xs (h t m (inr i))),
)

sig_take : (p : OffTree → Bool) (k : ℕ) (xs : List Action) (n : ℕ) → In n (sig p (take k xs)) → In n (sig p xs)
sig_take p zero xs n h = absurd h
sig_take p (suc k) [] n h = absurd h
sig_take p (suc k) (Wrote b ∷ xs) n h = sig_take p k xs n h
sig_take p (suc k) (Offed o m ∷ xs) n h = go (p o) (sig_take p k xs n) h
  where
    go : (c : Bool) → (In n (sig p (take k xs)) → In n (sig p xs)) → In n (cond c (m ∷ sig p (take k xs)) (sig p (take k xs))) → In n (cond c (m ∷ sig p xs) (sig p xs))
    go true ih (inl e) = inl e
    go true ih (inr i) = inr (ih i)
    go false ih i = ih i

once_take : (p : OffTree → Bool) (k : ℕ) (xs : List Action) → Once (sig p xs) → Once (sig p (take k xs))
once_take p zero xs h = tt
once_take p (suc k) [] h = tt
once_take p (suc k) (Wrote b ∷ xs) h = once_take p k xs h
once_take p (suc k) (Offed o m ∷ xs) h = go (p o) (once_take p k xs) h
  where
    go : (c : Bool) → (Once (sig p xs) → Once (sig p (take k xs))) → Once (cond c (m ∷ sig p xs) (sig p xs)) → Once (cond c (m ∷ sig p (take k xs)) (sig p (take k xs)))
    go true ih h = ((λ i. h.0 (sig_take p k xs m i)), ih h.1)
    go false ih h = ih h

-- The once law. No two of the first k actions are the same Off.
pub once : (core : BodyTree) → Good core → (ts : List TreeToken) (k : ℕ) → Once (filter is_taking (so_far core (tree ts) k))
once core good ts k = once_from (so_far core (tree ts) k) (λ o n i.
    let w = plan_way core good o (plan_takes core good (tree ts) o n (in_take k (actions core (tree ts)) (Offed o n) i)) in
    once_take (off_eq o) k (actions core (tree ts)) (way_once (tree ts) (grown ts) (off_eq o) o.base 0 (reading core).body (var_tree core o.base).path w.0 env0 (root_in ts) w.1))

-- Each Off of them is a statement of the plan, at a match of its base's path.
pub once_at : (core : BodyTree) → Good core → (ts : List TreeToken) (k : ℕ) (s : OffTree) (m : ℕ) → In (Offed s m) (so_far core (tree ts) k)
    → In s (reading core).offs × ((n : Node) × In n (matches (tree ts) 0 ((reading core).paths s.base)) × (serial_of n ≡ m))
once_at core good ts k s m i =
    let P : Tree = tree ts in
    let j = in_take k (actions core P) (Offed s m) i in
    let t = plan_takes core good P s m j in
    let w = plan_way core good s t in
    let r = way_sig P (grown ts) (off_eq s) s.base 0 (reading core).body (var_tree core s.base).path w.0 env0 m (offed_sig s m (actions core P) j) in
    let c = chain_hits P (grown ts) Root (var_tree core s.base).path r.0 (root_in ts) r.1 in
    (t, (r.0, Matches-from P 0 ((reading core).paths s.base) r.0 c.0 c.1, sym r.2))

-- the first actions stay the first ones

In-take_more : {X : Type 0} (k j : ℕ) (xs ys : List X) (x : X) → k ≤ j → In x (take k xs) → In x (take j (xs ++ ys))
In-take_more zero j xs ys x l h = absurd h
In-take_more (suc k) j [] ys x l h = absurd h
In-take_more (suc k) zero (z ∷ xs) ys x l h = absurd (omega arith)
In-take_more (suc k) (suc j) (z ∷ xs) ys x l (inl e) = inl e
In-take_more (suc k) (suc j) (z ∷ xs) ys x l (inr i) = inr (In-take_more k j xs ys x (omega arith) i)

pub so_far_stays : (core : BodyTree) (ts us : List TreeToken) (k j : ℕ) → k ≤ j → (a : Action) → In a (so_far core (tree ts) k) → In a (so_far core (grow_all us (tree ts)) j)
so_far_stays core ts us k j l a i = go (run_grows_all us (tree ts) (grown ts) (reading core).body env0 (root_bound (tree ts) (grown ts) (root_in ts)))
  where
    go : Before (run (reading core).body env0 (tree ts)) (run (reading core).body env0 (grow_all us (tree ts))) → In a (so_far core (grow_all us (tree ts)) j)
    go (Same e) = subst (λ (z : List Action). In a (take j z)) (append-nil (actions core (tree ts)) ∙ ap (λ (z : Out). z.acts) e) (In-take_more k j (actions core (tree ts)) [] a l i)
    go (More d r e) = subst (λ (z : List Action). In a (take j z)) (sym e) (In-take_more k j (actions core (tree ts)) r a l i)

signed_more : (P : Tree) (A B : List Action) (o : OffTree) (m : Node) → ((a : Action) → In a A → In a B) → signed P A o m ≡ true → signed P B o m ≡ true
signed_more P A B o m h e = let r = any_in (is_off o (serial_of m)) A e in any_from (is_off o (serial_of m)) r.0 B (h r.0 r.1) r.2

pub taken_acted : (p : Reading) (P : Tree) (A B : List Action) (n : Node) (r : RoleRowTree) (o : OffTree) → ((a : Action) → In a A → In a B) → taken p P A n r o ≡ true → taken p P B n r o ≡ true
taken_acted p P A B n r o h e =
    let x = and_parts (given p P n r) (all (λ m. not (gives P (serial_of m) o.rel o.tail o.kind n) || signed P A o m) (matches P 0 (p.paths o.base))) e in
    and_from _ _ x.0 (all_from (λ (m : Node). not (gives P (serial_of m) o.rel o.tail o.kind n) || signed P B o m) (matches P 0 (p.paths o.base)) (λ m i.
    elim (or_cases (not (gives P (serial_of m) o.rel o.tail o.kind n)) (signed P A o m) (all_in (λ (m : Node). not (gives P (serial_of m) o.rel o.tail o.kind n) || signed P A o m) (matches P 0 (p.paths o.base)) x.1 m i)) [
      | inl f ↦ or_left _ _ f
      | inr f ↦ or_right _ _ (signed_more P A B o m h f)
    ]))

taken_fed_all : (us : List TreeToken) (P : Tree) (w : Grown P) (p : Reading) (A : List Action) (n : Node) (r : RoleRowTree) (o : OffTree) → In n P.nodes → taken p P A n r o ≡ true → taken p (grow_all us P) A n r o ≡ true
taken_fed_all [] P w p A n r o i h = h
taken_fed_all (t ∷ us) P w p A n r o i h = taken_fed_all us (grow t P) (Grown-grow t P w) p A n r o (nodes_stay (t ∷ []) P n i) (taken_fed t P w p A n r o i h)

-- What is taken in a core state is taken in each that Feeds and Acts reach from there.
pub taken_stays : (core : BodyTree) (ts us : List TreeToken) (k j : ℕ) → k ≤ j → (n : Node) (r : RoleRowTree) (s : OffTree) → In n (tree ts).nodes
    → taken (reading core) (tree ts) (so_far core (tree ts) k) n r s ≡ true → taken (reading core) (grow_all us (tree ts)) (so_far core (grow_all us (tree ts)) j) n r s ≡ true
taken_stays core ts us k j l n r s i h =
    taken_acted (reading core) (grow_all us (tree ts)) (so_far core (tree ts) k) (so_far core (grow_all us (tree ts)) j) n r s (so_far_stays core ts us k j l)
    (taken_fed_all us (tree ts) (grown ts) (reading core) (so_far core (tree ts) k) n r s i h)

abbrev pub All_closed : Tree → Type 0
All_closed P = (m : Node) → In m P.nodes → is_closed P m ≡ true

-- The closed law. Where every node is closed, the run is done.
pub done : (core : BodyTree) (ts : List TreeToken) → All_closed (tree ts) → (run (reading core).body env0 (tree ts)).done ≡ true
done core ts c = run_is_done (tree ts) (grown ts) (closed_all (tree ts) (c Root (root_in ts))) (reading core).body env0 (λ x. root_in ts)

-- The balance law. Where every node is closed and A is all of the run, each role of each node is taken exactly where it is given.
pub balanced : (core : BodyTree) → Good core → (ts : List TreeToken) → All_closed (tree ts) → (n : Node) (r : RoleRowTree) (s : OffTree) → At_row r s (reading core).roles (reading core).offs
    → taken (reading core) (tree ts) (actions core (tree ts)) n r s ≡ given (reading core) (tree ts) n r
balanced core good ts c n r s row = go (given (reading core) (tree ts) n r) refl
  where
    go : (b : Bool) → given (reading core) (tree ts) n r ≡ b → taken (reading core) (tree ts) (actions core (tree ts)) n r s ≡ b
    go true e = balance (reading core) (tree ts) (grown ts) (closed_all (tree ts) (c Root (root_in ts))) (root_in ts) n r s (plan_way core good s (row_is (var_tree core) (roles_of core) 0 (roles_of core) r s row).1).0 (done core ts c) e
    go false e = rw e refl

live_none : (p : Reading) (P : Tree) (A : List Action) (n : Node) (rs : List RoleRowTree) (os : List OffTree) → ((r : RoleRowTree) (o : OffTree) → At_row r o rs os → taken p P A n r o ≡ given p P n r) → live_some p P A n rs os ≡ false
live_none p P A n [] os h = refl
live_none p P A n (r ∷ rs) [] h = refl
live_none p P A n (r ∷ rs) (o ∷ os) h =
    or_from (given p P n r && not (taken p P A n r o)) (live_some p P A n rs os) (neither (given p P n r) (taken p P A n r o) (h r o (inl (refl, refl)))) (live_none p P A n rs os (λ q t i. h q t (inr i)))
  where
    neither : (a b : Bool) → b ≡ a → (a && not b) ≡ false
    neither true b e = ap not e
    neither false b e = refl

-- So nothing is held at the end.
pub empty_at_end : (core : BodyTree) → Good core → (ts : List TreeToken) → All_closed (tree ts) → held (reading core) (tree ts) (actions core (tree ts)) ≡ []
empty_at_end core good ts c =
    filter_none (is_held (reading core) (tree ts) (actions core (tree ts))) (tree ts).nodes (λ n i.
    or_from (is_open_at (tree ts).at (serial_of n)) (any (λ m. within (serial_of n) m && is_live (reading core) (tree ts) (actions core (tree ts)) m) (tree ts).nodes) (rw (closed_all (tree ts) (c Root (root_in ts))) refl)
    (false_from_ne_true (any (λ m. within (serial_of n) m && is_live (reading core) (tree ts) (actions core (tree ts)) m) (tree ts).nodes) (λ e.
    let r = any_in (λ (m : Node). within (serial_of n) m && is_live (reading core) (tree ts) (actions core (tree ts)) m) (tree ts).nodes e in
    let a = and_parts (within (serial_of n) r.0) (is_live (reading core) (tree ts) (actions core (tree ts)) r.0) r.2 in
    false≢true (sym (live_none (reading core) (tree ts) (actions core (tree ts)) r.0 (roles_of core) (offs_of core) (λ q o row. balanced core good ts c r.0 q o row)) ∙ a.1))))
