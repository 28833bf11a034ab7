-- Sets of nodes: what a step reaches from one, as the members that the code puts together.
use Rattle.std.proofs.Common.{◌≡◌, ◌⊎◌, ℕ, zero, suc, ◌+◌, ◌<◌, ◌≤◌, Bool, true, false, ◌&&◌, ◌||◌, List, [], ◌∷◌, ◌++◌, length, map, get_or, refl, sym, ◌∙◌, ap, subst, inl, inr, arith, append-nil, append_assoc, Option, Some, None}
use Rattle.std.specs.Prelude.{flat_map, option_map}
use Rattle.std.specs.List.{filter, All}
use Rattle.std.specs.List.Sorted.{IsPermutation}
use Rattle.std.proofs.lemmas.List.Elements.{All-nil, All-cons, All-head, All-tail}
use Rattle.std.proofs.lemmas.List.Sorted.{All-permutation}
use Rattle.std.proofs.lemmas.Grind.{flat_map-append}
use Rattle.std.proofs.lemmas.Bool.{or_cases, or_left, or_right, and_parts, and_from, true≢false, false≢true, eqb-true, eq-eqb}
use Rattle.gcx_base.specs.declared.steps.Axis.{Axis}
use Rattle.gcx_base.specs.declared.steps.Axis.TheVariants.{Child, Descendant}
use Rattle.gcx_base.specs.declared.steps.Step.{Step}
use Rattle.gcx_model.specs.Tree.{Node, Root, Under, serial_of, kind_of, above, within, Tree}
use Rattle.gcx_base.specs.Tests.{passes}
use Rattle.gcx_model.specs.Paths.{any, lies, reach, hits, matches}
use Rattle.base_laws.proofs.Bools.{same_bools}
use Rattle.move_laws.specs.Kept.{only}
use Rattle.tree_laws.proofs.Lists.{In, In-append, In-left, In-right, In-filter, In-kept, any_in, any_from, filter_none, filter_same}
use Rattle.tree_laws.proofs.Matches.{Rising, Rising-filter}
use Rattle.tree_laws.proofs.Chains.{above_self, above_trans, hits_one, hits_one_from, hits_above}
use Rattle.tree_laws.proofs.Departures.{rising_filter}
use Rattle.node_store.specs.declared.store.Place.{Place}
use Rattle.buf_tree.specs.Shape.{Cell}
use Rattle.buf_tree.specs.Match.{GoesFrom}
use Rattle.buf_tree.specs.Walk.{high_at}
use Rattle.buf_tree.specs.View.{InUse}
use Rattle.cond_eval.specs.Asking.{RowsOf}
use Rattle.cond_eval.specs.declared.sets.Member.{Member}
use Rattle.cond_eval.specs.Reads.{NodeAt, AreReached, Ascends, IsMember, AreMembers, serials, is_next, Puts, AreNext, TellsInside}
use Rattle.cond_eval.proofs.Rows.{node_for, node_at, grown_tree, ordered_tree, serial_told, above_kept, at_placed}
use Rattle.cond_eval.proofs.RowSteps.{kept_matches, match_high}
use Rattle.cond_eval.proofs.Searches.{Searched, Looks, Goes, goes_start, goes_way, goes_on, goes_less, goes_end}
use Rattle.cond_eval.proofs.Below.{above_le, within_is, within_up}
use Rattle.base_laws.proofs.Counts.{count, count_append, same_up}
use Rattle.cond_eval.proofs.Counts.{count_moved, up_steps, up_ascends, ascends_rising, count_either, filter_either}

-- ---- lists

serials_append : (xs ys : List Member) → serials (xs ++ ys) ≡ serials xs ++ serials ys
serials_append [] ys = refl
serials_append (x ∷ xs) ys = ap (λ z. x.serial ∷ z) (serials_append xs ys)

map_append : (xs ys : List Node) → map serial_of (xs ++ ys) ≡ map serial_of xs ++ map serial_of ys
map_append [] ys = refl
map_append (x ∷ xs) ys = ap (λ z. serial_of x ∷ z) (map_append xs ys)

In-map : (k : ℕ) (ns : List Node) → In k (map serial_of ns) → (n : Node) × In n ns × (serial_of n ≡ k)
In-map k [] i = absurd i
In-map k (n ∷ ns) (inl e) = (n, inl refl, e)
In-map k (n ∷ ns) (inr i) = let r = In-map k ns i in (r.0, inr r.1, r.2)

In-map_from : (n : Node) (ns : List Node) → In n ns → In (serial_of n) (map serial_of ns)
In-map_from n [] i = absurd i
In-map_from n (x ∷ xs) (inl e) = inl (ap serial_of e)
In-map_from n (x ∷ xs) (inr i) = inr (In-map_from n xs i)

In-serials : (k : ℕ) (ms : List Member) → In k (serials ms) → (m : Member) × In m ms × (m.serial ≡ k)
In-serials k [] i = absurd i
In-serials k (m ∷ ms) (inl e) = (m, inl refl, e)
In-serials k (m ∷ ms) (inr i) = let r = In-serials k ms i in (r.0, inr r.1, r.2)

In-serials_from : (m : Member) (ms : List Member) → In m ms → In m.serial (serials ms)
In-serials_from m [] i = absurd i
In-serials_from m (x ∷ xs) (inl e) = inl (ap (λ (z : Member). z.serial) e)
In-serials_from m (x ∷ xs) (inr i) = inr (In-serials_from m xs i)

same_ascending : (xs ys : List ℕ) → Ascends xs → Ascends ys → ((k : ℕ) → In k xs → In k ys) → ((k : ℕ) → In k ys → In k xs) → xs ≡ ys
same_ascending [] [] a b f g = refl
same_ascending [] (y ∷ ys) a b f g = absurd (g y (inl refl))
same_ascending (x ∷ xs) [] a b f g = absurd (f x (inl refl))
same_ascending (x ∷ xs) (y ∷ ys) a b f g =
    let e : x ≡ y = heads (f x (inl refl)) (g y (inl refl)) in
    let t : xs ≡ ys = same_ascending xs ys a.1 b.1
    (λ k i. elim (f k (inr i)) [ inl h ↦ (let l = a.0 k i in absurd (omega arith)) | inr j ↦ j ])
    (λ k i. elim (g k (inr i)) [ inl h ↦ (let l = b.0 k i in absurd (omega arith)) | inr j ↦ j ]) in
    ap (λ z. z ∷ xs) e ∙ ap (λ z. y ∷ z) t
  where
    heads : In x (y ∷ ys) → In y (x ∷ xs) → x ≡ y
    heads (inl e) j = sym e
    heads (inr i) (inl e) = e
    heads (inr i) (inr j) = let l = b.0 x i in let m = a.0 y j in absurd (omega arith)

-- the front of what ascends does, and each number of it is below what comes behind
ascends_front : (xs : List Member) (m : Member) → Ascends (serials (xs ++ m ∷ [])) → Ascends (serials xs) × ((x : Member) → In x xs → x.serial < m.serial)
ascends_front [] m a = (tt, λ x i. absurd i)
ascends_front (y ∷ ys) m a =
    let r = ascends_front ys m a.1 in (
      (λ j i. a.0 j (subst (λ (z : List ℕ). In j z) (sym (serials_append ys (m ∷ []))) (In-left j (serials ys) (m.serial ∷ []) i)), r.0),
      λ x i. elim i [
        | inl e ↦ (
            let l = a.0 m.serial (subst (λ (z : List ℕ). In m.serial z) (sym (serials_append ys (m ∷ []))) (In-right m.serial (serials ys) (m.serial ∷ []) (inl refl))) in
            let f = ap (λ (z : Member). z.serial) e in
            omega arith)
        | inr j ↦ r.1 x j
      ],
    )

next_push : (ms : List Member) (m : Member) (s : Step) (j : Node) → is_next (ms ++ m ∷ []) s j ≡ (is_next ms s j || reach m.serial s j)
next_push [] m s j = or_false (reach m.serial s j)
  where
    or_false : (b : Bool) → (b || false) ≡ (false || b)
    or_false true = refl
    or_false false = refl
next_push (x ∷ xs) m s j = ap (λ b. reach x.serial s j || b) (next_push xs m s j) ∙ assoc (reach x.serial s j) (is_next xs s j) (reach m.serial s j)
  where
    assoc : (a b c : Bool) → (a || (b || c)) ≡ ((a || b) || c)
    assoc true b c = refl
    assoc false b c = refl

members_all : (rows : List Cell) (ms : List Member) → AreMembers rows ms → All (IsMember rows) ms
members_all rows [] h = All-nil (IsMember rows)
members_all rows (m ∷ ms) h = All-cons (IsMember rows) m ms (h m (inl refl)) (members_all rows ms (λ x i. h x (inr i)))

all_members : (rows : List Cell) (ms : List Member) → All (IsMember rows) ms → AreMembers rows ms
all_members rows [] h m i = absurd i
all_members rows (x ∷ xs) h m (inl e) = subst (λ (z : Member). IsMember rows z) e (All-head (IsMember rows) x xs h)
all_members rows (x ∷ xs) h m (inr i) = all_members rows xs (All-tail (IsMember rows) x xs h) m i

members_append : (rows : List Cell) (xs ys : List Member) → AreMembers rows xs → AreMembers rows ys → AreMembers rows (xs ++ ys)
members_append rows xs ys f g m i = elim (In-append m xs ys i) [ inl a ↦ f m a | inr a ↦ g m a ]

-- ---- the matches of one node

-- members are appended while the walk is at this match, or at its end
pub record PutsTo (rows : List Cell) (p : ℕ) (s : Step) (old new : List Member) (o : Option Place) : Type 0 where
  pub more : List Member
  pub new_is : new ≡ old ++ more
  pub members : AreMembers rows more
  pub goes : Goes rows p s (λ m. serial_of m ∷ []) (serials more) o
  pub looks : Looks rows o

module _ (rows : List Cell) (p : ℕ) (s : Step) (old : List Member) where
  pub puts_start : (o : Option Place) → InUse rows p → Searched rows p s p o → Looks rows o → PutsTo rows p s old old o
  puts_start o u h l = record { more = []; new_is = sym (append-nil old); members = λ m i. absurd i; goes = goes_start rows p s (λ m. serial_of m ∷ []) o u h; looks = l }

  pub puts_on : (now new : List Member) (here : Place) (m : Member) (o : Option Place) → PutsTo rows p s old now (Some here) → IsMember rows m → m.place ≡ here.0 → new ≡ now ++ m ∷ [] → Searched rows p s here.0 o → Looks rows o → PutsTo rows p s old new o
  puts_on now new here m o g is e f h l = record {
    more = g.more ++ m ∷ [];
    new_is = f ∙ (ap (λ z. z ++ m ∷ []) g.new_is ∙ append_assoc old g.more (m ∷ []));
    members = members_append rows g.more (m ∷ []) g.members (λ x i. elim i [ inl y ↦ subst (λ (z : Member). IsMember rows z) y is | inr y ↦ absurd y ]);
    goes = subst (λ (ks : List ℕ). Goes rows p s (λ x. serial_of x ∷ []) ks o) (sym (serials_append g.more (m ∷ [])))
        (goes_on rows p s (λ x. serial_of x ∷ []) (serials g.more) (m.serial ∷ []) here o g.goes (λ P keep x a. ap (λ k. k ∷ []) (sym (is.number a.cell a.cell_among (a.at ∙ sym e)) ∙ a.number)) h);
    looks = l;
  }

  pub puts_way : (now : List Member) (here : Place) → PutsTo rows p s old now (Some here) → GoesFrom rows p s.axis here.0
  puts_way now here g = goes_way rows p s (λ m. serial_of m ∷ []) (serials g.more) here g.goes

  pub puts_less : (now : List Member) (here : Place) (o : Option Place) → PutsTo rows p s old now (Some here) → Searched rows p s here.0 o → Looks rows o → high_at rows (option_map (λ (q : Place). q.0) o) < high_at rows (Some here.0)
  puts_less now here o g h l = goes_less rows p s (λ m. serial_of m ∷ []) (serials g.more) here o g.goes g.looks h l

  pub puts_end : (new : List Member) → PutsTo rows p s old new None → Puts rows p s old new
  puts_end new g = record {
    more = g.more;
    new_is = g.new_is;
    members = g.members;
    told = λ P keep n a. goes_end rows p s (λ x. serial_of x ∷ []) (serials g.more) g.goes P keep n a ∙ one_by_one (kept_matches P keep (serial_of n) s);
  }
    where
      one_by_one : (ns : List Node) → flat_map (λ x. serial_of x ∷ []) ns ≡ map serial_of ns
      one_by_one [] = refl
      one_by_one (n ∷ ns) = ap (λ z. serial_of n ∷ z) (one_by_one ns)

-- ---- one step, node by node

-- what the step reaches from the members, one after the other
abbrev pub reached_from_each : Tree → (Node → Bool) → Step → List Member → List ℕ
reached_from_each P keep s ms = flat_map (λ (m : Member). map serial_of (kept_matches P keep m.serial s)) ms

-- what was put together of the members so far
pub record Gathers (rows : List Cell) (s : Step) (before found : List Member) : Type 0 where
  pub members : AreMembers rows found
  pub told : (P : Tree) (keep : Node → Bool) → RowsOf rows P keep → serials found ≡ reached_from_each P keep s before

module _ (rows : List Cell) (s : Step) where
  -- the node of a member
  pub member_node : (m : Member) → IsMember rows m → (P : Tree) (keep : Node → Bool) → RowsOf rows P keep → (n : Node) × NodeAt rows P keep m.place n × (serial_of n ≡ m.serial)
  member_node m is P keep of =
      let n = node_for rows P keep of is.used.cell is.used.among in
      let told = serial_told rows P keep of is.used.cell n.0 n.1 in
      (n.0, subst (λ q. NodeAt rows P keep q n.0) is.used.place (node_at rows P keep of is.used.cell n.0 is.used.among n.1), sym told ∙ is.number is.used.cell is.used.among is.used.place)

  pub gathers_more : (before found new : List Member) (m : Member) → Gathers rows s before found → IsMember rows m → Puts rows m.place s found new → Gathers rows s (before ++ m ∷ []) new
  gathers_more before found new m g is p = record {
    members = subst (λ (ms : List Member). AreMembers rows ms) (sym p.new_is) (members_append rows found p.more g.members p.members);
    told = λ P keep of.
        let n = member_node m is P keep of in
        let mine : serials p.more ≡ map serial_of (kept_matches P keep m.serial s) = p.told P keep n.0 n.1 ∙ ap (λ k. map serial_of (kept_matches P keep k s)) n.2 in
        ap serials p.new_is
        ∙ (serials_append found p.more
        ∙ (ap (λ z. z ++ serials p.more) (g.told P keep of)
        ∙ (ap (λ z. reached_from_each P keep s before ++ z) (mine ∙ sym (append-nil (map serial_of (kept_matches P keep m.serial s))))
        ∙ sym (flat_map-append (λ (x : Member). map serial_of (kept_matches P keep x.serial s)) before (m ∷ [])))));
  }

  module _ (P : Tree) (keep : Node → Bool) (of : RowsOf rows P keep) where
    abbrev kept : List Node
    kept = filter keep P.nodes

    kept_in : (x : Node) → In x kept → In x P.nodes × (keep x ≡ true)
    kept_in x i = In-filter keep x P.nodes i

    kept_rise : Rising kept
    kept_rise = Rising-filter 0 keep P.nodes (grown_tree rows P keep of).numbered

    next_rise : (set : List Member) → Ascends (map serial_of (filter (is_next set s) kept))
    next_rise set = ascends_rising _ (rising_filter (is_next set s) kept kept_rise)

    -- matches of one step are what it reaches
    as_reached : (k : ℕ) → kept_matches P keep k s ≡ filter (reach k s) kept
    as_reached k = filter_same (hits k (s ∷ [])) (reach k s) kept (λ x i.
        same_bools _ _ (hits_one P (grown_tree rows P keep of) k s x (kept_in x i).0) (hits_one_from P (grown_tree rows P keep of) k s x))

    -- ---- children

    one_parent : (a b : ℕ) (x : Node) → lies Child a x ≡ true → lies Child b x ≡ true → a ≡ b
    one_parent a b Root e f = absurd (false≢true e)
    one_parent a b (Under p t k) e f = sym (eqb-true (serial_of p) a e) ∙ eqb-true (serial_of p) b f

    counted_next : s.axis ≡ Child → (c : ℕ) (set : List Member) → Ascends (serials set) → count c (reached_from_each P keep s set) ≡ count c (map serial_of (filter (is_next set s) kept))
    counted_next ax c [] a = ap (λ z. count c (map serial_of z)) (sym (filter_none (is_next [] s) kept (λ x i. refl)))
    counted_next ax c (m ∷ ms) a =
        let ih = counted_next ax c ms a.1 in
        let front = count_append c (map serial_of (kept_matches P keep m.serial s)) (reached_from_each P keep s ms) in
        let mine = ap (λ z. count c (map serial_of z)) (as_reached m.serial) in
        let both = count_either c (reach m.serial s) (is_next ms s) kept (λ x i e f.
        let r = any_in (λ (y : Member). reach y.serial s x) ms f in
        let p = (and_parts (passes s.test (kind_of x)) (lies s.axis m.serial x) e).1 in
        let q = (and_parts (passes s.test (kind_of x)) (lies s.axis r.0.serial x) r.2).1 in
        let g = one_parent m.serial r.0.serial x (subst (λ (z : Axis). lies z m.serial x ≡ true) ax p) (subst (λ (z : Axis). lies z r.0.serial x ≡ true) ax q) in
        let l = a.0 r.0.serial (In-serials_from r.0 ms r.1) in
        omega arith) in
        omega arith

  -- put in order they are what the step reaches from the set
  pub children_end : (set found sorted : List Member) → s.axis ≡ Child → Gathers rows s set found → IsPermutation found sorted → ((k : ℕ) (d : Member) → k + 1 < length sorted → (get_or sorted k d).serial ≤ (get_or sorted (k + 1) d).serial) → AreNext rows set s sorted
  children_end set found sorted ax g p up = record {
    members = all_members rows sorted (All-permutation (IsMember rows) found sorted p (members_all rows found g.members));
    told = λ P keep of a. same_up (serials sorted) (map serial_of (filter (is_next set s) (filter keep P.nodes))) (up_steps sorted up) (up_ascends _ (next_rise P keep of set))
        (λ c. count_moved c found sorted p ∙ (ap (count c) (g.told P keep of) ∙ counted_next P keep of ax c set a));
  }

-- ---- descendants

-- the outermost member above the last one, or the last one: what is reached stands in its subtree or before it
pub record TopOf (P : Tree) (keep : Node → Bool) (s : Step) (before : List Member) (top last : Member) : Type 0 where
  pub t : Node
  pub l : Node
  pub l_in : In l P.nodes
  pub over : In t (above l)
  pub top_is : serial_of t ≡ top.serial
  pub last_is : serial_of l ≡ last.serial
  pub last_in : In last before
  pub all : (j : Node) → In j P.nodes → keep j ≡ true → reach (serial_of t) s j ≡ true → is_next before s j ≡ true
  pub split : (j : Node) → In j P.nodes → keep j ≡ true → is_next before s j ≡ true → In t (above j) ⊎ (serial_of j < serial_of t)

abbrev pub ShapeOf : Tree → (Node → Bool) → Step → List Member → Option (Member × Member) → Type 0
ShapeOf P keep s before None = before ≡ []
ShapeOf P keep s before (Some d) = TopOf P keep s before d.0 d.1

pub record DoneIn (P : Tree) (keep : Node → Bool) (s : Step) (before found : List Member) (done : Option (Member × Member)) : Type 0 where
  pub listed : serials found ≡ map serial_of (filter (is_next before s) (filter keep P.nodes))
  pub shape : ShapeOf P keep s before done

-- what is done of the set so far
pub record Descends (rows : List Cell) (s : Step) (before found : List Member) (done : Option (Member × Member)) : Type 0 where
  pub members : AreMembers rows found
  pub told : (P : Tree) (keep : Node → Bool) → RowsOf rows P keep → Ascends (serials before) → DoneIn P keep s before found done

-- the member lies in no subtree that is done
abbrev pub Outside : List Cell → Member → Option (Member × Member) → Type 0
Outside rows m None = Unit {0}
Outside rows m (Some d) = TellsInside rows m d.1 d.0 false

module _ (rows : List Cell) (s : Step) (ax : s.axis ≡ Descendant) where
  pub descends_none : Descends rows s [] [] None
  descends_none = record {
    members = λ m i. absurd i;
    told = λ P keep of a. record { listed = ap (map serial_of) (sym (filter_none (is_next [] s) (filter keep P.nodes) (λ x i. refl))); shape = refl };
  }

  module _ (P : Tree) (keep : Node → Bool) (of : RowsOf rows P keep) where
    -- what lies below n lies below each node above it
    reach_up : (t n j : Node) → In n P.nodes → In j P.nodes → In t (above n) → reach (serial_of n) s j ≡ true → reach (serial_of t) s j ≡ true
    reach_up t n Root i k h r = absurd (false≢true (subst (λ (z : Axis). lies z (serial_of n) Root ≡ true) ax (and_parts (passes s.test (kind_of Root)) (lies s.axis (serial_of n) Root) r).1))
    reach_up t n (Under p v w) i k h r =
        let a = and_parts (passes s.test w) (lies s.axis (serial_of n) (Under p v w)) r in
        let g = grown_tree rows P keep of in
        let q = g.upward p v w k in
        let l : within (serial_of n) p ≡ true = subst (λ (z : Axis). lies z (serial_of n) (Under p v w) ≡ true) ax a.1 in
        let u : within (serial_of t) p ≡ true = within_is P g t p q (above_trans t n p h (within_up P g n p i q l)) in
        and_from _ _ a.0 (subst (λ (z : Axis). lies z (serial_of t) (Under p v w) ≡ true) (sym ax) u)

    reach_over : (n j : Node) → In n P.nodes → In j P.nodes → reach (serial_of n) s j ≡ true → In n (above j)
    reach_over n j i k r = hits_above P (grown_tree rows P keep of) n (s ∷ []) j i k (hits_one_from P (grown_tree rows P keep of) (serial_of n) s j r)

    push_left : (before : List Member) (m : Member) (j : Node) → is_next before s j ≡ true → is_next (before ++ m ∷ []) s j ≡ true
    push_left before m j e = next_push before m s j ∙ or_left (is_next before s j) _ e

    push_right : (before : List Member) (m : Member) (j : Node) → reach m.serial s j ≡ true → is_next (before ++ m ∷ []) s j ≡ true
    push_right before m j e = next_push before m s j ∙ or_right (is_next before s j) _ e

    push_cases : (before : List Member) (m : Member) (j : Node) → is_next (before ++ m ∷ []) s j ≡ true → (is_next before s j ≡ true) ⊎ (reach m.serial s j ≡ true)
    push_cases before m j e = or_cases (is_next before s j) (reach m.serial s j) (sym (next_push before m s j) ∙ e)

    by_serial : (n : Node) (m : Member) (j : Node) → serial_of n ≡ m.serial → reach m.serial s j ≡ true → reach (serial_of n) s j ≡ true
    by_serial n m j e r = ap (λ k. reach k s j) e ∙ r

    -- a member inside adds nothing
    inside_in : (before found : List Member) (top last m : Member) (n : Node) → NodeAt rows P keep m.place n → serial_of n ≡ m.serial → TellsInside rows m last top true → Ascends (serials (before ++ m ∷ [])) → DoneIn P keep s before found (Some (top, last)) → DoneIn P keep s (before ++ m ∷ []) found (Some (top, m))
    inside_in before found top last m n at e tells a d =
        let h = d.shape in
        let f = ascends_front before m a in
        let low = f.1 last h.last_in in
        let is_l = h.last_is in
        let g = grown_tree rows P keep of in
        let inside : within (serial_of h.t) n ≡ true = sym (tells P keep h.l n h.t at h.l_in h.over h.last_is h.top_is (omega arith)) in
        let t_in : In h.t P.nodes = above_in_tree h.l h.t h.l_in h.over in
        let over : In h.t (above n) = within_up P g h.t n t_in at.among inside in
        let same : (j : Node) → In j P.nodes → keep j ≡ true → reach m.serial s j ≡ true → is_next before s j ≡ true = λ j i k r. h.all j i k (reach_up h.t n j at.among i over (by_serial n m j e r)) in
        record {
          listed = d.listed ∙ ap (map serial_of) (filter_same (is_next before s) (is_next (before ++ m ∷ []) s) (filter keep P.nodes) (λ j i.
              let k = In-filter keep j P.nodes i in
              same_bools _ _ (push_left before m j) (λ r. elim (push_cases before m j r) [ inl x ↦ x | inr x ↦ same j k.0 k.1 x ])));
          shape = record {
            t = h.t;
            l = n;
            l_in = at.among;
            over = over;
            top_is = h.top_is;
            last_is = e;
            last_in = In-right m before (m ∷ []) (inl refl);
            all = λ j i k r. push_left before m j (h.all j i k r);
            split = λ j i k r. elim (push_cases before m j r) [
              | inl x ↦ h.split j i k x
              | inr x ↦ inl (above_trans h.t n j over (reach_over n j at.among i (by_serial n m j e x)))
            ];
          };
        }
      where
        above_in_tree : (l t : Node) → In l P.nodes → In t (above l) → In t P.nodes
        above_in_tree l t i j = (above_in_P l t i j)
          where
            above_in_P : (l t : Node) → In l P.nodes → In t (above l) → In t P.nodes
            above_in_P Root t i (inl e) = subst (λ (x : Node). In x P.nodes) e i
            above_in_P Root t i (inr j) = absurd j
            above_in_P (Under p v w) t i (inl e) = subst (λ (x : Node). In x P.nodes) e i
            above_in_P (Under p v w) t i (inr j) = above_in_P p t ((grown_tree rows P keep of).upward p v w i) j

    -- what is reached so far stands before a member outside
    before_out : (before : List Member) (m : Member) (n : Node) → NodeAt rows P keep m.place n → serial_of n ≡ m.serial → Ascends (serials (before ++ m ∷ [])) → (done : Option (Member × Member)) → Outside rows m done → ShapeOf P keep s before done
        → (j : Node) → In j P.nodes → keep j ≡ true → is_next before s j ≡ true → serial_of j < serial_of n
    before_out before m n at e a None out h j i k r = absurd (false≢true (sym (ap (λ (ms : List Member). is_next ms s j) h) ∙ r))
    before_out before m n at e a (Some d) out h j i k r =
        let f = ascends_front before m a in
        let low = f.1 d.1 h.last_in in
        let is_l = h.last_is in
        let g = grown_tree rows P keep of in
        let le = above_le P g h.l h.t h.l_in h.over in
        let t_in = tree_above h.l h.t h.l_in h.over in
        let outside : within (serial_of h.t) n ≡ false = sym (out P keep h.l n h.t at h.l_in h.over h.last_is h.top_is (omega arith)) in
        elim (h.split j i k r) [
          | inl x ↦ (ordered_tree rows P keep of).split h.t n j t_in at.among i (omega arith) (λ y. true≢false (sym (within_is P g h.t n at.among y) ∙ outside)) x
          | inr x ↦ omega arith
        ]
      where
        tree_above : (l t : Node) → In l P.nodes → In t (above l) → In t P.nodes
        tree_above Root t i (inl e) = subst (λ (x : Node). In x P.nodes) e i
        tree_above Root t i (inr j) = absurd j
        tree_above (Under p v w) t i (inl e) = subst (λ (x : Node). In x P.nodes) e i
        tree_above (Under p v w) t i (inr j) = tree_above p t ((grown_tree rows P keep of).upward p v w i) j

    outside_in : (before found new : List Member) (m : Member) (n : Node) (done : Option (Member × Member)) → NodeAt rows P keep m.place n → serial_of n ≡ m.serial → Outside rows m done → Puts rows m.place s found new → Ascends (serials (before ++ m ∷ []))
        → DoneIn P keep s before found done → DoneIn P keep s (before ++ m ∷ []) new (Some (m, m))
    outside_in before found new m n done at e out p a d =
        let front = before_out before m n at e a done out d.shape in
        let mine : serials p.more ≡ map serial_of (filter (reach m.serial s) (filter keep P.nodes)) = p.told P keep n at ∙ (ap (λ k. map serial_of (kept_matches P keep k s)) e ∙ ap (map serial_of) (as_reached rows s P keep of m.serial)) in
        let both = filter_either (serial_of n) (is_next before s) (reach m.serial s) (filter keep P.nodes) (kept_rise rows s P keep of)
        (λ j i r. let k = In-filter keep j P.nodes i in front j k.0 k.1 r)
        (λ j i r. let k = In-filter keep j P.nodes i in let h = match_high rows P keep of m.serial j s k.0 r in omega arith) in
        record {
          listed = ap serials p.new_is
              ∙ (serials_append found p.more
              ∙ (ap (λ z. z ++ serials p.more) d.listed
              ∙ (ap (λ z. map serial_of (filter (is_next before s) (filter keep P.nodes)) ++ z) mine
              ∙ (sym (map_append (filter (is_next before s) (filter keep P.nodes)) (filter (reach m.serial s) (filter keep P.nodes)))
              ∙ ap (map serial_of) (sym both ∙ filter_same _ (is_next (before ++ m ∷ []) s) (filter keep P.nodes) (λ j i. sym (next_push before m s j)))))));
          shape = record {
            t = n;
            l = n;
            l_in = at.among;
            over = above_self n;
            top_is = e;
            last_is = e;
            last_in = In-right m before (m ∷ []) (inl refl);
            all = λ j i k r. push_right before m j (ap (λ q. reach q s j) (sym e) ∙ r);
            split = λ j i k r. elim (push_cases before m j r) [
              | inl x ↦ inr (front j i k x)
              | inr x ↦ inl (reach_over n j at.among i (by_serial n m j e x))
            ];
          };
        }

  pub descends_inside : (before found : List Member) (top last m : Member) → Descends rows s before found (Some (top, last)) → IsMember rows m → TellsInside rows m last top true → Descends rows s (before ++ m ∷ []) found (Some (top, m))
  descends_inside before found top last m d is tells = record {
    members = d.members;
    told = λ P keep of a.
        let n = member_node rows s m is P keep of in
        inside_in P keep of before found top last m n.0 n.1 n.2 tells a (d.told P keep of (ascends_front before m a).0);
  }

  pub descends_outside : (before found new : List Member) (m : Member) (done : Option (Member × Member)) → Descends rows s before found done → IsMember rows m → Outside rows m done → Puts rows m.place s found new → Descends rows s (before ++ m ∷ []) new (Some (m, m))
  descends_outside before found new m done d is out p = record {
    members = subst (λ (ms : List Member). AreMembers rows ms) (sym p.new_is) (members_append rows found p.more d.members p.members);
    told = λ P keep of a.
        let n = member_node rows s m is P keep of in
        outside_in P keep of before found new m n.0 done n.1 n.2 out p a (d.told P keep of (ascends_front before m a).0);
  }

pub tells_as : (rows : List Cell) (m last top : Member) (b c : Bool) → b ≡ c → TellsInside rows m last top b → TellsInside rows m last top c
tells_as rows m last top b c e t = subst (λ (x : Bool). TellsInside rows m last top x) e t

pub descends_moved : (rows : List Cell) (s : Step) (before after found new : List Member) (o p : Option (Member × Member)) → before ≡ after → found ≡ new → o ≡ p → Descends rows s before found o → Descends rows s after new p
descends_moved rows s before after found new o p e f h d =
    subst (λ (z : List Member). Descends rows s z new p) e (subst (λ (z : List Member). Descends rows s before z p) f (subst (λ (z : Option (Member × Member)). Descends rows s before found z) h d))

-- ---- all steps

-- the rest of the steps leads from the members where all of them lead from the row at the place
pub record Leads (rows : List Cell) (p : ℕ) (steps rest : List Step) (set : List Member) : Type 0 where
  pub members : AreMembers rows set
  pub told : (P : Tree) (keep : Node → Bool) (n : Node) → NodeAt rows P keep p n
      → Ascends (serials set) × ((j : Node) → In j P.nodes → keep j ≡ true → any (λ (m : Member). hits m.serial rest j) set ≡ hits (serial_of n) steps j)

module _ (rows : List Cell) (p : ℕ) (steps : List Step) where
  pub leads_start : (m : Member) → IsMember rows m → m.place ≡ p → Leads rows p steps steps (m ∷ [])
  leads_start m is e = record {
    members = λ x i. elim i [ inl f ↦ subst (λ (z : Member). IsMember rows z) f is | inr j ↦ absurd j ];
    told = λ P keep n at.
        let same : m.serial ≡ serial_of n = sym (is.number at.cell at.cell_among (at.at ∙ sym e)) ∙ at.number in
        (((λ j i. absurd i), tt), λ j i k. or_false (hits m.serial steps j) ∙ ap (λ q. hits q steps j) same);
  }
    where
      or_false : (b : Bool) → (b || false) ≡ b
      or_false true = refl
      or_false false = refl

  pub leads_on : (s : Step) (rest : List Step) (set new : List Member) → Leads rows p steps (s ∷ rest) set → AreNext rows set s new → Leads rows p steps rest new
  leads_on s rest set new l a = record {
    members = a.members;
    told = λ P keep n at.
        let of = at.rows_of in
        let g = grown_tree rows P keep of in
        let old = l.told P keep n at in
        let listed = a.told P keep of old.0 in (
          subst (λ (ks : List ℕ). Ascends ks) (sym listed) (next_rise rows s P keep of set),
          λ j i k. same_bools _ _
              (λ h.
              let m = any_in (λ (x : Member). hits x.serial rest j) new h in
              let y = In-map m.0.serial (filter (is_next set s) (filter keep P.nodes)) (subst (λ (ks : List ℕ). In m.0.serial ks) listed (In-serials_from m.0 new m.1)) in
              let f = In-filter (is_next set s) y.0 (filter keep P.nodes) y.1 in
              let z = In-filter keep y.0 P.nodes f.0 in
              let r = any_in (λ (x : Member). reach x.serial s y.0) set f.1 in
              let on : hits (serial_of y.0) rest j ≡ true = ap (λ q. hits q rest j) y.2 ∙ m.2 in
              let way : hits r.0.serial (s ∷ rest) j ≡ true = any_from (λ (x : Node). reach r.0.serial s x && hits (serial_of x) rest j) y.0 (above j) (hits_above P g y.0 rest j z.0 i on) (and_from _ _ r.2 on) in
              sym (old.1 j i k) ∙ any_from (λ (x : Member). hits x.serial (s ∷ rest) j) r.0 set r.1 way)
              (λ h.
              let m = any_in (λ (x : Member). hits x.serial (s ∷ rest) j) set (old.1 j i k ∙ h) in
              let y = any_in (λ (x : Node). reach m.0.serial s x && hits (serial_of x) rest j) (above j) m.2 in
              let b = and_parts (reach m.0.serial s y.0) (hits (serial_of y.0) rest j) y.2 in
              let z = above_kept rows P keep of j y.0 i k y.1 in
              let is : is_next set s y.0 ≡ true = any_from (λ (x : Member). reach x.serial s y.0) m.0 set m.1 b.0 in
              let q = In-serials (serial_of y.0) new (subst (λ (ks : List ℕ). In (serial_of y.0) ks) (sym listed) (In-map_from y.0 _ (In-kept (is_next set s) y.0 (filter keep P.nodes) (In-kept keep y.0 P.nodes z.0 z.1) is))) in
              any_from (λ (x : Member). hits x.serial rest j) q.0 new q.1 (ap (λ v. hits v rest j) q.2 ∙ b.1)),
        );
  }

  pub leads_end : (set : List Member) → Leads rows p steps [] set → AreReached rows p steps set
  leads_end set l P keep n at = record {
    serials = same_ascending (serials set) (map serial_of (matches (only keep P) (serial_of n) steps)) (l.told P keep n at).0 (ascends_rising _ (rising_filter (hits (serial_of n) steps) _ (kept_rise_of P keep at.rows_of)))
        (λ k i.
        let m = In-serials k set i in
        let x = member_of m.0 (l.members m.0 m.1) P keep at.rows_of in
        let b = x.1 in
        let here : hits m.0.serial [] x.0 ≡ true = eq-eqb (serial_of x.0) m.0.serial x.2 in
        let h = sym ((l.told P keep n at).1 x.0 b.among b.kept) ∙ any_from (λ (y : Member). hits y.serial [] x.0) m.0 set m.1 here in
        subst (λ q. In q (map serial_of (matches (only keep P) (serial_of n) steps))) (x.2 ∙ m.2)
        (In-map_from x.0 _ (In-kept (hits (serial_of n) steps) x.0 (filter keep P.nodes) (In-kept keep x.0 P.nodes b.among b.kept) h)))
        (λ k i.
        let x = In-map k (matches (only keep P) (serial_of n) steps) i in
        let f = In-filter (hits (serial_of n) steps) x.0 (filter keep P.nodes) x.1 in
        let z = In-filter keep x.0 P.nodes f.0 in
        let m = any_in (λ (y : Member). hits y.serial [] x.0) set ((l.told P keep n at).1 x.0 z.0 z.1 ∙ f.1) in
        subst (λ q. In q (serials set)) (sym (eqb-true (serial_of x.0) m.0.serial m.2) ∙ x.2) (In-serials_from m.0 set m.1));
    places = λ m i.
        let x = member_of m (l.members m i) P keep at.rows_of in
        λ c j e. at_placed rows P keep m.place x.0 x.1 c j (e ∙ sym x.2);
  }
    where
      member_of : (m : Member) → IsMember rows m → (P : Tree) (keep : Node → Bool) → RowsOf rows P keep → (x : Node) × NodeAt rows P keep m.place x × (serial_of x ≡ m.serial)
      member_of m is P keep of =
          let x = node_for rows P keep of is.used.cell is.used.among in
          let told = serial_told rows P keep of is.used.cell x.0 x.1 in
          (x.0, subst (λ q. NodeAt rows P keep q x.0) is.used.place (node_at rows P keep of is.used.cell x.0 is.used.among x.1), sym told ∙ is.number is.used.cell is.used.among is.used.place)

      kept_rise_of : (P : Tree) (keep : Node → Bool) → RowsOf rows P keep → Rising (filter keep P.nodes)
      kept_rise_of P keep of = Rising-filter 0 keep P.nodes (grown_tree rows P keep of).numbered

-- a member of a set, by its index
pub member_at : (rows : List Cell) (set : List Member) (i : ℕ) (d : Member) → AreMembers rows set → i < length set → IsMember rows (get_or set i d)
member_at rows [] i d h l = absurd (omega arith)
member_at rows (m ∷ ms) zero d h l = h m (inl refl)
member_at rows (m ∷ ms) (suc i) d h l = member_at rows ms i d (λ x j. h x (inr j)) (omega arith)

pub next_of_same : (rows : List Cell) (set same : List Member) (s : Step) (ms : List Member) → set ≡ same → AreNext rows set s ms → AreNext rows same s ms
next_of_same rows set same s ms e a = subst (λ (x : List Member). AreNext rows x s ms) e a
