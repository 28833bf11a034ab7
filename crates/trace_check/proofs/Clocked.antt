-- The times that were taken are those of a clock, and so the text told by them is the trace.
use Rattle.std.proofs.Common.{◌≡◌, ℕ, zero, suc, ◌≤◌, Bool, true, false, ◌&&◌, List, [], ◌∷◌, ◌++◌, length, Option, Some, None, refl, sym, ◌∙◌, ap, subst, arith, leb, length-append}
use Rattle.gcx_model.specs.Core.{BodyTree, PlanTree}
use Rattle.gcx_model.specs.Cores.{Good}
use Rattle.gcx_model.specs.Demand.{trace_lines}
use Rattle.gcx_model.specs.Growth.{ends, has_root, may_all, may_come, may_come_at}
use Rattle.gcx_model.specs.Members.{In}
use Rattle.gcx_model.specs.Placed.{Placed}
use Rattle.gcx_model.specs.Points.{actions}
use Rattle.gcx_model.specs.Tree.{Node, Root, Under, serial_of, Tree, TreeToken, Start, Chars, End, opening, grow, grow_all, is_open_at}
use Rattle.tree_laws.proofs.Growing.{may_all-append}
use Rattle.tree_laws.proofs.Lists.{filter_same}
use Rattle.tree_laws.proofs.Matches.{Numbered-high}
use Rattle.time_laws.proofs.Clocks.{more_nodes, the_clock}
use Rattle.time_laws.proofs.Starts.{trace_before_tokens}
use Rattle.time_laws.proofs.Traces.{trace_by_times}
use Rattle.time_laws.specs.Leaving.{told_by_times}
use Rattle.time_laws.specs.Times.{Clock, IsClock, clock_of, is_there, timed_acts}
use Rattle.trace_check.specs.Timing.{clock_in, fed_at, fed_all, HasClosed, HasTaken}
use Rattle.trace_check.specs.declared.timed.Timed.{Timed}

-- ---- the clock

-- a clock that tells the same of the nodes
same_clock : (c d : Clock) (ts : List TreeToken) (C : Tree) (most : ℕ) → ((n : Node) → In n C.nodes → d.opened (serial_of n) ≡ c.opened (serial_of n))
    → ((n : Node) → In n C.nodes → d.closed (serial_of n) ≡ c.closed (serial_of n)) → IsClock c ts C most → IsClock d ts C most
same_clock c d ts C most o e k = record {
  grown = k.grown;
  shut = k.shut;
  nodes = λ j l. k.nodes j l ∙ filter_same (is_there c j) (is_there d j) C.nodes (λ n i. ap (λ (z : ℕ). leb z j) (sym (o n i)));
  closed = λ j l n i q. k.closed j l n i (omega (arith, q, o n i)) ∙ ap (λ (z : ℕ). leb z j) (sym (e n i));
  rises = λ a b i j l. let h = k.rises a b i j l in omega (arith, h, o a i, o b j);
  inside = λ n m i j h. let q = k.inside n m i j h in (omega (arith, q.0, o m j, e m j), omega (arith, q.1, e m j, e n i));
  value = λ j l n i q. k.value j l n i (omega (arith, q, e n i));
}

pub clocked : (ts : List TreeToken) (t : Timed) → HasTaken ts t → t.tree.at ≡ None → IsClock (clock_in t) ts t.tree (length ts)
clocked ts t h shut =
    let none : (grow_all ts opening).at ≡ None = sym (ap (λ (P : Tree). P.at) h.tree_is) ∙ shut in
    let k : IsClock (clock_of ts) ts t.tree (length ts) = subst (λ (P : Tree). IsClock (clock_of ts) ts P (length ts)) (sym h.tree_is) (the_clock ts none) in
    same_clock (clock_of ts) (clock_in t) ts t.tree (length ts)
    (λ n i. let l = Numbered-high 0 t.tree.nodes k.grown.numbered n i in h.opened_is (serial_of n) (omega (arith, l)))
    (λ n i. let l = Numbered-high 0 t.tree.nodes k.grown.numbered n i in h.closed_is (serial_of n) (omega (arith, l)) (ap (λ (o : Option Node). is_open_at o (serial_of n)) shut)) k

-- ---- each token was taken by an open node

abbrev AllOpen : List TreeToken → Tree → Type 0
AllOpen [] P = Unit {0}
AllOpen (t ∷ ts) P = (P.at ≡ None → ⊥) × AllOpen ts (grow t P)

pub at_most_one : (o : Option Node) (t : TreeToken) → length (fed_at o t) ≤ 1
at_most_one None t = omega arith
at_most_one (Some p) (Start name) = omega arith
at_most_one (Some p) (Chars b) = omega arith
at_most_one (Some p) End = omega arith

pub fed_few : (ts : List TreeToken) (P : Tree) → length (fed_all ts P) ≤ length ts
fed_few [] P = omega arith
fed_few (t ∷ ts) P = let a = at_most_one P.at t in let b = fed_few ts (grow t P) in let e = length-append (fed_at P.at t) (fed_all ts (grow t P)) in omega (arith, a, b, e)

all_open : (ts : List TreeToken) (P : Tree) → length (fed_all ts P) ≡ length ts → AllOpen ts P
all_open [] P e = tt
all_open (t ∷ ts) P e =
    let a = at_most_one P.at t in
    let b = fed_few ts (grow t P) in
    let f = length-append (fed_at P.at t) (fed_all ts (grow t P)) in (
      λ none. let z : length (fed_at P.at t) ≡ 0 = ap (λ (o : Option Node). length (fed_at o t)) none in omega (arith, z, b, e, f),
      all_open ts (grow t P) (omega (arith, a, b, e, f)),
    )

-- ---- ends behind tokens may come

root_stays : (xs ys : List Node) → has_root xs ≡ true → has_root (xs ++ ys) ≡ true
root_stays [] ys h = absurd (cc)
root_stays (x ∷ []) ys h = absurd (cc)
root_stays (x ∷ (y ∷ xs)) ys h = refl

has_root_all : (ts : List TreeToken) (P : Tree) → has_root P.nodes ≡ true → has_root (grow_all ts P).nodes ≡ true
has_root_all ts P h = let m = more_nodes ts P in ap has_root m.1 ∙ root_stays P.nodes m.0 h

-- the first token opens the root
first_root : (t : TreeToken) → may_come t opening ≡ true → has_root (grow t opening).nodes ≡ true
first_root (Start name) m = refl
first_root (Chars b) m = absurd (cc)
first_root End m = absurd (cc)

ends_come : (n : ℕ) (P : Tree) → has_root P.nodes ≡ true → AllOpen (ends n) P → may_all (ends n) P ≡ true
ends_come zero P h o = refl
ends_come (suc n) P h o = and_both (may_come End P) (may_all (ends n) (grow End P)) (here P.at refl) (ends_come n (grow End P) (has_root_all (End ∷ []) P h) o.1)
  where
    and_both : (x y : Bool) → x ≡ true → y ≡ true → (x && y) ≡ true
    and_both x y e f = rw (e, f) refl

    here : (at : Option Node) → P.at ≡ at → may_come_at P.at End P.nodes ≡ true
    here None e = absurd (o.0 e)
    here (Some Root) e = ap (λ (q : Option Node). may_come_at q End P.nodes) e ∙ h
    here (Some (Under q s k)) e = ap (λ (x : Option Node). may_come_at x End P.nodes) e

open_behind : (ts us : List TreeToken) (P : Tree) → AllOpen (ts ++ us) P → AllOpen us (grow_all ts P)
open_behind [] us P o = o
open_behind (t ∷ ts) us P o = open_behind ts us (grow t P) o.1

all_come : (t : TreeToken) (ts : List TreeToken) (d : Timed) → may_all (t ∷ ts) opening ≡ true → (c : HasClosed (t ∷ ts) d) → may_all ((t ∷ ts) ++ c.closing) opening ≡ true
all_come t ts d may c =
    let whole : AllOpen ((t ∷ ts) ++ c.closing) opening = all_open ((t ∷ ts) ++ c.closing) opening (sym (ap length c.taken.fed_is) ∙ c.taken.counted) in
    let behind : AllOpen (ends (length c.closing)) (grow_all (t ∷ ts) opening) = subst (λ (us : List TreeToken). AllOpen us (grow_all (t ∷ ts) opening)) c.ends_are (open_behind (t ∷ ts) c.closing opening whole) in
    let rooted : has_root (grow_all (t ∷ ts) opening).nodes ≡ true = has_root_all ts (grow t opening) (first_root t (left (may_come t opening) (may_all ts (grow t opening)) may)) in
    may_all-append (t ∷ ts) c.closing opening may (subst (λ (us : List TreeToken). may_all us (grow_all (t ∷ ts) opening) ≡ true) (sym c.ends_are) (ends_come (length c.closing) (grow_all (t ∷ ts) opening) rooted behind))
  where
    left : (x y : Bool) → (x && y) ≡ true → x ≡ true
    left true y e = refl
    left false y e = e

-- ---- the trace

-- where nothing was read one end closes the document node
one_end : (n : ℕ) → AllOpen (ends n) opening → (grow_all (ends n) opening).at ≡ None → n ≡ 1
one_end zero o e = absurd (cc)
one_end (suc zero) o e = refl
one_end (suc (suc n)) o e = absurd (o.1.0 refl)

-- the text told by the times of a run is its trace
pub told_is_trace : (core : BodyTree) → Good core → (plan : PlanTree) → Placed core plan → (ts : List TreeToken) (d : Timed) → may_all ts opening ≡ true → HasClosed ts d
    → trace_lines plan ts ≡ told_by_times plan (clock_in d) d.tree (timed_acts (clock_in d) d.tree plan) (actions plan d.tree) ts
told_is_trace core good plan placed [] d may c =
    let whole : AllOpen c.closing opening = all_open c.closing opening (sym (ap length c.taken.fed_is) ∙ c.taken.counted) in
    let none : (grow_all c.closing opening).at ≡ None = sym (ap (λ (P : Tree). P.at) c.taken.tree_is) ∙ c.shut in
    let one : length c.closing ≡ 1 = one_end (length c.closing) (subst (λ (us : List TreeToken). AllOpen us opening) c.ends_are whole) (subst (λ (us : List TreeToken). (grow_all us opening).at ≡ None) c.ends_are none) in
    let is : c.closing ≡ End ∷ [] = c.ends_are ∙ ap ends one in
    let tree : d.tree ≡ grow End opening = c.taken.tree_is ∙ ap (λ (us : List TreeToken). grow_all us opening) is in
    let k : IsClock (clock_in d) (End ∷ []) (grow End opening) 1 =
    subst (λ (P : Tree). IsClock (clock_in d) (End ∷ []) P 1) tree (subst (λ (us : List TreeToken). IsClock (clock_in d) us d.tree (length us)) is (clocked c.closing d c.taken c.shut)) in
    trace_before_tokens plan (actions plan d.tree) (clock_in d) k
    ∙ ap (λ (P : Tree). told_by_times plan (clock_in d) P (timed_acts (clock_in d) P plan) (actions plan d.tree) []) (sym tree)
told_is_trace core good plan placed (t ∷ ts) d may c =
    let us : List TreeToken = (t ∷ ts) ++ c.closing in
    let come = all_come t ts d may c in
    let none : (grow_all us opening).at ≡ None = sym (ap (λ (P : Tree). P.at) c.taken.tree_is) ∙ c.shut in
    let k : IsClock (clock_in d) us (grow_all us opening) (length us) = subst (λ (P : Tree). IsClock (clock_in d) us P (length us)) c.taken.tree_is (clocked us d c.taken c.shut) in
    trace_by_times core good plan placed (t ∷ ts) c.closing come none (clock_in d) k
    ∙ ap (λ (P : Tree). told_by_times plan (clock_in d) P (timed_acts (clock_in d) P plan) (actions plan P) (t ∷ ts)) (sym c.taken.tree_is)
