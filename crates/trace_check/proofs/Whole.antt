-- All actions of a whole run are those of its tree.
use Rattle.std.proofs.Common.{◌≡◌, ℕ, ◌≤◌, true, not, List, [], ◌∷◌, length, map, max, Option, sym, ◌∙◌, ap, subst, inl, inr, arith}
use Rattle.std.specs.List.{filter}
use Rattle.std.proofs.lemmas.Bool.{cases_lt, le-leb, leb-true}
use Rattle.std.proofs.lemmas.List.{take_all}
use Rattle.base_laws.proofs.Members.{filter_all}
use Rattle.gcx_model.specs.Core.{PlanTree}
use Rattle.gcx_model.specs.Members.{In}
use Rattle.gcx_model.specs.Paths.{value}
use Rattle.gcx_model.specs.Points.{actions}
use Rattle.gcx_model.specs.Tree.{Node, serial_of, Tree, TreeToken, opening, grow_all, is_open_at, is_closed}
use Rattle.tree_laws.proofs.Lists.{In-filter}
use Rattle.time_laws.proofs.Runs.{run_by_times}
use Rattle.time_laws.specs.Times.{Clock, IsClock, TimedAction, act_of, due, is_due, is_there, timed_acts, tree_at}

-- ---- a clock goes on behind the last token

module _ (c : Clock) (ts : List TreeToken) (ck : IsClock c ts (grow_all ts opening) (length ts)) where
  abbrev C : Tree
  C = grow_all ts opening

  behind : (j : ℕ) → length ts ≤ j → tree_at ts j ≡ C
  behind j l = ap (λ (l : List TreeToken). grow_all l opening) (take_all j ts l)

  all_opened : (n : Node) → In n C.nodes → c.opened (serial_of n) ≤ length ts
  all_opened n i =
      let there : In n (filter (is_there c (length ts)) C.nodes)
      = subst (λ (l : List Node). In n l) (ap (λ (P : Tree). P.nodes) (sym (behind (length ts) (omega arith))) ∙ ck.nodes (length ts) (omega arith)) i in
      leb-true (c.opened (serial_of n)) (length ts) (In-filter (is_there c (length ts)) n C.nodes there).1

  shut_node : (n : Node) → is_closed C n ≡ true
  shut_node n = ap (λ (o : Option Node). not (is_open_at o (serial_of n))) ck.shut

  all_closed : (n : Node) → In n C.nodes → c.closed (serial_of n) ≤ length ts
  all_closed n i =
      leb-true (c.closed (serial_of n)) (length ts)
      (sym (ck.closed (length ts) (omega arith) n i (all_opened n i)) ∙ (ap (λ (P : Tree). is_closed P n) (behind (length ts) (omega arith)) ∙ shut_node n))

  on : (most : ℕ) → IsClock c ts C most
  on most = record {
    grown = ck.grown;
    shut = ck.shut;
    nodes = λ j l. elim (cases_lt (length ts) j) [
      | inl more ↦ ap (λ (P : Tree). P.nodes) (behind j (omega (arith, more)))
          ∙ sym (filter_all (is_there c j) C.nodes (λ n i. le-leb (c.opened (serial_of n)) j (let h = all_opened n i in omega (arith, h, more))))
      | inr less ↦ ck.nodes j less
    ];
    closed = λ j l n i o. elim (cases_lt (length ts) j) [
      | inl more ↦ ap (λ (P : Tree). is_closed P n) (behind j (omega (arith, more)))
          ∙ (shut_node n ∙ sym (le-leb (c.closed (serial_of n)) j (let h = all_closed n i in omega (arith, h, more))))
      | inr less ↦ ck.closed j less n i o
    ];
    rises = ck.rises;
    inside = ck.inside;
    value = λ j l n i o. elim (cases_lt (length ts) j) [
      | inl more ↦ ap (λ (P : Tree). value P n) (behind j (omega (arith, more)))
      | inr less ↦ ck.value j less n i o
    ];
  }

-- ---- all are due at last

abbrev latest : List TimedAction → ℕ
latest [] = 0
latest (a ∷ more) = max a.at (latest more)

by_then : (T : List TimedAction) (a : TimedAction) → In a T → a.at ≤ latest T
by_then [] a i = absurd i
by_then (x ∷ T) a (inl e) = let f = ap (λ (y : TimedAction). y.at) e in omega (arith, f)
by_then (x ∷ T) a (inr i) = let l = by_then T a i in omega (arith, l)

pub whole_acts : (c : Clock) (ts : List TreeToken) → IsClock c ts (grow_all ts opening) (length ts) → (plan : PlanTree)
    → map act_of (timed_acts c (grow_all ts opening) plan) ≡ actions plan (grow_all ts opening)
whole_acts c ts ck plan =
    let end : ℕ = max (length ts) (latest T) in
    let all : due end T ≡ map act_of T
    = ap (map act_of) (filter_all (is_due end) T (λ a i. le-leb a.at end (let l = by_then T a i in omega (arith, l)))) in
    sym all ∙ (sym (run_by_times c ts (grow_all ts opening) end (on c ts ck end) plan end (omega arith)) ∙ ap (actions plan) (behind c ts ck end (omega arith)))
  where
    T : List TimedAction
    T = timed_acts c (grow_all ts opening) plan
