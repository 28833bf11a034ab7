-- The run of a plan over a whole tree, by the times at which things happen in it. A time is a number of tokens (this
-- project's).
use Rattle.std.specs.Prelude.{◌≡◌, ℕ, zero, suc, ◌≤◌, Bool, true, false, cond, not, ◌&&◌, List, [], ◌∷◌, ◌++◌, length, map, max, min, take, nat_le, nat_lt, filter, Option, Some, None}
use Rattle.gcx_base.specs.declared.kind.Kind.{Kind}
use Rattle.gcx_base.specs.declared.kind.Kind.TheVariants.{Document, Element, Text}
use Rattle.gcx_model.specs.Tree.{Node, serial_of, kind_of, within, Tree, TreeToken, opening, grow, grow_all, is_open_at, is_closed}
use Rattle.gcx_model.specs.Members.{In}
use Rattle.gcx_model.specs.Nodes.{Grown}
use Rattle.gcx_model.specs.Paths.{matches, value}
use Rattle.gcx_model.specs.Written.{start_tag, end_tag, escaped}
use Rattle.gcx_model.specs.Answer.{children}
use Rattle.gcx_model.specs.Values.{ComparedValue, Bytes, Units, compare}
use Rattle.gcx_model.specs.Core.{OperandTree, Path, Str, Num, CondTree, CondTrees, Always, Exists, Compare, Not, AllOf, AnyOf, no_cond, more_conds, ItemTree, Write, Copy, For, If, SignOff, BodyTree, Nil, Then, PlanTree}
use Rattle.gcx_model.specs.Truth.{Env, bind_var, node_value}
use Rattle.gcx_model.specs.Run.{Action, Wrote, Offed, env0}

-- For each number of a node the time at which it was opened, and the time at which it was closed.
pub record Clock : Type 0 where
  pub opened : ℕ → ℕ
  pub closed : ℕ → ℕ

-- the tree of the first j tokens
abbrev pub tree_at : List TreeToken → ℕ → Tree
tree_at ts j = grow_all (take j ts) opening

-- the node is there at the time j
abbrev pub is_there : Clock → ℕ → Node → Bool
is_there c j n = nat_le (c.opened (serial_of n)) j

-- The clock tells the times of these nodes for the trees that these tokens make, up to the time `most`.
pub record IsClock (c : Clock) (ts : List TreeToken) (C : Tree) (most : ℕ) : Type 0 where
  pub grown : Grown C
  -- no node is open
  pub shut : C.at ≡ None
  -- the nodes at a time are those of all that are opened by then,
  pub nodes : (j : ℕ) → j ≤ most → (tree_at ts j).nodes ≡ filter (is_there c j) C.nodes
  -- and of these the ones are closed that are closed by then.
  pub closed : (j : ℕ) → j ≤ most → (n : Node) → In n C.nodes → c.opened (serial_of n) ≤ j
      → is_closed (tree_at ts j) n ≡ nat_le (c.closed (serial_of n)) j
  -- of two nodes the one with the smaller number is opened first, or with the other
  pub rises : (a b : Node) → In a C.nodes → In b C.nodes → serial_of a ≤ serial_of b
      → c.opened (serial_of a) ≤ c.opened (serial_of b)
  -- a node is opened before it is closed, and what is in it is closed no later
  pub inside : (n m : Node) → In n C.nodes → In m C.nodes → within (serial_of n) m ≡ true
      → (c.opened (serial_of m) ≤ c.closed (serial_of m)) × (c.closed (serial_of m) ≤ c.closed (serial_of n))
  -- what is closed by then has its value
  pub value : (j : ℕ) → j ≤ most → (n : Node) → In n C.nodes → c.closed (serial_of n) ≤ j
      → value (tree_at ts j) n ≡ value C n

-- The time at which these tokens, which stand behind `now` tokens that made P, open the node of this number: from then
-- on it is there.
abbrev pub opened_from : List TreeToken → Tree → (now : ℕ) → ℕ → ℕ
opened_from [] P now n = now
opened_from (t ∷ ts) P now n = cond (nat_lt n (length P.nodes)) now (opened_from ts (grow t P) (suc now) n)

-- The time at which they close it: from then on it is there and closed.
abbrev pub closed_from : List TreeToken → Tree → (now : ℕ) → ℕ → ℕ
closed_from [] P now n = now
closed_from (t ∷ ts) P now n =
    cond (nat_lt n (length P.nodes) && not (is_open_at P.at n)) now (closed_from ts (grow t P) (suc now) n)

-- the clock of these tokens
abbrev pub clock_of : List TreeToken → Clock
clock_of ts = record { opened = opened_from ts opening 0; closed = closed_from ts opening 0 }

-- an action, and the time from which on it is possible
pub record TimedAction : Type 0 where
  pub at : ℕ
  pub act : Action

-- actions with their times, and the time from which on they are done
pub record TimedCourse : Type 0 where
  pub acts : List TimedAction
  pub till : ℕ

-- the action without its time
abbrev pub act_of : TimedAction → Action
act_of a = a.act

-- this action alone, possible from this time on
abbrev pub one_act : ℕ → Action → TimedCourse
one_act t a = record { acts = record { at = t; act = a } ∷ []; till = t }

-- no action, done from this time on
abbrev pub none_till : ℕ → TimedCourse
none_till t = record { acts = []; till = t }

-- and then this, from the time on at which that is done
abbrev pub then_on : TimedCourse → (ℕ → TimedCourse) → TimedCourse
then_on a f = record { acts = a.acts ++ (f a.till).acts; till = (f a.till).till }

-- one after the other, each once its node is there; over from this time on
abbrev pub rounds : Clock → (Node → ℕ → TimedCourse) → List Node → (over : ℕ) → ℕ → TimedCourse
rounds c f [] over t = none_till (max t over)
rounds c f (n ∷ ns) over t = then_on (f n (max t (c.opened (serial_of n)))) (rounds c f ns over)

-- the course of a node's copy by its kind, where `inner` is that of its children
abbrev pub copy_course_with : Kind → (ℕ → TimedCourse) → ℕ → TimedCourse
copy_course_with Document inner t = inner t
copy_course_with (Element name) inner t =
    then_on (one_act t (Wrote (start_tag name))) (λ u. then_on (inner u) (λ v. one_act v (Wrote (end_tag name))))
copy_course_with (Text b) inner t = one_act t (Wrote (escaped b))

-- no more than `most` levels deep
abbrev pub copy_course : (most : ℕ) → Clock → Tree → Node → ℕ → TimedCourse
copy_course zero c C n t = none_till t
copy_course (suc most) c C n t =
    copy_course_with (kind_of n) (rounds c (copy_course most c C) (children C n) (c.closed (serial_of n))) t

-- a truth, and the time from which on it is known
pub record SettledTruth : Type 0 where
  pub at : ℕ
  pub truth : Bool

-- whether there is a node among these, of which no more come from this time on
abbrev pub exists_settled : Clock → List Node → (over : ℕ) → SettledTruth
exists_settled c [] over = record { at = over; truth = false }
exists_settled c (m ∷ ms) over = record { at = c.opened (serial_of m); truth = true }

-- a value, and the time from which on it counts
abbrev pub TimedValue : Type 0
TimedValue = ℕ × ComparedValue

-- the operand's values over the tree
abbrev pub timed_values : Clock → Tree → Env → OperandTree → List TimedValue
timed_values c C env (Path x steps) =
    map (λ m. (c.closed (serial_of m), node_value C m)) (matches C (serial_of (env x)) steps)
timed_values c C env (Str b) = (0, Bytes b) ∷ []
timed_values c C env (Num l) = (0, Units l) ∷ []

-- no more values come from this time on
abbrev pub over_at : Clock → Env → OperandTree → ℕ
over_at c env (Path x steps) = c.closed (serial_of (env x))
over_at c env (Str b) = 0
over_at c env (Num l) = 0

-- the smaller of two times, where there is one
abbrev pub sooner : Option ℕ → Option ℕ → Option ℕ
sooner None b = b
sooner (Some a) None = Some a
sooner (Some a) (Some b) = Some (min a b)

-- this time, if the pair satisfies the relation
abbrev pub pair_at : Bool → ℕ → Option ℕ
pair_at true t = Some t
pair_at false t = None

-- the time from which on the value is in a pair that satisfies the relation
abbrev pub earliest_with : (ComparedValue → ComparedValue → Bool) → TimedValue → List TimedValue → Option ℕ
earliest_with r v [] = None
earliest_with r v (w ∷ ws) = sooner (pair_at (r v.1 w.1) (max v.0 w.0)) (earliest_with r v ws)

-- the time from which on some pair of these values satisfies the relation
abbrev pub earliest : (ComparedValue → ComparedValue → Bool) → (vs ws : List TimedValue) → Option ℕ
earliest r [] ws = None
earliest r (v ∷ vs) ws = sooner (earliest_with r v ws) (earliest r vs ws)

-- true from that time on, or false once no more values come
abbrev pub compare_settled : Option ℕ → (over : ℕ) → SettledTruth
compare_settled None over = record { at = over; truth = false }
compare_settled (Some t) over = record { at = t; truth = true }

-- the second one, known no sooner than the first, where the first is true, and else the first
abbrev pub both_settled : SettledTruth → SettledTruth → SettledTruth
both_settled a b = cond a.truth (record { at = max a.at b.at; truth = b.truth }) a

-- the second one, known no sooner than the first, where the first is false, and else the first
abbrev pub either_settled : SettledTruth → SettledTruth → SettledTruth
either_settled a b = cond a.truth a (record { at = max a.at b.at; truth = b.truth })

-- the truth of a condition over the tree, and the time from which on it is known
abbrev mutual
  pub settled : Clock → Tree → CondTree → Env → SettledTruth
  settled c C Always env = record { at = 0; truth = true }
  settled c C (Exists x steps) env =
      exists_settled c (matches C (serial_of (env x)) steps) (c.closed (serial_of (env x)))
  settled c C (Compare l rel r) env = compare_settled
      (earliest (compare rel) (timed_values c C env l) (timed_values c C env r))
      (max (over_at c env l) (over_at c env r))
  settled c C (Not k) env = record { at = (settled c C k env).at; truth = not (settled c C k env).truth }
  settled c C (AllOf ks) env = settled_all c C ks env
  settled c C (AnyOf ks) env = settled_any c C ks env

  pub settled_all : Clock → Tree → CondTrees → Env → SettledTruth
  settled_all c C no_cond env = record { at = 0; truth = true }
  settled_all c C (more_conds k ks) env = both_settled (settled c C k env) (settled_all c C ks env)

  pub settled_any : Clock → Tree → CondTrees → Env → SettledTruth
  settled_any c C no_cond env = record { at = 0; truth = false }
  settled_any c C (more_conds k ks) env = either_settled (settled c C k env) (settled_any c C ks env)

-- the course of a body, begun at a time
abbrev mutual
  pub item_course : Clock → Tree → ItemTree → Env → ℕ → TimedCourse
  item_course c C (Write b) env t = one_act t (Wrote b)
  item_course c C (Copy x) env t = copy_course (length C.nodes) c C (env x) t
  item_course c C (For x y s d) env t = rounds c
      (λ n u. course c C d (bind_var env x n) u)
      (matches C (serial_of (env y)) (s ∷ []))
      (c.closed (serial_of (env y)))
      t
  item_course c C (If k a b) env t = cond (settled c C k env).truth
      (course c C a env (max t (settled c C k env).at))
      (course c C b env (max t (settled c C k env).at))
  item_course c C (SignOff o) env t = one_act t (Offed o (serial_of (env o.base)))

  pub course : Clock → Tree → BodyTree → Env → ℕ → TimedCourse
  course c C Nil env t = none_till t
  course c C (Then i d) env t = then_on (item_course c C i env t) (course c C d env)

-- the actions of the plan's run, each with its time
abbrev pub timed_acts : Clock → Tree → PlanTree → List TimedAction
timed_acts c C plan = (course c C plan.body env0 0).acts

-- the action is possible at the time j
abbrev pub is_due : ℕ → TimedAction → Bool
is_due j a = nat_le a.at j

-- those that are possible at the time j
abbrev pub due : ℕ → List TimedAction → List Action
due j acts = map act_of (filter (is_due j) acts)
