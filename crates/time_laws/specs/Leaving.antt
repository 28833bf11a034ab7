-- When nodes leave, by the times of a run over a whole tree (this project's).
use Rattle.std.specs.Prelude.{ℕ, suc, Bool, cond, ◌&&◌, List, [], ◌∷◌, ◌++◌, length, map, max, drop, reverse, ◌==◌, ◌+◌, nat_le, filter}
use Rattle.gcx_model.specs.Tree.{Node, Root, serial_of, within, Tree, TreeToken, opening, grow}
use Rattle.gcx_model.specs.Core.{PlanTree}
use Rattle.gcx_model.specs.Run.{Action, Wrote, Offed}
use Rattle.gcx_model.specs.Held.{gives}
use Rattle.gcx_model.specs.Demand.{Line, Written, SignedOff, Left, opened_line, feed_line}
use Rattle.time_laws.specs.Times.{Clock, TimedAction, due}

-- how many of the actions carry out a statement
abbrev pub count_offs : List Action → ℕ
count_offs [] = 0
count_offs (Wrote b ∷ more) = count_offs more
count_offs (Offed o m ∷ more) = suc (count_offs more)

-- The number of the last of these statements that reaches the node, and else x. They have the numbers behind k.
abbrev pub last_from : Tree → (k : ℕ) → List Action → Node → (x : ℕ) → ℕ
last_from C k [] n x = x
last_from C k (Wrote b ∷ more) n x = last_from C k more n x
last_from C k (Offed o m ∷ more) n x = last_from C (suc k) more n (cond (gives C m o.rel o.tail o.kind n) (suc k) x)

-- the number of the last statement that reaches the node, 0 where none does
abbrev pub last_of : Tree → List Action → Node → ℕ
last_of C all n = last_from C 0 all n 0

-- the greatest of the numbers of these nodes, 0 where there is none
abbrev pub greatest : (Node → ℕ) → List Node → ℕ
greatest f [] = 0
greatest f (n ∷ ns) = max (f n) (greatest f ns)

-- the greatest of these in the node's subtree
abbrev pub freed_of : Tree → List Action → Node → ℕ
freed_of C all n = greatest (last_of C all) (filter (within (serial_of n)) C.nodes)

-- lines for those of the nodes that pass, by falling serial
abbrev pub left_where : Tree → (Node → Bool) → List Line
left_where C p = map Left (map serial_of (reverse (filter p C.nodes)))

-- the statement with the number k frees the node, which is closed by the time j
abbrev pub is_freed : Clock → Tree → List Action → (j k : ℕ) → Node → Bool
is_freed c C all j k n = nat_le (c.closed (serial_of n)) j && (freed_of C all n == k)

-- the node is closed at the time j, and none of the statements behind the first k is wanted for it
abbrev pub is_closed_and_freed : Clock → Tree → List Action → (j k : ℕ) → Node → Bool
is_closed_and_freed c C all j k n = (c.closed (serial_of n) == j) && nat_le (freed_of C all n) k

-- an action at the time j, behind k statements
abbrev pub act_told : Clock → Tree → List Action → (j k : ℕ) → Action → List Line
act_told c C all j k (Wrote b) = Written (length b) ∷ []
act_told c C all j k (Offed o m) = SignedOff m o.role ∷ left_where C (is_freed c C all j (suc k))

-- actions at the time j, the first of them behind k statements
abbrev pub acts_told : Clock → Tree → List Action → (j k : ℕ) → List Action → List Line
acts_told c C all j k [] = []
acts_told c C all j k (a ∷ more) = act_told c C all j k a ++ acts_told c C all j (count_offs (a ∷ []) + k) more

-- the actions at the time suc j
abbrev pub next_due : List TimedAction → ℕ → List Action
next_due T j = drop (length (due j T)) (due (suc j) T)

-- the tokens behind the time j, at which the tree is P
abbrev pub tokens_told : PlanTree → Clock → Tree → List TimedAction → List Action → List TreeToken → Tree → (j : ℕ)
    → List Line
tokens_told plan c C T all [] P j = []
tokens_told plan c C T all (t ∷ ts) P j =
    feed_line plan t P.at P (grow t P)
    ++ (left_where C (is_closed_and_freed c C all (suc j) (count_offs (due j T)))
    ++ (acts_told c C all (suc j) (count_offs (due j T)) (next_due T j)
    ++ tokens_told plan c C T all ts (grow t P) (suc j)))

-- the lines of the demand run over these tokens, told by times
abbrev pub told_by_times : PlanTree → Clock → Tree → List TimedAction → List Action → List TreeToken → List Line
told_by_times plan c C T all ts =
    opened_line plan opening Root ∷ (acts_told c C all 0 0 (due 0 T) ++ tokens_told plan c C T all ts opening 0)
