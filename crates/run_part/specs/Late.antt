-- What the two actors stand for where rows are made late, and what lent tokens make of them (this project's).
use Rattle.std.specs.Prelude.{◌≡◌, ◌≤◌, ◌+◌, ℕ, Bool, true, List, [], ◌++◌, length, map, max}
use Rattle.gcx_model.specs.Tree.{Tree, TreeToken as Said, Start, Chars, End, grow, opening}
use Rattle.gcx_model.specs.Core.{PlanTree}
use Rattle.gcx_model.specs.Held.{sum_given}
use Rattle.gcx_model.specs.Growth.{may_all}
use Rattle.gcx_model.specs.Points.{actions}
use Rattle.gcx_model.specs.Seen.{seen_tree}
pub use Rattle.outside.specs.Tokens.{AllCome, IsLow, said_lent}
use Rattle.buf_tree.specs.Loose.{Passed, Loosely, with_passed}
use Rattle.buf_tree.specs.View.{View, capped}
use Rattle.projector.specs.Late.{StandLoosely, passed_in}
use Rattle.projector.specs.Projector.{Places}
use Rattle.projector.specs.declared.projector.Tally.{Tally}
use Rattle.pull_eval.specs.Acting.{Beside}
use Rattle.run_part.specs.View.{ActorsView}
use Rattle.run_part.specs.declared.lent.Group.{Group}
use Rattle.run_part.specs.declared.actors.Tallied.{Tallied}
use Rattle.run_part.specs.Actors.{ComesWithin, Counted, Goes, IsBalanced, StandAt, all_of, counted, past_at}
use Rattle.run_part.specs.Counts.{CountsOf}

-- ---- what they stand for

-- some places for the rows of passed elements
abbrev pub some_places : List Passed → List ℕ
some_places xs = map (λ (x : Passed). x.serial) xs

-- the buffer with the rows that the passed elements will have, whose names lie in these bytes
abbrev pub seen_late : {C : Type 0} → (bytes : List ℕ) → ActorsView C → View
seen_late bytes a = with_passed (some_places (passed_in bytes a.projector.passed)) (passed_in bytes a.projector.passed) a.buffer

-- The two actors stand for the tree P with the first k actions of the plan's run taken, but for the rows of the passed elements.
-- No departure is kept.
pub record StandLate {C : Type 0} (bytes : List ℕ) (stands : C → Tree → Type 0) (plan : PlanTree) (a : ActorsView C) (P : Tree) (k : ℕ) : Type 0 where
  pub fed : ℕ
  pub loosely : StandLoosely bytes a.projector a.buffer (past_at plan P k fed)
  pub keeps : Places a.projector a.buffer
  pub gone : a.buffer.gone ≡ []
  pub beside : Loosely (λ v. Beside a.machine.position v (past_at plan P k fed) k) (passed_in bytes a.projector.passed) a.buffer
  pub stand : stands a.machine.conds P

-- They stand so for some state.
pub record SomeLate {C : Type 0} (bytes : List ℕ) (stands : C → Tree → Type 0) (a : ActorsView C) : Type 0 where
  pub plan : PlanTree
  pub tree : Tree
  pub taken : ℕ
  pub of : StandLate bytes stands plan a tree taken
  pub low : IsLow tree

-- ---- the rows are made

-- `settle`: the actors stand for the state as always, and the rows are counted
pub record SettledAt {C : Type 0} (bytes : List ℕ) (stands : C → Tree → Type 0) (plan : PlanTree) (old new : ActorsView C) (P : Tree) (k : ℕ) : Type 0 where
  pub actors : StandAt stands plan new P k
  pub rows : length new.buffer.rows ≡ length (seen_late bytes old).rows
  pub most : length old.buffer.rows ≤ old.buffer.most → new.buffer.most ≡ max old.buffer.most (length (seen_late bytes old).rows)

abbrev pub SettlesFrom : {C : Type 0} → (bytes : List ℕ) → (C → Tree → Type 0) → (old new : ActorsView C) → Type 0
SettlesFrom bytes stands old new = (plan : PlanTree) (P : Tree) (k : ℕ) → StandLate bytes stands plan old P k → SettledAt bytes stands plan old new P k

-- no more was taken back than given, where memory ran out
abbrev pub BalancesLate : {C : Type 0} → (bytes : List ℕ) → (C → Tree → Type 0) → (old new : ActorsView C) → Type 0
BalancesLate bytes stands old new = (plan : PlanTree) (P : Tree) (k : ℕ) → StandLate bytes stands plan old P k → old.counts.given ≡ capped (sum_given plan P) → IsBalanced new

-- The rows were made where the store had never had as many as are seen: then, or as it was, it has had so many.
pub record SettledOver {C : Type 0} (bytes : List ℕ) (stands : C → Tree → Type 0) (plan : PlanTree) (old new : ActorsView C) (P : Tree) (k : ℕ) : Type 0 where
  pub actors : StandLate bytes stands plan new P k
  pub rows : length (seen_late bytes new).rows ≡ length (seen_late bytes old).rows
  pub most : length old.buffer.rows ≤ old.buffer.most → new.buffer.most ≡ max old.buffer.most (length (seen_late bytes old).rows)

abbrev pub SettlesOver : {C : Type 0} → (bytes : List ℕ) → (C → Tree → Type 0) → (old new : ActorsView C) → Type 0
SettlesOver bytes stands old new = (plan : PlanTree) (P : Tree) (k : ℕ) → StandLate bytes stands plan old P k → SettledOver bytes stands plan old new P k

-- ---- a token

-- the token may be fed behind some state for which they stand so
pub record MayFeedLate {C : Type 0} (bytes : List ℕ) (stands : C → Tree → Type 0) (a : ActorsView C) (t : Said) : Type 0 where
  pub plan : PlanTree
  pub tree : Tree
  pub taken : ℕ
  pub of : StandLate bytes stands plan a tree taken
  pub comes : ComesWithin t tree
  pub low : IsLow (grow t tree)

-- the counts with what a token did that was fed as always
abbrev pub noted : {C : Type 0} → ActorsView C → Tally → ActorsView C
noted a tally = record a { buffer = record a.buffer { gone = [] }; counts = counted a.counts tally (length a.buffer.rows) }

-- the counts with an element that was passed, among the rows
abbrev pub seen_counts : {C : Type 0} → ActorsView C → Tallied
seen_counts a = record a.counts { peak = max a.counts.peak (length a.buffer.rows + length a.projector.passed) }

-- What is counted of a token that was passed, and which rows were made: a text and an end leave no more rows than there were.
abbrev pub CountsPassed : {C : Type 0} → (bytes : List ℕ) → (C → Tree → Type 0) → (old new : ActorsView C) → Said → Type 0
CountsPassed bytes stands old new (Start name) = SettlesOver bytes stands old new × (new.counts ≡ seen_counts old)
CountsPassed bytes stands old new (Chars text) = new ≡ old
CountsPassed bytes stands old new End = new ≡ old

-- A token was fed. Where as many rows were counted as were seen, so they are now.
pub record FeedsOneLate {C : Type 0} (bytes : List ℕ) (stands : C → Tree → Type 0) (plan : PlanTree) (old new : ActorsView C) (t : Said) (P : Tree) (k : ℕ) : Type 0 where
  pub actors : StandLate bytes stands plan new (grow t P) k
  pub counted : length (seen_late bytes old).rows ≤ old.counts.peak → Counted plan t P k (seen_late bytes old) (seen_late bytes new) old.counts new.counts

-- from each state for which they stood
abbrev pub FeedsEachLate : {C : Type 0} → (bytes : List ℕ) → (C → Tree → Type 0) → (old new : ActorsView C) → Said → Type 0
FeedsEachLate bytes stands old new t = (plan : PlanTree) (P : Tree) (k : ℕ) → StandLate bytes stands plan old P k → ComesWithin t P → FeedsOneLate bytes stands plan old new t P k

abbrev pub IsQuietLate : {C : Type 0} → (bytes : List ℕ) → (C → Tree → Type 0) → ActorsView C → Said → Type 0
IsQuietLate bytes stands old t = (plan : PlanTree) (P : Tree) → StandLate bytes stands plan old P (all_of plan P) → ComesWithin t P → actions plan (grow t P) ≡ actions plan P

abbrev pub BalancesEachLate : {C : Type 0} → (bytes : List ℕ) → (C → Tree → Type 0) → (old new : ActorsView C) → Said → Type 0
BalancesEachLate bytes stands old new t = (plan : PlanTree) (P : Tree) (k : ℕ) → StandLate bytes stands plan old P k → ComesWithin t P → old.counts.given ≡ capped (sum_given plan P) → IsBalanced new

-- ---- tokens

-- Behind these tokens every action is taken, and the counts are theirs.
pub record StandBehind {C : Type 0} (stands : C → Tree → Type 0) (plan : PlanTree) (ahead : ℕ) (a : ActorsView C) (ts : List Said) : Type 0 where
  pub actors : StandAt stands plan a (seen_tree ts) (all_of plan (seen_tree ts))
  pub counts : CountsOf plan ts ahead a.buffer a.counts

-- the same where rows are made late
pub record LateBehind {C : Type 0} (bytes : List ℕ) (stands : C → Tree → Type 0) (plan : PlanTree) (ahead : ℕ) (a : ActorsView C) (ts : List Said) : Type 0 where
  pub actors : StandLate bytes stands plan a (seen_tree ts) (all_of plan (seen_tree ts))
  pub counts : CountsOf plan ts ahead (seen_late bytes a) a.counts

-- More tokens may be fed behind these.
pub record MayFeedAll {C : Type 0} (stands : C → Tree → Type 0) (plan : PlanTree) (ahead : ℕ) (a : ActorsView C) (ts more : List Said) : Type 0 where
  pub stand : StandBehind stands plan ahead a ts
  pub may : may_all ts opening ≡ true
  pub come : AllCome (seen_tree ts) more

-- behind some tokens
pub record SomeFed {C : Type 0} (stands : C → Tree → Type 0) (ahead : ℕ) (a : ActorsView C) (more : List Said) : Type 0 where
  pub plan : PlanTree
  pub given : List Said
  pub of : MayFeedAll stands plan ahead a given more

-- the greatest number of rows of the store is kept as it is counted
abbrev pub KeepsMostLate : {C : Type 0} → (old new : ActorsView C) → Type 0
KeepsMostLate old new = (lent : ℕ) → old.buffer.most ≡ max lent old.counts.peak → new.buffer.most ≡ max lent new.counts.peak

-- Up to `ahead` tokens were fed, and no action taken; where they are quiet, none is possible that wasn't.
pub record FedSomeLate {C : Type 0} (bytes : List ℕ) (stands : C → Tree → Type 0) (plan : PlanTree) (ahead : ℕ) (old new : ActorsView C) (ts more : List Said) (quiet : Bool) : Type 0 where
  pub few : length more ≤ ahead
  pub actors : StandLate bytes stands plan new (seen_tree (ts ++ more)) (all_of plan (seen_tree ts))
  pub counts : CountsOf plan (ts ++ more) ahead (seen_late bytes new) new.counts
  pub seen : length (seen_late bytes new).rows ≤ new.counts.peak
  pub most : KeepsMostLate old new
  pub quietly : quiet ≡ true → actions plan (seen_tree (ts ++ more)) ≡ actions plan (seen_tree ts)

-- what the run over the tree of these tokens and more writes beyond what it writes over that of these
abbrev pub GoesBehind : PlanTree → (ts more : List Said) → (before after : List ℕ) → Type 0
GoesBehind plan ts more before after = Goes plan (seen_tree ts) (all_of plan (seen_tree ts)) (seen_tree (ts ++ more)) (all_of plan (seen_tree (ts ++ more))) before after

-- They were fed, and every action taken.
pub record FedGroupLate {C : Type 0} (bytes : List ℕ) (stands : C → Tree → Type 0) (plan : PlanTree) (ahead : ℕ) (old new : ActorsView C) (ts more : List Said) (before after : List ℕ) : Type 0 where
  pub stand : LateBehind bytes stands plan ahead new (ts ++ more)
  pub goes : GoesBehind plan ts more before after
  pub most : KeepsMostLate old new

-- Memory ran out behind the first of them, and some of the actions behind these.
pub record BrokeLate {C : Type 0} (plan : PlanTree) (new : ActorsView C) (ts more : List Said) (before after : List ℕ) : Type 0 where
  pub fed : List Said
  pub rest : List Said
  pub parts : more ≡ fed ++ rest
  pub taken : ℕ
  pub there : taken ≤ all_of plan (seen_tree (ts ++ fed))
  pub goes : Goes plan (seen_tree ts) (all_of plan (seen_tree ts)) (seen_tree (ts ++ fed)) taken before after
  pub balance : IsBalanced new

-- ---- where a group ends

-- Some tokens of a group were fed behind some others.
pub record SomeGroupLate {C : Type 0} (bytes : List ℕ) (stands : C → Tree → Type 0) (a : ActorsView C) (quiet : Bool) : Type 0 where
  pub plan : PlanTree
  pub ahead : ℕ
  pub at : ActorsView C
  pub given : List Said
  pub group : List Said
  pub may : may_all given opening ≡ true
  pub come : AllCome (seen_tree given) group
  pub fed : FedSomeLate bytes stands plan ahead at a given group quiet

-- whatever was fed of it, this holds then
abbrev pub OfGroupLate : {C : Type 0} → (bytes : List ℕ) → (C → Tree → Type 0) → ActorsView C → (quiet : Bool) → (PlanTree → ℕ → ActorsView C → (ts more : List Said) → Type 0) → Type 0
OfGroupLate {C = C} bytes stands a quiet holds = (plan : PlanTree) (ahead : ℕ) (at : ActorsView C) (ts more : List Said) → may_all ts opening ≡ true → AllCome (seen_tree ts) more → FedSomeLate bytes stands plan ahead at a ts more quiet → holds plan ahead at ts more

-- every action was taken
abbrev pub EndsGroupLate : {C : Type 0} → (bytes : List ℕ) → (C → Tree → Type 0) → (old new : ActorsView C) → (quiet : Bool) → (before after : List ℕ) → Type 0
EndsGroupLate bytes stands old new quiet before after = OfGroupLate bytes stands old quiet (λ plan ahead at ts more. FedGroupLate bytes stands plan ahead at new ts more before after)

-- or memory ran out
abbrev pub BreaksGroupLate : {C : Type 0} → (bytes : List ℕ) → (C → Tree → Type 0) → (old new : ActorsView C) → (quiet : Bool) → (before after : List ℕ) → Type 0
BreaksGroupLate bytes stands old new quiet before after = OfGroupLate bytes stands old quiet (λ plan ahead at ts more. BrokeLate plan new ts more before after)

-- ---- a slice

-- Of a slice some groups were fed, with every action taken, and of the group behind them some tokens, to which so many may come still. These tokens are left.
pub record AmongLate {C : Type 0} (bytes : List ℕ) (stands : C → Tree → Type 0) (plan : PlanTree) (ahead : ℕ) (old new : ActorsView C) (ts all rest : List Said) (before after : List ℕ) (left : ℕ) (quiet : Bool) : Type 0 where
  pub done : List Said
  pub group : List Said
  pub parts : all ≡ done ++ (group ++ rest)
  pub count : length group + left ≡ ahead
  pub at : ActorsView C
  pub goes : GoesBehind plan ts done before after
  pub most : KeepsMostLate old at
  pub fed : FedSomeLate bytes stands plan ahead at new (ts ++ done) group quiet

-- it is so of some slice
pub record SomeAmong {C : Type 0} (bytes : List ℕ) (stands : C → Tree → Type 0) (ahead : ℕ) (a : ActorsView C) (after : List ℕ) (left : ℕ) (quiet : Bool) : Type 0 where
  pub plan : PlanTree
  pub first : ActorsView C
  pub given : List Said
  pub all : List Said
  pub rest : List Said
  pub before : List ℕ
  pub may : may_all given opening ≡ true
  pub come : AllCome (seen_tree given) all
  pub of : AmongLate bytes stands plan ahead first a given all rest before after left quiet

-- of whatever slice it was so, this holds then
abbrev pub OfSlice : {C : Type 0} → (bytes : List ℕ) → (C → Tree → Type 0) → (ahead : ℕ) → ActorsView C → (after : List ℕ) → (left : ℕ) → (quiet : Bool) → (PlanTree → ActorsView C → (ts all rest : List Said) → (before : List ℕ) → Type 0) → Type 0
OfSlice {C = C} bytes stands ahead a after left quiet holds = (plan : PlanTree) (first : ActorsView C) (ts all rest : List Said) (before : List ℕ) → may_all ts opening ≡ true → AllCome (seen_tree ts) all
    → AmongLate bytes stands plan ahead first a ts all rest before after left quiet → holds plan first ts all rest before

-- so it is later, where fewer may come, or the next group begins
abbrev pub KeepsAmong : {C : Type 0} → (bytes : List ℕ) → (C → Tree → Type 0) → (ahead : ℕ) → (old new : ActorsView C) → (left : ℕ) → (quiet : Bool) → (before after : List ℕ) → Group → Type 0
KeepsAmong bytes stands ahead old new left quiet u v now = OfSlice bytes stands ahead old u left quiet (λ plan first ts all rest before. AmongLate bytes stands plan ahead first new ts all rest before v now.left now.quiet)

abbrev pub BreaksAmong : {C : Type 0} → (bytes : List ℕ) → (C → Tree → Type 0) → (ahead : ℕ) → (old new : ActorsView C) → (left : ℕ) → (quiet : Bool) → (before after : List ℕ) → Type 0
BreaksAmong bytes stands ahead old new left quiet u v = OfSlice bytes stands ahead old u left quiet (λ plan first ts all rest before. BrokeLate plan new ts all before v)

-- All tokens of a slice were fed, some at a time (how many isn't said), and every action taken; no row is left to be made.
pub record FedLent {C : Type 0} (stands : C → Tree → Type 0) (plan : PlanTree) (ahead : ℕ) (old new : ActorsView C) (ts more : List Said) (before after : List ℕ) : Type 0 where
  pub stand : StandBehind stands plan ahead new (ts ++ more)
  pub goes : GoesBehind plan ts more before after
  pub most : KeepsMostLate old new

abbrev pub FeedsLent : {C : Type 0} → (C → Tree → Type 0) → (ahead : ℕ) → (old new : ActorsView C) → List Said → (before after : List ℕ) → Type 0
FeedsLent stands ahead old new more before after = (plan : PlanTree) (ts : List Said) → MayFeedAll stands plan ahead old ts more → FedLent stands plan ahead old new ts more before after

abbrev pub BreaksLent : {C : Type 0} → (C → Tree → Type 0) → (ahead : ℕ) → (old new : ActorsView C) → List Said → (before after : List ℕ) → Type 0
BreaksLent stands ahead old new more before after = (plan : PlanTree) (ts : List Said) → MayFeedAll stands plan ahead old ts more → BrokeLate plan new ts more before after
