-- What a part stands for, and what tokens make of it (this project's).
use Rattle.std.specs.Prelude.{List, ◌≡◌, ℕ, Bool, true, false, ◌++◌}
use Rattle.gcx_model.specs.Tree.{Tree, TreeToken as Said}
use Rattle.gcx_model.specs.Core.{BodyTree, PlanTree}
use Rattle.gcx_model.specs.Cores.{Good}
use Rattle.gcx_model.specs.Placed.{Placed}
use Rattle.gcx_model.specs.PlanView.{plan_tree}
use Rattle.gcx_model.specs.declared.plan.Plan.{Plan}
use Rattle.gcx_model.specs.Seen.{seen_tree}
use Rattle.gcx_model.specs.Demand.{demand, text_of_lines}
use Rattle.run_part.specs.Late.{StandBehind, KeepsMostLate}
use Rattle.run_part.specs.Actors.{Goes, IsBalanced, all_of, bytes_at}
use Rattle.run_part.specs.Telling.{GrewPart}
use Rattle.run_part.specs.View.{LinesView, PartView}
pub use Rattle.outside.specs.Tokens.{ComeBehind}

-- it is the plan of a core
abbrev pub IsOfCore : Plan → Type 0
IsOfCore plan = (core : BodyTree) × Good core × Placed core (plan_tree plan)

-- It was made of this plan and of these lines, which are wanted or not.
pub record MadeFrom {C : Type 0} (plan : Plan) (wanted : Bool) (l : LinesView) (p : PartView C) : Type 0 where
  pub plan_is : p.plan ≡ plan
  pub tracing_is : p.tracing ≡ wanted
  pub output_is : p.output_at ≡ l.output_at
  pub lines_is : p.lines_at ≡ l.lines_at

-- The part takes groups of so many tokens. It stands for the tree of these with every action of its plan's run taken behind each group,
-- and the counts are theirs.
abbrev pub PartStands : {C : Type 0} → (C → Tree → Type 0) → (ahead : ℕ) → List Said → PartView C → Type 0
PartStands stands ahead ts p = (p.ahead ≡ ahead) × StandBehind stands (plan_tree p.plan) ahead p.actors ts

-- the part stands for some tokens behind which these come
pub record MayTakeSome {C : Type 0} (stands : C → Tree → Type 0) (p : PartView C) (more : List Said) : Type 0 where
  pub ahead : ℕ
  pub given : List Said
  pub of : PartStands stands ahead given p
  pub come : ComeBehind given more

-- from the first tokens to the others the output grew by what becomes settled
abbrev pub PartGoes : PlanTree → (ts us : List Said) → (before after : List ℕ) → Type 0
PartGoes plan ts us before after =
    Goes plan (seen_tree ts) (all_of plan (seen_tree ts)) (seen_tree us) (all_of plan (seen_tree us)) before after

-- memory ran out on the way: it grew by a front of that
pub record PartBreaks (plan : PlanTree) (ts us : List Said) (before after : List ℕ) : Type 0 where
  pub part : List ℕ
  pub rest : List ℕ
  pub written : bytes_at plan (seen_tree us) (all_of plan (seen_tree us))
      ≡ bytes_at plan (seen_tree ts) (all_of plan (seen_tree ts)) ++ (part ++ rest)
  pub grew : after ≡ before ++ part

-- the text of the lines of more tokens behind those given, with every action that is possible behind each
abbrev pub told_behind : PlanTree → (given more : List Said) → List ℕ
told_behind plan given more = text_of_lines (demand plan more (seen_tree given))

-- the part was fed these tokens
pub record TookTokens {C : Type 0} (stands : C → Tree → Type 0) (ahead : ℕ) (given more : List Said) (old new : PartView C) : Type 0 where
  pub plan : new.plan ≡ old.plan
  pub stand : PartStands stands ahead (given ++ more) new
  pub goes : PartGoes (plan_tree old.plan) given (given ++ more) old.out new.out
  pub most : KeepsMostLate old.actors new.actors
  pub told : old.tracing ≡ true → new.trace ≡ old.trace ++ told_behind (plan_tree old.plan) given more

-- or some of them
pub record TookSomeTokens {C : Type 0} (given more : List Said) (old new : PartView C) : Type 0 where
  pub plan : new.plan ≡ old.plan
  pub breaks : PartBreaks (plan_tree old.plan) given (given ++ more) old.out new.out
  pub balance : IsBalanced new.actors
  pub told : old.tracing ≡ true → GrewPart old.trace new.trace (told_behind (plan_tree old.plan) given more)

abbrev pub PartTakes : {C : Type 0} → (C → Tree → Type 0) → (old new : PartView C) → List Said → Type 0
PartTakes stands old new more = (ahead : ℕ) (given : List Said) → PartStands stands ahead given old → ComeBehind given more → TookTokens stands ahead given more old new

abbrev pub PartTakesSome : {C : Type 0} → (C → Tree → Type 0) → (old new : PartView C) → List Said → Type 0
PartTakesSome stands old new more = (ahead : ℕ) (given : List Said) → PartStands stands ahead given old → ComeBehind given more → TookSomeTokens given more old new

-- What taking tokens leaves of a part as it is. Where no lines are wanted none are appended.
pub record KeepsPart {C : Type 0} (old new : PartView C) : Type 0 where
  pub rest : new ≡ record old { actors = new.actors; out = new.out; trace = new.trace }
  pub untold : old.tracing ≡ false → new.trace ≡ old.trace
  pub loans : new.actors.buffer.loans ≡ old.actors.buffer.loans
