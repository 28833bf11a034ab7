-- A part as what takes tokens (this project's).
use Rattle.std.specs.Prelude.{◌≡◌, ℕ, zero, suc, Bool, true, false, List, [], length, Option, Some}
use Rattle.gcx_model.specs.Core.{PlanTree}
use Rattle.gcx_model.specs.Demand.{text_of_lines, trace_lines}
use Rattle.gcx_model.specs.PlanView.{plan_tree}
use Rattle.gcx_model.specs.Seen.{seen_tree}
use Rattle.gcx_model.specs.Tree.{Tree, TreeToken as Said}
use Rattle.outside.specs.Outputs.{OutputText}
use Rattle.outside.specs.Places.{Few}
use Rattle.run_part.specs.Actors.{IsBalanced, all_of, bytes_at}
use Rattle.run_part.specs.Late.{KeepsMostLate, StandBehind}
use Rattle.run_part.specs.Order.{Covered}
use Rattle.run_part.specs.View.{PartView}

-- the tokens for which it stands: it took them, with every action that is possible behind each group
abbrev pub part_stands : {C : Type 0} → (C → Tree → Type 0) → PartView C → List Said → Type 0
part_stands stands p given = StandBehind stands (plan_tree p.plan) p.ahead p.actors given

-- its output, number 0, and its lines, number 1
abbrev pub of_both : {X : Type 0} → (output lines : X) → ℕ → X
of_both output lines zero = output
of_both output lines (suc i) = lines

-- what the plan writes over the tokens
abbrev pub output_text : PlanTree → OutputText
output_text plan ts = bytes_at plan (seen_tree ts) (all_of plan (seen_tree ts))

-- the text of its lines, where they are wanted
abbrev pub lines_text : (wanted : Bool) → PlanTree → OutputText
lines_text true plan ts = text_of_lines (trace_lines plan ts)
lines_text false plan ts = []

abbrev pub part_texts : {C : Type 0} → PartView C → ℕ → OutputText
part_texts p = of_both (output_text (plan_tree p.plan)) (lines_text p.tracing (plan_tree p.plan))

-- how many outputs there are
abbrev pub part_count : (wanted : Bool) → ℕ
part_count true = 2
part_count false = 1

abbrev pub part_outs : {C : Type 0} → PartView C → ℕ → List ℕ
part_outs p = of_both p.out p.trace

abbrev pub part_places : {C : Type 0} → PartView C → ℕ → Option ℕ
part_places p = of_both (Some p.output_at) p.lines_at

abbrev pub part_few : {C : Type 0} → PartView C → Option ℕ → Type 0
part_few p most = Few most (length p.out) × Few most (length p.trace)

-- what was taken of the lines tells no more bytes than were taken of the output
abbrev pub part_ordered : {C : Type 0} → PartView C → List Said → (ℕ → List ℕ) → Type 0
part_ordered p given x = p.tracing ≡ true → Covered (trace_lines (plan_tree p.plan) given) (x 0) (x 1)

-- What no call changes. Where no lines are wanted none come. Who took back no more roles than were given still has not.
pub record PartStays {C : Type 0} (p q : PartView C) : Type 0 where
  pub plan_is : q.plan ≡ p.plan
  pub ahead_is : q.ahead ≡ p.ahead
  pub tracing_is : q.tracing ≡ p.tracing
  pub output_is : q.output_at ≡ p.output_at
  pub lines_is : q.lines_at ≡ p.lines_at
  pub loans : q.actors.buffer.loans ≡ p.actors.buffer.loans
  pub untold : p.tracing ≡ false → q.trace ≡ p.trace
  pub balance : IsBalanced p.actors → IsBalanced q.actors

abbrev pub part_peak : {C : Type 0} → PartView C → PartView C → Type 0
part_peak p q = KeepsMostLate p.actors q.actors
