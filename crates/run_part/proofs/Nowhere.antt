-- A part that is handed no place to write to: its output and its lines wait.
use Rattle.std.proofs.Common.{◌≡◌, ◌∙◌, ◌++◌, ℕ, Bool, true, false, List, Option, Some, None, refl, sym, ap, subst}
use Rattle.std.proofs.lemmas.Bool.{true≢false}
use Rattle.std.proofs.lemmas.List.{append_cancel_left}
use Rattle.gcx_model.specs.Core.{PlanTree}
use Rattle.gcx_model.specs.Demand.{text_of_lines, trace_lines}
use Rattle.gcx_model.specs.PlanView.{plan_tree}
use Rattle.gcx_model.specs.Tree.{Tree, TreeToken as Said}
use Rattle.gcx_model.specs.declared.plan.Plan.{Plan}
use Rattle.outside.specs.Outputs.{MayTakeTokens, OutputGrewBy, OutputGrewWithin}
use Rattle.outside.specs.Places.{LeavesBoth, PlaceView, TakesSomeTo, TakesTo, went_at}
use Rattle.outside.specs.Ports.{nothing_there}
use Rattle.run_part.specs.Late.{StandBehind}
use Rattle.run_part.specs.Part.{KeepsPart, MayTakeSome, PartTakes, PartTakesSome, told_behind}
use Rattle.run_part.specs.Taker.{PartStays, lines_text, part_outs, part_peak, part_places, part_stands, part_texts}
use Rattle.run_part.specs.TakerLaws.{lines_more}
use Rattle.run_part.specs.Telling.{GrewPart}
use Rattle.run_part.specs.View.{PartView}
use Rattle.run_part.proofs.PartTaking.{part_balanced}

-- nothing is at any place
abbrev pub nowhere : {W : Type 0} → W → ℕ → PlaceView
nowhere w = λ (i : ℕ). nothing_there

-- so all waits that flowed
all_waits : (o : Option ℕ) (xs : List ℕ) → went_at (λ (i : ℕ). nothing_there) o ++ xs ≡ xs
all_waits None xs = refl
all_waits (Some p) xs = refl

-- what the lines of more tokens settle is their text
told_is : (plan : PlanTree) (given more : List Said) (x : List ℕ) → text_of_lines (trace_lines plan (given ++ more)) ≡ text_of_lines (trace_lines plan given) ++ x → told_behind plan given more ≡ x
told_is plan given more x e = append_cancel_left (text_of_lines (trace_lines plan given)) (told_behind plan given more) x (sym (lines_more plan given more) ∙ e)

lines_told : (wanted : Bool) (plan : PlanTree) (given more : List Said) (o p : Option ℕ) (u v : List ℕ)
    → OutputGrewBy (lines_text wanted plan) given (given ++ more) (went_at (λ (i : ℕ). nothing_there) o ++ u) (went_at (λ (i : ℕ). nothing_there) p ++ v) → wanted ≡ true → v ≡ u ++ told_behind plan given more
lines_told true plan given more o p u v g told =
    sym (all_waits p v) ∙ (g.grew ∙ (ap (λ (z : List ℕ). z ++ g.more) (all_waits o u) ∙ ap (λ (z : List ℕ). u ++ z) (sym (told_is plan given more g.more g.settles))))
lines_told false plan given more o p u v g told = absurd (true≢false (sym told))

lines_told_within : (wanted : Bool) (plan : PlanTree) (given more : List Said) (o p : Option ℕ) (u v : List ℕ)
    → OutputGrewWithin (lines_text wanted plan) given (given ++ more) (went_at (λ (i : ℕ). nothing_there) o ++ u) (went_at (λ (i : ℕ). nothing_there) p ++ v) → wanted ≡ true → GrewPart u v (told_behind plan given more)
lines_told_within true plan given more o p u v g told =
    (g.part, g.rest, told_is plan given more (g.part ++ g.rest) g.settles, sym (all_waits p v) ∙ (g.grew ∙ ap (λ (z : List ℕ). z ++ g.part) (all_waits o u)))
lines_told_within false plan given more o p u v g told = absurd (true≢false (sym told))

-- the tokens for which a part stands, said with and without the number of tokens of a group
stands_so : {C : Type 0} (stands : C → Tree → Type 0) (old : PartView C) (ahead : ℕ) (given : List Said) → old.ahead ≡ ahead → StandBehind stands (plan_tree old.plan) ahead old.actors given → part_stands stands old given
stands_so stands old ahead given count s = subst (λ (n : ℕ). StandBehind stands (plan_tree old.plan) n old.actors given) (sym count) s

-- it may take tokens as it may as what takes tokens
pub may_nowhere : {C : Type 0} (stands : C → Tree → Type 0) (old : PartView C) (more : List Said) → MayTakeSome stands old more → MayTakeTokens (part_stands stands old) more
may_nowhere stands old more m = record { given = m.given; of = stands_so stands old m.ahead m.given m.of.0 m.of.1; come = m.come }

-- all tokens were taken
pub takes_nowhere : {C W : Type 0} {writes : W → W → Type 0} {old new : PartView C} {v w : W} (stands : C → Tree → Type 0) (more : List Said) → LeavesBoth PartStays writes (old, v) (new, w)
    → TakesTo (part_stands stands) part_texts part_places part_outs part_peak nowhere (old, v) (new, w) more → PartTakes stands old new more
takes_nowhere {old = old} {new = new} stands more leaves takes ahead given s come =
    let stays : PartStays old new = leaves.kept in
    let t = takes given (stands_so stands old ahead given s.0 s.1) come in
    let o = t.grew 0 in
    let count = stays.ahead_is ∙ s.0 in
    record {
      plan = stays.plan_is;
      stand = (count, subst (λ (n : ℕ). StandBehind stands (plan_tree new.plan) n new.actors (given ++ more)) count t.stand);
      goes = record { more = o.more; written = o.settles; grew = o.grew };
      most = t.peak;
      told = lines_told old.tracing (plan_tree old.plan) given more old.lines_at new.lines_at old.trace new.trace (t.grew 1);
    }

-- or some of them, before memory ran out
pub some_nowhere : {C W : Type 0} {writes : W → W → Type 0} {old new : PartView C} {v w : W} (stands : C → Tree → Type 0) (more : List Said) → LeavesBoth PartStays writes (old, v) (new, w)
    → TakesSomeTo (part_stands stands) part_texts part_places part_outs nowhere (old, v) (new, w) more → PartTakesSome stands old new more
some_nowhere {old = old} {new = new} stands more leaves takes ahead given s come =
    let stays : PartStays old new = leaves.kept in
    let each = takes given (stands_so stands old ahead given s.0 s.1) come in
    let o = each 0 in
    record {
      plan = stays.plan_is;
      breaks = record { part = o.part; rest = o.rest; written = o.settles; grew = o.grew };
      balance = stays.balance (part_balanced stands ahead given old s);
      told = lines_told_within old.tracing (plan_tree old.plan) given more old.lines_at new.lines_at old.trace new.trace (each 1);
    }

-- ---- what stays

-- a part that has these in place of what taking leaves as it is
abbrev part_form : {C : Type 0} → PartView C → Plan → (ahead : ℕ) → (wanted : Bool) → (output_at : ℕ) → (lines_at : Option ℕ) → PartView C
part_form q plan ahead wanted output_at lines_at = record q { plan = plan; ahead = ahead; tracing = wanted; output_at = output_at; lines_at = lines_at }

pub keeps_nowhere : {C : Type 0} {old new : PartView C} → PartStays old new → KeepsPart old new
keeps_nowhere {old = p} {new = q} s = record {
  rest = ap (λ (z : Plan). part_form q z q.ahead q.tracing q.output_at q.lines_at) s.plan_is
      ∙ (ap (λ (z : ℕ). part_form q p.plan z q.tracing q.output_at q.lines_at) s.ahead_is
      ∙ (ap (λ (z : Bool). part_form q p.plan p.ahead z q.output_at q.lines_at) s.tracing_is
      ∙ (ap (λ (z : ℕ). part_form q p.plan p.ahead p.tracing z q.lines_at) s.output_is
      ∙ ap (λ (z : Option ℕ). part_form q p.plan p.ahead p.tracing p.output_at z) s.lines_is)));
  untold = s.untold;
  loans = s.loans;
}
