use Rattle.std.proofs.Common.{◌∙◌, sym, true, ap}
use Rattle.std.proofs.lemmas.Bool.{true≢false}
use Rattle.gcx_model.specs.PlanView.{plan_tree}
use Rattle.engine.specs.Engine.{Kept, Lost, StandsSome, TraceGrewBy, TraceGrewWithin}
use Rattle.engine.proofs.Closing.{over_balance, over_empty, over_ended, over_exact, over_traced}
use Rattle.engine.proofs.Courses.{asked_none, exact_by, on_answer, on_ok_none, some_none}
use Rattle.engine.specs.Calls.{IsEmptied}
use Rattle.engine.proofs.Forms.{same_none}
use Rattle.engine.specs.View.{EngineView}
use Rattle.engine.proofs.engine.Engine.finish.Goals as goal

pub returns-then-self-clause-ended : goal.returns-then-self-clause-ended
returns-then-self-clause-ended g c = λ lim b was s fresh.
    over_ended g.C.Conds.stands lim c.args.self.now b was s (ap (λ (z : EngineView g.row.C.Denot). z.ended) (sym c.self.view_is) ∙ c.if-self.true) fresh c.answer.result c.answer.ensures

pub returns-then-self-clause-exact : goal.returns-then-self-clause-exact
returns-then-self-clause-exact g c = λ lim b was s fresh.
    over_exact g.C.Conds.stands lim c.args.self.now b was s (ap (λ (z : EngineView g.row.C.Denot). z.ended) (sym c.self.view_is) ∙ c.if-self.true) c.answer.result c.answer.ensures

pub returns-then-self-clause-traced : goal.returns-then-self-clause-traced
returns-then-self-clause-traced g c = λ lim b was s fresh told.
    over_traced g.C.Conds.stands lim c.args.self.now b was s (ap (λ (z : EngineView g.row.C.Denot). z.ended) (sym c.self.view_is) ∙ c.if-self.true) fresh c.answer.result c.answer.ensures

pub returns-then-self-clause-empty : goal.returns-then-self-clause-empty
returns-then-self-clause-empty g c =
    let e = c.args.self.now in
    on_ok_none e.refused c.answer.result (IsEmptied e) c.answer.ensures (λ fresh.
    let s = asked_none e.refused (Unit {0}) (StandsSome g.C.Conds.stands e c.requires.0) fresh c.requires.1 in
    record {
      rows = over_empty g.C.Conds.stands s.limits e s.read c.requires.0 s.of (ap (λ (z : EngineView g.row.C.Denot). z.ended) (sym c.self.view_is) ∙ c.if-self.true) fresh;
      balance = over_balance g.C.Conds.stands s.limits e s.read c.requires.0 s.of (ap (λ (z : EngineView g.row.C.Denot). z.ended) (sym c.self.view_is) ∙ c.if-self.true) fresh;
    })

pub returns-in-Some-clause-ended : goal.returns-in-Some-clause-ended
returns-in-Some-clause-ended g c = λ lim b was s fresh. some_none c.args.self.now.refused c.in-Some.fault _ (ap (λ (z : EngineView g.row.C.Denot). z.refused) (sym c.self.view_is) ∙ c.in-Some.is) fresh

pub returns-in-Some-clause-exact : goal.returns-in-Some-clause-exact
returns-in-Some-clause-exact g c = λ lim b was s fresh. some_none c.args.self.now.refused c.in-Some.fault _ (ap (λ (z : EngineView g.row.C.Denot). z.refused) (sym c.self.view_is) ∙ c.in-Some.is) fresh

pub end_input-requires-clause-stands : goal.end_input-requires-clause-stands
end_input-requires-clause-stands g c = (c.requires.0, asked_none c.args.self.now.refused (Unit {0}) (StandsSome g.C.Conds.stands c.args.self.now c.requires.0) (ap (λ (z : EngineView g.row.C.Denot). z.refused) (sym c.self.view_is) ∙ c.in-None.is) c.requires.1)

pub returns-in-None-clause-ended : goal.returns-in-None-clause-ended
returns-in-None-clause-ended g c = λ lim b was s fresh.
    let old = c.args.self.now in
    let d = c.end_input.new.self in
    on_answer d.refused c.answer-in-None.result (Lost lim old d b was b true) (Kept g.C.Conds.stands lim old d b was b true) c.answer-in-None.ensures (c.end_input.ensures.ended lim b was s fresh)

pub returns-in-None-clause-exact : goal.returns-in-None-clause-exact
returns-in-None-clause-exact g c = λ lim b was s fresh.
    let old = c.args.self.now in
    let d = c.end_input.new.self in
    exact_by g.C.Conds.stands lim old d b was b true c.answer-in-None.result c.answer-in-None.ensures (c.end_input.ensures.ended lim b was s fresh)

pub returns-in-None-clause-empty : goal.returns-in-None-clause-empty
returns-in-None-clause-empty g c = on_ok_none c.end_input.new.self.refused c.answer-in-None.result (IsEmptied c.end_input.new.self) c.answer-in-None.ensures c.end_input.ensures.empty

pub returns-in-None-clause-again : goal.returns-in-None-clause-again
returns-in-None-clause-again g c = λ f e. some_none c.args.self.now.refused f _ e (ap (λ (z : EngineView g.row.C.Denot). z.refused) (sym c.self.view_is) ∙ c.in-None.is)

pub returns-in-Some-clause-traced : goal.returns-in-Some-clause-traced
returns-in-Some-clause-traced g c = λ lim b was s fresh told. some_none c.args.self.now.refused c.in-Some.fault _ (ap (λ (z : EngineView g.row.C.Denot). z.refused) (sym c.self.view_is) ∙ c.in-Some.is) fresh

pub returns-in-None-clause-traced : goal.returns-in-None-clause-traced
returns-in-None-clause-traced g c = λ lim b was s fresh told.
    let old = c.args.self.now in
    let d = c.end_input.new.self in
    on_answer d.refused c.answer-in-None.result (TraceGrewWithin (plan_tree old.plan) lim b was b true old.trace d.trace) (TraceGrewBy (plan_tree old.plan) lim b was b true old.trace d.trace) c.answer-in-None.ensures (c.end_input.ensures.traced lim b was s fresh told)

pub returns-in-None-clause-once : goal.returns-in-None-clause-once
returns-in-None-clause-once g c = λ lim b s. absurd (true≢false (sym s.closing ∙ (ap (λ (z : EngineView g.row.C.Denot). z.ended) (sym c.self.view_is) ∙ c.if-self.false)))

pub returns-then-self-clause-same : goal.returns-then-self-clause-same
returns-then-self-clause-same g c = same_none c.args.self.now

pub returns-in-Some-clause-same : goal.returns-in-Some-clause-same
returns-in-Some-clause-same g c = same_none c.args.self.now
