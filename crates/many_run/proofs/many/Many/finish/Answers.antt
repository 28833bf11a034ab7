use Rattle.std.proofs.Common.{◌∙◌, sym, true, ap}
use Rattle.std.proofs.lemmas.Bool.{true≢false}
use Rattle.engine.proofs.Courses.{asked_none, on_answer, on_ok_none, some_none}
use Rattle.many_run.specs.Many.{ManyKept, ManyLost, ManyStandSome, NoneHeld}
use Rattle.many_run.specs.View.{ManyView}
use Rattle.many_run.proofs.Ending.{over_empty, over_ended, over_exact}
use Rattle.many_run.proofs.Pieces.{exact_by}
use Rattle.many_run.proofs.many.Many.finish.Goals as goal

pub returns-then-self-clause-ended : goal.returns-then-self-clause-ended
returns-then-self-clause-ended g c = λ lim b was s fresh.
    over_ended g.C.Conds.stands lim c.args.self.now b was s (ap (λ (z : ManyView g.row.C.Denot). z.ended) (sym c.self.view_is) ∙ c.if-self.true) fresh c.answer.result c.answer.ensures

pub returns-then-self-clause-exact : goal.returns-then-self-clause-exact
returns-then-self-clause-exact g c = λ lim b was s fresh.
    over_exact g.C.Conds.stands lim c.args.self.now b was s (ap (λ (z : ManyView g.row.C.Denot). z.ended) (sym c.self.view_is) ∙ c.if-self.true) c.answer.result c.answer.ensures

pub returns-then-self-clause-empty : goal.returns-then-self-clause-empty
returns-then-self-clause-empty g c =
    let e = c.args.self.now in
    on_ok_none e.refused c.answer.result (NoneHeld e) c.answer.ensures (λ fresh.
    let s = asked_none e.refused (Unit {0}) (ManyStandSome g.C.Conds.stands e c.requires.0) fresh c.requires.1 in
    over_empty g.C.Conds.stands s.limits e s.read c.requires.0 s.of (ap (λ (z : ManyView g.row.C.Denot). z.ended) (sym c.self.view_is) ∙ c.if-self.true) fresh)

pub returns-in-Some-clause-ended : goal.returns-in-Some-clause-ended
returns-in-Some-clause-ended g c = λ lim b was s fresh. some_none c.args.self.now.refused c.in-Some.fault _ (ap (λ (z : ManyView g.row.C.Denot). z.refused) (sym c.self.view_is) ∙ c.in-Some.is) fresh

pub returns-in-Some-clause-exact : goal.returns-in-Some-clause-exact
returns-in-Some-clause-exact g c = λ lim b was s fresh. some_none c.args.self.now.refused c.in-Some.fault _ (ap (λ (z : ManyView g.row.C.Denot). z.refused) (sym c.self.view_is) ∙ c.in-Some.is) fresh

pub end_input-requires-clause-stands : goal.end_input-requires-clause-stands
end_input-requires-clause-stands g c = (c.requires.0, asked_none c.args.self.now.refused (Unit {0}) (ManyStandSome g.C.Conds.stands c.args.self.now c.requires.0) (ap (λ (z : ManyView g.row.C.Denot). z.refused) (sym c.self.view_is) ∙ c.in-None.is) c.requires.1)

pub returns-in-None-clause-ended : goal.returns-in-None-clause-ended
returns-in-None-clause-ended g c = λ lim b was s fresh.
    let old = c.args.self.now in
    let d = c.end_input.new.self in
    on_answer d.refused c.answer-in-None.result (ManyLost lim old d b was b true) (ManyKept g.C.Conds.stands lim old d b was b true) c.answer-in-None.ensures (c.end_input.ensures.ended lim b was s fresh)

pub returns-in-None-clause-exact : goal.returns-in-None-clause-exact
returns-in-None-clause-exact g c = λ lim b was s fresh.
    exact_by g.C.Conds.stands lim c.args.self.now c.end_input.new.self b was b true c.answer-in-None.result c.answer-in-None.ensures (c.end_input.ensures.ended lim b was s fresh)

pub returns-in-None-clause-empty : goal.returns-in-None-clause-empty
returns-in-None-clause-empty g c = on_ok_none c.end_input.new.self.refused c.answer-in-None.result (NoneHeld c.end_input.new.self) c.answer-in-None.ensures c.end_input.ensures.empty

pub returns-in-None-clause-again : goal.returns-in-None-clause-again
returns-in-None-clause-again g c = λ f e. some_none c.args.self.now.refused f _ e (ap (λ (z : ManyView g.row.C.Denot). z.refused) (sym c.self.view_is) ∙ c.in-None.is)

pub returns-in-None-clause-once : goal.returns-in-None-clause-once
returns-in-None-clause-once g c = λ lim b s. absurd (true≢false (sym s.closing ∙ (ap (λ (z : ManyView g.row.C.Denot). z.ended) (sym c.self.view_is) ∙ c.if-self.false)))
