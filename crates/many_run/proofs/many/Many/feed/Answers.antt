use Rattle.std.proofs.Common.{◌++◌, false, ap, sym, ◌∙◌}
use Rattle.engine.proofs.Courses.{asked_none, on_answer, some_none}
use Rattle.many_run.specs.Many.{ManyKept, ManyLost, ManyStandSome}
use Rattle.many_run.specs.View.{ManyView}
use Rattle.many_run.proofs.Pieces.{exact_by}
use Rattle.many_run.proofs.many.Many.feed.Goals as goal

pub returns-in-Some-clause-fed : goal.returns-in-Some-clause-fed
returns-in-Some-clause-fed g c = λ lim b s fresh. some_none c.args.self.now.refused c.in-Some.fault _ (ap (λ (z : ManyView g.row.C.Denot). z.refused) (sym c.self.view_is) ∙ c.in-Some.is) fresh

pub returns-in-Some-clause-exact : goal.returns-in-Some-clause-exact
returns-in-Some-clause-exact g c = λ lim b s fresh. some_none c.args.self.now.refused c.in-Some.fault _ (ap (λ (z : ManyView g.row.C.Denot). z.refused) (sym c.self.view_is) ∙ c.in-Some.is) fresh

pub returns-in-Some-clause-bytes : goal.returns-in-Some-clause-bytes
returns-in-Some-clause-bytes g c = λ fresh. some_none c.args.self.now.refused c.in-Some.fault _ (ap (λ (z : ManyView g.row.C.Denot). z.refused) (sym c.self.view_is) ∙ c.in-Some.is) fresh

pub feed_piece-requires-clause-stands : goal.feed_piece-requires-clause-stands
feed_piece-requires-clause-stands g c = asked_none c.args.self.now.refused (Unit {0}) (ManyStandSome g.C.Conds.stands c.args.self.now false) (ap (λ (z : ManyView g.row.C.Denot). z.refused) (sym c.self.view_is) ∙ c.in-None.is) c.requires

pub returns-in-None-clause-fed : goal.returns-in-None-clause-fed
returns-in-None-clause-fed g c = λ lim b s fresh.
    let old = c.args.self.now in
    let d = c.feed_piece.new.self in
    let w = b ++ c.args.piece.now in
    on_answer d.refused c.answer.result (ManyLost lim old d b false w false) (ManyKept g.C.Conds.stands lim old d b false w false) c.answer.ensures (c.feed_piece.ensures.fed lim b s fresh)

pub returns-in-None-clause-exact : goal.returns-in-None-clause-exact
returns-in-None-clause-exact g c = λ lim b s fresh.
    let old = c.args.self.now in
    let d = c.feed_piece.new.self in
    exact_by g.C.Conds.stands lim old d b false (b ++ c.args.piece.now) false c.answer.result c.answer.ensures (c.feed_piece.ensures.fed lim b s fresh)

pub returns-in-None-clause-again : goal.returns-in-None-clause-again
returns-in-None-clause-again g c = λ f e. some_none c.args.self.now.refused f _ e (ap (λ (z : ManyView g.row.C.Denot). z.refused) (sym c.self.view_is) ∙ c.in-None.is)
