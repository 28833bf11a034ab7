use Rattle.std.proofs.Common.{◌≡◌, ◌++◌, ◌∙◌, [], length, ap, subst, arith}
use Rattle.gcx_model.specs.Core.{PlanTree}
use Rattle.gcx_model.specs.PlanView.{plan_tree}
use Rattle.gcx_model.specs.Seen.{seen_tree}
use Rattle.gcx_model.specs.Demand.{text_of_lines}
use Rattle.doc_reader.specs.Standing.{ReaderView, lent_next, said_of, waiting}
use Rattle.std.specs.Prelude.{map}
use Rattle.doc_reader.proofs.Behind.{behind_all, behind_last}
use Rattle.engine.specs.View.{EngineView}
use Rattle.engine.specs.Calls.{BreaksFrom, FeedsFrom, TakesLent, TellsTokens, TellsWithin, ToldSome, more_lines}
use Rattle.engine.specs.Engine.{IsTold}
use Rattle.run_part.specs.Telling.{GrewPart}
use Rattle.run_part.proofs.Acting.{on_err}
use Rattle.engine.proofs.Forms.{alone_on}
use Rattle.engine.proofs.TellingOn.{part_on, some_on}
use Rattle.engine.proofs.Waiting.{breaks_on, feeds_on}
use Rattle.run_part.proofs.Results.{err_map, ok_map}
use Rattle.engine.proofs.engine.Engine.feed_waiting.Goals as goal

pub returns-in_err-feed_lent-clause-breaks : goal.returns-in_err-feed_lent-clause-breaks
returns-in_err-feed_lent-clause-breaks g c = on_err _ _ c.in_err-feed_lent.ensures.breaks

pub returns-in_err-feed_lent-clause-part : goal.returns-in_err-feed_lent-clause-part
returns-in_err-feed_lent-clause-part g c = on_err _ _ c.in_err-feed_lent.ensures.part

pub returns-in_err-feed_lent-clause-same : goal.returns-in_err-feed_lent-clause-same
returns-in_err-feed_lent-clause-same g c = c.feed_lent.ensures.same

pub feed_lent-requires-2 : goal.feed_lent-requires-2
feed_lent-requires-2 g c =
    let q = c.requires in
    let f = c.in_ok-feed_lent.ensures.feeds q.limits q.read q.ended q.given q.of in
    record { limits = q.limits; read = q.read; ended = q.ended; given = q.given ++ f.more; of = f.parts }

pub returns-clause-feeds : goal.returns-clause-feeds
returns-clause-feeds g c =
    let old = c.args.self.now in
    let e = c.feed_lent.new.self in
    let d = c.feed_lent-2.new.self in
    let plan = ap (λ (z : EngineView g.row.C.Denot). z.plan) c.feed_lent.ensures.same.rest in
    let from : FeedsFrom g.C.Conds.stands e d → FeedsFrom g.C.Conds.stands old d = λ h lim b ended given p.
    let f = c.in_ok-feed_lent.ensures.feeds lim b ended given p in
    feeds_on g.C.Conds.stands lim b ended given old e d plan f (h lim b ended (given ++ f.more) f.parts) in
    ok_map c.feed_lent-2.result from c.feed_lent-2.ensures.feeds

-- the first time those of tags, the second time the end
pub returns-clause-none : goal.returns-clause-none
returns-clause-none g c =
    let q = c.args.self.now.reader in
    let r = c.feed_lent.new.self.reader in
    let n = c.feed_lent-2.new.self.reader in
    let tags : r.state.tokens ≡ [] = ap (λ (z : ReaderView). z.state.tokens) c.in_ok-feed_lent.ensures.takes ∙ behind_all q (length (lent_next q)) (omega arith) in
    ok_map c.feed_lent-2.result (λ (t : TakesLent r n). ap waiting t ∙ behind_last r (length (lent_next r)) tags (omega arith)) c.feed_lent-2.ensures.takes

pub returns-clause-breaks : goal.returns-clause-breaks
returns-clause-breaks g c =
    let old = c.args.self.now in
    let e = c.feed_lent.new.self in
    let d = c.feed_lent-2.new.self in
    let plan = ap (λ (z : EngineView g.row.C.Denot). z.plan) c.feed_lent.ensures.same.rest in
    let from : BreaksFrom g.C.Conds.stands e d → BreaksFrom g.C.Conds.stands old d = λ h lim b ended given p.
    let f = c.in_ok-feed_lent.ensures.feeds lim b ended given p in
    breaks_on g.C.Conds.stands lim b ended given old e d plan f (h lim b ended (given ++ f.more) f.parts) in
    err_map c.feed_lent-2.result from c.feed_lent-2.ensures.breaks

-- the lines of the first ones, and those of the end
pub returns-clause-told : goal.returns-clause-told
returns-clause-told g c =
    let old = c.args.self.now in
    let e = c.feed_lent.new.self in
    let d = c.feed_lent-2.new.self in
    let rest = c.feed_lent.ensures.same.rest in
    let pe = ap (λ (z : EngineView g.row.C.Denot). plan_tree z.plan) rest in
    let from : TellsTokens g.C.Conds.stands e d → TellsTokens g.C.Conds.stands old d = λ h told lim b ended given p.
    let f = c.in_ok-feed_lent.ensures.feeds lim b ended given p in
    let told' : IsTold e = ap (λ (z : EngineView g.row.C.Denot). z.tracing) rest ∙ told in
    some_on (plan_tree old.plan) given f.more (waiting old.reader) (waiting e.reader) (waiting d.reader) old.trace e.trace d.trace f.waited (c.in_ok-feed_lent.ensures.told told lim b ended given p)
    (subst (λ (z : PlanTree). ToldSome z (seen_tree (map said_of (given ++ f.more))) (waiting e.reader) (waiting d.reader) e.trace d.trace) pe (h told' lim b ended (given ++ f.more) f.parts)) in
    ok_map c.feed_lent-2.result from c.feed_lent-2.ensures.told

pub returns-clause-part : goal.returns-clause-part
returns-clause-part g c =
    let old = c.args.self.now in
    let e = c.feed_lent.new.self in
    let d = c.feed_lent-2.new.self in
    let rest = c.feed_lent.ensures.same.rest in
    let pe = ap (λ (z : EngineView g.row.C.Denot). plan_tree z.plan) rest in
    let from : TellsWithin g.C.Conds.stands e d → TellsWithin g.C.Conds.stands old d = λ h told lim b ended given p.
    let f = c.in_ok-feed_lent.ensures.feeds lim b ended given p in
    let told' : IsTold e = ap (λ (z : EngineView g.row.C.Denot). z.tracing) rest ∙ told in
    part_on (plan_tree old.plan) given f.more (waiting old.reader) (waiting e.reader) old.trace e.trace d.trace f.waited (c.in_ok-feed_lent.ensures.told told lim b ended given p)
    (subst (λ (z : PlanTree). GrewPart e.trace d.trace (text_of_lines (more_lines z (seen_tree (map said_of (given ++ f.more))) (waiting e.reader)))) pe (h told' lim b ended (given ++ f.more) f.parts)) in
    err_map c.feed_lent-2.result from c.feed_lent-2.ensures.part

pub returns-clause-same : goal.returns-clause-same
returns-clause-same g c = alone_on c.args.self.now c.feed_lent.new.self c.feed_lent-2.new.self c.feed_lent.ensures.same c.feed_lent-2.ensures.same
