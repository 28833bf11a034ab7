use Rattle.std.proofs.Common.{◌≡◌, ◌∙◌, ◌++◌, [], length, ap, arith}
use Rattle.doc_reader.specs.Standing.{ReaderView, lent_next, waiting}
use Rattle.doc_reader.proofs.Behind.{behind_all, behind_last}
use Rattle.engine.specs.Calls.{TakesLent}
use Rattle.run_part.proofs.Acting.{on_err}
use Rattle.run_part.proofs.Results.{err_map, ok_map}
use Rattle.many_run.specs.Parts.{BreaksEach, FedSome, OfGiven}
use Rattle.many_run.specs.View.{ManyView}
use Rattle.many_run.proofs.Going.{breaks_on, fed_on}
use Rattle.many_run.proofs.many.Many.feed_waiting.Goals as goal

pub returns-in_err-feed_lent-clause-breaks : goal.returns-in_err-feed_lent-clause-breaks
returns-in_err-feed_lent-clause-breaks g c = on_err _ _ c.in_err-feed_lent.ensures.breaks

pub feed_lent-requires-2 : goal.feed_lent-requires-2
feed_lent-requires-2 g c =
    let q = c.requires in
    let f = c.in_ok-feed_lent.ensures.feeds q.limits q.read q.ended q.given q.of in
    record { limits = q.limits; read = q.read; ended = q.ended; given = q.given ++ f.more; of = f.has }

pub returns-clause-feeds : goal.returns-clause-feeds
returns-clause-feeds g c =
    let old = c.args.self.now in
    let e = c.feed_lent.new.self in
    let d = c.feed_lent-2.new.self in
    let from : OfGiven g.C.Conds.stands e (FedSome g.C.Conds.stands e d) → OfGiven g.C.Conds.stands old (FedSome g.C.Conds.stands old d) = λ k lim b ended given h.
    let f = c.in_ok-feed_lent.ensures.feeds lim b ended given h in
    fed_on g.C.Conds.stands lim b ended given old e d f (k lim b ended (given ++ f.more) f.has) in
    ok_map c.feed_lent-2.result from c.feed_lent-2.ensures.feeds

-- the first time those of tags, the second time the end
pub returns-clause-none : goal.returns-clause-none
returns-clause-none g c =
    let q = c.args.self.now.reader in
    let r = c.feed_lent.new.self.reader in
    let n = c.feed_lent-2.new.self.reader in
    let tags : r.state.tokens ≡ [] = ap (λ (z : ReaderView). z.state.tokens) c.in_ok-feed_lent.ensures.takes ∙ behind_all q (length (lent_next q)) (omega arith) in
    ok_map c.feed_lent-2.result (λ (t : TakesLent r n). ap waiting t ∙ behind_last r (length (lent_next r)) tags (omega arith)) c.feed_lent-2.ensures.takes

pub returns-clause-breaks : goal.returns-clause-breaks
returns-clause-breaks g c =
    let old = c.args.self.now in
    let e = c.feed_lent.new.self in
    let d = c.feed_lent-2.new.self in
    let from : OfGiven g.C.Conds.stands e (BreaksEach e d) → OfGiven g.C.Conds.stands old (BreaksEach old d) = λ k lim b ended given h.
    let f = c.in_ok-feed_lent.ensures.feeds lim b ended given h in
    breaks_on g.C.Conds.stands lim b ended given old e d f (k lim b ended (given ++ f.more) f.has) in
    err_map c.feed_lent-2.result from c.feed_lent-2.ensures.breaks

pub returns-clause-keeps : goal.returns-clause-keeps
returns-clause-keeps g c =
    let a = c.feed_lent.ensures.keeps in
    let k = c.feed_lent-2.ensures.keeps in
    record { finished = k.finished ∙ a.finished; answer = k.answer ∙ a.answer }

pub returns-clause-rest : goal.returns-clause-rest
returns-clause-rest g c =
    let d = c.feed_lent-2.new.self in
    c.feed_lent-2.ensures.rest ∙ ap (λ (z : ManyView g.row.C.Denot). record z { reader = d.reader; parts = d.parts }) c.feed_lent.ensures.rest
