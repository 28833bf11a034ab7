use Rattle.std.proofs.Common.{◌∙◌, length, ap, sym, subst, arith}
use Rattle.doc_reader.specs.Standing.{KeepsAnswer, behind_lent, lent_next}
use Rattle.doc_reader.proofs.Behind.{lent_many}
use Rattle.engine.specs.Calls.{TakesLent}
use Rattle.run_part.specs.Late.{said_lent}
use Rattle.run_part.proofs.Acting.{on_err}
use Rattle.engine.proofs.Forms.{keeps_none}
use Rattle.engine.proofs.Lending.{keeps_behind}
use Rattle.many_run.specs.Parts.{BreaksEach, FedSome, OfGiven, SomeTokensGiven}
use Rattle.many_run.specs.View.{ManyView}
use Rattle.many_run.proofs.Going.{lent_breaks, lent_feeds, lent_may}
use Rattle.many_run.proofs.many.Many.feed_lent.Goals as goal

pub feed_parts-requires-clause-within : goal.feed_parts-requires-clause-within
feed_parts-requires-clause-within g c = c.lent.ensures.parts

pub feed_parts-requires-clause-may : goal.feed_parts-requires-clause-may
feed_parts-requires-clause-may g c =
    let old : ManyView g.row.C.Denot = record { reader = c.self.inside.reader; parts = c.self.inside.parts.items; bytes = c.self.inside.bytes; refused = c.self.inside.refused; ended = c.self.inside.ended } in
    let us = said_lent c.lent.result.1.now c.lent.result.0.now in
    let s = subst (λ (z : ManyView g.row.C.Denot). SomeTokensGiven g.C.Conds.stands z) (sym c.self.view_is) c.requires in
    lent_may g.C.Conds.stands s.limits s.read s.ended s.given old s.of us c.lent.ensures.tokens_are

pub returns-in_err-feed_parts-clause-breaks : goal.returns-in_err-feed_parts-clause-breaks
returns-in_err-feed_parts-clause-breaks g c =
    let old : ManyView g.row.C.Denot = record { reader = c.self.inside.reader; parts = c.self.inside.parts.items; bytes = c.self.inside.bytes; refused = c.self.inside.refused; ended = c.self.inside.ended } in
    let us = said_lent c.lent.result.1.now c.lent.result.0.now in
    let d : ManyView g.row.C.Denot = record old { parts = c.feed_parts.new.parts.items } in
    let takes = c.in_err-feed_parts.ensures.breaks in
    on_err _ _ (subst (λ (z : ManyView g.row.C.Denot). OfGiven g.C.Conds.stands z (BreaksEach z d)) c.self.view_is (λ lim b ended given h.
    lent_breaks g.C.Conds.stands lim b ended given old h us c.lent.ensures.tokens_are c.feed_parts.new.parts.items takes))

pub returns-in_err-feed_parts-clause-keeps : goal.returns-in_err-feed_parts-clause-keeps
returns-in_err-feed_parts-clause-keeps g c = subst (λ (z : ManyView g.row.C.Denot). KeepsAnswer z.reader c.self.inside.reader) c.self.view_is (keeps_none c.self.inside.reader)

pub take_lent-requires : goal.take_lent-requires
take_lent-requires g c =
    let many = lent_many (lent_next c.self.inside.reader) c.lent.result.0.now c.lent.result.1.now c.lent.ensures in
    omega arith

pub returns-clause-feeds : goal.returns-clause-feeds
returns-clause-feeds g c =
    let old : ManyView g.row.C.Denot = record { reader = c.self.inside.reader; parts = c.self.inside.parts.items; bytes = c.self.inside.bytes; refused = c.self.inside.refused; ended = c.self.inside.ended } in
    let us = said_lent c.lent.result.1.now c.lent.result.0.now in
    let r = c.take_lent.new.self in
    let d : ManyView g.row.C.Denot = record old { reader = r; parts = c.feed_parts.new.parts.items } in
    let many = lent_many (lent_next old.reader) c.lent.result.0.now c.lent.result.1.now c.lent.ensures in
    let is : TakesLent old.reader r = c.take_lent.ensures.takes ∙ ap (λ n. behind_lent n old.reader) (sym many) in
    let takes = c.in_ok-feed_parts.ensures.feeds in
    subst (λ (z : ManyView g.row.C.Denot). OfGiven g.C.Conds.stands z (FedSome g.C.Conds.stands z d)) c.self.view_is (λ lim b ended given h.
    lent_feeds g.C.Conds.stands lim b ended given old h us c.lent.ensures.tokens_are r c.feed_parts.new.parts.items is takes)

pub returns-clause-takes : goal.returns-clause-takes
returns-clause-takes g c =
    let r = c.self.inside.reader in
    let many = lent_many (lent_next r) c.lent.result.0.now c.lent.result.1.now c.lent.ensures in
    subst (λ (z : ManyView g.row.C.Denot). TakesLent z.reader c.take_lent.new.self) c.self.view_is (c.take_lent.ensures.takes ∙ ap (λ n. behind_lent n r) (sym many))

pub returns-clause-keeps : goal.returns-clause-keeps
returns-clause-keeps g c =
    let r = c.self.inside.reader in
    subst (λ (z : ManyView g.row.C.Denot). KeepsAnswer z.reader c.take_lent.new.self) c.self.view_is (keeps_behind r c.take_lent.new.self (length c.lent.result.0.now) c.take_lent.ensures.takes)
