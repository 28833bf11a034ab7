use Rattle.std.proofs.Common.{◌∙◌, length, ap, subst, sym, arith}
use Rattle.doc_reader.specs.Standing.{behind_lent, lent_next}
use Rattle.doc_reader.proofs.Behind.{lent_many}
use Rattle.engine.specs.View.{EngineView, over_part, seen_part}
use Rattle.engine.specs.Calls.{BreaksFrom, FeedsFrom, GoesAlone, TakesLent, TellsTokens, TellsWithin}
use Rattle.engine.specs.Going.{SomeParts}
use Rattle.run_part.specs.Late.{said_lent}
use Rattle.run_part.proofs.Acting.{on_err}
use Rattle.engine.proofs.Forms.{keeps_none}
use Rattle.engine.proofs.Lending.{keeps_behind, lent_alone, lent_breaks, lent_feeds, lent_told, lent_told_some, part_may}
use Rattle.engine.proofs.engine.Engine.feed_lent.Goals as goal

pub take-requires-clause-within : goal.take-requires-clause-within
take-requires-clause-within g c = c.lent.ensures.parts

pub take-requires-clause-may : goal.take-requires-clause-may
take-requires-clause-may g c =
    let q = subst (λ (x : EngineView g.row.C.Denot). SomeParts g.C.Conds.stands x) (sym c.self.view_is) c.requires in
    part_may g.C.Conds.stands q.limits q.read q.ended q.given (seen_part c.self.inside.part) c.self.inside.reader c.self.inside.bytes c.self.inside.refused c.self.inside.ended q.of (said_lent c.lent.result.1.now c.lent.result.0.now) c.lent.ensures.tokens_are

-- ---- memory ran out

pub returns-in_err-take-clause-breaks : goal.returns-in_err-take-clause-breaks
returns-in_err-take-clause-breaks g c =
    let p = seen_part c.self.inside.part in
    let q = seen_part c.take.new.self in
    let r = c.self.inside.reader in
    let us = said_lent c.lent.result.1.now c.lent.result.0.now in
    let old : EngineView g.row.C.Denot = over_part (seen_part c.self.inside.part) c.self.inside.reader c.self.inside.bytes c.self.inside.refused c.self.inside.ended in
    let d : EngineView g.row.C.Denot = over_part q r c.self.inside.bytes c.self.inside.refused c.self.inside.ended in
    let h : BreaksFrom g.C.Conds.stands old d = λ lim b ended given x.
    lent_breaks g.C.Conds.stands lim b ended given p r c.self.inside.bytes c.self.inside.refused c.self.inside.ended x us c.lent.ensures.tokens_are q c.in_err-take.ensures.part in
    on_err _ _ (subst (λ (x : EngineView g.row.C.Denot). BreaksFrom g.C.Conds.stands x d) c.self.view_is h)

pub returns-in_err-take-clause-part : goal.returns-in_err-take-clause-part
returns-in_err-take-clause-part g c =
    let p = seen_part c.self.inside.part in
    let q = seen_part c.take.new.self in
    let r = c.self.inside.reader in
    let us = said_lent c.lent.result.1.now c.lent.result.0.now in
    let old : EngineView g.row.C.Denot = over_part (seen_part c.self.inside.part) c.self.inside.reader c.self.inside.bytes c.self.inside.refused c.self.inside.ended in
    let d : EngineView g.row.C.Denot = over_part q r c.self.inside.bytes c.self.inside.refused c.self.inside.ended in
    let h : TellsWithin g.C.Conds.stands old d = λ told lim b ended given x.
    lent_told_some g.C.Conds.stands lim b ended given p r c.self.inside.bytes c.self.inside.refused c.self.inside.ended x us c.lent.ensures.tokens_are q c.in_err-take.ensures.part told in
    on_err _ _ (subst (λ (x : EngineView g.row.C.Denot). TellsWithin g.C.Conds.stands x d) c.self.view_is h)

pub returns-in_err-take-clause-same : goal.returns-in_err-take-clause-same
returns-in_err-take-clause-same g c =
    let q = seen_part c.take.new.self in
    let r = c.self.inside.reader in
    subst (λ (x : EngineView g.row.C.Denot). GoesAlone x (over_part q r c.self.inside.bytes c.self.inside.refused c.self.inside.ended)) c.self.view_is
    (lent_alone (seen_part c.self.inside.part) q r r c.self.inside.bytes c.self.inside.refused c.self.inside.ended c.take.ensures.same (keeps_none r))

-- ---- or it didn't

pub take_lent-requires : goal.take_lent-requires
take_lent-requires g c =
    let many = lent_many (lent_next c.self.inside.reader) c.lent.result.0.now c.lent.result.1.now c.lent.ensures in
    omega arith

pub returns-clause-feeds : goal.returns-clause-feeds
returns-clause-feeds g c =
    let p = seen_part c.self.inside.part in
    let q = seen_part c.take.new.self in
    let r = c.self.inside.reader in
    let s = c.take_lent.new.self in
    let us = said_lent c.lent.result.1.now c.lent.result.0.now in
    let old : EngineView g.row.C.Denot = over_part (seen_part c.self.inside.part) c.self.inside.reader c.self.inside.bytes c.self.inside.refused c.self.inside.ended in
    let d : EngineView g.row.C.Denot = over_part q s c.self.inside.bytes c.self.inside.refused c.self.inside.ended in
    let many = lent_many (lent_next r) c.lent.result.0.now c.lent.result.1.now c.lent.ensures in
    let taken : TakesLent r s = c.take_lent.ensures.takes ∙ ap (λ k. behind_lent k r) (sym many) in
    let h : FeedsFrom g.C.Conds.stands old d = λ lim b ended given x.
    lent_feeds g.C.Conds.stands lim b ended given p r c.self.inside.bytes c.self.inside.refused c.self.inside.ended x us c.lent.ensures.tokens_are q s taken c.in_ok-take.ensures.takes in
    subst (λ (x : EngineView g.row.C.Denot). FeedsFrom g.C.Conds.stands x d) c.self.view_is h

pub returns-clause-told : goal.returns-clause-told
returns-clause-told g c =
    let p = seen_part c.self.inside.part in
    let q = seen_part c.take.new.self in
    let r = c.self.inside.reader in
    let s = c.take_lent.new.self in
    let us = said_lent c.lent.result.1.now c.lent.result.0.now in
    let old : EngineView g.row.C.Denot = over_part (seen_part c.self.inside.part) c.self.inside.reader c.self.inside.bytes c.self.inside.refused c.self.inside.ended in
    let d : EngineView g.row.C.Denot = over_part q s c.self.inside.bytes c.self.inside.refused c.self.inside.ended in
    let many = lent_many (lent_next r) c.lent.result.0.now c.lent.result.1.now c.lent.ensures in
    let taken : TakesLent r s = c.take_lent.ensures.takes ∙ ap (λ k. behind_lent k r) (sym many) in
    let h : TellsTokens g.C.Conds.stands old d = λ told lim b ended given x.
    lent_told g.C.Conds.stands lim b ended given p r c.self.inside.bytes c.self.inside.refused c.self.inside.ended x us c.lent.ensures.tokens_are q s taken c.in_ok-take.ensures.takes told in
    subst (λ (x : EngineView g.row.C.Denot). TellsTokens g.C.Conds.stands x d) c.self.view_is h

pub returns-clause-takes : goal.returns-clause-takes
returns-clause-takes g c =
    let r = c.self.inside.reader in
    let many = lent_many (lent_next r) c.lent.result.0.now c.lent.result.1.now c.lent.ensures in
    subst (λ (x : EngineView g.row.C.Denot). TakesLent x.reader c.take_lent.new.self) c.self.view_is (c.take_lent.ensures.takes ∙ ap (λ k. behind_lent k r) (sym many))

pub returns-clause-same : goal.returns-clause-same
returns-clause-same g c =
    let q = seen_part c.take.new.self in
    let r = c.self.inside.reader in
    let s = c.take_lent.new.self in
    subst (λ (x : EngineView g.row.C.Denot). GoesAlone x (over_part q s c.self.inside.bytes c.self.inside.refused c.self.inside.ended)) c.self.view_is
    (lent_alone (seen_part c.self.inside.part) q r s c.self.inside.bytes c.self.inside.refused c.self.inside.ended c.take.ensures.same (keeps_behind r s (length c.lent.result.0.now) c.take_lent.ensures.takes))
