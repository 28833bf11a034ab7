use Rattle.std.proofs.Common.{ap, subst, sym}
use Rattle.std.specs.Prelude.{OnErr, OnOk}
use Rattle.outside.specs.Outputs.{MayTakeTokens}
use Rattle.run_part.specs.Late.{said_lent}
use Rattle.run_part.specs.Part.{KeepsPart, PartTakesSome, PartTakes}
use Rattle.run_part.specs.Taker.{part_stands}
use Rattle.run_part.specs.View.{PartView}
use Rattle.run_part.proofs.Nowhere.{keeps_nowhere, may_nowhere, some_nowhere, takes_nowhere}
use Rattle.run_part.proofs.Results.{err_map, ok_map}
use Rattle.engine.specs.View.{seen_part}
use Rattle.engine.proofs.any_part.AnyPart.take.Goals as goal

-- ---- without lines

pub take-requires-clause-may : goal.take-requires-clause-may
take-requires-clause-may g c =
    let more = said_lent c.args.bytes.now c.args.tokens.now in
    subst (λ (p : PartView g.row.C.Denot). MayTakeTokens (part_stands g.C.Conds.stands p) more) (ap seen_part c.in-WithoutLines.is) (may_nowhere g.C.Conds.stands (seen_part c.args.self.now) more c.requires.may)

pub take-requires-clause-places : goal.take-requires-clause-places
take-requires-clause-places g c = λ i p e. tt

pub take-requires-clause-few : goal.take-requires-clause-few
take-requires-clause-few g c = (tt, tt)

pub returns-in-WithoutLines-clause-takes : goal.returns-in-WithoutLines-clause-takes
returns-in-WithoutLines-clause-takes g c =
    let more = said_lent c.args.bytes.now c.args.tokens.now in
    subst (λ (p : PartView g.row.C.Denot). OnOk c.take.result (PartTakes g.C.Conds.stands p c.take.new.self more)) (sym (ap seen_part c.in-WithoutLines.is))
    (ok_map c.take.result (takes_nowhere g.C.Conds.stands more c.take.ensures.leaves) c.take.ensures.takes)

pub returns-in-WithoutLines-clause-part : goal.returns-in-WithoutLines-clause-part
returns-in-WithoutLines-clause-part g c =
    let more = said_lent c.args.bytes.now c.args.tokens.now in
    subst (λ (p : PartView g.row.C.Denot). OnErr c.take.result (PartTakesSome g.C.Conds.stands p c.take.new.self more)) (sym (ap seen_part c.in-WithoutLines.is))
    (err_map c.take.result (some_nowhere g.C.Conds.stands more c.take.ensures.leaves) c.take.ensures.part)

pub returns-in-WithoutLines-clause-same : goal.returns-in-WithoutLines-clause-same
returns-in-WithoutLines-clause-same g c =
    subst (λ (p : PartView g.row.C.Denot). KeepsPart p c.take.new.self) (sym (ap seen_part c.in-WithoutLines.is)) (keeps_nowhere c.take.ensures.leaves.kept)

-- ---- with lines

pub take-requires-in-WithLines-clause-may : goal.take-requires-in-WithLines-clause-may
take-requires-in-WithLines-clause-may g c =
    let more = said_lent c.args.bytes.now c.args.tokens.now in
    subst (λ (p : PartView g.row.C.Denot). MayTakeTokens (part_stands g.C.Conds.stands p) more) (ap seen_part c.in-WithLines.is) (may_nowhere g.C.Conds.stands (seen_part c.args.self.now) more c.requires.may)

pub take-requires-in-WithLines-clause-places : goal.take-requires-in-WithLines-clause-places
take-requires-in-WithLines-clause-places g c = λ i p e. tt

pub take-requires-in-WithLines-clause-few : goal.take-requires-in-WithLines-clause-few
take-requires-in-WithLines-clause-few g c = (tt, tt)

pub returns-clause-takes : goal.returns-clause-takes
returns-clause-takes g c =
    let more = said_lent c.args.bytes.now c.args.tokens.now in
    subst (λ (p : PartView g.row.C.Denot). OnOk c.take-in-WithLines.result (PartTakes g.C.Conds.stands p c.take-in-WithLines.new.self more)) (sym (ap seen_part c.in-WithLines.is))
    (ok_map c.take-in-WithLines.result (takes_nowhere g.C.Conds.stands more c.take-in-WithLines.ensures.leaves) c.take-in-WithLines.ensures.takes)

pub returns-clause-part : goal.returns-clause-part
returns-clause-part g c =
    let more = said_lent c.args.bytes.now c.args.tokens.now in
    subst (λ (p : PartView g.row.C.Denot). OnErr c.take-in-WithLines.result (PartTakesSome g.C.Conds.stands p c.take-in-WithLines.new.self more)) (sym (ap seen_part c.in-WithLines.is))
    (err_map c.take-in-WithLines.result (some_nowhere g.C.Conds.stands more c.take-in-WithLines.ensures.leaves) c.take-in-WithLines.ensures.part)

pub returns-clause-same : goal.returns-clause-same
returns-clause-same g c =
    subst (λ (p : PartView g.row.C.Denot). KeepsPart p c.take-in-WithLines.new.self) (sym (ap seen_part c.in-WithLines.is)) (keeps_nowhere c.take-in-WithLines.ensures.leaves.kept)
