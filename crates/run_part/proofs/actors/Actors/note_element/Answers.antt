use Rattle.std.proofs.Common.{◌≡◌, ◌∙◌, ℕ, ◌+◌, ◌<◌, ◌^◌, max, length, ap, subst, sym}
use Rattle.run_part.specs.declared.actors.Tallied.{Tallied}
use Rattle.run_part.specs.Late.{BalancesLate, SettlesOver, SomeLate, seen_counts}
use Rattle.run_part.specs.View.{ActorsView}
use Rattle.run_part.proofs.Late.{over_counted, stand_counted}
use Rattle.run_part.proofs.Results.{err_map, ok_map}
use Rattle.run_part.proofs.actors.Actors.note_element.Goals as goal

pub rows_late-held-requires : goal.rows_late-held-requires
rows_late-held-requires g c = subst (λ (z : ActorsView g.row.C.Denot). length z.buffer.rows + length z.projector.passed < 2 ^ 64) (sym c.self.view_is) c.requires.few

pub settle_over-requires-clause-some : goal.settle_over-requires-clause-some
settle_over-requires-clause-some g c =
    let old : ActorsView g.row.C.Denot = record { projector = c.self.inside.projector; buffer = c.self.inside.buffer; machine = c.self.inside.machine; counts = c.self.inside.counts } in
    let m = subst (λ (z : ActorsView g.row.C.Denot). SomeLate c.args.bytes.now g.C.Conds.stands z) (sym c.self.view_is) c.requires.some in
    record { plan = m.plan; tree = m.tree; taken = m.taken; of = stand_counted c.args.bytes.now g.C.Conds.stands m.plan old c.count_held-self-inside.result m.tree m.taken m.of; low = m.low }

pub settle_over-requires-clause-few : goal.settle_over-requires-clause-few
settle_over-requires-clause-few g c = subst (λ (z : ActorsView g.row.C.Denot). length z.buffer.rows + length z.projector.passed < 2 ^ 64) (sym c.self.view_is) c.requires.few

pub returns-clause-settles : goal.returns-clause-settles
returns-clause-settles g c =
    let old : ActorsView g.row.C.Denot = record { projector = c.self.inside.projector; buffer = c.self.inside.buffer; machine = c.self.inside.machine; counts = c.self.inside.counts } in
    let e : ActorsView g.row.C.Denot = record old { counts = c.count_held-self-inside.result } in
    let d = c.settle_over.new.self in
    let from : SettlesOver c.args.bytes.now g.C.Conds.stands e d → SettlesOver c.args.bytes.now g.C.Conds.stands c.args.self.now d = λ h.
    subst (λ (z : ActorsView g.row.C.Denot). SettlesOver c.args.bytes.now g.C.Conds.stands z d) c.self.view_is
    (λ plan P k s. over_counted c.args.bytes.now g.C.Conds.stands plan old d c.count_held-self-inside.result P k (h plan P k (stand_counted c.args.bytes.now g.C.Conds.stands plan old c.count_held-self-inside.result P k s))) in
    ok_map c.settle_over.result from c.settle_over.ensures.settles

pub returns-clause-balance : goal.returns-clause-balance
returns-clause-balance g c =
    let old : ActorsView g.row.C.Denot = record { projector = c.self.inside.projector; buffer = c.self.inside.buffer; machine = c.self.inside.machine; counts = c.self.inside.counts } in
    let e : ActorsView g.row.C.Denot = record old { counts = c.count_held-self-inside.result } in
    let d = c.settle_over.new.self in
    let same = ap (λ (n : Tallied). n.given) c.count_held-self-inside.ensures in
    let from : BalancesLate c.args.bytes.now g.C.Conds.stands e d → BalancesLate c.args.bytes.now g.C.Conds.stands c.args.self.now d = λ h.
    subst (λ (z : ActorsView g.row.C.Denot). BalancesLate c.args.bytes.now g.C.Conds.stands z d) c.self.view_is
    (λ plan P k s given. h plan P k (stand_counted c.args.bytes.now g.C.Conds.stands plan old c.count_held-self-inside.result P k s) (same ∙ given)) in
    err_map c.settle_over.result from c.settle_over.ensures.balance

pub returns-clause-machine : goal.returns-clause-machine
returns-clause-machine g c = c.settle_over.ensures.machine ∙ ap (λ (z : ActorsView g.row.C.Denot). z.machine) c.self.view_is

pub returns-clause-counts : goal.returns-clause-counts
returns-clause-counts g c =
    let old : ActorsView g.row.C.Denot = record { projector = c.self.inside.projector; buffer = c.self.inside.buffer; machine = c.self.inside.machine; counts = c.self.inside.counts } in
    let counted : c.count_held-self-inside.result ≡ seen_counts old
    = c.count_held-self-inside.ensures ∙ ap (λ (n : ℕ). record old.counts { peak = max old.counts.peak n }) c.rows_late-held.ensures in
    c.settle_over.ensures.counts ∙ (counted ∙ ap seen_counts c.self.view_is)

pub returns-clause-loans : goal.returns-clause-loans
returns-clause-loans g c = c.settle_over.ensures.loans ∙ ap (λ (z : ActorsView g.row.C.Denot). z.buffer.loans) c.self.view_is
