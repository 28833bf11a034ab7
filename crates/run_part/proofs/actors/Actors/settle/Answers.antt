use Rattle.std.proofs.Common.{◌≡◌, ◌∙◌, [], length, refl, subst, sym}
use Rattle.projector.specs.Late.{MakesSome, SettlesAll, passed_in}
use Rattle.run_part.specs.Late.{BalancesLate, SettlesFrom, SomeLate}
use Rattle.run_part.specs.Actors.{past_at}
use Rattle.run_part.specs.View.{ActorsView}
use Rattle.run_part.proofs.Late.{late_shallow, no_names, settles_at, settles_none_at, some_balance}
use Rattle.run_part.proofs.Results.{err_map, ok_map}
use Rattle.run_part.proofs.actors.Actors.settle.Goals as goal

-- no row is left to be made
pub returns-then-passed-eq0-clause-settles : goal.returns-then-passed-eq0-clause-settles
returns-then-passed-eq0-clause-settles g c =
    let old : ActorsView g.row.C.Denot = record { projector = c.self.inside.projector; buffer = c.self.inside.buffer; machine = c.self.inside.machine; counts = c.self.inside.counts } in
    let zero : length c.self.inside.projector.passed ≡ 0 = sym c.passed-passed.ensures ∙ c.if-passed-eq0.true in
    let none : c.self.inside.projector.passed ≡ [] = no_names c.self.inside.projector.passed zero in
    let h : SettlesFrom c.args.bytes.now g.C.Conds.stands old old = λ plan P k s. settles_none_at c.args.bytes.now g.C.Conds.stands plan old P k s none in
    subst (λ (z : ActorsView g.row.C.Denot). SettlesFrom c.args.bytes.now g.C.Conds.stands z z) c.self.view_is h

pub settle-requires-clause-place : goal.settle-requires-clause-place
settle-requires-clause-place g c =
    (subst (λ (z : ActorsView g.row.C.Denot). SomeLate c.args.bytes.now g.C.Conds.stands z) (sym c.self.view_is) c.requires).of.keeps

pub settle-requires-clause-stand : goal.settle-requires-clause-stand
settle-requires-clause-stand g c =
    let m = subst (λ (z : ActorsView g.row.C.Denot). SomeLate c.args.bytes.now g.C.Conds.stands z) (sym c.self.view_is) c.requires in
    (past_at m.plan m.tree m.taken m.of.fed, m.of.loosely)

pub settle-requires-clause-depth : goal.settle-requires-clause-depth
settle-requires-clause-depth g c =
    let old : ActorsView g.row.C.Denot = record { projector = c.self.inside.projector; buffer = c.self.inside.buffer; machine = c.self.inside.machine; counts = c.self.inside.counts } in
    let m = subst (λ (z : ActorsView g.row.C.Denot). SomeLate c.args.bytes.now g.C.Conds.stands z) (sym c.self.view_is) c.requires in
    late_shallow c.args.bytes.now g.C.Conds.stands m.plan old m.tree m.taken m.of m.low

pub returns-clause-settles : goal.returns-clause-settles
returns-clause-settles g c =
    let old : ActorsView g.row.C.Denot = record { projector = c.self.inside.projector; buffer = c.self.inside.buffer; machine = c.self.inside.machine; counts = c.self.inside.counts } in
    let d : ActorsView g.row.C.Denot = record old { projector = c.settle.new.self; buffer = c.settle.new.buffer } in
    let all = SettlesAll c.args.bytes.now old.projector d.projector old.buffer d.buffer in
    let from : all → SettlesFrom c.args.bytes.now g.C.Conds.stands c.args.self.now d = λ f. subst (λ (z : ActorsView g.row.C.Denot). SettlesFrom c.args.bytes.now g.C.Conds.stands z d) c.self.view_is (λ plan P k s. settles_at c.args.bytes.now g.C.Conds.stands plan old P k s d f refl) in
    ok_map c.settle.result from c.settle.ensures.settles

pub returns-clause-balance : goal.returns-clause-balance
returns-clause-balance g c =
    let old : ActorsView g.row.C.Denot = record { projector = c.self.inside.projector; buffer = c.self.inside.buffer; machine = c.self.inside.machine; counts = c.self.inside.counts } in
    let d : ActorsView g.row.C.Denot = record old { projector = c.settle.new.self; buffer = c.settle.new.buffer } in
    let some = MakesSome (passed_in c.args.bytes.now old.projector.passed) old.buffer d.buffer in
    let from : some → BalancesLate c.args.bytes.now g.C.Conds.stands c.args.self.now d = λ m. subst (λ (z : ActorsView g.row.C.Denot). BalancesLate c.args.bytes.now g.C.Conds.stands z d) c.self.view_is (λ plan P k s given. some_balance c.args.bytes.now g.C.Conds.stands plan old d P k s m refl given) in
    err_map c.settle.result from c.settle.ensures.err
