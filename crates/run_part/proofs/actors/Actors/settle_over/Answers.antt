use Rattle.std.proofs.Common.{◌≡◌, ◌∙◌, ◌+◌, ◌<◌, ◌≤◌, ◌^◌, false, length, ap, subst, sym, arith}
use Rattle.std.specs.Prelude.{nat_lt}
use Rattle.std.proofs.lemmas.Bool.{ltb-false}
use Rattle.run_part.specs.Late.{SettlesFrom, SettlesOver, seen_late}
use Rattle.run_part.specs.View.{ActorsView}
use Rattle.run_part.proofs.Late.{over_made, over_none, seen_length}
use Rattle.run_part.proofs.Results.{ok_map}
use Rattle.run_part.proofs.actors.Actors.settle_over.Goals as goal

pub is_over-requires : goal.is_over-requires
is_over-requires g c = subst (λ (z : ActorsView g.row.C.Denot). length z.buffer.rows + length z.projector.passed < 2 ^ 64) (sym c.self.view_is) c.requires.few

pub settle-requires : goal.settle-requires
settle-requires g c = c.requires.some

pub returns-then-is_over-clause-settles : goal.returns-then-is_over-clause-settles
returns-then-is_over-clause-settles g c =
    let old = c.args.self.now in
    let d = c.settle.new.self in
    let from : SettlesFrom c.args.bytes.now g.C.Conds.stands old d → SettlesOver c.args.bytes.now g.C.Conds.stands old d = λ h plan P k s. over_made c.args.bytes.now g.C.Conds.stands plan old P k s d (h plan P k s) in
    ok_map c.settle.result from c.settle.ensures.settles

-- the store had as many rows before
pub returns-clause-settles : goal.returns-clause-settles
returns-clause-settles g c = λ plan P k s.
    let old = c.args.self.now in
    let test : nat_lt old.buffer.most (length old.buffer.rows + length old.projector.passed) ≡ false
    = ap (λ (z : ActorsView g.row.C.Denot). nat_lt z.buffer.most (length z.buffer.rows + length z.projector.passed)) (sym c.self.view_is) ∙ (sym c.is_over.ensures ∙ c.if-is_over.false) in
    let few : length old.buffer.rows + length old.projector.passed ≤ old.buffer.most = ltb-false old.buffer.most (length old.buffer.rows + length old.projector.passed) test in
    let all = seen_length c.args.bytes.now old in
    let fits : length (seen_late c.args.bytes.now old).rows ≤ old.buffer.most = omega arith in
    over_none c.args.bytes.now g.C.Conds.stands plan old P k s fits
