use Rattle.std.proofs.Common.{◌≡◌, ◌≤◌, ◌∙◌, ◌-◌, ℕ, List, length, take, drop, refl, ap, subst, arith, rules}
use Rattle.std.proofs.lemmas.List.{take_all}
use Rattle.gcx_io.specs.Causes.{Rose}
use Rattle.gcx_io.specs.Views.{ShelfView}
use Rattle.gcx_io.specs.Writing.{Takes}
use Rattle.gcx_io.proofs.Written.{owes_rest, takes_next, takes_none}
use Rattle.engine.proofs.CallsOfTurns.{on_err_any}
use Rattle.many_run.specs.Files.{sink_at}
use Rattle.many_run.proofs.Filing.{extends_by, only_next, only_same, sink_writes, told_later, told_of}
use Rattle.many_run.proofs.running.write_out.Goals as goal

pub pieces-init : goal.pieces-init
pieces-init g c = record {
  within = omega arith;
  took = takes_none (sink_at c.args.handle.0 (g.F.Shelf.seen c.args.files.now));
  only = only_same c.args.handle.0 (g.F.Shelf.seen c.args.files.now);
  calm = refl;
}

pub write-requires-clause-given : goal.write-requires-clause-given
write-requires-clause-given g c =
    let b = c.pieces.files in
    let count : length (g.F.Shelf.seen b).given ≡ g.F.Shelf.handles b = ap (λ (v : ShelfView). length v.given) (g.met.F.Shelf.sees b) ∙ g.met.F.Shelf.counts b in
    let same = c.pieces.invariant.only.count in
    let few = c.requires in
    omega (arith, count, same, few)

pub returns-in_err-at-clause-owes : goal.returns-in_err-at-clause-owes
returns-in_err-at-clause-owes g c =
    let h = c.args.handle.0 in
    let b = c.pieces.files in
    let d = c.write.new.self in
    let piece = take (length c.args.bytes.now - c.pieces.at) (drop c.pieces.at c.args.bytes.now) in
    let tb = told_of (g.F.Shelf.seen b) _ (g.F.Shelf.named b) (g.F.Shelf.left b) (g.F.Shelf.handles b) (g.met.F.Shelf.sees b) (g.met.F.Shelf.counts b) (g.met.F.Shelf.owners b) (g.met.F.Shelf.lefts b) (g.met.F.Shelf.tells_rests b) in
    let td = told_later (g.F.Shelf.seen d) (g.F.Shelf.named b) (g.F.Shelf.named d) (g.F.Shelf.left d) (g.F.Shelf.handles b) (g.F.Shelf.handles d)
    (told_of (g.F.Shelf.seen d) _ (g.F.Shelf.named d) (g.F.Shelf.left d) (g.F.Shelf.handles d) (g.met.F.Shelf.sees d) (g.met.F.Shelf.counts d) (g.met.F.Shelf.owners d) (g.met.F.Shelf.lefts d) (g.met.F.Shelf.tells_rests d)) c.write.ensures.named c.write.ensures.handles in
    let once = sink_writes h (g.F.Shelf.seen b) (g.F.Shelf.seen d) _ piece c.in_err-at.ensures.takes (g.F.Shelf.named b) (g.F.Shelf.left b) (g.F.Shelf.left d) (g.F.Shelf.handles b) tb td
    (extends_by h (g.F.Shelf.seen b) (g.F.Shelf.seen d) _ piece c.in_err-at.ensures.takes _ _ (g.F.Shelf.named b h) (g.met.F.Shelf.sees b) (g.met.F.Shelf.sees d) c.in_err-at.ensures.bytes) in
    on_err_any _ (owes_rest _ (sink_at h (g.F.Shelf.seen c.args.files.now)) (sink_at h (g.F.Shelf.seen b)) (sink_at h (g.F.Shelf.seen d)) c.args.bytes.now c.pieces.at c.pieces.invariant.took once c.pieces-test.true)

pub returns-in_err-at-clause-only : goal.returns-in_err-at-clause-only
returns-in_err-at-clause-only g c =
    let h = c.args.handle.0 in
    let b = c.pieces.files in
    let d = c.write.new.self in
    let piece = take (length c.args.bytes.now - c.pieces.at) (drop c.pieces.at c.args.bytes.now) in
    let tb = told_of (g.F.Shelf.seen b) _ (g.F.Shelf.named b) (g.F.Shelf.left b) (g.F.Shelf.handles b) (g.met.F.Shelf.sees b) (g.met.F.Shelf.counts b) (g.met.F.Shelf.owners b) (g.met.F.Shelf.lefts b) (g.met.F.Shelf.tells_rests b) in
    let td = told_later (g.F.Shelf.seen d) (g.F.Shelf.named b) (g.F.Shelf.named d) (g.F.Shelf.left d) (g.F.Shelf.handles b) (g.F.Shelf.handles d)
    (told_of (g.F.Shelf.seen d) _ (g.F.Shelf.named d) (g.F.Shelf.left d) (g.F.Shelf.handles d) (g.met.F.Shelf.sees d) (g.met.F.Shelf.counts d) (g.met.F.Shelf.owners d) (g.met.F.Shelf.lefts d) (g.met.F.Shelf.tells_rests d)) c.write.ensures.named c.write.ensures.handles in
    only_next h (g.F.Shelf.seen c.args.files.now) (g.F.Shelf.seen b) (g.F.Shelf.seen d) _ piece (g.F.Shelf.named b) (g.F.Shelf.left b) (g.F.Shelf.left d) (g.F.Shelf.handles b) c.pieces.invariant.only c.in_err-at.ensures.takes tb td
    (extends_by h (g.F.Shelf.seen b) (g.F.Shelf.seen d) _ piece c.in_err-at.ensures.takes _ _ (g.F.Shelf.named b h) (g.met.F.Shelf.sees b) (g.met.F.Shelf.sees d) c.in_err-at.ensures.bytes) c.write.ensures.others

pub returns-in_err-at-clause-cause : goal.returns-in_err-at-clause-cause
returns-in_err-at-clause-cause g c =
    on_err_any _ (subst (λ (n : ℕ). Rose n (g.F.Shelf.seen c.write.new.self).write_faults) c.pieces.invariant.calm c.in_err-at.ensures.takes.write_faults.failed)

pub pieces-preserved : goal.pieces-preserved
pieces-preserved g c =
    let h = c.args.handle.0 in
    let a = c.args.files.now in
    let b = c.pieces.files in
    let d = c.write.new.self in
    let piece = take (length c.args.bytes.now - c.pieces.at) (drop c.pieces.at c.args.bytes.now) in
    let tb = told_of (g.F.Shelf.seen b) _ (g.F.Shelf.named b) (g.F.Shelf.left b) (g.F.Shelf.handles b) (g.met.F.Shelf.sees b) (g.met.F.Shelf.counts b) (g.met.F.Shelf.owners b) (g.met.F.Shelf.lefts b) (g.met.F.Shelf.tells_rests b) in
    let td = told_later (g.F.Shelf.seen d) (g.F.Shelf.named b) (g.F.Shelf.named d) (g.F.Shelf.left d) (g.F.Shelf.handles b) (g.F.Shelf.handles d)
    (told_of (g.F.Shelf.seen d) _ (g.F.Shelf.named d) (g.F.Shelf.left d) (g.F.Shelf.handles d) (g.met.F.Shelf.sees d) (g.met.F.Shelf.counts d) (g.met.F.Shelf.owners d) (g.met.F.Shelf.lefts d) (g.met.F.Shelf.tells_rests d)) c.in_ok-at.ensures.named c.in_ok-at.ensures.handles in
    let held = extends_by h (g.F.Shelf.seen b) (g.F.Shelf.seen d) _ piece c.in_ok-at.ensures.takes _ _ (g.F.Shelf.named b h) (g.met.F.Shelf.sees b) (g.met.F.Shelf.sees d) c.in_ok-at.ensures.bytes in
    let once = sink_writes h (g.F.Shelf.seen b) (g.F.Shelf.seen d) _ piece c.in_ok-at.ensures.takes (g.F.Shelf.named b) (g.F.Shelf.left b) (g.F.Shelf.left d) (g.F.Shelf.handles b) tb td held in
    record {
      within = search rules;
      took = takes_next (sink_at h (g.F.Shelf.seen a)) (sink_at h (g.F.Shelf.seen b)) (sink_at h (g.F.Shelf.seen d)) c.args.bytes.now c.pieces.at c.in_ok-at.field-0 c.pieces.invariant.took once (search rules) (search rules);
      only = only_next h (g.F.Shelf.seen a) (g.F.Shelf.seen b) (g.F.Shelf.seen d) _ piece (g.F.Shelf.named b) (g.F.Shelf.left b) (g.F.Shelf.left d) (g.F.Shelf.handles b) c.pieces.invariant.only c.in_ok-at.ensures.takes tb td held c.write.ensures.others;
      calm = c.in_ok-at.ensures.takes.calm ∙ c.pieces.invariant.calm;
    }

pub returns-clause-took : goal.returns-clause-took
returns-clause-took g c =
    let past : length c.args.bytes.now ≤ c.pieces.at = let t = c.pieces-test.false in omega arith in
    subst (λ (z : List ℕ). Takes (sink_at c.args.handle.0 (g.F.Shelf.seen c.args.files.now)) (sink_at c.args.handle.0 (g.F.Shelf.seen c.pieces.files)) z) (take_all c.pieces.at c.args.bytes.now past) c.pieces.invariant.took
