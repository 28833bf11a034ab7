use Rattle.std.proofs.Common.{◌∙◌, ◌<◌, ◌≤◌, [], length, rules, arith, subst, sym}
use Rattle.gcx_io.specs.Writing.{Owes, Takes}
use Rattle.gcx_io.specs.declared.shelf.Handle.{Handle}
use Rattle.engine.proofs.CallsOfTurns.{on_err_any}
use Rattle.many_run.specs.Files.{sink_at}
use Rattle.many_run.specs.Runs.{WritesOnly}
use Rattle.many_run.proofs.Walking.{get_there, there}
use Rattle.many_run.proofs.Writing.{output_of, rest_now, turned_all, turned_empty, turned_none, turned_on, turned_stops}
use native.Mathlib.Numerals.{unary_clauses}
use Rattle.many_run.proofs.running.write_waiting.Goals as goal

pub outputs-init : goal.outputs-init
outputs-init g c = turned_none c.args.many.now c.args.outs.now (g.F.Shelf.seen c.args.files.now)

pub output-requires : goal.output-requires
output-requires g c =
    let l : c.outputs.query < length c.args.outs.now = c.outputs-test.true in
    let n = c.requires.1.count in
    let m = c.outputs.invariant.only.each.count in
    omega (arith, l, n, m)

pub write_out-requires : goal.write_out-requires
write_out-requires g c =
    let l : c.outputs.query < length c.args.outs.now = c.outputs-test.true in
    let o = there c.args.outs.now c.outputs.query l in
    let few = c.requires.1.apart.given c.outputs.query o.0 o.1 in
    let n = c.outputs.invariant.rest.count in
    let given : o.0.0 < length (g.F.Shelf.seen c.outputs.files).given = omega (arith, few, n) in
    subst (λ (h : Handle). h.0 < length (g.F.Shelf.seen c.outputs.files).given) (sym (get_there c.args.outs.now c.outputs.query _ o.0 o.1)) given

pub returns-in_err-write_out-clause-stops : goal.returns-in_err-write_out-clause-stops
returns-in_err-write_out-clause-stops g c =
    let k = c.outputs.query in
    let l : k < length c.args.outs.now = c.outputs-test.true in
    let o = there c.args.outs.now k l in
    let only = subst (λ (h : Handle). WritesOnly h.0 (g.F.Shelf.seen c.outputs.files) (g.F.Shelf.seen c.write_out.new.files)) (get_there c.args.outs.now k _ o.0 o.1) c.write_out.ensures.only in
    let inv = c.outputs.invariant in
    on_err_any _ (turned_stops c.args.many.now c.args.outs.now (g.F.Shelf.seen c.args.files.now) c.requires.0 c.requires.1 c.outputs.many (g.F.Shelf.seen c.outputs.files) (g.F.Shelf.seen c.write_out.new.files) k o.0 o.1 inv only
    c.output.result.now (output_of c.outputs.many.parts c.args.many.now.parts k c.output.result.now c.output.ensures (c.outputs.invariant.others k (omega arith))) (subst (λ (h : Handle). Owes (sink_at h.0 (g.F.Shelf.seen c.outputs.files)) (sink_at h.0 (g.F.Shelf.seen c.write_out.new.files)) [] c.output.result.now) (get_there c.args.outs.now k _ o.0 o.1) c.in_err-write_out.ensures.owes) c.in_err-write_out.ensures.cause)

pub returns-in_err-write_out-clause-others : goal.returns-in_err-write_out-clause-others
returns-in_err-write_out-clause-others g c =
    let k = c.outputs.query in
    let l : k < length c.args.outs.now = c.outputs-test.true in
    let o = there c.args.outs.now k l in
    let only = subst (λ (h : Handle). WritesOnly h.0 (g.F.Shelf.seen c.outputs.files) (g.F.Shelf.seen c.write_out.new.files)) (get_there c.args.outs.now k _ o.0 o.1) c.write_out.ensures.only in
    rest_now c.args.many.now c.args.outs.now (g.F.Shelf.seen c.args.files.now) c.requires.0 c.requires.1 c.outputs.many (g.F.Shelf.seen c.outputs.files) (g.F.Shelf.seen c.write_out.new.files) k o.0 o.1 c.outputs.invariant only

pub returns-in_err-write_out-clause-only : goal.returns-in_err-write_out-clause-only
returns-in_err-write_out-clause-only g c = c.outputs.invariant.only

pub returns-in_err-write_out-clause-reads : goal.returns-in_err-write_out-clause-reads
returns-in_err-write_out-clause-reads g c = c.write_out.ensures.only.faults ∙ c.outputs.invariant.faults

pub clear_output-requires : goal.clear_output-requires
clear_output-requires g c =
    let l : c.outputs.query < length c.args.outs.now = c.outputs-test.true in
    let n = c.requires.1.count in
    let m = c.outputs.invariant.only.each.count in
    omega (arith, l, n, m)

pub outputs-preserved : goal.outputs-preserved
outputs-preserved g c =
    let k = c.outputs.query in
    let l : k < length c.args.outs.now = c.outputs-test.true in
    let o = there c.args.outs.now k l in
    let only = subst (λ (h : Handle). WritesOnly h.0 (g.F.Shelf.seen c.outputs.files) (g.F.Shelf.seen c.write_out.new.files)) (get_there c.args.outs.now k _ o.0 o.1) c.write_out.ensures.only in
    simp unary_clauses
    (turned_on c.args.many.now c.args.outs.now (g.F.Shelf.seen c.args.files.now) c.requires.0 c.requires.1 c.outputs.many (g.F.Shelf.seen c.outputs.files) (g.F.Shelf.seen c.write_out.new.files) k o.0 o.1 c.outputs.invariant only
    c.clear_output.new.self c.output.result.now (output_of c.outputs.many.parts c.args.many.now.parts k c.output.result.now c.output.ensures (c.outputs.invariant.others k (omega arith))) (subst (λ (h : Handle). Takes (sink_at h.0 (g.F.Shelf.seen c.outputs.files)) (sink_at h.0 (g.F.Shelf.seen c.write_out.new.files)) c.output.result.now) (get_there c.args.outs.now k _ o.0 o.1) c.in_ok-write_out.ensures.took) c.in_ok-write_out.ensures.calm c.clear_output.ensures c.requires.1.count)

pub returns-clause-wrote : goal.returns-clause-wrote
returns-clause-wrote g c = let past : length c.args.outs.now ≤ c.outputs.query = search rules in turned_all c.args.many.now c.args.outs.now (g.F.Shelf.seen c.args.files.now) c.outputs.many (g.F.Shelf.seen c.outputs.files) c.outputs.query past c.outputs.invariant

pub returns-clause-empty : goal.returns-clause-empty
returns-clause-empty g c = let past : length c.args.outs.now ≤ c.outputs.query = search rules in turned_empty c.args.many.now c.args.outs.now (g.F.Shelf.seen c.args.files.now) c.outputs.many (g.F.Shelf.seen c.outputs.files) c.outputs.query c.requires.1.count past c.outputs.invariant
