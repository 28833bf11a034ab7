use Rattle.std.proofs.Common.{◌∙◌, ◌≤◌, List, ℕ, length, map, sym, ap, subst, arith}
use Rattle.gcx_io.specs.Views.{ShelfView}
use Rattle.gcx_io.specs.declared.shelf.Handle.{Handle}
use Rattle.gcx_words.specs.declared.pairs.Pair.{Pair}
use Rattle.gcx_cmd.proofs.Attached.{unattached_memory, unattached_reads}
use Rattle.gcx_cmd.proofs.Manies.{handles_apart, made_outs, outs_named}
use Rattle.gcx_cmd.proofs.ManyEnding.{doc_missing, outs_memory, outs_read, outs_write, plans_end, read_rose, run_cause, run_write, stops_in_outs, without_doc, write_rose}
use Rattle.gcx_cmd.proofs.ManyKept.{kept_attached, kept_on, kept_run, kept_unattached, other_names}
use Rattle.gcx_cmd.specs.ManyDoes.{MakesOuts, ManyEnds}
use Rattle.gcx_cmd.specs.ReadEnd.{attach_status}
use Rattle.gcx_cmd.proofs.many.run_into.Goals as goal

pub returns-in-Err-clause-ends : goal.returns-in-Err-clause-ends
returns-in-Err-clause-ends g c = λ begin accepts. stops_in_outs c.args.document.now c.args.pairs.now begin (g.F.Shelf.seen c.args.files.now) c.args.plans.now accepts c.in-Err.stopped (g.F.Shelf.seen c.create_outs.new.files) c.in-Err.ensures.stops

pub returns-in-Err-clause-cause : goal.returns-in-Err-clause-cause
returns-in-Err-clause-cause g c = λ is. absurd (outs_read c.args.pairs.now (g.F.Shelf.seen c.args.files.now) (g.F.Shelf.seen c.create_outs.new.files) c.in-Err.stopped c.in-Err.ensures.stops is)

pub returns-in-Err-clause-write_cause : goal.returns-in-Err-clause-write_cause
returns-in-Err-clause-write_cause g c = λ is. outs_write c.args.pairs.now (g.F.Shelf.seen c.args.files.now) (g.F.Shelf.seen c.create_outs.new.files) c.in-Err.stopped c.in-Err.ensures.stops is

pub returns-in-Err-clause-memory : goal.returns-in-Err-clause-memory
returns-in-Err-clause-memory g c = outs_memory c.args.pairs.now (g.F.Shelf.seen c.args.files.now) (g.F.Shelf.seen c.create_outs.new.files) c.in-Err.stopped c.in-Err.ensures.stops

pub returns-in-Err-clause-keeps : goal.returns-in-Err-clause-keeps
returns-in-Err-clause-keeps g c = c.create_outs.ensures.keeps

pub returns-in-Err-attach-clause-ends : goal.returns-in-Err-attach-clause-ends
returns-in-Err-attach-clause-ends g c = λ begin accepts.
    let made = g.F.Shelf.seen c.create_outs.new.files in
    let b = g.F.Shelf.seen c.attach.new.self in
    let ends : ManyEnds c.args.document.now c.args.pairs.now (attach_status c.in-Err-attach.fault) begin b =
    without_doc c.args.document.now c.args.pairs.now begin (g.F.Shelf.seen c.args.files.now) c.args.plans.now accepts made c.in-Ok.outs.items c.in-Ok.ensures.made
    b c.in-Err-attach.fault c.in-Err-attach.ensures.attaches in
    rw c.from.ensures ends

pub returns-in-Err-attach-clause-cause : goal.returns-in-Err-attach-clause-cause
returns-in-Err-attach-clause-cause g c = λ is.
    doc_missing c.args.document.now c.args.pairs.now c.in-Ok.outs.items (g.F.Shelf.seen c.args.files.now) (g.F.Shelf.seen c.create_outs.new.files) c.in-Ok.ensures.made (g.F.Shelf.seen c.attach.new.self)
    c.in-Err-attach.fault c.in-Err-attach.ensures.attaches (sym c.from.ensures ∙ is)

pub returns-in-Err-attach-clause-write_cause : goal.returns-in-Err-attach-clause-write_cause
returns-in-Err-attach-clause-write_cause g c = λ is. absurd (unattached_reads c.in-Err-attach.fault (sym c.from.ensures ∙ is))

pub returns-in-Err-attach-clause-memory : goal.returns-in-Err-attach-clause-memory
returns-in-Err-attach-clause-memory g c = rw c.from.ensures (unattached_memory c.in-Err-attach.fault)

pub returns-in-Err-attach-clause-keeps : goal.returns-in-Err-attach-clause-keeps
returns-in-Err-attach-clause-keeps g c =
    let outs : List (List ℕ) = map (λ (p : Pair). p.out) c.args.pairs.now in
    let before = ap (λ (v : ShelfView). v.faults) (g.met.F.Shelf.sees c.create_outs.new.files) in
    let after = ap (λ (v : ShelfView). v.faults) (g.met.F.Shelf.sees c.attach.new.self) in
    let later : (g.F.Shelf.seen c.create_outs.new.files).faults ≤ (g.F.Shelf.seen c.attach.new.self).faults = omega (arith, c.attach.ensures.later, before, after) in
    kept_on outs (g.F.Shelf.seen c.args.files.now) (g.F.Shelf.seen c.create_outs.new.files) (g.F.Shelf.seen c.attach.new.self) c.create_outs.ensures.keeps
    (kept_unattached outs c.args.document.now (g.F.Shelf.seen c.create_outs.new.files) (g.F.Shelf.seen c.attach.new.self) c.in-Err-attach.fault c.in-Err-attach.ensures.attaches later)

-- ---- the run, over the OUTs as a slice

pub run_plans-requires-clause-apart : goal.run_plans-requires-clause-apart
run_plans-requires-clause-apart g c =
    let made = subst (λ (z : List Handle). MakesOuts c.args.pairs.now (g.F.Shelf.seen c.args.files.now) (g.F.Shelf.seen c.create_outs.new.files) z) (sym c.deref.ensures.value) c.in-Ok.ensures.made in
    handles_apart c.args.document.now c.args.pairs.now c.requires.within.1 c.deref.result.now (g.F.Shelf.seen c.args.files.now) (g.F.Shelf.seen c.create_outs.new.files) (g.F.Shelf.seen c.attach.new.self) made
    c.in-Ok-attach.handle c.in-Ok-attach.ensures.attaches.0

pub run_plans-requires-clause-count : goal.run_plans-requires-clause-count
run_plans-requires-clause-count g c =
    ap length c.deref.ensures.value ∙ ((made_outs c.args.pairs.now c.in-Ok.outs.items (g.F.Shelf.seen c.args.files.now) (g.F.Shelf.seen c.create_outs.new.files) c.in-Ok.ensures.made).count ∙ sym c.requires.count)

pub returns-clause-ends : goal.returns-clause-ends
returns-clause-ends g c = λ begin accepts.
    let made = subst (λ (z : List Handle). MakesOuts c.args.pairs.now (g.F.Shelf.seen c.args.files.now) (g.F.Shelf.seen c.create_outs.new.files) z) (sym c.deref.ensures.value) c.in-Ok.ensures.made in
    plans_end c.args.document.now c.args.pairs.now begin (g.F.Shelf.seen c.args.files.now) c.args.plans.now accepts (g.F.Shelf.seen c.create_outs.new.files) c.deref.result.now made
    (g.F.Shelf.seen c.attach.new.self) c.in-Ok-attach.handle c.in-Ok-attach.ensures.attaches (g.F.Shelf.seen c.run_plans.new.files) c.run_plans.result c.run_plans.ensures.runs

pub returns-clause-cause : goal.returns-clause-cause
returns-clause-cause g c = λ is.
    let begun = g.F.Shelf.seen c.attach.new.self in
    let b = g.F.Shelf.seen c.run_plans.new.files in
    run_cause c.args.document.now c.args.pairs.now c.in-Ok.outs.items (g.F.Shelf.seen c.args.files.now) (g.F.Shelf.seen c.create_outs.new.files) c.in-Ok.ensures.made begun b c.in-Ok-attach.handle c.in-Ok-attach.ensures.attaches
    (read_rose c.args.plans.now c.run_plans.result c.in-Ok-attach.handle c.deref.result.now begun b c.run_plans.ensures.runs is)

pub returns-clause-write_cause : goal.returns-clause-write_cause
returns-clause-write_cause g c = λ is.
    let begun = g.F.Shelf.seen c.attach.new.self in
    let b = g.F.Shelf.seen c.run_plans.new.files in
    run_write c.args.document.now c.args.pairs.now c.in-Ok.outs.items (g.F.Shelf.seen c.args.files.now) (g.F.Shelf.seen c.create_outs.new.files) c.in-Ok.ensures.made begun b c.in-Ok-attach.handle c.in-Ok-attach.ensures.attaches
    (write_rose c.args.plans.now c.run_plans.result c.in-Ok-attach.handle c.deref.result.now begun b c.run_plans.ensures.runs is)

pub returns-clause-keeps : goal.returns-clause-keeps
returns-clause-keeps g c =
    let d = c.args.document.now in
    let ps = c.args.pairs.now in
    let outs : List (List ℕ) = map (λ (p : Pair). p.out) ps in
    let a = g.F.Shelf.seen c.args.files.now in
    let made = g.F.Shelf.seen c.create_outs.new.files in
    let begun = g.F.Shelf.seen c.attach.new.self in
    let os = c.deref.result.now in
    let makes = subst (λ (z : List Handle). MakesOuts ps a made z) (sym c.deref.ensures.value) c.in-Ok.ensures.made in
    let doc = c.in-Ok-attach.handle in
    let attaches = c.in-Ok-attach.ensures.attaches in
    let r = c.run_plans.ensures.runs.2 in
    let keeps = kept_on outs a made begun c.create_outs.ensures.keeps (kept_attached outs d made begun doc attaches) in
    let number = attaches.0.number in
    let more = c.create_outs.ensures.keeps.more in
    let m = made_outs ps os a made makes in
    kept_run outs a begun (g.F.Shelf.seen c.run_plans.new.files) doc os keeps r.others (omega (arith, number, more))
    (λ i o at. let n = m.numbers i o at in omega (arith, n))
    (other_names ps os begun (outs_named d ps c.requires.within.1 os a made begun makes doc attaches.0))
