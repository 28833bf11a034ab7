use Rattle.std.proofs.Common.{◌∙◌, ◌≤◌, List, [], Some, rules, refl, ap, subst, arith}
use Rattle.gcx_model.specs.declared.plan.Plan.{Plan}
use Rattle.many_run.specs.Runs.{RanMany}
use Rattle.many_run.proofs.RunOn.{between_none}
use Rattle.many_run.proofs.Turns.{few_bytes}
use Rattle.many_run.proofs.running.run.Goals as goal

pub reading-init : goal.reading-init
reading-init g c = record {
  between = λ lim h. between_none g.C.Conds.stands lim c.args.doc c.args.outs.now c.args.many.now (g.F.Shelf.seen c.args.files.now) h c.requires.may.apart;
  stands = λ lim h. record { read = []; of = h.of; fresh = h.fresh };
  may = c.requires.may;
  plans = refl;
  size = search rules;
}

pub turn-requires-clause-may : goal.turn-requires-clause-may
turn-requires-clause-may g c = c.reading.invariant.may

pub turn-requires-clause-stands : goal.turn-requires-clause-stands
turn-requires-clause-stands g c = let s = c.requires.starts in (s.0, c.reading.invariant.stands s.0 s.1)

pub returns-in-Some-clause-ran : goal.returns-in-Some-clause-ran
returns-in-Some-clause-ran g c = λ lim h.
    subst (λ (z : List Plan). RanMany z lim c.in-Some.ended c.turn.new.many.bytes c.args.doc c.args.outs.now (g.F.Shelf.seen c.args.files.now) (g.F.Shelf.seen c.turn.new.files)) (c.turn.ensures.plans ∙ c.reading.invariant.plans)
    (c.in-Some.ensures.goes lim _ (c.reading.invariant.between lim h))

pub reading-smaller : goal.reading-smaller
reading-smaller g c =
    let s = c.requires.starts in
    let q = c.reading.invariant.stands s.0 s.1 in
    let few : c.reading.many.bytes ≤ 1099511627776 = few_bytes g.C.Conds.stands s.0 c.reading.many q in
    let more = c.in_default.ensures.fewer refl in
    omega arith

pub reading-preserved : goal.reading-preserved
reading-preserved g c = record {
  between = λ lim h. c.in_default.ensures.goes lim _ (c.reading.invariant.between lim h);
  stands = λ lim h. c.in_default.ensures.stands refl lim (c.reading.invariant.stands lim h);
  may = c.turn.ensures.may;
  plans = c.turn.ensures.plans ∙ c.reading.invariant.plans;
  size = c.turn.ensures.size;
}

pub returns-in-Some-clause-memory : goal.returns-in-Some-clause-memory
returns-in-Some-clause-memory g c = λ f is lacks. c.in-Some.ensures.memory f (ap Some is) lacks
