use Rattle.std.proofs.Common.{◌≡◌, ◌<◌, ◌≤◌, length, sym, ◌∙◌, ap, arith}
use Rattle.std.proofs.lemmas.List.{get_or_read}
use Rattle.trace_check.specs.Acting.{act_shown}
use Rattle.trace_check.specs.declared.acts.TimedAct.{TimedAct}
use Rattle.trace_check.proofs.Tellings.{few_on, told_all, told_on}
use Rattle.trace_check.proofs.telling.put_acts.Goals as goal

pub acts-preserved : goal.acts-preserved
acts-preserved c =
    let x : TimedAct = c.index.result.now in
    let y : TimedAct = c.index-in-acts.result.now in
    let l : c.acts.told.acts < length c.args.course.now.acts.items = (let t = c.acts-test.true in let n = c.len.ensures in omega (arith, t, n)) in
    let same : x ≡ y = get_or_read c.args.course.now.acts.items _ _ l c.index.ensures y ∙ sym (c.index-in-acts.ensures) in
    let due_now : y.at ≤ c.args.now = (let t = c.if-index-now.true in let e = ap (λ (z : TimedAct). z.at) same in omega (arith, t, e)) in
    let counted = c.in_ok-put_act.ensures.counted in
    record {
      told = λ plan ts is h.
          told_on c.times_rise.ensures plan ts c.args.course.now is c.args.now c.args.told.now c.acts.told c.args.text.now.items c.acts.text.items (c.acts.invariant.told plan ts is h)
          y l c.index-in-acts.ensures due_now c.put_act.new.told c.put_act.new.text.items counted (c.in_ok-put_act.ensures.puts plan ts is);
      few = few_on (act_shown y.act) c.acts.told c.put_act.new.told counted c.acts.invariant.few;
      opened = counted.opened ∙ c.acts.invariant.opened;
    }

pub returns-else-index-now-clause-puts : goal.returns-else-index-now-clause-puts
returns-else-index-now-clause-puts c plan ts is h =
    let late : c.args.now < c.index.result.now.at = (let t = c.if-index-now.false in omega (arith, t)) in
    (told_all c.times_rise.ensures plan ts c.args.course.now is c.args.now c.args.told.now c.acts.told c.args.text.now.items c.acts.text.items (c.acts.invariant.told plan ts is h)
    (λ few. (c.index.result.now, c.index.ensures, late))).0

pub returns-else-index-now-clause-told : goal.returns-else-index-now-clause-told
returns-else-index-now-clause-told c plan ts is h =
    let late : c.args.now < c.index.result.now.at = (let t = c.if-index-now.false in omega (arith, t)) in
    (told_all c.times_rise.ensures plan ts c.args.course.now is c.args.now c.args.told.now c.acts.told c.args.text.now.items c.acts.text.items (c.acts.invariant.told plan ts is h)
    (λ few. (c.index.result.now, c.index.ensures, late))).1

pub returns-after-acts-clause-puts : goal.returns-after-acts-clause-puts
returns-after-acts-clause-puts c plan ts is h =
    (told_all c.times_rise.ensures plan ts c.args.course.now is c.args.now c.args.told.now c.acts.told c.args.text.now.items c.acts.text.items (c.acts.invariant.told plan ts is h)
    (λ few. absurd (let t = c.acts-test.false in let n = c.len.ensures in omega (arith, few, t, n)))).0

pub returns-after-acts-clause-told : goal.returns-after-acts-clause-told
returns-after-acts-clause-told c plan ts is h =
    (told_all c.times_rise.ensures plan ts c.args.course.now is c.args.now c.args.told.now c.acts.told c.args.text.now.items c.acts.text.items (c.acts.invariant.told plan ts is h)
    (λ few. absurd (let t = c.acts-test.false in let n = c.len.ensures in omega (arith, few, t, n)))).1
