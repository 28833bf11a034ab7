use Rattle.std.proofs.Common.{◌∙◌, subst, Option}
use Rattle.doc_laws.specs.Machine.{step}
use Rattle.doc_machine.specs.declared.stop.Refusal.{Refusal}
use Rattle.doc_machine.specs.Refusals.{fault}
use Rattle.doc_machine.specs.Machine.{scan_state}
use Rattle.doc_machine.specs.Limited.{limited, IsLimit}
use Rattle.doc_machine.proofs.Sound.{taken_true, judged_is, judged_keeps}
use Rattle.doc_machine.proofs.judging.judge.Goals as goal

pub returns-in-Some : goal.returns-in-Some
returns-in-Some c =
    let lim = c.args.limits in
    let place = c.args.place in
    let s = scan_state c.args.m.now in
    let t = scan_state c.advance.new.m in
    let e = taken_true c.in_ok-advance.field-0 s (step s c.args.c) t c.in_ok-advance.ensures c.if-not-branch.false in
    let is = judged_is lim place s t c.args.c c.too_deep-deep.result e c.too_deep-deep.ensures in
    let r = subst (λ (o : Option Refusal). IsLimit o (limited lim place c.too_deep-deep.result t) t) c.in-Some.is c.passed.ensures in
    (is ∙ r, judged_keeps lim place s t c.args.c (fault c.in-Some.refusal) c.requires e (is ∙ r))

pub returns-in-None : goal.returns-in-None
returns-in-None c =
    let lim = c.args.limits in
    let place = c.args.place in
    let s = scan_state c.args.m.now in
    let t = scan_state c.advance.new.m in
    let e = taken_true c.in_ok-advance.field-0 s (step s c.args.c) t c.in_ok-advance.ensures c.if-not-branch.false in
    let is = judged_is lim place s t c.args.c c.too_deep-deep.result e c.too_deep-deep.ensures in
    is ∙ subst (λ (o : Option Refusal). IsLimit o (limited lim place c.too_deep-deep.result t) t) c.in-None.is c.passed.ensures
