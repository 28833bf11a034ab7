use Rattle.std.proofs.Common.{◌+◌, ◌∙◌, ◌∷◌, ◌++◌, [], List, sym, subst, ap, drop}
use Rattle.std.proofs.lemmas.List.{drop_more, drop_all}
use Rattle.gcx_base.specs.declared.steps.Step.{Step}
use Rattle.gcx_model.specs.Members.{In}
use Rattle.cond_eval.specs.declared.sets.Member.{Member}
use Rattle.cond_eval.proofs.Nexts.{Leads, leads_start, leads_on, leads_end, next_of_same}
use Rattle.cond_eval.proofs.sets.reached.Goals as goal
use Rattle.cond_eval.proofs.sets.reached.Goals.{in-Child+in_ok-set-in-Child, in-Descendant+in_ok-set-in-Descendant}

pub loop-step-init : goal.loop-step-init
loop-step-init g c =
    subst (λ (ms : List Member). Leads c.args.buffer.now.rows c.args.place.0 c.args.steps.now c.args.steps.now ms) (sym (c.in_ok-push.ensures.items ∙ ap (λ z. z ++ c.new.result ∷ []) c.new-set.ensures.items))
    (leads_start _ _ c.args.steps.now c.new.result c.new.ensures.member c.new.ensures.place)

pub children-requires-clause-set : goal.children-requires-clause-set
children-requires-clause-set g c = λ m i. c.loop-step.invariant.members m (subst (λ (ms : List Member). In m ms) c.deref.ensures.value i)

pub descendants-requires-clause-set : goal.descendants-requires-clause-set
descendants-requires-clause-set g c = λ m i. c.loop-step.invariant.members m (subst (λ (ms : List Member). In m ms) c.deref-in-Descendant.ensures.value i)

pub loop-step-preserved : goal.loop-step-preserved
loop-step-preserved g c =
    let here = drop_more c.args.steps.now c.loop-step.step-index c.step-item.result c.loop-step-test.true ∙ ap (λ x. x ∷ drop (c.loop-step.step-index + 1) c.args.steps.now) (sym c.step-item.is) in
    let old = subst (λ (ss : List Step). Leads c.args.buffer.now.rows c.args.place.0 c.args.steps.now ss c.loop-step.set.items) here c.loop-step.invariant in
    elim c.match-step.branch [
      | in-Child+in_ok-set-in-Child w ↦
          subst (λ (ms : List Member). Leads c.args.buffer.now.rows c.args.place.0 c.args.steps.now (drop (c.loop-step.step-index + 1) c.args.steps.now) ms) (sym (ap (λ v. v.items) w.set-is))
          (leads_on _ _ c.args.steps.now _ _ _ _ old (next_of_same _ _ _ c.step-item.result _ w.deref.ensures.value w.in_ok-set-in-Child.ensures))
      | in-Descendant+in_ok-set-in-Descendant w ↦
          subst (λ (ms : List Member). Leads c.args.buffer.now.rows c.args.place.0 c.args.steps.now (drop (c.loop-step.step-index + 1) c.args.steps.now) ms) (sym (ap (λ v. v.items) w.set-is))
          (leads_on _ _ c.args.steps.now _ _ _ _ old (next_of_same _ _ _ c.step-item.result _ w.deref-in-Descendant.ensures.value w.in_ok-set-in-Descendant.ensures))
    ]

pub returns : goal.returns
returns g c = leads_end _ _ _ _ (subst (λ (ss : List Step). Leads c.args.buffer.now.rows c.args.place.0 c.args.steps.now ss c.loop-step.set.items) (drop_all c.loop-step.step-index c.args.steps.now c.loop-step-test.false) c.loop-step.invariant)
