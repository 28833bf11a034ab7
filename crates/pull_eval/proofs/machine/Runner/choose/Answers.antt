use Rattle.std.proofs.Common.{refl, sym, ◌∙◌, subst}
use Rattle.std.proofs.lemmas.Result.{IfOk-weaker}
use Rattle.gcx_model.specs.CondView.{core_cond_tree}
use Rattle.gcx_model.specs.Core.{CondTree, If}
use Rattle.pull_eval.specs.Position.{items}
use Rattle.pull_eval.proofs.Frames.{at_item}
use Rattle.pull_eval.proofs.Choosing.{asked, waits, this_chosen, other_chosen, same_condition}
use Rattle.pull_eval.proofs.machine.Runner.choose.Goals as goal

pub truth_of-requires : goal.truth_of-requires
truth_of-requires g c =
    let m = c.requires.may in
    let cond = core_cond_tree c.args.cond.now in
    let this = items c.args.branches.0.now in
    let other = items c.args.branches.1.now in
    let rest = items c.args.rest.now in
    record {
      may = record {
        tree = m.past.tree;
        env = (at_item c.args.self.now.position c.args.buffer.now m.past m.taken m.beside (If cond this other) rest c.requires.next).env;
        stand = (m.stand, sym m.beside.buffer.nodes);
        asked = asked c.args.self.now.position c.args.buffer.now m.past m.taken m.beside cond this other rest c.requires.next c.requires.begun;
      };
      again = λ e. (c.requires.again e).last cond this other rest c.requires.next.next;
    }

pub returns-in-Unknown-clause-moved : goal.returns-in-Unknown-clause-moved
returns-in-Unknown-clause-moved g c = λ past k out b s.
    let cond = core_cond_tree c.args.cond.now in
    let this = items c.args.branches.0.now in
    let other = items c.args.branches.1.now in
    let rest = items c.args.rest.now in
    let a = at_item c.args.self.now.position c.args.buffer.now past k b (If cond this other) rest c.requires.next in
    let t = c.in_ok-truth_of.ensures.answers past.tree a.env (s, sym b.buffer.nodes) (asked c.args.self.now.position c.args.buffer.now past k b cond this other rest c.requires.next c.requires.begun) in
    ((waits c.args.self.now.position c.args.buffer.now past k b cond this other rest c.requires.next (sym c.in-Unknown.is ∙ t.0), refl, refl, b), t.1.0)

pub returns-in-Unknown-clause-asked : goal.returns-in-Unknown-clause-asked
returns-in-Unknown-clause-asked g c = λ e. record {
  begun = c.requires.begun;
  last = λ k this other rest is. subst (λ (z : CondTree). g.C.Conds.asked_last c.truth_of.new.conds z) (same_condition _ _ _ _ _ _ _ _ (sym c.requires.next.next ∙ is)) c.in_ok-truth_of.ensures.last;
}

pub returns-in-True-clause-moved : goal.returns-in-True-clause-moved
returns-in-True-clause-moved g c =
    let cond = core_cond_tree c.args.cond.now in
    let this = items c.args.branches.0.now in
    let other = items c.args.branches.1.now in
    let rest = items c.args.rest.now in
    IfOk-weaker c.begin_branch.result _ _ (λ x moved past k out b s.
    let a = at_item c.args.self.now.position c.args.buffer.now past k b (If cond this other) rest c.requires.next in
    let t = c.in_ok-truth_of.ensures.answers past.tree a.env (s, sym b.buffer.nodes) (asked c.args.self.now.position c.args.buffer.now past k b cond this other rest c.requires.next c.requires.begun) in
    (moved cond this other c.args.buffer.now past k out c.requires.next b (this_chosen c.args.self.now.position c.args.buffer.now past k b cond this other rest c.requires.next (sym c.in-True.is ∙ t.0)), t.1.0))
    c.begin_branch.ensures.moved

pub returns-in-False-clause-moved : goal.returns-in-False-clause-moved
returns-in-False-clause-moved g c =
    let cond = core_cond_tree c.args.cond.now in
    let this = items c.args.branches.0.now in
    let other = items c.args.branches.1.now in
    let rest = items c.args.rest.now in
    IfOk-weaker c.begin_branch-in-False.result _ _ (λ x moved past k out b s.
    let a = at_item c.args.self.now.position c.args.buffer.now past k b (If cond this other) rest c.requires.next in
    let t = c.in_ok-truth_of.ensures.answers past.tree a.env (s, sym b.buffer.nodes) (asked c.args.self.now.position c.args.buffer.now past k b cond this other rest c.requires.next c.requires.begun) in
    (moved cond this other c.args.buffer.now past k out c.requires.next b (other_chosen c.args.self.now.position c.args.buffer.now past k b cond this other rest c.requires.next (sym c.in-False.is ∙ t.0)), t.1.0))
    c.begin_branch-in-False.ensures.moved
