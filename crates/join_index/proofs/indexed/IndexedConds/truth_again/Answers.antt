use Rattle.std.proofs.Common.{Option, Some, ap, subst}
use Rattle.gcx_model.specs.CondView.{core_cond_tree}
use Rattle.gcx_model.specs.declared.truth.Truth.{Truth}
use Rattle.cond_eval.specs.Asking.{AnswersOver}
use Rattle.cond_memo.specs.Again.{TellsAgain}
use Rattle.cond_memo.specs.Marks.{AreMarks}
use Rattle.cond_memo.specs.declared.marked.Marked.{Marked}
use Rattle.join_index.specs.Index.{IndexView}
use Rattle.join_index.proofs.Others.{again_answers, again_may, goes_still, no_list_kept}
use Rattle.join_index.proofs.indexed.IndexedConds.truth_again.Goals as goal

pub again-requires-clause-may : goal.again-requires-clause-may
again-requires-clause-may g c =
    again_may c.args.buffer.now c.args.env.now c.args.self.now (core_cond_tree c.args.cond.now) c.requires.may c.self.inside.marked (ap (λ (z : IndexView). z.marked) c.self.view_is)

pub returns-in-Some-clause-answers : goal.returns-in-Some-clause-answers
returns-in-Some-clause-answers g c =
    let v = c.args.buffer.now in
    let bound = c.args.env.now in
    let k = core_cond_tree c.args.cond.now in
    let told : TellsAgain v c.self.inside.marked c.again.new.self bound k (Some c.in-Some.truth) = subst (λ (o : Option Truth). TellsAgain v c.self.inside.marked c.again.new.self bound k o) c.in-Some.is c.in_ok-truth.ensures in
    again_answers v bound c.args.self.now k (record { marked = c.again.new.self; equalities = c.self.inside.equalities.items; built = c.self.inside.built }) c.in-Some.truth
    (subst (λ (z : Marked). AnswersOver v (AreMarks z) (AreMarks c.again.new.self) bound k c.in-Some.truth) (ap (λ (z : IndexView). z.marked) c.self.view_is) told.0) (ap (λ (z : IndexView). z.equalities) c.self.view_is)

pub returns-in-Some-clause-goes : goal.returns-in-Some-clause-goes
returns-in-Some-clause-goes g c =
    goes_still c.args.buffer.now c.args.env.now c.args.self.now (core_cond_tree c.args.cond.now) (record { marked = c.again.new.self; equalities = c.self.inside.equalities.items; built = c.self.inside.built }) (ap (λ (z : IndexView). z.equalities) c.self.view_is) (ap (λ (z : IndexView). z.built) c.self.view_is)

pub returns-in-Some-clause-kept : goal.returns-in-Some-clause-kept
returns-in-Some-clause-kept g c = no_list_kept c.args.buffer.now c.args.env.now c.args.self.now (core_cond_tree c.args.cond.now) (c.gets_no_list.ensures c.if-not-gets_no_list.false) _
