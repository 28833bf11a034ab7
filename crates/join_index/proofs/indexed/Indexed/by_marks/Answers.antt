use Rattle.std.proofs.Common.{sym, ap, subst}
use Rattle.std.proofs.lemmas.Result.{IfOk-weaker}
use Rattle.gcx_model.specs.CondView.{core_cond_tree}
use Rattle.cond_eval.specs.Asking.{AnswersOver, MayAskOver}
use Rattle.cond_memo.specs.Marks.{AreMarks}
use Rattle.join_index.specs.Index.{IndexView}
use Rattle.join_index.proofs.Others.{may_marks}
use Rattle.join_index.proofs.indexed.Indexed.by_marks.Goals as goal

pub leaf-requires-clause-asked : goal.leaf-requires-clause-asked
leaf-requires-clause-asked g c =
    subst (λ (k : IndexView). MayAskOver c.args.buffer.now (AreMarks k.marked) c.args.env.now (core_cond_tree c.args.cond.now)) (sym c.self.view_is)
    (may_marks c.args.buffer.now c.args.env.now c.args.self.now (core_cond_tree c.args.cond.now) c.requires.may)

pub returns-clause-tells : goal.returns-clause-tells
returns-clause-tells g c =
    IfOk-weaker c.leaf.result _ _
    (λ t told. record {
      answers = subst (λ (k : IndexView). AnswersOver c.args.buffer.now (AreMarks k.marked) (AreMarks c.leaf.new.self) c.args.env.now (core_cond_tree c.args.cond.now) t) c.self.view_is told;
      equalities = ap (λ (k : IndexView). k.equalities) c.self.view_is;
      built = ap (λ (k : IndexView). k.built) c.self.view_is;
    })
    c.leaf.ensures.answers
