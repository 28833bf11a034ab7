use Rattle.std.proofs.Common.{Option, sym, ap, subst}
use Rattle.std.proofs.lemmas.Result.{IfOk-weaker}
use Rattle.gcx_model.specs.Core.{CondTree}
use Rattle.gcx_model.specs.CondView.{core_cond_tree}
use Rattle.gcx_model.specs.declared.truth.Truth.{Truth}
use Rattle.cond_memo.specs.Marks.{AreMarks}
use Rattle.join_index.specs.Index.{IndexView, TellsTruthOf}
use Rattle.join_index.specs.Lookups.{LooksUp}
use Rattle.join_index.proofs.Others.{is_leaf, may_still, tells_still, told_otherwise}
use Rattle.join_index.proofs.indexed.Indexed.compared.Goals as goal

pub by_marks-requires : goal.by_marks-requires
by_marks-requires g c =
    let none = subst (λ (o : Option Truth). LooksUp c.args.buffer.now c.args.env.now c.args.left.now c.args.rel c.args.right.now c.args.self.now c.looked_up.new.self o) c.in-None.is c.in_ok-truth.ensures in
    record {
      may = may_still c.args.buffer.now c.args.env.now c.args.left.now c.args.rel c.args.right.now (core_cond_tree c.args.cond.now) c.requires.cond c.args.self.now c.looked_up.new.self none c.requires.may;
      leaf = is_leaf c.args.buffer.now c.args.env.now c.args.left.now c.args.rel c.args.right.now (core_cond_tree c.args.cond.now) c.requires.cond;
    }

pub returns-in-None-clause-tells : goal.returns-in-None-clause-tells
returns-in-None-clause-tells g c =
    let none = subst (λ (o : Option Truth). LooksUp c.args.buffer.now c.args.env.now c.args.left.now c.args.rel c.args.right.now c.args.self.now c.looked_up.new.self o) c.in-None.is c.in_ok-truth.ensures in
    IfOk-weaker c.by_marks.result _ _
    (λ t told. told_otherwise c.args.buffer.now c.args.env.now c.args.left.now c.args.rel c.args.right.now (core_cond_tree c.args.cond.now) c.requires.cond c.args.self.now c.looked_up.new.self none c.by_marks.new.self t told)
    c.by_marks.ensures.tells

pub returns-in-Some-clause-tells : goal.returns-in-Some-clause-tells
returns-in-Some-clause-tells g c =
    let v = c.args.buffer.now in
    let bound = c.args.env.now in
    let told : TellsTruthOf v bound (core_cond_tree c.args.cond.now) c.args.self.now c.looked_up.new.self c.in-Some.truth =
    subst (λ (z : CondTree). TellsTruthOf v bound z c.args.self.now c.looked_up.new.self c.in-Some.truth) (sym c.requires.cond)
    (subst (λ (o : Option Truth). LooksUp v bound c.args.left.now c.args.rel c.args.right.now c.args.self.now c.looked_up.new.self o) c.in-Some.is c.in_ok-truth.ensures) in
    tells_still v bound c.args.self.now (core_cond_tree c.args.cond.now) c.looked_up.new.self (record { marked = c.forget_last.new.self; equalities = c.self.inside.equalities.items; built = c.self.inside.built }) c.in-Some.truth
    (λ P h. c.forget_last.ensures.stays P (subst (λ (z : IndexView). AreMarks z.marked P) (sym c.self.view_is) h)) (ap (λ (z : IndexView). z.equalities) c.self.view_is) (ap (λ (z : IndexView). z.built) c.self.view_is) told
