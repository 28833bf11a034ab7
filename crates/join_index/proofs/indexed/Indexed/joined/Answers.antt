use Rattle.std.proofs.Common.{sym, ap, subst}
use Rattle.gcx_model.specs.CondView.{core_cond_tree}
use Rattle.cond_memo.specs.Marks.{AreMarks}
use Rattle.join_index.specs.Index.{IndexView}
use Rattle.join_index.proofs.Others.{tells_still}
use Rattle.join_index.proofs.indexed.Indexed.joined.Goals as goal

pub returns-clause-tells : goal.returns-clause-tells
returns-clause-tells g c =
    tells_still c.args.buffer.now c.args.env.now c.args.self.now (core_cond_tree c.args.cond.now) c.asked.new.self (record { marked = c.forget_last.new.self; equalities = c.self.inside.equalities.items; built = c.self.inside.built }) c.in_ok-truth.truth
    (λ P h. c.forget_last.ensures.stays P (subst (λ (z : IndexView). AreMarks z.marked P) (sym c.self.view_is) h)) (ap (λ (z : IndexView). z.equalities) c.self.view_is) (ap (λ (z : IndexView). z.built) c.self.view_is) c.in_ok-truth.ensures
