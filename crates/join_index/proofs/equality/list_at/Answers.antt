use Rattle.std.proofs.Common.{List, sym, subst}
use Rattle.std.proofs.lemmas.Result.{IfOk-weaker}
use Rattle.cond_eval.specs.Comparing.{AreInUse}
use Rattle.cond_eval.specs.declared.sets.Member.{Member}
use Rattle.join_index.specs.Lookups.{AreValues}
use Rattle.join_index.proofs.Reading.{lists_at}
use Rattle.join_index.proofs.equality.list_at.Goals as goal

pub values_of-requires : goal.values_of-requires
values_of-requires g c = subst (λ (z : List Member). AreInUse c.args.buffer.now.rows z) (sym c.deref.ensures.value) c.in_ok-set.ensures.used

pub returns : goal.returns
returns g c =
    IfOk-weaker c.make.result _ _
    (λ vs same. lists_at c.args.buffer.now.rows c.args.place.0 c.args.steps.now c.in_ok-set.set.items c.in_ok-set.ensures.closed c.in_ok-texts.texts.items vs
    (subst (λ (z : List Member). AreValues c.args.buffer.now.rows z c.in_ok-texts.texts.items) c.deref.ensures.value c.in_ok-texts.ensures) same)
    c.make.ensures
