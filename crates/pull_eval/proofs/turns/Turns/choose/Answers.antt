use Rattle.std.proofs.Common.{List, refl, sym, subst}
use Rattle.cond_eval.specs.Comparing.{AreInUse}
use Rattle.cond_eval.specs.declared.sets.Member.{Member}
use Rattle.pull_eval.specs.declared.turns.Entry.{Entry}
use Rattle.pull_eval.specs.Turns.{AreByText}
use Rattle.pull_eval.specs.Listing.{HitsAll}
use Rattle.pull_eval.proofs.TurnsChosen.{chosen_other, chosen_same}
use Rattle.pull_eval.proofs.turns.Turns.choose.Goals as goal

pub hits_of-requires : goal.hits_of-requires
hits_of-requires g c = subst (λ (z : List Member). AreInUse c.args.buffer.now.rows z) (sym c.deref.ensures.value) c.in_ok-set.ensures.used

pub returns-then-is_that-clause-chosen : goal.returns-then-is_that-clause-chosen
returns-then-is_that-clause-chosen g c = chosen_same c.args.buffer.now.rows c.args.self.now c.args.node.0 c.args.outer (c.is_that.ensures.0 c.if-is_that.true)

pub returns-clause-chosen : goal.returns-clause-chosen
returns-clause-chosen g c =
    chosen_other c.args.buffer.now.rows c.args.self.now _ c.args.node.0 c.args.outer (record { step = refl; own = refl; other = refl; of = refl; first = refl; entries = refl })
    c.in_ok-set.set.items c.in_ok-hits.hits.items c.in_ok-set.ensures.closed
    (subst (λ (es : List Entry). AreByText es → HitsAll c.args.buffer.now.rows c.in_ok-set.set.items es c.in_ok-hits.hits.items) c.deref-2.ensures.value
    (subst (λ (z : List Member). AreByText c.deref-2.result.now → HitsAll c.args.buffer.now.rows z c.deref-2.result.now c.in_ok-hits.hits.items) c.deref.ensures.value c.in_ok-hits.ensures))
    c.in_ok-self.ensures.same c.in_ok-self.ensures.sorted refl
