use Rattle.std.proofs.Common.{refl, sym, subst}
use Rattle.gcx_model.specs.Core.{If}
use Rattle.pull_eval.specs.Position.{items}
use Rattle.pull_eval.specs.Acting.{IsNextItem, ChosenBranch}
use Rattle.pull_eval.proofs.Turning.{branch_begun}
use Rattle.pull_eval.proofs.position.Position.begin_branch.Goals as goal

pub returns-clause-moved : goal.returns-clause-moved
returns-clause-moved c = λ cond this other v past k out n b chosen.
    let next : IsNextItem c.args.self.now (If cond this other) (items c.go_on.new.self.rest.now) = subst (λ (z : _). IsNextItem c.args.self.now (If cond this other) (items z)) (sym c.go_on.ensures.rest) n in
    let taken : ChosenBranch past.tree b.position.fs cond this other (items c.new-self.result.rest.now) = subst (λ (z : _). ChosenBranch past.tree b.position.fs cond this other (items z)) (sym c.new-self.ensures.rest) chosen in
    let x = branch_begun c.args.self.now _ v past k b (record { env = refl; copying = refl; turns = refl; begun = c.requires.begun }) c.requires.begun cond this other c.go_on.new.self next c.go_on.ensures.round c.go_on.ensures.seen c.in_ok-push.ensures.items c.new-self.ensures.round c.new-self.ensures.seen taken in
    (refl, refl, x.0, x.1)
