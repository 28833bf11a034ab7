use Rattle.std.proofs.Common.{◌≡◌, length, arith, refl, sym, ◌∙◌, ap}
use Rattle.std.proofs.lemmas.List.{append-nil}
use Rattle.pull_eval.specs.Position.{items}
use Rattle.pull_eval.proofs.Turning.{gone_below, run_over, stands_still}
use Rattle.pull_eval.proofs.position.Position.go_below.Goals as goal

pub returns-in-Some-clause-moved : goal.returns-in-Some-clause-moved
returns-in-Some-clause-moved c = λ v past k out b last.
    let x = gone_below c.args.self.now _ v past k b (record { env = refl; copying = refl; turns = refl; begun = c.requires.begun }) c.requires.begun (ap items c.requires.over) c.requires.no_copy c.in-Some.ensures.items last in
    (refl, refl, x.0, x.1)

pub returns-in-None-clause-moved : goal.returns-in-None-clause-moved
returns-in-None-clause-moved c = λ v past k out b last.
    let single : length c.args.self.now.below.items ≡ 0 = omega (arith, c.in-None.ensures.cases.0, c.args.self.now.below.ok.0) in
    let rest = c.in-None.ensures.items ∙ append-nil c.pop.new.self.items in (
      run_over c.args.self.now v past k b (ap items c.requires.over) c.requires.no_copy single last,
      refl,
      refl,
      stands_still c.args.self.now _ v past k b (record { env = refl; copying = refl; turns = refl; begun = c.requires.begun }) c.requires.begun refl (sym rest),
    )
