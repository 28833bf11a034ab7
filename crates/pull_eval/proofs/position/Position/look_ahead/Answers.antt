use Rattle.std.proofs.Common.{refl, Some, arith}
use Rattle.pull_eval.specs.declared.position.Position.{Position}
use Rattle.pull_eval.proofs.NextMatches.{row_below}
use Rattle.pull_eval.proofs.RoundLooks.{looks_from, looked}
use Rattle.pull_eval.proofs.position.Position.look_ahead.Goals as goal

pub match_behind-next-requires-clause-goes : goal.match_behind-next-requires-clause-goes
match_behind-next-requires-clause-goes g c =
    let b = c.requires.beside in
    looks_from c.args.self.now c.args.buffer.now b.0 b.1 b.2 c.requires.begun c.requires.no_copy c.in-Some.round c.in-Some.is c.in-Unsought.is

pub match_behind-next-requires-clause-some : goal.match_behind-next-requires-clause-some
match_behind-next-requires-clause-some g c =
    let b = c.requires.beside in
    let f = looks_from c.args.self.now c.args.buffer.now b.0 b.1 b.2 c.requires.begun c.requires.no_copy c.in-Some.round c.in-Some.is c.in-Unsought.is in
    let l = row_below c.args.buffer.now b.0 b.2.buffer f.top.cell f.top.among in
    omega arith

pub returns-in-Unsought-clause-stays : goal.returns-in-Unsought-clause-stays
returns-in-Unsought-clause-stays g c = λ past k b.
    (let n : Position = record c.args.self.now { top = record c.args.self.now.top { round = Some (record c.in-Some.round { next = c.match_behind-next.result }) } } in
    looked c.args.self.now c.args.buffer.now past k b c.requires.begun c.requires.no_copy c.in-Some.round c.in-Some.is c.in-Unsought.is n c.match_behind-next.result c.match_behind-next.ensures.learnt c.match_behind-next.ensures.sought refl refl refl refl refl refl)
