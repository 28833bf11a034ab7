use Rattle.std.proofs.Common.{◌≡◌, length, arith, refl, subst}
use Rattle.pull_eval.specs.Acting.{NoNext}
use Rattle.pull_eval.proofs.CopyBytes.{counted_by, no_fewer}
use Rattle.pull_eval.proofs.Inside.{the_copy}
use Rattle.pull_eval.proofs.CopyGoes.{copy_ended}
use Rattle.pull_eval.proofs.position.Position.end_copy.Goals as goal

pub wrote-requires : goal.wrote-requires
wrote-requires g c =
    let u = c.requires.used in
    let before : c.len-before.result ≡ length c.args.out.now.items = omega (arith, c.len-before.ensures, c.args.out.now.ok.0) in
    no_fewer c.len-before.result c.args.out.now.items c.put_ending.new.out.items _ before (c.in_ok-put_ending.ensures.ok u.cell u.among u.place)

pub returns-clause-moved : goal.returns-clause-moved
returns-clause-moved g c = λ past k b.
    let before : c.len-before.result ≡ length c.args.out.now.items = omega (arith, c.len-before.ensures, c.args.out.now.ok.0) in
    let copy = the_copy c.args.self.now c.args.buffer.now past k b c.args.copying c.requires.copying in
    copy_ended c.args.self.now _ c.args.buffer.now past k b c.args.copying c.requires.copying c.requires.begun (record { top = refl; below = refl; env = refl; turns = refl; begun = c.requires.begun })
    (subst (λ (z : _). NoNext past.tree z) copy.innermost (c.requires.over past k b))
    c.args.out.now.items c.put_ending.new.out.items c.wrote.result
    (counted_by c.len-before.result c.args.out.now.items c.put_ending.new.out.items c.wrote.result before c.wrote.ensures.none c.wrote.ensures.some)
    c.in_ok-put_ending.ensures.ok c.above-self.ensures.top c.above-self.ensures.below
