use Rattle.std.proofs.Common.{◌<◌, List, length, refl, sym, ◌∙◌, ap, arith}
use Rattle.matcher.specs.Bare.{with_bare}
use Rattle.matcher.specs.Parts.{NodeMarks}
use Rattle.matcher.proofs.Bare.{bare_made}
use Rattle.matcher.proofs.open_frames.make_bare.Goals as goal

pub loop-node-init : goal.loop-node-init
loop-node-init c = record { many = sym c.len-node.ensures; same = refl }

pub loop-node-preserved : goal.loop-node-preserved
loop-node-preserved c =
    let i = c.loop-node.invariant in
    let many = i.many in
    let test = c.loop-node-test.true in
    let few : length c.loop-node.made < c.args.count = omega arith in
    let more = bare_made c.loop-node.made c.add_bare.new.self c.args.count few c.in_ok-add_bare.ensures.added in
    let one = more.0 in
    record { many = omega arith; same = more.1 ∙ i.same }

pub returns-in_err-add_bare-clause-same : goal.returns-in_err-add_bare-clause-same
returns-in_err-add_bare-clause-same c = ap (λ (z : List NodeMarks). with_bare z c.args.count) c.in_err-add_bare.ensures.err ∙ c.loop-node.invariant.same

pub returns-in_err-add_bare-clause-few : goal.returns-in_err-add_bare-clause-few
returns-in_err-add_bare-clause-few c =
    let same = ap (λ (z : List NodeMarks). length z) c.in_err-add_bare.ensures.err in
    let many = c.loop-node.invariant.many in
    let test = c.loop-node-test.true in
    omega arith

pub returns-clause-same : goal.returns-clause-same
returns-clause-same c = c.loop-node.invariant.same

pub returns-clause-few : goal.returns-clause-few
returns-clause-few c =
    let many = c.loop-node.invariant.many in
    let start = c.len-node.ensures in
    let end = c.loop-node.auto._node-end (omega (arith, c.requires)) in
    omega arith

pub returns-clause-all : goal.returns-clause-all
returns-clause-all c =
    let many = c.loop-node.invariant.many in
    let start = c.len-node.ensures in
    let end = c.loop-node.auto._node-end (omega (arith, c.requires)) in
    let test = c.loop-node-test.false in
    omega arith
