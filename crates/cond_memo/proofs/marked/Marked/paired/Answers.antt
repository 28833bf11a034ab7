use Rattle.std.proofs.Common.{◌<◌, length, arith}
use Rattle.cond_memo.proofs.PairAsks.{about_here, answers, may_ask, pair_in}
use Rattle.cond_memo.proofs.marked.Marked.paired.Goals as goal

pub ask-requires : goal.ask-requires
ask-requires g c =
    let ps = c.pair_of.new.self.pairs in
    let q = c.index_mut.result.now in
    let i = c.in_ok-index.index in
    let low : i < length ps.items = omega (arith, c.in_ok-index.ensures.index, ps.ok.0) in
    may_ask c.args.buffer.now c.args.env.now c.args.left.0.0 c.args.right.1.0 c.args.left.1.now c.args.right.2.now c.in-Some.one.0.0 c.in-Some.one.1.0 c.in-Some-get.two.0.0 c.in-Some-get.two.1.0 c.in-Some.ensures c.in-Some-get.ensures
    q c.args.left.0 c.args.right.1 c.args.right.0 (about_here ps.items i c.args.left.0 c.args.right.1 c.args.left.1.now c.args.right.2.now c.args.right.0 q low c.in_ok-index.ensures.pair c.index_mut.ensures.value)
    c.args.self.now c.pair_of.new.self c.requires c.in_ok-index.ensures.stays (pair_in ps.items i q low c.index_mut.ensures.value)

pub returns-clause-answers : goal.returns-clause-answers
returns-clause-answers g c P keep n m a k =
    let ps = c.pair_of.new.self.pairs in
    let q = c.index_mut.result.now in
    let i = c.in_ok-index.index in
    let low : i < length ps.items = omega (arith, c.in_ok-index.ensures.index, ps.ok.0) in
    answers c.args.buffer.now c.args.env.now c.args.left.0.0 c.args.right.1.0 c.args.left.1.now c.args.right.2.now c.in-Some.one.0.0 c.in-Some.one.1.0 c.in-Some-get.two.0.0 c.in-Some-get.two.1.0 c.in-Some.ensures c.in-Some-get.ensures
    q c.args.left.0 c.args.right.1 c.args.right.0 (about_here ps.items i c.args.left.0 c.args.right.1 c.args.left.1.now c.args.right.2.now c.args.right.0 q low c.in_ok-index.ensures.pair c.index_mut.ensures.value)
    c.args.self.now c.pair_of.new.self c.in_ok-index.ensures.stays i (low, c.index_mut.ensures.value) c.ask.new.self c.in_ok-truth.ensures.paths c.in_ok-truth.truth c.in_ok-truth.ensures.told P keep n m a k
