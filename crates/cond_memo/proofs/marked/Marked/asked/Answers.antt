use Rattle.std.proofs.Common.{◌<◌, length, arith}
use Rattle.cond_memo.proofs.MarkAgain.{same_about, set_about}
use Rattle.cond_memo.proofs.MarkList.{about_at, may_tell_at, told_at}
use Rattle.cond_memo.proofs.marked.Marked.asked.Goals as goal

pub ask-requires : goal.ask-requires
ask-requires g c =
    let marks = c.mark_of.new.self.marks in
    let low : c.in_ok-index.index < length marks.items = omega (arith, c.in_ok-index.ensures.index, marks.ok.0) in
    may_tell_at c.args.buffer.now.rows c.args.buffer.now.nodes c.args.env.now c.args.var c.in-Some.node.0 c.in-Some.of.0 c.in-Some.ensures c.args.steps.now _ c.in_ok-index.index c.index_mut.result.now
    c.args.self.now c.mark_of.new.self c.requires low c.in_ok-index.ensures.mark c.index_mut.ensures.value c.in_ok-index.ensures.stays

pub returns-clause-answers : goal.returns-clause-answers
returns-clause-answers g c P keep n k a =
    let marks = c.mark_of.new.self.marks in
    let low : c.in_ok-index.index < length marks.items = omega (arith, c.in_ok-index.ensures.index, marks.ok.0) in
    let stays = c.in_ok-index.ensures.stays P k in
    let h =
    told_at c.args.buffer.now.rows c.args.buffer.now.nodes c.args.env.now c.args.var c.in-Some.node.0 c.in-Some.of.0 c.in-Some.ensures c.args.steps.now _ c.in_ok-index.index c.index_mut.result.now
    marks.items low c.in_ok-index.ensures.mark c.index_mut.ensures.value c.ask.new.self c.in_ok-known.ensures.same c.in_ok-known.known c.in_ok-known.ensures.told c.truth_of_known.result c.truth_of_known.ensures P keep n stays.0 a in
    (h.0, (h.1, stays.1))

pub returns-clause-last : goal.returns-clause-last
returns-clause-last g c =
    let marks = c.mark_of.new.self.marks in
    let low : c.in_ok-index.index < length marks.items = omega (arith, c.in_ok-index.ensures.index, marks.ok.0) in
    let m = c.index_mut.result.now in
    let about = about_at marks.items c.in_ok-index.index m c.args.var c.args.steps.now _ low c.in_ok-index.ensures.mark c.index_mut.ensures.value in
    set_about marks.items c.in_ok-index.index c.ask.new.self c.args.var c.args.steps.now _ low (same_about c.ask.new.self m c.args.var c.args.steps.now _ c.in_ok-known.ensures.same about)
