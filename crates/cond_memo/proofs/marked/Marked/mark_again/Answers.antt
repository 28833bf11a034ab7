use Rattle.std.proofs.Common.{◌<◌, length, refl, sym, ◌∙◌, arith}
use Rattle.std.specs.Prelude.{slice_set}
use Rattle.cond_memo.proofs.MarkAgain.{set_serves}
use Rattle.cond_memo.proofs.MarkList.{may_tell_at, told_at}
use Rattle.cond_memo.proofs.marked.Marked.mark_again.Goals as goal

pub ask-requires : goal.ask-requires
ask-requires g c =
    let marks = c.args.self.now.marks in
    let low : c.args.index < length marks.items = omega (arith, c.if-index-len.false, c.len.ensures, marks.ok.0) in
    let m = c.index.result.now in
    let s = c.requires.last c.args.index m c.requires.index (low, c.index.ensures) in
    may_tell_at c.args.buffer.now.rows c.args.buffer.now.nodes c.args.env.now m.var c.in-Some.node.0 c.in-Some.of.0 c.in-Some.ensures m.steps m.ask c.args.index c.index_mut.result.now
    c.args.self.now c.args.self.now (s.may c.args.buffer.now c.args.env.now c.args.self.now c.requires.may) low (m, c.index.ensures, record { var = refl; steps = refl; ask = refl }) c.index_mut.ensures.value (λ P h. h)

pub returns : goal.returns
returns g c =
    let marks = c.args.self.now.marks in
    let low : c.args.index < length marks.items = omega (arith, c.if-index-len.false, c.len.ensures, marks.ok.0) in
    let m = c.index.result.now in
    let n = c.index_mut.result.now in
    let s = c.requires.last c.args.index m c.requires.index (low, c.index.ensures) in
    let t = c.requires.last c.args.index n c.requires.index (low, c.index_mut.ensures.value) in (
      s.answers c.args.buffer.now c.args.env.now c.args.self.now (slice_set marks.items c.args.index c.ask.new.self) c.args.self.now.pairs.items c.truth_of_known.result
          (λ P keep x k a. let h = told_at c.args.buffer.now.rows c.args.buffer.now.nodes c.args.env.now m.var c.in-Some.node.0 c.in-Some.of.0 c.in-Some.ensures m.steps m.ask c.args.index n
          marks.items low (m, c.index.ensures, record { var = refl; steps = refl; ask = refl }) c.index_mut.ensures.value c.ask.new.self c.in_ok-known.ensures.same c.in_ok-known.known c.in_ok-known.ensures.told c.truth_of_known.result c.truth_of_known.ensures P keep x k.0 a in (h.0, (h.1, k.1))),
      λ j u e a. set_serves marks.items c.args.index n c.ask.new.self _ low c.in_ok-known.ensures.same t j u (sym c.requires.index ∙ e) a,
    )
