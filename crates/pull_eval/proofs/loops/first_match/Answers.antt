use Rattle.std.proofs.Common.{inl, refl}
use Rattle.buf_tree.specs.Shape.{num}
use Rattle.cond_eval.proofs.Finding.{finds}
use Rattle.pull_eval.proofs.Finding.{finds_seen, finds_behind}
use Rattle.pull_eval.proofs.loops.first_match.Goals as goal

pub match_behind-requires : goal.match_behind-requires
match_behind-requires g c = record { top = c.requires.used; from = c.requires.used; way = inl refl }

pub returns-then-seen-eq0 : goal.returns-then-seen-eq0
returns-then-seen-eq0 g c = λ q i e. finds_seen c.args.buffer.now.rows q c.args.step.now c.args.seen c.match_behind.result c.if-seen-eq0.true
    (finds c.args.buffer.now.rows q c.args.step.now (num q) c.match_behind.result (c.match_behind.ensures.found q q i i e e) c.match_behind.ensures.serial)

pub returns-else-seen-eq0 : goal.returns-else-seen-eq0
returns-else-seen-eq0 g c = λ q i e. finds_behind c.args.buffer.now.rows q c.args.step.now c.args.seen c.new_match.result c.if-seen-eq0.false (c.new_match.ensures q i e)
