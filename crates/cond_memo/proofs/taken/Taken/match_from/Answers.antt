use Rattle.cond_memo.proofs.PathRows.{found_from, found_used, match_here, none_left, rows_fall, skips_here, skips_start}
use Rattle.cond_memo.proofs.taken.Taken.match_from.Goals as goal

pub rows-init : goal.rows-init
rows-init g c = skips_start c.args.buffer.now c.args.node.0 c.args.self.now.steps c.args.self.now.last c.args.from

pub is_match-requires-clause-used : goal.is_match-requires-clause-used
is_match-requires-clause-used g c =
    let s = (rw c.in-Some.is at c.rows.invariant) c.requires.from.after c.requires.from.finds in
    found_used c.args.buffer.now c.args.node.0 c.requires.used c.args.self.now.last c.in-Some.here s.upto s.finds

pub returns-then-branch : goal.returns-then-branch
returns-then-branch g c after f =
    match_here c.args.buffer.now c.args.node.0 c.requires.used c.args.self.now.steps c.args.self.now.last c.requires.some c.requires.fits after c.in-Some.here ((rw c.in-Some.is at c.rows.invariant) after f)
    (rw c.if-branch.true at c.in_ok-is_match.ensures)

pub match_behind-at-requires : goal.match_behind-at-requires
match_behind-at-requires g c =
    let s = (rw c.in-Some.is at c.rows.invariant) c.requires.from.after c.requires.from.finds in
    found_from c.args.buffer.now c.args.node.0 c.requires.used c.args.self.now.last c.in-Some.here s.upto s.finds

pub rows-smaller : goal.rows-smaller
rows-smaller g c =
    let s = (rw c.in-Some.is at c.rows.invariant) c.requires.from.after c.requires.from.finds in
    rw c.in-Some.is (rows_fall c.args.buffer.now c.args.node.0 c.requires.used c.args.self.now.last c.in-Some.here s.upto s.finds c.match_behind-at.result c.match_behind-at.ensures.found c.match_behind-at.ensures.serial)

pub rows-preserved : goal.rows-preserved
rows-preserved g c after f =
    skips_here c.args.buffer.now c.args.node.0 c.requires.used c.args.self.now.steps c.args.self.now.last c.requires.some c.requires.fits after c.in-Some.here ((rw c.in-Some.is at c.rows.invariant) after f)
    (rw c.if-branch.false at c.in_ok-is_match.ensures) c.match_behind-at.result c.match_behind-at.ensures.found c.match_behind-at.ensures.serial

pub returns : goal.returns
returns g c after f =
    none_left c.args.buffer.now c.args.node.0 c.requires.used c.args.self.now.steps c.args.self.now.last c.requires.some c.requires.fits after ((rw c.in_default.is at c.rows.invariant) after f)
