use Rattle.std.proofs.Common.{refl, sym, ◌∙◌, ap, subst, arith}
use Rattle.gcx_base.specs.declared.steps.Step.{Step}
use Rattle.buf_tree.specs.Match.{GoesFrom}
use Rattle.cond_memo.specs.declared.mark.Mark.{Mark}
use Rattle.cond_memo.proofs.MarkLooks.{looking_starts, here_used, goes_from, looked_found, looking_goes, look_falls, looking_ends, looks_as, is_behind}
use Rattle.cond_memo.proofs.mark.Mark.look_on.Goals as goal

pub rows-init : goal.rows-init
rows-init g c = record {
  frame = refl;
  looking = looking_starts c.args.buffer.now.rows c.args.buffer.now.nodes c.args.self.now c.args.node.0 c.requires.used c.first_new-at.result c.first_new-at.ensures;
}

pub look_at-requires-clause-used : goal.look_at-requires-clause-used
look_at-requires-clause-used g c =
    here_used c.args.buffer.now.rows c.args.buffer.now.nodes c.args.self.now c.args.node.0 c.requires.used c.rows.self.waiting c.in-Some.here (rw c.in-Some.is at c.rows.invariant.looking)

pub returns-then-branch-clause-searched : goal.returns-then-branch-clause-searched
returns-then-branch-clause-searched g c P keep n a t now =
    let look = looks_as c.args.buffer.now.rows c.args.node.0 c.in-Some.here.0 c.args.self.now c.rows.self c.rows.invariant.frame c.look_at.new.self.waiting c.in_ok-look_at.field-0 c.in_ok-look_at.ensures.looked in
    looked_found c.args.buffer.now.rows c.args.buffer.now.nodes c.args.self.now c.args.node.0 c.requires.used c.rows.self.waiting c.in-Some.here (rw c.in-Some.is at c.rows.invariant.looking)
    c.look_at.new.self.waiting (rw c.if-branch.true at look) P keep n a

pub match_behind-at-requires : goal.match_behind-at-requires
match_behind-at-requires g c =
    let last = ap (λ (x : Mark). x.last) c.in_ok-look_at.ensures.frame ∙ ap (λ (x : Mark). x.last) c.rows.invariant.frame in
    subst (λ (s : Step). GoesFrom c.args.buffer.now.rows c.args.node.0 s.axis c.in-Some.here.0) (sym last)
    (goes_from c.args.buffer.now.rows c.args.buffer.now.nodes c.args.self.now c.args.node.0 c.requires.used c.rows.self.waiting c.in-Some.here (rw c.in-Some.is at c.rows.invariant.looking))

pub rows-smaller : goal.rows-smaller
rows-smaller g c =
    let last = ap (λ (x : Mark). x.last) c.in_ok-look_at.ensures.frame ∙ ap (λ (x : Mark). x.last) c.rows.invariant.frame in
    rw c.in-Some.is (look_falls c.args.buffer.now.rows c.args.buffer.now.nodes c.args.self.now c.args.node.0 c.requires.used c.rows.self.waiting c.in-Some.here (rw c.in-Some.is at c.rows.invariant.looking)
    c.match_behind-at.result (is_behind c.args.buffer.now.rows c.args.node.0 c.in-Some.here.0 c.look_at.new.self.last c.args.self.now.last c.match_behind-at.result last c.match_behind-at.ensures.found) c.match_behind-at.ensures.serial)

pub rows-preserved : goal.rows-preserved
rows-preserved g c =
    let last = ap (λ (x : Mark). x.last) c.in_ok-look_at.ensures.frame ∙ ap (λ (x : Mark). x.last) c.rows.invariant.frame in
    let look = looks_as c.args.buffer.now.rows c.args.node.0 c.in-Some.here.0 c.args.self.now c.rows.self c.rows.invariant.frame c.look_at.new.self.waiting c.in_ok-look_at.field-0 c.in_ok-look_at.ensures.looked in
    record {
      frame = c.in_ok-look_at.ensures.frame ∙ ap (λ (x : Mark). record x { waiting = c.look_at.new.self.waiting }) c.rows.invariant.frame;
      looking = looking_goes c.args.buffer.now.rows c.args.buffer.now.nodes c.args.self.now c.args.node.0 c.requires.used c.rows.self.waiting c.in-Some.here (rw c.in-Some.is at c.rows.invariant.looking)
          c.requires.steps c.requires.fits c.look_at.new.self.waiting (rw c.if-branch.false at look)
          c.match_behind-at.result (is_behind c.args.buffer.now.rows c.args.node.0 c.in-Some.here.0 c.look_at.new.self.last c.args.self.now.last c.match_behind-at.result last c.match_behind-at.ensures.found) c.match_behind-at.ensures.serial;
    }

pub newest-self-requires : goal.newest-self-requires
newest-self-requires g c = let h = c.requires.below c.requires.used.cell c.requires.used.among in omega arith

pub returns-clause-upto : goal.returns-clause-upto
returns-clause-upto g c = let h = c.requires.below c.requires.used.cell c.requires.used.among in let e = c.newest-self.ensures in omega arith

pub returns-clause-searched : goal.returns-clause-searched
returns-clause-searched g c =
    looking_ends c.args.buffer.now.rows c.args.buffer.now.nodes c.args.self.now c.args.node.0 c.requires.used c.rows.self.waiting (rw c.in_default.is at c.rows.invariant.looking) c.requires.steps c.requires.fits c.newest-self.result.0 c.newest-self.ensures
