use Rattle.std.proofs.Common.{List, Some, refl, sym, ◌∙◌, ap, subst}
use Rattle.gcx_base.specs.declared.steps.Step.{Step}
use Rattle.buf_tree.specs.Match.{GoesFrom}
use Rattle.cond_memo.specs.Searching.{FindsBehindMatch}
use Rattle.cond_memo.specs.declared.taken.Taken.{Taken}
use Rattle.cond_memo.proofs.UntakenRows.{here_goes, here_used, pass_closed, pass_falls, pass_one, pass_over, passing_starts}
use Rattle.cond_memo.proofs.taken.Taken.pass_open.Goals as goal

pub matches-init : goal.matches-init
matches-init g c = record { frame = refl; passing = passing_starts c.args.buffer.now c.args.self.now c.args.node.0 c.args.first }

pub serial-serial-requires : goal.serial-serial-requires
serial-serial-requires g c = here_used c.args.buffer.now c.args.self.now c.args.node.0 c.args.first c.in-Some.place c.matches.self.waiting (rw c.in-Some.is at c.matches.invariant.passing) c.requires.may

pub is_closed-requires : goal.is_closed-requires
is_closed-requires g c = here_used c.args.buffer.now c.args.self.now c.args.node.0 c.args.first c.in-Some.place c.matches.self.waiting (rw c.in-Some.is at c.matches.invariant.passing) c.requires.may

pub returns-then-is_closed-clause-next : goal.returns-then-is_closed-clause-next
returns-then-is_closed-clause-next g c P keep n from vs f =
    pass_closed c.args.buffer.now c.args.self.now c.args.node.0 c.args.first c.in-Some.place c.matches.self.waiting (rw c.in-Some.is at c.matches.invariant.passing) c.serial-serial.result c.serial-serial.ensures.row P keep n from vs f
    (sym c.serial-serial.ensures.serial) (λ d i e. sym c.if-is_closed.true ∙ c.is_closed.ensures d i e)

pub behind-requires-clause-from : goal.behind-requires-clause-from
behind-requires-clause-from g c =
    let last = ap (λ (x : Taken). x.last) c.matches.invariant.frame in
    subst (λ (s : Step). GoesFrom c.args.buffer.now.rows c.args.node.0 s.axis c.in-Some.place.0) (sym last)
    (here_goes c.args.buffer.now c.args.self.now c.args.node.0 c.args.first c.in-Some.place c.matches.self.waiting (rw c.in-Some.is at c.matches.invariant.passing) c.requires.may c.args.self.now.last c.requires.fits)

pub matches-smaller : goal.matches-smaller
matches-smaller g c =
    pass_falls c.args.buffer.now c.args.self.now c.args.node.0 c.args.first c.in-Some.place c.matches.self.waiting (rw c.in-Some.is at c.matches.invariant.passing) c.requires.may c.serial-serial.result c.serial-serial.ensures.row

pub matches-preserved : goal.matches-preserved
matches-preserved g c =
    let steps = ap (λ (x : Taken). x.steps) c.matches.invariant.frame in
    let behind = subst (λ (s : List Step). FindsBehindMatch c.args.buffer.now c.args.node.0 c.in-Some.place.0 s c.in_ok-at.at) steps c.in_ok-at.ensures in
    record {
      frame = ap (λ (x : Taken). record x { waiting = Some c.serial-serial.result }) c.matches.invariant.frame;
      passing = λ P keep n from vs f.
          pass_one c.args.buffer.now c.args.self.now c.args.node.0 c.args.first c.in-Some.place c.matches.self.waiting (rw c.in-Some.is at c.matches.invariant.passing) c.serial-serial.result c.serial-serial.ensures.row P keep n from vs f
          (λ d i e. sym c.if-is_closed.false ∙ c.is_closed.ensures d i e) c.in_ok-at.at behind;
    }

pub returns-clause-next : goal.returns-clause-next
returns-clause-next g c P keep n from vs f =
    pass_over c.args.buffer.now c.args.self.now c.args.node.0 c.args.first c.matches.self.waiting (rw c.in_default.is at c.matches.invariant.passing) c.nodes-self.result c.nodes-self.ensures P keep n from vs f
