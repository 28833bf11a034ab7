use Rattle.std.proofs.Common.{get_or}
use Rattle.std.proofs.lemmas.List.{get_or_default}
use Rattle.path_states.specs.Active.{PassesTo}
use Rattle.path_states.specs.declared.branches.Branch.{Branch}
use Rattle.path_states.proofs.Gaining.{gains_start, gains_more, gains_all}
use Rattle.path_states.proofs.active.try_all.Goals as goal

abbrev none : Branch
none = record { name = 0; state = 0 }

pub loop-branch-init : goal.loop-branch-init
loop-branch-init c = λ index kind is. gains_start c.args.active.now.items (PassesTo c.args.tree.now kind)

pub loop-branch-preserved : goal.loop-branch-preserved
loop-branch-preserved c = λ index kind is. gains_more c.args.active.now.items c.loop-branch.active.items c.try_one.new.active.items c.args.branches.now (PassesTo c.args.tree.now kind) c.loop-branch.branch-index (get_or c.args.branches.now c.loop-branch.branch-index none) c.loop-branch-test.true
    (get_or_default c.args.branches.now c.loop-branch.branch-index none (get_or c.args.branches.now c.loop-branch.branch-index none) c.loop-branch-test.true) (c.loop-branch.invariant index kind is) (c.in_ok-try_one.ensures index kind is)

pub returns : goal.returns
returns c = λ index kind is. gains_all c.args.active.now.items c.loop-branch.active.items c.args.branches.now (PassesTo c.args.tree.now kind) c.loop-branch.branch-index c.loop-branch-test.false (c.loop-branch.invariant index kind is)
