use Rattle.std.proofs.Common.{get_or}
use Rattle.gcx_model.specs.Tree.{grow}
use Rattle.matcher.specs.Entering.{FoundOf}
use Rattle.path_states.proofs.Gaining.{gains_start, gains_next, gains_all, in_get}
use Rattle.matcher.proofs.found.find_roles.Goals as goal

pub loop-role-init : goal.loop-role-init
loop-role-init c = λ many past t n b e h. gains_start c.args.found.now.items (FoundOf past.plan (grow t past.tree) n)

pub loop-role-preserved : goal.loop-role-preserved
loop-role-preserved c = λ many past t n b e h.
    gains_next c.args.found.now.items c.loop-role.found.items c.find_role.new.found.items c.args.roles.now (FoundOf past.plan (grow t past.tree) n) c.loop-role.role-index c.loop-role-test.true
    (c.loop-role.invariant many past t n b e h)
    (c.in_ok-find_role.ensures many past t n b e (h (get_or c.args.roles.now c.loop-role.role-index 0) (in_get c.args.roles.now c.loop-role.role-index 0 c.loop-role-test.true)))

pub returns : goal.returns
returns c = λ many past t n b e h. gains_all c.args.found.now.items c.loop-role.found.items c.args.roles.now (FoundOf past.plan (grow t past.tree) n) c.loop-role.role-index c.loop-role-test.false (c.loop-role.invariant many past t n b e h)
