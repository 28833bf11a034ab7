use Rattle.std.proofs.Common.{[], get_or, sym}
use Rattle.gcx_model.specs.Tree.{grow}
use Rattle.path_states.specs.Lists.{From}
use Rattle.matcher.specs.Entering.{Firsts}
use Rattle.path_states.proofs.Gaining.{gains_same, gains_start, gains_next, gains_all, in_get}
use Rattle.matcher.proofs.found.found_of.Goals as goal

pub loop-number-init : goal.loop-number-init
loop-number-init c = λ many past t n b e h.
    gains_same [] [] c.new-found.result.items (From [] (Firsts past.plan (grow t past.tree) n c.args.states.now.tree.states.items)) (sym c.new-found.ensures.items) (gains_start [] (Firsts past.plan (grow t past.tree) n c.args.states.now.tree.states.items))

pub loop-number-preserved : goal.loop-number-preserved
loop-number-preserved c = λ many past t n b e h.
    gains_next [] c.loop-number.found.items c.find_state.new.found.items c.args.active.now (Firsts past.plan (grow t past.tree) n c.args.states.now.tree.states.items) c.loop-number.number-index c.loop-number-test.true
    (c.loop-number.invariant many past t n b e h)
    (c.in_ok-find_state.ensures many past t n b e (h (get_or c.args.active.now c.loop-number.number-index 0) (in_get c.args.active.now c.loop-number.number-index 0 c.loop-number-test.true)))

pub returns : goal.returns
returns c = λ many past t n b e h. gains_all [] c.loop-number.found.items c.args.active.now (Firsts past.plan (grow t past.tree) n c.args.states.now.tree.states.items) c.loop-number.number-index c.loop-number-test.false (c.loop-number.invariant many past t n b e h)
