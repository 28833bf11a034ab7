use Rattle.std.proofs.Common.{◌≡◌, List, length, drop, [], ◌∷◌, ap, ◌∙◌, subst, arith}
use Rattle.path_states.specs.Growing.{Below, TellMore}
use Rattle.path_states.specs.declared.paths.PathState.{PathState}
use Rattle.path_states.proofs.Growing.{put_spot, written_back}
use Rattle.path_states.proofs.paths.put.Goals as goal

pub returns-clause-grows : goal.returns-clause-grows
returns-clause-grows c =
    let t = subst (λ (z : List PathState). TellMore (Below c.in_ok-step.step.axis) c.args.parent c.in_ok-number.number z c.link.new.tree) c.deref_mut.ensures.value c.in_ok-link.ensures in
    let same : length c.link.new.tree ≡ c.args.tree.now.len = (let s = t.same in let l = c.deref.ensures.len in let v = ap length c.deref.ensures.value in omega arith) in
    put_spot c.args.tree.now.items c.link.new.tree c.push.new.self.items c.args.parent c.in_ok-number.number c.in_ok-step.step c.args.step.now c.new_path_state.result (c.in_ok-number.ensures ∙ ap length c.deref.ensures.value) c.in_ok-step.ensures t c.new_path_state.ensures
    (written_back c.args.tree.now.len c.link.new.tree (drop (length c.link.new.tree) c.args.tree.now.items) c.push.new.self.items (c.new_path_state.result ∷ []) same c.in_ok-push.ensures.items)
