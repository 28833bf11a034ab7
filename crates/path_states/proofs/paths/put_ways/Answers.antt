use Rattle.std.proofs.Common.{◌≡◌, ◌<◌, List, [], ◌∷◌, ◌++◌, take, drop, sym, ◌∙◌, ap, length, map, subst, arith}
use Rattle.std.proofs.lemmas.List.{take_all}
use Rattle.gcx_base.specs.declared.steps.Step.{Step}
use Rattle.gcx_model.specs.Core.{RoleRowTree}
use Rattle.gcx_model.specs.Held.{paths_from}
use Rattle.gcx_model.specs.PlanView.{role_row_tree}
use Rattle.gcx_model.specs.declared.plan.RoleRow.{RoleRow}
use Rattle.path_states.specs.Growing.{Growing, Ended}
use Rattle.path_states.specs.declared.paths.PathState.{PathState}
use Rattle.path_states.specs.declared.paths.Way.{Way}
use Rattle.path_states.proofs.Growing.{take_written}
use Rattle.path_states.proofs.Sprouting.{ended_start, ended_more, first_more, first_length}
use Rattle.path_states.proofs.paths.put_ways.Goals as goal

pub loop-i-init : goal.loop-i-init
loop-i-init c = λ plan g. subst (λ (z : List Way). Ended plan c.args.tree.now.items z []) (sym c.new-ways.ensures.items) (ended_start plan c.args.tree.now.items g)

pub loop-i-preserved : goal.loop-i-preserved
loop-i-preserved c = λ plan g.
    let e = c.loop-i.invariant plan g in
    let i = c.loop-i.i in
    let way = c.in_ok-way.way in
    let rows : List RoleRow = c.args.rows.now in
    let x : RoleRow = c.index-rows-i.result in
    let some = g.some in
    let count : c.len-count.result ≡ length c.args.tree.now.items = c.len-count.ensures ∙ c.args.tree.now.ok.0 in
    let base : length (paths_from ([] ∷ []) plan.vars) ≡ c.len-count.result = g.same ∙ sym count in
    let pos : 0 < c.len-count.result = omega arith in
    let low = c.known.ensures.within pos in
    let within = c.loop-i-test.true in
    let long = first_length role_row_tree rows i (omega arith) in
    let role_is : c.in_ok-role.role ≡ length (map role_row_tree (take i rows)) = c.in_ok-role.ensures ∙ sym long in
    let h = ended_more plan c.loop-i.tree.items c.put_way.new.tree.items c.note.new.tree c.loop-i.ways.items (map role_row_tree (take i rows)) (role_row_tree x) way c.known.result c.in_ok-role.role e
    c.in_ok-way.ensures.kind c.in_ok-way.ensures.var c.in_ok-way.ensures.steps c.in_ok-way.ensures.reached
    (subst (λ (z : List PathState). (paths : List (List Step)) (ways : List Way) → length ways ≡ c.in_ok-role.role → way.end < length z → way.var < length z → Growing z paths ways → Growing c.note.new.tree paths (ways ++ way ∷ [])) c.deref_mut.ensures.value c.in_ok-note.ensures)
    role_is (omega arith) (c.known.ensures.is (paths_from ([] ∷ []) plan.vars) base g.top) in
    let mid : List PathState = c.put_way.new.tree.items in
    let same : length c.note.new.tree ≡ c.put_way.new.tree.len = (let k = c.note.auto.tree in let v = ap length c.deref_mut.ensures.value in let m = c.put_way.new.tree.ok.0 in omega arith) in
    subst (λ (z : List RoleRowTree). Ended plan (take c.put_way.new.tree.len (c.note.new.tree ++ drop (length c.note.new.tree) mid)) c.push.new.self.items z) (sym (first_more role_row_tree rows i x c.loop-i-test.true c.index-rows-i.is))
    (subst (λ (z : List Way). Ended plan (take c.put_way.new.tree.len (c.note.new.tree ++ drop (length c.note.new.tree) mid)) z (map role_row_tree (take i rows) ++ role_row_tree x ∷ [])) (sym c.in_ok-push.ensures.items)
    (subst (λ (z : List PathState). Ended plan z (c.loop-i.ways.items ++ way ∷ []) (map role_row_tree (take i rows) ++ role_row_tree x ∷ [])) (sym (take_written c.put_way.new.tree.len c.note.new.tree (drop (length c.note.new.tree) mid) same)) h))

pub returns : goal.returns
returns c = λ plan g. subst (λ (z : List RoleRow). Ended plan c.loop-i.tree.items c.loop-i.ways.items (map role_row_tree z)) (take_all c.loop-i.i c.args.rows.now c.loop-i-test.false) (c.loop-i.invariant plan g)
