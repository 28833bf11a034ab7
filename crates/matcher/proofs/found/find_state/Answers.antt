use Rattle.std.proofs.Common.{◌≡◌, ℕ, List, Some, None, slice_get, subst}
use Rattle.std.proofs.lemmas.Option.{slice_get_past}
use Rattle.gcx_model.specs.Members.{In}
use Rattle.gcx_model.specs.Tree.{grow}
use Rattle.path_states.specs.Lists.{From, Gains}
use Rattle.path_states.specs.declared.paths.PathState.{PathState}
use Rattle.path_states.specs.declared.paths.PathTree.{PathTree}
use Rattle.path_states.proofs.Looking.{read_at}
use Rattle.matcher.specs.Entering.{FoundOf}
use Rattle.matcher.specs.View.{frames_of}
use Rattle.matcher.proofs.Finding.{roles_lead, firsts_of, no_firsts}
use Rattle.matcher.proofs.found.find_state.Goals as goal

pub returns-in_ok-find_roles-in-Some : goal.returns-in_ok-find_roles-in-Some
returns-in_ok-find_roles-in-Some c = λ many past t n b l h.
    let there : slice_get c.tree.result.now.states.items c.args.number ≡ Some c.in-Some.state.now = subst (λ (z : List PathState). slice_get z c.args.number ≡ Some c.in-Some.state.now) c.deref.ensures.value (read_at c.deref.result.now c.args.number c.in-Some.state.now c.in-Some.ensures.lookup.3.0 c.in-Some.ensures.lookup.1) in
    let at : slice_get c.args.states.now.tree.states.items c.args.number ≡ Some c.in-Some.state.now = subst (λ (z : PathTree). slice_get z.states.items c.args.number ≡ Some c.in-Some.state.now) c.tree.ensures there in
    let e : c.deref-in-Some.result.now ≡ c.in-Some.state.now.first.items = c.deref-in-Some.ensures.value in
    let g = c.in_ok-find_roles-in-Some.ensures many past t n b l
    (λ r i. roles_lead past c.args.states.now.tree (frames_of c.args.states.now c.args.frames.now) t n b c.args.number c.in-Some.state.now at h r (subst (λ (z : List ℕ). In r z) e i)) in
    firsts_of past c.args.states.now.tree (frames_of c.args.states.now c.args.frames.now) t n b c.args.number c.in-Some.state.now at c.args.found.now.items c.find_roles.new.found.items
    (subst (λ (z : List ℕ). Gains c.args.found.now.items c.find_roles.new.found.items (From z (FoundOf past.plan (grow t past.tree) n))) e g)

pub returns-in-None : goal.returns-in-None
returns-in-None c = λ many past t n b l h.
    let none : slice_get c.tree.result.now.states.items c.args.number ≡ None = subst (λ (z : List PathState). slice_get z c.args.number ≡ None) c.deref.ensures.value (slice_get_past c.deref.result.now c.args.number c.in-None.ensures.lookup.3) in
    no_firsts past c.args.states.now.tree (frames_of c.args.states.now c.args.frames.now) t n b c.args.number (subst (λ (z : PathTree). slice_get z.states.items c.args.number ≡ None) c.tree.ensures none) c.args.found.now.items
