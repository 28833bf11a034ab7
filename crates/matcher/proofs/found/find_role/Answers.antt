use Rattle.std.proofs.Common.{◌≡◌, ℕ, slice_get, None, Some, List, [], ◌∷◌, subst}
use Rattle.std.proofs.lemmas.Option.{slice_get_past}
use Rattle.path_states.specs.Lists.{From, Gains}
use Rattle.path_states.specs.declared.paths.PathTree.{PathTree}
use Rattle.path_states.specs.declared.paths.Way.{Way}
use Rattle.path_states.proofs.Looking.{read_at}
use Rattle.matcher.specs.Frames.{FoundAt, UpFrom}
use Rattle.matcher.specs.View.{frames_of}
use Rattle.matcher.proofs.Finding.{none_found, no_role, all_found}
use Rattle.matcher.proofs.found.find_role.Goals as goal

pub returns-then-not-may_match : goal.returns-then-not-may_match
returns-then-not-may_match c = λ many past t n b l lead. none_found past c.args.states.now c.args.frames.now many t n b c.args.found.now.items c.args.role (c.may_match.ensures.no c.if-not-may_match.true)

pub returns-in_ok-put_found : goal.returns-in_ok-put_found
returns-in_ok-put_found c = λ many past t n b l lead.
    let there : slice_get c.tree.result.now.ways.items c.args.role ≡ Some c.in-Some.way.now = subst (λ (z : List Way). slice_get z c.args.role ≡ Some c.in-Some.way.now) c.deref.ensures.value (read_at c.deref.result.now c.args.role c.in-Some.way.now c.in-Some.ensures.lookup.3.0 c.in-Some.ensures.lookup.1) in
    let at : slice_get c.args.states.now.tree.ways.items c.args.role ≡ Some c.in-Some.way.now = subst (λ (z : PathTree). slice_get z.ways.items c.args.role ≡ Some c.in-Some.way.now) c.tree.ensures there in
    let up : UpFrom c.args.states.now c.args.frames.now c.in-Some.way.now.steps c.in-Some.way.now.end (c.args.level ∷ []) c.in_ok-levels.levels.items =
    subst (λ (z : List ℕ). UpFrom c.args.states.now c.args.frames.now c.in-Some.way.now.steps c.in-Some.way.now.end z c.in_ok-levels.levels.items) c.one-targets.ensures c.in_ok-levels.ensures in
    let g : Gains c.args.found.now.items c.put_found.new.found.items (From c.in_ok-levels.levels.items (FoundAt c.args.frames.now c.args.role)) =
    subst (λ (z : List ℕ). Gains c.args.found.now.items c.put_found.new.found.items (From z (FoundAt c.args.frames.now c.args.role))) c.as_slice.ensures c.in_ok-put_found.ensures in
    all_found past c.args.states.now c.args.frames.now many t n b c.args.role lead c.in-Some.way.now at c.args.level l c.in_ok-levels.levels.items up c.args.found.now.items c.put_found.new.found.items g

pub returns-in_default : goal.returns-in_default
returns-in_default c = λ many past t n b l lead.
    let none : slice_get c.tree.result.now.ways.items c.args.role ≡ None = subst (λ (z : List Way). slice_get z c.args.role ≡ None) c.deref.ensures.value (slice_get_past c.deref.result.now c.args.role c.in_default.ensures.lookup.3) in
    no_role past c.args.states.now.tree (frames_of c.args.states.now c.args.frames.now) t n b c.args.found.now.items c.args.role (subst (λ (z : PathTree). slice_get z.ways.items c.args.role ≡ None) c.tree.ensures none)
