use Rattle.std.proofs.Common.{◌≡◌, Some, slice_get, subst}
use Rattle.matcher.specs.Stacks.{Finds, IsIn}
use Rattle.matcher.specs.declared.frames.Frame.{Frame}
use Rattle.path_states.proofs.Looking.{read_at, one_at, none_at}
use Rattle.matcher.proofs.Noting.{noted_none, noted_as}
use Rattle.matcher.proofs.frames.note_one.Goals as goal

pub returns-in-Some : goal.returns-in-Some
returns-in-Some c =
    let at : slice_get c.args.nodes.now c.args.found.level ≡ Some c.in-Some.frame.now = read_at c.args.nodes.now c.args.found.level c.in-Some.frame.now c.in-Some.ensures.lookup.3.0 c.in-Some.ensures.lookup.1 in
    noted_as c.args.contexts.now c.note_matches.new.contexts (λ i r. IsIn c.in-Some.frame.now.contexts i × (c.args.found.role ≡ r)) (Finds c.args.nodes.now c.args.found)
    (λ i r q. record { frame = c.in-Some.frame.now; at = at; within = q.0; same = q.1 })
    (λ i r q. (subst (λ (z : Frame). IsIn z.contexts i) (one_at c.args.nodes.now c.args.found.level q.frame c.in-Some.frame.now q.at at) q.within, q.same))
    c.note_matches.ensures

pub returns-in_default : goal.returns-in_default
returns-in_default c = noted_none c.args.contexts.now (Finds c.args.nodes.now c.args.found) (λ i r o q. none_at c.args.nodes.now c.args.found.level q.frame c.in_default.ensures.lookup.3 q.at)
