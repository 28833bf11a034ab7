use Rattle.std.proofs.Common.{◌≡◌, get_or, refl, arith, false, slice_set}
use Rattle.std.proofs.lemmas.List.{get_or_default}
use Rattle.matcher.specs.declared.frames.Context.{Context}
use Rattle.path_states.proofs.Looking.{read_at, none_at}
use Rattle.matcher.proofs.Noting.{noted_none, noted_set}
use Rattle.matcher.proofs.frames.note_match.Goals as goal

abbrev none : Context
none = record { role = 0; unmatched = false }

pub returns-then-place-contexts : goal.returns-then-place-contexts
returns-then-place-contexts c =
    let x : Context = get_or c.args.contexts.now c.args.place none in
    let at = read_at c.args.contexts.now c.args.place x c.if-place-contexts.true (get_or_default c.args.contexts.now c.args.place none x c.if-place-contexts.true) in
    noted_set c.args.contexts.now (slice_set c.args.contexts.now c.args.place c.noted.result) c.args.place c.args.role x c.noted.result at refl (λ r. (c.noted.ensures r).0) (λ r. (c.noted.ensures r).1)

pub returns-else-place-contexts : goal.returns-else-place-contexts
returns-else-place-contexts c = noted_none c.args.contexts.now (λ i r. (c.args.place ≡ i) × (c.args.role ≡ r)) (λ i r o q.
    let e = q.0 in
    let l = c.if-place-contexts.false in
    none_at c.args.contexts.now i o.context (omega arith) o.at)
