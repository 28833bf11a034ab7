use Rattle.std.proofs.Common.{ℕ, List, [], take, ◌+◌, ◌⊎◌, get_or, refl, subst}
use Rattle.std.proofs.lemmas.List.{take_all}
use Rattle.path_states.specs.Lists.{From}
use Rattle.matcher.specs.Stacks.{Finds, FoundNoted}
use Rattle.matcher.specs.declared.frames.Found.{Found}
use Rattle.matcher.proofs.Noting.{noted_none, noted_two, noted_as, from_more, more_from}
use Rattle.matcher.proofs.frames.note_found.Goals as goal

abbrev none : Found
none = record { role = 0; level = 0 }

pub loop-found-init : goal.loop-found-init
loop-found-init c = noted_none c.args.contexts.now (λ i r. From [] (λ (f : Found) (q : ℕ). Finds c.args.nodes.now f i q) r) (λ i r o q. absurd q.member)

pub loop-found-preserved : goal.loop-found-preserved
loop-found-preserved c =
    let k = c.loop-found.found-index in
    let x : Found = get_or c.args.found.now k none in
    let R : ℕ → Found → ℕ → Type 0 = λ i f q. Finds c.args.nodes.now f i q in
    let Q : ℕ → ℕ → Type 0 = λ i r. From (take k c.args.found.now) (R i) r in
    let S : ℕ → ℕ → Type 0 = λ i r. From (take (k + 1) c.args.found.now) (R i) r in
    noted_as c.args.contexts.now c.note_one.new.contexts (λ i r. Q i r ⊎ R i x r) S
    (λ i r s. from_more c.args.found.now (R i) k x none c.loop-found-test.true refl r s)
    (λ i r s. more_from c.args.found.now (R i) k x none c.loop-found-test.true refl r s)
    (noted_two c.args.contexts.now c.loop-found.contexts c.note_one.new.contexts Q (λ i r. R i x r) c.loop-found.invariant c.note_one.ensures)

pub returns : goal.returns
returns c = subst (λ (z : List Found). FoundNoted c.args.nodes.now z c.args.contexts.now c.loop-found.contexts) (take_all c.loop-found.found-index c.args.found.now c.loop-found-test.false) c.loop-found.invariant
