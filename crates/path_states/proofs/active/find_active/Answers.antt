use Rattle.std.proofs.Common.{ℕ, List, [], refl, subst}
use Rattle.gcx_base.specs.declared.steps.Axis.TheVariants.{Child, Descendant}
use Rattle.path_states.specs.Lists.{From, Gains}
use Rattle.path_states.specs.Active.{Under, ActiveBelow, child_edges_of, descendant_edges_of}
use Rattle.path_states.specs.Branches.{steps_by}
use Rattle.path_states.proofs.Branching.{from_as}
use Rattle.path_states.proofs.Gaining.{gains_as, gains_two, holds_from}
use Rattle.path_states.proofs.active.find_active.Goals as goal

pub returns : goal.returns
returns c = λ index kind is.
    let tree = c.args.tree.now in
    let above = c.args.above.now in
    let pending = c.args.pending.now in
    let Q : ℕ → Type 0 = From above (Under child_edges_of tree kind) in
    let R : ℕ → Type 0 = From pending (Under descendant_edges_of tree kind) in
    let by_child = gains_as c.new-active.result.items c.try_below_all.new.active.items (From above (Under (steps_by Child) tree kind)) Q (from_as (steps_by Child) child_edges_of tree kind (λ s. refl) above) (from_as child_edges_of (steps_by Child) tree kind (λ s. refl) above)
    (c.in_ok-try_below_all.ensures index kind is) in
    let by_descendant = gains_as c.try_below_all.new.active.items c.try_below_all-2.new.active.items (From pending (Under (steps_by Descendant) tree kind)) R (from_as (steps_by Descendant) descendant_edges_of tree kind (λ s. refl) pending) (from_as descendant_edges_of (steps_by Descendant) tree kind (λ s. refl) pending)
    (c.in_ok-try_below_all-2.ensures index kind is) in
    holds_from c.try_below_all-2.new.active.items (ActiveBelow tree above pending kind)
    (gains_two [] c.try_below_all.new.active.items c.try_below_all-2.new.active.items Q R
    (subst (λ (z : List ℕ). Gains z c.try_below_all.new.active.items Q) c.new-active.ensures.items by_child) by_descendant)
