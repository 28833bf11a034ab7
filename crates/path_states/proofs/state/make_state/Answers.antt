use Rattle.std.proofs.Common.{◌≡◌, ℕ, true, List, sym, ◌∙◌, subst, refl}
use Rattle.std.specs.Prelude.{◌↔◌}
use Rattle.std.specs.FinSet.{contains}
use Rattle.gcx_model.specs.Members.{In}
use Rattle.path_states.specs.State.{StateView}
use Rattle.path_states.proofs.Making.{gathered, made}
use Rattle.path_states.proofs.state.make_state.Goals as goal

abbrev state_of : goal.After-lead_nowhere-is_over → StateView
state_of c = record {
  active = c.args.active.items;
  pending = c.in_ok-pending.pending.items;
  whole = c.in_ok-whole.whole.items;
  whole_here = c.in_ok-whole_here.whole_here.items;
  given = c.in_ok-given.given.items;
  roles = c.in_ok-roles.roles;
  kept = c.in_ok-kept.kept;
  whole_set = c.in_ok-whole_set.whole_set;
  contexts = c.in_ok-contexts.contexts.items;
  has_firsts = c.have_firsts-has_firsts.result;
  is_over = c.lead_nowhere-is_over.result;
}

-- the two slices of the roles of whole subtrees are one list
wholes : (c : goal.After-lead_nowhere-is_over) → (r : ℕ) → contains c.in_ok-whole_set.whole_set r ≡ true ↔ In r c.as_slice.result.now
wholes c = subst (λ (z : List ℕ). (r : ℕ) → contains c.in_ok-whole_set.whole_set r ≡ true ↔ In r z) (c.as_slice-4.ensures.value ∙ sym c.as_slice.ensures.value) c.in_ok-whole_set.ensures

pub returns : goal.returns
returns c =
    let s = state_of c in
    let here = c.as_slice-here.result.now in
    record {
      active = refl;
      gathers = gathered c.args.tree.now s here c.as_slice.result.now c.as_slice-2.result.now c.as_slice-3.result.now c.as_slice-5.result.now c.as_slice-here.ensures.value c.as_slice.ensures.value c.as_slice-2.ensures.value c.as_slice-3.ensures.value c.as_slice-5.ensures.value
          c.args.pending_above.now c.args.whole_above.now c.in_ok-pending.ensures c.in_ok-whole.ensures.gains;
      made = λ h. made c.args.tree.now s here c.as_slice.result.now c.as_slice-2.result.now c.as_slice-3.result.now c.as_slice-5.result.now c.as_slice-here.ensures.value c.as_slice.ensures.value c.as_slice-2.ensures.value c.as_slice-3.ensures.value c.as_slice-5.ensures.value
          (c.in_ok-whole.ensures.climbs h) c.in_ok-whole_here.ensures.gains c.in_ok-given.ensures.climbs c.in_ok-given.ensures.holds c.in_ok-roles.ensures c.in_ok-kept.ensures (wholes c) c.in_ok-contexts.ensures c.have_firsts-has_firsts.ensures c.lead_nowhere-is_over.ensures;
    }
