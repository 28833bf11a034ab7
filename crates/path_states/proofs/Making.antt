-- A state as it is made of its active path states.
use Rattle.std.proofs.Common.{◌≡◌, ℕ, true, false, List, [], sym, subst}
use Rattle.std.specs.Prelude.{◌↔◌}
use Rattle.std.specs.FinSet.{contains}
use Rattle.gcx_model.specs.Members.{In}
use Rattle.path_states.specs.Active.{Tells, Waits}
use Rattle.path_states.specs.Lists.{Climbs, From, Gains, Holds}
use Rattle.path_states.specs.State.{StateView, AreDead, Gathers, GivenBy, IsMade, context_roles, first_roles, whole_roles}
use Rattle.path_states.specs.declared.paths.PathState.{PathState}
use Rattle.path_states.proofs.Gaining.{holds_from}

-- what was worked out over the same lists, read from slices of them
module _ (tree : List PathState) (s : StateView) (here whole given newly pending : List ℕ) (is_here : here ≡ s.active) (is_whole : whole ≡ s.whole) (is_given : given ≡ s.given) (is_newly : newly ≡ s.whole_here) (is_pending : pending ≡ s.pending) where
  pub gathered : (above wholes : List ℕ) → Gains above s.pending (From here (Waits tree)) → Gains wholes s.whole (From here (Tells whole_roles tree)) → Gathers tree above wholes s
  gathered above wholes p w = record {
    pending = subst (λ (z : List ℕ). Gains above s.pending (From z (Waits tree))) is_here p;
    whole = subst (λ (z : List ℕ). Gains wholes s.whole (From z (Tells whole_roles tree))) is_here w;
  }

  pub made : Climbs s.whole → Gains [] s.whole_here (From here (Tells whole_roles tree)) → (Climbs whole → Climbs s.given) → Holds s.given (GivenBy tree whole here) → ((r : ℕ) → contains s.roles r ≡ true ↔ In r given) → ((r : ℕ) → contains s.kept r ≡ true ↔ GivenBy tree newly here r) → ((r : ℕ) → contains s.whole_set r ≡ true ↔ In r whole)
      → Holds s.contexts (From here (Tells context_roles tree)) → (s.has_firsts ≡ false → (r : ℕ) → From here (Tells first_roles tree) r → ⊥) → (s.is_over ≡ true → AreDead tree here pending) → IsMade tree s
  made climbs w rising g roles kept wholes c f o = record {
    climbs = climbs;
    here = subst (λ (z : List ℕ). Holds s.whole_here (From z (Tells whole_roles tree))) is_here (holds_from s.whole_here (From here (Tells whole_roles tree)) w);
    rising = rising (subst Climbs (sym is_whole) climbs);
    given = subst (λ (z : List ℕ). Holds s.given (GivenBy tree z s.active)) is_whole (subst (λ (z : List ℕ). Holds s.given (GivenBy tree whole z)) is_here g);
    roles = subst (λ (z : List ℕ). (r : ℕ) → contains s.roles r ≡ true ↔ In r z) is_given roles;
    kept = subst (λ (z : List ℕ). (r : ℕ) → contains s.kept r ≡ true ↔ GivenBy tree z s.active r) is_newly (subst (λ (z : List ℕ). (r : ℕ) → contains s.kept r ≡ true ↔ GivenBy tree newly z r) is_here kept);
    wholes = subst (λ (z : List ℕ). (r : ℕ) → contains s.whole_set r ≡ true ↔ In r z) is_whole wholes;
    contexts = subst (λ (z : List ℕ). Holds s.contexts (From z (Tells context_roles tree))) is_here c;
    firsts = subst (λ (z : List ℕ). s.has_firsts ≡ false → (r : ℕ) → From z (Tells first_roles tree) r → ⊥) is_here f;
    over = subst (λ (z : List ℕ). s.is_over ≡ true → AreDead tree s.active z) is_pending (subst (λ (z : List ℕ). s.is_over ≡ true → AreDead tree z pending) is_here o);
  }
