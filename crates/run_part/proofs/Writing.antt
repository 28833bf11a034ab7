-- What runs write, from one state to a later one.
use Rattle.std.proofs.Common.{◌≡◌, ℕ, suc, ◌≤◌, List, [], ◌∷◌, ◌++◌, refl, sym, ◌∙◌, ap, append_assoc}
use Rattle.std.specs.Prelude.{flat_map}
use Rattle.std.proofs.lemmas.List.{append-nil}
use Rattle.std.proofs.lemmas.Grind.{flat_map-append}
use Rattle.gcx_model.specs.Tree.{Tree, opening}
use Rattle.gcx_model.specs.Core.{PlanTree}
use Rattle.gcx_model.specs.Run.{Action, bytes_of}
use Rattle.gcx_model.specs.Growth.{Leads}
use Rattle.gcx_model.specs.Points.{so_far}
use Rattle.run_part.specs.Actors.{Goes, bytes_at, all_of}
pub use Rattle.run_part.specs.Fronts.{all_is, bytes_front, bytes_stay}

module _ (plan : PlanTree) where
  pub goes_none : (P : Tree) (k : ℕ) (w : List ℕ) → Goes plan P k P k w w
  goes_none P k w = record { more = []; written = sym (append-nil (bytes_at plan P k)); grew = sym (append-nil w) }

  pub goes_on : (P : Tree) (k : ℕ) (Q : Tree) (j : ℕ) (R : Tree) (i : ℕ) (u v w : List ℕ) → Goes plan P k Q j u v → Goes plan Q j R i v w → Goes plan P k R i u w
  goes_on P k Q j R i u v w a b = record {
    more = a.more ++ b.more;
    written = b.written ∙ (ap (λ z. z ++ b.more) a.written ∙ append_assoc (bytes_at plan P k) a.more b.more);
    grew = b.grew ∙ (ap (λ z. z ++ b.more) a.grew ∙ append_assoc u a.more b.more);
  }

  pub goes_fed : (P Q : Tree) (k : ℕ) (w : List ℕ) → Leads opening P → Leads P Q → k ≤ all_of plan P → Goes plan P k Q k w w
  goes_fed P Q k w l m h = record { more = []; written = bytes_stay plan P Q k l m h ∙ sym (append-nil (bytes_at plan P k)); grew = sym (append-nil w) }

  -- so what the way there wrote is a front of what is written more
  pub goes_front : (P : Tree) (k : ℕ) (Q : Tree) (j : ℕ) (R : Tree) (u v : List ℕ) → Goes plan P k Q j u v → Leads opening Q → Leads Q R → j ≤ all_of plan Q
      → (part : List ℕ) × (rest : List ℕ) × (bytes_at plan R (all_of plan R) ≡ bytes_at plan P k ++ (part ++ rest)) × (v ≡ u ++ part)
  goes_front P k Q j R u v g l m h =
      let r = bytes_front plan Q R j l m h in
      (g.more, r.0, r.1 ∙ (ap (λ z. z ++ r.0) g.written ∙ append_assoc (bytes_at plan P k) g.more r.0), g.grew)

  -- one action writes its bytes
  pub goes_act : (P : Tree) (k : ℕ) (a : Action) (w : List ℕ) → so_far plan P (suc k) ≡ so_far plan P k ++ a ∷ [] → Goes plan P k P (suc k) w (w ++ bytes_of a)
  goes_act P k a w e = record {
    more = bytes_of a;
    written = ap (flat_map bytes_of) e ∙ (flat_map-append bytes_of (so_far plan P k) (a ∷ []) ∙ ap (λ z. bytes_at plan P k ++ z) (append-nil (bytes_of a)));
    grew = refl;
  }
