-- A guarded body does nothing where its equality's two operands have no value in common.
use Rattle.std.proofs.Common.{◌≡◌, ℕ, Bool, true, false, cond, List, map, refl, ◌∙◌, ap, subst}
use Rattle.gcx_base.specs.declared.rel.Rel.TheVariants.{Eq}
use Rattle.gcx_model.specs.Tree.{serial_of, Tree, opening, is_closed}
use Rattle.gcx_model.specs.Paths.{matches, value}
use Rattle.gcx_model.specs.Members.{In}
use Rattle.gcx_model.specs.Growth.{Leads}
use Rattle.gcx_model.specs.Core.{BodyTree, Compare}
use Rattle.gcx_model.specs.declared.truth.Truth.TheVariants.{False}
use Rattle.gcx_model.specs.Truth.{Env, truth, settle}
use Rattle.base_laws.proofs.Members.{in_map, from_map}
use Rattle.pass_laws.specs.Idle.{IsQuiet, FreeIn}
use Rattle.pass_laws.specs.ValueLists.{IsListOf, IsFoundIn, IsValueAt}
use Rattle.pass_laws.proofs.Guards.{guarded_are_quiet}
use Rattle.pass_laws.proofs.Settled.{closed_are_settled}
use Rattle.pass_laws.proofs.Stay.{lists_tell}
use Rattle.pull_eval.specs.Guards.{IsGuardOf, own_path, other_path, left_path, right_path}
use Rattle.pull_eval.specs.declared.guard.Guard.{Guard}

module _ (P : Tree) (lo : Leads opening P) (g : Guard) (x : ℕ) (e : BodyTree) (is : IsGuardOf g x e) (env : Env) where
  abbrev own : ℕ
  own = g.own_var.0

  abbrev other : ℕ
  other = g.other_var.0

  -- the values of the other operand
  abbrev values : List (List ℕ)
  values = map (value P) (matches P (serial_of (env other)) g.other.now)

  module _ (own_in : In (env own) P.nodes) (own_closed : is_closed P (env own) ≡ true) (other_in : In (env other) P.nodes) (other_closed : is_closed P (env other) ≡ true)
      (apart : (v : List ℕ) → IsValueAt P (env own) g.own.now v → IsValueAt P (env other) g.other.now v → ⊥) where
    list : IsListOf P g.other.now (serial_of (env other)) values
    list = record {
      node = env other;
      among = other_in;
      serial = refl;
      closed = other_closed;
      values = λ v. (
        (λ i. from_map (value P) v (matches P (serial_of (env other)) g.other.now) i),
        (λ h. subst (λ (z : List ℕ). In z values) h.2 (in_map (value P) h.0 (matches P (serial_of (env other)) g.other.now) h.1)),
      );
    }

    not_found : IsFoundIn P (env own) g.own.now values → ⊥
    not_found f = apart (value P f.0) (f.0, f.1, refl) (from_map (value P) (value P f.0) (matches P (serial_of (env other)) g.other.now) f.3)

    -- the equality is false, whichever side is the left one
    untrue : (c : Bool) → truth (Compare (cond c (own_path g) (other_path g)) Eq (cond c (other_path g) (own_path g))) env P ≡ False
    untrue true = ((lists_tell P lo env other own g.other.now g.own.now values other_in own_in list).1 not_found).1 ∙ ap (settle false) own_closed
    untrue false = ((lists_tell P lo env other own g.other.now g.own.now values other_in own_in list).1 not_found).0 ∙ ap (settle false) own_closed

    pub quiet_there : ((z : ℕ) → FreeIn z e → is_closed P (env z) ≡ true) → IsQuiet e env P
    quiet_there closed = guarded_are_quiet P (left_path g) (right_path g) e env is.guarded (closed_are_settled P lo e env closed) (untrue g.is_left)
