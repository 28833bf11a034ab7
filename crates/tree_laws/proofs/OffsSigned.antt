-- A node is signed for a statement where the actions have the Off of both.
use Rattle.std.proofs.Common.{◌≡◌, ℕ, true, false, refl, ◌∙◌, ap, subst, eqb}
use Rattle.std.proofs.lemmas.Bool.{and_parts, and_from, false≢true, eqb-true, eq-eqb}
use Rattle.gcx_model.specs.Tree.{serial_of}
use Rattle.gcx_model.specs.Members.{In}
use Rattle.gcx_model.specs.Core.{OffTree}
use Rattle.gcx_model.specs.Run.{Action, Wrote, Offed}
use Rattle.gcx_model.specs.Held.{is_off}
use Rattle.tree_laws.specs.Signing.{SignedIsOff}
use Rattle.gcx_model.specs.Equal.{off_eq}
use Rattle.tree_laws.proofs.Equal.{off_refl, off_same}
use Rattle.tree_laws.proofs.Lists.{any_in, any_from}

off_is : (s : OffTree) (m : ℕ) (a : Action) → is_off s m a ≡ true → a ≡ Offed s m
off_is s m (Wrote b) h = absurd (false≢true h)
off_is s m (Offed o n) h = let q = and_parts (off_eq s o) (eqb n m) h in ap (λ z. Offed z n) (off_same s o q.0) ∙ ap (Offed s) (eqb-true _ _ q.1)

pub signed_is_off : SignedIsOff
signed_is_off A s m = (
  (λ h.
      let a = any_in (is_off s (serial_of m)) A h in
      subst (λ (z : Action). In z A) (off_is s (serial_of m) a.0 a.2) a.1),
  (λ i. any_from (is_off s (serial_of m)) (Offed s (serial_of m)) A i (and_from (off_eq s s) (eqb (serial_of m) (serial_of m)) (off_refl s) (eq-eqb (serial_of m) (serial_of m) refl))),
)
