-- What contracts see of a node's roles. The definitions here are this project's.
use Rattle.std.specs.Prelude.{refl}
use Rattle.std.specs.Coded.{Coded, code_by, coded×, coded_ℕ}
use Rattle.std.specs.Ordering.{nat_cmp}
use Rattle.std.specs.FinSet as set

-- the roles that a node holds, and those whose statements were carried out at it
pub record NodeSets : Type 0 where
  pub held : set.FinSet nat_cmp
  pub signed : set.FinSet nat_cmp

abbrev pub sets_code : Coded NodeSets
sets_code =
    code_by
    (set.FinSet nat_cmp × set.FinSet nat_cmp)
    (coded× (set.code coded_ℕ) (set.code coded_ℕ))
    (λ s. (s.held, s.signed))
    (λ p. record { held = p.0; signed = p.1 })
    (λ _. refl)
