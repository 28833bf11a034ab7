-- What contracts see of a row.
use Rattle.std.specs.Prelude.{ℕ, Bool, refl}
use Rattle.std.specs.Coded.{Coded, code_by, coded×, coded_ℕ, coded_bool}
use Rattle.std.specs.Ordering.{nat_cmp}
use Rattle.std.specs.FinSet.{FinSet, code}
use Rattle.gcx_base.specs.declared.kind.Kind.{Kind}

-- A node's number in document order, that of its parent (0 for the document node), how deep it lies, whether it is open, what it is, the roles that it has, those whose statements were carried out at it, and whether some row above it keeps a role of whole subtrees.
pub record Row : Type 0 where
  pub serial : ℕ
  pub parent : ℕ
  pub level : ℕ
  pub is_open : Bool
  pub kind : Kind
  pub roles : FinSet nat_cmp
  pub signed : FinSet nat_cmp
  pub covered : Bool

abbrev pub row_code : Coded Kind → Coded Row
row_code kind =
    code_by
    (ℕ × (ℕ × (ℕ × (Bool × (Kind × (FinSet nat_cmp × (FinSet nat_cmp × Bool)))))))
    (coded× coded_ℕ (coded× coded_ℕ (coded× coded_ℕ (coded× coded_bool (coded× kind (coded× (code coded_ℕ) (coded× (code coded_ℕ) coded_bool)))))))
    (λ r. (r.serial, (r.parent, (r.level, (r.is_open, (r.kind, (r.roles, (r.signed, r.covered))))))))
    (λ p. record { serial = p.0; parent = p.1.0; level = p.1.1.0; is_open = p.1.1.1.0; kind = p.1.1.1.1.0; roles = p.1.1.1.1.1.0; signed = p.1.1.1.1.1.1.0; covered = p.1.1.1.1.1.1.1 })
    (λ _. refl)
