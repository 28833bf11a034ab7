-- What single edits make of a row.
use Rattle.std.specs.Prelude.{◌≡◌, ◌+◌, ◌==◌, ◌&&◌, ℕ, Bool, true, false, not, List, [], map}
use Rattle.std.specs.Ordering.{nat_cmp}
use Rattle.std.specs.FinSet as set
use Rattle.gcx_base.specs.declared.ids.Serial.{Serial}
use Rattle.gcx_base.specs.declared.kind.Kind.{Kind}
use Rattle.gcx_base.specs.declared.kind.Kind.TheVariants.{Document}
use Rattle.gcx_base.specs.Kinds.{is_text}
use Rattle.node_store.specs.Rows.{StoreRow}
use Rattle.buf_tree.specs.Row.{Row}

-- a text without a role
abbrev pub is_bare : Kind → set.FinSet nat_cmp → Bool
is_bare kind roles = is_text kind && (set.len roles == 0)

-- some role is in both sets
abbrev pub Meet : set.FinSet nat_cmp → set.FinSet nat_cmp → Type 0
Meet roles others = (k : ℕ) × (set.contains roles k ≡ true) × (set.contains others k ≡ true)

abbrev pub serials : List Serial → List ℕ
serials ss = map (λ (s : Serial). s.0) ss

-- the row of the open document node with these roles
abbrev pub document_row : set.FinSet nat_cmp → Row
document_row roles = record { serial = 0; parent = 0; level = 0; is_open = true; kind = Document; roles = roles; signed = set.empty; covered = false }

-- the row of a new child of the node with this serial and level
abbrev pub below_row : (parent level serial : ℕ) → Kind → set.FinSet nat_cmp → Row
below_row parent level serial kind roles = record { serial = serial; parent = parent; level = level + 1; is_open = not (is_text kind); kind = kind; roles = roles; signed = set.empty; covered = false }

-- the row closed
abbrev pub shut_row : Row → Row
shut_row r = record r { is_open = false }

-- without the role k
abbrev pub untaken : ℕ → Row → Row
untaken k r = record r { roles = set.remove r.roles k }

-- signed for the statement of the role k
abbrev pub signed_for : ℕ → Row → Row
signed_for k r = record r { signed = set.insert r.signed k }

-- whether some row above keeps a role of whole subtrees
abbrev pub covered_by : Bool → Row → Row
covered_by b r = record r { covered = b }

-- closed and without a role, one from above among them
abbrev pub IsDead : Row → Type 0
IsDead r = (r.is_open ≡ false) × (r.roles ≡ set.empty) × (r.covered ≡ false)

-- and without a child
abbrev pub IsSpare : StoreRow Row → Type 0
IsSpare e = (e.payload.is_open ≡ false) × (e.payload.roles ≡ set.empty) × (e.payload.covered ≡ false) × (e.children ≡ [])
