-- What a slot owns and lends, which holds a value or none. This follows the code: only private types speak of it.
use Rattle.std.specs.Prelude.{Option, Some, None}
use base.Fml.{Lft, Fml, ftrue}
use denote.RattleType.{RattleType}
use denote.RawPtr.{Ptr}
use denote.Struct.Lending.{lent_at}

-- nothing, where there is no value
abbrev pub where_some : {X : Type 0} → (X → Fml) → Option X → Fml
where_some F None = ftrue
where_some F (Some x) = F x

abbrev pub held_lent : (R : RattleType) → Option R.Denot → Ptr → Lft → Fml
held_lent R d p κ = where_some (λ x. lent_at R p x κ) d
