-- Rising lists of roles: what a push keeps, and what a caller that counts up needs.
use Rattle.std.proofs.Common.{◌<◌, List, [], ◌∷◌, ◌++◌}
use Rattle.gcx_base.specs.declared.ids.Role.{Role}
use Rattle.gcx_model.specs.Given.{IsRising, IsAboveLast}

pub rising_push : (roles : List Role) (role : Role) → IsRising roles → IsAboveLast roles role → IsRising (roles ++ role ∷ [])
rising_push [] role h a = tt
rising_push (r ∷ []) role h a = (a, tt)
rising_push (r ∷ (s ∷ rest)) role h a = (h.0, rising_push (s ∷ rest) role h.1 a)

-- a role above the one that was pushed is above the last one
pub above_pushed : (roles : List Role) (role next : Role) → role.0 < next.0 → IsAboveLast (roles ++ role ∷ []) next
above_pushed [] role next h = h
above_pushed (r ∷ []) role next h = h
above_pushed (r ∷ (s ∷ rest)) role next h = above_pushed (s ∷ rest) role next h
