-- Rising lists of roles (this project's).
use Rattle.std.specs.Prelude.{◌<◌, List, [], ◌∷◌}
use Rattle.gcx_base.specs.declared.ids.Role.{Role}

-- each role is below the next one
abbrev pub IsRising : List Role → Type 0
IsRising [] = Unit {0}
IsRising (r ∷ []) = Unit {0}
IsRising (r ∷ (s ∷ rest)) = (r.0 < s.0) × IsRising (s ∷ rest)

-- the role is above the last one of the list, if there is one
abbrev pub IsAboveLast : List Role → Role → Type 0
IsAboveLast [] role = Unit {0}
IsAboveLast (r ∷ []) role = r.0 < role.0
IsAboveLast (r ∷ (s ∷ rest)) role = IsAboveLast (s ∷ rest) role
