-- Names in a query: those of XML 1.0 (fifth edition, section 2.3), of which each ends before the first place where two
-- colons stand side by side, and doesn't begin with two (this project's).
use Rattle.std.specs.Prelude.{ℕ, ◌==◌, Bool, false, not, ◌&&◌, ◌||◌, if◌then◌else◌, List, [], ◌∷◌, ◌++◌}
use Rattle.gcx_base.specs.Characters.{is_start_char, is_part_char}
use Rattle.gcx_base.specs.Name.{is_name}
use Rattle.xq_lex.specs.Sign.{begins}

-- the text begins with two colons side by side
abbrev pub is_pair : List ℕ → Bool
is_pair [] = false
is_pair (c ∷ cs) = (c == 58) && begins 58 cs

-- two colons side by side begin at one of these characters, behind which `rest` stands
abbrev pub has_pair : (chars rest : List ℕ) → Bool
has_pair [] rest = false
has_pair (c ∷ cs) rest = is_pair (c ∷ (cs ++ rest)) || has_pair cs rest

-- a name in a query, where `rest` follows
abbrev pub is_query_name : (chars rest : List ℕ) → Bool
is_query_name chars rest = is_name chars && not (has_pair chars rest)

-- Which characters begin a name, and which go on one.
unfoldable pub may_begin : ℕ → Bool
may_begin c = is_start_char c

unfoldable pub may_go_on : ℕ → Bool
may_go_on c = is_part_char c

-- the longest front of characters that a name may have behind its first
abbrev pub parts_at : List ℕ → List ℕ
parts_at [] = []
parts_at (c ∷ cs) = if may_go_on c && not (is_pair (c ∷ cs)) then c ∷ parts_at cs else []

-- the longest name at the front, or nothing
abbrev pub name_at : List ℕ → List ℕ
name_at [] = []
name_at (c ∷ cs) = if may_begin c then parts_at (c ∷ cs) else []
