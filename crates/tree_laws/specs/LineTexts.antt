-- The texts of a trace's lines.
use Rattle.std.specs.Prelude.{◌≡◌, ℕ, ◌<◌, ◌^◌, List}
use Rattle.gcx_base.specs.Name.{IsNameBytes}
use Rattle.gcx_model.specs.Members.{In}
use Rattle.gcx_model.specs.Demand.{LineKind, DocumentNode, ElementNode, TextNode, Line, Opened, Closed, Written, SignedOff, Left, line_text, text_of_lines}

-- the name of an element is one
abbrev pub IsKind : LineKind → Type 0
IsKind DocumentNode = Unit {0}
IsKind (ElementNode name) = IsNameBytes name
IsKind TextNode = Unit {0}

-- and the numbers are below 2^64
abbrev pub IsPlain : Line → Type 0
IsPlain (Opened s k roles) = (s < 2 ^ 64) × IsKind k × ((r : ℕ) → In r roles → r < 2 ^ 64)
IsPlain (Closed s) = s < 2 ^ 64
IsPlain (Written n) = n < 2 ^ 64
IsPlain (SignedOff m r) = (m < 2 ^ 64) × (r < 2 ^ 64)
IsPlain (Left s) = s < 2 ^ 64

-- The text of such a line determines it,
abbrev pub LineByText : Type 0
LineByText = (l m : Line) → IsPlain l → IsPlain m → line_text l ≡ line_text m → l ≡ m

-- and the text of such lines, each with its line end, determines them.
abbrev pub LinesByText : Type 0
LinesByText = (ls ms : List Line) → ((l : Line) → In l ls → IsPlain l) → ((m : Line) → In m ms → IsPlain m) → text_of_lines ls ≡ text_of_lines ms → ls ≡ ms
