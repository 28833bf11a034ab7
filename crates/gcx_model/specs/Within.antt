-- Documents within limits, in the words of their grammar (limits are this project's).
use Rattle.std.specs.Prelude.{ℕ, ◌≤◌, ◌+◌, List, length}
use lib.Utf8.{encodes}
use Rattle.gcx_base.specs.declared.limits.Limits.{Limits}
use Rattle.gcx_model.specs.Attributes.{Attributes, no_attribute, attribute, value_run}
use Rattle.gcx_model.specs.Grammar.{Content, nothing, mark, space, char, reference, cdata, comment, bare, instruction, doctype, single, tagged, text_run}

-- the attributes of an element at this depth: their names and values are short, and each counts as a child
abbrev pub AreAttributesWithin : Limits → (depth : ℕ) → Attributes → Type 0
AreAttributesWithin lim d no_attribute = Unit {0}
AreAttributesWithin lim d (attribute ats h v) = AreAttributesWithin lim d ats × (d + 1 ≤ lim.depth) × (length (encodes h.name) ≤ lim.name) × (length (value_run v) ≤ lim.text)

-- a tag of an element at this depth, and the run before it
abbrev pub IsTagWithin : Limits → (depth : ℕ) → (before : Content) → (name : List ℕ) → Attributes → Type 0
IsTagWithin lim d before n ats = (length (text_run before) ≤ lim.text) × (d ≤ lim.depth) × (length (encodes n) ≤ lim.name) × AreAttributesWithin lim d ats

-- content whose elements stand at this depth
abbrev pub IsContentWithin : Limits → (depth : ℕ) → Content → Type 0
IsContentWithin lim d nothing = Unit {0}
IsContentWithin lim d mark = Unit {0}
IsContentWithin lim d (space before c) = IsContentWithin lim d before
IsContentWithin lim d (char before c) = IsContentWithin lim d before
IsContentWithin lim d (reference before r) = IsContentWithin lim d before
IsContentWithin lim d (cdata before s) = IsContentWithin lim d before
IsContentWithin lim d (comment before t) = IsContentWithin lim d before
IsContentWithin lim d (bare before n) = IsContentWithin lim d before
IsContentWithin lim d (instruction before n c i) = IsContentWithin lim d before
IsContentWithin lim d (doctype before g c t) = IsContentWithin lim d before
IsContentWithin lim d (single before n ats sp) = IsContentWithin lim d before × IsTagWithin lim d before n ats
IsContentWithin lim d (tagged before n ats sp inner sp2) = IsContentWithin lim d before × IsTagWithin lim d before n ats × IsContentWithin lim (d + 1) inner × (length (text_run inner) ≤ lim.text)

-- The names in tags, the runs and the values of a document are short, and no element is too deep: its root stands at depth 1.
abbrev pub IsWithin : Limits → Content → Type 0
IsWithin lim x = IsContentWithin lim 1 x
