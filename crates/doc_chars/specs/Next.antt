-- These definitions follow the code; no public clause speaks of them.
-- What a character does to the state of a reference.
use Rattle.std.specs.Prelude.{ℕ, List}
use Rattle.doc_chars.specs.declared.reference.Next.{Next}
use Rattle.doc_chars.specs.declared.reference.Next.TheVariants as nexts
use Rattle.doc_chars.specs.Reference.{Refers, NeverRefers}
use Rattle.doc_chars.specs.References.{StandsForText, IsSound}

-- with the character the characters are these
abbrev pub Leads : Next → List ℕ → Type 0
Leads (nexts.More state) text = StandsForText state text
Leads (nexts.Done c) text = Refers text c
Leads nexts.Bad text = NeverRefers text

abbrev pub IsSoundNext : Next → Type 0
IsSoundNext (nexts.More state) = IsSound state
IsSoundNext (nexts.Done c) = Unit {0}
IsSoundNext nexts.Bad = Unit {0}
