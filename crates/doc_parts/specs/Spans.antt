-- These definitions follow the code; no public clause speaks of them.
-- Characters that are read as a whole (this project's).
use Rattle.std.specs.Prelude.{ℕ, ◌≡◌, ◌≤◌, ◌<◌, ◌-◌, ◌==◌, Bool, true, false, not, ◌&&◌, ◌||◌, nat_lt, List, ◌++◌, length, take, slice_index}
use Rattle.std.specs.List.{list_all}
use Rattle.std.specs.Str.{chars, IsCharBoundary}
use Rattle.memchr.specs.Find.{Nowhere, Passes, is_byte, is_byte2, is_byte3}
use Rattle.gcx_base.specs.Characters.{between, is_char, is_part_char}
use Rattle.gcx_base.specs.Name.{is_name}
use Rattle.gcx_base.specs.declared.limits.Limits.{Limits}
use Rattle.gcx_model.specs.Attributes.{is_text_char, is_value_char}
use Rattle.gcx_model.specs.Fronts.{is_inside}
use Rattle.doc_laws.specs.Machine as laws
use Rattle.doc_laws.specs.Machine.{State}
use Rattle.doc_machine.specs.Machine.{quote_of}
use Rattle.doc_parts.specs.declared.span.Span.{Span}
use Rattle.doc_parts.specs.declared.span.Span.TheVariants as spans

-- the characters that stand in a span
abbrev pub stands : Span → ℕ → Bool
stands spans.Text c = is_text_char c
stands (spans.Value q) c = is_value_char (quote_of q) c
stands spans.TagName c = is_part_char c
stands spans.AttributeName c = is_part_char c
stands spans.Comment c = is_char c && not (c == 45)
stands spans.Instruction c = is_char c && not (c == 63)
stands spans.CDSect c = is_char c && not (c == 93)

-- the members of NameChar below #x80
abbrev pub is_short_part : ℕ → Bool
is_short_part b = (b == 45) || ((b == 46) || (between 48 57 b || ((b == 58) || (between 65 90 b || ((b == 95) || between 97 122 b)))))

abbrev pub is_name_span : Span → Bool
is_name_span spans.TagName = true
is_name_span spans.AttributeName = true
is_name_span other = false

-- the bytes at which a span may end, where it isn't a name
abbrev pub is_stop : Span → ℕ → Bool
is_stop spans.Text = is_byte2 60 38
is_stop (spans.Value q) = is_byte3 60 38 (quote_of q)
is_stop spans.TagName = λ b. false
is_stop spans.AttributeName = λ b. false
is_stop spans.Comment = is_byte 45
is_stop spans.Instruction = is_byte 63
is_stop spans.CDSect = is_byte 93

-- the first such byte, or the end
pub record IsStop (n : ℕ) (span : Span) (bytes : List ℕ) : Type 0 where
  pub within : n ≤ length bytes
  pub before : Nowhere (Passes (is_stop span) bytes) 0 n
  pub found : n < length bytes → is_stop span (slice_index bytes n) ≡ true

-- the first n bytes are characters of which each passes the test
pub record IsFrontOf (p : ℕ → Bool) (n : ℕ) (text : List ℕ) : Type 0 where
  pub boundary : IsCharBoundary text n
  pub inside : list_all p (chars (take n text)) ≡ true

-- the first n bytes are NameChars
abbrev pub IsPartFront : ℕ → List ℕ → Type 0
IsPartFront n text = IsFrontOf is_part_char n text

-- the first n bytes are a name, or n is 0
pub record IsNameFront (n : ℕ) (text : List ℕ) : Type 0 where
  pub boundary : IsCharBoundary text n
  pub name : 0 < n → is_name (chars (take n text)) ≡ true

-- the first n bytes are characters of the span, and at most so many
pub record IsSpanFront (n most : ℕ) (span : Span) (text : List ℕ) : Type 0 where
  pub few : n ≤ most
  pub front : IsFrontOf (stands span) n text

-- the state with bytes of the span more
abbrev pub spread : Span → State → List ℕ → State
spread spans.Text s bytes = record s { run = s.run ++ bytes }
spread (spans.Value q) s bytes = record s { run = s.run ++ bytes }
spread spans.TagName s bytes = record s { name = s.name ++ bytes }
spread spans.AttributeName s bytes = record s { attr = s.attr ++ bytes }
spread spans.Comment s bytes = s
spread spans.Instruction s bytes = s
spread spans.CDSect s bytes = record s { run = s.run ++ bytes }

-- the mode is that of the span, and there is room for so many bytes
abbrev pub HasRoom : Limits → ℕ → Span → State → Type 0
HasRoom lim most spans.Text s = (s.mode ≡ laws.Between) × (is_inside s.names ≡ true) × (most ≤ lim.text - length s.run)
HasRoom lim most (spans.Value q) s = (s.mode ≡ laws.InValue (quote_of q)) × (most ≤ lim.text - length s.run)
HasRoom lim most spans.TagName s = (s.mode ≡ laws.StartName) × (most ≤ lim.name - length s.name)
HasRoom lim most spans.AttributeName s = (s.mode ≡ laws.AttributeName) × (most ≤ lim.name - length s.attr)
HasRoom lim most spans.Comment s = s.mode ≡ laws.Comment
HasRoom lim most spans.Instruction s = s.mode ≡ laws.InInstruction 0
HasRoom lim most spans.CDSect s = (s.mode ≡ laws.InCDSect 0) × (most ≤ lim.text - length s.run)

pub record Allows (lim : Limits) (most : ℕ) (span : Span) (s : State) : Type 0 where
  pub run : length s.run ≤ lim.text
  pub room : HasRoom lim most span s

abbrev pub is_ascii_byte : ℕ → Bool
is_ascii_byte b = nat_lt b 128

-- both begin with the same n bytes, which are ASCII
pub record IsSameFront (n : ℕ) (left bytes : List ℕ) : Type 0 where
  pub short : n ≤ length left
  pub within : n ≤ length bytes
  pub same : take n left ≡ take n bytes
  pub ascii : list_all is_ascii_byte (take n bytes) ≡ true
