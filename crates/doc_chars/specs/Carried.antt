-- These definitions follow the code; no public clause speaks of them.
-- What the fields of `Chars` mean.
use Rattle.std.specs.Prelude.{◌≤◌, ℕ, take}
use Rattle.doc_chars.specs.declared.chars.Chars.TheInside.{Inside}
use Rattle.doc_chars.specs.declared.chars.CharFault.{CharFault}
use Rattle.doc_chars.specs.declared.chars.CharFault.TheVariants.{Utf8, Char}
use Rattle.doc_chars.specs.declared.scan.Cause.{Cause}
use Rattle.doc_chars.specs.declared.scan.Cause.TheVariants.{NotUtf8, NotChar}
use Rattle.doc_chars.specs.Stream.{IsCharFront, Carry}

abbrev pub carry_of : Inside → Carry
carry_of a = record { bytes = take a.count a.bytes; seen = a.seen }

-- what is carried is a proper front of a character, and among the bytes seen
pub record IsKept (a : Inside) : Type 0 where
  pub front : IsCharFront (take a.count a.bytes)
  pub room : a.count ≤ 4
  pub seen : a.count ≤ a.seen

abbrev pub fault_of : Cause → ℕ → CharFault
fault_of NotUtf8 place = Utf8 place
fault_of NotChar place = Char place
