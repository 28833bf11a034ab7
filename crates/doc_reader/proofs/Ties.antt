-- The characters of a stream and those of the faults are the same.
use Rattle.std.proofs.Common.{ℕ, ◌≡◌, true, List, ◌++◌, Option, Some, None}
use lib.Utf8.{scalars, encodes}
use Rattle.gcx_model.specs.Faults as faults
use Rattle.doc_chars.specs.declared.chars.CharFault.{CharFault}
use Rattle.doc_chars.specs.Stream.{Carry, StandsFor, GoesOn}
use Rattle.doc_chars.proofs.Streams.{scalars_of}

pub decodes_tie : (carry : Carry) (b cs : List ℕ) → StandsFor carry b cs → faults.Decodes b cs carry.bytes
decodes_tie carry b cs s = record { chars = scalars_of cs s.decodes.chars; parts = s.decodes.bytes; part = s.decodes.front }

-- the characters that a piece gives, and what stands behind them
pub record Parts (b cs : List ℕ) : Type 0 where
  pub scalars_are : scalars cs ≡ true
  pub rest : List ℕ
  pub parts : b ≡ encodes cs ++ rest

pub parts_of : (o : Option CharFault) (carry : Carry) (b cs : List ℕ) → GoesOn o carry b cs → Parts b cs
parts_of None carry b cs s = record { scalars_are = scalars_of cs s.decodes.chars; rest = carry.bytes; parts = s.decodes.bytes }
parts_of (Some f) carry b cs s = record { scalars_are = scalars_of cs s.chars; rest = s.rest; parts = s.bytes }
