-- Refusals beside want of memory.
use Rattle.gcx_model.specs.declared.fault.QueryFault.{QueryFault}
use Rattle.gcx_model.specs.declared.fault.QueryFault.TheVariants.{Utf8, Lex, Syntax, UnknownVar, TagMismatch, DescendantNotLast, IntegerWide, TooLarge, Memory}

-- P holds of the fault, unless it is want of memory
abbrev pub UnlessMemory : (QueryFault → Type 0) → QueryFault → Type 0
UnlessMemory P Memory = Unit {0}
UnlessMemory P (Utf8 at) = P (Utf8 at)
UnlessMemory P (Lex at) = P (Lex at)
UnlessMemory P (Syntax at) = P (Syntax at)
UnlessMemory P (UnknownVar at) = P (UnknownVar at)
UnlessMemory P (TagMismatch at) = P (TagMismatch at)
UnlessMemory P (DescendantNotLast at) = P (DescendantNotLast at)
UnlessMemory P (IntegerWide at) = P (IntegerWide at)
UnlessMemory P (TooLarge what limit) = P (TooLarge what limit)
