-- The values of literals (this project's).
use Rattle.std.specs.Prelude.{[]}
use Rattle.gcx_model.specs.Values.{ComparedValue, Bytes, Units}
use Rattle.gcx_model.specs.declared.cond.Operand.{Operand}
use Rattle.gcx_model.specs.declared.cond.Operand.TheVariants as operand

abbrev pub literal_value : Operand → ComparedValue
literal_value (operand.Path x steps) = Bytes []
literal_value (operand.Str b) = Bytes b
literal_value (operand.Num l) = Units l

abbrev pub IsLiteral : Operand → Type 0
IsLiteral (operand.Path x steps) = ⊥
IsLiteral (operand.Str b) = Unit {0}
IsLiteral (operand.Num l) = Unit {0}
