-- What the parts of a line write.
use Rattle.std.specs.Prelude.{ℕ, ◌≤◌, List, [], ◌++◌, length, decimal, Option, Some, None}
use Rattle.gcx_cmd.specs.declared.diagnosis.Line.{Line}
use Rattle.gcx_cmd.specs.Diagnosis.{newline}

abbrev pub number_bytes : Option ℕ → List ℕ
number_bytes None = []
number_bytes (Some n) = decimal n

-- the line, with its end
abbrev pub bytes_of : Line → List ℕ
bytes_of line = line.words.now ++ (number_bytes line.number ++ newline)

abbrev pub line_bytes : Option Line → List ℕ
line_bytes None = []
line_bytes (Some line) = bytes_of line

-- its words are few bytes
abbrev pub HasShortWords : Line → Type 0
HasShortWords line = length line.words.now ≤ 38
