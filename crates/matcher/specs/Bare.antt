-- Nodes of which no frame is made (this project's). This follows the code: private functions and the model of `OpenFrames` alone speak of it.
use Rattle.std.specs.Prelude.{◌++◌, ◌-◌, ℕ, List, [], length, replicate}
use Rattle.matcher.specs.Parts.{NodeMarks, new_marks}

-- the marks of a node that is no context and no first match, and at which no statement is signed
abbrev pub bare_marks : NodeMarks
bare_marks = new_marks [] []

-- these, and behind them those of such nodes: so many in all
abbrev pub with_bare : List NodeMarks → ℕ → List NodeMarks
with_bare made count = made ++ replicate (count - length made) bare_marks
