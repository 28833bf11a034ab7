-- How the lines of the code are seen as lines of a trace (this project's).
use Rattle.std.specs.Prelude.{◌<◌, ◌^◌, List, map}
use Rattle.gcx_base.specs.declared.ids.Role.{Role}
use Rattle.gcx_base.specs.Name.{IsNameBytes}
use Rattle.gcx_model.specs.Given.{IsRising}
use Rattle.gcx_model.specs.Members.{In}
use Rattle.gcx_model.specs.Demand as tree
use Rattle.buf_trace.specs.declared.line.LineKind.{LineKind}
use Rattle.buf_trace.specs.declared.line.LineKind.TheVariants as kind
use Rattle.buf_trace.specs.declared.line.Line.{Line}
use Rattle.buf_trace.specs.declared.line.Line.TheVariants as line

abbrev pub kind_tree : LineKind → tree.LineKind
kind_tree kind.Document = tree.DocumentNode
kind_tree (kind.Element name) = tree.ElementNode name
kind_tree kind.Text = tree.TextNode

-- the line with plain numbers
abbrev pub line_tree : Line → tree.Line
line_tree (line.Opened serial kind given) = tree.Opened serial.0 (kind_tree kind) (map (λ r. r.0) given)
line_tree (line.Closed serial) = tree.Closed serial.0
line_tree (line.Wrote bytes) = tree.Written bytes
line_tree (line.SignedOff serial role) = tree.SignedOff serial.0 role.0
line_tree (line.Gone serial) = tree.Left serial.0

-- What the code's types hold: the name of an element is one,
abbrev pub IsKind : LineKind → Type 0
IsKind kind.Document = Unit {0}
IsKind (kind.Element name) = IsNameBytes name
IsKind kind.Text = Unit {0}

-- roles rise, each below 2^32,
abbrev pub IsGiven : List Role → Type 0
IsGiven roles = IsRising roles × ((r : Role) → In r roles → r.0 < 2 ^ 32)

-- and the other numbers are below 2^64.
abbrev pub IsLine : Line → Type 0
IsLine (line.Opened serial kind given) = (serial.0 < 2 ^ 64) × IsKind kind × IsGiven given
IsLine (line.Closed serial) = serial.0 < 2 ^ 64
IsLine (line.Wrote bytes) = bytes < 2 ^ 64
IsLine (line.SignedOff serial role) = (serial.0 < 2 ^ 64) × (role.0 < 2 ^ 32)
IsLine (line.Gone serial) = serial.0 < 2 ^ 64
