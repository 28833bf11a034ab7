-- The line that says why a run didn't end well (this project's).
use Rattle.std.specs.Prelude.{ℕ, List, [], ◌∷◌, ◌++◌, codes, decimal}
use Rattle.gcx_model.specs.declared.fault.DocFault.{DocFault}
use Rattle.gcx_model.specs.declared.fault.DocFault.TheVariants as doc
use Rattle.gcx_model.specs.declared.fault.QueryFault.{QueryFault}
use Rattle.gcx_model.specs.declared.fault.QueryFault.TheVariants as query
use Rattle.gcx_model.specs.declared.fault.What.{What}
use Rattle.gcx_model.specs.declared.fault.What.TheVariants as what
use Rattle.gcx_cmd.specs.declared.status.Status.{Status}
use Rattle.gcx_cmd.specs.declared.status.Status.TheVariants as status

-- the line's end
abbrev pub newline : List ℕ
newline = 10 ∷ []

-- a number behind words
abbrev pub numbered : List ℕ → ℕ → List ℕ
numbered words number = words ++ (decimal number ++ newline)

abbrev pub limit_words : What → List ℕ
limit_words what.Text = codes "gcx: query TooLarge Text "
limit_words what.Nesting = codes "gcx: query TooLarge Nesting "
limit_words what.Loops = codes "gcx: query TooLarge Loops "
limit_words what.Steps = codes "gcx: query TooLarge Steps "
limit_words what.Conditions = codes "gcx: query TooLarge Conditions "
limit_words what.Roles = codes "gcx: query TooLarge Roles "
limit_words what.Descendants = codes "gcx: query TooLarge Descendants "

abbrev pub query_line : QueryFault → List ℕ
query_line (query.Utf8 at) = numbered (codes "gcx: query Utf8 ") at
query_line (query.Lex at) = numbered (codes "gcx: query Lex ") at
query_line (query.Syntax at) = numbered (codes "gcx: query Syntax ") at
query_line (query.UnknownVar at) = numbered (codes "gcx: query UnknownVar ") at
query_line (query.TagMismatch at) = numbered (codes "gcx: query TagMismatch ") at
query_line (query.DescendantNotLast at) = numbered (codes "gcx: query DescendantNotLast ") at
query_line (query.IntegerWide at) = numbered (codes "gcx: query IntegerWide ") at
query_line (query.TooLarge which limit) = numbered (limit_words which) limit
query_line query.Memory = codes "gcx: out of memory" ++ newline

abbrev pub document_line : DocFault → List ℕ
document_line (doc.Utf8 at) = numbered (codes "gcx: document Utf8 ") at
document_line (doc.Syntax at) = numbered (codes "gcx: document Syntax ") at
document_line (doc.Truncated at) = numbered (codes "gcx: document Truncated ") at
document_line (doc.Depth at) = numbered (codes "gcx: document Depth ") at
document_line (doc.NameLong at) = numbered (codes "gcx: document NameLong ") at
document_line (doc.TextLong at) = numbered (codes "gcx: document TextLong ") at
document_line (doc.TooLong at) = numbered (codes "gcx: document TooLong ") at
document_line doc.Memory = codes "gcx: out of memory" ++ newline

-- the line of a status, with its end; none at Ok
abbrev pub line_of : Status → List ℕ
line_of status.Ok = []
line_of status.Usage = codes "gcx: the words are not a command line" ++ newline
line_of (status.QueryRefused f) = query_line f
line_of (status.DocumentRefused f) = document_line f
line_of status.ReadFault = codes "gcx: read fault" ++ newline
line_of status.WriteFault = codes "gcx: write fault" ++ newline
line_of status.Memory = codes "gcx: out of memory" ++ newline
line_of (status.TraceRefused n) = numbered (codes "gcx: trace ") n
