-- The files of the commands (this project's).
use Rattle.std.specs.Prelude.{◌≡◌, ◌⊎◌, ℕ, List, [], ◌∷◌, ◌++◌, map, true, Option, ⊤}
use Rattle.std.specs.declared.option.Option.TheVariants as option
use Rattle.gcx_io.specs.Shelf.{IsMissing}
use Rattle.gcx_io.specs.Views.{ShelfView, missed}
use Rattle.gcx_model.specs.Members.{In}
use Rattle.gcx_words.specs.declared.command.Command.{Command}
use Rattle.gcx_words.specs.declared.command.Command.TheVariants.{Run, Whole, Explain, Peak, Gen, Selfrun, Many, Check}

-- QUERY of a command that has one
abbrev pub query_of : Command → Option (List ℕ)
query_of (Run trace ahead query document) = option.Some query
query_of (Whole query document) = option.Some query
query_of (Explain query) = option.Some query
query_of (Peak query document) = option.Some query
query_of (Gen seed count) = option.None
query_of (Selfrun seed count) = option.None
query_of (Many document pairs) = option.None
query_of (Check query document trace) = option.Some query

-- DOC of a command that has one
abbrev pub document_of : Command → Option (List ℕ)
document_of (Run trace ahead query document) = option.Some document
document_of (Whole query document) = option.Some document
document_of (Explain query) = option.None
document_of (Peak query document) = option.Some document
document_of (Gen seed count) = option.None
document_of (Selfrun seed count) = option.None
document_of (Many document pairs) = option.Some document
document_of (Check query document trace) = option.Some document

-- TRACE of a command that has one
abbrev pub trace_file : Command → Option (List ℕ)
trace_file (Check query document trace) = option.Some trace
trace_file command = option.None

-- the QUERYs of `many`
abbrev pub queries_of : Command → List (List ℕ)
queries_of (Many document pairs) = map (λ p. p.query) pairs
queries_of command = []

-- its OUTs
abbrev pub outs_of : Command → List (List ℕ)
outs_of (Many document pairs) = map (λ p. p.out) pairs
outs_of command = []

-- it is `many`
abbrev pub IsMany : Command → Type 0
IsMany (Many document pairs) = ⊤
IsMany command = ⊥

-- it is `run --trace`
abbrev pub IsTraced : Command → Type 0
IsTraced (Run trace ahead query document) = trace ≡ true
IsTraced command = ⊥

-- the command reads the file of this name
abbrev pub HasFile : Command → List ℕ → Type 0
HasFile command name = (query_of command ≡ option.Some name)
    ⊎ ((document_of command ≡ option.Some name) ⊎ ((trace_file command ≡ option.Some name) ⊎ In name (queries_of command)))

-- The command has a file whose attach failed, and the shelf tells its names and this one isn't there.
pub record LacksFile (command : Command) (a b : ShelfView) : Type 0 where
  pub name : List ℕ
  pub is_file : HasFile command name
  pub missing : IsMissing a.names name
  pub behind : ℕ
  pub listed : b.refused ≡ a.refused ++ missed name behind ∷ []
