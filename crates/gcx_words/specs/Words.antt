-- Command: what a list of words asks for. The first word is looked up in the product's own table of names (this project's); all
-- of the words, the first of them as the command's name, are what `clap` finds for a simple command of that name.
use Rattle.std.specs.Prelude.{ℕ, Bool, true, ◌&&◌, List, [], ◌∷◌, codes, if◌then◌else◌, option_and_then, option_map}
use Rattle.std.specs.declared.option.Option.{Option}
use Rattle.std.specs.declared.option.Option.TheVariants.{Some, None}
use Rattle.std.specs.Str.{bytes_eq}
use Rattle.clap.specs.Words.{App, Row, Rule, Text, all_of, first_of, new_app, new_rule, with_rule}
use Rattle.clap.specs.declared.builder.ArgAction.TheVariants.{SetTrue}
use Rattle.clap.specs.declared.builder.ValueParser.TheVariants.{Unsigned}
use Rattle.clap.specs.Lexer.{usize_max}
use Rattle.gcx_words.specs.Pairs.{are_apart, are_paired, paired}
use Rattle.gcx_words.specs.Rows.{flag_at, found_by, number_at}
use Rattle.gcx_words.specs.declared.command.CommandName.{CommandName}
use Rattle.gcx_words.specs.declared.command.CommandName.TheVariants as name
use Rattle.gcx_words.specs.declared.command.Command.{Command}
use Rattle.gcx_words.specs.declared.command.Command.TheVariants.{Run, Whole, Explain, Peak, Gen, Selfrun, Many, Check}

-- ---- The table of names

abbrev pub named_by : Text → Option CommandName
named_by word =
    if bytes_eq word (codes "run") then Some name.Run
    else if bytes_eq word (codes "whole") then Some name.Whole
    else if bytes_eq word (codes "explain") then Some name.Explain
    else if bytes_eq word (codes "peak") then Some name.Peak
    else if bytes_eq word (codes "gen") then Some name.Gen
    else if bytes_eq word (codes "selfrun") then Some name.Selfrun
    else if bytes_eq word (codes "many") then Some name.Many
    else if bytes_eq word (codes "check") then Some name.Check
    else None

-- the command that the first word names
abbrev pub named : List Text → Option CommandName
named [] = None
named (word ∷ words) = named_by word

-- ---- Arguments as clap defines them

abbrev pub wanted : Text → Rule
wanted id = record (new_rule id) { required = true }

abbrev pub wanted_number : Text → (low high : ℕ) → Rule
wanted_number id low high = record (wanted id) { parser = Some (Unsigned low high) }

abbrev pub trace_rule : Rule
trace_rule = record (new_rule (codes "trace")) { long = Some (codes "trace"); action = Some SetTrue }

abbrev pub ahead_rule : Rule
ahead_rule = record (new_rule (codes "ahead")) { long = Some (codes "ahead"); parser = Some (Unsigned 1 1000) }

-- run [--trace] [--ahead K] QUERY DOC
abbrev pub run_app : App
run_app = with_rule (with_rule (with_rule (with_rule (new_app (codes "run")) trace_rule) ahead_rule) (wanted (codes "query"))) (wanted (codes "document"))

-- NAME QUERY DOC
abbrev pub pair_app : Text → App
pair_app name = with_rule (with_rule (new_app name) (wanted (codes "query"))) (wanted (codes "document"))

-- check QUERY DOC TRACE
abbrev pub check_app : App
check_app = with_rule (with_rule (with_rule (new_app (codes "check")) (wanted (codes "query"))) (wanted (codes "document"))) (wanted (codes "trace"))

-- explain QUERY
abbrev pub single_app : App
single_app = with_rule (new_app (codes "explain")) (wanted (codes "query"))

-- NAME SEED N
abbrev pub numbers_app : Text → App
numbers_app name = with_rule (with_rule (new_app name) (wanted_number (codes "seed") 0 4294967295)) (wanted_number (codes "count") 1 100000)

-- many DOC PAIR..
abbrev pub pair_rule : Rule
pair_rule = record (wanted (codes "pair")) { range = Some (record { start_inclusive = 1; end_inclusive = usize_max }) }

abbrev pub many_app : App
many_app = with_rule (with_rule (new_app (codes "many")) (wanted (codes "document"))) pair_rule

-- the command of this name
abbrev pub app_by : CommandName → App
app_by name.Run = run_app
app_by name.Whole = pair_app (codes "whole")
app_by name.Explain = single_app
app_by name.Peak = pair_app (codes "peak")
app_by name.Gen = numbers_app (codes "gen")
app_by name.Selfrun = numbers_app (codes "selfrun")
app_by name.Many = many_app
app_by name.Check = check_app

-- ---- The commands of what is found

-- a run with a trace takes no number of tokens
abbrev pub run_with : (trace : Bool) → (ahead : Option ℕ) → (query document : Text) → Option Command
run_with trace None query document = Some (Run trace 1 query document)
run_with trace (Some ahead) query document = if trace then None else Some (Run trace ahead query document)

abbrev pub pair_of : List Row → Option (Text × Text)
pair_of rows = option_and_then (λ query. option_map (λ document. (query, document)) (first_of (codes "document") rows)) (first_of (codes "query") rows)

abbrev pub numbers_of : List Row → Option (ℕ × ℕ)
numbers_of rows = option_and_then (λ seed. option_map (λ count. (seed, count)) (number_at 1 100000 (codes "count") rows)) (number_at 0 4294967295 (codes "seed") rows)

abbrev pub as_run : List Row → Option Command
as_run rows = option_and_then (λ p. run_with (flag_at (codes "trace") rows) (number_at 1 1000 (codes "ahead") rows) p.0 p.1) (pair_of rows)

abbrev pub as_whole : List Row → Option Command
as_whole rows = option_map (λ p. Whole p.0 p.1) (pair_of rows)

abbrev pub as_explain : List Row → Option Command
as_explain rows = option_map Explain (first_of (codes "query") rows)

abbrev pub as_peak : List Row → Option Command
as_peak rows = option_map (λ p. Peak p.0 p.1) (pair_of rows)

abbrev pub as_gen : List Row → Option Command
as_gen rows = option_map (λ p. Gen p.0 p.1) (numbers_of rows)

abbrev pub as_selfrun : List Row → Option Command
as_selfrun rows = option_map (λ p. Selfrun p.0 p.1) (numbers_of rows)

abbrev pub as_check : List Row → Option Command
as_check rows = option_and_then (λ p. option_map (λ trace. Check p.0 p.1 trace) (first_of (codes "trace") rows)) (pair_of rows)

-- the words behind DOC come in pairs, at most 16, and each OUT is a name of its own
abbrev pub many_with : (document : Text) → (words : List Text) → Option Command
many_with document words =
    if are_paired words && are_apart document (paired words) then Some (Many document (paired words)) else None

abbrev pub as_many : List Row → Option Command
as_many rows = option_and_then (λ document. option_and_then (many_with document) (all_of (codes "pair") rows))
    (first_of (codes "document") rows)

abbrev pub found_as : CommandName → List Row → Option Command
found_as name.Run rows = as_run rows
found_as name.Whole rows = as_whole rows
found_as name.Explain rows = as_explain rows
found_as name.Peak rows = as_peak rows
found_as name.Gen rows = as_gen rows
found_as name.Selfrun rows = as_selfrun rows
found_as name.Many rows = as_many rows
found_as name.Check rows = as_check rows

-- what all of the words ask for, where the first one names this command
abbrev pub read : CommandName → List Text → Option Command
read n words = option_and_then (found_as n) (found_by (app_by n) words)

-- Command
abbrev pub command_of : List Text → Option Command
command_of words = option_and_then (λ n. read n words) (named words)
