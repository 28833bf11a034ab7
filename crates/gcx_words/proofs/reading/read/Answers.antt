use Rattle.std.proofs.Common.{ap, ◌∙◌}
use Rattle.clap.specs.Words.{is_simple_and_free}
use Rattle.gcx_words.proofs.Getters.{takes}
use Rattle.gcx_words.proofs.reading.read.Goals as goal

pub parsed-requires : goal.parsed-requires
parsed-requires c = record { simple = ap is_simple_and_free c.in_ok-parser_of.ensures ∙ takes c.args.name }
