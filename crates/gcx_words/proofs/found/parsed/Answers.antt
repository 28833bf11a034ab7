use Rattle.std.proofs.Common.{map, ◌∙◌}
use Rattle.clap.specs.Words.{app_of}
use Rattle.gcx_words.proofs.Getters.{found_rows, refused_rows}
use Rattle.gcx_words.proofs.found.parsed.Goals as goal

pub returns-in-Ok : goal.returns-in-Ok
returns-in-Ok g c =
    let parse = c.try_get_matches_from in
    found_rows (app_of c.args.parser) c.requires.simple (map g.S.AsStr.text c.args.words.now) parse.result _ c.in-Ok.is parse.ensures.kinds parse.ensures.matches

pub returns : goal.returns
returns g c =
    let parse = c.try_get_matches_from in
    refused_rows (app_of c.args.parser) c.requires.simple (map g.S.AsStr.text c.args.words.now) parse.result _ c.in-Err.is parse.ensures.kinds
    (λ m. c.in_default.not-OutOfMemory (c.kind.ensures ∙ m))
