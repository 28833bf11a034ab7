use Rattle.std.specs.Str.Parse.{ParsesUnsigned, ExplainsUnsignedError, HasUnsignedDigitsIfOk}
use Rattle.clap.specs.Words.{found_of}
use Rattle.gcx_words.proofs.Getters.{number_found}
use Rattle.gcx_words.proofs.found.any_number_found.Goals as goal

pub returns : goal.returns
returns c =
    number_found (λ bs r. ParsesUnsigned 64 10 bs r × ExplainsUnsignedError 10 bs r × HasUnsignedDigitsIfOk bs r) (λ u x h. h.0)
    (found_of c.args.matches.now) c.args.id.now c.get_one.result c.get_one.ensures.none c.get_one.ensures.value
