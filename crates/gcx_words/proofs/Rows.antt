-- The definition of a command computed on examples.
use Rattle.std.proofs.Common.{◌≡◌, true, false, [], ◌∷◌, Some, None, codes, refl}
use Rattle.clap.proofs.OnLiterals.{clap_on_literals}
use Rattle.gcx_words.specs.Rows.{found_by}
use Rattle.gcx_words.specs.Words.{command_of}
use Rattle.gcx_words.specs.declared.command.Command.TheVariants.{Run, Whole, Gen, Many}

plain_run : command_of (codes "run" ∷ codes "q" ∷ codes "d" ∷ []) ≡ Some (Run false 1 (codes "q") (codes "d"))
unfolding clap_on_literals found_by
plain_run = refl

traced_run : command_of (codes "run" ∷ codes "q" ∷ codes "d" ∷ codes "--trace" ∷ []) ≡ Some (Run true 1 (codes "q") (codes "d"))
unfolding clap_on_literals found_by
traced_run = refl

run_ahead : command_of (codes "run" ∷ codes "--ahead=007" ∷ codes "q" ∷ codes "d" ∷ []) ≡ Some (Run false 7 (codes "q") (codes "d"))
unfolding clap_on_literals found_by
run_ahead = refl

no_run : command_of (codes "run" ∷ codes "q" ∷ []) ≡ None
unfolding clap_on_literals found_by
no_run = refl

trace_and_ahead : command_of (codes "run" ∷ codes "--trace" ∷ codes "--ahead" ∷ codes "3" ∷ codes "q" ∷ codes "d" ∷ []) ≡ None
unfolding clap_on_literals found_by
trace_and_ahead = refl

whole_run : command_of (codes "whole" ∷ codes "--" ∷ codes "-a" ∷ codes "d" ∷ []) ≡ Some (Whole (codes "-a") (codes "d"))
unfolding clap_on_literals found_by
whole_run = refl

two_items : command_of (codes "gen" ∷ codes "5" ∷ codes "2" ∷ []) ≡ Some (Gen 5 2)
unfolding clap_on_literals found_by
two_items = refl

two_pairs : command_of (codes "many" ∷ codes "d" ∷ codes "q" ∷ codes "x" ∷ codes "q" ∷ codes "y" ∷ []) ≡ Some (Many (codes "d") (record { query = codes "q"; out = codes "x" } ∷ record { query = codes "q"; out = codes "y" } ∷ []))
unfolding clap_on_literals found_by
two_pairs = refl

outs_alike : command_of (codes "many" ∷ codes "d" ∷ codes "q" ∷ codes "x" ∷ codes "q" ∷ codes "x" ∷ []) ≡ None
unfolding clap_on_literals found_by
outs_alike = refl

no_out : command_of (codes "many" ∷ codes "d" ∷ codes "q" ∷ []) ≡ None
unfolding clap_on_literals found_by
no_out = refl

no_words : command_of [] ≡ None
no_words = refl

help : command_of (codes "--help" ∷ []) ≡ None
help = refl
