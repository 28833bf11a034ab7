-- What a command does is what the command line that asks for it does.
use Rattle.std.proofs.Common.{◌≡◌, inl, inr, ℕ, List, [], Option, Some, None, refl, sym, ◌∙◌, subst, arith}
use Rattle.gcx_gen.specs.Generated.{document}
use Rattle.gcx_io.proofs.Written.{takes_none}
use Rattle.gcx_io.specs.Views.{ShelfView, SinkView}
use Rattle.gcx_words.specs.declared.command.Command.{Command}
use Rattle.gcx_words.specs.declared.command.Command.TheVariants.{Run, Whole, Explain, Peak, Gen, Selfrun, Many, Check}
use Rattle.run_words.specs.Writing.{TakesFront}
use Rattle.gcx_cmd.proofs.Along.{keeps_same}
use Rattle.gcx_cmd.proofs.Stops.{keeps_of}
use Rattle.gcx_cmd.specs.Does.{DoesIf, Obeys}
use Rattle.gcx_cmd.specs.World.{World, Untouched}
use Rattle.gcx_cmd.specs.QueryDoes.{RunsOutInText}
use Rattle.gcx_cmd.specs.Reads.{Opens}
use Rattle.gcx_cmd.specs.declared.status.Status.{Status}
use Rattle.gcx_cmd.specs.declared.status.Status.TheVariants as status

-- what the command is does so
pub obeyed : (c d : Command) (s : Status) (a b : World) → c ≡ d → DoesIf (Some d) s a b → DoesIf (Some c) s a b
obeyed c d s a b is does = subst (λ (k : Command). DoesIf (Some k) s a b) (sym is) does

-- so does what was found
pub found_does : (found asked : Option Command) (c : Command) (s : Status) (a b : World) → found ≡ asked → found ≡ Some c → DoesIf (Some c) s a b → DoesIf asked s a b
found_does found asked c s a b same is does = subst (λ (o : Option Command). DoesIf o s a b) (sym is ∙ same) does

-- nothing happened where there is no command
pub nothing_done : (found asked : Option Command) (a : World) → found ≡ asked → found ≡ None → DoesIf asked status.Usage a a
nothing_done found asked a same is = subst (λ (o : Option Command). DoesIf o status.Usage a a) (sym is ∙ same) (inl refl, refl)

-- ---- memory ran out before the command was known

none_opened : (a : ShelfView) → Opens 0 a a
none_opened a = record { count = omega arith; refused = refl }

runs_out : (q : List ℕ) (a : ShelfView) → RunsOutInText q a a
runs_out q a = inl (none_opened a)

nothing : (a : World) → Untouched a a
nothing a = record { out = refl; err = refl; store = refl }

no_front : (a : SinkView) (text : List ℕ) → TakesFront a a [] text
no_front a text = record { more = []; rest = text; took = takes_none a; split = refl }

lacks_obeys : (c : Command) (a : World) → Obeys c status.Memory a a
lacks_obeys (Run trace ahead q d) a = inl (nothing a, runs_out q a.shelf)
lacks_obeys (Whole q d) a = inl (nothing a, runs_out q a.shelf)
lacks_obeys (Explain q) a = (nothing a, runs_out q a.shelf)
lacks_obeys (Peak q d) a = inl (nothing a, runs_out q a.shelf)
lacks_obeys (Gen seed count) a = (record { shelf = refl; err = refl; store = refl }, no_front a.out (document seed count))
lacks_obeys (Selfrun seed count) a = refl
lacks_obeys (Many d ps) a = (nothing a, inl (inr (inl ([], ps, refl, inl ([], refl)))))
lacks_obeys (Check q d t) a = inl (nothing a, runs_out q a.shelf)

pub lacks_words : (o : Option Command) (a : World) → DoesIf o status.Memory a a
lacks_words None a = (inr refl, refl)
lacks_words (Some c) a = (keeps_of c status.Memory a a (keeps_same a.shelf) (omega arith) (omega arith) tt tt, lacks_obeys c a)
