-- How a command ends where QUERY isn't accepted.
use Rattle.std.proofs.Common.{◌≡◌, ◌∙◌, ◌⊎◌, inl, inr, ℕ, ◌≤◌, List, Bool, slice_get, Some, refl, sym, ap, subst, arith}
use Rattle.gcx_io.specs.Causes.{Rose}
use Rattle.gcx_io.specs.Shelf.{Names}
use Rattle.gcx_io.specs.Views.{HandleView, ShelfView, SinkView}
use Rattle.gcx_model.specs.Members.{In}
use Rattle.gcx_words.specs.declared.command.Command.{Command}
use Rattle.many_run.specs.Files.{NamesStay}
use Rattle.many_run.proofs.Filing.{calls_same, names_same}
use Rattle.many_run.proofs.Walking.{not_there, some_is}
use Rattle.gcx_cmd.specs.CheckDoes.{CheckDoes}
use Rattle.gcx_cmd.specs.Commands.{HasFile, LacksFile, outs_of, query_of}
use Rattle.gcx_cmd.specs.ExplainDoes.{ExplainDoes}
use Rattle.gcx_cmd.specs.Keeps.{HasCauses, Keeps, KeepsFiles}
use Rattle.gcx_cmd.specs.Main.{HasNoMemory}
use Rattle.gcx_cmd.specs.World.{World, StoreView, Untouched, beside}
use Rattle.gcx_cmd.specs.PeakDoes.{PeakDoes}
use Rattle.gcx_cmd.specs.QueryDoes.{StopsInQuery}
use Rattle.gcx_cmd.specs.Reads.{CausesFault, KeepsShelf}
use Rattle.gcx_cmd.specs.RunDoes.{RunDoes}
use Rattle.gcx_cmd.specs.WholeDoes.{WholeDoes}
use Rattle.gcx_cmd.specs.declared.status.Status.{Status}
use Rattle.gcx_cmd.specs.declared.status.Status.TheVariants as status

pub untouched : (a m : ShelfView) (o e : SinkView) (st : StoreView) → Untouched (beside a o e st) (beside m o e st)
untouched a m o e st = record { out = refl; err = refl; store = refl }

-- a shelf that stays keeps its files, whatever the OUTs are
files_kept : (outs : List (List ℕ)) (a b : ShelfView) → KeepsShelf a b → KeepsFiles outs a b
files_kept outs a b k = record {
  names = subst (λ (n : Names). NamesStay (λ name. In name outs → ⊥) a.names n) (sym k.names) (names_same (λ name. In name outs → ⊥) a.names);
  calls = λ h within. calls_same a.given b.given h (k.given h within);
  left = λ telling h v w at then other. ap (λ (x : HandleView). x.left) (some_is (slice_get b.given h) w v then (k.given h (not_there a.given h v at) ∙ at));
}

pub keeps_of : (c : Command) (s : Status) (a b : World) → KeepsShelf a.shelf b.shelf → a.out.faults ≤ b.out.faults → a.err.faults ≤ b.err.faults
    → HasCauses c s a b → HasNoMemory s → Keeps c s a b
keeps_of c s a b k out err causes memory = record {
  all = λ none. record { names = k.names; unwritten = k.write_faults; given = k.given };
  files = files_kept (outs_of c) a.shelf b.shelf k;
  counts = record { shelf = k.faults; write_faults = let w = k.write_faults in omega (arith, w); out = out; err = err };
  causes = causes;
  memory = memory;
}

-- no write failed, and a read fault has a cause
pub causes_of : (c : Command) (s : Status) (a b : World) → (s ≡ status.WriteFault → ⊥)
    → (s ≡ status.ReadFault → Rose a.shelf.faults b.shelf.faults ⊎ LacksFile c a.shelf b.shelf) → HasCauses c s a b
causes_of c status.Ok a b write read = tt
causes_of c status.Usage a b write read = tt
causes_of c (status.QueryRefused f) a b write read = tt
causes_of c (status.DocumentRefused f) a b write read = tt
causes_of c status.ReadFault a b write read = read refl
causes_of c status.WriteFault a b write read = absurd (write refl)
causes_of c status.Memory a b write read = tt
causes_of c (status.TraceRefused n) a b write read = tt

module _ (a m : ShelfView) (o e : SinkView) (st : StoreView) where
  pub run_stops : (tracing : Bool) (ahead : ℕ) (q d : List ℕ) (s : Status) → StopsInQuery q s a m → RunDoes tracing ahead q d s (beside a o e st) (beside m o e st)
  run_stops tracing ahead q d status.Ok h = absurd h
  run_stops tracing ahead q d status.Usage h = absurd h
  run_stops tracing ahead q d (status.QueryRefused f) h = (untouched a m o e st, h)
  run_stops tracing ahead q d (status.DocumentRefused f) h = absurd h
  run_stops tracing ahead q d status.ReadFault h = inl (untouched a m o e st, inl h)
  run_stops tracing ahead q d status.WriteFault h = absurd h
  run_stops tracing ahead q d status.Memory h = inl (untouched a m o e st, h)
  run_stops tracing ahead q d (status.TraceRefused n) h = absurd h

  pub whole_stops : (q d : List ℕ) (s : Status) → StopsInQuery q s a m → WholeDoes q d s (beside a o e st) (beside m o e st)
  whole_stops q d status.Ok h = absurd h
  whole_stops q d status.Usage h = absurd h
  whole_stops q d (status.QueryRefused f) h = (untouched a m o e st, h)
  whole_stops q d (status.DocumentRefused f) h = absurd h
  whole_stops q d status.ReadFault h = inl (untouched a m o e st, inl h)
  whole_stops q d status.WriteFault h = absurd h
  whole_stops q d status.Memory h = inl (untouched a m o e st, h)
  whole_stops q d (status.TraceRefused n) h = absurd h

  pub peak_stops : (q d : List ℕ) (s : Status) → StopsInQuery q s a m → PeakDoes q d s (beside a o e st) (beside m o e st)
  peak_stops q d status.Ok h = absurd h
  peak_stops q d status.Usage h = absurd h
  peak_stops q d (status.QueryRefused f) h = (untouched a m o e st, h)
  peak_stops q d (status.DocumentRefused f) h = absurd h
  peak_stops q d status.ReadFault h = inl (untouched a m o e st, inl h)
  peak_stops q d status.WriteFault h = absurd h
  peak_stops q d status.Memory h = inl (untouched a m o e st, h)
  peak_stops q d (status.TraceRefused n) h = absurd h

  pub explain_stops : (q : List ℕ) (s : Status) → StopsInQuery q s a m → ExplainDoes q s (beside a o e st) (beside m o e st)
  explain_stops q status.Ok h = absurd h
  explain_stops q status.Usage h = absurd h
  explain_stops q (status.QueryRefused f) h = (untouched a m o e st, h)
  explain_stops q (status.DocumentRefused f) h = absurd h
  explain_stops q status.ReadFault h = (untouched a m o e st, inl h)
  explain_stops q status.WriteFault h = absurd h
  explain_stops q status.Memory h = (untouched a m o e st, h)
  explain_stops q (status.TraceRefused n) h = absurd h

  pub check_stops : (q d t : List ℕ) (s : Status) → StopsInQuery q s a m → CheckDoes q d t s (beside a o e st) (beside m o e st)
  check_stops q d t status.Ok h = absurd h
  check_stops q d t status.Usage h = absurd h
  check_stops q d t (status.QueryRefused f) h = (untouched a m o e st, h)
  check_stops q d t (status.DocumentRefused f) h = absurd h
  check_stops q d t status.ReadFault h = inl (untouched a m o e st, inl h)
  check_stops q d t status.WriteFault h = absurd h
  check_stops q d t status.Memory h = inl (untouched a m o e st, h)
  check_stops q d t (status.TraceRefused n) h = absurd h

  pub lacks : (c : Command) (n : List ℕ) → HasFile c n → CausesFault n a m → Rose a.faults m.faults ⊎ LacksFile c a m
  lacks c n file (inl rose) = inl rose
  lacks c n file (inr (missing, behind, listed)) = inr (record { name = n; is_file = file; missing = missing; behind = behind; listed = listed })

  query_causes : (c : Command) (q : List ℕ) (s : Status) → query_of c ≡ Some q → StopsInQuery q s a m
      → (s ≡ status.ReadFault → CausesFault q a m) → HasCauses c s (beside a o e st) (beside m o e st)
  query_causes c q status.Ok file h cause = tt
  query_causes c q status.Usage file h cause = tt
  query_causes c q (status.QueryRefused f) file h cause = tt
  query_causes c q (status.DocumentRefused f) file h cause = tt
  query_causes c q status.ReadFault file h cause = lacks c q (inl file) (cause refl)
  query_causes c q status.WriteFault file h cause = absurd h
  query_causes c q status.Memory file h cause = tt
  query_causes c q (status.TraceRefused n) file h cause = tt

  pub keeps_stopped : (c : Command) (q : List ℕ) (s : Status) → query_of c ≡ Some q → StopsInQuery q s a m → KeepsShelf a m
      → (s ≡ status.ReadFault → CausesFault q a m) → HasNoMemory s → Keeps c s (beside a o e st) (beside m o e st)
  keeps_stopped c q s file h k cause memory =
      keeps_of c s (beside a o e st) (beside m o e st) k (omega arith) (omega arith) (query_causes c q s file h cause) memory
