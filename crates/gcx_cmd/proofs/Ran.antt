-- `run`, once QUERY is accepted.
use Rattle.std.proofs.Common.{◌≡◌, ◌⊎◌, inl, inr, ℕ, ◌≤◌, List, Bool, true, Some, refl}
use Rattle.std.specs.FinMap as map
use Rattle.gcx_io.specs.Causes.{Rose}
use Rattle.gcx_io.specs.Views.{ShelfView}
use Rattle.gcx_model.specs.Query.{ExprTree}
use Rattle.gcx_words.specs.declared.command.Command.TheVariants.{Run}
use Rattle.run_words.specs.Stops.{EndAnswered}
use Rattle.gcx_cmd.proofs.Answering.{run_answers}
use Rattle.gcx_cmd.proofs.Behind.{accepted_kept, both_keep, cause_later, doc_later, misses_later, opens_still, opens_two}
use Rattle.gcx_cmd.proofs.Stops.{keeps_of, lacks}
use Rattle.gcx_cmd.specs.Does.{DoesIf}
use Rattle.gcx_cmd.specs.DocumentDoes.{OverDoc}
use Rattle.gcx_cmd.specs.Keeps.{HasCauses}
use Rattle.gcx_cmd.specs.Main.{HasNoMemory}
use Rattle.gcx_cmd.specs.World.{World, Untouched, sinks_of}
use Rattle.gcx_cmd.specs.QueryDoes.{AcceptsQuery}
use Rattle.gcx_cmd.specs.Reads.{CausesFault, KeepsShelf, Opens}
use Rattle.gcx_cmd.specs.RunDoes.{EndsBy, HoldsSeen, RunDoes, Runs}
use Rattle.gcx_cmd.specs.Running.{UnlessOutOfMemory}
use Rattle.gcx_cmd.specs.Runs.{DocumentRuns}
use Rattle.gcx_cmd.specs.declared.status.Status.{Status}
use Rattle.gcx_cmd.specs.declared.status.Status.TheVariants as status

module _ (tracing : Bool) (ahead : ℕ) (q d : List ℕ) (a b : World) (m : ShelfView) (x : List ExprTree) (one : Opens 1 a.shelf m)
    (accepted : AcceptsQuery q a.shelf m x) (k : KeepsShelf a.shelf m) (l : KeepsShelf m b.shelf) where
  abbrev begun : World
  begun = record { shelf = m; out = a.out; err = a.err; store = a.store }

  runs : (s : Status) → OverDoc d (λ ps stop. EndsBy x tracing s ps stop (sinks_of begun) (sinks_of b) × UnlessOutOfMemory s (HoldsSeen x ahead ps stop b.store)) m b.shelf
      → Runs tracing ahead q d s a b
  runs s o = record {
    x = x;
    pieces = o.pieces;
    stop = o.stop;
    over = record {
      two = opens_two q a.shelf m b.shelf x one accepted k l o.one;
      query = accepted_kept q a.shelf m b.shelf x one accepted k l;
      doc = doc_later q a.shelf m b.shelf x one accepted k l d o.pieces o.stop o.doc;
      reads_on = o.reads_on;
    };
    ends = o.says.0;
    holds = o.says.1;
  }

  still : Untouched begun b → Untouched a b
  still u = record { out = u.out; err = u.err; store = u.store }

  pub run_does : (s : Status) → (s ≡ status.Ok → b.store.rows ≡ map.empty) → DocumentRuns tracing ahead x d s begun b → RunDoes tracing ahead q d s a b
  run_does status.Ok empty o = let r = runs status.Ok o in (r, empty refl, run_answers tracing ahead q d a b r)
  run_does status.Usage empty o = absurd o
  run_does (status.QueryRefused f) empty o = absurd o
  run_does (status.DocumentRefused f) empty o = runs (status.DocumentRefused f) o
  run_does status.ReadFault empty (inl (u, gone)) =
      inl (still u, inr (d, refl, misses_later q a.shelf m b.shelf x one accepted k l d gone, x, accepted_kept q a.shelf m b.shelf x one accepted k l))
  run_does status.ReadFault empty (inr o) = inr (runs status.ReadFault o)
  run_does status.WriteFault empty o = runs status.WriteFault o
  run_does status.Memory empty (inl (u, none)) =
      inl (
        still u,
        inr (
          opens_still q a.shelf m b.shelf x one accepted k l none,
          (accepted_kept q a.shelf m b.shelf x one accepted k l).pieces,
          EndAnswered,
          (accepted_kept q a.shelf m b.shelf x one accepted k l).reads,
          inl (tt, (accepted_kept q a.shelf m b.shelf x one accepted k l).within),
        ),
      )
  run_does status.Memory empty (inr o) = inr (runs status.Memory o)
  run_does (status.TraceRefused n) empty o = absurd o

  -- a write fault is one of the output, or of the trace that is asked for
  write_cause : OverDoc d (λ ps stop. EndsBy x tracing status.WriteFault ps stop (sinks_of begun) (sinks_of b) × UnlessOutOfMemory status.WriteFault (HoldsSeen x ahead ps stop b.store)) m b.shelf
      → Rose a.out.faults b.out.faults ⊎ (((tracing ≡ true) × Rose a.err.faults b.err.faults) ⊎ (⊥ × Rose a.shelf.write_faults b.shelf.write_faults))
  write_cause o = elim o.says.0.1.stops [
    | inl output ↦ inl output.0.faults
    | inr trace ↦ inr (inl (trace.0, trace.2.faults))
  ]

  run_causes : (s : Status) → (s ≡ status.ReadFault → CausesFault d m b.shelf) → DocumentRuns tracing ahead x d s begun b
      → HasCauses (Run tracing ahead q d) s a b
  run_causes status.Ok cause o = tt
  run_causes status.Usage cause o = tt
  run_causes (status.QueryRefused f) cause o = tt
  run_causes (status.DocumentRefused f) cause o = tt
  run_causes status.ReadFault cause o =
      lacks a.shelf b.shelf a.out a.err a.store (Run tracing ahead q d) d (inr (inl refl)) (cause_later d a.shelf m b.shelf one k (cause refl))
  run_causes status.WriteFault cause o = write_cause o
  run_causes status.Memory cause o = tt
  run_causes (status.TraceRefused n) cause o = absurd o

  pub runs_if : (s : Status) → (s ≡ status.Ok → b.store.rows ≡ map.empty) → (s ≡ status.ReadFault → CausesFault d m b.shelf)
      → HasNoMemory s → a.out.faults ≤ b.out.faults → a.err.faults ≤ b.err.faults → DocumentRuns tracing ahead x d s begun b
      → DoesIf (Some (Run tracing ahead q d)) s a b
  runs_if s empty cause memory out err o =
      (keeps_of (Run tracing ahead q d) s a b (both_keep q a.shelf m b.shelf x one accepted k l) out err (run_causes s cause o) memory, run_does s empty o)
