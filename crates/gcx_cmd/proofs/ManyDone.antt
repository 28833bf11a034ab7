-- What `many` does, as a command.
use Rattle.std.proofs.Common.{◌≡◌, ◌∙◌, ◌⊎◌, inl, inr, ℕ, List, [], ◌∷◌, ◌++◌, map, Some, refl, sym, ap, subst, arith}
use Rattle.gcx_io.specs.Causes.{Rose}
use Rattle.gcx_io.specs.Shelf.{IsMissing, Names}
use Rattle.gcx_io.specs.Views.{Miss, ShelfView, SinkView, missed}
use Rattle.gcx_model.specs.Members.{In}
use Rattle.gcx_model.specs.declared.plan.Plan.{Plan}
use Rattle.gcx_words.specs.declared.command.Command.TheVariants.{Many}
use Rattle.gcx_words.specs.declared.pairs.Pair.{Pair}
use Rattle.gcx_cmd.proofs.Along.{rose_since}
use Rattle.gcx_cmd.proofs.Manies.{queries_keep, queries_refuse}
use Rattle.gcx_cmd.proofs.ManyKept.{kept_on}
use Rattle.gcx_cmd.proofs.Stops.{lacks, untouched}
use Rattle.gcx_cmd.specs.Does.{DoesIf}
use Rattle.gcx_cmd.specs.Keeps.{HasCauses, Keeps}
use Rattle.gcx_cmd.specs.Main.{HasNoMemory}
use Rattle.gcx_cmd.specs.ManyDoes.{AcceptsPlans, CausesAny, ManyEnds, ManyKeeps, StopsInQueries}
use Rattle.gcx_cmd.specs.World.{StoreView, beside}
use Rattle.gcx_cmd.specs.Reads.{CausesFault}
use Rattle.gcx_cmd.specs.declared.status.Status.{Status}
use Rattle.gcx_cmd.specs.declared.status.Status.TheVariants as status

module _ (d : List ℕ) (ps : List Pair) (s : Status) where
  -- the causes of a fault
  many_causes : (a b : ShelfView) (o e : SinkView) (st : StoreView) → (s ≡ status.ReadFault → (n : List ℕ) × ((n ≡ d) ⊎ In n (map (λ p. p.query) ps)) × CausesFault n a b)
      → (s ≡ status.WriteFault → Rose a.write_faults b.write_faults) → HasCauses (Many d ps) s (beside a o e st) (beside b o e st)
  many_causes a b o e st read write = go s refl
    where
      go : (t : Status) → s ≡ t → HasCauses (Many d ps) t (beside a o e st) (beside b o e st)
      go status.Ok is = tt
      go status.Usage is = tt
      go (status.QueryRefused f) is = tt
      go (status.DocumentRefused f) is = tt
      go status.ReadFault is =
          let r = read is in
          elim r.1 [
            | inl doc ↦ lacks a b o e st (Many d ps) r.0 (inr (inl (ap Some (sym doc)))) r.2
            | inr query ↦ lacks a b o e st (Many d ps) r.0 (inr (inr (inr query))) r.2
          ]
      go status.WriteFault is = inr (inr (tt, write is))
      go status.Memory is = tt
      go (status.TraceRefused n) is = tt

  many_keeps : (a b : ShelfView) (o e : SinkView) (st : StoreView) → ManyKeeps (map (λ p. p.out) ps) a b → HasCauses (Many d ps) s (beside a o e st) (beside b o e st) → HasNoMemory s
      → Keeps (Many d ps) s (beside a o e st) (beside b o e st)
  many_keeps a b o e st k causes memory = record {
    all = λ other. absurd (other tt);
    files = k.files;
    counts = record { shelf = k.faults; write_faults = k.write_faults; out = omega arith; err = omega arith };
    causes = causes;
    memory = memory;
  }

  -- a QUERY isn't accepted
  pub done_refused : (a b : ShelfView) (o e : SinkView) (st : StoreView) → StopsInQueries ps s a b → (s ≡ status.ReadFault → CausesAny (map (λ p. p.query) ps) a b) → HasNoMemory s → ManyKeeps (map (λ p. p.out) ps) a b
      → DoesIf (Some (Many d ps)) s (beside a o e st) (beside b o e st)
  done_refused a b o e st none cause memory k =
      (many_keeps a b o e st k (many_causes a b o e st (λ is. let r = cause is in (r.0, inr r.1, r.2)) (λ is. absurd (subst (λ (t : Status). StopsInQueries ps t a b) is none))) memory, (untouched a b o e st, ends s none))
    where
      ends : (t : Status) → StopsInQueries ps t a b → ManyEnds d ps t a b
      ends status.Ok h = absurd h
      ends status.Usage h = absurd h
      ends (status.QueryRefused f) h = h
      ends (status.DocumentRefused f) h = absurd h
      ends status.ReadFault h = inl (inl h)
      ends status.WriteFault h = absurd h
      ends status.Memory (inl h) = inl (inl h)
      ends status.Memory (inr h) = inl (inr (inl h))
      ends (status.TraceRefused n) h = absurd h

  -- the OUTs and DOC
  pub done_run : (a m b : ShelfView) (o e : SinkView) (st : StoreView) (plans : List Plan) → AcceptsPlans ps a m plans → ManyEnds d ps s a b → (s ≡ status.ReadFault → CausesFault d m b)
      → (s ≡ status.WriteFault → Rose m.write_faults b.write_faults) → HasNoMemory s → ManyKeeps (map (λ p. p.out) ps) a m → ManyKeeps (map (λ p. p.out) ps) m b
      → DoesIf (Some (Many d ps)) s (beside a o e st) (beside b o e st)
  done_run a m b o e st plans h ends read write memory k l =
      (many_keeps a b o e st (kept_on (map (λ p. p.out) ps) a m b k l) (many_causes a b o e st (λ is. (d, inl refl, earlier (read is))) (λ is. rose_since a.write_faults m.write_faults b.write_faults k.write_faults (write is))) memory, (untouched a b o e st, ends))
    where
      earlier : CausesFault d m b → CausesFault d a b
      earlier (inl rose) = inl (rose_since a.faults m.faults b.faults k.faults rose)
      earlier (inr (missing, n, listed)) =
          inr (subst (λ (z : Names). IsMissing z d) (queries_keep ps h.xs a m h.accepts).0.names missing, n, listed ∙ ap (λ (z : List Miss). z ++ missed d n ∷ []) (queries_refuse ps h.xs a m h.accepts))
