-- A file stays as it was read, and the next one comes behind it.
use Rattle.std.proofs.Common.{inl, inr, ℕ, ◌+◌, ◌<◌, List, [], ◌∷◌, ◌++◌, length, ap, subst, ◌∙◌, arith}
use Rattle.std.specs.Io.KnownBytes.{Consumes}
use Rattle.gcx_io.specs.Shelf.{Names, IsMissing, content_of}
use Rattle.gcx_io.specs.Views.{Miss, ShelfView, missed}
use Rattle.gcx_io.specs.Writing.{joined}
use Rattle.gcx_model.specs.Query.{ExprTree}
use Rattle.run_words.specs.Stops.{Stop, EndAnswered}
use Rattle.gcx_cmd.proofs.Along.{keeps_on, rose_since}
use Rattle.gcx_cmd.specs.QueryDoes.{AcceptsQuery}
use Rattle.gcx_cmd.specs.Reads.{CausesFault, KeepsShelf, Misses, Opens, Reads, ReadsAsking}

-- the handles that were given before stand as they did
pub reads_kept : {asked : ℕ} (name : List ℕ) (h : ℕ) (a m b : ShelfView) (ps : List (List ℕ)) (stop : Stop) → ReadsAsking asked name h a m ps stop → h < length m.given → KeepsShelf m b
    → ReadsAsking asked name h a b ps stop
reads_kept name h a m b ps stop r within k = record {
  handle = r.handle;
  at = k.given h within ∙ r.at;
  named = r.named;
  some = r.some;
  calls = r.calls;
  told = r.told;
  at_end = r.at_end;
}

-- a file that was opened later in this call
pub reads_later : {asked : ℕ} (name : List ℕ) (h : ℕ) (a m b : ShelfView) (ps : List (List ℕ)) (stop : Stop) → KeepsShelf a m → ReadsAsking asked name h m b ps stop → ReadsAsking asked name h a b ps stop
reads_later name h a m b ps stop k r = record {
  handle = r.handle;
  at = r.at;
  named = r.named;
  some = r.some;
  calls = r.calls;
  told = subst (λ (n : Names). Consumes (content_of n name) r.handle.left (joined ps)) k.names r.told;
  at_end = r.at_end;
}

module _ (q : List ℕ) (a m b : ShelfView) (x : List ExprTree) (one : Opens 1 a m) (accepted : AcceptsQuery q a m x) (k : KeepsShelf a m) (l : KeepsShelf m b) where
  pub both_keep : KeepsShelf a b
  both_keep = keeps_on a m b k l (omega (arith, one.count))

  pub accepted_kept : AcceptsQuery q a b x
  accepted_kept = record {
    pieces = accepted.pieces;
    reads = reads_kept q (length a.given) a m b accepted.pieces EndAnswered accepted.reads (omega (arith, one.count)) l;
    within = accepted.within;
    accepts = accepted.accepts;
    only = accepted.only;
  }

  -- DOC isn't there
  pub misses_later : (d : List ℕ) → Misses 0 d m b → Misses 1 d a b
  misses_later d gone = record {
    count = omega (arith, one.count, gone.count);
    refused = gone.refused ∙ ap (λ (r : List Miss). r ++ missed d (length m.given + 0) ∷ []) one.refused
        ∙ ap (λ (i : ℕ). a.refused ++ missed d i ∷ []) (omega (arith, one.count));
  }

  -- nothing more was opened
  pub opens_still : Opens 0 m b → Opens 1 a b
  opens_still none = record { count = omega (arith, one.count, none.count); refused = none.refused ∙ one.refused }

  pub opens_two : Opens 1 m b → Opens 2 a b
  opens_two next = record { count = omega (arith, one.count, next.count); refused = next.refused ∙ one.refused }

  pub doc_later : (d : List ℕ) (ps : List (List ℕ)) (stop : Stop) → Reads d (length m.given) m b ps stop → Reads d (length a.given + 1) a b ps stop
  doc_later d ps stop r = subst (λ (h : ℕ). Reads d h a b ps stop) one.count (reads_later d (length m.given) a m b ps stop k r)

-- the causes of a fault of a file, behind others
pub cause_later : {n : ℕ} (d : List ℕ) (a m b : ShelfView) → Opens n a m → KeepsShelf a m → CausesFault d m b → CausesFault d a b
cause_later d a m b opens k (inl rose) = inl (rose_since a.faults m.faults b.faults k.faults rose)
cause_later d a m b opens k (inr (missing, behind, listed)) =
    inr (subst (λ (n : Names). IsMissing n d) k.names missing, behind, listed ∙ ap (λ (r : List Miss). r ++ missed d behind ∷ []) opens.refused)
