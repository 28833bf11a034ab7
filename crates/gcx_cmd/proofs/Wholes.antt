-- `whole`, once QUERY is accepted.
use Rattle.std.proofs.Common.{◌≡◌, inl, inr, ℕ, ◌≤◌, List, Some, Err, refl, sym, subst, arith}
use Rattle.gcx_io.specs.Views.{ShelfView, SinkView}
use Rattle.gcx_model.specs.Answer.{answer}
use Rattle.gcx_model.specs.Query.{ExprTree}
use Rattle.gcx_model.specs.Tree.{Tree}
use Rattle.gcx_words.specs.declared.command.Command.TheVariants.{Whole}
use Rattle.run_words.specs.Stops.{Stop, EndAnswered, IsCalm}
use Rattle.gcx_cmd.proofs.Explained.{text_causes, text_memory}
use Rattle.gcx_cmd.proofs.Behind.{accepted_kept, both_keep, cause_later, doc_later, misses_later, opens_still, opens_two}
use Rattle.gcx_cmd.proofs.Stops.{keeps_of, lacks, untouched}
use Rattle.gcx_cmd.specs.Does.{DoesIf}
use Rattle.gcx_cmd.specs.DocumentDoes.{Over, OverDoc, HasFault, IsCut, ReadsTree, TreeDoes}
use Rattle.gcx_cmd.specs.Keeps.{HasCauses}
use Rattle.gcx_cmd.specs.Main.{HasNoMemory}
use Rattle.gcx_cmd.specs.World.{StoreView, beside}
use Rattle.gcx_cmd.specs.QueryDoes.{AcceptsQuery}
use Rattle.gcx_cmd.specs.Reads.{CausesFault, KeepsShelf, Opens}
use Rattle.gcx_cmd.specs.WholeDoes.{ReadsWhole, WholeDoes}
use Rattle.gcx_cmd.specs.Writes.{WritesText}
use Rattle.gcx_cmd.specs.declared.status.Status.{Status}
use Rattle.gcx_cmd.specs.declared.status.Status.TheVariants as status

module _ (q d : List ℕ) (a m b : ShelfView) (x : List ExprTree) (one : Opens 1 a m) (accepted : AcceptsQuery q a m x) (k : KeepsShelf a m) (l : KeepsShelf m b) where
  pub over : (o p e : SinkView) (st : StoreView) (Says : List (List ℕ) → Stop → Type 0) (w : OverDoc d Says m b) → Over q d (beside a o e st) (beside b p e st) x w.pieces w.stop
  over o p e st Says w = record {
    two = opens_two q a m b x one accepted k l w.one;
    query = accepted_kept q a m b x one accepted k l;
    doc = doc_later q a m b x one accepted k l d w.pieces w.stop w.doc;
    reads_on = w.reads_on;
  }

  -- DOC isn't a document, or isn't read
  module _ (o e : SinkView) (st : StoreView) where
    unread : (s : Status) → TreeDoes d (Err s) m b → WholeDoes q d s (beside a o e st) (beside b o e st)
    unread status.Ok w = absurd w
    unread status.Usage w = absurd w
    unread (status.QueryRefused f) w = absurd w
    unread (status.DocumentRefused f) w =
        record { x = x; pieces = w.pieces; stop = w.stop; over = over o o e st (HasFault f) w; ends = (w.says, refl); err = refl; store = refl }
    unread status.ReadFault (inl gone) =
        inl (untouched a b o e st, inr (d, refl, misses_later q a m b x one accepted k l d gone, x, accepted_kept q a m b x one accepted k l))
    unread status.ReadFault (inr w) =
        inr (record { x = x; pieces = w.pieces; stop = w.stop; over = over o o e st IsCut w; ends = (w.says, refl); err = refl; store = refl })
    unread status.WriteFault w = absurd w
    unread status.Memory (inl none) =
        inl (
          untouched a b o e st,
          inr (
            opens_still q a m b x one accepted k l none,
            (accepted_kept q a m b x one accepted k l).pieces,
            EndAnswered,
            (accepted_kept q a m b x one accepted k l).reads,
            inl (tt, (accepted_kept q a m b x one accepted k l).within),
          ),
        )
    unread status.Memory (inr w) =
        inr (record { x = x; pieces = w.pieces; stop = w.stop; over = over o o e st (λ ps stop. IsCalm stop) w; ends = (w.says, refl); err = refl; store = refl })
    unread (status.TraceRefused n) w = absurd w

    unread_causes : (s : Status) → TreeDoes d (Err s) m b → (s ≡ status.ReadFault → CausesFault d m b)
        → HasCauses (Whole q d) s (beside a o e st) (beside b o e st)
    unread_causes status.Ok w cause = tt
    unread_causes status.Usage w cause = tt
    unread_causes (status.QueryRefused f) w cause = tt
    unread_causes (status.DocumentRefused f) w cause = tt
    unread_causes status.ReadFault w cause =
        lacks a b o e st (Whole q d) d (inr (inl refl)) (cause_later d a m b one k (cause refl))
    unread_causes status.WriteFault w cause = absurd w
    unread_causes status.Memory w cause = tt
    unread_causes (status.TraceRefused n) w cause = absurd w

    pub unread_if : (s : Status) → TreeDoes d (Err s) m b → (s ≡ status.ReadFault → CausesFault d m b) → HasNoMemory s
        → DoesIf (Some (Whole q d)) s (beside a o e st) (beside b o e st)
    unread_if s w cause memory = (
      keeps_of (Whole q d) s (beside a o e st) (beside b o e st) (both_keep q a m b x one accepted k l) (omega arith) (omega arith)
          (unread_causes s w cause) memory,
      unread s w,
    )

  -- DOC's tree was read
  module _ (tree : Tree) (w : OverDoc d (ReadsTree tree) m b) (o p e : SinkView) (st : StoreView) where
    whole : ReadsWhole w.pieces w.stop w.says.whole.document
    whole = record {
      clean = record { at_end = w.says.at_end; clean = w.says.whole.no_fault };
      spells = record { spells = w.says.whole.spells; only = w.says.whole.only };
    }

    pub lacks_answer : DoesIf (Some (Whole q d)) status.Memory (beside a o e st) (beside b o e st)
    lacks_answer = (
      keeps_of (Whole q d) status.Memory (beside a o e st) (beside b o e st) (both_keep q a m b x one accepted k l) (omega arith) (omega arith) tt tt,
      inr (record {
        x = x;
        pieces = w.pieces;
        stop = w.stop;
        over = over o o e st (ReadsTree tree) w;
        ends = (subst IsCalm (sym w.says.at_end) tt, refl);
        err = refl;
        store = refl;
      }),
    )

    answered : (s : Status) → WritesText s o p (answer x w.says.whole.document) → WholeDoes q d s (beside a o e st) (beside b p e st)
    answered status.Ok t = record {
      x = x;
      pieces = w.pieces;
      stop = w.stop;
      over = over o p e st (ReadsTree tree) w;
      ends = (w.says.whole.document, whole, t);
      err = refl;
      store = refl;
    }
    answered status.Usage t = absurd t
    answered (status.QueryRefused f) t = absurd t
    answered (status.DocumentRefused f) t = absurd t
    answered status.ReadFault t = absurd t
    answered status.WriteFault t = record {
      x = x;
      pieces = w.pieces;
      stop = w.stop;
      over = over o p e st (ReadsTree tree) w;
      ends = (w.says.whole.document, whole, t);
      err = refl;
      store = refl;
    }
    answered status.Memory t = absurd t
    answered (status.TraceRefused n) t = absurd t

    pub answered_if : (s : Status) → o.faults ≤ p.faults → WritesText s o p (answer x w.says.whole.document)
        → DoesIf (Some (Whole q d)) s (beside a o e st) (beside b p e st)
    answered_if s later t = (
      keeps_of (Whole q d) s (beside a o e st) (beside b p e st) (both_keep q a m b x one accepted k l) later (omega arith)
          (text_causes (Whole q d) s a b o p e st (answer x w.says.whole.document) t) (text_memory s o p (answer x w.says.whole.document) t),
      answered s t,
    )
