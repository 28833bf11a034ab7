-- `peak`, once QUERY is accepted, and `selfrun`.
use Rattle.std.proofs.Common.{◌≡◌, inl, inr, ℕ, ◌≤◌, List, ◌++◌, codes, decimal, Some, Ok, Err, refl, sym, ap, subst, ◌∙◌, arith}
use Rattle.std.specs.FinMap as map
use Rattle.gcx_io.specs.Views.{ShelfView, SinkView}
use Rattle.gcx_model.specs.Query.{ExprTree}
use Rattle.gcx_model.specs.Tree.{TreeToken}
use Rattle.gcx_words.specs.declared.command.Command.{Command}
use Rattle.gcx_words.specs.declared.command.Command.TheVariants.{Peak, Selfrun}
use Rattle.run_words.specs.Stops.{Stop, EndAnswered, IsCalm}
use Rattle.engine.specs.declared.report.Report.{Report}
use Rattle.gcx_cmd.proofs.Along.{keeps_same}
use Rattle.gcx_cmd.proofs.Behind.{accepted_kept, both_keep, cause_later, doc_later, misses_later, opens_still, opens_two}
use Rattle.gcx_cmd.proofs.Stops.{keeps_of, lacks}
use Rattle.gcx_cmd.specs.Does.{DoesIf}
use Rattle.gcx_cmd.specs.DocumentDoes.{Over, OverDoc, IsClean, SeesTokens}
use Rattle.gcx_cmd.specs.Keeps.{HasCauses}
use Rattle.gcx_cmd.specs.Main.{HasNoMemory}
use Rattle.gcx_cmd.specs.World.{StoreView, Untouched, WritesAlone, beside}
use Rattle.gcx_cmd.specs.PeakDoes.{PeakDoes}
use Rattle.gcx_cmd.specs.QueryDoes.{AcceptsQuery}
use Rattle.gcx_cmd.specs.Reads.{CausesFault, KeepsShelf, Opens}
use Rattle.gcx_cmd.specs.RunDoes.{HoldsSeen}
use Rattle.gcx_cmd.specs.Runs.{DocumentMeasures, NumbersIn, NumbersOf, SelfRuns, StopsMeasure}
use Rattle.gcx_cmd.specs.SelfrunDoes.{SelfrunDoes, selfrun_line}
use Rattle.gcx_cmd.specs.Texts.{answer_line, peak_line, peak_text}
use Rattle.gcx_cmd.specs.Writes.{PrintsText, WritesText}
use Rattle.gcx_cmd.specs.declared.status.Status.{Status}
use Rattle.gcx_cmd.specs.declared.status.Status.TheVariants as status

-- ---- what the printing of a line says of the status

pub prints_causes : (c : Command) (s : Status) (a b : ShelfView) (o p e : SinkView) (st tu : StoreView) (text : List ℕ) → PrintsText s o p text
    → HasCauses c s (beside a o e st) (beside b p e tu)
prints_causes c status.Ok a b o p e st tu text w = tt
prints_causes c status.Usage a b o p e st tu text w = tt
prints_causes c (status.QueryRefused f) a b o p e st tu text w = tt
prints_causes c (status.DocumentRefused f) a b o p e st tu text w = tt
prints_causes c status.ReadFault a b o p e st tu text w = absurd w
prints_causes c status.WriteFault a b o p e st tu text w = inl w.faults
prints_causes c status.Memory a b o p e st tu text w = tt
prints_causes c (status.TraceRefused n) a b o p e st tu text w = tt

pub prints_memory : (s : Status) (o p : SinkView) (text : List ℕ) → PrintsText s o p text → HasNoMemory s
prints_memory status.Ok o p text w = tt
prints_memory status.Usage o p text w = absurd w
prints_memory (status.QueryRefused f) o p text w = absurd w
prints_memory (status.DocumentRefused f) o p text w = absurd w
prints_memory status.ReadFault o p text w = absurd w
prints_memory status.WriteFault o p text w = tt
prints_memory status.Memory o p text w = tt
prints_memory (status.TraceRefused n) o p text w = tt

-- ---- the lines

same_peak : (p q n m g h t u : ℕ) → p ≡ q → n ≡ m → g ≡ h → t ≡ u → peak_line p n g t ≡ peak_line q m h u
same_peak p q n m g h t u peaks nodes givens takens =
    ap (λ (x : ℕ). peak_line x n g t) peaks ∙ ap (λ (x : ℕ). peak_line q x g t) nodes ∙ ap (λ (x : ℕ). peak_line q m x t) givens ∙ ap (λ (x : ℕ). peak_line q m h x) takens

peak_is : (x : List ExprTree) (ts : List TreeToken) (r : Report) → NumbersOf x ts r → peak_line r.peak r.nodes r.given r.taken ≡ peak_text x ts
peak_is x ts r n = same_peak _ _ _ _ _ _ _ _ n.peak n.nodes n.given n.taken

module _ (q d : List ℕ) (a m b : ShelfView) (x : List ExprTree) (one : Opens 1 a m) (accepted : AcceptsQuery q a m x) (k : KeepsShelf a m) (l : KeepsShelf m b)
    (e : SinkView) (before after : StoreView) where
  over : (o p : SinkView) (Says : List (List ℕ) → Stop → Type 0) (w : OverDoc d Says m b) → Over q d (beside a o e before) (beside b p e after) x w.pieces w.stop
  over o p Says w = record {
    two = opens_two q a m b x one accepted k l w.one;
    query = accepted_kept q a m b x one accepted k l;
    doc = doc_later q a m b x one accepted k l d w.pieces w.stop w.doc;
    reads_on = w.reads_on;
  }

  -- there is no report
  module _ (o : SinkView) where
    unchanged : after ≡ before → Untouched (beside a o e before) (beside b o e after)
    unchanged same = record { out = refl; err = refl; store = same }

    unmeasured : (s : Status) → DocumentMeasures x d (Err s) m b before after → PeakDoes q d s (beside a o e before) (beside b o e after)
    unmeasured status.Ok w = absurd w.says
    unmeasured status.Usage w = absurd w
    unmeasured (status.QueryRefused f) w = absurd w
    unmeasured (status.DocumentRefused f) w = record {
      x = x;
      pieces = w.pieces;
      stop = w.stop;
      over = over o o (λ ps stop. StopsMeasure x (status.DocumentRefused f) ps stop after) w;
      ends = (w.says.0, refl);
      err = refl;
      holds = w.says.1;
    }
    unmeasured status.ReadFault (inl (same, gone)) =
        inl (unchanged same, inr (d, refl, misses_later q a m b x one accepted k l d gone, x, accepted_kept q a m b x one accepted k l))
    unmeasured status.ReadFault (inr w) = inr (record {
      x = x;
      pieces = w.pieces;
      stop = w.stop;
      over = over o o (λ ps stop. StopsMeasure x status.ReadFault ps stop after) w;
      ends = (w.says.0, refl);
      err = refl;
      holds = w.says.1;
    })
    unmeasured status.WriteFault w = absurd w.says
    unmeasured status.Memory (inl (same, none)) =
        inl (
          unchanged same,
          inr (
            opens_still q a m b x one accepted k l none,
            (accepted_kept q a m b x one accepted k l).pieces,
            EndAnswered,
            (accepted_kept q a m b x one accepted k l).reads,
            inl (tt, (accepted_kept q a m b x one accepted k l).within),
          ),
        )
    unmeasured status.Memory (inr w) = inr (record {
      x = x;
      pieces = w.pieces;
      stop = w.stop;
      over = over o o (λ ps stop. StopsMeasure x status.Memory ps stop after) w;
      ends = (w.says, refl);
      err = refl;
      holds = tt;
    })
    unmeasured (status.TraceRefused n) w = absurd w

    unmeasured_causes : (s : Status) → DocumentMeasures x d (Err s) m b before after → (s ≡ status.ReadFault → CausesFault d m b)
        → HasCauses (Peak q d) s (beside a o e before) (beside b o e after)
    unmeasured_causes status.Ok w cause = tt
    unmeasured_causes status.Usage w cause = tt
    unmeasured_causes (status.QueryRefused f) w cause = tt
    unmeasured_causes (status.DocumentRefused f) w cause = tt
    unmeasured_causes status.ReadFault w cause =
        lacks a b o e before (Peak q d) d (inr (inl refl)) (cause_later d a m b one k (cause refl))
    unmeasured_causes status.WriteFault w cause = absurd w.says
    unmeasured_causes status.Memory w cause = tt
    unmeasured_causes (status.TraceRefused n) w cause = absurd w

    pub unmeasured_if : (s : Status) → DocumentMeasures x d (Err s) m b before after → (s ≡ status.ReadFault → CausesFault d m b) → HasNoMemory s
        → DoesIf (Some (Peak q d)) s (beside a o e before) (beside b o e after)
    unmeasured_if s w cause memory = (
      keeps_of (Peak q d) s (beside a o e before) (beside b o e after) (both_keep q a m b x one accepted k l) (omega arith) (omega arith)
          (unmeasured_causes s w cause) memory,
      unmeasured s w,
    )

  -- its line is printed
  module _ (report : Report) (w : DocumentMeasures x d (Ok report) m b before after) (empty : after.rows ≡ map.empty) (o p : SinkView) where
    tokens : SeesTokens w.pieces w.stop w.says.1.tokens
    tokens = record { clean = w.says.0; seen = w.says.1.seen }

    of : Over q d (beside a o e before) (beside b p e after) x w.pieces w.stop
    of = over o p (λ ps stop. IsClean ps stop × NumbersIn x ps report × HoldsSeen x 1 ps stop after) w

    printed : (s : Status) → PrintsText s o p (peak_text x w.says.1.tokens) → PeakDoes q d s (beside a o e before) (beside b p e after)
    printed status.Ok t =
        (record { x = x; pieces = w.pieces; stop = w.stop; over = of; ends = (w.says.1.tokens, tokens, t); err = refl; holds = w.says.2 }, empty)
    printed status.Usage t = absurd t
    printed (status.QueryRefused f) t = absurd t
    printed (status.DocumentRefused f) t = absurd t
    printed status.ReadFault t = absurd t
    printed status.WriteFault t = record { x = x; pieces = w.pieces; stop = w.stop; over = of; ends = (w.says.1.tokens, tokens, t); err = refl; holds = w.says.2 }
    printed status.Memory t = inr (record {
      x = x;
      pieces = w.pieces;
      stop = w.stop;
      over = of;
      ends = (subst (λ (z : Stop). IsCalm z) (sym w.says.0.at_end) tt, t);
      err = refl;
      holds = tt;
    })
    printed (status.TraceRefused n) t = absurd t

    pub printed_if : (s : Status) → o.faults ≤ p.faults → PrintsText s o p (peak_line report.peak report.nodes report.given report.taken)
        → DoesIf (Some (Peak q d)) s (beside a o e before) (beside b p e after)
    printed_if s later t =
        let text : PrintsText s o p (peak_text x w.says.1.tokens) = subst (λ (z : List ℕ). PrintsText s o p z) (peak_is x w.says.1.tokens report w.says.1.numbers) t in (
          keeps_of (Peak q d) s (beside a o e before) (beside b p e after) (both_keep q a m b x one accepted k l) later (omega arith)
              (prints_causes (Peak q d) s a b o p e before after (peak_text x w.says.1.tokens) text) (prints_memory s o p (peak_text x w.says.1.tokens) text),
          printed s text,
        )

-- ---- selfrun

same_answer : (a b p q n m g h t u : ℕ) → a ≡ b → p ≡ q → n ≡ m → g ≡ h → t ≡ u → answer_line a p n g t ≡ answer_line b q m h u
same_answer a b p q n m g h t u answers peaks nodes givens takens =
    ap (λ (x : ℕ). answer_line x p n g t) answers
    ∙ ap (λ (l : List ℕ). codes "answer " ++ (decimal b ++ (codes " " ++ l))) (same_peak p q n m g h t u peaks nodes givens takens)

module _ (seed count : ℕ) (a : ShelfView) (o p e : SinkView) (st : StoreView) where
  alone : WritesAlone (beside a o e st) (beside a p e st)
  alone = record { shelf = refl; err = refl; store = refl }

  self_is : (n : ℕ) (r : Report) (i : SelfRuns seed count n r) → answer_line n r.peak r.nodes r.given r.taken ≡ selfrun_line i.0
  self_is n r i = same_answer _ _ _ _ _ _ _ _ _ _ i.1 i.2.peak i.2.nodes i.2.given i.2.taken

  self_does : (n : ℕ) (r : Report) (i : SelfRuns seed count n r) (s : Status) → PrintsText s o p (selfrun_line i.0)
      → SelfrunDoes seed count s (beside a o e st) (beside a p e st)
  self_does n r i status.Ok t = (alone, i.0, t)
  self_does n r i status.Usage t = absurd t
  self_does n r i (status.QueryRefused f) t = absurd t
  self_does n r i (status.DocumentRefused f) t = absurd t
  self_does n r i status.ReadFault t = absurd t
  self_does n r i status.WriteFault t = (alone, i.0, t)
  self_does n r i status.Memory t = ap (λ (v : SinkView). beside a v e st) t
  self_does n r i (status.TraceRefused k) t = absurd t

  pub self_if : (n : ℕ) (r : Report) (i : SelfRuns seed count n r) (s : Status) → o.faults ≤ p.faults → PrintsText s o p (answer_line n r.peak r.nodes r.given r.taken)
      → DoesIf (Some (Selfrun seed count)) s (beside a o e st) (beside a p e st)
  self_if n r i s later t =
      let text : PrintsText s o p (selfrun_line i.0) = subst (λ (z : List ℕ). PrintsText s o p z) (self_is n r i) t in (
        keeps_of (Selfrun seed count) s (beside a o e st) (beside a p e st) (keeps_same a) later (omega arith)
            (prints_causes (Selfrun seed count) s a a o p e st st (selfrun_line i.0) text) (prints_memory s o p (selfrun_line i.0) text),
        self_does n r i s text,
      )

-- memory ran out before anything was written
pub self_lacks : (seed count : ℕ) (a : ShelfView) (o e : SinkView) (st : StoreView) → DoesIf (Some (Selfrun seed count)) status.Memory (beside a o e st) (beside a o e st)
self_lacks seed count a o e st =
    (keeps_of (Selfrun seed count) status.Memory (beside a o e st) (beside a o e st) (keeps_same a) (omega arith) (omega arith) tt tt, refl)

-- a text that is there is printed
pub prints_of : (s : Status) (a b : SinkView) (text : List ℕ) → WritesText s a b text → PrintsText s a b text
prints_of status.Ok a b text w = w
prints_of status.Usage a b text w = absurd w
prints_of (status.QueryRefused f) a b text w = absurd w
prints_of (status.DocumentRefused f) a b text w = absurd w
prints_of status.ReadFault a b text w = absurd w
prints_of status.WriteFault a b text w = w
prints_of status.Memory a b text w = absurd w
prints_of (status.TraceRefused n) a b text w = absurd w
