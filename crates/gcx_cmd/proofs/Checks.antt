-- `check`, once QUERY is accepted.
use Rattle.std.proofs.Common.{◌≡◌, inl, inr, ℕ, ◌+◌, ◌≤◌, List, [], ◌∷◌, ◌++◌, length, map, true, Some, Ok, Err, refl, ap, subst, ◌∙◌, arith}
use Rattle.std.specs.Global.{Global}
use Rattle.std.specs.declared.collections.VecDeque.{VecDeque}
use Rattle.gcx_base.specs.Limits.{full_limits}
use Rattle.gcx_io.specs.Views.{Miss, ShelfView, SinkView, missed}
use Rattle.gcx_io.specs.Writing.{joined}
use Rattle.gcx_model.specs.Core.{PlanTree}
use Rattle.gcx_model.specs.Growth.{may_all}
use Rattle.gcx_model.specs.Normal.{normal}
use Rattle.gcx_model.specs.Placed.{plan_of}
use Rattle.gcx_model.specs.Query.{ExprTree}
use Rattle.gcx_model.specs.Tree.{TreeToken, opening}
use Rattle.gcx_words.specs.declared.command.Command.TheVariants.{Check}
use Rattle.run_words.specs.Reading.{ReadsOn}
use Rattle.run_words.specs.Stops.{Stop, EndAnswered, IsCalm}
use Rattle.doc_laws.proofs.Growing.{seen_comes}
use Rattle.doc_reader.specs.Standing.{said_of, Token as Given}
use Rattle.time_laws.specs.Checking.{fitted, line_ends}
use Rattle.trace_check.specs.Judging.{trace_of}
use Rattle.gcx_cmd.proofs.Along.{keeps_on}
use Rattle.gcx_cmd.proofs.Behind.{accepted_kept, both_keep, cause_later, doc_later, misses_later, opens_still, opens_two, reads_kept, reads_later}
use Rattle.gcx_cmd.proofs.Peaks.{prints_causes, prints_memory}
use Rattle.gcx_cmd.proofs.Stops.{causes_of, keeps_of, lacks, untouched}
use Rattle.gcx_cmd.proofs.Wholes.{over}
use Rattle.gcx_cmd.specs.CheckDoes.{CheckDoes, IsText, OverText, OverTrace, TraceDoes}
use Rattle.gcx_cmd.specs.Does.{DoesIf}
use Rattle.gcx_cmd.specs.DocumentDoes.{Over, HasFault, IsCut, SeesTokens, TokensDoes}
use Rattle.gcx_cmd.specs.Main.{HasNoMemory}
use Rattle.gcx_cmd.specs.World.{StoreView, beside}
use Rattle.gcx_cmd.specs.QueryDoes.{AcceptsQuery}
use Rattle.gcx_cmd.specs.Reads.{CausesFault, KeepsShelf, Misses, Opens, Reads}
use Rattle.gcx_cmd.specs.Texts.{lines_line}
use Rattle.gcx_cmd.specs.Tracing.{trace_text}
use Rattle.gcx_cmd.specs.Writes.{PrintsText}
use Rattle.gcx_cmd.specs.declared.status.Status.{Status}
use Rattle.gcx_cmd.specs.declared.status.Status.TheVariants as status

-- QUERY is accepted and DOC was read, whole and with these tokens.
pub record HasDocument (q d : List ℕ) (a b : ShelfView) (x : List ExprTree) (ts : List TreeToken) : Type 0 where
  pub keeps : KeepsShelf a b
  pub two : Opens 2 a b
  pub query : AcceptsQuery q a b x
  pub pieces : List (List ℕ)
  pub doc : Reads d (length a.given + 1) a b pieces EndAnswered
  pub reads_on : ReadsOn full_limits pieces EndAnswered
  pub tokens : SeesTokens pieces EndAnswered ts

-- the tokens of a document come one behind the other
pub come : (d : List ℕ) (a b : ShelfView) (tokens : VecDeque Given Global) → TokensDoes d (Ok tokens) a b → may_all (map said_of tokens.items) opening ≡ true
come d a b tokens w = seen_comes full_limits (joined w.pieces) true (map said_of tokens.items) w.says.are.seen

module _ (q d t : List ℕ) (a m b : ShelfView) (x : List ExprTree) (one : Opens 1 a m) (accepted : AcceptsQuery q a m x) (k : KeepsShelf a m) (l : KeepsShelf m b) where
  pub has_document : (tokens : VecDeque Given Global) → TokensDoes d (Ok tokens) m b → HasDocument q d a b x (map said_of tokens.items)
  has_document tokens w = record {
    keeps = both_keep q a m b x one accepted k l;
    two = opens_two q a m b x one accepted k l w.one;
    query = accepted_kept q a m b x one accepted k l;
    pieces = w.pieces;
    doc = subst (λ (z : Stop). Reads d (length a.given + 1) a b w.pieces z) w.says.at_end (doc_later q a m b x one accepted k l d w.pieces w.stop w.doc);
    reads_on = subst (λ (z : Stop). ReadsOn full_limits w.pieces z) w.says.at_end w.reads_on;
    tokens = record { clean = record { at_end = refl; clean = w.says.are.no_fault }; seen = w.says.are.seen };
  }

  -- DOC isn't a document, or isn't read
  module _ (o e : SinkView) (st : StoreView) where
    unread : (s : Status) → TokensDoes d (Err s) m b → CheckDoes q d t s (beside a o e st) (beside b o e st)
    unread status.Ok w = absurd w
    unread status.Usage w = absurd w
    unread (status.QueryRefused f) w = absurd w
    unread (status.DocumentRefused f) w =
        record { untouched = untouched a b o e st; x = x; pieces = w.pieces; stop = w.stop; over = over q d a m b x one accepted k l o o e st (HasFault f) w; says = w.says }
    unread status.ReadFault (inl gone) =
        inl (untouched a b o e st, inr (d, refl, misses_later q a m b x one accepted k l d gone, x, accepted_kept q a m b x one accepted k l))
    unread status.ReadFault (inr w) =
        inr (inl (record { untouched = untouched a b o e st; x = x; pieces = w.pieces; stop = w.stop; over = over q d a m b x one accepted k l o o e st IsCut w; says = w.says }))
    unread status.WriteFault w = absurd w
    unread status.Memory (inl none) =
        let kept = accepted_kept q a m b x one accepted k l in
        inl (untouched a b o e st, inr (opens_still q a m b x one accepted k l none, kept.pieces, EndAnswered, kept.reads, inl (tt, kept.within)))
    unread status.Memory (inr w) =
        inr (inl (record {
          untouched = untouched a b o e st;
          x = x;
          pieces = w.pieces;
          stop = w.stop;
          over = over q d a m b x one accepted k l o o e st (λ ps stop. IsCalm stop) w;
          says = w.says;
        }))
    unread (status.TraceRefused n) w = absurd w

    unread_no_write : (s : Status) → TokensDoes d (Err s) m b → s ≡ status.WriteFault → ⊥
    unread_no_write s w is = subst (λ (z : Status). TokensDoes d (Err z) m b) is w

    pub unread_if : (s : Status) → TokensDoes d (Err s) m b → (s ≡ status.ReadFault → CausesFault d m b) → HasNoMemory s
        → DoesIf (Some (Check q d t)) s (beside a o e st) (beside b o e st)
    unread_if s w cause memory = (
      keeps_of (Check q d t) s (beside a o e st) (beside b o e st) (both_keep q a m b x one accepted k l) (omega arith) (omega arith)
          (causes_of (Check q d t) s (beside a o e st) (beside b o e st) (unread_no_write s w)
          (λ is. lacks a b o e st (Check q d t) d (inr (inl refl)) (cause_later d a m b one k (cause is))))
          memory,
      unread s w,
    )

module _ (q d t : List ℕ) (a m b : ShelfView) (x : List ExprTree) (ts : List TreeToken) (h : HasDocument q d a m x ts) (l : KeepsShelf m b) where
  kept : KeepsShelf a b
  kept = keeps_on a m b h.keeps l (omega (arith, h.two.count))

  query_kept : AcceptsQuery q a b x
  query_kept = record {
    pieces = h.query.pieces;
    reads = reads_kept q (length a.given) a m b h.query.pieces EndAnswered h.query.reads (omega (arith, h.two.count)) l;
    within = h.query.within;
    accepts = h.query.accepts;
    only = h.query.only;
  }

  doc_kept : Reads d (length a.given + 1) a b h.pieces EndAnswered
  doc_kept = reads_kept d (length a.given + 1) a m b h.pieces EndAnswered h.doc (omega (arith, h.two.count)) l

  over_trace : (o p e : SinkView) (st : StoreView) (Says : List (List ℕ) → Stop → Type 0) (w : OverText t (trace_text x ts) Says m b)
      → OverTrace q d t (beside a o e st) (beside b p e st) x ts w.pieces w.stop
  over_trace o p e st Says w = record {
    three = record { count = omega (arith, h.two.count, w.one.count); refused = w.one.refused ∙ h.two.refused };
    query = query_kept;
    doc_pieces = h.pieces;
    doc = doc_kept;
    reads_on = h.reads_on;
    tokens = h.tokens;
    trace = subst (λ (n : ℕ). Reads t n a b w.pieces w.stop) h.two.count (reads_later t (length m.given) a m b w.pieces w.stop h.keeps w.trace);
    short = w.short;
    in_time = w.in_time;
  }

  misses_trace : Misses 0 t m b → Misses 2 t a b
  misses_trace gone = record {
    count = omega (arith, h.two.count, gone.count);
    refused = gone.refused ∙ ap (λ (r : List Miss). r ++ missed t (length m.given + 0) ∷ []) h.two.refused
        ∙ ap (λ (i : ℕ). a.refused ++ missed t i ∷ []) (omega (arith, h.two.count));
  }

  -- TRACE isn't that of the run, or isn't read
  module _ (o e : SinkView) (st : StoreView) where
    -- TRACE wasn't opened
    over_document : Opens 0 m b → Over q d (beside a o e st) (beside b o e st) x h.pieces EndAnswered
    over_document none = record {
      two = record { count = omega (arith, h.two.count, none.count); refused = none.refused ∙ h.two.refused };
      query = query_kept;
      doc = doc_kept;
      reads_on = h.reads_on;
    }

    unjudged : (s : Status) → TraceDoes t (trace_text x ts) (Err s) m b → CheckDoes q d t s (beside a o e st) (beside b o e st)
    unjudged status.Ok w = absurd w
    unjudged status.Usage w = absurd w
    unjudged (status.QueryRefused f) w = absurd w
    unjudged (status.DocumentRefused f) w = absurd w
    unjudged status.ReadFault (inl gone) =
        inr (inr (inl (record {
          untouched = untouched a b o e st;
          two = misses_trace gone;
          x = x;
          query = query_kept;
          pieces = h.pieces;
          doc = doc_kept;
          reads_on = h.reads_on;
          clean = h.tokens.clean;
        })))
    unjudged status.ReadFault (inr w) =
        inr (inr (inr (record {
          x = x;
          ts = ts;
          pieces = w.pieces;
          stop = w.stop;
          over = over_trace o o e st _ w;
          judged = (w.says.0, w.says.1, refl);
          err = refl;
          store = refl;
        })))
    unjudged status.WriteFault w = absurd w
    unjudged status.Memory (inl none) =
        inr (inl (record { untouched = untouched a b o e st; x = x; pieces = h.pieces; stop = EndAnswered; over = over_document none; says = tt }))
    unjudged status.Memory (inr w) =
        inr (inr (record { x = x; ts = ts; pieces = w.pieces; stop = w.stop; over = over_trace o o e st _ w; judged = (inl w.says, refl); err = refl; store = refl }))
    unjudged (status.TraceRefused n) w =
        record { x = x; ts = ts; pieces = w.pieces; stop = w.stop; over = over_trace o o e st _ w; judged = (w.says.0, w.says.1, refl); err = refl; store = refl }

    unjudged_no_write : (s : Status) → TraceDoes t (trace_text x ts) (Err s) m b → s ≡ status.WriteFault → ⊥
    unjudged_no_write s w is = subst (λ (z : Status). TraceDoes t (trace_text x ts) (Err z) m b) is w

    pub unjudged_if : (plan : PlanTree) → plan ≡ plan_of (normal x) → (s : Status) → TraceDoes t (trace_of plan ts) (Err s) m b
        → (s ≡ status.ReadFault → CausesFault t m b) → HasNoMemory s → DoesIf (Some (Check q d t)) s (beside a o e st) (beside b o e st)
    unjudged_if plan is s found cause memory =
        let w : TraceDoes t (trace_text x ts) (Err s) m b = subst (λ (p : PlanTree). TraceDoes t (trace_of p ts) (Err s) m b) is found in (
          keeps_of (Check q d t) s (beside a o e st) (beside b o e st) kept (omega arith) (omega arith)
              (causes_of (Check q d t) s (beside a o e st) (beside b o e st) (unjudged_no_write s w)
              (λ fault. lacks a b o e st (Check q d t) t (inr (inr (inl refl))) (cause_later t a m b h.two h.keeps (cause fault))))
              memory,
          unjudged s w,
        )

  -- TRACE is that of the run, and the line is printed
  module _ (o p e : SinkView) (st : StoreView) where
    checks : (Says : List (List ℕ) → Stop → Type 0) (w : OverText t (trace_text x ts) Says m b) → IsText (trace_text x ts) w.pieces w.stop
        → (s : Status) → PrintsText s o p (lines_line (fitted (line_ends (trace_text x ts)))) → CheckDoes q d t s (beside a o e st) (beside b p e st)
    checks Says w is status.Ok line =
        record { x = x; ts = ts; pieces = w.pieces; stop = w.stop; over = over_trace o p e st Says w; judged = (is, line); err = refl; store = refl }
    checks Says w is status.Usage line = absurd line
    checks Says w is (status.QueryRefused f) line = absurd line
    checks Says w is (status.DocumentRefused f) line = absurd line
    checks Says w is status.ReadFault line = absurd line
    checks Says w is status.WriteFault line =
        record { x = x; ts = ts; pieces = w.pieces; stop = w.stop; over = over_trace o p e st Says w; judged = (is, line); err = refl; store = refl }
    checks Says w is status.Memory line =
        inr (inr (record { x = x; ts = ts; pieces = w.pieces; stop = w.stop; over = over_trace o p e st Says w; judged = (inr is, line); err = refl; store = refl }))
    checks Says w is (status.TraceRefused n) line = absurd line

    pub judged_if : (plan : PlanTree) → plan ≡ plan_of (normal x) → (lines : ℕ) → TraceDoes t (trace_of plan ts) (Ok lines) m b
        → (s : Status) → o.faults ≤ p.faults → PrintsText s o p (lines_line lines) → DoesIf (Some (Check q d t)) s (beside a o e st) (beside b p e st)
    judged_if plan is lines found s later printed =
        let w : TraceDoes t (trace_text x ts) (Ok lines) m b = subst (λ (z : PlanTree). TraceDoes t (trace_of z ts) (Ok lines) m b) is found in
        let count : lines ≡ fitted (line_ends (trace_text x ts)) = w.says.1.2 in
        let line : PrintsText s o p (lines_line (fitted (line_ends (trace_text x ts)))) = subst (λ (n : ℕ). PrintsText s o p (lines_line n)) count printed in (
          keeps_of (Check q d t) s (beside a o e st) (beside b p e st) kept later (omega arith)
              (prints_causes (Check q d t) s a b o p e st st (lines_line (fitted (line_ends (trace_text x ts)))) line)
              (prints_memory s o p (lines_line (fitted (line_ends (trace_text x ts)))) line),
          checks _ w (w.says.0, (refl, w.says.1.1, refl)) s line,
        )
