-- A run of the engine is one of the query: what it wrote, how it ended, and the rows that it left.
use Rattle.std.proofs.Common.{◌≡◌, ℕ, ◌+◌, ◌<◌, ◌≤◌, Bool, true, false, List, [], ◌∷◌, length, take, map, Some, None, refl, sym, ◌∙◌, ap, subst, arith}
use Rattle.std.specs.FinMap.{empty}
use Rattle.gcx_base.specs.Limits.{full_limits}
use Rattle.gcx_io.proofs.Written.{takes_none}
use Rattle.gcx_io.specs.Causes.{Rose}
use Rattle.gcx_io.specs.Views.{SinkView, SourceView}
use Rattle.gcx_io.specs.Writing.{joined}
use Rattle.gcx_model.specs.Core.{PlanTree}
use Rattle.gcx_model.specs.Demand.{peak_of, text_of_lines, trace_lines}
use Rattle.gcx_model.specs.Faults.{FaultIs}
use Rattle.gcx_model.specs.Held.{held, sum_given, sum_taken}
use Rattle.gcx_model.specs.Normal.{normal, known}
use Rattle.gcx_model.specs.Placed.{plan_of}
use Rattle.gcx_model.specs.PlanView.{plan_tree}
use Rattle.gcx_model.specs.Points.{actions, so_far}
use Rattle.gcx_model.specs.Query.{ExprTree}
use Rattle.gcx_model.specs.Run.{Action}
use Rattle.gcx_model.specs.Seen.{SeenIs, seen_tree}
use Rattle.gcx_model.specs.Tree.{Tree, TreeToken, Node}
use Rattle.gcx_model.specs.declared.fault.DocFault.{DocFault}
use Rattle.tree_laws.specs.Growth.{AllClosed}
use Rattle.placed_laws.proofs.PlanWriting.{plan_bytes}
use Rattle.placed_laws.proofs.Balances.{empty_law}
use Rattle.doc_laws.proofs.Found.{found_seen}
use Rattle.doc_laws.proofs.Growing.{seen_leads}
use Rattle.doc_reader.specs.Standing.{said_of}
use Rattle.buf_tree.specs.Shape.{Store}
use Rattle.buf_tree.specs.Stands.{StandsFor}
use Rattle.buf_tree.specs.View.{View}
use Rattle.run_words.proofs.Mapping.{ends_map}
use Rattle.run_words.proofs.Sourcing.{clean_none, on_clean, source_none}
use Rattle.run_words.specs.Ends.{EndsRun, Unread}
use Rattle.run_words.specs.Reading.{CountsFault}
use Rattle.run_words.specs.Stops.{Stop, More, EndAnswered, is_end}
use Rattle.run_words.specs.Writing.{Sinks, TakesFront, TracesFront}
use Rattle.engine.proofs.Most.{most_fresh, unless_both}
use Rattle.engine.specs.Engine.{IsTrace as PlanTrace, MostIs, Settles as PlanSettles, StandsOf}
use Rattle.run_part.specs.Counts.{Peaks}
use Rattle.run_part.specs.Actors.{past_at}
use Rattle.engine.specs.Runs.{Numbers, Ran, UnlessMemory as UnlessLost, run_end, sinks}
use Rattle.engine.specs.View.{EngineView}
use Rattle.engine.specs.declared.report.Ended.{Ended}
use Rattle.engine.specs.declared.report.Ended.TheVariants as end
use Rattle.engine.specs.declared.report.Report.{Report}
use Rattle.gcx_cmd.specs.Main.{HasNoMemory}
use Rattle.gcx_cmd.specs.RunDoes.{EndsBy, HoldsSeen}
use Rattle.gcx_cmd.specs.Running.{Settles, RowsAre, held_by, Holds, IsPlanOf, IsPlaced, UnlessOutOfMemory}
use Rattle.gcx_cmd.specs.Runs.{NumbersOf, SourceRuns, stored}
use Rattle.gcx_cmd.specs.Status.{ended_status}
use Rattle.gcx_cmd.specs.Tracing.{IsQueryTrace}
use Rattle.engine.proofs.Nothing.{none_at_start}
use Rattle.engine.proofs.Whole.{all_closed}
use Rattle.gcx_cmd.proofs.Documents.{no_memory, seen_document}
use Rattle.gcx_cmd.proofs.Rows.{HasRows, rows_are, no_rows}
use Rattle.gcx_cmd.proofs.Tells.{ends_told, telling}

-- ---- what was written

module _ (q : List ExprTree) (plan : PlanTree) (is : IsPlanOf q plan) where
  pub settles_on : (b : List ℕ) (ended : Bool) (w : List ℕ) → PlanSettles plan full_limits b ended w → Settles q b ended w
  settles_on b ended w s = (s.tokens, s.seen, s.is ∙ plan_bytes q plan is.placed (seen_tree s.tokens))

  pub trace_on : (b : List ℕ) (ended : Bool) (t : List ℕ) → PlanTrace plan full_limits b ended t → IsQueryTrace q b ended t
  trace_on b ended t (ts, seen, text) = (ts, seen, text ∙ ap (λ (p : PlanTree). text_of_lines (trace_lines p ts)) is.is_plan)

  -- the end of the run in the words of the status
  pub ends_on : (tracing : Bool) (x : Ended) (ps : List (List ℕ)) (stop : Stop) (a b : Sinks)
      → EndsRun (PlanSettles plan full_limits) (PlanTrace plan full_limits) full_limits tracing (run_end x) ps stop a b
      → EndsBy q tracing (ended_status x) ps stop a b
  ends_on tracing end.Ok ps stop a b h = ends_map _ _ _ _ settles_on trace_on full_limits tracing (run_end end.Ok) ps stop a b h
  ends_on tracing (end.Refused f) ps stop a b h = ends_map _ _ _ _ settles_on trace_on full_limits tracing (run_end (end.Refused f)) ps stop a b h
  ends_on tracing end.ReadFault ps stop a b h = ends_map _ _ _ _ settles_on trace_on full_limits tracing (run_end end.ReadFault) ps stop a b h
  ends_on tracing end.WriteFault ps stop a b h = ends_map _ _ _ _ settles_on trace_on full_limits tracing (run_end end.WriteFault) ps stop a b h
  ends_on tracing end.Memory ps stop a b h = ends_map _ _ _ _ settles_on trace_on full_limits tracing (run_end end.Memory) ps stop a b h

-- no refusal is want of memory
no_memory_told : (W T : List ℕ → Bool → List ℕ → Type 0) (tracing : Bool) (x : Ended) (ps : List (List ℕ)) (stop : Stop) (a b : Sinks)
    → EndsRun W T full_limits tracing (run_end x) ps stop a b → HasNoMemory (ended_status x)
no_memory_told W T tracing end.Ok ps stop a b h = tt
no_memory_told W T tracing (end.Refused f) ps stop a b h =
    λ is. no_memory full_limits (joined ps) (is_end stop) (subst (λ (g : DocFault). FaultIs full_limits (joined ps) (is_end stop) (Some g)) is h.1)
no_memory_told W T tracing end.ReadFault ps stop a b h = tt
no_memory_told W T tracing end.WriteFault ps stop a b h = tt
no_memory_told W T tracing end.Memory ps stop a b h = tt

-- ---- the rows

take_whole : {X : Type 0} (xs : List X) → take (length xs) xs ≡ xs
take_whole [] = refl
take_whole (x ∷ xs) = ap (λ (l : List _). x ∷ l) (take_whole xs)

-- every action is taken
all_taken : (plan : PlanTree) (P : Tree) → so_far plan P (length (actions plan P)) ≡ actions plan P
all_taken plan P = take_whole (actions plan P)

module _ (plan : PlanTree) (ts : List TreeToken) (v : View) (fed : ℕ) (st : StandsFor v (past_at plan (seen_tree ts) (length (actions plan (seen_tree ts))) fed)) where
  rows_on : (m : Store) → HasRows m v → RowsAre m (seen_tree ts) (held_by plan (seen_tree ts))
  rows_on m s =
      subst (λ (l : List Action). RowsAre m (seen_tree ts) (held plan (seen_tree ts) l)) (all_taken plan (seen_tree ts))
      (rows_are m v s (past_at plan (seen_tree ts) (length (actions plan (seen_tree ts))) fed) (held plan (seen_tree ts) (so_far plan (seen_tree ts) (length (actions plan (seen_tree ts))))) st.rows)

  -- what the store holds
  pub holds_on : (q : List ExprTree) (ahead : ℕ) (m : Store) (most : ℕ) → plan ≡ plan_of (normal q) → HasRows m v → Peaks (peak_of plan ts) ahead v.most → most ≡ v.most → Holds q ahead ts m most
  holds_on q ahead m most is s p e =
      let least : peak_of plan ts ≤ most = let a = p.least in let b = e in omega arith in
      let near : most < peak_of plan ts + ahead = let a = p.near in let b = e in omega arith in
      record {
        rows_are = subst (λ (x : PlanTree). RowsAre m (seen_tree ts) (held_by x (seen_tree ts))) is (rows_on m s);
        least = subst (λ (x : PlanTree). peak_of x ts ≤ most) is least;
        near = subst (λ (x : PlanTree). most < peak_of x ts + ahead) is near;
      }

  -- behind a whole document none is left
  pub emptied_on : (b : List ℕ) (m : Store) → IsPlaced plan → SeenIs full_limits b true ts → FaultIs full_limits b true None → HasRows m v → m ≡ empty
  emptied_on b m placed s clean shape =
      let w = seen_document full_limits b ts clean s in
      let closed : AllClosed (seen_tree ts) = subst AllClosed (sym w.tree_is) (all_closed w.document) in
      let none : held_by plan (seen_tree ts) ≡ [] = empty_law placed.0 placed.1 plan placed.2 (seen_tree ts) (seen_leads full_limits b true ts s) closed in
      no_rows m (seen_tree ts) (subst (λ (l : List Node). RowsAre m (seen_tree ts) l) none (rows_on m shape))

-- ---- a run

unless : (x : Ended) (X Y : Type 0) → (X → Y) → UnlessLost x X → UnlessOutOfMemory (ended_status x) Y
unless end.Ok X Y f h = f h
unless (end.Refused d) X Y f h = f h
unless end.ReadFault X Y f h = f h
unless end.WriteFault X Y f h = f h
unless end.Memory X Y f h = tt

-- one token at a time the greatest number of rows is the peak
numbers_of : (q : List ExprTree) (plan : PlanTree) (bytes : List ℕ) (t : Report) (n : Numbers plan full_limits bytes true 1 t) → plan ≡ plan_of (normal q)
    → NumbersOf q n.tokens t
numbers_of q plan bytes t n is =
    let ts = n.tokens in
    let P = seen_tree ts in
    let peak_is : t.peak ≡ peak_of plan ts = let a = n.peak.least in let b = n.peak.near in omega arith in
    record {
      peak = subst (λ (p : PlanTree). t.peak ≡ peak_of p ts) is peak_is;
      nodes = n.nodes;
      given = subst (λ (p : PlanTree). t.given ≡ sum_given p P) is n.given;
      taken = subst (λ (p : PlanTree). t.taken ≡ sum_taken p P (actions p P)) is n.taken;
    }

module _ {C : Type 0} (stands : C → Tree → Type 0) (tracing : Bool) (e : EngineView C) (t : Report) (s0 s1 : SourceView) (o p d f : SinkView)
    (r : Ran stands full_limits (telling tracing) e t.ended s0 s1 (sinks o d) (sinks p f)) where
  abbrev plan : PlanTree
  plan = plan_tree e.plan

  -- how it ended, of the lines of its trace
  ends_said : EndsRun (PlanSettles plan full_limits) (PlanTrace plan full_limits) full_limits tracing (run_end t.ended) r.pieces r.stop (sinks o d) (sinks p f)
  ends_said = ends_told tracing (PlanSettles plan full_limits) plan full_limits (run_end t.ended) r.pieces r.stop (sinks o d) (sinks p f) r.ends

  stands_hold : (q : List ExprTree) (ahead : ℕ) (m : Store) (most : ℕ) → IsPlanOf q plan → e.ahead ≡ ahead → HasRows m e.actors.buffer → most ≡ e.actors.buffer.most
      → StandsOf stands full_limits e (joined r.pieces) (is_end r.stop) → MostIs 0 e → HoldsSeen q ahead r.pieces r.stop (stored m most)
  stands_hold q ahead m most is one s h st fresh =
      let peak = peak_of plan (map said_of st.given) in
      record {
        tokens = map said_of st.given;
        seen = st.seen;
        holds = holds_on plan (map said_of st.given) e.actors.buffer st.parts.actors.fed st.parts.actors.beside.buffer q ahead m most is.is_plan s
            (subst (λ (a : ℕ). Peaks peak a e.actors.buffer.most) one (most_fresh peak e.ahead e.actors.counts.peak e.actors.buffer.most st.parts.counts.peak fresh)) h;
      }

  -- where the input came to its end
  at_end : t.ended ≡ end.Ok → (r.stop ≡ EndAnswered) × FaultIs full_limits (joined r.pieces) true None × StandsOf stands full_limits e (joined r.pieces) true
  at_end ok =
      let ends = subst (λ (x : Ended). EndsRun (PlanSettles plan full_limits) (PlanTrace plan full_limits) full_limits tracing (run_end x) r.pieces r.stop (sinks o d) (sinks p f)) ok ends_said in
      let st = subst (λ (x : Ended). UnlessLost x (StandsOf stands full_limits e (joined r.pieces) (is_end r.stop))) ok r.stand in
      (ends.0, ends.1, subst (λ (x : Stop). StandsOf stands full_limits e (joined r.pieces) (is_end x)) ends.0 st)

  pub source_runs : (q : List ExprTree) (ahead : ℕ) (m : Store) (most : ℕ) → IsPlanOf q plan → e.ahead ≡ ahead → HasRows m e.actors.buffer → most ≡ e.actors.buffer.most
      → UnlessLost t.ended (MostIs 0 e) → ((b : List ℕ) (ended : Bool) → StandsOf stands full_limits e b ended → Numbers plan full_limits b ended e.ahead t)
      → SourceRuns tracing ahead q t s0 s1 o p d f (stored m most)
  source_runs q ahead m most is same s h fresh told = record {
    pieces = r.pieces;
    stop = r.stop;
    gave = r.gave;
    reads_on = r.reads_on;
    ends = ends_on q plan is tracing t.ended r.pieces r.stop (sinks o d) (sinks p f) ends_said;
    holds = unless t.ended (StandsOf stands full_limits e (joined r.pieces) (is_end r.stop) × MostIs 0 e) (HoldsSeen q ahead r.pieces r.stop (stored m most))
        (λ both. stands_hold q ahead m most is same s h both.0 both.1) (unless_both t.ended _ _ r.stand fresh);
    numbers = λ one ok.
        let n = subst (λ (k : ℕ). Numbers plan full_limits (joined r.pieces) true k t) (same ∙ one) (told (joined r.pieces) true (at_end ok).2) in
        record { tokens = n.tokens; seen = n.seen; numbers = numbers_of q plan (joined r.pieces) t n is.is_plan };
  }

  pub no_memory_by : HasNoMemory (ended_status t.ended)
  no_memory_by = no_memory_told (PlanSettles plan full_limits) (PlanTrace plan full_limits) tracing t.ended r.pieces r.stop (sinks o d) (sinks p f) ends_said

  -- a read fault is one of the source
  pub rose_by : t.ended ≡ end.ReadFault → Rose s0.faults s1.faults
  rose_by is =
      let ends = subst (λ (x : Ended). EndsRun (PlanSettles plan full_limits) (PlanTrace plan full_limits) full_limits tracing (run_end x) r.pieces r.stop (sinks o d) (sinks p f)) is ends_said in
      subst (λ (x : Stop). CountsFault x s0.faults s1.faults) ends.0 r.gave.faults

  -- at Ok the store is empty
  pub emptied_by : (m : Store) → IsPlaced plan → HasRows m e.actors.buffer → t.ended ≡ end.Ok → m ≡ empty
  emptied_by m placed s ok =
      let q = at_end ok in
      emptied_on plan (map said_of q.2.given) e.actors.buffer q.2.parts.actors.fed q.2.parts.actors.beside.buffer (joined r.pieces) m placed q.2.seen q.1 s

-- ---- where memory ran out before anything was read

settled_none : (q : List ExprTree) → (ts : List TreeToken) × SeenIs full_limits [] false ts
settled_none q = found_seen full_limits [] false

-- nothing of a text, or of a trace
front_none : (a : SinkView) (w : List ℕ) → TakesFront a a [] w
front_none a w = record { more = []; rest = w; took = takes_none a; split = refl }

trace_front_none : (tracing : Bool) (a : SinkView) (t : List ℕ) → TracesFront tracing a a [] t
trace_front_none true a t = front_none a t
trace_front_none false a t = refl

pub runs_nothing : (tracing : Bool) (ahead : ℕ) (q : List ExprTree) (t : Report) (s : SourceView) (o d : SinkView) (m : Store) (most : ℕ) → t.ended ≡ end.Memory
    → SourceRuns tracing ahead q t s s o o d d (stored m most)
runs_nothing tracing ahead q t s o d m most memory =
    let w = settled_none q in
    record {
      pieces = [];
      stop = More;
      gave = source_none s;
      reads_on = on_clean full_limits [] More (clean_none full_limits (none_at_start full_limits));
      ends = subst (λ (x : Ended). EndsBy q tracing (ended_status x) [] More (sinks o d) (sinks o d)) (sym memory) (
        tt,
        record {
          wrote = [];
          w = known q (seen_tree w.0);
          told = [];
          t = text_of_lines (trace_lines (plan_of (normal q)) w.0);
          reached = record { settled = (w.0, w.1, refl); before = Unread refl refl refl; traced = (w.0, w.1, refl); traced_before = Unread refl refl refl };
          front = front_none o (known q (seen_tree w.0));
          trace_front = trace_front_none tracing d (text_of_lines (trace_lines (plan_of (normal q)) w.0));
        },
      );
      holds = subst (λ (x : Ended). UnlessOutOfMemory (ended_status x) (HoldsSeen q ahead [] More (stored m most))) (sym memory) tt;
      numbers = λ one ok. absurd (apart (sym memory ∙ ok));
    }
  where
    apart : end.Memory ≡ end.Ok → ⊥
    apart e = cc

-- loans that are the same begin with the same name
pub same_name : {n m : ℕ} {ns ms : List ℕ} → (n ∷ ns) ≡ (m ∷ ms) → m ≡ n
same_name {n} {m} {ns} {ms} e = let f : n ≡ m = cc in sym f
