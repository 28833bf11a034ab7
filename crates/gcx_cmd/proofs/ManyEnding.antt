-- How `many` ends, from how its parts do.
use Rattle.std.proofs.Common.{◌≡◌, ◌∙◌, inl, inr, ℕ, false, List, [], ◌∷◌, ◌++◌, length, map, Ok, Err, Some, None, refl, sym, ap, subst, arith}
use Rattle.gcx_base.specs.Limits.{full_limits}
use Rattle.gcx_io.specs.Calls.{Attaches}
use Rattle.gcx_io.specs.Causes.{Rose}
use Rattle.gcx_io.specs.Shelf.{IsMissing, Names}
use Rattle.gcx_io.specs.Views.{Miss, ShelfView, SinkView, missed}
use Rattle.gcx_io.specs.declared.fault.AttachFault.{AttachFault}
use Rattle.gcx_io.specs.declared.fault.AttachFault.TheVariants as fault
use Rattle.gcx_io.specs.declared.shelf.Handle.{Handle}
use Rattle.gcx_model.specs.Members.{In}
use Rattle.gcx_model.specs.PlanView.{plan_tree}
use Rattle.gcx_model.specs.Core.{PlanTree}
use Rattle.gcx_model.specs.Query.{ExprTree}
use Rattle.gcx_model.specs.declared.plan.Plan.{Plan}
use Rattle.gcx_words.specs.declared.pairs.Pair.{Pair}
use Rattle.run_words.proofs.Mapping.{ends_map}
use Rattle.run_words.specs.Ends.{AtEnd, LastPiece, NoMemory, ReadFailed, Refused, RunEnd, SettlesBefore, Unread, Completed, WriteFailed}
use Rattle.run_words.specs.Reading.{CountsFault}
use Rattle.run_words.specs.Stops.{Stop}
use Rattle.engine.specs.Engine.{IsTrace as PlanTrace, Settles as PlanSettles}
use Rattle.engine.specs.Runs.{run_end}
use Rattle.engine.specs.declared.report.Ended.{Ended}
use Rattle.engine.specs.declared.report.Ended.TheVariants as ends
use Rattle.many_run.specs.Each.{AtEach}
use Rattle.many_run.specs.Files.{NamesStay, sink_at}
use Rattle.many_run.specs.Runs.{EachPlanEnds, EndsOne, RunsInto, alone}
use Rattle.many_run.proofs.Walking.{not_there, there}
use Rattle.gcx_cmd.proofs.Answering.{many_answers}
use Rattle.gcx_cmd.proofs.Manies.{MadeOuts, made_outs}
use Rattle.gcx_cmd.proofs.Runs.{settles_on, trace_on}
use Rattle.gcx_cmd.specs.Reads.{CausesFault}
use Rattle.gcx_model.specs.declared.fault.DocFault.{DocFault}
use Rattle.gcx_model.specs.declared.fault.DocFault.TheVariants as doc_faults
use Rattle.gcx_cmd.specs.Main.{HasNoMemory}
use Rattle.gcx_cmd.specs.ManyDoes.{AcceptsPlans, EachQueryEnds, FailsAtOut, HasMade, MakesOuts, ManyEnds, RunsMany, RunsPlans, StopsInOuts}
use Rattle.gcx_cmd.specs.ReadEnd.{attach_status}
use Rattle.gcx_cmd.specs.Running.{IsPlanOf, Settles}
use Rattle.gcx_cmd.specs.Status.{ended_status}
use Rattle.gcx_cmd.specs.Tracing.{IsQueryTrace}
use Rattle.gcx_cmd.specs.declared.status.Status.{Status}
use Rattle.gcx_cmd.specs.declared.status.Status.TheVariants as status

-- ---- one output, in the words of its query

module _ (x : List ExprTree) (plan : PlanTree) (is : IsPlanOf x plan) where
  before_on : (ps : List (List ℕ)) (stop : Stop) (w : List ℕ) → SettlesBefore (PlanSettles plan full_limits) ps stop w → SettlesBefore (Settles x) ps stop w
  before_on ps stop w (Unread none more empty) = Unread none more empty
  before_on ps stop w (LastPiece before last split more s) = LastPiece before last split more (settles_on x plan is _ _ w s)
  before_on ps stop w (AtEnd over s) = AtEnd over (settles_on x plan is _ _ w s)

  one_on : (end : RunEnd) (ps : List (List ℕ)) (stop : Stop) (at i : ℕ) (a b : SinkView) → EndsOne (PlanSettles plan full_limits) (PlanTrace plan full_limits) full_limits end ps stop at i a b
      → EndsOne (Settles x) (IsQueryTrace x) full_limits end ps stop at i a b
  one_on Completed ps stop at i a b h = ends_map _ _ _ _ (settles_on x plan is) (trace_on x plan is) full_limits false Completed ps stop (alone a) (alone b) h
  one_on (Refused f) ps stop at i a b h = ends_map _ _ _ _ (settles_on x plan is) (trace_on x plan is) full_limits false (Refused f) ps stop (alone a) (alone b) h
  one_on ReadFailed ps stop at i a b h = ends_map _ _ _ _ (settles_on x plan is) (trace_on x plan is) full_limits false ReadFailed ps stop (alone a) (alone b) h
  one_on WriteFailed ps stop at i a b h = record {
    wrote = h.wrote;
    w = h.w;
    calm = h.calm;
    settled = settles_on x plan is _ _ h.w h.settled;
    before = before_on ps stop h.wrote h.before;
    earlier = h.earlier;
    here = h.here;
    later = h.later;
  }
  one_on NoMemory ps stop at i a b h = ends_map _ _ _ _ (settles_on x plan is) (trace_on x plan is) full_limits false NoMemory ps stop (alone a) (alone b) h

-- ---- the run

pub queries_end : (xs : List (List ExprTree)) (plans : List Plan) → AtEach (λ x plan. IsPlanOf x (plan_tree plan)) xs plans → (end : RunEnd) (doc : Handle) (outs : List Handle) (a b : ShelfView)
    → RunsInto (EachPlanEnds plans full_limits end) full_limits end doc outs a b → RunsInto (EachQueryEnds xs end) full_limits end doc outs a b
queries_end xs plans are end doc outs a b r = record {
  pieces = r.pieces;
  stop = r.stop;
  at = r.at;
  gave = r.gave;
  reads_on = r.reads_on;
  stops = r.stops;
  each = λ i o is_o x is_x.
      let plan = there plans i (let l = not_there xs i x is_x in let n = are.count in omega (arith, l, n)) in
      one_on x (plan_tree plan.0) (are.each i x plan.0 is_x plan.1) end r.pieces r.stop r.at i (sink_at o.0 a) (sink_at o.0 b) (r.each i o is_o plan.0 plan.1);
  write_faults = r.write_faults;
  others = r.others;
}

module _ (d : List ℕ) (ps : List Pair) (a m : ShelfView) (plans : List Plan) (accepts : AcceptsPlans ps a m plans) where
  -- making the OUTs stopped
  pub stops_in_outs : (s : Status) (b : ShelfView) → StopsInOuts ps s m b → ManyEnds d ps s a b
  stops_in_outs status.Ok b h = absurd h
  stops_in_outs status.Usage b h = absurd h
  stops_in_outs (status.QueryRefused f) b h = absurd h
  stops_in_outs (status.DocumentRefused f) b h = absurd h
  stops_in_outs status.ReadFault b h = absurd h
  stops_in_outs status.WriteFault b h = inl (record {
    before = h.before;
    pair = h.pair;
    behind = h.behind;
    split = h.split;
    m = h.m;
    made = record { xs = accepts.xs; m = m; outs = h.outs; accepted = accepts.accepts; makes = h.makes };
    fails = h.fails;
  })
  stops_in_outs status.Memory b (inl h) = inl (inr (inr (inl (record {
    before = h.before;
    pair = h.pair;
    behind = h.behind;
    split = h.split;
    m = h.m;
    made = record { xs = accepts.xs; m = m; outs = h.outs; accepted = accepts.accepts; makes = h.makes };
    fails = h.fails;
  }))))
  stops_in_outs status.Memory b (inr (before, behind, outs, split, makes)) =
      inl (inr (inl (before, behind, split, inr (record { xs = accepts.xs; m = m; outs = outs; accepted = accepts.accepts; makes = makes }))))
  stops_in_outs (status.TraceRefused n) b h = absurd h

  module _ (made : ShelfView) (outs : List Handle) (makes : MakesOuts ps m made outs) where
    has_made : HasMade ps ps a made
    has_made = record { xs = accepts.xs; m = m; outs = outs; accepted = accepts.accepts; makes = makes }

    -- DOC isn't there, or there is no memory to open it
    pub without_doc : (b : ShelfView) (why : AttachFault) → Attaches d made b (Err why) → ManyEnds d ps (attach_status why) a b
    without_doc b fault.Failed gone = inl (inr (record { m = made; made = has_made; fails = gone }))
    without_doc b fault.Memory gone = inl (inr (inr (inr (record { m = made; made = has_made; fails = gone }))))

    -- it is read
    module _ (begun : ShelfView) (doc : Handle) (opens : Attaches d made begun (Ok doc)) (b : ShelfView) where
      runs : (end : RunEnd) → RunsInto (EachPlanEnds plans full_limits end) full_limits end doc outs begun b → RunsMany d ps end a b
      runs end r = record {
        xs = accepts.xs;
        outs = outs;
        doc = doc;
        accepted = m;
        made = made;
        begun = begun;
        accepts = accepts.accepts;
        makes = makes;
        opens = opens;
        run = queries_end accepts.xs plans accepts.plans_are end doc outs begun b r;
      }

      ends_by : (x : Ended) → RunsInto (EachPlanEnds plans full_limits (run_end x)) full_limits (run_end x) doc outs begun b → ManyEnds d ps (ended_status x) a b
      ends_by ends.Ok r = let m = runs Completed r in (m, many_answers d ps a b m)
      ends_by (ends.Refused f) r = runs (Refused f) r
      ends_by ends.ReadFault r = inr (runs ReadFailed r)
      ends_by ends.WriteFault r = inr (runs WriteFailed r)
      ends_by ends.Memory r = inr (runs NoMemory r)

      pub plans_end : (s : Status) → RunsPlans plans s doc outs begun b → ManyEnds d ps s a b
      plans_end s (x, is, r) = subst (λ (t : Status). ManyEnds d ps t a b) (sym is) (ends_by x r)

-- an attach that failed for this reason
-- no refusal is want of memory
pub lasts_by : (x : Ended) (s : Status) → s ≡ ended_status x → ((f : DocFault) → x ≡ ends.Refused f → f ≡ doc_faults.Memory → ⊥) → HasNoMemory s
lasts_by ends.Ok s is lasts = subst (λ (t : Status). HasNoMemory t) (sym is) tt
lasts_by (ends.Refused f) s is lasts = subst (λ (t : Status). HasNoMemory t) (sym is) (lasts f refl)
lasts_by ends.ReadFault s is lasts = subst (λ (t : Status). HasNoMemory t) (sym is) tt
lasts_by ends.WriteFault s is lasts = subst (λ (t : Status). HasNoMemory t) (sym is) tt
lasts_by ends.Memory s is lasts = subst (λ (t : Status). HasNoMemory t) (sym is) tt

-- a read fault and a write fault of the run have their counts
pub read_rose : (plans : List Plan) (s : Status) (doc : Handle) (outs : List Handle) (a b : ShelfView) → RunsPlans plans s doc outs a b → s ≡ status.ReadFault → Rose a.faults b.faults
read_rose plans s doc outs a b (x, is, r) read = by x (sym is ∙ read) r
  where
    by : (y : Ended) → ended_status y ≡ status.ReadFault → RunsInto (EachPlanEnds plans full_limits (run_end y)) full_limits (run_end y) doc outs a b → Rose a.faults b.faults
    by ends.Ok same r = absurd (cc)
    by (ends.Refused f) same r = absurd (cc)
    by ends.ReadFault same r = subst (λ (z : Stop). CountsFault z a.faults b.faults) r.stops.0 r.gave.faults
    by ends.WriteFault same r = absurd (cc)
    by ends.Memory same r = absurd (cc)

pub write_rose : (plans : List Plan) (s : Status) (doc : Handle) (outs : List Handle) (a b : ShelfView) → RunsPlans plans s doc outs a b → s ≡ status.WriteFault → Rose a.write_faults b.write_faults
write_rose plans s doc outs a b (x, is, r) write = by x (sym is ∙ write) r
  where
    by : (y : Ended) → ended_status y ≡ status.WriteFault → RunsInto (EachPlanEnds plans full_limits (run_end y)) full_limits (run_end y) doc outs a b → Rose a.write_faults b.write_faults
    by ends.Ok same r = absurd (cc)
    by (ends.Refused f) same r = absurd (cc)
    by ends.ReadFault same r = absurd (cc)
    by ends.WriteFault same r = r.write_faults.1
    by ends.Memory same r = absurd (cc)

-- ---- causes

module _ (ps : List Pair) (a b : ShelfView) where
  pub outs_read : (s : Status) → StopsInOuts ps s a b → s ≡ status.ReadFault → ⊥
  outs_read s h is = subst (λ (t : Status). StopsInOuts ps t a b) is h

  pub outs_write : (s : Status) → StopsInOuts ps s a b → s ≡ status.WriteFault → Rose a.write_faults b.write_faults
  outs_write s h is =
      let w : FailsAtOut ps fault.Failed a b = subst (λ (t : Status). StopsInOuts ps t a b) is h in
      subst (λ (n : ℕ). Rose n b.write_faults) (made_outs w.before w.outs a w.m w.makes).write_faults w.fails.2

  pub outs_memory : (s : Status) → StopsInOuts ps s a b → HasNoMemory s
  outs_memory status.Ok h = tt
  outs_memory status.Usage h = absurd h
  outs_memory (status.QueryRefused f) h = absurd h
  outs_memory (status.DocumentRefused f) h = absurd h
  outs_memory status.ReadFault h = absurd h
  outs_memory status.WriteFault h = tt
  outs_memory status.Memory h = tt
  outs_memory (status.TraceRefused n) h = absurd h

-- what causes a fault of DOC behind the OUTs causes it
module _ (d : List ℕ) (ps : List Pair) (os : List Handle) (a made : ShelfView) (makes : MakesOuts ps a made os) where
  outs : MadeOuts ps a made os
  outs = made_outs ps os a made makes

  pub doc_missing : (b : ShelfView) (why : AttachFault) → Attaches d made b (Err why) → attach_status why ≡ status.ReadFault → CausesFault d a b
  doc_missing b fault.Memory same is = absurd (cc)
  doc_missing b fault.Failed (gone, writes, inl rose) is = inl (subst (λ (n : ℕ). Rose n b.faults) outs.faults rose)
  doc_missing b fault.Failed (gone, writes, inr (missing, calm)) is =
      inr (missing_before a.names made.names outs.names missing, length made.given, gone.refused ∙ ap (λ (z : List Miss). z ++ missed d (length made.given) ∷ []) outs.refused)
    where
      missing_before : (x y : Names) → NamesStay (λ name. In name (map (λ p. p.out) ps) → ⊥) x y → IsMissing y d → IsMissing x d
      missing_before None None stay gone = absurd gone
      missing_before None (Some y) stay gone = absurd stay
      missing_before (Some x) None stay gone = absurd gone
      missing_before (Some x) (Some y) stay gone = stay.0 d gone

  pub run_cause : (begun b : ShelfView) (doc : Handle) → Attaches d made begun (Ok doc) → Rose begun.faults b.faults → CausesFault d a b
  run_cause begun b doc (gives, names) rose = inl (subst (λ (n : ℕ). Rose n b.faults) (gives.faults ∙ outs.faults) rose)

  pub run_write : (begun b : ShelfView) (doc : Handle) → Attaches d made begun (Ok doc) → Rose begun.write_faults b.write_faults → Rose a.write_faults b.write_faults
  run_write begun b doc (gives, names) rose = subst (λ (n : ℕ). Rose n b.write_faults) (gives.write_faults ∙ outs.write_faults) rose
