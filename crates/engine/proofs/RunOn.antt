-- One turn of a run: what waits is written, the source is read once, and what it gave is fed.
use Rattle.std.proofs.Common.{◌≡◌, ℕ, ◌≤◌, Bool, true, false, List, [], ◌∷◌, ◌++◌, length, refl, sym, ◌∙◌, ap, subst, inl, inr, Some, None}
use Rattle.std.specs.Prelude.{Result, ⊤}
use Rattle.std.specs.declared.result.Result.TheVariants.{Ok}
use Rattle.std.proofs.lemmas.List.{append-nil}
use Rattle.std.proofs.lemmas.Bool.{false≢true}
use Rattle.gcx_base.specs.declared.limits.Limits.{Limits}
use Rattle.gcx_io.proofs.Written.{joined_push, takes_none}
use Rattle.gcx_io.specs.Views.{SourceView, SinkView}
use Rattle.gcx_io.specs.Writing.{IsSomeBytes, Takes, Owes, joined}
use Rattle.gcx_model.specs.declared.fault.DocFault.{DocFault}
use Rattle.gcx_model.specs.Tree.{Tree}
use Rattle.gcx_model.specs.Core.{PlanTree}
use Rattle.gcx_model.specs.PlanView.{plan_tree}
use Rattle.gcx_model.specs.Faults.{FaultIs}
use Rattle.run_words.proofs.Joining.{takes_then, owes_then}
use Rattle.run_words.proofs.Sourcing.{clean_none, clean_more, on_clean, source_none}
use Rattle.run_words.specs.Ends.{EndsRun, SettlesBefore, Unread, LastPiece, WritesAll, ReachedStop, ReadFailed, WriteFailed, NoMemory}
use Rattle.run_words.specs.Reading.{SourceGave, ReadsOn}
use Rattle.run_words.specs.Stops.{Stop, More, EndAnswered, FaultAnswered, IsCalm, is_end}
use Rattle.run_words.specs.Writing.{Sinks, TakesFront, Traces, TracesFront, StopsAtWrite}
use Rattle.doc_reader.specs.Standing.{Answers}
use Rattle.engine.specs.View.{EngineView}
use Rattle.engine.specs.declared.report.Ended.{Ended}
use Rattle.engine.specs.declared.report.Ended.TheVariants as ends
use Rattle.engine.specs.Engine.{IsSilent, IsTold, IsTrace, Kept, Lost, OnAnswer, Settles, StandsOf, Starts, TraceGrewBy, TraceGrewWithin}
use Rattle.engine.specs.Runs.{Between, EndsWaiting, Ran, StopsInWaiting, TellsBy, TraceBetween, Traced, Silent, ByToken, UnlessMemory, WroteWaiting, ended_by, is_traced, run_end, sinks}
use Rattle.engine.proofs.Answering.{By, ByOk, ByFault, by, kept_of, lost_of}
use Rattle.engine.proofs.Courses.{settled_one}
use Rattle.engine.proofs.Streaming.{bytes_few, stands_written}
use Rattle.engine.proofs.TellingCalls.{trace_of as trace_text, trace_one, traces_more}

-- ---- the trace

-- nothing is owed of nothing
none_owed : (a b : SinkView) → Owes a b [] [] → ⊥
none_owed a b o = none_offered o.more o.next o.later o.offered o.split
  where
    none_offered : (more next later : List ℕ) → IsSomeBytes next → [] ≡ more ++ next ++ later → ⊥
    none_offered [] [] later some e = some
    none_offered [] (x ∷ next) later some e = cc
    none_offered (x ∷ more) next later some e = cc

-- all of it was written
traces_on : (tracing : Bool) (a b c : SinkView) (told rest waits : List ℕ) → Traces tracing a b told → (tracing ≡ true → rest ≡ waits) → Takes b c waits
    → (tracing ≡ false → c ≡ b) → Traces tracing a c (told ++ rest)
traces_on true a b c told rest waits t is took same = subst (λ (l : List ℕ). Takes a c (told ++ l)) (sym (is refl)) (takes_then a b c told waits t took)
traces_on false a b c told rest waits t is took same = same refl ∙ t

traces_same : (tracing : Bool) (a b c : SinkView) (told : List ℕ) → Traces tracing a b told → c ≡ b → Traces tracing a c told
traces_same true a b c told t same = subst (λ (v : SinkView). Takes a v told) (sym same) t
traces_same false a b c told t same = same ∙ t

-- a write of it failed, so one is wanted
trace_owes : (tracing : Bool) (a b c : SinkView) (told rest waits : List ℕ) → Traces tracing a b told → (tracing ≡ true → rest ≡ waits) → Owes b c [] waits
    → (tracing ≡ false → waits ≡ []) → (tracing ≡ true) × Owes a c told (told ++ rest)
trace_owes true a b c told rest waits t is owes none = (refl, subst (λ (l : List ℕ). Owes a c told (told ++ l)) (sym (is refl)) (owes_then a b c told waits t owes))
trace_owes false a b c told rest waits t is owes none = absurd (none_owed b c (subst (λ (l : List ℕ). Owes b c [] l) (none refl) owes))

-- it goes on over a call that fed more bytes, or none
trace_kept : (t : Traced) (plan : PlanTree) (lim : Limits) (b more : List ℕ) (ended : Bool) (total waits : List ℕ) → IsTrace plan lim b false total
    → (t ≡ ByToken → TraceGrewBy plan lim b false (b ++ more) ended [] waits)
    → (rest : List ℕ) × IsTrace plan lim (b ++ more) ended (total ++ rest) × (is_traced t ≡ true → rest ≡ waits)
trace_kept ByToken plan lim b more ended total waits is grew =
    let k = grew refl in
    let o = trace_one plan lim b false k.old total k.traced is in
    (k.more, subst (λ (v : List ℕ). IsTrace plan lim (b ++ more) ended (v ++ k.more)) o k.traces, λ e. sym k.grew)
trace_kept Silent plan lim b more ended total waits is grew =
    let m = traces_more plan lim b more ended total is in (m.0, m.1, λ e. absurd (false≢true e))

-- between a turn's writing and the next one's
tells_none : {C : Type 0} (t : Traced) (e : EngineView C) → TellsBy t e → is_traced t ≡ false → e.trace ≡ []
tells_none Silent e h isnt = h.empty
tells_none ByToken e h isnt = absurd (false≢true (sym isnt))

module _ {C : Type 0} (stands : C → Tree → Type 0) (lim : Limits) (telling : Traced) where
  -- before the first read
  pub between_none : (e : EngineView C) (s : SourceView) (k : Sinks) → Starts stands lim e → TellsBy telling e → Between stands lim telling e s s k k
  between_none e s k h t =
      let few = bytes_few stands lim e [] false h.of h.fresh in
      record {
        pieces = [];
        of = h.of;
        fresh = h.fresh;
        tells = t;
        gave = source_none s;
        clean = clean_none lim few.0;
        written = [];
        took = takes_none k.out;
        settled = h.settled;
        before = Unread refl refl refl;
        trace = trace_starts telling t;
      }
    where
      trace_starts : (t : Traced) → TellsBy t e → TraceBetween (plan_tree e.plan) lim t [] e.trace k.err k.err
      trace_starts ByToken t = record { told = []; rest = e.trace; took = takes_none k.err; traced = h.traced t; before = Unread refl refl refl; waits_is = λ e. refl }
      trace_starts Silent t =
          let w = h.settled in
          record { told = []; rest = trace_text (plan_tree e.plan) w.tokens; took = refl; traced = (w.tokens, w.seen, refl); before = Unread refl refl refl; waits_is = λ isnt. absurd (false≢true isnt) }

  module _ (e d : EngineView C) (s0 s : SourceView) (k0 k k1 : Sinks) (h : Between stands lim telling e s0 s k0 k) (same : d ≡ record e { out = d.out; trace = d.trace }) where
    abbrev plan : PlanTree
    plan = plan_tree e.plan

    abbrev b : List ℕ
    b = joined h.pieces

    abbrev total : List ℕ
    total = h.written ++ e.out

    abbrev trace_total : List ℕ
    trace_total = h.trace.told ++ h.trace.rest

    plan_is : plan ≡ plan_tree d.plan
    plan_is = ap (λ (z : EngineView C). plan_tree z.plan) (sym same)

    no_fault : FaultIs lim b false None
    no_fault = (bytes_few stands lim e b false h.of h.fresh).0

    pub stand_now : StandsOf stands lim d b false
    stand_now = stands_written stands lim e d b false same h.of

    -- a write failed
    pub write_fails : StopsInWaiting e.out e.trace k k1 → Ran stands lim telling d ends.WriteFault s0 s k0 k1
    write_fails stops = record {
      pieces = h.pieces;
      stop = More;
      gave = h.gave;
      reads_on = on_clean lim h.pieces More h.clean;
      bytes = stand_now.bytes;
      ends = subst (λ (z : PlanTree). EndsRun (Settles z lim) (IsTrace z lim) lim (is_traced telling) WriteFailed h.pieces More k0 k1) plan_is (
        tt,
        record {
          wrote = h.written;
          w = total;
          told = h.trace.told;
          t = trace_total;
          reached = record { settled = h.settled; before = h.before; traced = h.trace.traced; traced_before = h.trace.before };
          stops = stops_at stops;
        },
      );
      stand = stand_now;
    }
      where
        stops_at : StopsInWaiting e.out e.trace k k1 → StopsAtWrite (is_traced telling) h.written total h.trace.told trace_total k0 k1
        stops_at (inl (owes, still)) = inl (owes_then k0.out k.out k1.out h.written e.out h.took owes, traces_same (is_traced telling) k0.err k.err k1.err h.trace.told h.trace.took still)
        stops_at (inr (took, owes)) =
            let t = trace_owes (is_traced telling) k0.err k.err k1.err h.trace.told h.trace.rest e.trace h.trace.took h.trace.waits_is owes (tells_none telling e h.tells) in
            inr (t.0, takes_then k0.out k.out k1.out h.written e.out h.took took, t.1)

    module _ (wrote : WroteWaiting e.out e.trace k k1) (still : is_traced telling ≡ false → k1.err ≡ k.err) where
      took_all : Takes k0.out k1.out total
      took_all = takes_then k0.out k.out k1.out h.written e.out h.took wrote.took

      told_all : Traces (is_traced telling) k0.err k1.err trace_total
      told_all = traces_on (is_traced telling) k0.err k.err k1.err h.trace.told h.trace.rest e.trace h.trace.took h.trace.waits_is wrote.told still

      -- the read failed
      pub read_fails : (s1 : SourceView) → SourceGave s0 s1 h.pieces FaultAnswered → Ran stands lim telling d ends.ReadFault s0 s1 k0 k1
      read_fails s1 gave = record {
        pieces = h.pieces;
        stop = FaultAnswered;
        gave = gave;
        reads_on = on_clean lim h.pieces FaultAnswered h.clean;
        bytes = stand_now.bytes;
        ends = subst (λ (z : PlanTree). EndsRun (Settles z lim) (IsTrace z lim) lim (is_traced telling) ReadFailed h.pieces FaultAnswered k0 k1) plan_is
            (refl, no_fault, record { settled = total; is = h.settled; wrote = took_all; trace = trace_total; traced = h.trace.traced; told = told_all });
        stand = stand_now;
      }

      module _ (empty : (d.out ≡ []) × (d.trace ≡ [])) where
        total_now : Settles (plan_tree d.plan) lim b false total
        total_now = subst (λ (z : PlanTree). Settles z lim b false total) plan_is h.settled

        trace_now : IsTrace (plan_tree d.plan) lim b false trace_total
        trace_now = subst (λ (z : PlanTree). IsTrace z lim b false trace_total) plan_is h.trace.traced

        -- what a call that fed these bytes settles beyond the total
        settled_more : (f : EngineView C) (c : List ℕ) (ended : Bool) → Kept stands lim d f b false c ended
            → Settles (plan_tree d.plan) lim c ended (total ++ f.out)
        settled_more f c ended k =
            let o = settled_one (plan_tree d.plan) lim b false k.grew.old total k.grew.settled total_now in
            let out : f.out ≡ k.grew.more = k.grew.grew ∙ ap (λ (v : List ℕ). v ++ k.grew.more) empty.0 in
            subst (λ (v : List ℕ). Settles (plan_tree d.plan) lim c ended (total ++ v)) (sym out)
            (subst (λ (v : List ℕ). Settles (plan_tree d.plan) lim c ended (v ++ k.grew.more)) o k.grew.settles)

        settled_lost : (f : EngineView C) (c : List ℕ) (ended : Bool) → Lost lim d f b false c ended
            → (rest : List ℕ) × Settles (plan_tree d.plan) lim c ended (total ++ rest)
        settled_lost f c ended l =
            let o = settled_one (plan_tree d.plan) lim b false l.grew.old total l.grew.settled total_now in
            (l.grew.part ++ l.grew.rest, subst (λ (v : List ℕ). Settles (plan_tree d.plan) lim c ended (v ++ (l.grew.part ++ l.grew.rest))) o l.grew.settles)

        -- A call ended the run: pieces and stop are those behind it.
        module _ (s1 : SourceView) (k2 : Sinks) (f u : EngineView C) (piece : List ℕ) (ps : List (List ℕ)) (stop : Stop) (r : Result ⊤ DocFault) (end : Ended)
            (calm : IsCalm stop) (gave : SourceGave s0 s1 ps stop) (reads_on : ReadsOn lim ps stop) (bytes_are : joined ps ≡ b ++ piece)
            (behind : (S : List ℕ → Bool → List ℕ → Type 0) (text : List ℕ) → S b false text → SettlesBefore S ps stop text)
            (call : OnAnswer r (Lost lim d f b false (b ++ piece) (is_end stop)) (Kept stands lim d f b false (b ++ piece) (is_end stop)))
            (traced : telling ≡ ByToken → OnAnswer r (TraceGrewWithin (plan_tree d.plan) lim b false (b ++ piece) (is_end stop) [] f.trace)
            (TraceGrewBy (plan_tree d.plan) lim b false (b ++ piece) (is_end stop) [] f.trace))
            (exact : Answers r lim (b ++ piece) (is_end stop)) (whole : r ≡ Ok tt → stop ≡ EndAnswered) (written : u ≡ record f { out = u.out; trace = u.trace })
            (same_plan : f.plan ≡ d.plan) (counted : f.bytes ≡ length (b ++ piece)) (quiet : is_traced telling ≡ false → f.trace ≡ [])
            (so : EndsWaiting r end f.out f.trace k1 k2) (unsaid : is_traced telling ≡ false → k2.err ≡ k1.err) where
          abbrev pd : PlanTree
          pd = plan_tree d.plan

          abbrev c : List ℕ
          c = b ++ piece

          last_plan : pd ≡ plan_tree u.plan
          last_plan = sym (ap (λ (z : EngineView C). plan_tree z.plan) written ∙ ap (λ z. plan_tree z) same_plan)

          ran : UnlessMemory end (StandsOf stands lim u c (is_end stop)) → EndsRun (Settles pd lim) (IsTrace pd lim) lim (is_traced telling) (run_end end) ps stop k0 k2
              → Ran stands lim telling u end s0 s1 k0 k2
          ran stand said = record {
            pieces = ps;
            stop = stop;
            gave = gave;
            reads_on = reads_on;
            bytes = ap (λ (z : EngineView C). z.bytes) written ∙ counted ∙ ap length (sym bytes_are);
            ends = subst (λ (z : PlanTree). EndsRun (Settles z lim) (IsTrace z lim) lim (is_traced telling) (run_end end) ps stop k0 k2) last_plan said;
            stand = subst (λ (l : List ℕ). UnlessMemory end (StandsOf stands lim u l (is_end stop))) (sym bytes_are) stand;
          }

          -- memory ran out
          lost : Lost lim d f b false c (is_end stop) → k2 ≡ k1 → EndsRun (Settles pd lim) (IsTrace pd lim) lim (is_traced telling) NoMemory ps stop k0 k2
          lost l still =
              let w = settled_lost f c (is_end stop) l in
              let t = traces_more pd lim b piece (is_end stop) trace_total trace_now in
              let out : TakesFront k0.out k1.out total (total ++ w.0) = front_all k0.out k1.out total w.0 took_all in
              let told : TracesFront (is_traced telling) k0.err k1.err trace_total (trace_total ++ t.0) = trace_front_all (is_traced telling) k0.err k1.err trace_total t.0 told_all in (
                calm,
                record {
                  wrote = total;
                  w = total ++ w.0;
                  told = trace_total;
                  t = trace_total ++ t.0;
                  reached = reached_by (total ++ w.0) (trace_total ++ t.0) w.1 t.1;
                  front = subst (λ (z : Sinks). TakesFront k0.out z.out total (total ++ w.0)) (sym still) out;
                  trace_front = subst (λ (z : Sinks). TracesFront (is_traced telling) k0.err z.err trace_total (trace_total ++ t.0)) (sym still) told;
                },
              )
            where
              front_all : (x y : SinkView) (v rest : List ℕ) → Takes x y v → TakesFront x y v (v ++ rest)
              front_all x y v rest took = record { more = []; rest = rest; took = subst (λ (l : List ℕ). Takes x y l) (sym (append-nil v)) took; split = ap (λ (l : List ℕ). l ++ rest) (sym (append-nil v)) }

              trace_front_all : (tracing : Bool) (x y : SinkView) (v rest : List ℕ) → Traces tracing x y v → TracesFront tracing x y v (v ++ rest)
              trace_front_all true x y v rest took = front_all x y v rest took
              trace_front_all false x y v rest took = took

              reached_by : (w t : List ℕ) → Settles pd lim c (is_end stop) w → IsTrace pd lim c (is_end stop) t → ReachedStop (Settles pd lim) (IsTrace pd lim) ps stop total w trace_total t
              reached_by w t settled is = record {
                settled = subst (λ (l : List ℕ). Settles pd lim l (is_end stop) w) (sym bytes_are) settled;
                before = behind (Settles pd lim) total total_now;
                traced = subst (λ (l : List ℕ). IsTrace pd lim l (is_end stop) t) (sym bytes_are) is;
                traced_before = behind (IsTrace pd lim) trace_total trace_now;
              }

          module _ (other : ended_by r ≡ ends.Memory → ⊥) where
            kept : Kept stands lim d f b false c (is_end stop)
            kept = kept_of r (Lost lim d f b false c (is_end stop)) (Kept stands lim d f b false c (is_end stop)) other call

            stand_then : StandsOf stands lim u c (is_end stop)
            stand_then = stands_written stands lim f u c (is_end stop) written kept.of

            settled_then : Settles pd lim (joined ps) (is_end stop) (total ++ f.out)
            settled_then = subst (λ (l : List ℕ). Settles pd lim l (is_end stop) (total ++ f.out)) (sym bytes_are) (settled_more f c (is_end stop) kept)

            trace_then : (rest : List ℕ) × IsTrace pd lim c (is_end stop) (trace_total ++ rest) × (is_traced telling ≡ true → rest ≡ f.trace)
            trace_then = trace_kept telling pd lim b piece (is_end stop) trace_total f.trace trace_now (λ e. kept_of r (TraceGrewWithin pd lim b false c (is_end stop) [] f.trace) (TraceGrewBy pd lim b false c (is_end stop) [] f.trace) other (traced e))

            traced_then : IsTrace pd lim (joined ps) (is_end stop) (trace_total ++ trace_then.0)
            traced_then = subst (λ (l : List ℕ). IsTrace pd lim l (is_end stop) (trace_total ++ trace_then.0)) (sym bytes_are) trace_then.1

            -- all that waits was written
            writes_all : WroteWaiting f.out f.trace k1 k2 → WritesAll (Settles pd lim) (IsTrace pd lim) (is_traced telling) (joined ps) (is_end stop) k0 k2
            writes_all w = record {
              settled = total ++ f.out;
              is = settled_then;
              wrote = takes_then k0.out k1.out k2.out total f.out took_all w.took;
              trace = trace_total ++ trace_then.0;
              traced = traced_then;
              told = traces_on (is_traced telling) k0.err k1.err k2.err trace_total trace_then.0 f.trace told_all trace_then.2 w.told unsaid;
            }

            -- or a write failed
            stops_then : StopsInWaiting f.out f.trace k1 k2 → StopsAtWrite (is_traced telling) total (total ++ f.out) trace_total (trace_total ++ trace_then.0) k0 k2
            stops_then (inl (owes, still)) = inl (owes_then k0.out k1.out k2.out total f.out took_all owes, traces_same (is_traced telling) k0.err k1.err k2.err trace_total told_all still)
            stops_then (inr (took, owes)) =
                let t = trace_owes (is_traced telling) k0.err k1.err k2.err trace_total trace_then.0 f.trace told_all trace_then.2 owes quiet in
                inr (t.0, takes_then k0.out k1.out k2.out total f.out took_all took, t.1)

            stops_writing : StopsInWaiting f.out f.trace k1 k2 → EndsRun (Settles pd lim) (IsTrace pd lim) lim (is_traced telling) WriteFailed ps stop k0 k2
            stops_writing stops = (
              calm,
              record {
                wrote = total;
                w = total ++ f.out;
                told = trace_total;
                t = trace_total ++ trace_then.0;
                reached = record {
                  settled = settled_then;
                  before = behind (Settles pd lim) total total_now;
                  traced = traced_then;
                  traced_before = behind (IsTrace pd lim) trace_total trace_now;
                };
                stops = stops_then stops;
              },
            )

            ends_by : (e : Ended) → WroteWaiting f.out f.trace k1 k2 → By lim c (is_end stop) r → e ≡ ended_by r
                → UnlessMemory e (StandsOf stands lim u c (is_end stop)) × EndsRun (Settles pd lim) (IsTrace pd lim) lim (is_traced telling) (run_end e) ps stop k0 k2
            ends_by e w (ByOk ok is clean) by =
                let at_end : stop ≡ EndAnswered = whole ok in
                let all = writes_all w in
                subst (λ (z : Ended). UnlessMemory z (StandsOf stands lim u c (is_end stop)) × EndsRun (Settles pd lim) (IsTrace pd lim) lim (is_traced telling) (run_end z) ps stop k0 k2) (sym (by ∙ is))
                (stand_then, (at_end, clean_at at_end clean, all_at at_end all))
              where
                clean_at : stop ≡ EndAnswered → FaultIs lim c (is_end stop) None → FaultIs lim (joined ps) true None
                clean_at at_end clean = subst (λ (l : List ℕ). FaultIs lim l true None) (sym bytes_are) (subst (λ (z : Stop). FaultIs lim c (is_end z) None) at_end clean)

                all_at : stop ≡ EndAnswered → WritesAll (Settles pd lim) (IsTrace pd lim) (is_traced telling) (joined ps) (is_end stop) k0 k2
                    → WritesAll (Settles pd lim) (IsTrace pd lim) (is_traced telling) (joined ps) true k0 k2
                all_at at_end all = subst (λ (z : Stop). WritesAll (Settles pd lim) (IsTrace pd lim) (is_traced telling) (joined ps) (is_end z) k0 k2) at_end all
            ends_by e w (ByFault fault is has) by =
                subst (λ (z : Ended). UnlessMemory z (StandsOf stands lim u c (is_end stop)) × EndsRun (Settles pd lim) (IsTrace pd lim) lim (is_traced telling) (run_end z) ps stop k0 k2) (sym (by ∙ is))
                (stand_then, (calm, subst (λ (l : List ℕ). FaultIs lim l (is_end stop) (Some fault)) (sym bytes_are) has, writes_all w))

          ends_so : EndsWaiting r end f.out f.trace k1 k2 → Ran stands lim telling u end s0 s1 k0 k2
          ends_so (inl (memory, is, still)) =
              ran (subst (λ (z : Ended). UnlessMemory z (StandsOf stands lim u c (is_end stop))) (sym is) tt)
              (subst (λ (z : Ended). EndsRun (Settles pd lim) (IsTrace pd lim) lim (is_traced telling) (run_end z) ps stop k0 k2) (sym is) (lost (lost_of r (Lost lim d f b false c (is_end stop)) (Kept stands lim d f b false c (is_end stop)) memory call) still))
          ends_so (inr (inl (other, is, wrote))) =
              let q = ends_by other end wrote (by lim c (is_end stop) r other exact) is in ran q.0 q.1
          ends_so (inr (inr (other, is, stops))) =
              ran (subst (λ (z : Ended). UnlessMemory z (StandsOf stands lim u c (is_end stop))) (sym is) (stand_then other))
              (subst (λ (z : Ended). EndsRun (Settles pd lim) (IsTrace pd lim) lim (is_traced telling) (run_end z) ps stop k0 k2) (sym is) (stops_writing other stops))

          pub call_ends : Ran stands lim telling u end s0 s1 k0 k2
          call_ends = ends_so so

        -- or it goes on
        pub call_goes : (s1 : SourceView) (f : EngineView C) (piece : List ℕ) → SourceGave s0 s1 (h.pieces ++ piece ∷ []) More → length piece ≤ 65536
            → f.plan ≡ d.plan → f.refused ≡ None → TellsBy telling f → Kept stands lim d f b false (b ++ piece) false
            → (telling ≡ ByToken → TraceGrewBy (plan_tree d.plan) lim b false (b ++ piece) false [] f.trace)
            → Between stands lim telling f s0 s1 k0 k1
        call_goes s1 f piece gave short plan fresh tells kept traced =
            let p : plan_tree d.plan ≡ plan_tree f.plan = ap (λ z. plan_tree z) (sym plan) in
            let c_is : b ++ piece ≡ joined (h.pieces ++ piece ∷ []) = sym (joined_push h.pieces piece) in
            let t = trace_kept telling (plan_tree d.plan) lim b piece false trace_total f.trace trace_now traced in
            let clean = (bytes_few stands lim f (b ++ piece) false kept.of fresh).0 in
            record {
              pieces = h.pieces ++ piece ∷ [];
              of = subst (λ (l : List ℕ). StandsOf stands lim f l false) c_is kept.of;
              fresh = fresh;
              tells = tells;
              gave = gave;
              clean = clean_more lim h.pieces piece h.clean short clean;
              written = total;
              took = took_all;
              settled = subst (λ (z : PlanTree). Settles z lim (joined (h.pieces ++ piece ∷ [])) false (total ++ f.out)) p
                  (subst (λ (l : List ℕ). Settles (plan_tree d.plan) lim l false (total ++ f.out)) c_is (settled_more f (b ++ piece) false kept));
              before = LastPiece h.pieces piece refl refl (subst (λ (z : PlanTree). Settles z lim b false total) p total_now);
              trace = record {
                told = trace_total;
                rest = t.0;
                took = told_all;
                traced = subst (λ (z : PlanTree). IsTrace z lim (joined (h.pieces ++ piece ∷ [])) false (trace_total ++ t.0)) p
                    (subst (λ (l : List ℕ). IsTrace (plan_tree d.plan) lim l false (trace_total ++ t.0)) c_is t.1);
                before = LastPiece h.pieces piece refl refl (subst (λ (z : PlanTree). IsTrace z lim b false trace_total) p trace_now);
                waits_is = t.2;
              };
            }

-- ---- whether a trace is told

pub tells_told : {C : Type 0} (t : Traced) (e : EngineView C) → TellsBy t e → t ≡ ByToken → IsTold e
tells_told ByToken e h is = h
tells_told Silent e h is = absurd (cc)

pub tells_silent : {C : Type 0} (t : Traced) (e : EngineView C) → TellsBy t e → is_traced t ≡ false → IsSilent e
tells_silent Silent e h isnt = h
tells_silent ByToken e h isnt = absurd (false≢true (sym isnt))

pub tells_on : {C : Type 0} (t : Traced) (e d : EngineView C) → TellsBy t e → d.tracing ≡ e.tracing → (IsSilent e → IsSilent d)
    → TellsBy t d
tells_on Silent e d h same silent = silent h
tells_on ByToken e d h same silent = same ∙ h

-- the same engine but for what waits of it
pub tells_written : {C : Type 0} (t : Traced) (e d : EngineView C) → TellsBy t e → d ≡ record e { out = d.out; trace = d.trace } → (IsSilent e → IsSilent d)
    → TellsBy t d
tells_written t e d h same silent = tells_on t e d h (ap (λ z. z.tracing) same) silent

-- no trace waits
pub wrote_out : (out trace : List ℕ) (o p e : SinkView) → Takes o p out → trace ≡ [] → WroteWaiting out trace (sinks o e) (sinks p e)
wrote_out out trace o p e took none = record { took = took; told = subst (λ (t : List ℕ). Takes e e t) (sym none) (takes_none e) }
