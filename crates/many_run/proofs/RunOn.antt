-- One turn of a run: what waits is written, the document is read once, and what it gave is fed.
use Rattle.std.proofs.Common.{◌≡◌, ◌∙◌, ℕ, zero, suc, ◌≤◌, Bool, true, false, List, [], ◌∷◌, ◌++◌, inl, inr, length, map, slice_get, Option, Some, None, refl, sym, ap, subst, arith}
use Rattle.std.specs.Prelude.{Result, ⊤}
use Rattle.std.specs.declared.result.Result.TheVariants.{Err, Ok}
use Rattle.gcx_base.specs.declared.limits.Limits.{Limits}
use Rattle.gcx_io.proofs.Written.{joined_push, takes_none}
use Rattle.gcx_io.specs.Causes.{Rose}
use Rattle.gcx_io.specs.Views.{ShelfView, SinkView}
use Rattle.gcx_io.specs.Writing.{Takes, joined}
use Rattle.gcx_io.specs.declared.shelf.Handle.{Handle}
use Rattle.gcx_model.specs.Core.{PlanTree}
use Rattle.gcx_model.specs.Faults.{FaultIs}
use Rattle.gcx_model.specs.PlanView.{plan_tree}
use Rattle.gcx_model.specs.Tree.{Tree}
use Rattle.gcx_model.specs.declared.fault.DocFault.{DocFault}
use Rattle.gcx_model.specs.declared.fault.DocFault.TheVariants.{Depth, Memory, NameLong, Syntax, TextLong, TooLong, Truncated, Utf8}
use Rattle.gcx_model.specs.declared.plan.Plan.{Plan}
use Rattle.run_words.proofs.Joining.{takes_then}
use Rattle.run_words.proofs.Sourcing.{clean_more, clean_none, on_clean}
use Rattle.run_words.specs.Ends.{LastPiece, NoMemory, ReadFailed, RunEnd, SettlesBefore, Unread, WriteFailed, WritesAll}
use Rattle.run_words.specs.Reading.{ReadsOn}
use Rattle.run_words.specs.Stops.{EndAnswered, FaultAnswered, IsCalm, More, Stop, is_end}
use Rattle.doc_reader.specs.Standing.{Answers, IsFault}
use Rattle.engine.specs.Engine.{GrewBy, GrewWithin, IsTrace, OnAnswer, Settles}
use Rattle.engine.specs.Runs.{UnlessMemory, ended_by, run_end}
use Rattle.engine.specs.declared.report.Ended.{Ended}
use Rattle.engine.specs.declared.report.Ended.TheVariants as ends
use Rattle.engine.proofs.Nothing.{none_at_start}
use Rattle.engine.proofs.Answering.{By, ByFault, ByOk, by, kept_of, lost_of}
use Rattle.many_run.specs.Each.{AtEach, OfEach}
use Rattle.many_run.specs.Files.{HandleGave, HandlesApart, LeavesTheRest, sink_at}
use Rattle.many_run.specs.Many.{ManyKept, ManyLost, ManyStand, ManyStart, PartGrew, plans_of}
use Rattle.many_run.specs.Runs.{CountsWriteFault, EndsEach, EndsOne, ManyBetween, MayWrite, OneBetween, OnlyWritten, RanMany, EndsReading, StopsInEach, WroteEach, alone}
use Rattle.many_run.specs.View.{ManyView}
use Rattle.run_part.specs.View.{PartView}
use Rattle.many_run.proofs.Outputs.{none_written, one_lost, one_stops, one_whole, settled_more, stops_at, writes_all}
use Rattle.many_run.proofs.Resting.{gave_none, gave_written, rest_on, rest_same, rest_wider}
use Rattle.many_run.proofs.Walking.{not_there, some_is, there}
use Rattle.many_run.proofs.Writing.{only_bytes, stand_written}

-- ---- the plan of a part

plan_at : {C : Type 0} (parts : List (PartView C)) (i : ℕ) (plan : Plan) → slice_get (map (λ p. p.plan) parts) i ≡ Some plan → (p : PartView C) × (slice_get parts i ≡ Some p) × (p.plan ≡ plan)
plan_at [] i plan at = absurd (cc)
plan_at (p ∷ parts) zero plan at = (p, refl, one_plan p.plan plan at)
  where
    one_plan : (x y : Plan) → Some x ≡ Some y → x ≡ y
    one_plan x y same = cc
plan_at (p ∷ parts) (suc i) plan at = plan_at parts i plan at

-- what holds of each part holds of its plan
each_plan : {C : Type 0} (parts : List (PartView C)) (X : Plan → ℕ → Type 0) → ((i : ℕ) (p : PartView C) → slice_get parts i ≡ Some p → X p.plan i)
    → (i : ℕ) (plan : Plan) → slice_get (map (λ p. p.plan) parts) i ≡ Some plan → X plan i
each_plan parts X each i plan at = let p = plan_at parts i plan at in subst (λ (z : Plan). X z i) p.2 (each i p.0 p.1)

clean_of : {C : Type 0} (stands : C → Tree → Type 0) (lim : Limits) (m : ManyView C) (b : List ℕ) (ended : Bool) → ManyStand stands lim m b ended → m.refused ≡ None → FaultIs lim b ended None
clean_of stands lim m b ended s fresh = subst (λ (z : Option DocFault). IsFault z lim b ended) fresh s.fault

-- want of memory is no refusal
refused_lasts : (r : Result ⊤ DocFault) (f : DocFault) → ended_by r ≡ ends.Refused f → f ≡ Memory → ⊥
refused_lasts (Ok u) f is lacks = cc
refused_lasts (Err Memory) f is lacks = cc
refused_lasts (Err (Utf8 n)) f is lacks = cc
refused_lasts (Err (Syntax n)) f is lacks = cc
refused_lasts (Err (Truncated n)) f is lacks = cc
refused_lasts (Err (Depth n)) f is lacks = cc
refused_lasts (Err (NameLong n)) f is lacks = cc
refused_lasts (Err (TextLong n)) f is lacks = cc
refused_lasts (Err (TooLong n)) f is lacks = cc

pub end_lasts : {C : Type 0} (r : Result ⊤ DocFault) (end : Ended) (m : ManyView C) (outs : List Handle) (a b : ShelfView) → EndsEach r end m outs a b → (f : DocFault) → end ≡ ends.Refused f → f ≡ Memory → ⊥
end_lasts r end m outs a b (inl (memory, is, kept)) f refused lacks = let no : ends.Memory ≡ ends.Refused f = sym is ∙ refused in cc
end_lasts r end m outs a b (inr (inl (other, is, wrote))) f refused lacks = refused_lasts r f (sym is ∙ refused) lacks
end_lasts r end m outs a b (inr (inr (other, is, stops))) f refused lacks = let no : ends.WriteFault ≡ ends.Refused f = sym is ∙ refused in cc

-- no memory for the plans: nothing is read or written
pub ran_none : (plans : List Plan) (lim : Limits) (doc : Handle) (outs : List Handle) (s : ShelfView) → HandlesApart s doc outs → RanMany plans lim ends.Memory 0 doc outs s s
ran_none plans lim doc outs s apart = record {
  run = record {
    pieces = [];
    stop = More;
    at = 0;
    gave = gave_none doc.0 s apart.doc_given;
    reads_on = on_clean lim [] More (clean_none lim (none_at_start lim));
    stops = tt;
    each = λ i o is_o plan is_plan. none_written (plan_tree plan) lim (sink_at o.0 s);
    write_faults = refl;
    others = rest_same outs (λ k. k ≡ doc.0) s;
  };
  bytes = tt;
}

module _ {C : Type 0} (stands : C → Tree → Type 0) (lim : Limits) (doc : Handle) (outs : List Handle) where
  -- before the first read
  pub between_none : (m : ManyView C) (s : ShelfView) → ManyStart stands (plans_of m) lim m → HandlesApart s doc outs → ManyBetween stands lim m doc outs s s
  between_none m s h apart = record {
    pieces = [];
    of = h.of;
    fresh = h.fresh;
    gave = gave_none doc.0 s apart.doc_given;
    clean = clean_none lim (clean_of stands lim m [] false h.of h.fresh);
    each = λ i p o is_p is_o. record { written = []; took = takes_none (sink_at o.0 s); settled = h.settled i p is_p; before = Unread refl refl refl };
    write_faults = refl;
    others = rest_same outs (λ k. k ≡ doc.0) s;
  }

  module _ (e d : ManyView C) (begun s k : ShelfView) (may : MayWrite e s doc outs) (h : ManyBetween stands lim e doc outs begun s) (only : OnlyWritten e d) (rest : LeavesTheRest (λ n. ⊥) outs s k) (calm : k.faults ≡ s.faults) where
    abbrev b : List ℕ
    b = joined h.pieces

    abbrev plans : List Plan
    plans = plans_of e

    no_fault : FaultIs lim b false None
    no_fault = clean_of stands lim e b false h.of h.fresh

    pub stand_now : ManyStand stands lim d b false
    stand_now = stand_written stands lim e d b false only h.of

    pub fresh_now : d.refused ≡ None
    fresh_now = ap (λ (z : ManyView C). z.refused) only.rest ∙ h.fresh

    pub gave_now : HandleGave doc.0 begun k h.pieces More
    gave_now = gave_written doc.0 outs begun s k h.pieces More h.gave rest (λ i o is same. (may.apart.from_doc i o is).0 (sym same)) (λ telling i o is. (may.apart.from_doc i o is).1 telling) calm

    others_now : LeavesTheRest (λ n. n ≡ doc.0) outs begun k
    others_now = rest_on outs (λ n. n ≡ doc.0) begun s k h.others (rest_wider outs (λ n. ⊥) (λ n. n ≡ doc.0) s k (λ n no. absurd no) rest)

    -- a write failed
    pub write_fails : StopsInEach e outs s k → RanMany plans lim ends.WriteFault d.bytes doc outs begun k
    write_fails w = record {
      run = record {
        pieces = h.pieces;
        stop = More;
        at = w.at;
        gave = gave_now;
        reads_on = on_clean lim h.pieces More h.clean;
        stops = tt;
        each = λ i o is_o plan is_plan.
            each_plan e.parts (λ z j. (q : Handle) → slice_get outs j ≡ Some q → EndsOne (Settles (plan_tree z) lim) (IsTrace (plan_tree z) lim) lim WriteFailed h.pieces More w.at j (sink_at q.0 begun) (sink_at q.0 k))
            (λ j p is_p q is_q.
            let x = h.each j p q is_p is_q in
            stops_at (plan_tree p.plan) lim h.pieces More w.at j (sink_at q.0 begun) (sink_at q.0 s) (sink_at q.0 k) x.written p.out tt x.settled x.before x.took (w.each j p q is_p is_q))
            i plan is_plan o is_o;
        write_faults = (w.there, subst (λ (n : ℕ). Rose n k.write_faults) h.write_faults w.write_faults);
        others = others_now;
      };
      bytes = stand_now.bytes;
    }

    -- all that waited was written
    module _ (wrote : WroteEach e outs s k) (r : ShelfView) (same : (o : ℕ) → (o ≡ doc.0 → ⊥) → sink_at o r ≡ sink_at o k) (still : LeavesTheRest (λ n. n ≡ doc.0) outs k r) (uncounted : r.write_faults ≡ k.write_faults) where
      others_read : LeavesTheRest (λ n. n ≡ doc.0) outs begun r
      others_read = rest_on outs (λ n. n ≡ doc.0) begun k r others_now still

      faults_read : r.write_faults ≡ begun.write_faults
      faults_read = uncounted ∙ (wrote.write_faults ∙ h.write_faults)

      sink_read : (i : ℕ) (o : Handle) → slice_get outs i ≡ Some o → sink_at o.0 r ≡ sink_at o.0 k
      sink_read i o is_o = same o.0 (may.apart.from_doc i o is_o).0

      -- what one file took so far
      module _ (i : ℕ) (p : PartView C) (o : Handle) (is_p : slice_get e.parts i ≡ Some p) (is_o : slice_get outs i ≡ Some o) where
        abbrev total : List ℕ
        total = (h.each i p o is_p is_o).written ++ p.out

        took_all : Takes (sink_at o.0 begun) (sink_at o.0 r) total
        took_all =
            let x = h.each i p o is_p is_o in
            subst (λ (z : SinkView). Takes (sink_at o.0 begun) z total) (sym (sink_read i o is_o))
            (takes_then (sink_at o.0 begun) (sink_at o.0 s) (sink_at o.0 k) x.written p.out x.took (wrote.each i p o is_p is_o))

        total_now : Settles (plan_tree p.plan) lim b false total
        total_now = (h.each i p o is_p is_o).settled

      -- the read failed
      pub read_fails : HandleGave doc.0 begun r h.pieces FaultAnswered → RanMany plans lim ends.ReadFault d.bytes doc outs begun r
      read_fails gave = record {
        run = record {
          pieces = h.pieces;
          stop = FaultAnswered;
          at = 0;
          gave = gave;
          reads_on = on_clean lim h.pieces FaultAnswered h.clean;
          stops = (refl, no_fault);
          each = λ i o is_o plan is_plan.
              each_plan e.parts (λ z j. (q : Handle) → slice_get outs j ≡ Some q → EndsOne (Settles (plan_tree z) lim) (IsTrace (plan_tree z) lim) lim ReadFailed h.pieces FaultAnswered 0 j (sink_at q.0 begun) (sink_at q.0 r))
              (λ j p is_p q is_q. (refl, no_fault, writes_all (plan_tree p.plan) lim b false (total j p q is_p is_q) (sink_at q.0 begun) (sink_at q.0 r) (total_now j p q is_p is_q) (took_all j p q is_p is_q)))
              i plan is_plan o is_o;
          write_faults = faults_read;
          others = others_read;
        };
        bytes = stand_now.bytes;
      }

      module _ (empty : OfEach (λ p. p.out ≡ []) d.parts) where
        -- how an output grew in a call, seen from the part that was written
        grown : (Grew : PlanTree → List ℕ → List ℕ → Type 0) (f : ManyView C) → AtEach (PartGrew Grew) d.parts f.parts
            → (i : ℕ) (p : PartView C) → slice_get e.parts i ≡ Some p → (q : PartView C) × (slice_get f.parts i ≡ Some q) × (q.plan ≡ p.plan) × Grew (plan_tree p.plan) [] q.out
        grown Grew f g i p is_p =
            let l = not_there e.parts i p is_p in
            let n = only.each.count in
            let m = g.count in
            let x = there d.parts i (omega (arith, l, n)) in
            let q = there f.parts i (omega (arith, l, n, m)) in
            let plan : x.0.plan ≡ p.plan = ap (λ (z : PartView C). z.plan) (only.each.each i p x.0 is_p x.1) in
            let y = g.each i x.0 q.0 x.1 q.1 in
            (q.0, q.1, y.plan ∙ plan, subst (λ (z : Plan). Grew (plan_tree z) [] q.0.out) plan (subst (λ (v : List ℕ). Grew (plan_tree x.0.plan) v q.0.out) (empty i x.0 x.1) y.grew))

        -- A call ended the run: pieces and stop are those behind it.
        module _ (z : ShelfView) (f u : ManyView C) (piece : List ℕ) (ps : List (List ℕ)) (stop : Stop) (res : Result ⊤ DocFault) (end : Ended) (quiet : IsCalm stop) (gave : HandleGave doc.0 begun r ps stop)
            (reads_on : ReadsOn lim ps stop) (bytes_are : joined ps ≡ b ++ piece) (behind : (S : List ℕ → Bool → List ℕ → Type 0) (text : List ℕ) → S b false text → SettlesBefore S ps stop text)
            (call : OnAnswer res (ManyLost lim d f b false (b ++ piece) (is_end stop)) (ManyKept stands lim d f b false (b ++ piece) (is_end stop))) (exact : Answers res lim (b ++ piece) (is_end stop))
            (whole : res ≡ Ok tt → stop ≡ EndAnswered) (written : OnlyWritten f u) (counted : f.bytes ≡ length (b ++ piece)) (so : EndsEach res end f outs r z)
            (late : LeavesTheRest (λ n. ⊥) outs r z) (unread : z.faults ≡ r.faults) (apart : HandlesApart r doc outs) where
          abbrev c : List ℕ
          c = b ++ piece

          gave_then : HandleGave doc.0 begun z ps stop
          gave_then = gave_written doc.0 outs begun r z ps stop gave late (λ i o is same. (apart.from_doc i o is).0 (sym same)) (λ telling i o is. (apart.from_doc i o is).1 telling) unread

          others_then : LeavesTheRest (λ n. n ≡ doc.0) outs begun z
          others_then = rest_on outs (λ n. n ≡ doc.0) begun r z others_read (rest_wider outs (λ n. ⊥) (λ n. n ≡ doc.0) r z (λ n no. absurd no) late)

          bytes_then : u.bytes ≡ length (joined ps)
          bytes_then = only_bytes f u written ∙ (counted ∙ ap length (sym bytes_are))

          abbrev Said : RunEnd → ℕ → Type 0
          Said by at = (j : ℕ) (p : PartView C) → slice_get e.parts j ≡ Some p → (q : Handle) → slice_get outs j ≡ Some q
              → EndsOne (Settles (plan_tree p.plan) lim) (IsTrace (plan_tree p.plan) lim) lim by ps stop at j (sink_at q.0 begun) (sink_at q.0 z)

          ran : (at : ℕ) → EndsReading lim (run_end end) ps stop → Said (run_end end) at → CountsWriteFault (run_end end) at (length outs) begun.write_faults z.write_faults → UnlessMemory end (u.bytes ≡ length (joined ps)) → RanMany plans lim end u.bytes doc outs begun z
          ran at stops_by said counts bytes = record {
            run = record {
              pieces = ps;
              stop = stop;
              at = at;
              gave = gave_then;
              reads_on = reads_on;
              stops = stops_by;
              each = λ i o is_o plan is_plan.
                  each_plan e.parts (λ y j. (q : Handle) → slice_get outs j ≡ Some q → EndsOne (Settles (plan_tree y) lim) (IsTrace (plan_tree y) lim) lim (run_end end) ps stop at j (sink_at q.0 begun) (sink_at q.0 z))
                  said i plan is_plan o is_o;
              write_faults = counts;
              others = others_then;
            };
            bytes = bytes;
          }

          -- memory ran out, and nothing was written
          lost : ManyLost lim d f b false c (is_end stop) → z ≡ r → Said NoMemory 0
          lost l kept j p is_p q is_q =
              let g = grown (λ plan. GrewWithin plan lim b false c (is_end stop)) f l j p is_p in
              let took : Takes (sink_at q.0 begun) (sink_at q.0 z) (total j p q is_p is_q) = subst (λ (y : ShelfView). Takes (sink_at q.0 begun) (sink_at q.0 y) (total j p q is_p is_q)) (sym kept) (took_all j p q is_p is_q) in
              one_lost (plan_tree p.plan) lim b (total j p q is_p is_q) (total_now j p q is_p is_q) (sink_at q.0 begun) (sink_at q.0 z) took ps stop quiet c bytes_are behind g.0.out g.3

          module _ (other : ended_by res ≡ ends.Memory → ⊥) where
            kept_call : ManyKept stands lim d f b false c (is_end stop)
            kept_call = kept_of res (ManyLost lim d f b false c (is_end stop)) (ManyKept stands lim d f b false c (is_end stop)) other call

            grown_by : (j : ℕ) (p : PartView C) → slice_get e.parts j ≡ Some p → (q : PartView C) × (slice_get f.parts j ≡ Some q) × (q.plan ≡ p.plan) × GrewBy (plan_tree p.plan) lim b false c (is_end stop) [] q.out
            grown_by j p is_p = grown (λ plan. GrewBy plan lim b false c (is_end stop)) f kept_call.grew j p is_p

            -- all that waits was written
            writes : WroteEach f outs r z → (j : ℕ) (p : PartView C) → slice_get e.parts j ≡ Some p → (q : Handle) → slice_get outs j ≡ Some q
                → WritesAll (Settles (plan_tree p.plan) lim) (IsTrace (plan_tree p.plan) lim) false (joined ps) (is_end stop) (alone (sink_at q.0 begun)) (alone (sink_at q.0 z))
            writes w j p is_p q is_q =
                let g = grown_by j p is_p in
                one_whole (plan_tree p.plan) lim b (total j p q is_p is_q) (total_now j p q is_p is_q) (sink_at q.0 begun) (sink_at q.0 r) (took_all j p q is_p is_q) ps stop quiet c bytes_are behind g.0.out g.3 (sink_at q.0 z)
                (w.each j g.0 q g.1 is_q)

            counts_none : WroteEach f outs r z → z.write_faults ≡ begun.write_faults
            counts_none w = w.write_faults ∙ faults_read

            -- or a write failed
            stops : (w : StopsInEach f outs r z) → Said WriteFailed w.at
            stops w j p is_p q is_q =
                let g = grown_by j p is_p in
                one_stops (plan_tree p.plan) lim b (total j p q is_p is_q) (total_now j p q is_p is_q) (sink_at q.0 begun) (sink_at q.0 r) (took_all j p q is_p is_q) ps stop quiet c bytes_are behind g.0.out g.3 w.at j (sink_at q.0 z)
                (w.each j g.0 q g.1 is_q)

            ends_by : WroteEach f outs r z → By lim c (is_end stop) res → end ≡ ended_by res → RanMany plans lim end u.bytes doc outs begun z
            ends_by w (ByOk ok is clean) by_end =
                let at_end : stop ≡ EndAnswered = whole ok in
                let end_is : end ≡ ends.Ok = by_end ∙ is in
                let clean_then : FaultIs lim (joined ps) true None = subst (λ (l : List ℕ). FaultIs lim l true None) (sym bytes_are) (subst (λ (y : Stop). FaultIs lim c (is_end y) None) at_end clean) in
                ran 0 (subst (λ (y : Ended). EndsReading lim (run_end y) ps stop) (sym end_is) (at_end, clean_then))
                (subst (λ (y : Ended). Said (run_end y) 0) (sym end_is) (λ j p is_p q is_q. (
                  at_end,
                  clean_then,
                  subst (λ (y : Stop). WritesAll (Settles (plan_tree p.plan) lim) (IsTrace (plan_tree p.plan) lim) false (joined ps) (is_end y) (alone (sink_at q.0 begun)) (alone (sink_at q.0 z))) at_end (writes w j p is_p q is_q),
                )))
                (subst (λ (y : Ended). CountsWriteFault (run_end y) 0 (length outs) begun.write_faults z.write_faults) (sym end_is) (counts_none w))
                (subst (λ (y : Ended). UnlessMemory y (u.bytes ≡ length (joined ps))) (sym end_is) bytes_then)
            ends_by w (ByFault fault is has) by_end =
                let end_is : end ≡ ends.Refused fault = by_end ∙ is in
                let has_then : FaultIs lim (joined ps) (is_end stop) (Some fault) = subst (λ (l : List ℕ). FaultIs lim l (is_end stop) (Some fault)) (sym bytes_are) has in
                ran 0 (subst (λ (y : Ended). EndsReading lim (run_end y) ps stop) (sym end_is) (quiet, has_then))
                (subst (λ (y : Ended). Said (run_end y) 0) (sym end_is) (λ j p is_p q is_q. (quiet, has_then, writes w j p is_p q is_q)))
                (subst (λ (y : Ended). CountsWriteFault (run_end y) 0 (length outs) begun.write_faults z.write_faults) (sym end_is) (counts_none w))
                (subst (λ (y : Ended). UnlessMemory y (u.bytes ≡ length (joined ps))) (sym end_is) bytes_then)

          ends_so : EndsEach res end f outs r z → RanMany plans lim end u.bytes doc outs begun z
          ends_so (inl (memory, is, kept)) =
              ran 0 (subst (λ (y : Ended). EndsReading lim (run_end y) ps stop) (sym is) quiet)
              (subst (λ (y : Ended). Said (run_end y) 0) (sym is) (lost (lost_of res (ManyLost lim d f b false c (is_end stop)) (ManyKept stands lim d f b false c (is_end stop)) memory call) kept))
              (subst (λ (y : Ended). CountsWriteFault (run_end y) 0 (length outs) begun.write_faults z.write_faults) (sym is) (ap (λ (y : ShelfView). y.write_faults) kept ∙ faults_read))
              (subst (λ (y : Ended). UnlessMemory y (u.bytes ≡ length (joined ps))) (sym is) tt)
          ends_so (inr (inl (other, is, wrote))) = ends_by other wrote (by lim c (is_end stop) res other exact) is
          ends_so (inr (inr (other, is, w))) =
              ran w.at (subst (λ (y : Ended). EndsReading lim (run_end y) ps stop) (sym is) quiet) (subst (λ (y : Ended). Said (run_end y) w.at) (sym is) (stops other w))
              (subst (λ (y : Ended). CountsWriteFault (run_end y) w.at (length outs) begun.write_faults z.write_faults) (sym is) (w.there, subst (λ (n : ℕ). Rose n z.write_faults) faults_read w.write_faults))
              (subst (λ (y : Ended). UnlessMemory y (u.bytes ≡ length (joined ps))) (sym is) bytes_then)

          pub call_ends : RanMany plans lim end u.bytes doc outs begun z
          call_ends = ends_so so

        -- or it goes on
        pub call_goes : (f : ManyView C) (piece : List ℕ) → HandleGave doc.0 begun r (h.pieces ++ piece ∷ []) More → length piece ≤ 65536 → f.refused ≡ None → ManyKept stands lim d f b false (b ++ piece) false
            → ManyBetween stands lim f doc outs begun r
        call_goes f piece gave short fresh kept =
            let c_is : b ++ piece ≡ joined (h.pieces ++ piece ∷ []) = sym (joined_push h.pieces piece) in
            let clean = clean_of stands lim f (b ++ piece) false kept.of fresh in
            record {
              pieces = h.pieces ++ piece ∷ [];
              of = subst (λ (l : List ℕ). ManyStand stands lim f l false) c_is kept.of;
              fresh = fresh;
              gave = gave;
              clean = clean_more lim h.pieces piece h.clean short clean;
              each = each_next f piece c_is kept;
              write_faults = faults_read;
              others = others_read;
            }
          where
            each_next : (f : ManyView C) (piece : List ℕ) → b ++ piece ≡ joined (h.pieces ++ piece ∷ []) → ManyKept stands lim d f b false (b ++ piece) false
                → (i : ℕ) (q : PartView C) (o : Handle) → slice_get f.parts i ≡ Some q → slice_get outs i ≡ Some o → OneBetween lim (h.pieces ++ piece ∷ []) q (sink_at o.0 begun) (sink_at o.0 r)
            each_next f piece c_is kept i q o is_q is_o =
                let l = not_there f.parts i q is_q in
                let n = only.each.count in
                let m = kept.grew.count in
                let p = there e.parts i (omega (arith, l, n, m)) in
                let g = grown (λ plan. GrewBy plan lim b false (b ++ piece) false) f kept.grew i p.0 p.1 in
                let part : q ≡ g.0 = some_is (slice_get f.parts i) q g.0 is_q g.1 in
                let t = total i p.0 o p.1 is_o in
                let now = total_now i p.0 o p.1 is_o in
                let plan : plan_tree p.0.plan ≡ plan_tree q.plan = ap plan_tree (sym (ap (λ (y : PartView C). y.plan) part ∙ g.2)) in
                let settled : Settles (plan_tree p.0.plan) lim (b ++ piece) false (t ++ q.out) = subst (λ (y : PartView C). Settles (plan_tree p.0.plan) lim (b ++ piece) false (t ++ y.out)) (sym part)
                (settled_more (plan_tree p.0.plan) lim b t now (b ++ piece) false g.0.out g.3) in
                record {
                  written = t;
                  took = took_all i p.0 o p.1 is_o;
                  settled = subst (λ (y : PlanTree). Settles y lim (joined (h.pieces ++ piece ∷ [])) false (t ++ q.out)) plan (subst (λ (y : List ℕ). Settles (plan_tree p.0.plan) lim y false (t ++ q.out)) c_is settled);
                  before = LastPiece h.pieces piece refl refl (subst (λ (y : PlanTree). Settles y lim b false t) plan now);
                }
