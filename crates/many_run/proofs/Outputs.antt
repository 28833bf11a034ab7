-- What a run says of one output: what its file took, and what is settled then.
use Rattle.std.proofs.Common.{◌≡◌, ℕ, Bool, false, List, [], ◌++◌, refl, sym, ap, subst}
use Rattle.std.proofs.lemmas.List.{append-nil}
use Rattle.gcx_base.specs.declared.limits.Limits.{Limits}
use Rattle.gcx_io.specs.Views.{SinkView}
use Rattle.gcx_io.specs.Writing.{Takes, joined}
use Rattle.gcx_io.proofs.Written.{takes_none}
use Rattle.gcx_model.specs.Core.{PlanTree}
use Rattle.gcx_model.specs.Run.{bytes_written}
use Rattle.gcx_model.specs.Seen.{seen_tree}
use Rattle.run_words.proofs.Joining.{owes_then, takes_then}
use Rattle.run_words.specs.Ends.{AtEnd, EndsRun, LastPiece, NoMemory, SettlesBefore, Unread, WritesAll}
use Rattle.run_words.specs.Stops.{IsCalm, More, Stop, is_end}
use Rattle.run_words.specs.Writing.{TakesFront}
use Rattle.engine.specs.Engine.{GrewBy, GrewWithin, IsTrace, Settles}
use Rattle.engine.proofs.Courses.{settled_one}
use Rattle.engine.proofs.Nothing.{nothing_seen}
use Rattle.engine.proofs.TellingCalls.{trace_of as trace_text}
use Rattle.many_run.specs.Runs.{StopsInOrder, WroteBy, alone}

module _ (plan : PlanTree) (lim : Limits) where
  -- bytes that settle a text have a trace, too
  trace_there : (b : List ℕ) (ended : Bool) (w : List ℕ) → Settles plan lim b ended w → (t : List ℕ) × IsTrace plan lim b ended t
  trace_there b ended w s = (trace_text plan s.tokens, (s.tokens, s.seen, refl))

  trace_before : (ps : List (List ℕ)) (stop : Stop) (w : List ℕ) → SettlesBefore (Settles plan lim) ps stop w → (t : List ℕ) × SettlesBefore (IsTrace plan lim) ps stop t
  trace_before ps stop w (Unread none more empty) = ([], Unread none more refl)
  trace_before ps stop w (LastPiece before last split more s) = let t = trace_there (joined before) false w s in (t.0, LastPiece before last split more t.1)
  trace_before ps stop w (AtEnd over s) = let t = trace_there (joined ps) false w s in (t.0, AtEnd over t.1)

  pub writes_all : (b : List ℕ) (ended : Bool) (w : List ℕ) (x y : SinkView) → Settles plan lim b ended w → Takes x y w → WritesAll (Settles plan lim) (IsTrace plan lim) false b ended (alone x) (alone y)
  writes_all b ended w x y s took = let t = trace_there b ended w s in record { settled = w; is = s; wrote = took; trace = t.0; traced = t.1; told = refl }

  -- nothing was read or written
  pub none_written : (x : SinkView) → EndsRun (Settles plan lim) (IsTrace plan lim) lim false NoMemory [] More (alone x) (alone x)
  none_written x =
      let w = bytes_written plan.body (seen_tree []) in
      let settled : Settles plan lim [] false w = record { tokens = []; seen = nothing_seen lim; is = refl } in
      let t = trace_there [] false w settled in (
        tt,
        record {
          wrote = [];
          w = w;
          told = [];
          t = t.0;
          reached = record { settled = settled; before = Unread refl refl refl; traced = t.1; traced_before = Unread refl refl refl };
          front = record { more = []; rest = w; took = takes_none x; split = refl };
          trace_front = refl;
        },
      )

  -- more bytes settle more
  module _ (b total : List ℕ) (now : Settles plan lim b false total) (c : List ℕ) (ended : Bool) where
    pub settled_more : (out : List ℕ) → GrewBy plan lim b false c ended [] out → Settles plan lim c ended (total ++ out)
    settled_more out g =
        let o = settled_one plan lim b false g.old total g.settled now in
        subst (λ (v : List ℕ). Settles plan lim c ended (total ++ v)) (sym g.grew) (subst (λ (v : List ℕ). Settles plan lim c ended (v ++ g.more)) o g.settles)

    settled_lost : (out : List ℕ) → GrewWithin plan lim b false c ended [] out → (rest : List ℕ) × Settles plan lim c ended (total ++ rest)
    settled_lost out g =
        let o = settled_one plan lim b false g.old total g.settled now in
        (g.part ++ g.rest, subst (λ (v : List ℕ). Settles plan lim c ended (v ++ (g.part ++ g.rest))) o g.settles)

  -- a write failed, of one of the outputs
  pub stops_at : (ps : List (List ℕ)) (stop : Stop) (at i : ℕ) (x y z : SinkView) (wrote out : List ℕ) → IsCalm stop → Settles plan lim (joined ps) (is_end stop) (wrote ++ out)
      → SettlesBefore (Settles plan lim) ps stop wrote → Takes x y wrote → WroteBy at i out y z → StopsInOrder (Settles plan lim) ps stop at i x z
  stops_at ps stop at i x y z wrote out calm settled before took by = record {
    wrote = wrote;
    w = wrote ++ out;
    calm = calm;
    settled = settled;
    before = before;
    earlier = λ less. takes_then x y z wrote out took (by.0 less);
    here = λ same. owes_then x y z wrote out took (by.1 same);
    later = λ more. subst (λ (v : List ℕ). Takes x z v) (append-nil wrote) (takes_then x y z wrote [] took (by.2 more));
  }

  -- A call behind which the run ends: pieces and stop are those behind it, and all before it was written.
  module _ (b total : List ℕ) (now : Settles plan lim b false total) (x y : SinkView) (took : Takes x y total) (ps : List (List ℕ)) (stop : Stop) (calm : IsCalm stop) (c : List ℕ) (are : joined ps ≡ c)
      (behind : (S : List ℕ → Bool → List ℕ → Type 0) (text : List ℕ) → S b false text → SettlesBefore S ps stop text) where
    -- memory ran out
    pub one_lost : (out : List ℕ) → GrewWithin plan lim b false c (is_end stop) [] out → EndsRun (Settles plan lim) (IsTrace plan lim) lim false NoMemory ps stop (alone x) (alone y)
    one_lost out g =
        let m = settled_lost b total now c (is_end stop) out g in
        let w = total ++ m.0 in
        let settled : Settles plan lim (joined ps) (is_end stop) w = subst (λ (l : List ℕ). Settles plan lim l (is_end stop) w) (sym are) m.1 in
        let before = behind (Settles plan lim) total now in
        let t = trace_there (joined ps) (is_end stop) w settled in
        let u = trace_before ps stop total before in
        let front : TakesFront x y total w = record {
          more = [];
          rest = m.0;
          took = subst (λ (l : List ℕ). Takes x y l) (sym (append-nil total)) took;
          split = ap (λ (l : List ℕ). l ++ m.0) (sym (append-nil total));
        } in (
          calm,
          record {
            wrote = total;
            w = w;
            told = u.0;
            t = t.0;
            reached = record { settled = settled; before = before; traced = t.1; traced_before = u.1 };
            front = front;
            trace_front = refl;
          },
        )

    module _ (out : List ℕ) (g : GrewBy plan lim b false c (is_end stop) [] out) where
      settled_all : Settles plan lim (joined ps) (is_end stop) (total ++ out)
      settled_all = subst (λ (l : List ℕ). Settles plan lim l (is_end stop) (total ++ out)) (sym are) (settled_more b total now c (is_end stop) out g)

      -- all was written
      pub one_whole : (z : SinkView) → Takes y z out → WritesAll (Settles plan lim) (IsTrace plan lim) false (joined ps) (is_end stop) (alone x) (alone z)
      one_whole z then = writes_all (joined ps) (is_end stop) (total ++ out) x z settled_all (takes_then x y z total out took then)

      -- or a write failed
      pub one_stops : (at i : ℕ) (z : SinkView) → WroteBy at i out y z → StopsInOrder (Settles plan lim) ps stop at i x z
      one_stops at i z by = stops_at ps stop at i x y z total out calm settled_all (behind (Settles plan lim) total now) took by
