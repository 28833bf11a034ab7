-- What the calls of an engine add to its trace.
use Rattle.std.proofs.Common.{◌≡◌, ℕ, Bool, false, List, [], ◌++◌, map, refl, sym, ◌∙◌, ap, subst, append_assoc, Some, None, Option}
use Rattle.std.proofs.lemmas.List.{append-nil, map-append}
use Rattle.gcx_base.specs.declared.limits.Limits.{Limits}
use Rattle.gcx_model.specs.declared.fault.DocFault.{DocFault}
use Rattle.gcx_model.specs.declared.fault.DocFault.TheVariants.{Utf8, Syntax, Truncated, Depth, NameLong, TextLong, TooLong, Memory}
use Rattle.gcx_model.specs.Tree.{Tree, TreeToken as Said, grow_all}
use Rattle.gcx_model.specs.Core.{PlanTree}
use Rattle.gcx_model.specs.PlanView.{plan_tree}
use Rattle.gcx_model.specs.Seen.{SeenIs, seen_tree}
use Rattle.gcx_model.specs.Demand.{demand, text_of_lines, trace_lines}
use Rattle.run_laws.proofs.Goes.{demand-append, trace_lines-append}
use Rattle.doc_laws.proofs.Found.{found_seen}
use Rattle.doc_laws.proofs.Growing.{seen_more}
use Rattle.doc_laws.proofs.LastTag.{seen_one}
use Rattle.doc_reader.specs.Standing.{Token, ReaderView, Stands, IsRefused, waiting, said_of}
use Rattle.doc_reader.proofs.Standings.{stands_still}
use Rattle.engine.specs.View.{EngineView}
use Rattle.engine.specs.Engine.{IsTrace, Kept, Lost, OnRefusal, StandsOf, TraceGrewBy, TraceGrewWithin}
use Rattle.engine.specs.Going.{FedAll, GoesOn}
use Rattle.engine.specs.Calls.{more_lines}
use Rattle.run_part.specs.Telling.{GrewPart}
use Rattle.engine.proofs.Courses.{InPiece}
use Rattle.engine.proofs.Seeing.{all_by, all_given, all_of_it, seeing_waiting}
use Rattle.run_part.proofs.Telling.{text_append}
use Rattle.engine.proofs.Waiting.{from_none, on_none, refusal_map}

-- both hold behind a refusal
pub on_both : (o : Option DocFault) (A B X Y : Type 0) → OnRefusal o A B → OnRefusal o X Y → OnRefusal o (A × X) (B × Y)
on_both None A B X Y h k = (h, k)
on_both (Some Memory) A B X Y h k = (h, k)
on_both (Some (Utf8 n)) A B X Y h k = (h, k)
on_both (Some (Syntax n)) A B X Y h k = (h, k)
on_both (Some (Truncated n)) A B X Y h k = (h, k)
on_both (Some (Depth n)) A B X Y h k = (h, k)
on_both (Some (NameLong n)) A B X Y h k = (h, k)
on_both (Some (TextLong n)) A B X Y h k = (h, k)
on_both (Some (TooLong n)) A B X Y h k = (h, k)

module _ (plan : PlanTree) where
  abbrev pub trace_of : List Said → List ℕ
  trace_of ts = text_of_lines (trace_lines plan ts)

  -- the trace of more tokens goes on
  pub trace_more : (ts us : List Said) → trace_of (ts ++ us) ≡ trace_of ts ++ text_of_lines (demand plan us (seen_tree ts))
  trace_more ts us = ap text_of_lines (trace_lines-append plan ts us) ∙ text_append (trace_lines plan ts) (demand plan us (seen_tree ts))

  pub demand_more : (P : Tree) (us vs : List Said) → text_of_lines (demand plan (us ++ vs) P) ≡ text_of_lines (demand plan us P) ++ text_of_lines (demand plan vs (grow_all us P))
  demand_more P us vs = ap text_of_lines (demand-append plan us vs P) ∙ text_append (demand plan us P) (demand plan vs (grow_all us P))

  -- the trace of bytes is one text
  pub trace_one : (lim : Limits) (b : List ℕ) (ended : Bool) (v w : List ℕ) → IsTrace plan lim b ended v → IsTrace plan lim b ended w → v ≡ w
  trace_one lim b ended v w s t = s.2 ∙ (ap trace_of (seen_one lim b ended s.0 t.0 s.1 t.1) ∙ sym t.2)

  pub trace_none : (lim : Limits) (b : List ℕ) (was : Bool) (w u : List ℕ) → IsTrace plan lim b was w → TraceGrewBy plan lim b was b was u u
  trace_none lim b was w u s = record { old = w; more = []; traced = s; traces = subst (λ (z : List ℕ). IsTrace plan lim b was z) (sym (append-nil w)) s; grew = sym (append-nil u) }

  -- one call behind another
  module _ (lim : Limits) (b : List ℕ) (was : Bool) (c : List ℕ) (mid : Bool) (d : List ℕ) (ended : Bool) (u v w : List ℕ) where
    pub trace_on : TraceGrewBy plan lim b was c mid u v → TraceGrewBy plan lim c mid d ended v w → TraceGrewBy plan lim b was d ended u w
    trace_on g h =
        let e = trace_one lim c mid h.old (g.old ++ g.more) h.traced g.traces in
        record {
          old = g.old;
          more = g.more ++ h.more;
          traced = g.traced;
          traces = subst (λ (z : List ℕ). IsTrace plan lim d ended z) (ap (λ (z : List ℕ). z ++ h.more) e ∙ append_assoc g.old g.more h.more) h.traces;
          grew = h.grew ∙ (ap (λ (z : List ℕ). z ++ h.more) g.grew ∙ append_assoc u g.more h.more);
        }

    pub trace_within_on : TraceGrewBy plan lim b was c mid u v → TraceGrewWithin plan lim c mid d ended v w → TraceGrewWithin plan lim b was d ended u w
    trace_within_on g h =
        let e = trace_one lim c mid h.old (g.old ++ g.more) h.traced g.traces in
        record {
          old = g.old;
          part = g.more ++ h.part;
          rest = h.rest;
          traced = g.traced;
          traces = subst (λ (z : List ℕ). IsTrace plan lim d ended z)
              (ap (λ (z : List ℕ). z ++ (h.part ++ h.rest)) e ∙ (append_assoc g.old g.more (h.part ++ h.rest) ∙ ap (λ (z : List ℕ). g.old ++ z) (sym (append_assoc g.more h.part h.rest)))) h.traces;
          grew = h.grew ∙ (ap (λ (z : List ℕ). z ++ h.part) g.grew ∙ append_assoc u g.more h.part);
        }

  -- more bytes have more lines
  pub traces_more : (lim : Limits) (b more : List ℕ) (ended : Bool) (w : List ℕ) → IsTrace plan lim b false w → (rest : List ℕ) × IsTrace plan lim (b ++ more) ended (w ++ rest)
  traces_more lim b more ended w s =
      let us = found_seen lim (b ++ more) ended in
      let t = seen_more lim b more ended s.0 us.0 s.1 us.1 in
      let rest = text_of_lines (demand plan t.0 (seen_tree s.0)) in
      (rest, (us.0, us.1, ap (λ (z : List ℕ). z ++ rest) s.2 ∙ sym (ap trace_of t.1 ∙ trace_more s.0 t.0)))

  pub trace_within_more : (lim : Limits) (b : List ℕ) (was : Bool) (c more : List ℕ) (u v : List ℕ) → TraceGrewWithin plan lim b was c false u v → TraceGrewWithin plan lim b was (c ++ more) false u v
  trace_within_more lim b was c more u v g =
      let r = traces_more lim c more false (g.old ++ (g.part ++ g.rest)) g.traces in
      record {
        old = g.old;
        part = g.part;
        rest = g.rest ++ r.0;
        traced = g.traced;
        traces = subst (λ (z : List ℕ). IsTrace plan lim (c ++ more) false z) (append_assoc g.old (g.part ++ g.rest) r.0 ∙ ap (λ (z : List ℕ). g.old ++ z) (append_assoc g.part g.rest r.0)) r.1;
        grew = g.grew;
      }

  module _ (lim : Limits) (b : List ℕ) (was : Bool) (c : List ℕ) (ended : Bool) (given : List Token) (r : ReaderView) (u v : List ℕ) (seen : SeenIs lim b was (map said_of given)) (reads : Stands r lim c ended given) where
    abbrev text : List ℕ
    text = text_of_lines (more_lines plan (seen_tree (map said_of given)) (waiting r))

    -- memory ran out: a front of the lines of the tokens that waited is one of all
    pub told_within : GrewPart u v text → TraceGrewWithin plan lim b was c ended u v
    told_within h =
        let ts = map said_of given in
        let ws = map said_of (waiting r) in
        let x = all_of_it r lim c ended given reads in
        let s : SeenIs lim c ended (ts ++ (ws ++ x.rest)) = seeing_waiting r lim c ended given reads in
        let more = text_of_lines (demand plan x.rest (grow_all ws (seen_tree ts))) in
        let whole : trace_of (ts ++ (ws ++ x.rest)) ≡ trace_of ts ++ (h.0 ++ (h.1 ++ more)) = trace_more ts (ws ++ x.rest)
        ∙ (ap (λ (z : List ℕ). trace_of ts ++ z) (demand_more (seen_tree ts) ws x.rest)
        ∙ ap (λ (z : List ℕ). trace_of ts ++ z) (ap (λ (z : List ℕ). z ++ more) h.2 ∙ append_assoc h.0 h.1 more)) in
        record { old = trace_of ts; part = h.0; rest = h.1 ++ more; traced = (ts, seen, refl); traces = (ts ++ (ws ++ x.rest), s, sym whole); grew = h.3 }

    -- it didn't: the lines of the tokens that waited
    pub told_by : (r.refused ≡ Some Memory → ⊥) → v ≡ u ++ text → TraceGrewBy plan lim b was c ended u v
    told_by lasts h =
        let ts = map said_of given in
        let ws = map said_of (waiting r) in
        let s : SeenIs lim c ended (ts ++ ws) = subst (λ (z : List Said). SeenIs lim c ended z) (map-append said_of given (waiting r)) (all_by r.refused lim c ended (given ++ waiting r) lasts reads.gives) in
        record { old = trace_of ts; more = text; traced = (ts, seen, refl); traces = (ts ++ ws, s, sym (trace_more ts ws)); grew = h }

-- the reader took what was fed, and the tokens that waited then were told
pub told_to : {C : Type 0} (stands : C → Tree → Type 0) (lim : Limits) (b : List ℕ) (was : Bool) (c : List ℕ) (ended : Bool) (old e d : EngineView C) → (s : StandsOf stands lim old b was) → e.plan ≡ old.plan → e.trace ≡ old.trace
    → Stands e.reader lim c ended s.given → GoesOn stands lim e d c ended s.given
    → OnRefusal d.refused (GrewPart e.trace d.trace (text_of_lines (more_lines (plan_tree e.plan) (seen_tree (map said_of s.given)) (waiting e.reader))))
    (d.trace ≡ e.trace ++ text_of_lines (more_lines (plan_tree e.plan) (seen_tree (map said_of s.given)) (waiting e.reader)))
    → OnRefusal d.refused (TraceGrewWithin (plan_tree old.plan) lim b was c ended old.trace d.trace) (TraceGrewBy (plan_tree old.plan) lim b was c ended old.trace d.trace)
told_to stands lim b was c ended old e d s plan trace reads goes told =
    let T = text_of_lines (more_lines (plan_tree e.plan) (seen_tree (map said_of s.given)) (waiting e.reader)) in
    subst (λ z. OnRefusal d.refused (TraceGrewWithin (plan_tree z) lim b was c ended old.trace d.trace) (TraceGrewBy (plan_tree z) lim b was c ended old.trace d.trace)) plan
    (subst (λ z. OnRefusal d.refused (TraceGrewWithin (plan_tree e.plan) lim b was c ended z d.trace) (TraceGrewBy (plan_tree e.plan) lim b was c ended z d.trace)) trace
    (refusal_map d.refused
    (λ h. told_within (plan_tree e.plan) lim b was c ended s.given e.reader e.trace d.trace s.seen reads h.1)
    (λ lasts (h : FedAll stands lim e d c ended s.given × (d.trace ≡ e.trace ++ T)). told_by (plan_tree e.plan) lim b was c ended s.given e.reader e.trace d.trace s.seen reads (λ m. lasts (h.0.refused ∙ m)) h.1)
    (on_both d.refused _ _ _ _ goes told)))

-- ---- a piece, in slices

module _ {C : Type 0} (stands : C → Tree → Type 0) (lim : Limits) where
  -- behind a refusal more bytes change nothing
  seen_still : (e : EngineView C) (c rest : List ℕ) (s : StandsOf stands lim e c false) → (e.refused ≡ Some Memory → ⊥) → (e.refused ≡ None → rest ≡ []) → SeenIs lim (c ++ rest) false (map said_of s.given)
  seen_still e c rest s lasts none = go e.refused refl
    where
      go : (o : Option DocFault) → e.refused ≡ o → SeenIs lim (c ++ rest) false (map said_of s.given)
      go None f = subst (λ (x : List ℕ). SeenIs lim x false (map said_of s.given)) (sym (ap (λ (x : List ℕ). c ++ x) (none f) ∙ append-nil c)) s.seen
      go (Some g) f =
          let is : IsRefused e.reader = λ n. let q = s.kept (λ m. let x : Some g ≡ None = sym f ∙ m in cc) in let x : Some g ≡ None = sym f ∙ (sym q ∙ n) in cc in
          let r : Stands e.reader lim (c ++ rest) false s.given = stands_still e.reader lim c rest s.given is s.parts.reader in
          let same : e.reader.refused ≡ e.refused = s.kept (λ m. let x : Some g ≡ None = sym f ∙ m in cc) in
          all_given e.reader lim (c ++ rest) false s.given r s.none (λ m. lasts (sym same ∙ m))

  module _ (b : List ℕ) where
    -- what a front of a piece added
    abbrev pub InTrace : (old e : EngineView C) → (done : List ℕ) → Type 0
    InTrace old e done = OnRefusal e.refused (TraceGrewWithin (plan_tree old.plan) lim b false (b ++ done) false old.trace e.trace) (TraceGrewBy (plan_tree old.plan) lim b false (b ++ done) false old.trace e.trace)

    pub trace_begins : (old : EngineView C) → old.refused ≡ None → StandsOf stands lim old b false → InTrace old old []
    trace_begins old fresh s =
        let pl = plan_tree old.plan in
        let t : TraceGrewBy pl lim b false (b ++ []) false old.trace old.trace = subst (λ (z : List ℕ). TraceGrewBy pl lim b false z false old.trace old.trace) (sym (append-nil b)) (trace_none pl lim b false (trace_of pl (map said_of s.given)) old.trace (map said_of s.given, s.seen, refl)) in
        on_none old.refused _ _ fresh t

    -- a slice more, where nothing was refused before
    pub trace_goes : (old e d : EngineView C) (done slice : List ℕ) → e.plan ≡ old.plan → e.refused ≡ None → InTrace old e done
        → OnRefusal d.refused (TraceGrewWithin (plan_tree e.plan) lim (b ++ done) false ((b ++ done) ++ slice) false e.trace d.trace) (TraceGrewBy (plan_tree e.plan) lim (b ++ done) false ((b ++ done) ++ slice) false e.trace d.trace)
        → InTrace old d (done ++ slice)
    trace_goes old e d done slice plan fresh p fed =
        let pl = plan_tree old.plan in
        let u = old.trace in
        let v = e.trace in
        let w = d.trace in
        let k : TraceGrewBy pl lim b false (b ++ done) false u v = from_none e.refused (TraceGrewWithin pl lim b false (b ++ done) false u v) (TraceGrewBy pl lim b false (b ++ done) false u v) fresh p in
        subst (λ (z : List ℕ). OnRefusal d.refused (TraceGrewWithin pl lim b false z false u w) (TraceGrewBy pl lim b false z false u w)) (append_assoc b done slice)
        (refusal_map d.refused
        (λ l. trace_within_on pl lim b false (b ++ done) false ((b ++ done) ++ slice) false u v w k (subst (λ z. TraceGrewWithin (plan_tree z) lim (b ++ done) false ((b ++ done) ++ slice) false v w) plan l))
        (λ lasts q. trace_on pl lim b false (b ++ done) false ((b ++ done) ++ slice) false u v w k (subst (λ z. TraceGrewBy (plan_tree z) lim (b ++ done) false ((b ++ done) ++ slice) false v w) plan q))
        fed)

    -- the rest of a piece adds nothing
    pub trace_ends : (old e : EngineView C) (done rest : List ℕ) → (e.refused ≡ None → rest ≡ []) → InPiece stands lim b old e done → InTrace old e done → InTrace old e (done ++ rest)
    trace_ends old e done rest none p t =
        let pl = plan_tree old.plan in
        let u = old.trace in
        let v = e.trace in
        let c = b ++ done in
        subst (λ (z : List ℕ). OnRefusal e.refused (TraceGrewWithin pl lim b false z false u v) (TraceGrewBy pl lim b false z false u v)) (append_assoc b done rest)
        (refusal_map e.refused
        (λ (h : Lost lim old e b false c false × TraceGrewWithin pl lim b false c false u v). trace_within_more pl lim b false c rest u v h.1)
        (λ lasts (h : Kept stands lim old e b false c false × TraceGrewBy pl lim b false c false u v).
        let s = h.0.of in
        let g = h.1 in
        let w : g.old ++ g.more ≡ trace_of pl (map said_of s.given) = trace_one pl lim c false (g.old ++ g.more) (trace_of pl (map said_of s.given)) g.traces (map said_of s.given, s.seen, refl) in
        record { old = g.old; more = g.more; traced = g.traced; traces = (map said_of s.given, seen_still e c rest s lasts none, w); grew = g.grew })
        (on_both e.refused _ _ _ _ p t))
