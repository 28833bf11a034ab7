use Rattle.std.proofs.Common.{◌≡◌, ◌++◌, ◌∙◌, ℕ, Bool, List, Option, ap, map, subst, sym}
use Rattle.gcx_model.specs.declared.fault.DocFault.{DocFault}
use Rattle.std.specs.Prelude.{OnOk, OnErr}
use Rattle.engine.specs.View.{EngineView, over_part, seen_part}
use Rattle.gcx_base.specs.declared.limits.Limits.{Limits}
use Rattle.doc_reader.specs.Standing.{Token, KeepsAnswer, answer_of}
use Rattle.gcx_model.specs.PlanView.{plan_tree}
use Rattle.gcx_model.specs.Seen.{seen_tree}
use Rattle.gcx_model.specs.Demand.{text_of_lines}
use Rattle.doc_reader.specs.Standing.{said_of, waiting}
use Rattle.engine.specs.Engine.{IsTold, OnRefusal, PartsStand}
use Rattle.run_part.specs.Telling.{GrewPart}
use Rattle.engine.proofs.TellingOn.{all_told, go_told}
use Rattle.engine.specs.Going.{Breaks, FeedsOn, lacking, SomeParts}
use Rattle.run_part.proofs.Results.{err_map, ok_map}
use Rattle.engine.proofs.Waiting.{goes_by, parts_refused, refusal_is}
use Rattle.engine.specs.Calls.{FeedsAllFrom, SameRun, TellsWaiting, ToldSome, more_lines}
use Rattle.engine.proofs.engine.Engine.go_on.Goals as goal

pub feed_waiting-fed-requires : goal.feed_waiting-fed-requires
feed_waiting-fed-requires g c =
    let old : EngineView g.row.C.Denot = over_part (seen_part c.self.inside.part) c.self.inside.reader c.self.inside.bytes c.self.inside.refused c.self.inside.ended in
    let q = subst (λ (z : EngineView g.row.C.Denot). SomeParts g.C.Conds.stands z) (sym c.self.view_is) c.requires.parts in
    record { limits = q.limits; read = q.read; ended = q.ended; given = q.given; of = parts_refused g.C.Conds.stands q.limits q.read q.ended q.given old c.refusal-self-inside.result q.of }

pub returns-clause-goes : goal.returns-clause-goes
returns-clause-goes g c =
    let old : EngineView g.row.C.Denot = over_part (seen_part c.self.inside.part) c.self.inside.reader c.self.inside.bytes c.self.inside.refused c.self.inside.ended in
    let n : EngineView g.row.C.Denot = over_part (seen_part c.self-2.inside.part) c.self-2.inside.reader c.self-2.inside.bytes c.self-2.inside.refused c.self-2.inside.ended in
    let d : EngineView g.row.C.Denot = record n { refused = c.lacking-self-inside.result } in
    subst (λ (z : EngineView g.row.C.Denot). FeedsAllFrom g.C.Conds.stands z d) c.self.view_is (λ lim b ended given p.
    let o = c.refusal-self-inside.result in
    let e = c.feed_waiting-fed.new.self in
    let fed = c.feed_waiting-fed.result in
    let w = c.feed_waiting-fed.ensures in
    let p' = parts_refused g.C.Conds.stands lim b ended given old o p in
    let read = c.requires.read ∙ ap (λ (z : EngineView g.row.C.Denot). answer_of z.reader) (sym c.self.view_is) in
    let is : o ≡ old.reader.refused = c.refusal-self-inside.ensures ∙ refusal_is old.reader.refused c.args.read read in
    let plan = ap (λ (z : EngineView g.row.C.Denot). z.plan) w.same.rest in
    let feeds : OnOk fed (FeedsOn g.C.Conds.stands lim (record old { refused = o }) e b ended given)
    = ok_map fed (λ (h : (lim : Limits) (b : List ℕ) (ended : Bool) (given : List Token) → PartsStand g.C.Conds.stands lim (record old { refused = o }) b ended given → FeedsOn g.C.Conds.stands lim (record old { refused = o }) e b ended given). h lim b ended given p') w.feeds in
    let breaks : OnErr fed (Breaks lim (record old { refused = o }) e b ended given)
    = err_map fed (λ (h : (lim : Limits) (b : List ℕ) (ended : Bool) (given : List Token) → PartsStand g.C.Conds.stands lim (record old { refused = o }) b ended given → Breaks lim (record old { refused = o }) e b ended given). h lim b ended given p') w.breaks in
    let kept : n.refused ≡ o = ap (λ (z : EngineView g.row.C.Denot). z.refused) c.self-2.view_is ∙ ap (λ (z : EngineView g.row.C.Denot). z.refused) w.same.rest in
    let r : c.lacking-self-inside.result ≡ lacking o fed = c.lacking-self-inside.ensures ∙ ap (λ (x : Option DocFault). lacking x fed) kept in
    goes_by g.C.Conds.stands lim b ended given old e d o fed is plan feeds w.none breaks (ap (λ (z : EngineView g.row.C.Denot). record z { refused = c.lacking-self-inside.result }) c.self-2.view_is ∙ ap (λ (x : Option DocFault). record e { refused = x }) r))

pub returns-clause-same : goal.returns-clause-same
returns-clause-same g c =
    let old : EngineView g.row.C.Denot = over_part (seen_part c.self.inside.part) c.self.inside.reader c.self.inside.bytes c.self.inside.refused c.self.inside.ended in
    let n : EngineView g.row.C.Denot = over_part (seen_part c.self-2.inside.part) c.self-2.inside.reader c.self-2.inside.bytes c.self-2.inside.refused c.self-2.inside.ended in
    let d : EngineView g.row.C.Denot = record n { refused = c.lacking-self-inside.result } in
    let e = c.feed_waiting-fed.new.self in
    let h = c.feed_waiting-fed.ensures.same in
    let same : SameRun old e = record {
      plan = ap (λ (z : EngineView g.row.C.Denot). z.plan) h.rest;
      ahead = ap (λ (z : EngineView g.row.C.Denot). z.ahead) h.rest;
      tracing = ap (λ (z : EngineView g.row.C.Denot). z.tracing) h.rest;
      silent = λ s. h.silent (record { untold = s.untold; empty = s.empty });
      loans = h.loans;
    } in
    let now = subst (λ (z : EngineView g.row.C.Denot). SameRun z n) c.self.view_is (subst (λ (z : EngineView g.row.C.Denot). SameRun old z) (sym c.self-2.view_is) same) in
    record { plan = now.plan; ahead = now.ahead; tracing = now.tracing; silent = λ s. let t = now.silent s in record { untold = t.untold; empty = t.empty }; loans = now.loans }

pub returns-clause-keeps : goal.returns-clause-keeps
returns-clause-keeps g c =
    let old : EngineView g.row.C.Denot = over_part (seen_part c.self.inside.part) c.self.inside.reader c.self.inside.bytes c.self.inside.refused c.self.inside.ended in
    let n : EngineView g.row.C.Denot = over_part (seen_part c.self-2.inside.part) c.self-2.inside.reader c.self-2.inside.bytes c.self-2.inside.refused c.self-2.inside.ended in
    let d : EngineView g.row.C.Denot = record n { refused = c.lacking-self-inside.result } in
    let h = subst (λ (z : EngineView g.row.C.Denot). KeepsAnswer old.reader z.reader) (sym c.self-2.view_is) c.feed_waiting-fed.ensures.same.keeps in
    subst (λ (z : EngineView g.row.C.Denot). KeepsAnswer z.reader n.reader) c.self.view_is h

pub returns-clause-bytes : goal.returns-clause-bytes
returns-clause-bytes g c = ap (λ (z : EngineView g.row.C.Denot). z.bytes) c.self-2.view_is ∙ ap (λ (z : EngineView g.row.C.Denot). z.bytes) c.feed_waiting-fed.ensures.same.rest ∙ ap (λ (z : EngineView g.row.C.Denot). z.bytes) c.self.view_is

pub returns-clause-closing : goal.returns-clause-closing
returns-clause-closing g c = ap (λ (z : EngineView g.row.C.Denot). z.ended) c.self-2.view_is ∙ ap (λ (z : EngineView g.row.C.Denot). z.ended) c.feed_waiting-fed.ensures.same.rest ∙ ap (λ (z : EngineView g.row.C.Denot). z.ended) c.self.view_is

pub returns-clause-told : goal.returns-clause-told
returns-clause-told g c =
    let old : EngineView g.row.C.Denot = over_part (seen_part c.self.inside.part) c.self.inside.reader c.self.inside.bytes c.self.inside.refused c.self.inside.ended in
    let n : EngineView g.row.C.Denot = over_part (seen_part c.self-2.inside.part) c.self-2.inside.reader c.self-2.inside.bytes c.self-2.inside.refused c.self-2.inside.ended in
    let d : EngineView g.row.C.Denot = record n { refused = c.lacking-self-inside.result } in
    subst (λ (z : EngineView g.row.C.Denot). TellsWaiting g.C.Conds.stands (OnRefusal d.refused) z d) c.self.view_is (λ s lim b ended given p.
    let o = c.refusal-self-inside.result in
    let e = c.feed_waiting-fed.new.self in
    let fed = c.feed_waiting-fed.result in
    let w = c.feed_waiting-fed.ensures in
    let pl = plan_tree old.plan in
    let P = seen_tree (map said_of given) in
    let before = old.trace in
    let after = e.trace in
    let text = text_of_lines (more_lines pl P (waiting old.reader)) in
    let p' = parts_refused g.C.Conds.stands lim b ended given old o p in
    let s' : IsTold (record old { refused = o }) = s in
    let told : OnOk fed (ToldSome pl P (waiting old.reader) (waiting e.reader) before after)
    = ok_map fed (λ (h : IsTold (record old { refused = o }) → (lim : Limits) (b : List ℕ) (ended : Bool) (given : List Token) → PartsStand g.C.Conds.stands lim (record old { refused = o }) b ended given
    → ToldSome (plan_tree old.plan) (seen_tree (map said_of given)) (waiting old.reader) (waiting e.reader) before after). h s' lim b ended given p') w.told in
    let part : OnErr fed (GrewPart before after text)
    = err_map fed (λ (h : IsTold (record old { refused = o }) → (lim : Limits) (b : List ℕ) (ended : Bool) (given : List Token) → PartsStand g.C.Conds.stands lim (record old { refused = o }) b ended given
    → GrewPart before after (text_of_lines (more_lines (plan_tree old.plan) (seen_tree (map said_of given)) (waiting old.reader)))). h s' lim b ended given p') w.part in
    let kept : n.refused ≡ o = ap (λ (z : EngineView g.row.C.Denot). z.refused) c.self-2.view_is ∙ ap (λ (z : EngineView g.row.C.Denot). z.refused) w.same.rest in
    let r : c.lacking-self-inside.result ≡ lacking o fed = c.lacking-self-inside.ensures ∙ ap (λ (x : Option DocFault). lacking x fed) kept in
    subst (λ (z : EngineView g.row.C.Denot). OnRefusal c.lacking-self-inside.result (GrewPart before z.trace text) (z.trace ≡ before ++ text)) (sym c.self-2.view_is)
    (subst (λ (x : Option DocFault). OnRefusal x (GrewPart before after text) (after ≡ before ++ text)) (sym r)
    (go_told o fed before after text (all_told pl P (waiting old.reader) (waiting e.reader) before after fed told w.none) part)))
