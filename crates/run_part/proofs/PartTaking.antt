-- What a part makes of tokens that are lent.
use Rattle.std.proofs.Common.{◌≡◌, ◌≤◌, ◌∙◌, ◌++◌, [], ℕ, zero, suc, Bool, true, false, List, Option, Some, None, refl, sym, ap, subst, arith, append_assoc}
use Rattle.std.specs.Prelude.{OnErr, OnOk, Result}
use Rattle.std.specs.declared.result.Result.TheVariants.{Ok, Err}
use Rattle.std.proofs.lemmas.List.{append-nil}
use Rattle.gcx_model.specs.Core.{PlanTree}
use Rattle.gcx_model.specs.Demand.{text_of_lines, trace_lines}
use Rattle.gcx_model.specs.Growth.{Leads, may_all}
use Rattle.gcx_model.specs.PlanView.{plan_tree}
use Rattle.gcx_model.specs.Seen.{seen_tree}
use Rattle.gcx_model.specs.Tree.{Tree, TreeToken as Said, opening}
use Rattle.gcx_model.specs.declared.plan.Plan.{Plan}
use Rattle.outside.specs.Orders.{OrdersTokens, OrdersWrites}
use Rattle.outside.specs.Outputs.{MayTakeTokens, OutputGrewBy, OutputGrewWithin, OutputText}
use Rattle.outside.specs.Places.{Elsewhere, OnlyWaitingChanged, PlaceView, SameFlows, TakesSomeTo, TakesTo, WroteOn, went_at}
use Rattle.run_part.specs.Actors.{IsBalanced, all_of, bytes_at}
use Rattle.run_part.specs.Flows.{FlowsSame, LeavesTaking, MayWriteBoth, OnlyBoth, SameOutlets, TakesSomeWork, TakesWork, flow_at, flows}
use Rattle.run_part.specs.Fronts.{more_leads}
use Rattle.run_part.specs.Late.{BrokeLate, KeepsMostLate, MayFeedAll, SomeFed, StandBehind}
use Rattle.run_part.specs.Order.{KeepsOrder, OrdersLent}
use Rattle.run_part.specs.Part.{ComeBehind, PartBreaks, PartGoes, PartStands, told_behind}
use Rattle.run_part.specs.Taker.{PartStays, lines_text, of_both, output_text, part_ordered, part_outs, part_peak, part_places, part_stands, part_texts}
use Rattle.run_part.specs.TakerLaws.{lines_more}
use Rattle.run_part.specs.Telling.{GrewPart}
use Rattle.run_part.specs.View.{ActorsView, LinesView, PartView}
use Rattle.run_part.specs.declared.pace.Work.{Work}
use Rattle.run_part.proofs.FeedingOne.{old_balance}
use Rattle.run_part.proofs.InOrder.{order_taken, order_written}
use Rattle.run_part.proofs.LateGroups.{may_behind}
use Rattle.run_part.proofs.Writing.{bytes_front, goes_front}

-- those that were given lead to all that come
pub come_leads : (given more : List Said) → ComeBehind given more → Leads opening (seen_tree given) × Leads (seen_tree given) (seen_tree (given ++ more))
come_leads given more c = more_leads given more (may_behind given more c.may c.come)

-- where memory ran out behind some of them a front of what all of them write was written
broke_part : (plan : PlanTree) {C : Type 0} (d : ActorsView C) (given more : List Said) (u v : List ℕ) → ComeBehind given more → BrokeLate plan d given more u v → PartBreaks plan given (given ++ more) u v
broke_part plan d given more u v c k =
    let parts : given ++ more ≡ (given ++ k.fed) ++ k.rest = ap (λ (z : List Said). given ++ z) k.parts ∙ sym (append_assoc given k.fed k.rest) in
    let may : may_all ((given ++ k.fed) ++ k.rest) opening ≡ true = subst (λ (z : List Said). may_all z opening ≡ true) parts (may_behind given more c.may c.come) in
    let l = more_leads (given ++ k.fed) k.rest may in
    let m : Leads (seen_tree (given ++ k.fed)) (seen_tree (given ++ more)) = subst (λ (z : List Said). Leads (seen_tree (given ++ k.fed)) (seen_tree z)) (sym parts) l.1 in
    let P = seen_tree given in
    let r = goes_front plan P (all_of plan P) (seen_tree (given ++ k.fed)) k.taken (seen_tree (given ++ more)) u v k.goes l.0 m k.there in
    record { part = r.0; rest = r.1; written = r.2; grew = r.3 }

-- more tokens write more
pub breaks_more : (plan : PlanTree) (ts us vs : List Said) (u v : List ℕ) → PartBreaks plan ts us u v → Leads opening (seen_tree us) → Leads (seen_tree us) (seen_tree vs) → PartBreaks plan ts vs u v
breaks_more plan ts us vs u v p l m =
    let before = bytes_at plan (seen_tree ts) (all_of plan (seen_tree ts)) in
    let r = bytes_front plan (seen_tree us) (seen_tree vs) (all_of plan (seen_tree us)) l m (omega arith) in
    record {
      part = p.part;
      rest = p.rest ++ r.0;
      written = r.1 ∙ (ap (λ (z : List ℕ). z ++ r.0) p.written ∙ (append_assoc before (p.part ++ p.rest) r.0 ∙ ap (λ (z : List ℕ). before ++ z) (append_assoc p.part p.rest r.0)));
      grew = p.grew;
    }

module _ {C : Type 0} (stands : C → Tree → Type 0) where
  -- where every action is taken no more is taken back than given
  pub part_balanced : (ahead : ℕ) (ts : List Said) (p : PartView C) → PartStands stands ahead ts p → IsBalanced p.actors
  part_balanced ahead ts p s =
      let plan = plan_tree p.plan in
      old_balance stands plan p.actors (seen_tree ts) (all_of plan (seen_tree ts)) s.1.actors s.1.counts.given

-- whichever way a call ended
pub either_way : {T E A P Q : Type 0} (r : Result T E) → (P → A) → (Q → A) → OnOk r P → OnErr r Q → A
either_way (Ok x) f h p q = f p
either_way (Err e) f h p q = h q

-- ---- the outputs of a part, number 0 and number 1

-- what holds of the flow of either is said of both
of_flows : {C : Type 0} (R : OutputText → List ℕ → List ℕ → Type 0) (a b : ℕ → PlaceView) (p q : PartView C) (f h : OutputText)
    → R f (flow_at a p.output_at p.out) (flow_at b q.output_at q.out) → R h (went_at a p.lines_at ++ p.trace) (went_at b q.lines_at ++ q.trace)
    → (i : ℕ) → R (of_both f h i) (went_at a (part_places p i) ++ part_outs p i) (went_at b (part_places q i) ++ part_outs q i)
of_flows R a b p q f h x y zero = x
of_flows R a b p q f h x y (suc i) = y

output_grew : (plan : PlanTree) (ts us : List Said) (u v : List ℕ) → PartGoes plan ts us u v → OutputGrewBy (output_text plan) ts us u v
output_grew plan ts us u v g = record { more = g.more; settles = g.written; grew = g.grew }

output_within : (plan : PlanTree) (ts us : List Said) (u v : List ℕ) → PartBreaks plan ts us u v → OutputGrewWithin (output_text plan) ts us u v
output_within plan ts us u v b = record { part = b.part; rest = b.rest; settles = b.written; grew = b.grew }

lines_grew : (wanted : Bool) (plan : PlanTree) (ts us : List Said) (u v : List ℕ) → (wanted ≡ false → v ≡ u) → (wanted ≡ true → v ≡ u ++ told_behind plan ts us) → OutputGrewBy (lines_text wanted plan) ts (ts ++ us) u v
lines_grew true plan ts us u v none told = record { more = told_behind plan ts us; settles = lines_more plan ts us; grew = told refl }
lines_grew false plan ts us u v none told = record { more = []; settles = refl; grew = none refl ∙ sym (append-nil u) }

lines_within : (wanted : Bool) (plan : PlanTree) (ts us : List Said) (u v : List ℕ) → (wanted ≡ false → v ≡ u) → (wanted ≡ true → GrewPart u v (told_behind plan ts us)) → OutputGrewWithin (lines_text wanted plan) ts (ts ++ us) u v
lines_within true plan ts us u v none told =
    let g = told refl in
    record { part = g.0; rest = g.1; settles = lines_more plan ts us ∙ ap (λ (z : List ℕ). text_of_lines (trace_lines plan ts) ++ z) g.2; grew = g.3 }
lines_within false plan ts us u v none told = record { part = []; rest = []; settles = refl; grew = none refl ∙ sym (append-nil u) }

-- where no lines are wanted none flow
no_flow : (a : ℕ → PlaceView) (l : LinesView) → l.waits ≡ [] → l.lines_at ≡ None → went_at a l.lines_at ++ l.waits ≡ []
no_flow a l none nowhere = ap (λ (o : Option ℕ). went_at a o ++ l.waits) nowhere ∙ none

-- both may be written
pub both_may : {W : Type 0} (may : W → ℕ → Type 0) (w : W) (l : LinesView) → ((i p : ℕ) → of_both (Some l.output_at) l.lines_at i ≡ Some p → may w p) → MayWriteBoth may w l
both_may may w l h = record { out = h 0 l.output_at refl; lines = λ p e. h 1 p e }

-- no other place was written to
pub both_alone : (l : LinesView) (a b : ℕ → PlaceView) → OnlyBoth l a b → Elsewhere (of_both (Some l.output_at) l.lines_at) a b
both_alone l a b only k far = only k (λ e. far 0 (ap Some (sym e))) (λ e. far 1 e)

-- ---- a part over its work and its lines

abbrev pub over_work : {N C : Type 0} → Plan → (wanted : Bool) → Work N C → LinesView → PartView C
over_work plan wanted e l = record {
  plan = plan;
  ahead = e.ahead;
  tracing = wanted;
  actors = e.actors;
  out = e.out.items;
  trace = l.waits;
  output_at = l.output_at;
  lines_at = l.lines_at;
}

-- what calls leave as it was
pub over_stays : {N C : Type 0} (plan : Plan) (wanted : Bool) (e d : Work N C) (l m : LinesView) → LeavesTaking e d l m → (wanted ≡ false → m.waits ≡ l.waits) → (IsBalanced e.actors → IsBalanced d.actors)
    → PartStays (over_work plan wanted e l) (over_work plan wanted d m)
over_stays plan wanted e d l m h untold balance = record {
  plan_is = refl;
  ahead_is = h.ahead_is;
  tracing_is = refl;
  output_is = h.places.output_is;
  lines_is = h.places.lines_is;
  loans = h.loans;
  untold = untold;
  balance = balance;
}

module _ {S : Type 0} (wanted : Bool) (seen : S → LinesView) (none_wait : (s : S) → wanted ≡ false → (seen s).waits ≡ []) where
  pub same_waits : (s t : S) → wanted ≡ false → (seen t).waits ≡ (seen s).waits
  same_waits s t unwanted = none_wait t unwanted ∙ sym (none_wait s unwanted)

  module _ (no_place : (s : S) → wanted ≡ false → (seen s).lines_at ≡ None) where
    pub same_silence : (a b : ℕ → PlaceView) (s t : S) → wanted ≡ false → went_at b (seen t).lines_at ++ (seen t).waits ≡ went_at a (seen s).lines_at ++ (seen s).waits
    same_silence a b s t unwanted = no_flow b (seen t) (none_wait t unwanted) (no_place t unwanted) ∙ sym (no_flow a (seen s) (none_wait s unwanted) (no_place s unwanted))

module _ {N C : Type 0} (stands : C → Tree → Type 0) (plan : Plan) (wanted : Bool) (e : Work N C) (l : LinesView) (more : List Said) where
  may_given : (given : List Said) → part_stands stands (over_work plan wanted e l) given → ComeBehind given more → MayFeedAll stands (plan_tree plan) e.ahead e.actors given more
  may_given given s c = record { stand = s; may = c.may; come = c.come }

  -- they may be fed
  pub some_fed : MayTakeTokens (part_stands stands (over_work plan wanted e l)) more → SomeFed stands e.ahead e.actors more
  some_fed m = record { plan = plan_tree plan; given = m.given; of = may_given m.given m.of m.come }

  -- a token is taken at a time, or more
  pub some_ahead : MayTakeTokens (part_stands stands (over_work plan wanted e l)) more → 1 ≤ e.ahead
  some_ahead m =
      let is : StandBehind stands (plan_tree plan) e.ahead e.actors m.given = m.of in
      let least = is.counts.peak.least in
      let near = is.counts.peak.near in
      omega arith

-- ---- a call

module _ {N C S W : Type 0} (stands : C → Tree → Type 0) (plan : Plan) (wanted : Bool) (seen : S → LinesView) (sinks : W → ℕ → PlaceView) (e d : Work N C) (s t : S) (v w : W) where
  abbrev old : PartView C
  old = over_work plan wanted e (seen s)

  abbrev new : PartView C
  new = over_work plan wanted d (seen t)

  abbrev before : List ℕ
  before = went_at (sinks v) (seen s).lines_at ++ (seen s).waits

  abbrev behind : List ℕ
  behind = went_at (sinks w) (seen t).lines_at ++ (seen t).waits

  module _ (more : List Said) where
    -- all tokens were taken
    pub takes_to : d.ahead ≡ e.ahead → (wanted ≡ false → behind ≡ before) → TakesWork stands wanted seen sinks (e, s, v) (d, t, w) more
        → TakesTo (part_stands stands) part_texts part_places part_outs part_peak sinks (old, v) (new, w) more
    takes_to ahead_is none takes given is come =
        let tree = plan_tree plan in
        let m = may_given stands plan wanted e (seen s) more given is come in
        let f = takes.feeds tree given m in
        let us = given ++ more in
        record {
          stand = subst (λ (n : ℕ). StandBehind stands tree n d.actors us) (sym ahead_is) f.stand;
          grew = of_flows (λ (text : OutputText) (x y : List ℕ). OutputGrewBy text given us x y) (sinks v) (sinks w) old new (output_text tree) (lines_text wanted tree)
              (output_grew tree given us (flow_at (sinks v) (seen s).output_at e.out.items) (flow_at (sinks w) (seen t).output_at d.out.items) f.goes)
              (lines_grew wanted tree given more before behind none (λ told. takes.told told tree given m));
          peak = f.most;
        }

    -- or some of them
    pub takes_some_to : (wanted ≡ false → behind ≡ before) → TakesSomeWork stands wanted seen sinks (e, s, v) (d, t, w) more
        → TakesSomeTo (part_stands stands) part_texts part_places part_outs sinks (old, v) (new, w) more
    takes_some_to none takes given is come =
        let tree = plan_tree plan in
        let m = may_given stands plan wanted e (seen s) more given is come in
        let us = given ++ more in
        let x = flow_at (sinks v) (seen s).output_at e.out.items in
        let y = flow_at (sinks w) (seen t).output_at d.out.items in
        of_flows (λ (text : OutputText) (u z : List ℕ). OutputGrewWithin text given us u z) (sinks v) (sinks w) old new (output_text tree) (lines_text wanted tree)
        (output_within tree given us x y (broke_part tree d.actors given more x y come (takes.breaks tree given m)))
        (lines_within wanted tree given more before behind none (λ told. takes.told told tree given m))

    -- no more is taken back than given
    pub taken_balance : MayTakeTokens (part_stands stands old) more → TakesWork stands wanted seen sinks (e, s, v) (d, t, w) more → IsBalanced d.actors
    taken_balance m takes =
        let tree = plan_tree plan in
        let us = m.given ++ more in
        let f = takes.feeds tree m.given (may_given stands plan wanted e (seen s) more m.given m.of m.come) in
        old_balance stands tree d.actors (seen_tree us) (all_of tree (seen_tree us)) f.stand.actors f.stand.counts.given

    pub some_balance : MayTakeTokens (part_stands stands old) more → TakesSomeWork stands wanted seen sinks (e, s, v) (d, t, w) more → IsBalanced d.actors
    some_balance m takes =
        let b = takes.breaks (plan_tree plan) m.given (may_given stands plan wanted e (seen s) more m.given m.of m.come) in
        b.balance

    -- the order of the lines and of the output that they tell is kept
    pub orders_to : (o p : Option ℕ) → WroteOn o p (sinks v) (sinks w) → SameOutlets (seen s) (seen t) → (wanted ≡ true → OrdersLent stands seen sinks (e, s, v) (d, t, w) more)
        → OrdersTokens (part_stands stands) part_texts part_places part_outs part_ordered sinks (old, v) (new, w) more
    orders_to o p wrote same keeps given is come base from at =
        let tree = plan_tree plan in
        let m = may_given stands plan wanted e (seen s) more given is come in
        let r = order_taken wanted tree given more o p (sinks v) (sinks w) (seen s) (seen t) (flows seen sinks (e, s, v)) base at.x wrote same (from 0) (from 1) at.since at.is (λ told. keeps told tree given m) in
        record { x = r.y; since = r.since; is = r.is }

  -- ---- what waits was written

  pub same_flows : FlowsSame seen sinks (e, s, v) (d, t, w) → SameFlows part_places part_outs sinks (old, v) (new, w)
  same_flows same = of_flows (λ (text : OutputText) (x y : List ℕ). y ≡ x) (sinks v) (sinks w) old new (output_text (plan_tree plan)) (lines_text wanted (plan_tree plan)) same.out same.trace

  pub orders_out : (o p : Option ℕ) → WroteOn o p (sinks v) (sinks w) → SameOutlets (seen s) (seen t) → KeepsOrder seen sinks (e, s, v) (d, t, w) []
      → OrdersWrites (part_stands stands) part_texts part_places part_outs part_ordered sinks (old, v) (new, w)
  orders_out o p wrote same keeps given is base from at =
      let r = order_written wanted (plan_tree plan) given o p (sinks v) (sinks w) (seen s) (seen t) (flows seen sinks (e, s, v)) base at.x wrote same (from 0) (from 1) at.since at.is (λ told. keeps) in
      record { x = r.y; since = r.since; is = r.is }

-- only what waits is another
pub only_waits : {N C : Type 0} (stands : C → Tree → Type 0) (plan : Plan) (wanted : Bool) (e d : Work N C) (l m : LinesView) → d ≡ record e { out = d.out } → SameOutlets l m → (wanted ≡ false → m.waits ≡ l.waits)
    → OnlyWaitingChanged (part_stands stands) PartStays part_peak (over_work plan wanted e l) (over_work plan wanted d m)
only_waits {N = N} {C = C} stands plan wanted e d l m rest places untold =
    let actors_is : d.actors ≡ e.actors = ap (λ (z : Work N C). z.actors) rest in
    let ahead_is : d.ahead ≡ e.ahead = ap (λ (z : Work N C). z.ahead) rest in
    record {
      stand = λ given h.
          subst (λ (n : ℕ). StandBehind stands (plan_tree plan) n d.actors given) (sym ahead_is)
          (subst (λ (a : ActorsView C). StandBehind stands (plan_tree plan) e.ahead a given) (sym actors_is) h);
      kept = over_stays plan wanted e d l m (record { loans = ap (λ (a : ActorsView C). a.buffer.loans) actors_is; ahead_is = ahead_is; places = places }) untold
          (λ balanced. subst (λ (a : ActorsView C). IsBalanced a) (sym actors_is) balanced);
      peak = subst (λ (a : ActorsView C). KeepsMostLate e.actors a) (sym actors_is) (λ lent h. h);
    }
