-- What is said of what waits, said of what flows.
use Rattle.std.proofs.Common.{◌≡◌, ◌∙◌, ◌++◌, ℕ, suc, Bool, true, false, List, Option, ap, refl, subst, sym, append_assoc}
use Rattle.gcx_model.specs.Core.{PlanTree}
use Rattle.gcx_model.specs.Demand.{text_of_lines}
use Rattle.gcx_model.specs.Tree.{Tree, TreeToken as Said}
use Rattle.outside.specs.Places.{PlaceView, went_at, went_to}
use Rattle.run_part.specs.Actors.{ActsOne, ActsOneFrom, ActsSome, ActsSomeFrom, Goes, all_of}
use Rattle.run_part.specs.Flows.{ActsAlone, Flows, FlowsStay, LeavesTaking, LeavesWork, MayWriteBoth, OnlyBoth, SameOutlets, flow_at, flows}
use Rattle.run_part.specs.Telling.{GrewPart, TellsAction, TellsFront, TellsPart, lines_to, next_lines, token_text}
use Rattle.run_part.specs.View.{ActorsView, LinesView}
use Rattle.run_part.specs.declared.pace.Work.{Work}

-- ---- the same text stands before both

module _ (p u v : List ℕ) where
  pub grew_behind : (more : List ℕ) → v ≡ u ++ more → p ++ v ≡ (p ++ u) ++ more
  grew_behind more e = ap (λ (z : List ℕ). p ++ z) e ∙ sym (append_assoc p u more)

  pub front_behind : (text : List ℕ) → GrewPart u v text → GrewPart (p ++ u) (p ++ v) text
  front_behind text h = (h.0, h.1, h.2, grew_behind h.0 h.3)

  pub goes_behind : (plan : PlanTree) (P : Tree) (k : ℕ) (Q : Tree) (j : ℕ) → Goes plan P k Q j u v → Goes plan P k Q j (p ++ u) (p ++ v)
  goes_behind plan P k Q j g = record { more = g.more; written = g.written; grew = grew_behind g.more g.grew }

  module _ {C : Type 0} (stands : C → Tree → Type 0) (old : ActorsView C) where
    pub one_behind : (new : ActorsView C) (more : Bool) → ActsOneFrom stands old new u v more → ActsOneFrom stands old new (p ++ u) (p ++ v) more
    one_behind new true a = λ plan P k s. let o : ActsOne stands plan new P k true u v = a plan P k s in (o.0, o.1, goes_behind plan P k P (suc k) o.2)
    one_behind new false a = λ plan P k s. let o : ActsOne stands plan new P k false u v = a plan P k s in (o.0, o.1, ap (λ (z : List ℕ). p ++ z) o.2)

    pub some_behind : (new : ActorsView C) → ActsSomeFrom stands old new u v → ActsSomeFrom stands old new (p ++ u) (p ++ v)
    some_behind new a = λ plan P k s.
        let o : ActsSome plan new P k u v = a plan P k s in
        record { taken = o.taken; there = o.there; goes = goes_behind plan P k P o.taken o.goes; balance = o.balance }

    pub action_behind : (more : Bool) → TellsAction stands old u v more → TellsAction stands old (p ++ u) (p ++ v) more
    action_behind more a = λ plan P k s. grew_behind (text_of_lines (next_lines plan P k more)) (a plan P k s)

    pub left_behind : TellsFront stands old u v → TellsFront stands old (p ++ u) (p ++ v)
    left_behind a = λ plan P k s. front_behind (text_of_lines (lines_to plan P k (all_of plan P))) (a plan P k s)

    pub token_behind : (t : Said) → TellsPart stands old t u v → TellsPart stands old t (p ++ u) (p ++ v)
    token_behind t a = λ plan P k s comes. front_behind (token_text plan t P k) (a plan P k s comes)

-- ---- with what is outside

-- What is said of what waits, before and behind a call that leaves what is outside as it was, is said of the flows.
module _ {N C S W : Type 0} (stands : C → Tree → Type 0) (seen : S → LinesView) (sinks : W → ℕ → PlaceView) (a : Work N C) (l : S) (t : W) (b : Work N C) (m : S) (same : SameOutlets (seen l) (seen m)) where
  abbrev went_out : List ℕ
  went_out = went_to (sinks t (seen l).output_at)

  abbrev went_lines : List ℕ
  went_lines = went_at (sinks t) (seen l).lines_at

  pub act_flows : (more : Bool) → ActsOneFrom stands a.actors b.actors a.out.items b.out.items more → ActsOneFrom stands a.actors b.actors (flows seen sinks (a, l, t)).out (flows seen sinks (b, m, t)).out more
  act_flows more h =
      subst (λ (o : ℕ). ActsOneFrom stands a.actors b.actors (went_out ++ a.out.items) (flow_at (sinks t) o b.out.items) more) (sym same.output_is)
      (one_behind went_out a.out.items b.out.items stands a.actors b.actors more h)

  pub some_flows : ActsSomeFrom stands a.actors b.actors a.out.items b.out.items → ActsSomeFrom stands a.actors b.actors (flows seen sinks (a, l, t)).out (flows seen sinks (b, m, t)).out
  some_flows h =
      subst (λ (o : ℕ). ActsSomeFrom stands a.actors b.actors (went_out ++ a.out.items) (flow_at (sinks t) o b.out.items)) (sym same.output_is)
      (some_behind went_out a.out.items b.out.items stands a.actors b.actors h)

  pub action_flows : (more : Bool) → TellsAction stands a.actors (seen l).waits (seen m).waits more → TellsAction stands a.actors (flows seen sinks (a, l, t)).trace (flows seen sinks (b, m, t)).trace more
  action_flows more h =
      subst (λ (o : Option ℕ). TellsAction stands a.actors (went_lines ++ (seen l).waits) (went_at (sinks t) o ++ (seen m).waits) more) (sym same.lines_is)
      (action_behind went_lines (seen l).waits (seen m).waits stands a.actors more h)

  pub front_flows : TellsFront stands a.actors (seen l).waits (seen m).waits → TellsFront stands a.actors (flows seen sinks (a, l, t)).trace (flows seen sinks (b, m, t)).trace
  front_flows h =
      subst (λ (o : Option ℕ). TellsFront stands a.actors (went_lines ++ (seen l).waits) (went_at (sinks t) o ++ (seen m).waits)) (sym same.lines_is)
      (left_behind went_lines (seen l).waits (seen m).waits stands a.actors h)

-- a spill leaves them
module _ {C : Type 0} (stands : C → Tree → Type 0) (x y z : Flows C) (stay : FlowsStay y z) where
  pub act_stays : z.actors ≡ y.actors → (more : Bool) → ActsOneFrom stands x.actors y.actors x.out y.out more → ActsOneFrom stands x.actors z.actors x.out z.out more
  act_stays is more h =
      subst (λ (d : ActorsView C). ActsOneFrom stands x.actors d x.out z.out more) (sym is)
      (subst (λ (w : List ℕ). ActsOneFrom stands x.actors y.actors x.out w more) (sym stay.out) h)

  pub action_stays : (more : Bool) → TellsAction stands x.actors x.trace y.trace more → TellsAction stands x.actors x.trace z.trace more
  action_stays more h = subst (λ (w : List ℕ). TellsAction stands x.actors x.trace w more) (sym stay.trace) h

-- ---- places

pub places_same : (l : LinesView) → SameOutlets l l
places_same l = record { output_is = refl; lines_is = refl }

pub places_on : (l m n : LinesView) → SameOutlets l m → SameOutlets m n → SameOutlets l n
places_on l m n x y = record { output_is = y.output_is ∙ x.output_is; lines_is = y.lines_is ∙ x.lines_is }

-- what may be written may be written later
pub may_moves : {W : Type 0} (may : W → ℕ → Type 0) {keeps writes : W → W → Type 0} → ((a b : W) (p : ℕ) → keeps a b → may a p → may b p) → ((a b : W) → writes a b → keeps a b)
    → (a b : W) (l m : LinesView) → SameOutlets l m → writes a b → MayWriteBoth may a l → MayWriteBoth may b m
may_moves may on to a b l m same w r = record {
  out = subst (λ (n : ℕ). may b n) (sym same.output_is) (on a b l.output_at (to a b w) r.out);
  lines = λ p e. on a b p (to a b w) (r.lines p (sym same.lines_is ∙ e));
}

pub others_on : (l m : LinesView) (a b c : ℕ → PlaceView) → SameOutlets l m → OnlyBoth l a b → OnlyBoth m b c → OnlyBoth l a c
others_on l m a b c same x y = λ k far off. y k (λ e. far (e ∙ same.output_is)) (λ e. off (sym same.lines_is ∙ e)) ∙ x k far off

-- ---- what calls leave

pub alone_on : {C : Type 0} (a b c : ActorsView C) → ActsAlone a b → ActsAlone b c → ActsAlone a c
alone_on a b c x y = record { projector = y.projector ∙ x.projector; counts = y.counts ∙ x.counts; most = y.most ∙ x.most; loans = y.loans ∙ x.loans }

module _ {N C : Type 0} where
  pub leaves_on : (a b c : Work N C) (l m n : LinesView) → LeavesWork a b l m → LeavesWork b c m n → LeavesWork a c l n
  leaves_on a b c l m n x y = record {
    actors = alone_on a.actors b.actors c.actors x.actors y.actors;
    ahead_is = y.ahead_is ∙ x.ahead_is;
    places = places_on l m n x.places y.places;
  }

  -- nothing but the output changed
  pub leaves_spilled : (a b : Work N C) (l m : LinesView) → b ≡ record a { out = b.out } → SameOutlets l m → LeavesWork a b l m
  leaves_spilled a b l m e same =
      subst (λ (d : Work N C). LeavesWork a d l m) (sym e) (record { actors = record { projector = refl; counts = refl; most = refl; loans = refl }; ahead_is = refl; places = same })

  pub tokens_on : (a b c : Work N C) (l m n : LinesView) → LeavesTaking a b l m → LeavesTaking b c m n → LeavesTaking a c l n
  tokens_on a b c l m n x y = record { loans = y.loans ∙ x.loans; ahead_is = y.ahead_is ∙ x.ahead_is; places = places_on l m n x.places y.places }
