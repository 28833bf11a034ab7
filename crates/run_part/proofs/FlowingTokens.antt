-- What flows of one token, with every action that is possible behind it.
use Rattle.std.proofs.Common.{◌≡◌, ◌∙◌, ◌++◌, ℕ, true, List, [], ◌∷◌, Some, ap, refl, subst, sym, arith}
use Rattle.std.proofs.lemmas.List.{append-nil}
use Rattle.gcx_model.specs.Core.{PlanTree}
use Rattle.gcx_model.specs.Demand.{Line, demand, text_of_lines}
use Rattle.gcx_model.specs.Points.{actions}
use Rattle.gcx_model.specs.Run.{Action}
use Rattle.gcx_model.specs.Seen.{seen_tree}
use Rattle.gcx_model.specs.Tree.{Tree, TreeToken as Said, grow}
use Rattle.outside.specs.Places.{PlaceView, went_at}
use Rattle.run_part.specs.Actors.{BalancesEach, FeedsEach, FeedsOne, IsQuietFor, SomeActors, all_of}
use Rattle.run_part.specs.Flows.{ActsFlows, ActsSomeFlows, Flows, FlowsStay, TakesFlows, TakesSomeFlows, flows, trace_seen}
use Rattle.run_part.specs.Late.{BrokeLate, FedLent, MayFeedAll}
use Rattle.run_part.specs.Order.{KeepsOrder}
use Rattle.run_part.specs.Telling.{TellsEach, TellsPart, fed_lines, lines_to, token_text}
use Rattle.run_part.specs.View.{ActorsView}
use Rattle.run_part.specs.declared.pace.Work.{Work}
use Rattle.run_part.proofs.BytesTold.{told_fed}
use Rattle.run_part.proofs.Flowing.{grew_behind, places_same}
use Rattle.run_part.proofs.KeepingOrder.{keeps_as, keeps_lines, keeps_then, keeps_told}
use Rattle.run_part.proofs.TellingTaken.{behind, behind_is, one_demand, told_acted, told_broke, told_lost, told_quiet}
use Rattle.run_part.proofs.ToldTokens.{one_acted, one_actors, one_broke, one_comes, one_grew, one_leads, one_lost, one_quiet}
use Rattle.run_part.proofs.Writing.{all_is}

module _ {C : Type 0} (stands : C → Tree → Type 0) (x : Flows C) (t : Said) where
  -- It was fed, and its lines were told.
  pub record FedBy (z : Flows C) : Type 0 where
    pub feeds : FeedsEach stands x.actors z.actors t
    pub out_is : z.out ≡ x.out
    pub told : TellsEach stands x.actors t x.trace z.trace

  -- memory ran out before it was
  pub token_lost : (y : Flows C) → y.out ≡ x.out → BalancesEach stands x.actors y.actors t → TellsPart stands x.actors t x.trace y.trace → TakesSomeFlows stands true x y (t ∷ [])
  token_lost y same balance part = record {
    breaks = λ plan ts m.
        let P = seen_tree ts in
        let comes = one_comes stands plan x.ahead x.actors ts t m in
        subst (λ (w : List ℕ). BrokeLate plan y.actors ts (t ∷ []) x.out w) (sym same)
        (one_lost stands plan x.ahead x.actors ts t m y.actors x.out (balance plan P (all_of plan P) m.stand.actors comes m.stand.counts.given));
    told = λ e plan ts m.
        let P = seen_tree ts in
        told_lost plan P t x.trace y.trace (part plan P (all_of plan P) m.stand.actors (one_comes stands plan x.ahead x.actors ts t m));
  }

  module _ (z : Flows C) (f : FedBy z) where
    pub fed_one : (plan : PlanTree) (ts : List Said) → MayFeedAll stands plan x.ahead x.actors ts (t ∷ []) → FeedsOne stands plan x.actors z.actors t (seen_tree ts) (all_of plan (seen_tree ts))
    fed_one plan ts m = f.feeds plan (seen_tree ts) (all_of plan (seen_tree ts)) m.stand.actors (one_comes stands plan x.ahead x.actors ts t m)

    pub fed_told : (plan : PlanTree) (ts : List Said) → MayFeedAll stands plan x.ahead x.actors ts (t ∷ []) → z.trace ≡ x.trace ++ token_text plan t (seen_tree ts) (all_of plan (seen_tree ts))
    fed_told plan ts m = f.told plan (seen_tree ts) (all_of plan (seen_tree ts)) m.stand.actors (one_comes stands plan x.ahead x.actors ts t m)

    pub token_actors : (plan : PlanTree) (ts : List Said) → MayFeedAll stands plan x.ahead x.actors ts (t ∷ []) → SomeActors stands z.actors
    token_actors plan ts m = one_actors stands plan x.ahead x.actors ts t m z.actors (fed_one plan ts m)

    -- no action is possible behind it that wasn't
    pub token_quiet : IsQuietFor stands x.actors t → TakesFlows stands true x z (t ∷ [])
    token_quiet quiet = record {
      feeds = λ plan ts m.
          let q = quiet plan (seen_tree ts) m.stand.actors (one_comes stands plan x.ahead x.actors ts t m) in
          subst (λ (w : List ℕ). FedLent stands plan x.ahead x.actors z.actors ts (t ∷ []) x.out w) (sym f.out_is)
          (one_quiet stands plan x.ahead x.actors ts t m z.actors (fed_one plan ts m) q x.out);
      told = λ e plan ts m.
          let q = quiet plan (seen_tree ts) m.stand.actors (one_comes stands plan x.ahead x.actors ts t m) in
          told_quiet plan (seen_tree ts) t x.trace z.trace (fed_told plan ts m) q;
    }

    module _ (w : Flows C) (counts : w.actors.counts ≡ z.actors.counts) where
      -- every action was taken
      pub token_acted : w.actors.buffer.most ≡ z.actors.buffer.most → ActsFlows stands true z w → TakesFlows stands true x w (t ∷ [])
      token_acted most acts = record {
        feeds = λ plan ts m.
            subst (λ (v : List ℕ). FedLent stands plan x.ahead x.actors w.actors ts (t ∷ []) v w.out) f.out_is
            (one_acted stands plan x.ahead x.actors ts t m z.actors (fed_one plan ts m) w.actors z.out w.out counts most acts.acts);
        told = λ e plan ts m.
            let P = seen_tree ts in
            told_acted plan P t x.trace z.trace w.trace (one_grew stands plan x.ahead x.actors ts t m) (one_leads stands plan x.ahead x.actors ts t m) (fed_told plan ts m)
            (acts.told refl plan (grow t P) (all_of plan P) (fed_one plan ts m).actors);
      }

      -- or some of them
      pub token_broke : ActsSomeFlows stands true z w → TakesSomeFlows stands true x w (t ∷ [])
      token_broke acts = record {
        breaks = λ plan ts m.
            subst (λ (v : List ℕ). BrokeLate plan w.actors ts (t ∷ []) v w.out) f.out_is
            (one_broke stands plan x.ahead x.actors ts t m z.actors (fed_one plan ts m) w.actors z.out w.out counts acts.acts);
        told = λ e plan ts m.
            let P = seen_tree ts in
            told_broke plan P t x.trace z.trace w.trace (one_grew stands plan x.ahead x.actors ts t m) (one_leads stands plan x.ahead x.actors ts t m) (fed_told plan ts m)
            (acts.told refl plan (grow t P) (all_of plan P) (fed_one plan ts m).actors);
      }

-- ---- with what is outside: it is fed, and then there is a spill

module _ {N C W : Type 0} (stands : C → Tree → Type 0) (sinks : W → ℕ → PlaceView) (a : Work N C) (l : List ℕ) (t : W) (s : Said) (e : ActorsView C) (k : List ℕ) (tells : TellsEach stands a.actors s l k) (b : Work N C) (n : List ℕ) (u : W) where
  pub fed_spilled : FeedsEach stands a.actors e s → FlowsStay (flows trace_seen sinks (record a { actors = e }, k, t)) (flows trace_seen sinks (b, n, u)) → b ≡ record a { actors = e; out = b.out }
      → FedBy stands (flows trace_seen sinks (a, l, t)) s (flows trace_seen sinks (b, n, u))
  fed_spilled feeds stay rest = record {
    feeds = subst (λ (d : ActorsView C). FeedsEach stands a.actors d s) (sym (ap (λ (q : Work N C). q.actors) rest)) feeds;
    out_is = stay.out;
    told = λ plan P j stand comes. stay.trace ∙ grew_behind (went_at (sinks t) (Some 1)) l k (token_text plan s P j) (tells plan P j stand comes);
  }

  module _ (plan : PlanTree) (ts : List Said) (m : MayFeedAll stands plan a.ahead a.actors ts (s ∷ [])) where
    abbrev over : Tree
    over = seen_tree ts

    abbrev own : List Line
    own = fed_lines plan s over (actions plan over)

    tells_own : k ≡ l ++ text_of_lines own
    tells_own =
        tells plan over (all_of plan over) m.stand.actors (one_comes stands plan a.ahead a.actors ts s m)
        ∙ ap (λ (z : List Action). l ++ text_of_lines (fed_lines plan s over z)) (all_is plan over)

    module _ (spilled : KeepsOrder trace_seen sinks (record a { actors = e }, k, t) (b, n, u) []) where
      fed_order : KeepsOrder trace_seen sinks (a, l, t) (b, n, u) own
      fed_order =
          keeps_lines trace_seen sinks a l t (record a { actors = e }) k own (record { output_is = refl; lines_is = refl }) refl
          (grew_behind (went_at (sinks t) (Some 1)) l k (text_of_lines own) tells_own) (told_fed plan s over (actions plan over)) b n u spilled

      -- no action is possible behind it that wasn't
      pub order_quiet : KeepsOrder trace_seen sinks (a, l, t) (b, n, u) (demand plan (s ∷ []) over)
      order_quiet =
          let rest : List Line = behind plan over (grow s over) in
          keeps_as trace_seen sinks a l t b n u (own ++ rest) (keeps_told trace_seen sinks a l t b n u own fed_order b n rest (places_same (trace_seen n))) (demand plan (s ∷ []) over) (sym (one_demand plan over s))

      -- then come its actions
      pub order_acted : FlowsStay (flows trace_seen sinks (record a { actors = e }, k, t)) (flows trace_seen sinks (b, n, u)) → (c : Work N C) (o : List ℕ) (v : W)
          → KeepsOrder trace_seen sinks (b, n, u) (c, o, v) (lines_to plan (grow s over) (all_of plan over) (all_of plan (grow s over))) → KeepsOrder trace_seen sinks (a, l, t) (c, o, v) (demand plan (s ∷ []) over)
      order_acted stay c o v acts =
          let R : Tree = grow s over in
          let rest : List Line = lines_to plan R (all_of plan over) (all_of plan R) in
          let x : Flows C = flows trace_seen sinks (a, l, t) in
          let is : own ++ rest ≡ demand plan (s ∷ []) over
          = ap (λ (z : List Line). own ++ z) (behind_is plan over R (one_grew stands plan a.ahead a.actors ts s m) (one_leads stands plan a.ahead a.actors ts s m)) ∙ sym (one_demand plan over s) in
          keeps_as trace_seen sinks a l t c o v (own ++ rest)
          (keeps_then trace_seen sinks a l t b n u own fed_order [] (stay.out ∙ sym (append-nil x.out)) (stay.trace ∙ grew_behind (went_at (sinks t) (Some 1)) l k (text_of_lines own) tells_own)
          (let none = told_fed plan s over (actions plan over) in omega (arith, none)) c o v rest acts)
          (demand plan (s ∷ []) over) is
