-- Lent tokens that are taken one at a time, with what flows of them and in which order.
use Rattle.std.proofs.Common.{◌≡◌, ◌∙◌, ◌++◌, ◌+◌, ◌<◌, ◌≤◌, ℕ, true, List, [], ◌∷◌, length, drop, get_or, refl, sym, ap, subst, append_assoc}
use Rattle.std.proofs.lemmas.List.{append-nil}
use Rattle.gcx_model.specs.Core.{PlanTree}
use Rattle.gcx_model.specs.Demand.{Line, demand, text_of_lines}
use Rattle.gcx_model.specs.Growth.{Leads}
use Rattle.gcx_model.specs.Seen.{seen_tree}
use Rattle.gcx_model.specs.Tree.{Tree, TreeToken as Said, opening, grow_all}
use Rattle.tree_laws.proofs.Growing.{grow_all-append, leads}
use Rattle.run_laws.proofs.Goes.{demand-append}
use Rattle.doc_reader.specs.Standing.{Lent, lent_token}
use Rattle.outside.specs.Places.{PlaceView}
use Rattle.run_part.specs.Actors.{all_of, bytes_at}
use Rattle.run_part.specs.Flows.{Flows, TakesFlows, TakesSomeFlows, flows, trace_seen}
use Rattle.run_part.specs.Late.{AllCome, BreaksLent, BrokeLate, FedLent, FeedsLent, MayFeedAll, SomeFed, said_lent}
use Rattle.run_part.specs.Order.{KeepsOrder, OrdersLent, bytes_told}
use Rattle.run_part.specs.Telling.{GrewPart, TellsLent, TellsSomeLent}
use Rattle.run_part.specs.declared.pace.Work.{Work}
use Rattle.run_part.proofs.BytesTold.{told_demand}
use Rattle.run_part.proofs.Flowing.{places_same}
use Rattle.run_part.proofs.KeepingOrder.{keeps_as, keeps_then, keeps_told, keeps_waiting}
use Rattle.run_part.proofs.LateGroups.{come_front, come_may, lent_next}
use Rattle.run_part.proofs.ToldTokens.{AmongTold, told_begins, told_breaks, told_may, told_next, told_part, told_whole}

-- the lines of some tokens and more
demand_more : (plan : PlanTree) (ts done more : List Said) → demand plan (done ++ more) (seen_tree ts) ≡ demand plan done (seen_tree ts) ++ demand plan more (seen_tree (ts ++ done))
demand_more plan ts done more =
    demand-append plan done more (seen_tree ts) ∙ ap (λ (T : Tree). demand plan done (seen_tree ts) ++ demand plan more T) (sym (grow_all-append ts done opening))

module _ {N C W : Type 0} (stands : C → Tree → Type 0) (sinks : W → ℕ → PlaceView) (none : Type 0) (plan : PlanTree) (a : Work N C) (l : List ℕ) (t : W) (ts all : List Said) where
  -- The first of them were taken, and told. These are left. What was written is in order.
  pub record AmongOrdered (b : Work N C) (m : List ℕ) (u : W) (rest : List Said) : Type 0 where
    pub told : AmongTold stands plan a.ahead a.actors b.actors ts all rest (flows trace_seen sinks (a, l, t)).out (flows trace_seen sinks (b, m, u)).out (flows trace_seen sinks (a, l, t)).trace (flows trace_seen sinks (b, m, u)).trace
    pub order : none → KeepsOrder trace_seen sinks (a, l, t) (b, m, u) (demand plan told.done (seen_tree ts))

  module _ (may : MayFeedAll stands plan a.ahead a.actors ts all) where
    pub ordered_begins : AmongOrdered a l t all
    ordered_begins = record {
      told = told_begins stands plan a.ahead a.actors ts all (flows trace_seen sinks (a, l, t)).out (flows trace_seen sinks (a, l, t)).trace may;
      order = λ n. keeps_waiting trace_seen sinks a l t a l (demand plan [] (seen_tree ts)) (places_same (trace_seen l));
    }

    module _ (b : Work N C) (m : List ℕ) (u : W) (ahead : b.ahead ≡ a.ahead) (s : Said) (rest : List Said) (h : AmongOrdered b m u (s ∷ rest)) where
      abbrev before : Flows C
      before = flows trace_seen sinks (a, l, t)

      abbrev now : Flows C
      now = flows trace_seen sinks (b, m, u)

      abbrev done : List Said
      done = h.told.done

      among_may : MayFeedAll stands plan b.ahead b.actors (ts ++ done) (s ∷ [])
      among_may =
          subst (λ (n : ℕ). MayFeedAll stands plan n b.actors (ts ++ done) (s ∷ [])) (sym ahead)
          (told_may stands plan a.ahead a.actors b.actors ts all before.out now.out before.trace now.trace may.may may.come s rest h.told)

      -- the next one may be taken
      pub ordered_may : SomeFed stands b.ahead b.actors (s ∷ [])
      ordered_may = record { plan = plan; given = ts ++ done; of = among_may }

      -- so far no more was told than was written
      among_few : bytes_told (demand plan done (seen_tree ts)) ≤ length h.told.fed.goes.more
      among_few =
          let P = seen_tree ts in
          let g = h.told.fed.goes in
          let come : AllCome P (done ++ s ∷ rest) = subst (λ (z : List Said). AllCome P z) h.told.parts may.come in
          let grew : Leads P (grow_all done P) = leads done P (come_may P done (come_front P done (s ∷ rest) come)) in
          told_demand plan P done g.more (leads ts opening may.may) grew
          (subst (λ (T : Tree). bytes_at plan T (all_of plan T) ≡ bytes_at plan P (all_of plan P) ++ g.more) (grow_all-append ts done opening) g.written)

      module _ (c : Work N C) (n : List ℕ) (v : W) where
        abbrev after : Flows C
        after = flows trace_seen sinks (c, n, v)

        -- its lines, behind those before
        among_then : (none → OrdersLent stands trace_seen sinks (b, m, u) (c, n, v) (s ∷ [])) → none → KeepsOrder trace_seen sinks (a, l, t) (c, n, v) (demand plan done (seen_tree ts) ++ demand plan (s ∷ []) (seen_tree (ts ++ done)))
        among_then orders o =
            keeps_then trace_seen sinks a l t b m u (demand plan done (seen_tree ts)) (h.order o) h.told.fed.goes.more h.told.fed.goes.grew h.told.told among_few c n v
            (demand plan (s ∷ []) (seen_tree (ts ++ done))) (orders o plan (ts ++ done) among_may)

        -- it was
        pub ordered_next : TakesFlows stands true now after (s ∷ []) → (none → OrdersLent stands trace_seen sinks (b, m, u) (c, n, v) (s ∷ [])) → AmongOrdered c n v rest
        ordered_next takes orders = record {
          told = told_next stands plan a.ahead a.actors b.actors ts all before.out now.out before.trace now.trace may.may may.come s rest h.told c.actors after.out after.trace
              (subst (λ (i : ℕ). FeedsLent stands i b.actors c.actors (s ∷ []) now.out after.out) ahead takes.feeds)
              (subst (λ (i : ℕ). TellsLent stands i b.actors (s ∷ []) now.trace after.trace) ahead (takes.told refl));
          order = λ o.
              keeps_as trace_seen sinks a l t c n v (demand plan done (seen_tree ts) ++ demand plan (s ∷ []) (seen_tree (ts ++ done))) (among_then orders o)
              (demand plan (done ++ s ∷ []) (seen_tree ts)) (sym (demand_more plan ts done (s ∷ [])));
        }

        -- or memory ran out
        pub ordered_breaks : TakesSomeFlows stands true now after (s ∷ []) → BrokeLate plan c.actors ts all before.out after.out
        ordered_breaks takes =
            told_breaks stands plan a.ahead a.actors b.actors ts all before.out now.out before.trace now.trace may.may may.come s rest h.told c.actors after.out after.trace
            (subst (λ (i : ℕ). BreaksLent stands i b.actors c.actors (s ∷ []) now.out after.out) ahead takes.breaks)

        pub ordered_part : TakesSomeFlows stands true now after (s ∷ []) → GrewPart before.trace after.trace (text_of_lines (demand plan all (seen_tree ts)))
        ordered_part takes =
            told_part stands plan a.ahead a.actors b.actors ts all before.out now.out before.trace now.trace may.may may.come s rest h.told c.actors after.out after.trace
            (subst (λ (i : ℕ). TellsSomeLent stands i b.actors (s ∷ []) now.trace after.trace) ahead (takes.told refl))

        pub ordered_stops : (none → OrdersLent stands trace_seen sinks (b, m, u) (c, n, v) (s ∷ [])) → none → KeepsOrder trace_seen sinks (a, l, t) (c, n, v) (demand plan all (seen_tree ts))
        ordered_stops orders o =
            let X : List Line = demand plan done (seen_tree ts) in
            let Y : List Line = demand plan (s ∷ []) (seen_tree (ts ++ done)) in
            let Z : List Line = demand plan rest (grow_all (s ∷ []) (seen_tree (ts ++ done))) in
            let is : (X ++ Y) ++ Z ≡ demand plan all (seen_tree ts)
            = append_assoc X Y Z ∙ (ap (λ (z : List Line). X ++ z) (sym (demand-append plan (s ∷ []) rest (seen_tree (ts ++ done))))
            ∙ (sym (demand_more plan ts done (s ∷ rest)) ∙ ap (λ (z : List Said). demand plan z (seen_tree ts)) (sym h.told.parts))) in
            keeps_as trace_seen sinks a l t c n v ((X ++ Y) ++ Z) (keeps_told trace_seen sinks a l t c n v (X ++ Y) (among_then orders o) c n Z (places_same (trace_seen n))) (demand plan all (seen_tree ts)) is

    -- none is left
    module _ (b : Work N C) (m : List ℕ) (u : W) (rest : List Said) (empty : rest ≡ []) (h : AmongOrdered b m u rest) where
      pub ordered_whole : FedLent stands plan a.ahead a.actors b.actors ts all (flows trace_seen sinks (a, l, t)).out (flows trace_seen sinks (b, m, u)).out × ((flows trace_seen sinks (b, m, u)).trace ≡ (flows trace_seen sinks (a, l, t)).trace ++ text_of_lines (demand plan all (seen_tree ts)))
      ordered_whole =
          told_whole stands plan a.ahead a.actors b.actors ts all (flows trace_seen sinks (a, l, t)).out (flows trace_seen sinks (b, m, u)).out (flows trace_seen sinks (a, l, t)).trace (flows trace_seen sinks (b, m, u)).trace may.may may.come rest empty h.told

      pub ordered_all : none → KeepsOrder trace_seen sinks (a, l, t) (b, m, u) (demand plan all (seen_tree ts))
      ordered_all o =
          let is : h.told.done ≡ all = sym (h.told.parts ∙ (ap (λ (z : List Said). h.told.done ++ z) empty ∙ append-nil h.told.done)) in
          keeps_as trace_seen sinks a l t b m u (demand plan h.told.done (seen_tree ts)) (h.order o) (demand plan all (seen_tree ts)) (ap (λ (z : List Said). demand plan z (seen_tree ts)) is)

-- ---- the tokens of a slice

module _ {N C W : Type 0} (stands : C → Tree → Type 0) (sinks : W → ℕ → PlaceView) (none : Type 0) (plan : PlanTree) (bytes : List ℕ) (a : Work N C) (l : List ℕ) (t : W) (ts : List Said) (lent : List Lent) where
  -- those behind the first i are left
  abbrev pub OrderedTo : (b : Work N C) (m : List ℕ) (u : W) (i : ℕ) → Type 0
  OrderedTo b m u i = AmongOrdered stands sinks none plan a l t ts (said_lent bytes lent) b m u (said_lent bytes (drop i lent))

  module _ (may : MayFeedAll stands plan a.ahead a.actors ts (said_lent bytes lent)) (b : Work N C) (m : List ℕ) (u : W) (i : ℕ) (d : Lent) (below : i < length lent) (ahead : b.ahead ≡ a.ahead) (h : OrderedTo b m u i) where
    abbrev one : Said
    one = lent_token bytes (get_or lent i d)

    abbrev others : List Said
    others = said_lent bytes (drop (i + 1) lent)

    ordered_here : AmongOrdered stands sinks none plan a l t ts (said_lent bytes lent) b m u (one ∷ others)
    ordered_here = subst (λ (z : List Said). AmongOrdered stands sinks none plan a l t ts (said_lent bytes lent) b m u z) (lent_next bytes lent i d below) h

    pub lent_ordered_may : SomeFed stands b.ahead b.actors (one ∷ [])
    lent_ordered_may = ordered_may stands sinks none plan a l t ts (said_lent bytes lent) may b m u ahead one others ordered_here

    module _ (c : Work N C) (n : List ℕ) (v : W) where
      pub lent_ordered_next : TakesFlows stands true (flows trace_seen sinks (b, m, u)) (flows trace_seen sinks (c, n, v)) (one ∷ []) → (none → OrdersLent stands trace_seen sinks (b, m, u) (c, n, v) (one ∷ [])) → OrderedTo c n v (i + 1)
      lent_ordered_next takes orders = ordered_next stands sinks none plan a l t ts (said_lent bytes lent) may b m u ahead one others ordered_here c n v takes orders

      pub lent_ordered_breaks : TakesSomeFlows stands true (flows trace_seen sinks (b, m, u)) (flows trace_seen sinks (c, n, v)) (one ∷ []) → BrokeLate plan c.actors ts (said_lent bytes lent) (flows trace_seen sinks (a, l, t)).out (flows trace_seen sinks (c, n, v)).out
      lent_ordered_breaks takes = ordered_breaks stands sinks none plan a l t ts (said_lent bytes lent) may b m u ahead one others ordered_here c n v takes

      pub lent_ordered_part : TakesSomeFlows stands true (flows trace_seen sinks (b, m, u)) (flows trace_seen sinks (c, n, v)) (one ∷ [])
          → GrewPart (flows trace_seen sinks (a, l, t)).trace (flows trace_seen sinks (c, n, v)).trace (text_of_lines (demand plan (said_lent bytes lent) (seen_tree ts)))
      lent_ordered_part takes = ordered_part stands sinks none plan a l t ts (said_lent bytes lent) may b m u ahead one others ordered_here c n v takes

      pub lent_ordered_stops : (none → OrdersLent stands trace_seen sinks (b, m, u) (c, n, v) (one ∷ [])) → none → KeepsOrder trace_seen sinks (a, l, t) (c, n, v) (demand plan (said_lent bytes lent) (seen_tree ts))
      lent_ordered_stops orders o = ordered_stops stands sinks none plan a l t ts (said_lent bytes lent) may b m u ahead one others ordered_here c n v orders o
