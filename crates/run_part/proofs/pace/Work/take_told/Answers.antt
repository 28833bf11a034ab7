use Rattle.std.proofs.Common.{◌≡◌, ◌∷◌, ◌∙◌, [], Some, true, ap, refl, subst, sym}
use Rattle.gcx_model.specs.Demand.{demand}
use Rattle.gcx_model.specs.Seen.{seen_tree}
use Rattle.gcx_model.specs.Tree.{TreeToken as Said, grow}
use Rattle.doc_reader.specs.Standing.{lent_token, said_of}
use Rattle.outside.specs.Places.{went_at}
use Rattle.run_part.specs.Actors.{BalancesEach, FeedsEach, IsQuietFor, MayFeed, all_of}
use Rattle.run_part.specs.Flows.{ActsFlows, ActsSomeFlows, Flows, SameOutlets, TakesFlows, TakesSomeFlows, flows, trace_seen}
use Rattle.run_part.specs.Telling.{TellsEach, TellsPart, token_text}
use Rattle.run_part.specs.declared.pace.Work.{Work}
use Rattle.run_part.proofs.Acting.{on_err}
use Rattle.run_part.proofs.FeedingOne.{old_balance}
use Rattle.run_part.proofs.Flowing.{may_moves, others_on, token_behind}
use Rattle.run_part.proofs.FlowingTokens.{FedBy, fed_one, fed_spilled, order_acted, order_quiet, token_acted, token_actors, token_broke, token_lost, token_quiet}
use Rattle.run_part.proofs.KeepingOrder.{keeps_waiting}
use Rattle.run_part.proofs.Results.{err_map, ok_map}
use Rattle.run_part.proofs.Telling.{part_none}
use Rattle.run_part.proofs.ToldTokens.{one_may, said_given}
use Rattle.run_part.proofs.pace.Work.take_told.Goals as goal

-- ---- what the calls ask

pub feed_told-requires : goal.feed_told-requires
feed_told-requires g c =
    let t = lent_token c.args.bytes.now c.args.token in
    let is : said_of c.in_ok-own.own ≡ t = ap said_of c.in_ok-own.ensures ∙ said_given t in
    let old = c.args.self.now in
    let m = c.requires.may in
    subst (λ (z : Said). MayFeed g.C.Conds.stands old.actors z) (sym is) (one_may g.C.Conds.stands m.plan old.ahead old.actors m.given t m.of)

pub spill-requires : goal.spill-requires
spill-requires g c = record { out = c.requires.places.out; lines = λ p e. c.requires.places.lines p e }

pub act_all_told-requires-clause-some : goal.act_all_told-requires-clause-some
act_all_told-requires-clause-some g c =
    let t = lent_token c.args.bytes.now c.args.token in
    let is : said_of c.in_ok-own.own ≡ t = ap said_of c.in_ok-own.ensures ∙ said_given t in
    let stands = g.C.Conds.stands in
    let old = c.args.self.now in
    let e = c.feed_told.new.self in
    let new = c.spill.new.self in
    let x : Flows g.row.C.Denot = flows trace_seen g.O.Outside.sinks (old, c.args.lines.now, c.args.to.now) in
    let z : Flows g.row.C.Denot = flows trace_seen g.O.Outside.sinks (new, c.spill.new.lines, c.spill.new.to) in
    let tells : TellsEach stands old.actors t c.args.lines.now c.feed_told.new.lines = subst (λ (q : Said). TellsEach stands old.actors q c.args.lines.now c.feed_told.new.lines) is c.in_ok-quiet.ensures.told in
    let feeds : FeedsEach stands old.actors e t = subst (λ (q : Said). FeedsEach stands old.actors e q) is c.in_ok-quiet.ensures.feeds in
    let f : FedBy stands x t z = fed_spilled stands g.O.Outside.sinks old c.args.lines.now c.args.to.now t e c.feed_told.new.lines tells new c.spill.new.lines c.spill.new.to feeds c.spill.ensures.flows c.spill.ensures.rest in
    let m = c.requires.may in
    token_actors stands x t z f m.plan m.given m.of

pub act_all_told-requires-clause-places : goal.act_all_told-requires-clause-places
act_all_told-requires-clause-places g c =
    may_moves g.O.Outside.may g.met.O.Outside.keeps_may g.met.O.Outside.writes_keeps c.args.to.now c.spill.new.to (trace_seen c.args.lines.now) (trace_seen c.spill.new.lines)
    (record { output_is = refl; lines_is = refl }) c.spill.ensures.writes c.requires.places

pub act_all_told-requires-clause-few : goal.act_all_told-requires-clause-few
act_all_told-requires-clause-few g c = c.spill.ensures.few

-- ---- memory ran out before the token was made

pub returns-in_err-own-clause-part : goal.returns-in_err-own-clause-part
returns-in_err-own-clause-part g c =
    let t = lent_token c.args.bytes.now c.args.token in
    let stands = g.C.Conds.stands in
    let old = c.args.self.now in
    let x : Flows g.row.C.Denot = flows trace_seen g.O.Outside.sinks (old, c.args.lines.now, c.args.to.now) in
    let balance : BalancesEach stands old.actors old.actors t = λ plan P k a comes given. old_balance stands plan old.actors P k a given in
    let part : TellsPart stands old.actors t x.trace x.trace = λ plan P k a comes. part_none x.trace x.trace (token_text plan t P k) refl in
    let h : TakesSomeFlows stands true x x (t ∷ []) = token_lost stands x t x refl balance part in
    on_err _ _ h

pub returns-in_err-own-clause-order : goal.returns-in_err-own-clause-order
returns-in_err-own-clause-order g c = λ none plan ts m.
    let t = lent_token c.args.bytes.now c.args.token in
    let old = c.args.self.now in
    let l = c.args.lines.now in
    keeps_waiting trace_seen g.O.Outside.sinks old l c.args.to.now old l (demand plan (t ∷ []) (seen_tree ts)) (record { output_is = refl; lines_is = refl })

pub returns-in_err-own-clause-leaves : goal.returns-in_err-own-clause-leaves
returns-in_err-own-clause-leaves g c = record { loans = refl; ahead_is = refl; places = record { output_is = refl; lines_is = refl } }

pub returns-in_err-own-clause-others : goal.returns-in_err-own-clause-others
returns-in_err-own-clause-others g c = λ k far off. refl

pub returns-in_err-own-clause-writes : goal.returns-in_err-own-clause-writes
returns-in_err-own-clause-writes g c = g.met.O.Outside.writes_same c.args.to.now

-- ---- or with it

pub returns-in_err-quiet-clause-part : goal.returns-in_err-quiet-clause-part
returns-in_err-quiet-clause-part g c =
    let t = lent_token c.args.bytes.now c.args.token in
    let is : said_of c.in_ok-own.own ≡ t = ap said_of c.in_ok-own.ensures ∙ said_given t in
    let stands = g.C.Conds.stands in
    let sinks = g.O.Outside.sinks in
    let old = c.args.self.now in
    let l = c.args.lines.now in
    let v = c.args.to.now in
    let e = c.feed_told.new.self in
    let k = c.feed_told.new.lines in
    let fed : Work g.row.N.Denot g.row.C.Denot = record old { actors = e } in
    let x : Flows g.row.C.Denot = flows trace_seen sinks (old, l, v) in
    let y : Flows g.row.C.Denot = flows trace_seen sinks (fed, k, v) in
    let balance : BalancesEach stands old.actors e t = subst (λ (q : Said). BalancesEach stands old.actors e q) is c.in_err-quiet.ensures.balance in
    let part : TellsPart stands old.actors t l k = subst (λ (q : Said). TellsPart stands old.actors q l k) is c.in_err-quiet.ensures.part in
    let h : TakesSomeFlows stands true x y (t ∷ []) = token_lost stands x t y refl balance (token_behind (went_at (sinks v) (Some 1)) l k stands old.actors t part) in
    on_err _ _ h

pub returns-in_err-quiet-clause-order : goal.returns-in_err-quiet-clause-order
returns-in_err-quiet-clause-order g c = λ none plan ts m.
    let t = lent_token c.args.bytes.now c.args.token in
    let old = c.args.self.now in
    let fed : Work g.row.N.Denot g.row.C.Denot = record old { actors = c.feed_told.new.self } in
    keeps_waiting trace_seen g.O.Outside.sinks old c.args.lines.now c.args.to.now fed c.feed_told.new.lines (demand plan (t ∷ []) (seen_tree ts)) (record { output_is = refl; lines_is = refl })

pub returns-in_err-quiet-clause-leaves : goal.returns-in_err-quiet-clause-leaves
returns-in_err-quiet-clause-leaves g c = record { loans = c.feed_told.ensures.loans; ahead_is = refl; places = record { output_is = refl; lines_is = refl } }

pub returns-in_err-quiet-clause-others : goal.returns-in_err-quiet-clause-others
returns-in_err-quiet-clause-others g c = λ k far off. refl

pub returns-in_err-quiet-clause-writes : goal.returns-in_err-quiet-clause-writes
returns-in_err-quiet-clause-writes g c = g.met.O.Outside.writes_same c.args.to.now

-- ---- no action is possible behind it that wasn't

pub returns-then-quiet-clause-takes : goal.returns-then-quiet-clause-takes
returns-then-quiet-clause-takes g c =
    let t = lent_token c.args.bytes.now c.args.token in
    let is : said_of c.in_ok-own.own ≡ t = ap said_of c.in_ok-own.ensures ∙ said_given t in
    let stands = g.C.Conds.stands in
    let sinks = g.O.Outside.sinks in
    let old = c.args.self.now in
    let l = c.args.lines.now in
    let v = c.args.to.now in
    let e = c.feed_told.new.self in
    let k = c.feed_told.new.lines in
    let new = c.spill.new.self in
    let x : Flows g.row.C.Denot = flows trace_seen sinks (old, l, v) in
    let z : Flows g.row.C.Denot = flows trace_seen sinks (new, c.spill.new.lines, c.spill.new.to) in
    let tells : TellsEach stands old.actors t l k = subst (λ (q : Said). TellsEach stands old.actors q l k) is c.in_ok-quiet.ensures.told in
    let feeds : FeedsEach stands old.actors e t = subst (λ (q : Said). FeedsEach stands old.actors e q) is c.in_ok-quiet.ensures.feeds in
    let f : FedBy stands x t z = fed_spilled stands sinks old l v t e k tells new c.spill.new.lines c.spill.new.to feeds c.spill.ensures.flows c.spill.ensures.rest in
    token_quiet stands x t z f (subst (λ (q : Said). IsQuietFor stands old.actors q) is (c.in_ok-quiet.ensures.quiet c.if-quiet.true))

pub returns-then-quiet-clause-few : goal.returns-then-quiet-clause-few
returns-then-quiet-clause-few g c = c.spill.ensures.few

pub returns-then-quiet-clause-others : goal.returns-then-quiet-clause-others
returns-then-quiet-clause-others g c =
    let l = trace_seen c.args.lines.now in
    let m = trace_seen c.feed_told.new.lines in
    let a = g.O.Outside.sinks c.args.to.now in
    let same : SameOutlets l m = record { output_is = refl; lines_is = refl } in
    others_on l m a a (g.O.Outside.sinks c.spill.new.to) same (λ k far off. refl) c.spill.ensures.others

pub returns-then-quiet-clause-order : goal.returns-then-quiet-clause-order
returns-then-quiet-clause-order g c = λ none plan ts m.
    let t = lent_token c.args.bytes.now c.args.token in
    let is : said_of c.in_ok-own.own ≡ t = ap said_of c.in_ok-own.ensures ∙ said_given t in
    let stands = g.C.Conds.stands in
    let old = c.args.self.now in
    let l = c.args.lines.now in
    let k = c.feed_told.new.lines in
    let tells : TellsEach stands old.actors t l k = subst (λ (q : Said). TellsEach stands old.actors q l k) is c.in_ok-quiet.ensures.told in
    order_quiet stands g.O.Outside.sinks old l c.args.to.now t c.feed_told.new.self k tells c.spill.new.self c.spill.new.lines c.spill.new.to plan ts m (c.spill.ensures.order none)

pub returns-then-quiet-clause-leaves : goal.returns-then-quiet-clause-leaves
returns-then-quiet-clause-leaves g c = record {
  loans = ap (λ (q : Work g.row.N.Denot g.row.C.Denot). q.actors.buffer.loans) c.spill.ensures.rest ∙ c.feed_told.ensures.loans;
  ahead_is = ap (λ (q : Work g.row.N.Denot g.row.C.Denot). q.ahead) c.spill.ensures.rest;
  places = record { output_is = refl; lines_is = refl };
}

pub returns-then-quiet-clause-writes : goal.returns-then-quiet-clause-writes
returns-then-quiet-clause-writes g c = c.spill.ensures.writes

-- ---- every action was taken, or some of them

pub returns-clause-takes : goal.returns-clause-takes
returns-clause-takes g c =
    let t = lent_token c.args.bytes.now c.args.token in
    let is : said_of c.in_ok-own.own ≡ t = ap said_of c.in_ok-own.ensures ∙ said_given t in
    let stands = g.C.Conds.stands in
    let sinks = g.O.Outside.sinks in
    let old = c.args.self.now in
    let l = c.args.lines.now in
    let v = c.args.to.now in
    let e = c.feed_told.new.self in
    let k = c.feed_told.new.lines in
    let new = c.spill.new.self in
    let x : Flows g.row.C.Denot = flows trace_seen sinks (old, l, v) in
    let z : Flows g.row.C.Denot = flows trace_seen sinks (new, c.spill.new.lines, c.spill.new.to) in
    let w : Flows g.row.C.Denot = flows trace_seen sinks (c.act_all_told.new.self, c.act_all_told.new.lines, c.act_all_told.new.to) in
    let tells : TellsEach stands old.actors t l k = subst (λ (q : Said). TellsEach stands old.actors q l k) is c.in_ok-quiet.ensures.told in
    let feeds : FeedsEach stands old.actors e t = subst (λ (q : Said). FeedsEach stands old.actors e q) is c.in_ok-quiet.ensures.feeds in
    let f : FedBy stands x t z = fed_spilled stands sinks old l v t e k tells new c.spill.new.lines c.spill.new.to feeds c.spill.ensures.flows c.spill.ensures.rest in
    let alone = c.act_all_told.ensures.leaves.actors in
    let from : ActsFlows stands true z w → TakesFlows stands true x w (t ∷ []) = λ acts. token_acted stands x t z f w alone.counts alone.most acts in
    ok_map c.act_all_told.result from c.act_all_told.ensures.acts

pub returns-clause-part : goal.returns-clause-part
returns-clause-part g c =
    let t = lent_token c.args.bytes.now c.args.token in
    let is : said_of c.in_ok-own.own ≡ t = ap said_of c.in_ok-own.ensures ∙ said_given t in
    let stands = g.C.Conds.stands in
    let sinks = g.O.Outside.sinks in
    let old = c.args.self.now in
    let l = c.args.lines.now in
    let v = c.args.to.now in
    let e = c.feed_told.new.self in
    let k = c.feed_told.new.lines in
    let new = c.spill.new.self in
    let x : Flows g.row.C.Denot = flows trace_seen sinks (old, l, v) in
    let z : Flows g.row.C.Denot = flows trace_seen sinks (new, c.spill.new.lines, c.spill.new.to) in
    let w : Flows g.row.C.Denot = flows trace_seen sinks (c.act_all_told.new.self, c.act_all_told.new.lines, c.act_all_told.new.to) in
    let tells : TellsEach stands old.actors t l k = subst (λ (q : Said). TellsEach stands old.actors q l k) is c.in_ok-quiet.ensures.told in
    let feeds : FeedsEach stands old.actors e t = subst (λ (q : Said). FeedsEach stands old.actors e q) is c.in_ok-quiet.ensures.feeds in
    let f : FedBy stands x t z = fed_spilled stands sinks old l v t e k tells new c.spill.new.lines c.spill.new.to feeds c.spill.ensures.flows c.spill.ensures.rest in
    let from : ActsSomeFlows stands true z w → TakesSomeFlows stands true x w (t ∷ []) = λ acts. token_broke stands x t z f w c.act_all_told.ensures.leaves.actors.counts acts in
    err_map c.act_all_told.result from c.act_all_told.ensures.some

pub returns-clause-few : goal.returns-clause-few
returns-clause-few g c = c.act_all_told.ensures.few

pub returns-clause-others : goal.returns-clause-others
returns-clause-others g c =
    let l = trace_seen c.args.lines.now in
    let m = trace_seen c.feed_told.new.lines in
    let n = trace_seen c.spill.new.lines in
    let a = g.O.Outside.sinks c.args.to.now in
    let b = g.O.Outside.sinks c.spill.new.to in
    let same : SameOutlets l m = record { output_is = refl; lines_is = refl } in
    let still : SameOutlets l n = record { output_is = refl; lines_is = refl } in
    others_on l n a b (g.O.Outside.sinks c.act_all_told.new.to) still (others_on l m a a b same (λ k far off. refl) c.spill.ensures.others) c.act_all_told.ensures.others

pub returns-clause-order : goal.returns-clause-order
returns-clause-order g c = λ none plan ts m.
    let t = lent_token c.args.bytes.now c.args.token in
    let is : said_of c.in_ok-own.own ≡ t = ap said_of c.in_ok-own.ensures ∙ said_given t in
    let stands = g.C.Conds.stands in
    let sinks = g.O.Outside.sinks in
    let old = c.args.self.now in
    let l = c.args.lines.now in
    let v = c.args.to.now in
    let e = c.feed_told.new.self in
    let k = c.feed_told.new.lines in
    let new = c.spill.new.self in
    let u = c.spill.new.to in
    let P = seen_tree ts in
    let x : Flows g.row.C.Denot = flows trace_seen sinks (old, l, v) in
    let z : Flows g.row.C.Denot = flows trace_seen sinks (new, c.spill.new.lines, u) in
    let tells : TellsEach stands old.actors t l k = subst (λ (q : Said). TellsEach stands old.actors q l k) is c.in_ok-quiet.ensures.told in
    let feeds : FeedsEach stands old.actors e t = subst (λ (q : Said). FeedsEach stands old.actors e q) is c.in_ok-quiet.ensures.feeds in
    let f : FedBy stands x t z = fed_spilled stands sinks old l v t e k tells new c.spill.new.lines u feeds c.spill.ensures.flows c.spill.ensures.rest in
    let still = g.met.O.Outside.keeps_most v u true (g.met.O.Outside.writes_keeps v u c.spill.ensures.writes) in
    order_acted stands sinks old l v t e k tells new c.spill.new.lines u plan ts m (c.spill.ensures.order none) c.spill.ensures.flows c.act_all_told.new.self c.act_all_told.new.lines c.act_all_told.new.to
    (c.act_all_told.ensures.order (still ∙ none) refl plan (grow t P) (all_of plan P) (fed_one stands x t z f plan ts m).actors)

pub returns-clause-leaves : goal.returns-clause-leaves
returns-clause-leaves g c = record {
  loans = c.act_all_told.ensures.leaves.actors.loans ∙ (ap (λ (q : Work g.row.N.Denot g.row.C.Denot). q.actors.buffer.loans) c.spill.ensures.rest ∙ c.feed_told.ensures.loans);
  ahead_is = c.act_all_told.ensures.leaves.ahead_is ∙ ap (λ (q : Work g.row.N.Denot g.row.C.Denot). q.ahead) c.spill.ensures.rest;
  places = record { output_is = refl; lines_is = refl };
}

pub returns-clause-writes : goal.returns-clause-writes
returns-clause-writes g c = g.met.O.Outside.writes_on c.args.to.now c.spill.new.to c.act_all_told.new.to c.spill.ensures.writes c.act_all_told.ensures.writes
