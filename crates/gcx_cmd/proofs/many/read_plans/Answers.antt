use Rattle.std.proofs.Common.{◌≡◌, ◌∙◌, ◌∷◌, ◌++◌, ◌+◌, ◌≤◌, suc, List, [], Err, get_or, length, take, drop, rules, sym, ap, subst, arith, append_assoc}
use Rattle.std.proofs.lemmas.Grind.{common_steps}
use Rattle.std.proofs.lemmas.List.{take_all, take_more}
use Rattle.std.proofs.lemmas.Result.{err_from_is_err_and}
use Rattle.gcx_model.specs.Query.{query_trees}
use Rattle.gcx_model.specs.declared.plan.Plan.{Plan}
use Rattle.gcx_words.specs.declared.pairs.Pair.{Pair}
use Rattle.many_run.proofs.Lists.{each_push}
use Rattle.run_part.specs.Part.{IsOfCore}
use Rattle.gcx_cmd.proofs.Manies.{accepts_plans_none, accepts_plans_on, cause_among, each_none, opened_more, queries_count, split_pairs, stops_at_query, stops_between}
use Rattle.gcx_cmd.proofs.ManyKept.{kept_none, kept_on, kept_shelf}
use Rattle.gcx_cmd.specs.ManyDoes.{AcceptsPlans, StopsInQueries}
use Rattle.gcx_cmd.specs.declared.status.Status.TheVariants as status
use Rattle.gcx_cmd.proofs.many.read_plans.Goals as goal

pub pairs-init : goal.pairs-init
pairs-init g c = record {
  accepted = subst (λ (z : List Plan). AcceptsPlans [] (g.F.Shelf.seen c.args.files.now) (g.F.Shelf.seen c.args.files.now) z) (sym c.new-plans.ensures.items) (accepts_plans_none (g.F.Shelf.seen c.args.files.now));
  placed = each_none IsOfCore c.new-plans.result.items c.new-plans.ensures.items;
  keeps = λ outs. kept_none outs (g.F.Shelf.seen c.args.files.now);
}

pub returns-in_err-accepted-clause-stops : goal.returns-in_err-accepted-clause-stops
returns-in_err-accepted-clause-stops g c =
    let e = c.in_err-accepted.field-0.0 in
    let stops : StopsInQueries c.args.pairs.now e (g.F.Shelf.seen c.args.files.now) (g.F.Shelf.seen c.read_query.new.files) =
    stops_at_query c.args.pairs.now c.pairs.pair-index c.pair-item.result c.pairs-test.true (search rules) (g.F.Shelf.seen c.args.files.now) (g.F.Shelf.seen c.pairs.files) c.pairs.plans.items c.pairs.invariant.accepted e
    (g.F.Shelf.seen c.read_query.new.files) c.in_err-accepted.ensures.stops c.read_query.ensures.keeps in
    let p = err_from_is_err_and c.from_residual.result c.from_residual.ensures.1 in
    rw (p.1, p.2) stops

pub returns-in_err-accepted-clause-cause : goal.returns-in_err-accepted-clause-cause
returns-in_err-accepted-clause-cause g c = λ is.
    let e = c.in_err-accepted.field-0.0 in
    let p = err_from_is_err_and c.from_residual.result c.from_residual.ensures.1 in
    let was : c.from_residual.result ≡ Err status.ReadFault = is in
    let same : e ≡ status.ReadFault = cc (p.1, p.2) in
    cause_among c.args.pairs.now c.pairs.pair-index c.pair-item.result c.pairs-test.true (search rules) (g.F.Shelf.seen c.args.files.now) (g.F.Shelf.seen c.pairs.files) c.pairs.plans.items c.pairs.invariant.accepted
    (g.F.Shelf.seen c.read_query.new.files) (c.in_err-accepted.ensures.cause (ap Err same))

pub returns-in_err-accepted-clause-keeps : goal.returns-in_err-accepted-clause-keeps
returns-in_err-accepted-clause-keeps g c = λ outs.
    kept_on outs (g.F.Shelf.seen c.args.files.now) (g.F.Shelf.seen c.pairs.files) (g.F.Shelf.seen c.read_query.new.files) (c.pairs.invariant.keeps outs)
    (kept_shelf outs (g.F.Shelf.seen c.pairs.files) (g.F.Shelf.seen c.read_query.new.files) c.read_query.ensures.keeps
    (opened_more c.in_err-accepted.field-0.0 c.pair-item.result.query (g.F.Shelf.seen c.pairs.files) (g.F.Shelf.seen c.read_query.new.files) c.in_err-accepted.ensures.stops))

pub returns-then-is_err-clause-stops : goal.returns-then-is_err-clause-stops
returns-then-is_err-clause-stops g c =
    let k = c.pairs.pair-index in
    let p = c.pair-item.result in
    let ps = c.args.pairs.now in
    let b = g.F.Shelf.seen c.read_query.new.files in
    let split = split_pairs ps k p c.pairs-test.true (search rules) in
    let next = accepts_plans_on (take k ps) p (g.F.Shelf.seen c.args.files.now) (g.F.Shelf.seen c.pairs.files) b c.pairs.plans.items (query_trees c.in_ok-accepted.accepted.query) c.in_ok-accepted.accepted.plan c.pairs.invariant.accepted
    c.in_ok-accepted.ensures.accepted.0 c.in_ok-accepted.ensures.accepted.1 c.read_query.ensures.keeps c.in_ok-accepted.ensures.plan in
    stops_between ps (take k ps ++ p ∷ []) (drop (suc k) ps) (g.F.Shelf.seen c.args.files.now) b _ (split ∙ sym (append_assoc (take k ps) (p ∷ []) (drop (suc k) ps))) next

pub returns-then-is_err-clause-keeps : goal.returns-then-is_err-clause-keeps
returns-then-is_err-clause-keeps g c = λ outs.
    let a = g.F.Shelf.seen c.pairs.files in
    let b = g.F.Shelf.seen c.read_query.new.files in
    let n = c.in_ok-accepted.ensures.accepted.0.count in
    kept_on outs (g.F.Shelf.seen c.args.files.now) a b (c.pairs.invariant.keeps outs) (kept_shelf outs a b c.read_query.ensures.keeps (omega (arith, n)))

pub pairs-preserved : goal.pairs-preserved
pairs-preserved g c =
    let k = c.pairs.pair-index in
    let p = c.pair-item.result in
    let ps = c.args.pairs.now in
    let a = g.F.Shelf.seen c.pairs.files in
    let b = g.F.Shelf.seen c.read_query.new.files in
    let same : get_or ps k p ≡ p = search rules in
    let more : take (k + 1) ps ≡ take k ps ++ p ∷ [] = subst (λ (z : Pair). take (k + 1) ps ≡ take k ps ++ z ∷ []) same (take_more ps k p c.pairs-test.true) in
    let next = accepts_plans_on (take k ps) p (g.F.Shelf.seen c.args.files.now) a b c.pairs.plans.items (query_trees c.in_ok-accepted.accepted.query) c.in_ok-accepted.accepted.plan c.pairs.invariant.accepted
    c.in_ok-accepted.ensures.accepted.0 c.in_ok-accepted.ensures.accepted.1 c.read_query.ensures.keeps c.in_ok-accepted.ensures.plan in
    let n = c.in_ok-accepted.ensures.accepted.0.count in
    let pushed : c.push.new.self.items ≡ c.pairs.plans.items ++ c.in_ok-accepted.accepted.plan ∷ [] = grind (arith, common_steps) in
    record {
      accepted = subst (λ (z : List Pair). AcceptsPlans z (g.F.Shelf.seen c.args.files.now) b c.push.new.self.items) (sym more)
          (subst (λ (z : List Plan). AcceptsPlans (take k ps ++ p ∷ []) (g.F.Shelf.seen c.args.files.now) b z) (sym pushed) next);
      placed = each_push IsOfCore c.pairs.plans.items c.push.new.self.items c.in_ok-accepted.accepted.plan c.pairs.invariant.placed pushed c.in_ok-accepted.ensures.placed;
      keeps = λ outs. kept_on outs (g.F.Shelf.seen c.args.files.now) a b (c.pairs.invariant.keeps outs) (kept_shelf outs a b c.read_query.ensures.keeps (omega (arith, n)));
    }

pub returns-clause-accepted : goal.returns-clause-accepted
returns-clause-accepted g c =
    let past : length c.args.pairs.now ≤ c.pairs.pair-index = search rules in
    subst (λ (z : List Pair). AcceptsPlans z (g.F.Shelf.seen c.args.files.now) (g.F.Shelf.seen c.pairs.files) c.pairs.plans.items) (take_all c.pairs.pair-index c.args.pairs.now past) c.pairs.invariant.accepted

pub returns-clause-placed : goal.returns-clause-placed
returns-clause-placed g c = c.pairs.invariant.placed

pub returns-clause-count : goal.returns-clause-count
returns-clause-count g c =
    let h : AcceptsPlans c.args.pairs.now (g.F.Shelf.seen c.args.files.now) (g.F.Shelf.seen c.pairs.files) c.pairs.plans.items = returns-clause-accepted g c in
    h.plans_are.count ∙ queries_count c.args.pairs.now h.xs (g.F.Shelf.seen c.args.files.now) (g.F.Shelf.seen c.pairs.files) h.accepts

pub returns-clause-keeps : goal.returns-clause-keeps
returns-clause-keeps g c = c.pairs.invariant.keeps
