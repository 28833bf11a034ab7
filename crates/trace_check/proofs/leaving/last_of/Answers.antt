use Rattle.std.proofs.Common.{◌≡◌, ℕ, ◌+◌, List, length, replicate, take, sym, ◌∙◌, ap, subst, arith}
use Rattle.std.specs.Global.{Vec}
use Rattle.gcx_model.specs.ItemView.{off_tree}
use Rattle.gcx_model.specs.Members.{In}
use Rattle.trace_check.specs.Acting.{act_shown, what_shown}
use Rattle.trace_check.specs.Reaching.{covers}
use Rattle.trace_check.specs.Wanting.{set_where}
use Rattle.trace_check.specs.declared.acts.TimedAct.{TimedAct}
use Rattle.trace_check.proofs.Entries.{HasLast, last_all, last_signed, last_sized, none_last, set_long, sized_act}
use Rattle.trace_check.proofs.Numbers.{in_at, lent}
use Rattle.trace_check.proofs.leaving.last_of.Goals as goal
use Rattle.trace_check.proofs.leaving.last_of.Goals.{in-SignedOff+in_ok-ranges, in_default}

pub loop-act-init : goal.loop-act-init
loop-act-init c = record {
  last = λ all e. none_last c.args.tree.now c.requires.grown c.in_ok-last.last.items (c.in_ok-last.ensures ∙ ap (λ n. replicate n 0) c.count.ensures);
  few = omega arith;
}

pub overflow_add-number : goal.overflow_add-number
overflow_add-number c = let l = c.loop-act-test.true in let f = c.loop-act.invariant.few in omega (arith, l, f)

pub reached-requires-clause-there : goal.reached-requires-clause-there
reached-requires-clause-there c = c.requires.there c.act-item.result (off_tree c.in-SignedOff.off.now) c.in-SignedOff.node
    (subst (λ (a : TimedAct). In a c.args.acts.now) (sym c.act-item.is) (in_at c.args.acts.now c.loop-act.act-index c.act-item.result c.loop-act-test.true))
    (ap act_shown c.in-SignedOff.is)

pub loop-act-preserved : goal.loop-act-preserved
loop-act-preserved c = elim c.match-act.branch [
  | in-SignedOff+in_ok-ranges w ↦
      (let n : ℕ = c.loop-act.number + 1 in
      let set : w.set_all.new.last ≡ set_where (covers w.in_ok-ranges.ranges.items) n c.loop-act.last.items =
      w.set_all.ensures
      ∙ (ap (λ ranges. set_where (covers ranges) n w.deref_mut.result.now) w.deref.ensures.value ∙ ap (set_where (covers w.in_ok-ranges.ranges.items) n) w.deref_mut.ensures.value) in
      let many : length w.set_all.new.last ≡ c.loop-act.last.len =
      (let a = ap length set in let b = set_long (covers w.in_ok-ranges.ranges.items) n c.loop-act.last.items in let k = c.loop-act.last.ok.0 in omega (arith, a, b, k)) in
      let items : c.match-act.last.items ≡ set_where (covers w.in_ok-ranges.ranges.items) n c.loop-act.last.items =
      ap (λ (v : Vec ℕ). v.items) w.last-is ∙ (lent c.loop-act.last.items w.set_all.new.last c.loop-act.last.len many ∙ set) in
      record {
        last = λ all e.
            subst (λ (k : ℕ). HasLast c.args.tree.now (take (c.loop-act.act-index + 1) all) k c.match-act.last.items) (sym w.number-is)
            (subst (λ (xs : List ℕ). HasLast c.args.tree.now (take (c.loop-act.act-index + 1) all) n xs) (sym items)
            (last_signed c.args.tree.now c.args.acts.now all e c.loop-act.act-index c.act-item.result c.loop-act-test.true c.loop-act.number c.loop-act.last.items (c.loop-act.invariant.last all e)
            c.requires.grown (off_tree w.in-SignedOff.off.now) w.in-SignedOff.node (ap what_shown (sym c.act-item.is) ∙ ap act_shown w.in-SignedOff.is)
            (covers w.in_ok-ranges.ranges.items) w.in_ok-ranges.ensures));
        few = (let f = c.loop-act.invariant.few in let k = w.number-is in omega (arith, f, k));
      })
  | in_default w ↦
      (let s = sized_act c.act-item.result.act w.in_default.not-SignedOff in
      record {
        last = λ all e.
            subst (λ (k : ℕ). HasLast c.args.tree.now (take (c.loop-act.act-index + 1) all) k c.match-act.last.items) (sym w.number-is)
            (subst (λ (xs : List ℕ). HasLast c.args.tree.now (take (c.loop-act.act-index + 1) all) c.loop-act.number xs) (sym (ap (λ (v : Vec ℕ). v.items) w.last-is))
            (last_sized c.args.tree.now c.args.acts.now all e c.loop-act.act-index c.act-item.result c.loop-act-test.true c.loop-act.number c.loop-act.last.items (c.loop-act.invariant.last all e)
            s.0 (ap what_shown (sym c.act-item.is) ∙ s.1)));
        few = (let f = c.loop-act.invariant.few in let k = w.number-is in omega (arith, f, k));
      })
]

pub returns-clause-count : goal.returns-clause-count
returns-clause-count c all e =
    (last_all c.args.tree.now c.args.acts.now all c.loop-act.act-index c.loop-act.number c.loop-act.last.items e c.loop-act-test.false (c.loop-act.invariant.last all e)).counted

pub returns-clause-last : goal.returns-clause-last
returns-clause-last c all e =
    (last_all c.args.tree.now c.args.acts.now all c.loop-act.act-index c.loop-act.number c.loop-act.last.items e c.loop-act-test.false (c.loop-act.invariant.last all e)).entries
