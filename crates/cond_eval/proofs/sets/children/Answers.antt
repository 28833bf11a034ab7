use Rattle.std.proofs.Common.{◌≡◌, ◌+◌, ◌<◌, true, List, length, sym, subst, ap, get_or, nat_cmp, Some}
use Rattle.std.proofs.lemmas.List.{take_more, take_all}
use Rattle.cond_eval.specs.declared.sets.Member.{Member}
use Rattle.cond_eval.specs.Reads.{AreNext}
use Rattle.cond_eval.proofs.Counts.{sorted_steps, ordered_steps}
use Rattle.std.proofs.lemmas.List.Sorted.{IsPermutation-refl}
use Rattle.std.specs.Ordering.{is_le, is_some_and, partial_ordering_then}
use Rattle.cond_eval.proofs.Nexts.{Gathers, member_at, gathers_more, children_end}
use Rattle.cond_eval.proofs.sets.children.Goals as goal
use Rattle.cond_eval.proofs.sets.children.Goals.{then-not-is_sorted+in_ok-sort, else-not-is_sorted}

pub put_reached-requires : goal.put_reached-requires
put_reached-requires g c = (member_at _ c.args.set.now c.loop-member.member-index _ c.requires.set c.loop-member-test.true).used

pub loop-member-preserved : goal.loop-member-preserved
loop-member-preserved g c = subst (λ (ms : List Member). Gathers c.args.buffer.now.rows c.args.step.now ms c.put_reached.new.found.items) (sym (take_more c.args.set.now c.loop-member.member-index _ c.loop-member-test.true))
    (gathers_more _ _ _ _ _ _ c.loop-member.invariant (member_at _ c.args.set.now c.loop-member.member-index _ c.requires.set c.loop-member-test.true) c.in_ok-put_reached.ensures)

pub returns : goal.returns
returns g c =
    let all = subst (λ (ms : List Member). Gathers c.args.buffer.now.rows c.args.step.now ms c.loop-member.found.items) (take_all c.loop-member.member-index c.args.set.now c.loop-member-test.false) c.loop-member.invariant in
    elim c.if-not-is_sorted.branch [
      | then-not-is_sorted+in_ok-sort w ↦
          subst (λ (ms : List Member). AreNext c.args.buffer.now.rows c.args.set.now c.args.step.now ms) (sym (ap (λ v. v.items) w.found-is))
          (children_end _ _ c.args.set.now _ w.sort.new.self.items c.requires.axis all w.in_ok-sort.ensures.permutation (sorted_steps w.sort.new.self.items w.in_ok-sort.ensures.sorted))
      | else-not-is_sorted w ↦
          subst (λ (ms : List Member). AreNext c.args.buffer.now.rows c.args.set.now c.args.step.now ms) (sym (ap (λ v. v.items) w.found-is))
          (children_end _ _ c.args.set.now _ c.loop-member.found.items c.requires.axis all (IsPermutation-refl c.loop-member.found.items) (ordered_steps c.loop-member.found.items (λ k d l. subst (λ (xs : List Member). k + 1 < length xs → is_some_and is_le (partial_ordering_then (Some (nat_cmp (get_or xs k d).serial (get_or xs (k + 1) d).serial)) (Some (nat_cmp (get_or xs k d).place (get_or xs (k + 1) d).place))) ≡ true) c.deref.ensures.value (w.if-not-is_sorted.ensures.cases k d) l)))
    ]
