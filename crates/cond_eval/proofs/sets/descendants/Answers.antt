use Rattle.std.proofs.Common.{[], Some, None, sym, ap, get_or, refl}
use Rattle.std.proofs.lemmas.List.{take_more}
use Rattle.cond_eval.proofs.Nexts.{member_at, tells_as, descends_none, descends_moved, descends_inside, descends_outside}
use Rattle.cond_eval.proofs.sets.descendants.Goals as goal
use Rattle.cond_eval.proofs.sets.descendants.Goals.{in-Some, in_default+in_ok-put_reached-in_default, in_default-via-in-Some+else-is_inside, in_default-via-in_default}

pub loop-member-init : goal.loop-member-init
loop-member-init g c = descends_moved _ _ [] [] _ _ None None refl (sym c.new-found.ensures.items) refl (descends_none c.args.buffer.now.rows c.args.step.now c.requires.axis)

pub is_inside-requires : goal.is_inside-requires
is_inside-requires g c = (member_at _ c.args.set.now c.loop-member.member-index _ c.requires.set c.loop-member-test.true).used

pub put_reached-requires : goal.put_reached-requires
put_reached-requires g c = (member_at _ c.args.set.now c.loop-member.member-index _ c.requires.set c.loop-member-test.true).used

pub loop-member-preserved : goal.loop-member-preserved
loop-member-preserved g c =
    let is = member_at _ c.args.set.now c.loop-member.member-index (record { serial = 0; place = 0 }) c.requires.set c.loop-member-test.true in
    let front = sym (take_more c.args.set.now c.loop-member.member-index (record { serial = 0; place = 0 }) c.loop-member-test.true) in
    elim c.match-done.branch [
      | in-Some w ↦
          descends_moved _ _ _ _ _ _ _ _ front (ap (λ v. v.items) (sym w.found-is)) (ap (λ x. Some (x, get_or c.args.set.now c.loop-member.member-index (record { serial = 0; place = 0 }))) (sym w.top-is))
          (descends_inside _ _ c.requires.axis _ _ w.in-Some.top w.in-Some.last _ (descends_moved _ _ _ _ _ _ _ _ refl refl w.in-Some.is c.loop-member.invariant) is (tells_as _ (get_or c.args.set.now c.loop-member.member-index (record { serial = 0; place = 0 })) w.in-Some.last w.in-Some.top _ _ w.if-is_inside.true w.is_inside.ensures))
      | in_default+in_ok-put_reached-in_default w ↦
          descends_moved _ _ _ _ _ _ _ _ front (ap (λ v. v.items) (sym w.found-is)) (ap (λ x. Some (x, get_or c.args.set.now c.loop-member.member-index (record { serial = 0; place = 0 }))) (sym w.top-is))
          (elim w.in_default.branch [
            | in_default-via-in-Some+else-is_inside v ↦
                descends_outside _ _ c.requires.axis _ _ _ _ (Some (v.in-Some.top, v.in-Some.last)) (descends_moved _ _ _ _ _ _ _ _ refl refl v.in-Some.is c.loop-member.invariant) is
                (tells_as _ (get_or c.args.set.now c.loop-member.member-index (record { serial = 0; place = 0 })) v.in-Some.last v.in-Some.top _ _ v.if-is_inside.false v.is_inside.ensures) w.in_ok-put_reached-in_default.ensures
            | in_default-via-in_default v ↦ descends_outside _ _ c.requires.axis _ _ _ _ None (descends_moved _ _ _ _ _ _ _ _ refl refl v.in_default.is c.loop-member.invariant) is tt w.in_ok-put_reached-in_default.ensures
          ])
    ]
