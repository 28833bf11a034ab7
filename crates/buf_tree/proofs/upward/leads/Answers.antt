use Rattle.std.proofs.Common.{arith, sym, ◌∙◌, ap, subst, List, Bool}
use Rattle.std.specs.Prelude.{option_map}
use Rattle.node_store.specs.declared.store.Place.{Place}
use Rattle.buf_tree.specs.Ways.{Flags}
use Rattle.buf_tree.proofs.Climbing.{leading_start, leading_found, leading_on, leading_missed, low_up, refilled, tells_descends, used_start, used_on, flags_count}
use Rattle.buf_tree.proofs.Ways.{any_default}
use Rattle.buf_tree.proofs.upward.leads.Goals as goal

pub up-init : goal.up-init
up-init g c = record {
  used = λ p e. used_start _ _ p c.requires.there e;
  count = flags_count _ _ _ c.begin.ensures.flags;
  room = c.begin.ensures.room;
  walk = λ a n u v. rw c.begin.ensures.flags (leading_start _ c.requires.shape a n c.args.steps.now c.args.place.0 v);
}

pub returns-then-is_same-clause-leads : goal.returns-then-is_same-clause-leads
returns-then-is_same-clause-leads g c a n u v =
    let l = rw c.in-Some.is at (c.up.invariant.walk a n u v) in
    c.index.ensures ∙ any_default c.up.flags.items 0 _ (let k = c.up.invariant.count in omega arith) ∙ leading_found _ c.requires.shape a n c.args.steps.now _ c.args.from.0 c.up.flags.items u (tells_descends _ v.cell n v.tells) (sym c.is_same.ensures ∙ c.if-is_same.true) l

pub up-smaller : goal.up-smaller
up-smaller g c = rw c.in-Some.is (low_up _ c.requires.shape _ (c.up.invariant.used _ (ap (option_map (λ (p : Place). p.0)) c.in-Some.is)) _ c.parent-at.ensures.value)

pub up-preserved : goal.up-preserved
up-preserved g c =
    let same = c.go_up.ensures.count ∙ c.deref_mut.ensures.len ∙ c.up.flags.ok.0 in
    let e = refilled c.up.flags.items c.go_up.new.flags c.up.flags.len c.up.flags.ok.0 same in
    let up = rw c.kind.ensures at c.go_up.ensures.flags in
    record {
      used = used_on _ c.parent-at.result c.parent-at.ensures.in_use;
      count = rw e (same ∙ c.up.invariant.count);
      room = c.up.invariant.room;
      walk = λ a n u v.
          let l = rw c.in-Some.is at (c.up.invariant.walk a n u v) in
          rw e (leading_on _ c.requires.shape a n c.args.steps.now _ c.args.from.0 c.up.flags.items c.go_up.new.flags u (tells_descends _ v.cell n v.tells) (sym c.is_same.ensures ∙ c.if-is_same.false) l _ c.parent-at.ensures.value _ c.payload.ensures
          (λ ends k p s d j f w. up ends k p s d j f (subst (λ (z : List Bool). Flags ends s c.args.steps.now k z) (sym c.deref_mut.ensures.value) w)));
    }

pub returns-clause-leads : goal.returns-clause-leads
returns-clause-leads g c a n u v = leading_missed _ c.requires.shape a n c.args.steps.now c.args.from.0 c.args.place.0 c.up.flags.items u v (rw c.in_default.is at (c.up.invariant.walk a n u v))
