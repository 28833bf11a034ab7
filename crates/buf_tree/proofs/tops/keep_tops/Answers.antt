use Rattle.std.proofs.Common.{arith, refl, ◌∙◌, ap}
use Rattle.buf_tree.proofs.KeepingTops.{upto_none, slot_at, tops_later, kept_next, upto_all}
use Rattle.buf_tree.specs.Tops.{kept_by}
use Rattle.buf_tree.proofs.tops.keep_tops.Goals as goal

pub each-init : goal.each-init
each-init g c = record {
  held = λ p k u l stays t. upto_none _ stays;
  signed = refl;
  room = omega arith;
}

pub keep_slot-requires-clause-room : goal.keep_slot-requires-clause-room
keep_slot-requires-clause-room g c top e =
    let r = c.requires.room c.each.i top (slot_at c.args.tops.now c.each.i c.index-tops-i.result c.each-test.true c.index-tops-i.is ∙ e) in
    omega (arith, r.1, c.each.invariant.room)

pub each-preserved : goal.each-preserved
each-preserved g c =
    let slot = slot_at c.args.tops.now c.each.i c.index-tops-i.result c.each-test.true c.index-tops-i.is in
    record {
      held = λ p k u l stays t.
          let was = c.each.invariant.held p k u l stays t in
          c.keep_slot.ensures.held p k u l stays (λ top e. tops_later _ c.args.tops.now _ _ p _ c.each.i stays c.requires.own t was top (slot ∙ e) (c.requires.room c.each.i top (slot ∙ e)).0)
          ∙ ap (kept_by c.index-tops-i.result stays) was
          ∙ kept_next _ c.each.i stays c.index-tops-i.result (λ top e. (c.requires.room c.each.i top (slot ∙ e)).0) (λ e. t.others c.each.i (slot ∙ e));
      signed = c.keep_slot.ensures.signed ∙ c.each.invariant.signed;
      room = omega (arith, c.keep_slot.ensures.room, c.each.invariant.room);
    }

pub returns-clause-held : goal.returns-clause-held
returns-clause-held g c p k u l stays t = upto_all _ _ c.args.tops.now c.each.i stays c.each-test.false t.others (c.each.invariant.held p k u l stays t)
