use Rattle.std.proofs.Common.{arith, refl, sym, subst, ◌∙◌, ap, ◌≡◌, ◌==◌, ◌&&◌, ◌+◌, cond}
use Rattle.std.specs.Prelude.{is_some, is_none, option_map}
use Rattle.node_store.specs.declared.store.Place.{Place}
use Rattle.buf_tree.specs.Recount.{TellsParent, span_on}
use Rattle.buf_tree.specs.Shape.{cells, AtPlace}
use Rattle.buf_tree.proofs.Kin.{row_of_place}
use Rattle.buf_tree.proofs.Recounts.{recounts_start, recounts_nested, recounts_used, turned_shaped, turned_nested, turned_up, turned_top, turned_used, turned_within, turned_few, turned_less, turned_next, turned_on, recounts_end, recounts_outside, recounts_few}
use Rattle.buf_tree.proofs.recount.recount.Goals as goal
use Rattle.buf_tree.proofs.recount.recount.Goals.{then-kept, else-kept, then-is_lost, else-is_lost}

pub rows-init : goal.rows-init
rows-init g c =
    let d = row_of_place _ _ c.requires.shape _ c.requires.there in
    record {
      recount = recounts_start _ _ c.requires.shape c.requires.nested c.args.top.now c.args.others _ c.requires.covers d.0 d.1 d.2 _ (c.kept_above-above.ensures d.0 d.1 d.2);
      up = λ q e. let f : c.args.place.0 ≡ q = cc in subst (λ k. AtPlace (cells (g.N.NodeStore.rows c.args.nodes.now)) k (TellsParent c.parent_serial-parent.result)) f c.parent_serial-parent.ensures;
      tails = omega arith;
      rels = omega arith;
      again = omega arith;
      most = refl;
      loans = refl;
    }

pub payload-row-requires : goal.payload-row-requires
payload-row-requires g c = recounts_used _ _ c.requires.shape c.requires.nested _ _ _ _ _ _ _ _ (rw c.in-Some.is at c.rows.invariant.recount)

pub withdraw-taken-requires-clause-nested : goal.withdraw-taken-requires-clause-nested
withdraw-taken-requires-clause-nested g c = recounts_nested _ _ c.requires.shape c.requires.nested _ _ _ _ _ _ _ _ (rw c.in-Some.is at c.rows.invariant.recount)

pub overflow_add-lost : goal.overflow_add-lost
overflow_add-lost g c =
    let s = rw c.in-Some.is at c.rows.invariant.recount in
    let keeps : c.if-kept.go_on ≡ (c.has-kept.result && (c.withdraw-taken.result == 0)) = elim c.if-kept.branch [
      | then-kept w ↦ w.go_on-is ∙ sym (ap (λ b. b && (c.withdraw-taken.result == 0)) w.if-kept.true)
      | else-kept w ↦ w.go_on-is ∙ w.if-kept.false ∙ sym (ap (λ b. b && (c.withdraw-taken.result == 0)) w.if-kept.false)
    ] in
    let few = turned_few _ _ c.requires.shape c.requires.nested _ _ _ _ _ _ _ _ s _ c.payload-row.ensures c.requires.own _ c.withdraw-taken.ensures.few c.withdraw-taken.ensures.taken _ c.withdraw-taken.ensures.rows _ (c.rows.invariant.up _ (ap (option_map (λ (q : Place). q.0)) c.in-Some.is)) _ c.has-kept.ensures _ _
    (c.go_on.ensures.had ∙ (λ t. span_on c.rows.spans.had (c.serial-serial.ensures t) c.rows.parent c.has-kept.result))
    (c.go_on.ensures.has ∙ (λ t. span_on c.rows.spans.has (c.serial-serial.ensures t) c.rows.parent (keeps t)))
    (c.rows.lost + 1) (sym (ap (λ b. cond b (c.rows.lost + 1) c.rows.lost) (sym c.is_lost.ensures ∙ c.if-is_lost.true))) in
    omega (arith, few, c.requires.rows)

pub after-at-requires-clause-shape : goal.after-at-requires-clause-shape
after-at-requires-clause-shape g c = turned_shaped _ _ c.requires.shape c.requires.nested _ _ _ _ _ _ _ _ (rw c.in-Some.is at c.rows.invariant.recount) _ c.payload-row.ensures c.requires.own _ c.withdraw-taken.ensures.few c.withdraw-taken.ensures.taken _ c.withdraw-taken.ensures.rows

pub after-at-requires-clause-nested : goal.after-at-requires-clause-nested
after-at-requires-clause-nested g c = turned_nested _ _ c.requires.shape c.requires.nested _ _ _ _ _ _ _ _ (rw c.in-Some.is at c.rows.invariant.recount) _ c.payload-row.ensures c.requires.own _ c.withdraw-taken.ensures.few c.withdraw-taken.ensures.taken _ c.withdraw-taken.ensures.rows

pub after-at-requires-clause-top : goal.after-at-requires-clause-top
after-at-requires-clause-top g c = turned_top _ _ c.requires.shape c.requires.nested _ _ _ _ _ _ _ _ (rw c.in-Some.is at c.rows.invariant.recount) _ c.payload-row.ensures c.requires.own _ c.withdraw-taken.ensures.few c.withdraw-taken.ensures.taken _ c.withdraw-taken.ensures.rows

pub after-at-requires-clause-there : goal.after-at-requires-clause-there
after-at-requires-clause-there g c = turned_used _ _ c.requires.shape c.requires.nested _ _ _ _ _ _ _ _ (rw c.in-Some.is at c.rows.invariant.recount) _ c.payload-row.ensures c.requires.own _ c.withdraw-taken.ensures.few c.withdraw-taken.ensures.taken _ c.withdraw-taken.ensures.rows

pub after-at-requires-clause-within : goal.after-at-requires-clause-within
after-at-requires-clause-within g c = turned_within _ _ c.requires.shape c.requires.nested _ _ _ _ _ _ _ _ (rw c.in-Some.is at c.rows.invariant.recount) _ c.payload-row.ensures c.requires.own _ c.withdraw-taken.ensures.few c.withdraw-taken.ensures.taken _ c.withdraw-taken.ensures.rows

pub recover-parent-requires-clause-shape : goal.recover-parent-requires-clause-shape
recover-parent-requires-clause-shape g c = turned_shaped _ _ c.requires.shape c.requires.nested _ _ _ _ _ _ _ _ (rw c.in-Some.is at c.rows.invariant.recount) _ c.payload-row.ensures c.requires.own _ c.withdraw-taken.ensures.few c.withdraw-taken.ensures.taken _ c.withdraw-taken.ensures.rows

pub recover-parent-requires-clause-used : goal.recover-parent-requires-clause-used
recover-parent-requires-clause-used g c = turned_next _ _ c.requires.shape c.requires.nested _ _ _ _ _ _ _ _ (rw c.in-Some.is at c.rows.invariant.recount) _ c.payload-row.ensures c.requires.own _ c.withdraw-taken.ensures.few c.withdraw-taken.ensures.taken _ c.withdraw-taken.ensures.rows _ c.after-at.ensures

pub rows-smaller : goal.rows-smaller
rows-smaller g c =
    rw c.in-Some.is
    (turned_less _ _ c.requires.shape c.requires.nested _ _ _ _ _ _ _ _ (rw c.in-Some.is at c.rows.invariant.recount) _ c.payload-row.ensures c.requires.own _ c.withdraw-taken.ensures.few c.withdraw-taken.ensures.taken _ c.withdraw-taken.ensures.rows _ c.after-at.ensures)

pub rows-preserved : goal.rows-preserved
rows-preserved g c =
    let s = rw c.in-Some.is at c.rows.invariant.recount in
    let keeps : c.if-kept.go_on ≡ (c.has-kept.result && (c.withdraw-taken.result == 0)) = elim c.if-kept.branch [
      | then-kept w ↦ w.go_on-is ∙ sym (ap (λ b. b && (c.withdraw-taken.result == 0)) w.if-kept.true)
      | else-kept w ↦ w.go_on-is ∙ w.if-kept.false ∙ sym (ap (λ b. b && (c.withdraw-taken.result == 0)) w.if-kept.false)
    ] in
    let counted : c.if-is_lost.lost ≡ cond (is_some c.go_on.new.self.had && is_none c.go_on.new.self.has) (c.rows.lost + 1) c.rows.lost = elim c.if-is_lost.branch [
      | then-is_lost w ↦ w.lost-is ∙ sym (ap (λ b. cond b (c.rows.lost + 1) c.rows.lost) (sym c.is_lost.ensures ∙ w.if-is_lost.true))
      | else-is_lost w ↦ w.lost-is ∙ sym (ap (λ b. cond b (c.rows.lost + 1) c.rows.lost) (sym c.is_lost.ensures ∙ w.if-is_lost.false))
    ] in
    record {
      recount = turned_on _ _ c.requires.shape c.requires.nested _ _ _ _ _ _ _ _ s _ c.payload-row.ensures c.requires.own _ c.withdraw-taken.ensures.few c.withdraw-taken.ensures.taken _ c.withdraw-taken.ensures.rows _ (c.rows.invariant.up _ (ap (option_map (λ (q : Place). q.0)) c.in-Some.is)) _ c.has-kept.ensures _ _
          (c.go_on.ensures.had ∙ (λ t. span_on c.rows.spans.had (c.serial-serial.ensures t) c.rows.parent c.has-kept.result))
          (c.go_on.ensures.has ∙ (λ t. span_on c.rows.spans.has (c.serial-serial.ensures t) c.rows.parent (keeps t)))
          _ counted _ c.after-at.ensures _ c.recover-parent.ensures.covered;
      up = λ q e. turned_up _ _ c.requires.shape c.requires.nested _ _ _ _ _ _ _ _ s _ c.payload-row.ensures c.requires.own _ c.withdraw-taken.ensures.few c.withdraw-taken.ensures.taken _ c.withdraw-taken.ensures.rows q _ (c.recover-parent.ensures.parent q e);
      tails = omega (arith, c.withdraw-taken.ensures.tails, c.rows.invariant.tails);
      rels = omega (arith, c.withdraw-taken.ensures.rels, c.rows.invariant.rels);
      again = omega (arith, c.withdraw-taken.ensures.again, c.rows.invariant.again);
      most = c.recover-parent.ensures.most ∙ c.withdraw-taken.ensures.most ∙ c.rows.invariant.most;
      loans = c.recover-parent.ensures.loans ∙ c.withdraw-taken.ensures.loans ∙ c.rows.invariant.loans;
    }

pub returns-clause-recounted : goal.returns-clause-recounted
returns-clause-recounted g c = recounts_end _ _ c.requires.shape c.requires.nested _ _ _ c.requires.spread _ _ _ _ (rw c.in_default.is at c.rows.invariant.recount)

pub returns-clause-outside : goal.returns-clause-outside
returns-clause-outside g c = recounts_outside _ _ c.requires.shape c.requires.nested _ _ _ c.requires.spread _ _ _ _ (rw c.in_default.is at c.rows.invariant.recount)

pub returns-clause-few : goal.returns-clause-few
returns-clause-few g c = recounts_few _ _ c.requires.shape c.requires.nested _ _ _ c.requires.spread _ _ _ _ (rw c.in_default.is at c.rows.invariant.recount)
