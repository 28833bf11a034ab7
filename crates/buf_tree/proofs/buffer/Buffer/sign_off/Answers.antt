use Rattle.std.proofs.Common.{sym, ◌∙◌, ap, subst}
use Rattle.gcx_model.specs.declared.item.Off.{Off}
use Rattle.buf_tree.specs.Stands.{Due}
use Rattle.buf_tree.specs.Trail.{HasTrailRoom}
use Rattle.buf_tree.specs.View.{View}
use Rattle.buf_tree.proofs.SignedViews.{there_due, kept_signed, covers_signed, taking_signed, covers_then, signed_then, stands_signed}
use Rattle.buf_tree.proofs.buffer.Buffer.sign_off.Goals as goal

pub may_be_kept-others-requires-clause-nested : goal.may_be_kept-others-requires-clause-nested
may_be_kept-others-requires-clause-nested g c = c.self.invariant.0.ordered.nested

pub may_be_kept-others-requires-clause-there : goal.may_be_kept-others-requires-clause-there
may_be_kept-others-requires-clause-there g c =
    let due = subst (λ (v : View). Due v c.args.place.0 c.args.off.now) (sym c.self.view_is) c.requires.due in
    there_due c.self.inside.spread _ _ _ _ _ _ _ _ _ _ c.args.off.now c.self.invariant.0 c.self.invariant.1 due

pub sign-requires : goal.sign-requires
sign-requires g c =
    let due = subst (λ (v : View). Due v c.args.place.0 c.args.off.now) (sym c.self.view_is) c.requires.due in
    there_due c.self.inside.spread _ _ _ _ _ _ _ _ _ _ c.args.off.now c.self.invariant.0 c.self.invariant.1 due

pub withdraw-taken-requires-clause-kept : goal.withdraw-taken-requires-clause-kept
withdraw-taken-requires-clause-kept g c =
    let due = subst (λ (v : View). Due v c.args.place.0 c.args.off.now) (sym c.self.view_is) c.requires.due in
    (c.self.inside.count, kept_signed c.self.inside.spread _ _ _ _ _ _ _ _ _ _ _ c.args.off.now c.self.invariant.0 c.self.invariant.1 c.in_ok-sign.ensures.ok due)

pub withdraw-taken-requires-clause-covers : goal.withdraw-taken-requires-clause-covers
withdraw-taken-requires-clause-covers g c =
    let due = subst (λ (v : View). Due v c.args.place.0 c.args.off.now) (sym c.self.view_is) c.requires.due in
    covers_signed c.self.inside.spread _ _ _ _ _ _ _ _ _ _ _ c.args.off.now c.self.invariant.0 c.self.invariant.1 c.in_ok-sign.ensures.ok due

pub withdraw-taken-requires-clause-taking : goal.withdraw-taken-requires-clause-taking
withdraw-taken-requires-clause-taking g c =
    let due = subst (λ (v : View). Due v c.args.place.0 c.args.off.now) (sym c.self.view_is) c.requires.due in
    taking_signed c.self.inside.spread _ _ _ _ _ _ _ _ _ _ _ c.args.off.now c.self.invariant.0 c.self.invariant.1 c.in_ok-sign.ensures.ok due _ c.may_be_kept-others.ensures

pub withdraw-taken-requires-clause-room : goal.withdraw-taken-requires-clause-room
withdraw-taken-requires-clause-room g c o =
    subst (λ (x : Off). HasTrailRoom x c.prepare.new.self) c.walked.ensures (c.in_ok-prepare.ensures.tails o, c.in_ok-prepare.ensures.rels o, c.in_ok-prepare.ensures.again o)

pub invariant_of-self-2 : goal.invariant_of-self-2
invariant_of-self-2 g c =
    let due = subst (λ (v : View). Due v c.args.place.0 c.args.off.now) (sym c.self.view_is) c.requires.due in
    let kept = c.withdraw-taken.ensures.kept _ (kept_signed c.self.inside.spread _ _ _ _ _ _ _ _ _ _ _ c.args.off.now c.self.invariant.0 c.self.invariant.1 c.in_ok-sign.ensures.ok due) in (
      kept,
      covers_then c.self.inside.spread _ _ _ _ _ _ _ _ _ _ _ c.args.off.now c.self.invariant.0 c.self.invariant.1 c.in_ok-sign.ensures.ok due _ c.may_be_kept-others.ensures _ kept.shape _ _ c.withdraw-taken.ensures.withdrawn
          c.withdraw-taken.ensures.spread _ _ _ _ _ c.saturating_add-self-inside.ensures c.in_ok-sign.ensures.most c.withdraw-taken.ensures.most c.withdraw-taken.ensures.loans,
    )

pub returns-clause-stands : goal.returns-clause-stands
returns-clause-stands g c =
    let due = subst (λ (v : View). Due v c.args.place.0 c.args.off.now) (sym c.self.view_is) c.requires.due in
    let kept = c.withdraw-taken.ensures.kept _ (kept_signed c.self.inside.spread _ _ _ _ _ _ _ _ _ _ _ c.args.off.now c.self.invariant.0 c.self.invariant.1 c.in_ok-sign.ensures.ok due) in
    stands_signed c.self.inside.spread _ _ _ _ _ _ _ _ _ _ _ c.args.off.now c.self.invariant.0 c.self.invariant.1 c.in_ok-sign.ensures.ok due _ c.may_be_kept-others.ensures _ kept.shape _ _ c.withdraw-taken.ensures.withdrawn
    c.withdraw-taken.ensures.spread _ _ _ _ _ c.saturating_add-self-inside.ensures c.in_ok-sign.ensures.most c.withdraw-taken.ensures.most c.withdraw-taken.ensures.loans _ c.self.view_is c.requires.behind

pub returns-clause-signed : goal.returns-clause-signed
returns-clause-signed g c =
    let due = subst (λ (v : View). Due v c.args.place.0 c.args.off.now) (sym c.self.view_is) c.requires.due in
    let kept = c.withdraw-taken.ensures.kept _ (kept_signed c.self.inside.spread _ _ _ _ _ _ _ _ _ _ _ c.args.off.now c.self.invariant.0 c.self.invariant.1 c.in_ok-sign.ensures.ok due) in
    signed_then c.self.inside.spread _ _ _ _ _ _ _ _ _ _ _ c.args.off.now c.self.invariant.0 c.self.invariant.1 c.in_ok-sign.ensures.ok due _ c.may_be_kept-others.ensures _ kept.shape _ _ c.withdraw-taken.ensures.withdrawn
    c.withdraw-taken.ensures.spread _ _ _ _ _ c.saturating_add-self-inside.ensures c.in_ok-sign.ensures.most c.withdraw-taken.ensures.most c.withdraw-taken.ensures.loans _ _ c.self.view_is

pub returns-clause-waiting : goal.returns-clause-waiting
returns-clause-waiting g c = ap (λ (v : View). v.waiting) c.self.view_is

pub returns-clause-loans : goal.returns-clause-loans
returns-clause-loans g c = c.withdraw-taken.ensures.loans ∙ c.in_ok-sign.ensures.loans ∙ ap (λ (v : View). v.loans) c.self.view_is
