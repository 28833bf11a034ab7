use Rattle.std.proofs.Common.{◌≡◌, sym, ◌∙◌, ap, subst, inl, inr, Some, Option}
use Rattle.std.specs.Prelude.{IfSome}
use Rattle.gcx_model.specs.Paths.{head}
use Rattle.node_store.specs.declared.store.Place.{Place}
use Rattle.buf_tree.specs.Shape.{Cell}
use Rattle.buf_tree.specs.View.{Innermost}
use Rattle.buf_tree.proofs.Reading.{innermost_used}
use Rattle.projector.specs.Projector.{KeepsPlace}
use Rattle.projector.proofs.Places.{root_innermost, kept_innermost}
use Rattle.projector.proofs.projector.innermost.Goals as goal
use Rattle.projector.proofs.projector.innermost.Goals.{in-Some, in-None}

pub root_of-place-requires : goal.root_of-place-requires
root_of-place-requires g c = λ e.
    let r = root_innermost c.args.buffer.now.rows c.requires.rows (subst (λ (o : Option Place). KeepsPlace o c.args.buffer.now.rows) c.in-None.is c.requires.place) in
    let f = r.0 in
    absurd (cc)

pub at-requires : goal.at-requires
at-requires g c =
    innermost_used c.args.buffer.now.rows c.match-kept.place.0
    (kept_innermost c.args.buffer.now.rows c.requires.rows c.args.kept c.requires.place c.match-kept.place
    (elim c.match-kept.branch [
      | in-Some w ↦ inl (w.in-Some.is ∙ ap (λ z. Some z) (sym w.place-is))
      | in-None w ↦ inr (w.in-None.is, subst (λ (p : Place). IfSome (head c.args.buffer.now.rows) (λ (d : Cell). d.place ≡ p.0)) (sym w.place-is) w.root_of-place.ensures)
    ]))

pub returns-clause-innermost : goal.returns-clause-innermost
returns-clause-innermost g c =
    subst (λ (p : Place). Innermost c.args.buffer.now.rows p.0) (sym c.at.ensures.place)
    (kept_innermost c.args.buffer.now.rows c.requires.rows c.args.kept c.requires.place c.match-kept.place
    (elim c.match-kept.branch [
      | in-Some w ↦ inl (w.in-Some.is ∙ ap (λ z. Some z) (sym w.place-is))
      | in-None w ↦ inr (w.in-None.is, subst (λ (p : Place). IfSome (head c.args.buffer.now.rows) (λ (d : Cell). d.place ≡ p.0)) (sym w.place-is) w.root_of-place.ensures)
    ]))
