-- What a trace tells of a token that the actors take.
use Rattle.std.proofs.Common.{◌≡◌, ℕ, true}
use Rattle.gcx_model.specs.Tree.{Tree, TreeToken as Said}
use Rattle.gcx_model.specs.Growth.{may_come}
use Rattle.gcx_model.specs.Core.{PlanTree}
use Rattle.gcx_model.specs.Points.{so_far}
use Rattle.gcx_model.specs.Past.{Past, past_fed}
use Rattle.buf_trace.specs.declared.line.LineKind.{LineKind as CodeKind}
use Rattle.buf_trace.specs.Lines.{kind_tree}
use Rattle.buf_tree.specs.View.{View}
use Rattle.buf_tree.specs.Stands.{StandsFor}
use Rattle.projector.specs.Projector.{Projects, Changes, DoesBy}
use Rattle.projector.specs.declared.projector.Fed.{Fed}
use Rattle.projector.specs.declared.projector.Projector.{Projector}
use Rattle.run_part.specs.Actors.{past_at, ComesWithin, StandAt}
use Rattle.run_part.specs.Telling.{fed_lines, kind_said, told_lines}
use Rattle.run_part.proofs.Telling.{fed_told}
use Rattle.run_part.specs.View.{ActorsView}

pub one_told : {C : Type 0} (stands : C → Tree → Type 0) (old : ActorsView C) (t : Said) (q : Projector) (w : View) (f : Fed) (kind : CodeKind) → kind_tree kind ≡ kind_said t
    → ((past : Past) → StandsFor old.buffer past → Projects old.projector past → may_come t past.tree ≡ true → Projects q (past_fed t past) × StandsFor w (past_fed t past))
    → ((past : Past) → StandsFor old.buffer past → Projects old.projector past → may_come t past.tree ≡ true → DoesBy f t past) → Changes (Projects old.projector) old.buffer w t f
    → (plan : PlanTree) (P : Tree) (k : ℕ) → StandAt stands plan old P k → ComesWithin t P → told_lines f kind w.gone ≡ fed_lines plan t P (so_far plan P k)
one_told stands old t q w f kind wanted then does changes plan P k a c =
    let past = past_at plan P k a.fed in
    let x = then past a.beside.buffer a.projects c.may in
    let y = does past a.beside.buffer a.projects c.may in
    fed_told (Projects old.projector) past old.buffer w t f (kind_tree kind) a.beside.buffer x.1 a.gone changes y wanted
