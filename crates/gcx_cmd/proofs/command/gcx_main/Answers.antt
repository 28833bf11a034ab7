use Rattle.std.proofs.Common.{◌≡◌, Option, refl, ap, ◌∙◌, subst}
use Rattle.gcx_io.specs.Shelf.{Names, content_of}
use Rattle.gcx_io.specs.Views.{ShelfView}
use Rattle.gcx_words.specs.declared.command.Command.{Command}
use Rattle.gcx_cmd.specs.Does.{DoesIf}
use Rattle.gcx_cmd.specs.World.{World, world}
use Rattle.gcx_cmd.specs.RunDoes.{RunDoes}
use Rattle.gcx_cmd.specs.declared.status.Status.{Status}
use Rattle.gcx_cmd.proofs.Completing.{answers_many, completes}
use Rattle.gcx_cmd.proofs.Measures.{run_written}
use Rattle.gcx_cmd.proofs.command.gcx_main.Goals as goal

pub returns-clause-does : goal.returns-clause-does
returns-clause-does g c = record {
  between = world (g.F.Shelf.seen c.perform-status.new.files) (g.O.Sink.seen c.perform-status.new.out) (g.E.Sink.seen c.perform-status.new.err)
      (g.N.NodeStore.rows c.perform-status.new.nodes) (g.N.NodeStore.most_held c.perform-status.new.nodes);
  done = c.perform-status.ensures.does;
  diagnosed = record { shelf = refl; out = refl; store = refl; line = c.diagnose.ensures.tells };
}

pub returns-clause-written : goal.returns-clause-written
returns-clause-written g c = λ trace ahead query document query_bytes document_bytes asked ok told_q told_d q d accepted spelled.
    let a : World = world (g.F.Shelf.seen c.args.files.now) (g.O.Sink.seen c.args.out.now) (g.E.Sink.seen c.args.err.now)
    (g.N.NodeStore.rows c.args.nodes.now) (g.N.NodeStore.most_held c.args.nodes.now) in
    let b : World = world (g.F.Shelf.seen c.perform-status.new.files) (g.O.Sink.seen c.perform-status.new.out) (g.E.Sink.seen c.perform-status.new.err)
    (g.N.NodeStore.rows c.perform-status.new.nodes) (g.N.NodeStore.most_held c.perform-status.new.nodes) in
    let names : a.shelf.names ≡ g.F.Shelf.names c.args.files.now = ap (λ (v : ShelfView). v.names) (g.met.F.Shelf.sees c.args.files.now) in
    let done = subst (λ (o : Option Command). DoesIf o c.perform-status.result a b) asked c.perform-status.ensures.does in
    run_written trace ahead query document query_bytes document_bytes q d a b
    (ap (λ (n : Names). content_of n query) names ∙ told_q) (ap (λ (n : Names). content_of n document) names ∙ told_d) accepted spelled
    (subst (λ (s : Status). RunDoes trace ahead query document s a b) ok done.1)

pub returns-clause-complete : goal.returns-clause-complete
returns-clause-complete g c = completes _ _ _ _ (returns-clause-does g c)

pub returns-clause-answers : goal.returns-clause-answers
returns-clause-answers g c = answers_many _ _ _ _ (returns-clause-does g c)
