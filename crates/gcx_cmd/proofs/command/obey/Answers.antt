use Rattle.std.proofs.Common.{List, sym, ap, subst, ◌∙◌}
use Rattle.gcx_words.specs.Within.{IsWithin}
use Rattle.gcx_words.specs.declared.command.Command.TheVariants.{Many}
use Rattle.gcx_words.specs.declared.pairs.Pair.{Pair}
use Rattle.gcx_cmd.specs.Runs.{stored}
use Rattle.gcx_cmd.proofs.Obeyed.{obeyed}
use Rattle.gcx_cmd.proofs.command.obey.Goals as goal

pub returns-in-Run : goal.returns-in-Run
returns-in-Run g c = record { does = obeyed c.args.command.now _ _ _ _ c.in-Run.is c.write_run.ensures.does }

pub returns-in-Whole : goal.returns-in-Whole
returns-in-Whole g c = record {
  does = obeyed c.args.command.now _ _ _ _ c.in-Whole.is
      (c.write_whole.ensures.does (g.E.Sink.seen c.args.err.now) (stored (g.N.NodeStore.rows c.args.nodes.now) (g.N.NodeStore.most_held c.args.nodes.now)));
}

pub returns-in-Explain : goal.returns-in-Explain
returns-in-Explain g c = record {
  does = obeyed c.args.command.now _ _ _ _ c.in-Explain.is
      (c.write_plan.ensures.does (g.E.Sink.seen c.args.err.now) (stored (g.N.NodeStore.rows c.args.nodes.now) (g.N.NodeStore.most_held c.args.nodes.now)));
}

pub returns-in-Peak : goal.returns-in-Peak
returns-in-Peak g c = record { does = obeyed c.args.command.now _ _ _ _ c.in-Peak.is (c.write_peak.ensures.does (g.E.Sink.seen c.args.err.now)) }

pub returns-in-Gen : goal.returns-in-Gen
returns-in-Gen g c = record {
  does = obeyed c.args.command.now _ _ _ _ c.in-Gen.is
      (c.write_made.ensures.does (g.F.Shelf.seen c.args.files.now) (g.E.Sink.seen c.args.err.now)
      (stored (g.N.NodeStore.rows c.args.nodes.now) (g.N.NodeStore.most_held c.args.nodes.now)));
}

pub returns-in-Selfrun : goal.returns-in-Selfrun
returns-in-Selfrun g c = record {
  does = obeyed c.args.command.now _ _ _ _ c.in-Selfrun.is
      (c.write_selfrun.ensures.does (g.F.Shelf.seen c.args.files.now) (g.E.Sink.seen c.args.err.now)
      (stored (g.N.NodeStore.rows c.args.nodes.now) (g.N.NodeStore.most_held c.args.nodes.now)));
}

pub write_many-requires : goal.write_many-requires
write_many-requires g c = record { within = subst IsWithin (c.in-Many.is ∙ ap (λ (ps : List Pair). Many c.in-Many.document ps) (sym c.items.ensures)) c.requires.within }

pub returns-in-Many : goal.returns-in-Many
returns-in-Many g c = record {
  does = obeyed c.args.command.now _ _ _ _ (c.in-Many.is ∙ ap (λ (ps : List Pair). Many c.in-Many.document ps) (sym c.items.ensures))
      (c.write_many.ensures.does (g.O.Sink.seen c.args.out.now) (g.E.Sink.seen c.args.err.now)
      (stored (g.N.NodeStore.rows c.args.nodes.now) (g.N.NodeStore.most_held c.args.nodes.now)));
}

pub returns-in-Check : goal.returns-in-Check
returns-in-Check g c = record {
  does = obeyed c.args.command.now _ _ _ _ c.in-Check.is
      (c.write_check.ensures.does (g.E.Sink.seen c.args.err.now) (stored (g.N.NodeStore.rows c.args.nodes.now) (g.N.NodeStore.most_held c.args.nodes.now)));
}
