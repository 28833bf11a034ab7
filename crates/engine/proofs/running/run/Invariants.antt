use Rattle.std.proofs.Common.{◌≡◌, ◌-◌, ℕ, length}
use Rattle.gcx_base.specs.declared.limits.Limits.{Limits}
use Rattle.engine.specs.Engine.{MostIs, Starts}
use Rattle.engine.specs.Runs.{Between, GoesOnFrom, KeepsPorts, SamePlan, TellsBy, Traced, sinks}
use Rattle.engine.proofs.running.run.Given as goal

abbrev pub invariant-reading : goal.invariant-reading
invariant-reading g l = record {
  between : (lim : Limits) (t : Traced) → Starts g.C.Conds.stands lim l.fn.engine → TellsBy t l.fn.engine
      → Between g.C.Conds.stands lim t l.engine (g.D.Source.seen l.fn.doc) (g.D.Source.seen l.doc)
      (sinks (g.O.Sink.seen l.fn.out) (g.E.Sink.seen l.fn.err)) (sinks (g.O.Sink.seen l.out) (g.E.Sink.seen l.err));
  stands : (lim : Limits) → Starts g.C.Conds.stands lim l.fn.engine → GoesOnFrom g.C.Conds.stands lim l.engine;
  most : (lent : ℕ) → MostIs lent l.fn.engine → MostIs lent l.engine;
  size : length l.buf ≡ 65536;
  same : SamePlan l.fn.engine l.engine;
  ports : KeepsPorts (g.D.Source.keeps l.fn.doc l.doc) (g.D.Source.faults l.fn.doc) (g.D.Source.faults l.doc) (g.O.Sink.faults l.fn.out) (g.O.Sink.faults l.out)
      (g.E.Sink.faults l.fn.err) (g.E.Sink.faults l.err);
}

abbrev pub decreases-reading : goal.decreases-reading
decreases-reading g l = 1099511627777 - l.engine.bytes
