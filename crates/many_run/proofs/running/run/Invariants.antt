use Rattle.std.proofs.Common.{◌≡◌, ◌-◌, length}
use Rattle.gcx_base.specs.declared.limits.Limits.{Limits}
use Rattle.many_run.specs.Many.{ManyStart, plans_of}
use Rattle.many_run.specs.Runs.{ManyBetween, ManyGoOnFrom, MayWrite}
use Rattle.many_run.proofs.running.run.Given as goal

abbrev pub invariant-reading : goal.invariant-reading
invariant-reading g l = record {
  between : (lim : Limits) → ManyStart g.C.Conds.stands (plans_of l.fn.many) lim l.fn.many → ManyBetween g.C.Conds.stands lim l.many l.doc l.outs (g.F.Shelf.seen l.fn.files) (g.F.Shelf.seen l.files);
  stands : (lim : Limits) → ManyStart g.C.Conds.stands (plans_of l.fn.many) lim l.fn.many → ManyGoOnFrom g.C.Conds.stands lim l.many;
  may : MayWrite l.many (g.F.Shelf.seen l.files) l.doc l.outs;
  plans : plans_of l.many ≡ plans_of l.fn.many;
  size : length l.buf ≡ 65536;
}

abbrev pub decreases-reading : goal.decreases-reading
decreases-reading g l = 1099511627777 - l.many.bytes
