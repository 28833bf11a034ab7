use Rattle.std.proofs.Common.{rules}
use Rattle.gcx_io.proofs.Moved.{front_moved}
use Rattle.gcx_io.proofs.mem_source.MemSourceSource.read.Goals as goal

pub returns-clause-reads : goal.returns-clause-reads
returns-clause-reads c = rw (← c.self.view_is) (record {
  calls = search rules;
  left = front_moved c.self.inside.bytes.items c.args.buf.now _ c.self.inside.at _ c.self.inside.most c.self.invariant.1 c.requires
      (rw c.deref.ensures.value at c.move_front-count.ensures.count) (rw c.deref.ensures.value at c.move_front-count.ensures.moved);
  faults = search rules;
  calm = search rules;
})
