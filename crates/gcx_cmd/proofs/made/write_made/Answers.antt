use Rattle.std.proofs.Common.{rules}
use Rattle.gcx_cmd.proofs.Explained.{made_all, made_front, made_part}
use Rattle.gcx_cmd.proofs.made.write_made.Goals as goal

pub returns-in-Ok : goal.returns-in-Ok
returns-in-Ok g c = record {
  does = (λ files err store.
      made_all c.args.seed c.args.count files (g.O.Sink.seen c.args.out.now) (g.O.Sink.seen c.write_document.new.out) err store (search rules) c.in-Ok.ensures.takes);
}

pub returns-in-Err-Failed : goal.returns-in-Err-Failed
returns-in-Err-Failed g c = record {
  does = (λ files err store.
      made_part c.args.seed c.args.count files (g.O.Sink.seen c.args.out.now) (g.O.Sink.seen c.write_document.new.out) err store (search rules) (c.in-Err-Failed.ensures.owes (search rules)));
}

pub returns-in-Err-Memory : goal.returns-in-Err-Memory
returns-in-Err-Memory g c = record {
  does = (λ files err store.
      made_front c.args.seed c.args.count files (g.O.Sink.seen c.args.out.now) (g.O.Sink.seen c.write_document.new.out) err store (search rules) (c.in-Err-Memory.ensures.front (search rules)));
}
