use Rattle.std.proofs.Common.{List, [], map, arith}
use Rattle.gcx_model.specs.Tree.{TreeToken}
use Rattle.doc_reader.specs.Standing.{said_of}
use Rattle.trace_check.specs.Timing.{HasTaken}
use Rattle.trace_check.proofs.timed.Timed.of.Goals as goal

pub returns : goal.returns
returns c =
    let ts : List TreeToken = map said_of c.args.tokens.items in
    let taken : HasTaken ts c.take_all.new.self = c.in_ok-take_all.ensures.taken [] c.in_ok-timed.ensures.taken in
    record {
      closed = c.in_ok-close.ensures.closed ts record {
        tree_is = taken.tree_is;
        fed_is = taken.fed_is;
        counted = taken.counted;
        opened_is = taken.opened_is;
        closed_is = taken.closed_is;
        opened_long = taken.opened_long;
        closed_long = taken.closed_long;
      };
      told = (let a = c.in_ok-close.ensures.told in let b = c.len.ensures in let k = c.take_all.new.self.fed.ok.0 in let n = taken.counted in omega (arith, a, b, k, n));
    }
