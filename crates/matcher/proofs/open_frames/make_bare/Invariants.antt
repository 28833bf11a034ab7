use Rattle.std.proofs.Common.{◌≡◌, length}
use Rattle.matcher.specs.Bare.{with_bare}
use Rattle.matcher.proofs.open_frames.make_bare.Given as goal

abbrev pub invariant-loop-node : goal.invariant-loop-node
invariant-loop-node l = record {
  many : length l.made ≡ l._node;
  same : with_bare l.made l.count ≡ with_bare l.fn.made l.count;
}
