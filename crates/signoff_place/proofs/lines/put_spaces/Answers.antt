use Rattle.std.proofs.Common.{◌+◌, string_bytes, arith}
use Rattle.signoff_place.proofs.Texts.{spaces_more}
use Rattle.signoff_place.proofs.lines.put_spaces.Goals as goal

pub loop-preserved : goal.loop-preserved
loop-preserved c = spaces_more (string_bytes c.args.out.now) (string_bytes c.loop.out) (string_bytes c.push_str.new.self) c.loop.counter (c.loop.counter + 1) c.loop.invariant c.in_ok-push_str.ensures.bytes (omega arith)
