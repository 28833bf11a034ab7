use Rattle.std.proofs.Common.{string_bytes}
use Rattle.xq_print.proofs.Digits.{point_put, nothing_put}
use Rattle.xq_print.proofs.literal.put_fraction.Goals as goal

pub returns-in_ok-put_places : goal.returns-in_ok-put_places
returns-in_ok-put_places c =
    point_put (string_bytes c.args.out.now) (string_bytes c.push_str.new.self) (string_bytes c.put_places.new.out) c.args.fraction c.if-fraction-gt0.true c.requires c.in_ok-push_str.ensures.bytes c.in_ok-put_places.ensures

pub returns-else-fraction-gt0 : goal.returns-else-fraction-gt0
returns-else-fraction-gt0 c = nothing_put (string_bytes c.args.out.now) c.args.fraction c.if-fraction-gt0.false
