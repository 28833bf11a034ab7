use Rattle.std.proofs.Common.{◌++◌, string_bytes, arith}
use Rattle.xq_print.specs.Literals.{places, without_zeros}
use Rattle.xq_print.proofs.Digits.{IsPlace, place_at, next_place, last_place}
use Rattle.xq_print.proofs.literal.put_places.Goals as goal

pub nonzero_div-rest : goal.nonzero_div-rest
nonzero_div-rest c = (place_at c.loop-rest.left c.loop-rest.rest c.pow-unit.result c.loop-rest-test.true c.loop-rest.invariant.small c.pow-unit.ensures).positive

pub digit_char-requires : goal.digit_char-requires
digit_char-requires c = (place_at c.loop-rest.left c.loop-rest.rest c.pow-unit.result c.loop-rest-test.true c.loop-rest.invariant.small c.pow-unit.ensures).digit

pub nonzero_rem-rest : goal.nonzero_rem-rest
nonzero_rem-rest c = (place_at c.loop-rest.left c.loop-rest.rest c.pow-unit.result c.loop-rest-test.true c.loop-rest.invariant.small c.pow-unit.ensures).positive

pub loop-rest-preserved : goal.loop-rest-preserved
loop-rest-preserved c =
    let place : IsPlace c.loop-rest.left c.loop-rest.rest c.pow-unit.result =
    place_at c.loop-rest.left c.loop-rest.rest c.pow-unit.result c.loop-rest-test.true c.loop-rest.invariant.small c.pow-unit.ensures in
    record {
      small = place.below;
      few = omega (arith, c.loop-rest.invariant.few);
      put = next_place (string_bytes c.loop-rest.out) (string_bytes c.push.new.self) (string_bytes c.args.out.now ++ without_zeros (places 18 c.args.fraction))
          c.loop-rest.left c.loop-rest.rest c.pow-unit.result c.digit_char.result place c.digit_char.ensures c.in_ok-push.ensures.bytes c.loop-rest.invariant.put;
    }

pub returns : goal.returns
returns c = last_place (string_bytes c.loop-rest.out) (string_bytes c.args.out.now ++ without_zeros (places 18 c.args.fraction)) c.loop-rest.left c.loop-rest.rest c.loop-rest-test.false c.loop-rest.invariant.put
