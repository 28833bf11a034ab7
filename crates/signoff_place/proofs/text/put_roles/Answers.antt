use Rattle.std.proofs.Common.{string_bytes, arith, refl}
use Rattle.signoff_place.proofs.Texts.{roles_more}
use Rattle.signoff_place.proofs.text.put_roles.Goals as goal

pub loop-i-preserved : goal.loop-i-preserved
loop-i-preserved c =
    roles_more (string_bytes c.args.out.now) (string_bytes c.loop-i.out) (string_bytes c.put_role.new.out) c.args.rows.now c.loop-i.i c.loop-i.i c.index-rows-i.result
    (omega arith) c.index-rows-i.is refl c.loop-i.invariant c.in_ok-put_role.ensures
