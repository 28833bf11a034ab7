use Rattle.std.proofs.Common.{◌+◌, false, get_or, string_bytes, refl, arith}
use Rattle.gcx_base.specs.declared.ids.VarId.{VarId}
use Rattle.signoff_place.proofs.Texts.{vars_more}
use Rattle.signoff_place.proofs.text.put_vars.Goals as goal

pub loop-i-preserved : goal.loop-i-preserved
loop-i-preserved c =
    let none : VarId = record { 0 = 0 } in
    vars_more 1 (c.loop-i.i + 1) (string_bytes c.args.out.now) (string_bytes c.loop-i.out) (string_bytes c.put_var.new.out) c.args.rows.now c.args.straight.now c.args.fsa.now c.loop-i.i c.index-rows-i.result
    (get_or c.args.straight.now c.loop-i.i false) false (get_or c.args.fsa.now c.loop-i.i none) none
    (omega arith) c.requires.straight c.requires.fsa c.index-rows-i.is refl refl (omega arith) c.loop-i.invariant c.in_ok-put_var.ensures
