use Rattle.std.proofs.Common.{string_bytes}
use Rattle.std.specs.Fmt.{decimal}
use Rattle.xq_normal.specs.ConditionText.{step_text}
use Rattle.signoff_place.specs.Explained.{reach_text}
use Rattle.signoff_place.proofs.Texts.{var_put}
use Rattle.signoff_place.proofs.lines.put_var.Goals as goal

pub returns : goal.returns
returns c =
    var_put (string_bytes c.args.out.now) (string_bytes c.push_str.new.self) (string_bytes c.put_number.new.out) (string_bytes c.push_str-2.new.self) (string_bytes c.put_number-2.new.out)
    (string_bytes c.push_str-3.new.self) (string_bytes c.put_step.new.out) (string_bytes c.push_str-4.new.self) (string_bytes c.put_reach.new.out) (string_bytes c.push_str-5.new.self)
    (decimal c.args.number) (decimal c.args.row.now.parent.0) (step_text c.args.row.now.step) (reach_text c.args.straight c.args.fsa.0)
    c.in_ok-push_str.ensures.bytes c.in_ok-put_number.ensures c.in_ok-push_str-2.ensures.bytes c.in_ok-put_number-2.ensures c.in_ok-push_str-3.ensures.bytes
    c.in_ok-put_step.ensures c.in_ok-push_str-4.ensures.bytes c.in_ok-put_reach.ensures c.in_ok-push_str-5.ensures.bytes
