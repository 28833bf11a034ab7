use Rattle.std.proofs.Common.{◌++◌, List, string_bytes, ap, ◌∙◌}
use Rattle.std.specs.Fmt.{decimal}
use Rattle.gcx_base.specs.declared.steps.Step.{Step}
use Rattle.gcx_model.specs.ItemView.{role_kind}
use Rattle.xq_normal.specs.ConditionText.{steps_text}
use Rattle.signoff_place.specs.Explained.{kind_text}
use Rattle.signoff_place.proofs.Texts.{off_put}
use Rattle.signoff_place.proofs.lines.put_off.Goals as goal

pub returns : goal.returns
returns c =
    off_put (string_bytes c.args.out.now) (string_bytes c.push_str.new.self) (string_bytes c.put_number.new.out) (string_bytes c.push_str-2.new.self) (string_bytes c.put_number-2.new.out)
    (string_bytes c.push_str-3.new.self) (string_bytes c.put_steps.new.out) (string_bytes c.push_str-4.new.self) (string_bytes c.put_steps-2.new.out) (string_bytes c.push_str-5.new.self) (string_bytes c.push_str-6.new.self)
    (decimal c.args.off.now.base.0) (decimal c.args.off.now.role.0) (steps_text c.args.off.now.rel) (steps_text c.args.off.now.tail) (kind_text (role_kind c.args.off.now.kind))
    c.in_ok-push_str.ensures.bytes c.in_ok-put_number.ensures c.in_ok-push_str-2.ensures.bytes c.in_ok-put_number-2.ensures c.in_ok-push_str-3.ensures.bytes
    (c.in_ok-put_steps.ensures ∙ ap (λ (ss : List Step). string_bytes c.push_str-3.new.self ++ steps_text ss) c.items.ensures) c.in_ok-push_str-4.ensures.bytes
    (c.in_ok-put_steps-2.ensures ∙ ap (λ (ss : List Step). string_bytes c.push_str-4.new.self ++ steps_text ss) c.items-2.ensures) c.in_ok-push_str-5.ensures.bytes
    (c.in_ok-push_str-6.ensures.bytes ∙ ap (λ t. string_bytes c.push_str-5.new.self ++ t) c.kind_text.ensures)
