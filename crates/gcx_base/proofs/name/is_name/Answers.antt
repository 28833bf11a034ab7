use Rattle.std.proofs.Common.{rules, ◌≡◌, sym, ap, ◌∙◌}
use Rattle.std.specs.Prelude.{IsUtf8}
use Rattle.std.specs.Str.{chars}
use Rattle.gcx_base.specs.Name.{is_name}
use Rattle.gcx_base.proofs.Names.{chars_name, chars_no_name, name_text}
use Rattle.gcx_base.proofs.name.is_name.Goals as goal

pub returns-in-Ok-clause-yes : goal.returns-in-Ok-clause-yes
returns-in-Ok-clause-yes c h =
    let same : c.in-Ok.text.now ≡ c.args.bytes.now = search rules in
    let utf8 : IsUtf8 c.args.bytes.now = search rules in
    chars_name c.args.bytes.now utf8 (ap (λ bs. is_name (chars bs)) (sym same) ∙ sym c.spells_name.ensures ∙ h)

pub returns-in-Ok-clause-no : goal.returns-in-Ok-clause-no
returns-in-Ok-clause-no c h =
    let same : c.in-Ok.text.now ≡ c.args.bytes.now = search rules in
    chars_no_name c.args.bytes.now (ap (λ bs. is_name (chars bs)) (sym same) ∙ sym c.spells_name.ensures ∙ h)

pub returns-in-Err-clause-no : goal.returns-in-Err-clause-no
returns-in-Err-clause-no c e h = search (rules, name_text c.args.bytes.now h)
