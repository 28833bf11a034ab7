use Rattle.std.proofs.Common.{rules, sym, ◌∙◌, ◌≡◌, true}
use Rattle.gcx_base.specs.Characters.{is_start_char}
use Rattle.doc_parts.specs.Reading.{IsFirstChar}
use Rattle.doc_parts.proofs.Fronts.{name_none, name_is}
use Rattle.doc_parts.proofs.name.name_front.Goals as goal

pub returns-in-Some : goal.returns-in-Some
returns-in-Some c =
    let first : IsFirstChar c.in-Some.c c.in-Some.field-0-1.now c.args.text.now = search rules in
    let is : is_start_char c.in-Some.c ≡ true = sym c.is_first.ensures ∙ c.if-is_first.true in
    name_is c.args.text.now c.in-Some.field-0-1.now c.in-Some.c c.part_front.result c.utf8.text first is c.part_front.ensures

pub returns-in_default : goal.returns-in_default
returns-in_default c = name_none c.args.text.now c.utf8.text
