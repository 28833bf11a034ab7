use Rattle.std.proofs.Common.{rules, ◌≡◌, ◌++◌, sym, ◌∙◌}
use Rattle.std.specs.Prelude.{IsUtf8}
use Rattle.std.specs.Char.{encode_utf8}
use Rattle.gcx_base.proofs.Names.{first_of}
use Rattle.gcx_base.proofs.name.begins_name.Goals as goal

pub returns-in-Some : goal.returns-in-Some
returns-in-Some c =
    let utf8 : IsUtf8 c.args.text.now = search rules in
    let parts : c.args.text.now ≡ encode_utf8 c.in-Some.first ++ c.next.new.self.rest.now = search rules in
    c.is_name_start.ensures ∙ sym (first_of c.args.text.now _ c.in-Some.first utf8 parts)
