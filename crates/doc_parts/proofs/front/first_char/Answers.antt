use Rattle.std.proofs.Common.{rules, ◌≡◌, ◌++◌}
use Rattle.std.specs.Char.{encode_utf8}
use Rattle.doc_parts.proofs.Reading.{first_is}
use Rattle.doc_parts.proofs.front.first_char.Goals as goal

pub returns : goal.returns
returns c =
    let is : c.args.text.now ≡ encode_utf8 c.in_ok-c.c ++ c.as_str.result.now = search rules in
    first_is c.in_ok-c.c c.as_str.result.now c.args.text.now c.utf8.text is
