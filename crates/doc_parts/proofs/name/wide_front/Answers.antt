use Rattle.std.proofs.Common.{rules, ◌≡◌, ◌++◌, ◌+◌, length, true, [], sym, ap, ◌∙◌, length-append, append_assoc}
use Rattle.std.specs.Char.{IsScalar, encode_utf8}
use Rattle.std.proofs.lemmas.Str.{IsUtf8-nil}
use Rattle.gcx_base.specs.Characters.{is_part_char}
use Rattle.doc_parts.proofs.Fronts.{none_all, more_utf8, more_all, part_front_is}
use Rattle.doc_parts.proofs.name.wide_front.Goals as goal

pub loop-at-init : goal.loop-at-init
loop-at-init c = ([], IsUtf8-nil, none_all, search rules, search rules)

pub returns-then-not-is_name_char : goal.returns-then-not-is_name_char
returns-then-not-is_name_char c =
    let inv = c.loop-at.invariant in
    let at_is : length inv.0 ≡ c.in-Some.at = search rules in
    part_front_is c.args.text.now inv.0 _ c.in-Some.at c.utf8.text inv.1 inv.2 inv.3 at_is

pub loop-at-preserved : goal.loop-at-preserved
loop-at-preserved c =
    let inv = c.loop-at.invariant in
    let rest_is : c.loop-at.at-iterator.rest.now ≡ encode_utf8 c.in-Some.c ++ c.next.new.self.rest.now = search rules in
    let at_is : c.next.new.self.at ≡ c.loop-at.at-iterator.at + length (encode_utf8 c.in-Some.c) = search rules in
    let is : is_part_char c.in-Some.c ≡ true = search rules in
    let scalar : IsScalar c.in-Some.c = search rules in (
      inv.0 ++ encode_utf8 c.in-Some.c,
      more_utf8 inv.0 c.in-Some.c inv.1 scalar,
      more_all inv.0 c.in-Some.c inv.1 scalar inv.2 is,
      inv.3 ∙ ap (λ r. inv.0 ++ r) rest_is ∙ sym (append_assoc inv.0 (encode_utf8 c.in-Some.c) c.next.new.self.rest.now),
      length-append _ _ ∙ ap (λ n. n + length (encode_utf8 c.in-Some.c)) inv.4 ∙ sym at_is,
    )
