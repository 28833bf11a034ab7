use Rattle.std.proofs.Common.{◌≡◌, ◌++◌, string_bytes, sym, ap, ◌∙◌, append_assoc}
use Rattle.std.specs.Str.{chars, encode_utf8_all}
use Rattle.std.proofs.lemmas.Iterator.{YieldsList-from_chars}
use Rattle.std.proofs.lemmas.Iterator.Consumers.{YieldsList-end}
use Rattle.xq_print.specs.Literals.{quoted}
use Rattle.xq_print.proofs.Quoting.{quotes, quotes_more, same_items}
use Rattle.xq_print.proofs.literal.put_chars.Goals as goal

pub loop-c-preserved : goal.loop-c-preserved
loop-c-preserved c =
    c.in_ok-put_quoted.ensures
    ∙ (ap (λ x. x ++ encode_utf8_all (quoted c.in-Some.c)) c.loop-c.invariant
    ∙ (append_assoc (string_bytes c.args.out.now) (quotes c.loop-c.yielded) (encode_utf8_all (quoted c.in-Some.c))
    ∙ ap (λ x. string_bytes c.args.out.now ++ x) (sym (quotes_more c.loop-c.yielded c.in-Some.c))))

pub returns : goal.returns
returns c =
    let all = YieldsList-end (YieldsList-from_chars c.args.text.now c.utf8.text cc) c.loop-c.yielded _ c.loop-c.yielded_by _ _ c.in-None.is c.next.ensures.steps in
    let same : c.loop-c.yielded ≡ chars c.args.text.now = sym (same_items c.loop-c.yielded) ∙ all.0 in
    c.loop-c.invariant ∙ ap (λ x. string_bytes c.args.out.now ++ quotes x) same
