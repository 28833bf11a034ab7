use Rattle.std.proofs.Common.{rules, ◌≡◌, ◌∙◌, length, take, ap}
use Rattle.doc_reader.proofs.reader.put_all.Goals as goal

pub returns-in-Err-clause-err : goal.returns-in-Err-clause-err
returns-in-Err-clause-err c =
    let long : c.len-before.result ≡ length c.args.waits.now.items = search rules in
    c.truncate.ensures.items ∙ ap (λ n. take n c.put_some.new.waits.items) long ∙ c.in-Err.ensures.err
