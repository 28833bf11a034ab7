use Rattle.std.proofs.Common.{rules, ◌≤◌, length, arith}
use Rattle.doc_tokens.proofs.Keeping.{none_pending}
use Rattle.doc_tokens.proofs.tokens.Tokens.forget_pending.Goals as goal

pub returns-else-self-len : goal.returns-else-self-len
returns-else-self-len c =
    let s = c.self.inside in
    let few : length s.lent.items ≤ s.whole = search (rules, arith) in
    none_pending s.bytes.items s.lent.items s.start s.taken s.whole c.args.self.now few c.self.view_is
