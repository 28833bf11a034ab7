use Rattle.std.proofs.Common.{rules, ap}
use Rattle.doc_tokens.specs.Tokens.{Queue}
use Rattle.doc_tokens.proofs.Keeping.{emptied}
use Rattle.doc_tokens.proofs.tokens.Tokens.add_empty_end.Goals as goal

pub invariant_of-self-2 : goal.invariant_of-self-2
invariant_of-self-2 c =
    let s = c.self.inside in
    (emptied s.bytes.items s.lent.items c.push.new.self.items s.base s.start s.taken s.whole c.args.self.now c.self.invariant c.self.view_is (search rules)).kept

pub returns-clause-ok : goal.returns-clause-ok
returns-clause-ok c =
    let s = c.self.inside in
    (emptied s.bytes.items s.lent.items c.push.new.self.items s.base s.start s.taken s.whole c.args.self.now c.self.invariant c.self.view_is (search rules)).queue

pub returns-clause-tokens : goal.returns-clause-tokens
returns-clause-tokens c =
    let s = c.self.inside in
    ap (λ (q : Queue). q.tokens) (emptied s.bytes.items s.lent.items c.push.new.self.items s.base s.start s.taken s.whole c.args.self.now c.self.invariant c.self.view_is (search rules)).queue
