use Rattle.std.proofs.Common.{rules, ap, ◌≡◌, ◌++◌}
use Rattle.doc_tokens.specs.Tokens.{Queue}
use Rattle.doc_tokens.proofs.Keeping.{text_kept, text_queue}
use Rattle.doc_tokens.proofs.tokens.Tokens.push_str.Goals as goal

pub invariant_of-self-2 : goal.invariant_of-self-2
invariant_of-self-2 c =
    let s = c.self.inside in
    let new : c.extend_from_slice.new.self.items ≡ s.bytes.items ++ c.args.text.now = search rules in
    text_kept s.bytes.items c.extend_from_slice.new.self.items c.args.text.now s.lent.items s.base s.start s.taken s.whole c.self.invariant c.utf8.text new

pub returns-clause-ok : goal.returns-clause-ok
returns-clause-ok c =
    let s = c.self.inside in
    let new : c.extend_from_slice.new.self.items ≡ s.bytes.items ++ c.args.text.now = search rules in
    text_queue s.bytes.items c.extend_from_slice.new.self.items c.args.text.now s.lent.items s.base s.start s.taken s.whole c.args.self.now c.self.invariant c.utf8.text new c.self.view_is

pub returns-clause-tokens : goal.returns-clause-tokens
returns-clause-tokens c =
    let s = c.self.inside in
    let new : c.extend_from_slice.new.self.items ≡ s.bytes.items ++ c.args.text.now = search rules in
    ap (λ (q : Queue). q.tokens) (text_queue s.bytes.items c.extend_from_slice.new.self.items c.args.text.now s.lent.items s.base s.start s.taken s.whole c.args.self.now c.self.invariant c.utf8.text new c.self.view_is)
