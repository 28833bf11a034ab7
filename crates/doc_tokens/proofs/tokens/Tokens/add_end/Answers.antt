use Rattle.std.proofs.Common.{rules, ap, ◌∙◌}
use Rattle.doc_tokens.specs.Tokens.{Queue}
use Rattle.doc_tokens.proofs.Keeping.{ended}
use Rattle.doc_tokens.proofs.tokens.Tokens.add_end.Goals as goal

pub invariant_of-self-2 : goal.invariant_of-self-2
invariant_of-self-2 c =
    let s = c.self.inside in
    (ended s.bytes.items s.lent.items c.reserve.new.self.items c.put_text.new.lent.items c.push_reserved.new.self.items s.base s.start s.taken s.whole c.args.self.now c.cut_blank-text.result c.len-end.result c.self.invariant (c.self.view_is ∙ c.cut_blank-text.ensures.run) c.cut_blank-text.ensures.text (search rules) c.reserve.ensures.items c.put_text.ensures.items c.push_reserved.ensures.items).kept

pub returns-clause-ok : goal.returns-clause-ok
returns-clause-ok c =
    let s = c.self.inside in
    (ended s.bytes.items s.lent.items c.reserve.new.self.items c.put_text.new.lent.items c.push_reserved.new.self.items s.base s.start s.taken s.whole c.args.self.now c.cut_blank-text.result c.len-end.result c.self.invariant (c.self.view_is ∙ c.cut_blank-text.ensures.run) c.cut_blank-text.ensures.text (search rules) c.reserve.ensures.items c.put_text.ensures.items c.push_reserved.ensures.items).queue

pub returns-clause-tokens : goal.returns-clause-tokens
returns-clause-tokens c =
    let s = c.self.inside in
    ap (λ (q : Queue). q.tokens) (ended s.bytes.items s.lent.items c.reserve.new.self.items c.put_text.new.lent.items c.push_reserved.new.self.items s.base s.start s.taken s.whole c.args.self.now c.cut_blank-text.result c.len-end.result c.self.invariant (c.self.view_is ∙ c.cut_blank-text.ensures.run) c.cut_blank-text.ensures.text (search rules) c.reserve.ensures.items c.put_text.ensures.items c.push_reserved.ensures.items).queue
