use Rattle.std.proofs.Common.{rules, ap, ◌∙◌}
use Rattle.doc_tokens.specs.Tokens.{Queue}
use Rattle.doc_tokens.proofs.Keeping.{attributed}
use Rattle.doc_tokens.proofs.tokens.Tokens.add_attribute.Goals as goal

pub invariant_of-self-2 : goal.invariant_of-self-2
invariant_of-self-2 c =
    let s = c.self.inside in
    (attributed s.bytes.items s.lent.items c.reserve.new.self.items c.push_reserved.new.self.items c.put_text.new.lent.items c.push_reserved-2.new.self.items s.base s.start s.taken s.whole c.args.self.now c.args.name.now c.extend_from_slice.new.self.items c.cut_blank-text.result c.len-first.result c.len-end.result c.self.invariant (c.self.view_is ∙ c.cut_blank-text.ensures.run) c.cut_blank-text.ensures.text (search rules) (search rules) (search rules) c.requires c.reserve.ensures.items c.push_reserved.ensures.items c.put_text.ensures.items c.push_reserved-2.ensures.items).kept

pub returns-clause-ok : goal.returns-clause-ok
returns-clause-ok c =
    let s = c.self.inside in
    (attributed s.bytes.items s.lent.items c.reserve.new.self.items c.push_reserved.new.self.items c.put_text.new.lent.items c.push_reserved-2.new.self.items s.base s.start s.taken s.whole c.args.self.now c.args.name.now c.extend_from_slice.new.self.items c.cut_blank-text.result c.len-first.result c.len-end.result c.self.invariant (c.self.view_is ∙ c.cut_blank-text.ensures.run) c.cut_blank-text.ensures.text (search rules) (search rules) (search rules) c.requires c.reserve.ensures.items c.push_reserved.ensures.items c.put_text.ensures.items c.push_reserved-2.ensures.items).queue

pub returns-clause-tokens : goal.returns-clause-tokens
returns-clause-tokens c =
    let s = c.self.inside in
    ap (λ (q : Queue). q.tokens) (attributed s.bytes.items s.lent.items c.reserve.new.self.items c.push_reserved.new.self.items c.put_text.new.lent.items c.push_reserved-2.new.self.items s.base s.start s.taken s.whole c.args.self.now c.args.name.now c.extend_from_slice.new.self.items c.cut_blank-text.result c.len-first.result c.len-end.result c.self.invariant (c.self.view_is ∙ c.cut_blank-text.ensures.run) c.cut_blank-text.ensures.text (search rules) (search rules) (search rules) c.requires c.reserve.ensures.items c.push_reserved.ensures.items c.put_text.ensures.items c.push_reserved-2.ensures.items).queue
