use Rattle.std.proofs.Common.{rules, ap, ◌∙◌, [], take, not}
use Rattle.gcx_model.specs.Document.{is_blank}
use Rattle.doc_tokens.specs.Kept.{unless_blank}
use Rattle.doc_tokens.specs.Tokens.{Queue}
use Rattle.doc_tokens.proofs.Keeping.{begun}
use Rattle.doc_tokens.proofs.tokens.Tokens.begin_front.Goals as goal

pub invariant_of-self-2 : goal.invariant_of-self-2
invariant_of-self-2 c =
    let s = c.self.inside in
    (begun s.bytes.items s.lent.items c.reserve.new.self.items c.put_text.new.lent.items c.push_reserved.new.self.items s.base s.start s.taken s.whole (record c.args.self.now { pending = [] }) (take c.args.n c.args.bytes.now) c.push_front.new.list.items c.cut_blank-text.result c.len-first.result c.len-end.result c.self.invariant (c.self.view_is ∙ c.cut_blank-text.ensures.run ∙ ap (λ (q : Queue). record q { run = unless_blank q.run }) c.forget_pending.ensures) (c.cut_blank-text.ensures.text ∙ ap (λ (q : Queue). not (is_blank q.run)) c.forget_pending.ensures) (search rules) (search rules) (search rules) c.requires.name c.reserve.ensures.items c.put_text.ensures.items c.push_reserved.ensures.items).kept

pub returns-clause-ok : goal.returns-clause-ok
returns-clause-ok c =
    let s = c.self.inside in
    (begun s.bytes.items s.lent.items c.reserve.new.self.items c.put_text.new.lent.items c.push_reserved.new.self.items s.base s.start s.taken s.whole (record c.args.self.now { pending = [] }) (take c.args.n c.args.bytes.now) c.push_front.new.list.items c.cut_blank-text.result c.len-first.result c.len-end.result c.self.invariant (c.self.view_is ∙ c.cut_blank-text.ensures.run ∙ ap (λ (q : Queue). record q { run = unless_blank q.run }) c.forget_pending.ensures) (c.cut_blank-text.ensures.text ∙ ap (λ (q : Queue). not (is_blank q.run)) c.forget_pending.ensures) (search rules) (search rules) (search rules) c.requires.name c.reserve.ensures.items c.put_text.ensures.items c.push_reserved.ensures.items).queue

pub returns-clause-tokens : goal.returns-clause-tokens
returns-clause-tokens c =
    let s = c.self.inside in
    ap (λ (q : Queue). q.tokens) (begun s.bytes.items s.lent.items c.reserve.new.self.items c.put_text.new.lent.items c.push_reserved.new.self.items s.base s.start s.taken s.whole (record c.args.self.now { pending = [] }) (take c.args.n c.args.bytes.now) c.push_front.new.list.items c.cut_blank-text.result c.len-first.result c.len-end.result c.self.invariant (c.self.view_is ∙ c.cut_blank-text.ensures.run ∙ ap (λ (q : Queue). record q { run = unless_blank q.run }) c.forget_pending.ensures) (c.cut_blank-text.ensures.text ∙ ap (λ (q : Queue). not (is_blank q.run)) c.forget_pending.ensures) (search rules) (search rules) (search rules) c.requires.name c.reserve.ensures.items c.put_text.ensures.items c.push_reserved.ensures.items).queue
