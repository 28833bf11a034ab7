use Rattle.std.proofs.Common.{rules, ap, sym, ◌≡◌, ◌-◌, ◌∙◌, length, length-drop}
use Rattle.doc_tokens.specs.Tokens.{Queue}
use Rattle.doc_tokens.proofs.tokens.Tokens.run_len.Goals as goal

pub returns : goal.returns
returns c =
    let s = c.self.inside in
    let all : c.len-end.result ≡ length s.bytes.items = search rules in
    ap (λ n. n - s.start) all ∙ sym (length-drop s.start s.bytes.items) ∙ ap (λ (q : Queue). length q.run) c.self.view_is
