use Rattle.std.proofs.Common.{rules, ap, sym, subst, inl, ◌∙◌, ◌≤◌, ◌<◌, ◌+◌, List, length, drop, map, take, arith}
use Rattle.gcx_model.specs.Tree.{TreeToken}
use Rattle.doc_tokens.specs.Parts.{lent_token}
use Rattle.doc_tokens.specs.Tokens.{Queue}
use Rattle.doc_tokens.proofs.Keeping.{few_left, tokens_left, all_left, queue_by}
use Rattle.doc_tokens.proofs.tokens.Tokens.take.Goals as goal

pub overflow_add-taken : goal.overflow_add-taken
overflow_add-taken c =
    let s = c.self.inside in
    let few = subst (λ (ts : List TreeToken). c.args.count ≤ length ts) (sym (ap (λ (q : Queue). q.tokens) c.self.view_is)) c.requires in
    let left = few_left s.bytes.items s.lent.items s.taken s.whole c.args.count c.self.invariant.enough c.self.invariant.few few in
    omega (arith, left, c.self.ranges)

pub invariant_of-self : goal.invariant_of-self
invariant_of-self c =
    let s = c.self.inside in
    let k = c.self.invariant in
    let less : s.taken + c.args.count < s.whole = search (rules, arith) in
    record {
      based = k.based;
      within = k.within;
      utf8 = k.utf8;
      few = omega arith;
      enough = k.enough;
      parts = k.parts;
      behind = k.behind;
      full_whole = k.full_whole;
      full = k.full;
      settled = inl less;
    }

pub returns-then-taken-self : goal.returns-then-taken-self
returns-then-taken-self c =
    let s = c.self.inside in
    let q = c.args.self.now in
    let tokens = ap (λ (q : Queue). q.tokens) c.self.view_is in
    queue_by (drop s.start s.bytes.items) q.run (map (lent_token s.bytes.items) (drop (s.taken + c.args.count) (take s.whole s.lent.items))) (drop c.args.count q.tokens) (map (lent_token s.bytes.items) (drop s.whole s.lent.items)) q.pending
    (ap (λ (q : Queue). q.run) c.self.view_is)
    (tokens_left s.bytes.items s.lent.items s.taken s.whole c.args.count ∙ ap (drop c.args.count) tokens)
    (ap (λ (q : Queue). q.pending) c.self.view_is)

pub returns-else-taken-self : goal.returns-else-taken-self
returns-else-taken-self c =
    let s = c.self.inside in
    let q = c.args.self.now in
    let all : s.whole ≤ s.taken + c.args.count = search (rules, arith) in
    c.settle.ensures ∙ ap (λ (ts : List TreeToken). record q { tokens = ts }) (sym (all_left s.bytes.items s.lent.items s.start s.taken s.whole c.args.count q c.self.invariant.enough all c.self.view_is))
