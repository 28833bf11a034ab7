use Rattle.std.proofs.Common.{◌≡◌, ◌+◌, suc, length, Some, inl, inr, ap, ◌∙◌, arith}
use Rattle.std.proofs.lemmas.Result.{on_ok_weaker}
use Rattle.gcx_model.specs.Tree.{Node, serial_of, TreeToken, End, grow}
use Rattle.doc_reader.specs.Standing.{said_of}
use Rattle.doc_tree.specs.Rows.{node_at}
use Rattle.trace_check.specs.declared.timed.Timed.{Timed}
use Rattle.trace_check.proofs.Taken.{ended, here_of, started, texted}
use Rattle.trace_check.proofs.timed.Timed.take.Goals as goal
use Rattle.trace_check.proofs.timed.Timed.take.Goals.{in-Start+in_ok-push-in-Start+in_ok-push-in-Start-2+in_ok-push-in-Start-3, in-End+in_ok-push-in-End}

pub returns-clause-taken : goal.returns-clause-taken
returns-clause-taken c = on_ok_weaker c.take.result (λ tree ts h.
    let old : Timed = c.args.self.now in
    let t : TreeToken = said_of c.args.token in
    let p : Node = node_at old.tree.nodes c.in-Some.at in
    let at : old.tree.at ≡ Some p = c.in-Some.ensures.node in
    let time : c.len-now.result + 1 ≡ suc (length ts) = (let a = c.len-now.ensures in let b = old.fed.ok.0 in let n = h.counted in omega (arith, a, b, n)) in
    elim c.match-token-4.branch [
      | in-Start+in_ok-push-in-Start+in_ok-push-in-Start-2+in_ok-push-in-Start-3 w ↦
          (let opened = ap (λ (s : Timed). s.opened.items) w.self-is ∙ w.in_ok-push-in-Start.ensures.items in
          let closed = ap (λ (s : Timed). s.closed.items) w.self-is ∙ w.in_ok-push-in-Start-2.ensures.items in
          let fed = ap (λ (s : Timed). s.fed.items) w.self-is ∙ w.in_ok-push-in-Start-3.ensures.items in
          let grown : c.take.new.self ≡ grow t old.tree = tree ∙ ap (λ (s : Timed). grow t s.tree) w.self-is in
          elim w.in-Start.is [
            | inl s ↦ started ts t old _ h p at grown s.0 (c.len-now.result + 1) (ap said_of s.1) time opened closed fed
            | inr s ↦ texted ts t old _ h p at grown s.0 (c.len-now.result + 1) (ap said_of s.1) time opened closed fed
          ])
      | in-End+in_ok-push-in-End w ↦
          (let opened = ap (λ (s : Timed). s.opened.items) w.self-is in
          let closed = ap (λ (s : Timed). s.closed.items) w.self-is in
          let fed = ap (λ (s : Timed). s.fed.items) w.self-is ∙ w.in_ok-push-in-End.ensures.items in
          let grown : c.take.new.self ≡ grow t old.tree = tree ∙ ap (λ (s : Timed). grow t s.tree) w.self-is in
          let here : c.in-Some.at ≡ serial_of p = here_of ts old h c.in-Some.at c.in-Some.ensures.there in
          let is : t ≡ End = elim w.in-End.is [ inl e ↦ ap said_of e | inr e ↦ ap said_of e ] in
          ended ts t old _ h p at grown c.in-Some.at (c.len-now.result + 1) is time here opened closed fed)
    ]) c.take.ensures.ok
