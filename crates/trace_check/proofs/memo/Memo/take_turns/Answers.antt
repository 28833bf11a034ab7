use Rattle.std.proofs.Common.{◌≡◌, ℕ, [], ◌∷◌, map, sym, ◌∙◌, subst}
use Rattle.gcx_base.specs.declared.steps.Step.{Step}
use Rattle.gcx_model.specs.Paths.{matches}
use Rattle.gcx_model.specs.Tree.{serial_of}
use Rattle.doc_tree.specs.Rows.{node_at}
use Rattle.trace_check.specs.Memoing.{AreTurns}
use Rattle.trace_check.specs.declared.memo.Turns.{Turns}
use Rattle.trace_check.proofs.Memos.{kept_less}
use Rattle.trace_check.proofs.memo.Memo.take_turns.Goals as goal

pub returns-then-is_same-clause-turns : goal.returns-then-is_same-clause-turns
returns-then-is_same-clause-turns c = λ t m.
    subst (λ (s : Step). c.in_ok-turns.turns.nodes.items ≡ map serial_of (matches t.tree (serial_of (node_at t.tree.nodes c.args.from)) (s ∷ [])))
    (c.is_same.ensures c.if-is_same.true) (m.turns c.args.var.0 c.args.from c.in_ok-turns.turns (sym c.remove.ensures.value ∙ c.in_ok-turns.was))

pub returns-then-is_same-clause-memo : goal.returns-then-is_same-clause-memo
returns-then-is_same-clause-memo c = λ t m. record {
  known = m.known;
  turns = kept_less (λ (x from : ℕ) (k : Turns). AreTurns t from k) c.args.self.now.turns c.remove.new.self (c.args.var.0, c.args.from) c.remove.ensures.updates.0 m.turns;
}

pub returns-else-is_same-clause-memo : goal.returns-else-is_same-clause-memo
returns-else-is_same-clause-memo c = λ t m. record {
  known = m.known;
  turns = kept_less (λ (x from : ℕ) (k : Turns). AreTurns t from k) c.args.self.now.turns c.remove.new.self (c.args.var.0, c.args.from) c.remove.ensures.updates.0 m.turns;
}
