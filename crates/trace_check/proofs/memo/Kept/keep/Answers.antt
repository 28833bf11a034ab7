use Rattle.std.proofs.Common.{ℕ}
use Rattle.gcx_model.specs.CondView.{core_cond_tree}
use Rattle.trace_check.specs.Memoing.{IsKnownAt}
use Rattle.trace_check.specs.declared.conditions.Settled.{Settled}
use Rattle.trace_check.proofs.Memos.{kept_more}
use Rattle.trace_check.proofs.memo.Kept.keep.Goals as goal

pub returns-clause-known : goal.returns-clause-known
returns-clause-known c = λ t h k.
    kept_more (λ (i j : ℕ) (s : Settled). IsKnownAt t (core_cond_tree c.args.self.now.cond.now) i j s)
    c.args.self.now.known c.insert.new.self c.args.left c.args.right c.args.known c.in_ok-insert.ensures.updates.0 h k
