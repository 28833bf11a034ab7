use Rattle.std.proofs.Common.{ℕ}
use Rattle.std.proofs.lemmas.List.Elements.{All-push, All-same}
use Rattle.gcx_model.specs.CondView.{core_cond_tree}
use Rattle.trace_check.specs.Memoing.{IsKnown, IsKnownAt}
use Rattle.trace_check.specs.declared.conditions.Settled.{Settled}
use Rattle.trace_check.specs.declared.memo.Kept.{Kept}
use Rattle.trace_check.proofs.Memos.{kept_none}
use Rattle.trace_check.proofs.memo.Memo.place_or_new.Goals as goal

pub returns-clause-memo : goal.returns-clause-memo
returns-clause-memo c = λ t m.
    let fresh : Kept = record { cond = c.args.cond; known = c.new-known.result } in
    record {
      known = All-same (IsKnown t) _ _ c.in_ok-push.ensures.items (All-push (IsKnown t) c.args.self.now.kept.items fresh m.known
          (kept_none (λ (i j : ℕ) (s : Settled). IsKnownAt t (core_cond_tree fresh.cond.now) i j s) c.new-known.result c.new-known.ensures.empty));
      turns = m.turns;
    }
