use Rattle.std.proofs.Common.{rules}
use Rattle.std.proofs.lemmas.List.Sorted.{IsPartitionPoint-from_clause}
use Rattle.pull_eval.specs.declared.turns.Entry.{Entry}
use Rattle.pull_eval.specs.Turns.{is_text_before}
use Rattle.pull_eval.proofs.TurnsByText.{front_is, parted}
use Rattle.pull_eval.proofs.turns.number_before.Goals as goal

pub returns : goal.returns
returns c = λ up.
    front_is c.args.entries.now c.args.value.now c.partition_point.result
    (IsPartitionPoint-from_clause (λ (e : Entry). is_text_before e.text c.args.value.now) _ _ c.partition_point.ensures.partitioned (parted c.args.entries.now up c.args.value.now) (λ a r q k. search rules))
