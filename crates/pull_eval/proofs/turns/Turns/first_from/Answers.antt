use Rattle.std.proofs.Common.{◌≡◌, ◌<◌, ◌≤◌, true, false, List, length, refl, sym, subst, arith, rules}
use Rattle.std.specs.List.Sorted.{IsPartitionPoint}
use Rattle.std.proofs.lemmas.List.Sorted.{IsPartitionedBy-ltb, IsPartitionPoint-from_clause}
use Rattle.cond_eval.specs.declared.sets.Member.{Member}
use Rattle.pull_eval.specs.Turns.{AreBySerial}
use Rattle.pull_eval.proofs.TurnsChosen.{early, is_early, late, leap_over, leap_to}
use Rattle.pull_eval.proofs.turns.Turns.first_from.Goals as goal

pub returns-then-at-len : goal.returns-then-at-len
returns-then-at-len c rows P a b chosen =
    let from = c.args.serial.0 in
    let n = c.partition_point-at.result in
    let hs = c.args.self.now.hits.items in
    let up = subst (λ (z : List Member). AreBySerial z) (sym c.deref.ensures.value) chosen.by_serial in
    let parted = IsPartitionPoint-from_clause (is_early from) _ _ c.partition_point-at.ensures.partitioned (IsPartitionedBy-ltb (λ (h : Member). h.serial) _ from up) (λ x r q k. search rules) in
    let point = subst (λ (z : List Member). IsPartitionPoint (λ (h : Member). is_early from h ≡ true) (λ (h : Member). is_early from h ≡ false) z n) c.deref.ensures.value parted in
    let l : n < length hs = let t = c.if-at-len.true in let e = c.len.ensures in omega arith in
    leap_to rows P c.args.self.now a b chosen from n (early hs from n point) c.index.result.now l c.index.ensures (late hs from n point c.index.result.now l c.index.ensures) _ refl

pub returns-else-at-len : goal.returns-else-at-len
returns-else-at-len c rows P a b chosen =
    let from = c.args.serial.0 in
    let n = c.partition_point-at.result in
    let hs = c.args.self.now.hits.items in
    let up = subst (λ (z : List Member). AreBySerial z) (sym c.deref.ensures.value) chosen.by_serial in
    let parted = IsPartitionPoint-from_clause (is_early from) _ _ c.partition_point-at.ensures.partitioned (IsPartitionedBy-ltb (λ (h : Member). h.serial) _ from up) (λ x r q k. search rules) in
    let point = subst (λ (z : List Member). IsPartitionPoint (λ (h : Member). is_early from h ≡ true) (λ (h : Member). is_early from h ≡ false) z n) c.deref.ensures.value parted in
    let l : length hs ≤ n = let t = c.if-at-len.false in let e = c.len.ensures in omega arith in
    leap_over rows P c.args.self.now a b chosen from n (early hs from n point) l
