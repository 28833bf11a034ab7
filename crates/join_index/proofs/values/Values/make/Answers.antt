use Rattle.std.proofs.Common.{rules}
use Rattle.std.specs.Str.{bytes_eq}
use Rattle.std.proofs.lemmas.List.Filters.{dedup_is}
use Rattle.std.proofs.lemmas.List.Sorted.{answers_always}
use Rattle.join_index.proofs.Distinct.{distinct_all, distinct_rise, is_before, weak}
use Rattle.join_index.proofs.values.Values.make.Goals as goal

pub invariant_of-result : goal.invariant_of-result
invariant_of-result c =
    distinct_rise c.sort_by.new.self.items c.dedup.new.self.items (c.in_ok-sort_by.ensures.sorted is_before weak (answers_always _ _ _ (λ f a r g h. search rules)))
    (dedup_is bytes_eq c.sort_by.new.self.items c.dedup.new.self.items c.dedup.ensures.filtered)

pub returns : goal.returns
returns c =
    distinct_all c.args.values.items c.sort_by.new.self.items c.dedup.new.self.items c.in_ok-sort_by.ensures.permutation
    (dedup_is bytes_eq c.sort_by.new.self.items c.dedup.new.self.items c.dedup.ensures.filtered)
