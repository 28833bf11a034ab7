use Rattle.std.proofs.Common.{◌≡◌, ◌++◌, ◌-◌, ℕ, List, ◌∙◌, ap, append_assoc, arith}
use Rattle.gcx_gen.specs.Generated.{item, items}
use Rattle.gcx_gen.proofs.Written.{item_to}
use Rattle.gcx_gen.proofs.document.put_items.Goals as goal

pub loop-index-preserved : goal.loop-index-preserved
loop-index-preserved c = record {
  low = omega arith;
  put = c.in_ok-put_item.ensures ∙ ap (λ (l : List ℕ). l ++ item c.args.seed c.loop-index.index) c.loop-index.invariant.put
      ∙ append_assoc c.args.out.now.items (items c.args.seed c.args.from (c.loop-index.index - c.args.from)) (item c.args.seed c.loop-index.index)
      ∙ ap (λ (l : List ℕ). c.args.out.now.items ++ l) (item_to c.args.seed c.args.from c.loop-index.index c.loop-index.invariant.low);
}
