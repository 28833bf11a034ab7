use Rattle.std.proofs.Common.{◌≡◌, Some, sym, ◌∙◌, ap, subst}
use Rattle.std.specs.BTreeMap.{get}
use Rattle.gcx_model.specs.Core.{CondTree}
use Rattle.trace_check.specs.Memoing.{IsKnownAt, pair_cmp}
use Rattle.trace_check.specs.declared.memo.Kept.{Kept}
use Rattle.trace_check.proofs.Memos.{if_some}
use Rattle.trace_check.proofs.memo.Memo.known.Goals as goal

pub returns-clause-known : goal.returns-clause-known
returns-clause-known c =
    let here = c.in_ok-place.ensures in
    let d = c.index.result.now in
    if_some c.copied.result _ (λ s e t m.
    let found : get pair_cmp d.known (c.args.left, c.args.right) ≡ Some s = cc (c.get.ensures.value, c.copied.ensures, e) in
    subst (λ (k : CondTree). IsKnownAt t k c.args.left c.args.right s) (here.same d)
    (m.known c.in_ok-place.place d here.there c.args.left c.args.right s (ap (λ (k : Kept). get pair_cmp k.known (c.args.left, c.args.right)) (sym c.index.ensures) ∙ found)))
