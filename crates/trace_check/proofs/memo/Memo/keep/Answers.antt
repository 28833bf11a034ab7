use Rattle.std.proofs.Common.{sym, ◌∙◌, ap, subst}
use Rattle.std.proofs.lemmas.List.Elements.{All-set}
use Rattle.gcx_model.specs.CondView.{core_cond_tree}
use Rattle.gcx_model.specs.Core.{CondTree}
use Rattle.trace_check.specs.Memoing.{IsKnown, IsKnownAt}
use Rattle.trace_check.specs.declared.memo.Kept.{Kept}
use Rattle.trace_check.proofs.memo.Memo.keep.Goals as goal

pub returns : goal.returns
returns c = λ t m known.
    let mid = c.in_ok-place.ensures.memo t m in
    let here = c.in_ok-place.ensures.place in
    let entry = c.index_mut.result.now in
    let old = subst (IsKnown t) (sym c.index_mut.ensures.value) (mid.known c.in_ok-place.place entry here.there) in
    let cond = ap (λ (k : Kept). core_cond_tree k.cond.now) c.index_mut.ensures.value ∙ here.same entry in
    let new = c.in_ok-keep.ensures.known t old (subst (λ (k : CondTree). IsKnownAt t k c.args.left c.args.right c.args.known) (sym cond) known) in
    record {
      known = All-set (IsKnown t) c.place_or_new.new.self.kept.items c.in_ok-place.place c.keep.new.self new mid.known;
      turns = mid.turns;
    }
