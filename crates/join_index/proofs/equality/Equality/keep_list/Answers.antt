use Rattle.std.proofs.Common.{List, refl, sym, ◌∙◌, ap, subst}
use Rattle.gcx_base.specs.declared.steps.Step.{Step}
use Rattle.join_index.specs.declared.equality.Side.{Side}
use Rattle.join_index.specs.Lookups.{ListsAt}
use Rattle.join_index.proofs.Finding.{made_for, seen_none, seen_still}
use Rattle.join_index.proofs.equality.Equality.keep_list.Goals as goal

pub returns-then-has_list_of-clause-seen : goal.returns-then-has_list_of-clause-seen
returns-then-has_list_of-clause-seen g c = seen_still c.args.self.now

pub returns-clause-list : goal.returns-clause-list
returns-clause-list g c =
    made_for c.args.buffer.now.rows c.args.place.0 c.args.of.0 c.args.self.now _ (record { of = c.args.of; values = c.in_ok-values.values }) refl refl refl refl (sym c.has_list_of.ensures ∙ c.if-has_list_of.false)
    (subst (λ (z : List Step). ListsAt c.args.buffer.now.rows c.args.place.0 z c.in_ok-values.values) (c.items.ensures ∙ ap (λ (s : Side). s.steps) c.outer.ensures) c.in_ok-values.ensures)

pub returns-clause-seen : goal.returns-clause-seen
returns-clause-seen g c = seen_none c.args.self.now _ c.forget.ensures
