use Rattle.std.proofs.Common.{ap, sym, ◌∙◌, not}
use Rattle.gcx_model.specs.Attributes.{is_fresh}
use Rattle.doc_tokens.proofs.Sets.{is_few, is_late}
use Rattle.doc_tokens.proofs.attr_names.AttrNames.has.Goals as goal

pub returns-then-has : goal.returns-then-has
returns-then-has c =
    let name = c.args.name.now in
    c.if-has.true ∙ sym (is_few name c.self.inside.late c.self.inside.few (sym c.has.ensures ∙ c.if-has.true)) ∙ ap (λ ns. not (is_fresh name ns)) c.self.view_is

pub returns-then-has_open : goal.returns-then-has_open
returns-then-has_open c =
    let name = c.args.name.now in
    c.contains.ensures ∙ c.self.invariant name ∙ is_late name c.self.inside.late c.self.inside.few (sym c.has.ensures ∙ c.if-has.false) ∙ ap (λ ns. not (is_fresh name ns)) c.self.view_is
