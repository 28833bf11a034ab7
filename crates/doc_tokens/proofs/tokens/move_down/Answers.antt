use Rattle.std.proofs.Common.{rules, ap, ◌∙◌, map}
use Rattle.std.proofs.lemmas.List.{with_items_is, places}
use Rattle.doc_tokens.specs.Parts.{moved_by}
use Rattle.doc_tokens.proofs.tokens.move_down.Goals as goal

pub returns : goal.returns
returns c =
    with_items_is c.cut.new.xs c.move_each.new.lent (search (rules, places))
    ∙ c.move_each.ensures
    ∙ ap (map (moved_by c.args.by)) (c.as_mut_slice.ensures.value ∙ c.cut.ensures)
