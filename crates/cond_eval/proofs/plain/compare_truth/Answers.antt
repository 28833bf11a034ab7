use Rattle.std.proofs.Common.{sym, ap, ◌∙◌}
use Rattle.std.proofs.lemmas.Result.{IfOk-weaker}
use Rattle.gcx_model.specs.declared.cond.Operand.TheVariants as operand
use Rattle.cond_eval.proofs.Telling.{is_literal, left_pair, left_row, right_pair, right_row, paths_for, literal_for, flipped_for}
use Rattle.cond_eval.proofs.plain.compare_truth.Goals as goal

pub place_of-place-requires : goal.place_of-place-requires
place_of-place-requires g c = left_pair c.args.buffer.now.rows c.args.env.now c.args.left.now c.args.right.now c.args.rel c.requires c.in-Path.var c.in-Path.steps c.in-Path.is

pub place_of-other-requires : goal.place_of-other-requires
place_of-other-requires g c = right_pair c.args.buffer.now.rows c.args.env.now c.args.left.now c.args.right.now c.args.rel c.requires c.in-Path-right.var c.in-Path-right.others c.in-Path-right.is

pub paths_truth-requires-clause-left : goal.paths_truth-requires-clause-left
paths_truth-requires-clause-left g c = left_row c.args.buffer.now.rows c.args.env.now c.args.left.now c.args.right.now c.args.rel c.requires c.in-Path.var c.in-Path.steps c.in-Path.is c.place_of-place.result.0 c.place_of-place.ensures

pub paths_truth-requires-clause-right : goal.paths_truth-requires-clause-right
paths_truth-requires-clause-right g c = right_row c.args.buffer.now.rows c.args.env.now c.args.left.now c.args.right.now c.args.rel c.requires c.in-Path-right.var c.in-Path-right.others c.in-Path-right.is c.place_of-other.result.0 c.place_of-other.ensures

pub returns-in-Path-right : goal.returns-in-Path-right
returns-in-Path-right g c =
    IfOk-weaker c.paths_truth.result _ _
    (λ t h. paths_for c.args.buffer.now.rows c.args.env.now c.args.left.now c.args.right.now c.args.rel t c.in-Path.var c.in-Path-right.var c.items.result.now c.items-in-Path-right.result.now
    (c.in-Path.is ∙ ap (operand.Path c.in-Path.var) (sym c.items.ensures)) (c.in-Path-right.is ∙ ap (operand.Path c.in-Path-right.var) (sym c.items-in-Path-right.ensures))
    c.place_of-place.result.0 c.place_of-other.result.0 c.place_of-place.ensures c.place_of-other.ensures h)
    c.paths_truth.ensures

pub literal_truth-requires : goal.literal_truth-requires
literal_truth-requires g c = record {
  place = left_row c.args.buffer.now.rows c.args.env.now c.args.left.now c.args.right.now c.args.rel c.requires c.in-Path.var c.in-Path.steps c.in-Path.is c.place_of-place.result.0 c.place_of-place.ensures;
  literal = is_literal c.args.right.now c.in_default-right.not-Path;
}

pub returns-in_default-right : goal.returns-in_default-right
returns-in_default-right g c =
    IfOk-weaker c.literal_truth.result _ _
    (λ t h. literal_for c.args.buffer.now.rows c.args.env.now c.args.left.now c.args.right.now c.args.rel t c.in-Path.var c.items-in_default-right.result.now
    (c.in-Path.is ∙ ap (operand.Path c.in-Path.var) (sym c.items-in_default-right.ensures)) (is_literal c.args.right.now c.in_default-right.not-Path) c.place_of-place.result.0 c.place_of-place.ensures h)
    c.literal_truth.ensures

pub place_of-place-requires-in-Path-right-2 : goal.place_of-place-requires-in-Path-right-2
place_of-place-requires-in-Path-right-2 g c = right_pair c.args.buffer.now.rows c.args.env.now c.args.left.now c.args.right.now c.args.rel c.requires c.in-Path-right-2.var c.in-Path-right-2.steps c.in-Path-right-2.is

pub literal_truth-requires-in-Path-right-2 : goal.literal_truth-requires-in-Path-right-2
literal_truth-requires-in-Path-right-2 g c = record {
  place = right_row c.args.buffer.now.rows c.args.env.now c.args.left.now c.args.right.now c.args.rel c.requires c.in-Path-right-2.var c.in-Path-right-2.steps c.in-Path-right-2.is c.place_of-place-in-Path-right-2.result.0 c.place_of-place-in-Path-right-2.ensures;
  literal = is_literal c.args.left.now c.in_default.not-Path;
}

pub returns-in-Path-right-2 : goal.returns-in-Path-right-2
returns-in-Path-right-2 g c =
    IfOk-weaker c.literal_truth-in-Path-right-2.result _ _
    (λ t h. flipped_for c.args.buffer.now.rows c.args.env.now c.args.left.now c.args.right.now c.args.rel t c.in-Path-right-2.var c.items-in-Path-right-2.result.now
    (c.in-Path-right-2.is ∙ ap (operand.Path c.in-Path-right-2.var) (sym c.items-in-Path-right-2.ensures)) (is_literal c.args.left.now c.in_default.not-Path) c.place_of-place-in-Path-right-2.result.0 c.place_of-place-in-Path-right-2.ensures c.flipped.result c.flipped.ensures h)
    c.literal_truth-in-Path-right-2.ensures
