use Rattle.std.proofs.Common.{◌∙◌, ap, None, List, Option}
use Rattle.std.specs.Prelude.{slice_index_or}
use Rattle.gcx_model.specs.declared.item.Off.{Off}
use Rattle.buf_tree.specs.Spread.{SpreadView}
use Rattle.buf_tree.proofs.spread.Spread.top.Goals as goal

pub returns-clause-top : goal.returns-clause-top
returns-clause-top c =
    c.top_in.ensures ∙ ap (λ (ts : List (Option Off)). slice_index_or ts c.args.role.0 None) c.deref.ensures.value
    ∙ ap (λ (s : SpreadView). slice_index_or s.tops c.args.role.0 None) c.self.view_is

pub returns-clause-role : goal.returns-clause-role
returns-clause-role c off e = (c.self.invariant.1 c.args.role.0 off (ap (λ (s : SpreadView). slice_index_or s.tops c.args.role.0 None) c.self.view_is ∙ e)).0
