use Rattle.std.proofs.Common.{◌≡◌, [], ◌∷◌, ◌∙◌, ap}
use Rattle.std.specs.Prelude.{slice_index_or}
use Rattle.gcx_model.specs.Held.{gives}
use Rattle.gcx_model.specs.ItemView.{role_kind}
use Rattle.gcx_model.specs.Paths.{hits}
use Rattle.trace_check.specs.Reaching.{numbers_of}
use Rattle.trace_check.specs.Wanting.{path_in}
use Rattle.trace_check.proofs.Givens.{matches_of_var}
use Rattle.trace_check.proofs.Gives.{gives_by}
use Rattle.trace_check.proofs.Reached.{if_ok}
use Rattle.trace_check.proofs.given.reached.Goals as goal

pub returns : goal.returns
returns c = if_ok c.reach.result _ _ c.reach.ensures (λ ranges h paths e n i.
    let found : c.in_ok-nodes.nodes.items ≡ numbers_of c.args.tree.now (hits 0 (path_in paths c.args.row.now.var.0))
    = c.in_ok-nodes.ensures
    ∙ (ap (λ l. slice_index_or l c.args.row.now.var.0 (0 ∷ [])) e ∙ matches_of_var c.args.tree.now c.requires.grown c.requires.some paths c.args.row.now.var.0) in
    h (hits 0 (path_in paths c.args.row.now.var.0)) found n i
    ∙ (gives_by c.args.tree.now c.requires.grown 0 (path_in paths c.args.row.now.var.0) c.items.result.now (role_kind c.args.row.now.kind) n i
    ∙ ap (λ tail. gives c.args.tree.now 0 (path_in paths c.args.row.now.var.0) tail (role_kind c.args.row.now.kind) n) c.items.ensures))
