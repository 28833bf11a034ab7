use Rattle.std.proofs.Common.{◌≡◌, inl, refl, sym, ap, ◌∙◌, subst}
use Rattle.std.proofs.lemmas.Result.{IfOk-weaker}
use Rattle.gcx_model.specs.Core.{CondTree, Exists}
use Rattle.gcx_model.specs.CondView.{core_cond_tree}
use Rattle.gcx_model.specs.Truth.{truth}
use Rattle.cond_eval.specs.Asking.{Asked}
use Rattle.cond_eval.specs.Comparing.{IsAsked}
use Rattle.cond_eval.proofs.Parts.{fold_Exists}
use Rattle.cond_eval.proofs.Telling.{tail_of, has_pair, is_node_row, exists_told}
use Rattle.cond_eval.proofs.plain.PlainLeaves.leaf.Goals as goal

pub place_of-requires : goal.place_of-requires
place_of-requires g c =
    let tree : core_cond_tree c.args.cond.now ≡ Exists c.in-Exists.var.0 c.in-Exists.steps = ap core_cond_tree c.in-Exists.is ∙ fold_Exists c.in-Exists.var c.in-Exists.steps in
    let m = c.requires.asked in
    let a : IsAsked c.args.buffer.now.rows c.args.env.now (Exists c.in-Exists.var.0 c.in-Exists.steps) = record { tree = m.tree; env = m.env; asked = subst (λ (z : CondTree). Asked c.args.buffer.now.rows c.args.env.now z m.tree m.env) tree m.asked } in
    has_pair c.args.buffer.now.rows c.args.env.now (Exists c.in-Exists.var.0 c.in-Exists.steps) (tail_of c.in-Exists.var.0 c.in-Exists.steps) (inl refl) a

pub exists_truth-requires : goal.exists_truth-requires
exists_truth-requires g c =
    let tree : core_cond_tree c.args.cond.now ≡ Exists c.in-Exists.var.0 c.in-Exists.steps = ap core_cond_tree c.in-Exists.is ∙ fold_Exists c.in-Exists.var c.in-Exists.steps in
    let m = c.requires.asked in
    let a : IsAsked c.args.buffer.now.rows c.args.env.now (Exists c.in-Exists.var.0 c.in-Exists.steps) = record { tree = m.tree; env = m.env; asked = subst (λ (z : CondTree). Asked c.args.buffer.now.rows c.args.env.now z m.tree m.env) tree m.asked } in
    is_node_row c.args.buffer.now.rows c.args.env.now (Exists c.in-Exists.var.0 c.in-Exists.steps) (tail_of c.in-Exists.var.0 c.in-Exists.steps) (inl refl) a c.place_of.result.0 c.place_of.ensures

pub returns-in-Exists : goal.returns-in-Exists
returns-in-Exists g c =
    let tree : core_cond_tree c.args.cond.now ≡ Exists c.in-Exists.var.0 c.items.result.now = ap core_cond_tree c.in-Exists.is ∙ (fold_Exists c.in-Exists.var c.in-Exists.steps ∙ ap (Exists c.in-Exists.var.0) (sym c.items.ensures)) in
    IfOk-weaker c.exists_truth.result _ _
    (λ t h P env s a. (
      exists_told c.args.buffer.now.rows c.args.env.now t c.in-Exists.var.0 c.items.result.now c.place_of.result.0 c.place_of.ensures h P env (subst (λ (z : CondTree). Asked c.args.buffer.now.rows c.args.env.now z P env) tree a)
          ∙ ap (λ (z : CondTree). truth z env P) (sym tree),
      s,
    ))
    c.exists_truth.ensures
