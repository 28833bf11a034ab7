use Rattle.std.proofs.Common.{◌≡◌, List, [], map, ap, ◌∙◌}
use Rattle.std.proofs.lemmas.Result.{IfOk-weaker}
use Rattle.gcx_base.specs.declared.ids.VarId.{VarId}
use Rattle.gcx_model.specs.ItemView.{body_tree}
use Rattle.var_tree.specs.declared.VarTree.{VarTree}
use Rattle.var_tree.specs.declared.VarFacts.{VarFacts}
use Rattle.var_tree.specs.Facts.{facts_of, with_loops}
use Rattle.var_tree.specs.Loops.{loops}
use Rattle.var_tree.proofs.Reading.{straight_is, fsa_is}
use Rattle.var_tree.proofs.var_tree.Goals as goal

pub returns-clause-straight : goal.returns-clause-straight
returns-clause-straight c =
    let known : map facts_of c.deref.result.now ≡ with_loops [] (loops (body_tree c.args.core.now.body) 0) =
    ap (map facts_of) c.deref.ensures.value ∙ (c.in_ok-read_body.ensures ∙ ap (λ (fs : List VarFacts). with_loops (map facts_of fs) (loops (body_tree c.args.core.now.body) 0)) c.new-known.ensures.items) in
    IfOk-weaker c.tree_of.result _ _ (λ (t : VarTree) (h : t.straight ≡ map (λ (f : VarFacts). f.straight) c.deref.result.now). h ∙ straight_is (body_tree c.args.core.now.body) c.requires c.deref.result.now known) c.tree_of.ensures.straight

pub returns-clause-fsa : goal.returns-clause-fsa
returns-clause-fsa c =
    let known : map facts_of c.deref.result.now ≡ with_loops [] (loops (body_tree c.args.core.now.body) 0) =
    ap (map facts_of) c.deref.ensures.value ∙ (c.in_ok-read_body.ensures ∙ ap (λ (fs : List VarFacts). with_loops (map facts_of fs) (loops (body_tree c.args.core.now.body) 0)) c.new-known.ensures.items) in
    IfOk-weaker c.tree_of.result _ _ (λ (t : VarTree) (h : map (λ (x : VarId). x.0) t.fsa ≡ map (λ (f : VarFacts). f.fsa.0) c.deref.result.now). h ∙ fsa_is (body_tree c.args.core.now.body) c.requires c.deref.result.now known) c.tree_of.ensures.fsa
