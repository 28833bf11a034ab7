use Rattle.std.proofs.Common.{◌≡◌, List, sym, ◌∙◌, ap, subst, map}
use Rattle.std.specs.List.{filter}
use Rattle.gcx_model.specs.Tree.{Tree, serial_of}
use Rattle.doc_tree.specs.declared.row.Row.{Row}
use Rattle.doc_tree.specs.Sets.{members, stepped}
use Rattle.doc_tree.proofs.tree.Tree.reached_from.Goals as goal

pub returns : goal.returns
returns c = λ f e.
    subst (λ (P : Tree). c.in_ok-found.found.items ≡ map serial_of (filter (stepped c.args.step.now f) P.nodes)) c.self.view_is
    (c.in_ok-found.ensures f (e ∙ (sym (ap (λ (P : Tree). map serial_of (filter f P.nodes)) c.self.view_is) ∙ ap (λ (r : List Row). members f r) (sym c.deref.ensures.value)))
    ∙ ap (λ (r : List Row). members (stepped c.args.step.now f) r) c.deref.ensures.value)
