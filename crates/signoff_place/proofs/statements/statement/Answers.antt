use Rattle.std.proofs.Common.{◌≡◌, List, [], map, get_or, ap, ◌∙◌}
use Rattle.gcx_base.specs.declared.ids.Role.{Role}
use Rattle.gcx_base.specs.declared.ids.VarId.{VarId}
use Rattle.gcx_base.specs.declared.steps.Step.{Step}
use Rattle.gcx_model.specs.ItemView.{role_kind}
use Rattle.signoff_place.specs.Spread.{base_at}
use Rattle.signoff_place.proofs.statements.statement.Goals as goal

pub returns : goal.returns
returns c =
    let base : c.base_of-base.result.0 ≡ base_at (map (λ (x : VarId). x.0) c.args.known.now.fsa) c.args.row.now.var.0 =
    c.base_of-base.ensures ∙ ap (λ (xs : List VarId). base_at (map (λ (x : VarId). x.0) xs) c.args.row.now.var.0) c.items.ensures in
    let own : c.own_of-own.result.0 ≡ get_or (map (λ (r : Role). r.0) c.args.known.now.own.items) (base_at (map (λ (x : VarId). x.0) c.args.known.now.fsa) c.args.row.now.var.0) c.args.role.0 =
    c.own_of-own.ensures ∙ (λ i. get_or (map (λ (r : Role). r.0) (c.deref.ensures.value i)) (base i) c.args.role.0) in
    let rel : c.in_ok-rel.rel ≡ get_or c.args.known.now.rels.items c.args.row.now.var.0 [] =
    c.in_ok-rel.ensures ∙ ap (λ (rs : List (List Step)). get_or rs c.args.row.now.var.0 []) c.deref-2.ensures.value in
    (λ i. record { base = base i; own = own i; role = c.args.role.0; rel = rel i; tail = c.in_ok-tail.ensures i; kind = role_kind c.args.row.now.kind })
