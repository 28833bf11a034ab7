use Rattle.std.proofs.Common.{ℕ, ◌≡◌, List, [], ◌∷◌, map, ap, ◌∙◌}
use Rattle.gcx_base.specs.declared.ids.Role.{Role}
use Rattle.gcx_base.specs.declared.ids.VarId.{VarId}
use Rattle.gcx_model.specs.declared.item.Off.{Off}
use Rattle.gcx_model.specs.Core.{BodyTree, OffTree}
use Rattle.gcx_model.specs.ItemView.{body_tree}
use Rattle.gcx_model.specs.Placed.{add_offs, at_end, offs_of, place, placed_body}
use Rattle.gcx_model.specs.PlanView.{role_row_tree, var_row_tree}
use Rattle.proj_tree.specs.Own.{own_list}
use Rattle.signoff_place.specs.Ends.{ends_of}
use Rattle.signoff_place.specs.Spread.{Tables, all_stated, with_rels}
use Rattle.signoff_place.proofs.Known.{AreOf, offs_known, straight_rows, within_rows}
use Rattle.signoff_place.proofs.Rels.{rels_are}
use Rattle.signoff_place.proofs.place.place.Goals as goal

pub rels-requires : goal.rels-requires
rels-requires c = straight_rows (body_tree c.args.core.body) c.items-3.result.now c.args.core.vars c.items-2.result.now (c.items-3.ensures ∙ c.requires.straight) c.items-2.ensures c.requires.rows

pub ends-requires-clause-within : goal.ends-requires-clause-within
ends-requires-clause-within c = within_rows (body_tree c.args.core.body) c.requires.good (map (λ (x : VarId). x.0) c.args.tree.fsa) c.requires.fsa c.args.core.vars c.items-4.result.now c.items-4.ensures c.requires.rows

pub returns : goal.returns
returns c =
    let core : BodyTree = body_tree c.args.core.body in
    let t : Tables = record { own = map (λ (r : Role). r.0) c.in_ok-own_roles.field-0.items; fsa = map (λ (x : VarId). x.0) c.args.tree.fsa; rels = c.in_ok-rels.field-0.items } in
    let known : AreOf core t = record {
      own = c.in_ok-own_roles.ensures ∙ ap (own_list 0) (ap (map role_row_tree) c.items.ensures ∙ c.requires.roles);
      fsa = c.requires.fsa;
      rels = c.in_ok-rels.ensures ∙ ((λ i. with_rels ([] ∷ []) ((ap (map var_row_tree) c.items-2.ensures ∙ c.requires.rows) i) ((c.items-3.ensures ∙ c.requires.straight) i)) ∙ rels_are core c.requires.good);
    } in
    let offs : all_stated t 0 (map role_row_tree c.items-5.result.now) ≡ offs_of core = ap (all_stated t 0) (ap (map role_row_tree) c.items-5.ensures ∙ c.requires.roles) ∙ offs_known core c.requires.good t known in
    let ends : (x : ℕ) → ends_of c.deref.result.now x ≡ at_end (offs_of core) x =
    λ x. ap (λ (es : List (List Off)). ends_of es x) c.deref.ensures.value ∙ (c.in_ok-ends.ensures x ∙ ap (λ (os : List OffTree). at_end os x) offs) in
    let body : body_tree c.in_ok-body.body ≡ placed_body core = c.in_ok-body.ensures ∙ (λ i. add_offs (place (λ x. ends x i) core) (ends 0 i)) in
    (λ i. record { body = body i; vars = c.requires.rows i; straight = c.requires.straight i; fsa = c.requires.fsa i; roles = c.requires.roles i })
