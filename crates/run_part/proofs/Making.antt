-- The actors before any token and any action.
use Rattle.std.proofs.Common.{◌≡◌, ◌<◌, ◌^◌, List, length, sym, ◌∙◌, ap, arith}
use Rattle.std.proofs.lemmas.List.{length-map}
use Rattle.gcx_base.specs.declared.ids.Role.{Role}
use Rattle.gcx_model.specs.Tree.{Root, Tree, opening}
use Rattle.gcx_model.specs.Core.{PlanTree}
use Rattle.gcx_model.specs.Held.{roles_given, sum_given}
use Rattle.gcx_model.specs.Past.{opening_past}
use Rattle.buf_tree.specs.View.{View, capped}
use Rattle.buf_tree.specs.Calls.{Started, numbers}
use Rattle.buf_tree.specs.Stands.{StandsFor}
use Rattle.projector.specs.Projector.{Projects, Places}
use Rattle.projector.specs.declared.projector.Projector.{Projector}
use Rattle.pull_eval.specs.Acting.{Beside}
use Rattle.pull_eval.specs.declared.position.Position.{Position}
use Rattle.run_part.specs.Actors.{ActorsStand}

-- the actors before any token and any action
pub actors_begin : (plan : PlanTree) (stands : Tree → Type 0) (p : Projector) (w : Position) (v : View) (given : List Role) → Projects p (opening_past plan) → Places p v → Started v given → StandsFor v (opening_past plan)
    → (v.taken ≡ 0 → Beside w v (opening_past plan) 0) → stands opening → ActorsStand plan stands p w v opening 0
actors_begin plan stands p w v given h places started st beside on = record { fed = 0; projects = h; keeps = places; gone = started.gone; beside = beside started.taken; stand = on }

-- the roles of the document node are all that were given
pub given_begin : (plan : PlanTree) (given : List Role) → length given < 2 ^ 64 → numbers given ≡ roles_given plan opening Root → length given ≡ capped (sum_given plan opening)
given_begin plan given few e =
    let l : length given ≡ length (roles_given plan opening Root) = sym (length-map given (λ (r : Role). r.0)) ∙ ap length e in
    omega arith
