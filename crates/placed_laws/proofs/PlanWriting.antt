-- What a placed plan writes.
use Rattle.std.proofs.Common.{◌≡◌, List, [], ◌∷◌, ◌++◌, refl, sym, ◌∙◌, ap, ◌+◌}
use Rattle.std.specs.List.{filter, flat_map}
use Rattle.std.proofs.lemmas.Grind.{flat_map-append}
use Rattle.gcx_model.specs.Run.{Action, Offed, run, env0, Wrote, bytes_of}
use Rattle.gcx_model.specs.Points.{actions}
use Rattle.placed_laws.specs.Plans.{is_write, PlanWrites, PlanBytes}
use Rattle.placed_laws.proofs.Writes.{written}
use Rattle.tree_laws.proofs.Fed.{root_from}
use Rattle.placed_laws.proofs.RunForms.{prefix_law}
use Rattle.placed_laws.proofs.FromPlans.{from_plan}
use Rattle.placed_laws.proofs.Meaning.{normal_law}
use Rattle.placed_laws.proofs.Moved.{normal_good}
use Rattle.gcx_model.specs.Normal.{normal}
use Rattle.gcx_model.specs.Document.{tree_of}
use Rattle.placed_laws.specs.Normal.{KnownIsFront}

pub plan_writes : PlanWrites
plan_writes core good plan pl P = from_plan core good (λ plan. (filter is_write (actions plan P) ≡ filter is_write (run core env0 P).acts) × ((run plan.body env0 P).done ≡ (run core env0 P).done)) (written core P) plan pl

writes_only : (xs : List Action) → flat_map bytes_of (filter is_write xs) ≡ flat_map bytes_of xs
writes_only [] = refl
writes_only (Wrote b ∷ xs) = ap (λ z. b ++ z) (writes_only xs)
writes_only (Offed o n ∷ xs) = writes_only xs

pub plan_bytes : PlanBytes
plan_bytes q plan pl P =
    sym (writes_only (actions plan P)) ∙ (ap (flat_map bytes_of) (plan_writes (normal q) (normal_good q) plan pl P).0 ∙ writes_only (run (normal q) env0 P).acts)

pub known_is_front : KnownIsFront
known_is_front q s P l d m =
    let h = (prefix_law P (tree_of d) l m (normal q) env0 (λ x. root_from P l)).0 in
    (flat_map bytes_of h.0, sym (normal_law q s d) ∙ (ap (flat_map bytes_of) h.1 ∙ flat_map-append bytes_of (run (normal q) env0 P).acts h.0))
