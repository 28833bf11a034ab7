-- The route that the machine makes of a path's steps.
use Rattle.std.proofs.Common.{ℕ, ◌≡◌, List, [], ◌∷◌, ◌++◌, Option, Some, None, refl, sym, ap, ◌∙◌, append_assoc, append-nil}
use Rattle.gcx_model.specs.Paths.{head}
use Rattle.gcx_base.specs.declared.steps.Step.{Step}
use Rattle.xq_parse.specs.declared.route.Trail.{Trail}
use Rattle.xq_parse.specs.declared.route.Route.{Route}
use Rattle.xq_parse.specs.Grammar as g
use Rattle.xq_parse.specs.Grammar.{a_path, step_tree, steps_tree}
use Rattle.xq_parse.specs.Places.{step_place, descent, late_behind, steps_late}
use Rattle.xq_parse.specs.Machine.{or_else, descent_at, added, no_trail, a_var, a_route}
use Rattle.xq_parse.proofs.Folds.{trail_behind, path_route, source_route}

trail_steps : (t : Trail) (ss : g.StepsSyntax) → (trail_behind t ss).steps ≡ t.steps ++ steps_tree ss
trail_steps t g.no_step = sym (append-nil t.steps)
trail_steps t (g.more_steps s ss) = trail_steps (added t (step_place s) (step_tree s)) ss ∙ append_assoc t.steps (step_tree s ∷ []) (steps_tree ss)

abbrev descent_of : g.StepSyntax → Option ℕ
descent_of s = descent_at (step_tree s).axis (step_place s)

abbrev first_late : Option ℕ → g.StepsSyntax → Option ℕ
first_late last g.no_step = None
first_late last (g.more_steps s ss) = or_else last (first_late (descent_of s) ss)

or_assoc : (a b c : Option ℕ) → or_else (or_else a b) c ≡ or_else a (or_else b c)
or_assoc None b c = refl
or_assoc (Some a) b c = refl

or_none : (a : Option ℕ) → or_else a None ≡ a
or_none None = refl
or_none (Some a) = refl

trail_late : (t : Trail) (ss : g.StepsSyntax) → (trail_behind t ss).late ≡ or_else t.late (first_late t.last ss)
trail_late t g.no_step = sym (or_none t.late)
trail_late t (g.more_steps s ss) = trail_late (added t (step_place s) (step_tree s)) ss ∙ or_assoc t.late t.last (first_late (descent_of s) ss)

head_descent : (s : g.StepSyntax) (xs : List ℕ) → head (descent s ++ xs) ≡ or_else (descent_of s) (head xs)
head_descent (g.plain at t) xs = refl
head_descent (g.child at t) xs = refl
head_descent (g.descendant at t) xs = refl
head_descent (g.double at t) xs = refl

late_is : (s : g.StepSyntax) (ss : g.StepsSyntax) → first_late (descent_of s) ss ≡ head (late_behind s ss)
late_is s g.no_step = refl
late_is s (g.more_steps u us) = ap (or_else (descent_of s)) (late_is u us) ∙ sym (head_descent s (late_behind u us))

steps_late_is : (ss : g.StepsSyntax) → first_late None ss ≡ head (steps_late ss)
steps_late_is g.no_step = refl
steps_late_is (g.more_steps s ss) = late_is s ss

abbrev route_with : Option (List ℕ) → Option ℕ → List Step → Option ℕ → Route
route_with x at ss late = record { path = a_path x ss; var_at = at; late = late }

route_is : (x : Option (List ℕ)) (at : Option ℕ) (ss : g.StepsSyntax) → route_with x at (trail_behind no_trail ss).steps (trail_behind no_trail ss).late ≡ route_with x at (steps_tree ss) (head (steps_late ss))
route_is x at ss = ap (λ (l : List Step). route_with x at l (trail_behind no_trail ss).late) (trail_steps no_trail ss) ∙ ap (λ (o : Option ℕ). route_with x at (steps_tree ss) o) (trail_late no_trail ss ∙ steps_late_is ss)

pub from_var_is : (at : ℕ) (x : List ℕ) (ss : g.StepsSyntax) → a_route (Some (a_var at x)) (trail_behind no_trail ss) ≡ path_route (g.from_var at x ss)
from_var_is at x ss = route_is (Some x) (Some at) ss

pub from_root_is : (s : g.StepSyntax) (ss : g.StepsSyntax) → a_route None (trail_behind no_trail (g.more_steps s ss)) ≡ path_route (g.from_root s ss)
from_root_is s ss = route_is None None (g.more_steps s ss)

pub in_var_is : (at : ℕ) (x : List ℕ) (s : g.StepSyntax) (ss : g.StepsSyntax) → a_route (Some (a_var at x)) (trail_behind no_trail (g.more_steps s ss)) ≡ source_route (g.in_var at x s ss)
in_var_is at x s ss = route_is (Some x) (Some at) (g.more_steps s ss)

pub in_root_is : (s : g.StepSyntax) (ss : g.StepsSyntax) → a_route None (trail_behind no_trail (g.more_steps s ss)) ≡ source_route (g.in_root s ss)
in_root_is s ss = route_is None None (g.more_steps s ss)
