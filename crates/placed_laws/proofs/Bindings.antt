-- What a copy in progress copies.
use Rattle.std.proofs.Common.{List, ◌∷◌, ◌++◌, sym, subst}
use Rattle.gcx_base.specs.declared.steps.Step.{Step}
use Rattle.gcx_model.specs.Paths.{matches}
use Rattle.gcx_model.specs.Members.{In}
use Rattle.gcx_model.specs.Roles.{whole_row, roles_of}
use Rattle.gcx_model.specs.Variables.{path_in}
use Rattle.gcx_model.specs.Held.{path_of}
use Rattle.gcx_model.specs.Points.{CopyPart, PointAt, Bound_in}
use Rattle.placed_laws.specs.Binding.{CopyBoundLaw}
use Rattle.tree_laws.proofs.Matches.{Matches-from}
use Rattle.placed_laws.proofs.Frames.{Here}
use Rattle.tree_laws.proofs.Fed.{tree, grown}
use Rattle.placed_laws.proofs.Evaluator as over
use Rattle.placed_laws.proofs.Bridge.{path_is}
use Rattle.placed_laws.proofs.FromPlans.{from_state}

pub copy_bound_law : CopyBoundLaw
copy_bound_law core good plan pl P k r top below x env made = from_state core good (λ plan P k. PointAt plan P k (top ++ CopyPart x env made ∷ below) → In (env x) P.nodes × Bound_in x (env x) below × In (env x) (matches P 0 (path_of plan x)))
    (λ ts k st.
    let f : In (whole_row x) (roles_of core) × Here (tree ts) (grown ts) core good x (env x) below = over.fact core good ts k top below (CopyPart x env made) st in
    let h = over.below_hit core good ts k top below (CopyPart x env made) st x (env x) f.1.1 in
    (h.0, f.1.1, subst (λ (z : List Step). In (env x) (matches (tree ts) 0 z)) (sym (path_is core good x)) (Matches-from (tree ts) 0 (path_in core x) (env x) h.0 h.1))) plan pl P k r
