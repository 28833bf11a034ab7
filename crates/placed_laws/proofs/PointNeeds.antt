-- What the points of a placed plan need is held, what comes next is bound, and what the held nodes tell.
use Rattle.std.proofs.Common.{◌≡◌, ℕ, List, [], ◌∷◌, ◌++◌, sym, ◌∙◌, ap, subst, ◌+◌}
use Rattle.gcx_base.specs.declared.steps.Step.{Step}
use Rattle.gcx_model.specs.Tree.{Node, serial_of, Tree}
use Rattle.gcx_model.specs.Paths.{matches}
use Rattle.gcx_model.specs.Members.{In}
use Rattle.gcx_model.specs.Core.{Then, If, For, SignOff}
use Rattle.gcx_model.specs.Truth.{truth}
use Rattle.gcx_model.specs.Run.{Offed, copy}
use Rattle.gcx_model.specs.Placed.{plan_of}
use Rattle.gcx_model.specs.Held.{path_of, held, held_tree}
use Rattle.gcx_model.specs.Points.{so_far, Frame, Rest, LoopRound, CopyPart, later, PointAt, Bound_in}
use Rattle.gcx_model.specs.Needs.{Needs, Uses}
use Rattle.placed_laws.specs.Needs.{NeedLaw, TruthHeld, TurnsHeld, LoopHeld, CopyHeld, BoundLaw, TurnLaw, UnsignedLaw}
use Rattle.tree_laws.proofs.Matches.{Matches-in, Matches-from}
use Rattle.tree_laws.proofs.Fed.{tree}
use Rattle.placed_laws.proofs.CoreStates.{need}
use Rattle.placed_laws.proofs.Evaluator as over
use Rattle.placed_laws.proofs.Bridge.{path_is, held_is}
use Rattle.placed_laws.proofs.FromPlans.{from_state}
use Rattle.gcx_model.specs.Variables.{path_in}

pub need_law : NeedLaw
need_law core good plan pl P k r = from_state core good (λ plan P k. (fs : List Frame) → PointAt plan P k fs → (m : Node) → In m P.nodes → Needs P [] fs m → In m (held plan P (so_far plan P k)))
    (λ ts k fs st m i h. subst (λ (z : List Node). In m z) (sym (held_is core good (tree ts) (so_far (plan_of core) (tree ts) k))) (need core good ts k fs st m i h)) plan pl P k r

abbrev tree_of_held : Tree → List Node → Tree
tree_of_held P ns = record { nodes = ns; at = P.at }

pub truth_held : TruthHeld
truth_held core good plan pl P k r top below c a b d env = from_state core good (λ plan P k. PointAt plan P k (top ++ Rest (Then (If c a b) d) env ∷ below) → truth c env (held_tree plan P (so_far plan P k)) ≡ truth c env P)
    (λ ts k st. ap (λ z. truth c env (tree_of_held (tree ts) z)) (held_is core good (tree ts) (so_far (plan_of core) (tree ts) k)) ∙ over.truth_held core good ts k top below c a b d env st) plan pl P k r

pub turns_held : TurnsHeld
turns_held core good plan pl P k r top below x y s e env n = from_state core good (λ plan P k. PointAt plan P k (top ++ LoopRound x y s e env n ∷ below) → later n (matches (held_tree plan P (so_far plan P k)) (serial_of (env y)) (s ∷ [])) ≡ later n (matches P (serial_of (env y)) (s ∷ [])))
    (λ ts k st. ap (λ z. later n (matches (tree_of_held (tree ts) z) (serial_of (env y)) (s ∷ []))) (held_is core good (tree ts) (so_far (plan_of core) (tree ts) k)) ∙ over.turns_held core good ts k top below x y s e env n st) plan pl P k r

pub loop_held : LoopHeld
loop_held core good plan pl P k r top below x y s e d env = from_state core good (λ plan P k. PointAt plan P k (top ++ Rest (Then (For x y s e) d) env ∷ below) → matches (held_tree plan P (so_far plan P k)) (serial_of (env y)) (s ∷ []) ≡ matches P (serial_of (env y)) (s ∷ []))
    (λ ts k st. ap (λ z. matches (tree_of_held (tree ts) z) (serial_of (env y)) (s ∷ [])) (held_is core good (tree ts) (so_far (plan_of core) (tree ts) k)) ∙ over.loop_held core good ts k top below x y s e d env st) plan pl P k r

pub copy_held : CopyHeld
copy_held core good plan pl P k r top below x env made most = from_state core good (λ plan P k. PointAt plan P k (top ++ CopyPart x env made ∷ below) → copy most (held_tree plan P (so_far plan P k)) (env x) ≡ copy most P (env x))
    (λ ts k st. ap (λ z. copy most (tree_of_held (tree ts) z) (env x)) (held_is core good (tree ts) (so_far (plan_of core) (tree ts) k)) ∙ over.copy_held core good ts k top below x env made st most) plan pl P k r

pub bound_law : BoundLaw
bound_law core good plan pl P k r top below i d env = from_state core good (λ plan P k. PointAt plan P k (top ++ Rest (Then i d) env ∷ below) → (x : ℕ) → Uses i x → Bound_in x (env x) below × In (env x) (matches P 0 (path_of plan x)))
    (λ ts k st x u.
    let b = over.item_bound core good ts k top below i d env st x u in
    let h = over.below_hit core good ts k top below (Rest (Then i d) env) st x (env x) b in
    (b, subst (λ (z : List Step). In (env x) (matches (tree ts) 0 z)) (sym (path_is core good x)) (Matches-from (tree ts) 0 (path_in core x) (env x) h.0 h.1))) plan pl P k r

pub turn_law : TurnLaw
turn_law core good plan pl P k r top below x y s e env n = from_state core good (λ plan P k. PointAt plan P k (top ++ LoopRound x y s e env n ∷ below) → Bound_in y (env y) below × In n (matches P (serial_of (env y)) (s ∷ [])) × In n (matches P 0 (path_of plan x)))
    (λ ts k st.
    let b = over.parent_bound core good ts k top below x y s e env n st in
    let h = over.turn_bound core good ts k top below x y s e env n st in
    (b, h.0, subst (λ (z : List Step). In n (matches (tree ts) 0 z)) (sym (path_is core good x)) (Matches-from (tree ts) 0 (path_in core x) n (Matches-in (tree ts) (serial_of (env y)) (s ∷ []) n h.0).0 h.2))) plan pl P k r

pub unsigned_law : UnsignedLaw
unsigned_law core good plan pl P k r top below o d env = from_state core good (λ plan P k. PointAt plan P k (top ++ Rest (Then (SignOff o) d) env ∷ below) → In (Offed o (serial_of (env o.base))) (so_far plan P k) → ⊥)
    (λ ts k st i. over.off_unsigned core good ts k top below o d env st i) plan pl P k r
