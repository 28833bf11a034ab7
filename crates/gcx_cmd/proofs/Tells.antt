-- Whether an engine tells a trace.
use Rattle.std.proofs.Common.{◌≡◌, ℕ, List, Bool, true, false, refl}
use Rattle.gcx_base.specs.declared.limits.Limits.{Limits}
use Rattle.gcx_model.specs.Core.{PlanTree}
use Rattle.run_words.specs.Ends.{EndsRun, RunEnd}
use Rattle.run_words.specs.Stops.{Stop}
use Rattle.run_words.specs.Writing.{Sinks}
use Rattle.engine.specs.Engine.{IsSilent, IsTrace}
use Rattle.engine.specs.Runs.{TellsBy, Traced, Silent, ByToken, is_traced}
use Rattle.engine.specs.View.{EngineView}

-- the lines of a trace are told where one is asked for
abbrev pub telling : Bool → Traced
telling true = ByToken
telling false = Silent

pub tells_by : {C : Type 0} (tracing : Bool) (e : EngineView C) → e.tracing ≡ tracing → (tracing ≡ false → IsSilent e)
    → TellsBy (telling tracing) e
tells_by true e is silent = is
tells_by false e is silent = silent refl

-- so how a run ends is said of its lines
pub ends_told : (tracing : Bool) (W : List ℕ → Bool → List ℕ → Type 0) (plan : PlanTree) (lim : Limits) (x : RunEnd) (ps : List (List ℕ)) (stop : Stop) (a b : Sinks)
    → EndsRun W (IsTrace plan lim) lim (is_traced (telling tracing)) x ps stop a b → EndsRun W (IsTrace plan lim) lim tracing x ps stop a b
ends_told true W plan lim x ps stop a b h = h
ends_told false W plan lim x ps stop a b h = h
