use Rattle.std.proofs.Common.{◌≡◌, ◌<◌, ℕ, List, Some, false}
use Rattle.std.specs.Prelude.{slice_get}
use Rattle.gcx_base.specs.declared.kind.Kind.TheVariants.{Text}
use Rattle.gcx_base.specs.Tests.{passes}
use Rattle.path_states.specs.declared.paths.PathState.{PathState}
use Rattle.path_states.proofs.paths.take_texts.Given as goal

abbrev pub invariant-loop-i : goal.invariant-loop-i
invariant-loop-i l = (k : ℕ) (s : PathState) (b : List ℕ) → slice_get l.tree k ≡ Some s → 0 < k → k < l.i → passes s.step.test (Text b) ≡ false
