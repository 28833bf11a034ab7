use Rattle.std.proofs.Common.{◌≡◌, ◌+◌, ◌++◌, ℕ, false, List, length}
use Rattle.gcx_base.specs.declared.limits.Limits.{Limits}
use Rattle.engine.specs.Engine.{IsTold, StandsOf}
use Rattle.engine.proofs.Courses.{InPiece}
use Rattle.engine.proofs.TellingCalls.{InTrace}
use Rattle.engine.specs.Calls.{SameRun}
use Rattle.engine.proofs.engine.Engine.feed_piece.Given as goal

abbrev pub invariant-slices : goal.invariant-slices
invariant-slices g l = record {
  done : List ℕ;
  parts : done ++ l.rest ≡ l.fn.piece;
  fed : (lim : Limits) (b : List ℕ) → StandsOf g.C.Conds.stands lim l.fn.self b false → InPiece g.C.Conds.stands lim b l.fn.self l.self done;
  traced : (lim : Limits) (b : List ℕ) → StandsOf g.C.Conds.stands lim l.fn.self b false → IsTold l.fn.self → InTrace g.C.Conds.stands lim b l.fn.self l.self done;
  bytes : l.self.bytes ≡ l.fn.self.bytes + length done;
  same : SameRun l.fn.self l.self;
}

abbrev pub decreases-slices : goal.decreases-slices
decreases-slices g l = length l.rest
