use Rattle.std.proofs.Common.{◌≡◌, ◌+◌, ◌++◌, ℕ, false, List, length}
use Rattle.gcx_base.specs.declared.limits.Limits.{Limits}
use Rattle.many_run.specs.Many.{ManyStand}
use Rattle.many_run.proofs.Pieces.{InPiece}
use Rattle.many_run.proofs.many.Many.feed_piece.Given as goal

abbrev pub invariant-slices : goal.invariant-slices
invariant-slices g l = record {
  done : List ℕ;
  parts : done ++ l.rest ≡ l.fn.piece;
  fed : (lim : Limits) (b : List ℕ) → ManyStand g.C.Conds.stands lim l.fn.self b false → InPiece g.C.Conds.stands lim b l.fn.self l.self done;
  bytes : l.self.bytes ≡ l.fn.self.bytes + length done;
}

abbrev pub decreases-slices : goal.decreases-slices
decreases-slices g l = length l.rest
