-- What the searches of a buffer tell of the matches of a step.
use Rattle.std.proofs.Common.{◌≡◌, ℕ, List, Option, Some, None}
use Rattle.std.specs.Prelude.{MatchOption, IfSome}
use Rattle.gcx_base.specs.declared.steps.Step.{Step}
use Rattle.gcx_model.specs.Members.{In}
use Rattle.node_store.specs.declared.store.Place.{Place}
use Rattle.buf_tree.specs.Shape.{Cell, num}
use Rattle.buf_tree.specs.Match.{Unreached, FirstReached}
use Rattle.buf_tree.specs.View.{serial_at}
use Rattle.cond_eval.specs.Searches.{Finds}

abbrev SerialTold : List Cell → Option Place → Type 0
SerialTold rows found = IfSome found (λ p. (c : Cell) → In c rows → c.place ≡ p.0 → serial_at p.0 rows ≡ num c)

pub finds : (rows : List Cell) (c : Cell) (s : Step) (after : ℕ) (found : Option Place) → MatchOption found (Unreached rows c s after) (λ p. FirstReached rows c s after p.0) → SerialTold rows found → Finds rows c s after found
finds rows c s after None m t = m
finds rows c s after (Some p) m t = record { first = m; serial = t m.cell m.reached.among m.place }
