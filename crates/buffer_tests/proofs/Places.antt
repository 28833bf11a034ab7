-- The places of rows that searches find are in use.
use Rattle.std.proofs.Common.{◌≡◌, ℕ, List, [], ◌∷◌, Option, Some, None, sym, refl, ap, inl, inr}
use Rattle.std.specs.Prelude.{IfSome, MatchOption, option_map, unwrap_or}
use Rattle.std.proofs.lemmas.Option.{none-some}
use Rattle.gcx_model.specs.Paths.{head}
use Rattle.gcx_base.specs.declared.steps.Axis.{Axis}
use Rattle.gcx_base.specs.declared.steps.Step.{Step}
use Rattle.node_store.specs.declared.store.Place.{Place}
use Rattle.buf_tree.specs.Shape.{Cell}
use Rattle.buf_tree.specs.View.{InUse}
use Rattle.buf_tree.specs.Match.{Unreached, FirstReached, GoesFrom}

-- the first row is one of them
pub head_used : (r : Option Place) (xs : List Cell) → option_map (λ p. p.0) r ≡ option_map (λ c. c.place) (head xs) → IfSome r (λ p. InUse xs p.0)
head_used None xs e = tt
head_used (Some p) [] e = absurd (none-some p.0 (sym e))
head_used (Some p) (c ∷ xs) e = record { cell = c; among = inl refl; place = ap (λ (o : Option ℕ). unwrap_or o 0) (sym e) }

-- so is the one that a step reaches first
pub found_used : (r : Option Place) (xs : List Cell) (u : Cell) (s : Step) (after : ℕ) → MatchOption r (Unreached xs u s after) (λ p. FirstReached xs u s after p.0) → IfSome r (λ p. InUse xs p.0)
found_used None xs u s after m = tt
found_used (Some p) xs u s after m = record { cell = m.cell; among = m.reached.among; place = m.place }

-- a search may go on from the row itself
pub top_goes : (xs : List Cell) (p : ℕ) (axis : Axis) → InUse xs p → GoesFrom xs p axis p
top_goes xs p axis u = record { top = u; from = u; way = inl refl }

-- and from the row that a step on the same axis reaches first
pub found_goes : (r : Option Place) (xs : List Cell) (p : ℕ) (u : InUse xs p) (s : Step) (after : ℕ) → MatchOption r (Unreached xs u.cell s after) (λ q. FirstReached xs u.cell s after q.0) → IfSome r (λ q. GoesFrom xs p s.axis q.0)
found_goes None xs p u s after f = tt
found_goes (Some q) xs p u s after f = record { top = u; from = record { cell = f.cell; among = f.reached.among; place = f.place }; way = inr f.reached.axis }
