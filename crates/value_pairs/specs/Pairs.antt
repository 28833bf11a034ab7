-- Pairs of values of two sides (general comparisons: XQuery 1.0, section 3.5.2).
use Rattle.std.specs.Prelude.{◌≡◌, ℕ, true, List}
use Rattle.gcx_base.specs.declared.rel.Rel.{Rel}
use Rattle.gcx_model.specs.Members.{In}
use Rattle.gcx_model.specs.Values.{Bytes, compare}

-- the relation holds of some value of the left side and some value of the right side
pub record SomePair (rel : Rel) (ls rs : List (List ℕ)) : Type 0 where
  pub one : List ℕ
  pub other : List ℕ
  pub of_left : In one ls
  pub of_right : In other rs
  pub holds : compare rel (Bytes one) (Bytes other) ≡ true
