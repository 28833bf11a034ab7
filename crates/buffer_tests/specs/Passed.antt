-- What a test of passed elements knows of the rows.
use Rattle.std.specs.Prelude.{◌≡◌, ◌≤◌, ℕ, List, None}
use Rattle.gcx_model.specs.Members.{In}
use Rattle.buf_tree.specs.Shape.{Cell, num}
use Rattle.buf_tree.specs.View.{View, Innermost}

-- the place is that of the innermost open row; no row has a serial above `last`, and none lies deeper than its serial
pub record IsTop (rows : List Cell) (p last : ℕ) : Type 0 where
  pub inner : Innermost rows p
  pub low : (c : Cell) → In c rows → num c ≤ last
  pub flat : (c : Cell) → In c rows → c.row.level ≤ num c

-- and no role is spread
pub record HasTop (v : View) (place last : ℕ) : Type 0 where
  pub rows : IsTop v.rows place last
  pub plain : v.spread ≡ None
