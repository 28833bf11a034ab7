-- How many moves without an action a position has before it at most: what falls with each of them (this project's).
use Rattle.std.specs.Prelude.{ℕ, ◌+◌, ◌*◌, suc, ltb, List, [], ◌∷◌, length, filter, Option, Some, None}
use Rattle.gcx_model.specs.Core.{ItemTree, Write, Copy, For, If, SignOff, BodyTree, Nil, Then}
use Rattle.node_store.specs.declared.store.Place.{Place}
use Rattle.buf_tree.specs.Shape.{Cell, num}
use Rattle.buf_tree.specs.View.{serial_at}
use Rattle.pull_eval.specs.Position.{items}
use Rattle.pull_eval.specs.declared.block.Next.{Next}
use Rattle.pull_eval.specs.declared.block.Next.TheVariants.{Unsought, Found, NoneUpTo}
use Rattle.pull_eval.specs.declared.block.Round.{Round}
use Rattle.pull_eval.specs.declared.block.Block.{Block}
use Rattle.pull_eval.specs.declared.block.Copying.{Copying}
use Rattle.pull_eval.specs.declared.position.Position.{Position}

abbrev mutual
  -- an item, over so many rows: a loop runs its body at most once for each row
  pub weigh_item : (rows : ℕ) → ItemTree → ℕ
  weigh_item rows (Write b) = 1
  weigh_item rows (Copy x) = 2
  weigh_item rows (For x y s d) = 1 + rows * suc (weigh_body rows d)
  weigh_item rows (If c a b) = 2 + (weigh_body rows a + weigh_body rows b)
  weigh_item rows (SignOff o) = 1

  pub weigh_body : (rows : ℕ) → BodyTree → ℕ
  weigh_body rows Nil = 0
  weigh_body rows (Then i d) = weigh_item rows i + weigh_body rows d

-- the rows with a serial above this one
abbrev pub rows_behind : ℕ → List Cell → ℕ
rows_behind s rows = length (filter (λ c. ltb s (num c)) rows)

-- the rows at which a loop may still begin its body
abbrev pub rounds_left : List Cell → (present : Place) → Next → ℕ
rounds_left rows present Unsought = rows_behind (serial_at present.0 rows) rows
rounds_left rows present (Found p) = suc (rows_behind (serial_at p.0 rows) rows)
rounds_left rows present (NoneUpTo s) = rows_behind s.0 rows

abbrev pub weigh_round : List Cell → Option Round → ℕ
weigh_round rows None = 0
weigh_round rows (Some r) = rounds_left rows r.present r.next * suc (weigh_body (length rows) (items r.body.now))

abbrev pub weigh_block : List Cell → Block → ℕ
weigh_block rows b = suc (weigh_body (length rows) (items b.rest.now) + weigh_round rows b.round)

abbrev pub weigh_blocks : List Cell → List Block → ℕ
weigh_blocks rows [] = 0
weigh_blocks rows (b ∷ bs) = weigh_block rows b + weigh_blocks rows bs

abbrev pub weigh_copying : Option Copying → ℕ
weigh_copying None = 0
weigh_copying (Some c) = 1

abbrev pub weight : List Cell → Position → ℕ
weight rows w = weigh_block rows w.top + (weigh_blocks rows w.below.items + weigh_copying w.copying)
