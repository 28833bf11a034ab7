-- What a loop finds of its matches among the rows, and how its body begins. Private functions alone speak of it.
use Rattle.std.specs.Prelude.{◌≡◌, ℕ, zero, suc, Some}
use Rattle.std.specs.FinMap as map
use Rattle.gcx_base.specs.declared.steps.Step.{Step}
use Rattle.gcx_model.specs.Members.{In}
use Rattle.buf_tree.specs.Shape.{Cell, num}
use Rattle.buf_tree.specs.Match.{Unreached}
use Rattle.buf_tree.specs.View.{View, serial_at}
use Rattle.cond_eval.specs.Searches.{IsFirst}
use Rattle.pull_eval.specs.Position.{LooksInTime}
use Rattle.pull_eval.specs.declared.block.Next.{Next}
use Rattle.pull_eval.specs.declared.block.Next.TheVariants.{Unsought, Found, NoneUpTo}
use Rattle.pull_eval.specs.declared.block.Round.{Round}
use Rattle.pull_eval.specs.declared.position.Position.{Position}

-- from where a loop looks for its first match: from the row itself, where nothing is known
abbrev pub from_seen : Cell → (seen : ℕ) → ℕ
from_seen c zero = num c
from_seen c (suc k) = suc k

-- what a search tells of the next match, if there was one
abbrev pub Learnt : View → Cell → Step → (after : ℕ) → Next → Type 0
Learnt v c s after Unsought = Unit {0}
Learnt v c s after (Found p) = IsFirst v.rows c s after p.0
Learnt v c s after (NoneUpTo u) = Unreached v.rows c s after × (suc u.0 ≡ v.nodes)

-- the body of the round begins
pub record Began (v : View) (before after : Position) (r : Round) : Type 0 where
  pub next : Next
  pub top : after.top ≡ record { rest = r.body; round = Some (record r { next = next }); seen = 0 }
  pub below : after.below.items ≡ before.below.items
  pub env : after.env ≡ map.insert before.env r.var.0 (r.present.0, serial_at r.present.0 v.rows)
  pub copying : after.copying ≡ before.copying
  pub turns : after.turns.items ≡ before.turns.items
  pub begun : after.is_begun ≡ before.is_begun
  pub looks : LooksInTime next r.body.now
  pub serial : (d : Cell) → In d v.rows → d.place ≡ r.present.0 → serial_at r.present.0 v.rows ≡ num d
  pub learnt : (c d : Cell) → In c v.rows → In d v.rows → c.place ≡ r.context.0 → d.place ≡ r.present.0 → Learnt v c r.step.now (num d) next
