-- What tests have fed where rows are made late.
use Rattle.std.specs.Prelude.{◌≡◌, ℕ, ◌≤◌, true, List, length, map, slice_range}
use Rattle.gcx_base.specs.Limits.{full_limits}
use Rattle.gcx_model.specs.Core.{PlanTree}
use Rattle.gcx_model.specs.Past.{Past}
use Rattle.gcx_model.specs.Tree.{TreeToken as Said, Start, Chars, End}
use Rattle.gcx_model.specs.Seen.{seen_tree}
use Rattle.doc_reader.specs.Standing.{ReaderView, Stands, said_of, Token}
use Rattle.buf_tree.specs.View.{View}
use Rattle.projector.specs.Late.{IsNamePart, IsTextPart, StandLoosely}
use Rattle.projector.specs.Projector.{Places}
use Rattle.projector.specs.declared.projector.Projector.{Projector}

-- The reader was given a whole document, and the tokens that it gave since were fed to the projector and the buffer, which
-- stand for them but for the rows of passed elements.
pub record IsFedLate (plan : PlanTree) (bytes : List ℕ) (r : ReaderView) (p : Projector) (v : View) : Type 0 where
  pub document : List ℕ
  pub given : List Token
  pub read : Stands r full_limits document true given
  pub past : Past
  pub plan_is : past.plan ≡ plan
  pub tree_is : past.tree ≡ seen_tree (map said_of given)
  pub stand : StandLoosely bytes p v past
  pub place : Places p v

-- the part of the bytes
abbrev pub LiesAt : (bytes : List ℕ) → (from to : ℕ) → List ℕ → Type 0
LiesAt bytes from to part = (from ≤ to) × (to ≤ length bytes) × (slice_range bytes from to ≡ part)

-- it is the name or the text of the token, if it has one
abbrev pub IsTokenPart : (bytes : List ℕ) → (from to : ℕ) → Said → Type 0
IsTokenPart bytes from to (Start name) = IsNamePart bytes from to × (slice_range bytes from to ≡ name)
IsTokenPart bytes from to (Chars text) = IsTextPart bytes from to × (slice_range bytes from to ≡ text)
IsTokenPart bytes from to End = Unit {0}
