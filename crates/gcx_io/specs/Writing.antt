-- How the writing of a text stands (this project's).
use Rattle.std.specs.Prelude.{◌≡◌, ℕ, List, [], ◌∷◌, ◌++◌, map, slice_get, slice_set, Some, All, ⊤}
use Rattle.gcx_io.specs.Bytes.{Grows}
use Rattle.gcx_io.specs.Causes.{Rose}
use Rattle.gcx_io.specs.Views.{Call, Took, Denied, SinkView, HandleView, ShelfView, calls_of}

abbrev pub IsSomeBytes : List ℕ → Type 0
IsSomeBytes [] = ⊥
IsSomeBytes (x ∷ xs) = ⊤

-- the bytes of all the pieces
abbrev pub joined : List (List ℕ) → List ℕ
joined [] = []
joined (p ∷ ps) = p ++ joined ps

-- all of the text was taken, in pieces of which none is empty, and no call failed
pub record Takes (a b : SinkView) (text : List ℕ) : Type 0 where
  pub pieces : List (List ℕ)
  pub some : All IsSomeBytes pieces
  pub calls : b.calls ≡ a.calls ++ map Took pieces
  pub whole : joined pieces ≡ text
  pub told : Grows a.taken b.taken text
  pub faults : b.faults ≡ a.faults

-- A prefix of the text was taken, `sure` at least, and the last call failed. It was offered what comes next, some bytes of the
-- rest.
pub record Owes (a b : SinkView) (sure text : List ℕ) : Type 0 where
  pub pieces : List (List ℕ)
  pub more : List ℕ
  pub next : List ℕ
  pub later : List ℕ
  pub some : All IsSomeBytes pieces
  pub calls : b.calls ≡ a.calls ++ map Took pieces ++ Denied next ∷ []
  pub taken : joined pieces ≡ sure ++ more
  pub split : text ≡ sure ++ more ++ next ++ later
  pub offered : IsSomeBytes next
  pub told : Grows a.taken b.taken (sure ++ more)
  pub faults : Rose a.faults b.faults

-- This handle answered these calls, and no other handle any.
pub record Answers (h : ℕ) (a b : ShelfView) (calls : List Call) : Type 0 where
  pub old : HandleView
  pub was : slice_get a.given h ≡ Some old
  pub given : map calls_of b.given
      ≡ slice_set (map calls_of a.given) h (record { name = old.name; calls = old.calls ++ calls })
  pub refused : b.refused ≡ a.refused
  pub faults : b.faults ≡ a.faults

-- the handle took all of the text, and no call failed
pub record TakesInto (h : ℕ) (a b : ShelfView) (text : List ℕ) : Type 0 where
  pub pieces : List (List ℕ)
  pub some : All IsSomeBytes pieces
  pub answers : Answers h a b (map Took pieces)
  pub whole : joined pieces ≡ text
  pub write_faults : b.write_faults ≡ a.write_faults

-- The handle took a prefix of the text, and the last call failed. It was offered what comes next, some bytes of the rest.
pub record OwesInto (h : ℕ) (a b : ShelfView) (text : List ℕ) : Type 0 where
  pub pieces : List (List ℕ)
  pub next : List ℕ
  pub later : List ℕ
  pub some : All IsSomeBytes pieces
  pub answers : Answers h a b (map Took pieces ++ Denied next ∷ [])
  pub split : text ≡ joined pieces ++ next ++ later
  pub offered : IsSomeBytes next
  pub write_faults : Rose a.write_faults b.write_faults
