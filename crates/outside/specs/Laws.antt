-- Laws of what calls that write do (this project's).
use Rattle.std.specs.Prelude.{◌≤◌, ℕ, List, ◌++◌, Option}
use Rattle.gcx_io.specs.Views.{SinkView}
use Rattle.gcx_io.specs.Writing.{Owes}
use Rattle.outside.specs.Follows.{NoneDropped}
use Rattle.outside.specs.Places.{Longer, PlaceView, StopsBefore, WroteOn, took}

-- A sink that stopped before the next bytes of a text owes the rest of it.
abbrev pub NextWriteOwed : Type 0
NextWriteOwed = (a b : SinkView) (sure more next later : List ℕ) → StopsBefore a b (sure ++ more) next → Owes a b sure (sure ++ more ++ next ++ later)

-- What some calls that write do, and then more of them, is what all of them do.
abbrev pub WritesFollow : Type 0
WritesFollow = (o p q : Option ℕ) (a b c : ℕ → PlaceView) → NoneDropped o a → NoneDropped p b → WroteOn o p a b → WroteOn p q b c → WroteOn o q a c

-- Each place took what it had taken, and maybe more.
abbrev pub OnlyMoreTaken : Type 0
OnlyMoreTaken = (o p : Option ℕ) (a b : ℕ → PlaceView) → WroteOn o p a b → (i : ℕ) → Longer (took (a i)) (took (b i))

-- No count of faults falls.
abbrev pub FaultsOnlyRise : Type 0
FaultsOnlyRise = (o p : Option ℕ) (a b : ℕ → PlaceView) → WroteOn o p a b → (i : ℕ) → (a i).sink.faults ≤ (b i).sink.faults
