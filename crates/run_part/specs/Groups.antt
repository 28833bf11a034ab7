-- Groups of lent tokens, where what is written goes to a place (this project's).
use Rattle.std.specs.Prelude.{ℕ, Bool, List}
use Rattle.gcx_model.specs.Tree.{Tree}
use Rattle.outside.specs.Places.{PlaceView}
use Rattle.run_part.specs.Flows.{flow_at}
use Rattle.run_part.specs.Late.{BreaksAmong, BreaksGroupLate, EndsGroupLate, KeepsAmong, SomeAmong}
use Rattle.run_part.specs.declared.lent.Group.{Group}
use Rattle.run_part.specs.declared.lent.Groups.{Groups}
use Rattle.run_part.specs.declared.pace.Work.{Work}

-- the work, with what is outside, and what flowed to the place
abbrev pub flowed : {N C W : Type 0} → (sinks : W → ℕ → PlaceView) → (place : ℕ) → Work N C × W → List ℕ
flowed sinks place w = flow_at (sinks w.1) place w.0.out.items

abbrev pub SomeAmongTo : {N C W : Type 0} → (bytes : List ℕ) → (C → Tree → Type 0) → (sinks : W → ℕ → PlaceView) → Groups → Work N C × W → Group → Type 0
SomeAmongTo bytes stands sinks groups w group = SomeAmong bytes stands groups.ahead w.0.actors (flowed sinks groups.place w) group.left group.quiet

abbrev pub KeepsAmongTo : {N C W : Type 0} → (bytes : List ℕ) → (C → Tree → Type 0) → (sinks : W → ℕ → PlaceView) → Groups → (old new : Work N C × W) → Group → Group → Type 0
KeepsAmongTo bytes stands sinks groups old new group =
    KeepsAmong bytes stands groups.ahead old.0.actors new.0.actors group.left group.quiet (flowed sinks groups.place old) (flowed sinks groups.place new)

abbrev pub BreaksAmongTo : {N C W : Type 0} → (bytes : List ℕ) → (C → Tree → Type 0) → (sinks : W → ℕ → PlaceView) → Groups → (old new : Work N C × W) → Group → Type 0
BreaksAmongTo bytes stands sinks groups old new group =
    BreaksAmong bytes stands groups.ahead old.0.actors new.0.actors group.left group.quiet (flowed sinks groups.place old) (flowed sinks groups.place new)

abbrev pub EndsGroupTo : {N C W : Type 0} → (bytes : List ℕ) → (C → Tree → Type 0) → (sinks : W → ℕ → PlaceView) → (place : ℕ) → (old new : Work N C × W) → (quiet : Bool) → Type 0
EndsGroupTo bytes stands sinks place old new quiet = EndsGroupLate bytes stands old.0.actors new.0.actors quiet (flowed sinks place old) (flowed sinks place new)

abbrev pub BreaksGroupTo : {N C W : Type 0} → (bytes : List ℕ) → (C → Tree → Type 0) → (sinks : W → ℕ → PlaceView) → (place : ℕ) → (old new : Work N C × W) → (quiet : Bool) → Type 0
BreaksGroupTo bytes stands sinks place old new quiet = BreaksGroupLate bytes stands old.0.actors new.0.actors quiet (flowed sinks place old) (flowed sinks place new)
