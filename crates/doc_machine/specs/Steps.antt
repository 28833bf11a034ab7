-- These definitions follow the code; no public clause speaks of them.
-- What the parts of a step answer (this project's).
use Rattle.std.specs.Prelude.{ℕ, ◌≡◌, ◌≤◌, Bool, true, false, List, Option, Some, None, Result, Ok, Err, drop, length, [], ◌∷◌, ◌++◌, ◌==◌, if◌then◌else◌}
use Rattle.gcx_model.specs.Markup.{one_more}
use Rattle.doc_laws.specs.Machine.{State, Between, InCDSect, Referred, More, Done, Bad, closed, behind}
use Rattle.doc_machine.specs.declared.mode.Mode.{Mode}
use Rattle.doc_machine.specs.declared.referring.Referred.{Referred as Answer}
use Rattle.doc_machine.specs.declared.referring.Referred.TheVariants as answer
use Rattle.doc_machine.specs.Machine.{mode_of, referring_of}

-- the state in the next mode, if there is one
abbrev pub turned : State → Option Mode → Option State
turned s None = None
turned s (Some m) = Some (record s { mode = mode_of s.names m })

-- a step was taken; or there is none, and the tokens of the whole tags are the same
abbrev pub Taken : Bool → State → Option State → State → Type 0
Taken true old o new = o ≡ Some new
Taken false old o new = (o ≡ None) × (new.tokens ≡ old.tokens)

-- where memory ran out the tokens of the whole tags are the same too
abbrev pub Stepped : {E : Type 0} → Result Bool E → State → Option State → State → Type 0
Stepped (Ok b) old o new = Taken b old o new
Stepped (Err e) old o new = new.tokens ≡ old.tokens

-- the state is this one
abbrev pub Becomes : {T E : Type 0} → Result T E → State → State → State → Type 0
Becomes (Ok x) old next new = new ≡ next
Becomes (Err e) old next new = new.tokens ≡ old.tokens

-- the innermost element is closed, if there is one
abbrev pub ClosedBy : List (List ℕ) → State → State → Type 0
ClosedBy [] s new = Unit {0}
ClosedBy (n ∷ rest) s new = new ≡ closed s rest

abbrev pub Closes : {T E : Type 0} → Result T E → State → State → Type 0
Closes (Ok x) old new = ClosedBy old.names old new
Closes (Err e) old new = new.tokens ≡ old.tokens

-- how a reference goes on
abbrev pub referred_of : Answer → Referred
referred_of (answer.More r) = More (referring_of r)
referred_of (answer.Done c) = Done c
referred_of answer.Bad = Bad

-- the list begins with these so many bytes, or doesn't
abbrev pub IsBehind : Option ℕ → (bytes left : List ℕ) → Type 0
IsBehind None bytes left = behind bytes left ≡ None
IsBehind (Some n) bytes left = (n ≤ length left) × (behind bytes left ≡ Some (drop n left))

-- behind one bracket more in a CDATA section
abbrev pub bracketed : State → ℕ → State
bracketed s n = record s { mode = InCDSect (one_more n); run = if n == 2 then s.run ++ (93 ∷ []) else s.run }

-- behind a whole tag, whose tokens wait
abbrev pub behind_tag : State → State
behind_tag s = record s { mode = Between; rooted = true; typed = true; name = []; attrs = []; pending = []; tokens = s.tokens ++ s.pending }
