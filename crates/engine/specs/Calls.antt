-- What the calls of an engine make, a record or a statement for each (this project's).
use Rattle.std.specs.Prelude.{◌≡◌, ℕ, Bool, true, false, List, [], ◌++◌, length, map, None, Result, ⊤}
use Rattle.gcx_base.specs.declared.limits.Limits.{Limits}
use Rattle.gcx_model.specs.declared.fault.DocFault.{DocFault}
use Rattle.gcx_model.specs.Tree.{Tree}
use Rattle.gcx_model.specs.PlanView.{plan_tree}
use Rattle.gcx_model.specs.Core.{PlanTree}
use Rattle.gcx_model.specs.Demand.{Line, demand, text_of_lines}
use Rattle.gcx_model.specs.Seen.{seen_tree}
use Rattle.doc_reader.specs.Standing.{Answers, KeepsAnswer, ReaderView, Token, behind_lent, lent_next, said_of, waiting}
use Rattle.engine.specs.View.{EngineView}
use Rattle.engine.specs.Engine.{IsSilent, IsTold, Kept, Lost, PartsStand, StandsOf, TraceGrewBy, TraceGrewWithin}
use Rattle.engine.specs.Going.{Breaks, FeedsOn, GoesOn}
use Rattle.run_part.specs.Telling.{GrewPart}

-- ---- a piece, or the end of the document

-- With the piece the engine stands for the bytes so far, or memory ran out on the way. `on` tells which.
abbrev pub FeedsPiece : {C : Type 0} → (C → Tree → Type 0) → (on : (lost kept : Type 0) → Type 0) → (old new : EngineView C) → (piece : List ℕ) → Type 0
FeedsPiece stands on old new piece = (lim : Limits) (b : List ℕ) → StandsOf stands lim old b false → old.refused ≡ None
    → on (Lost lim old new b false (b ++ piece) false) (Kept stands lim old new b false (b ++ piece) false)

-- its trace went on by that of these bytes, or by a front of it
abbrev pub TellsPiece : {C : Type 0} → (C → Tree → Type 0) → (on : (lost kept : Type 0) → Type 0) → (old new : EngineView C) → (piece : List ℕ) → Type 0
TellsPiece stands on old new piece = (lim : Limits) (b : List ℕ) → StandsOf stands lim old b false → old.refused ≡ None → IsTold old
    → on (TraceGrewWithin (plan_tree old.plan) lim b false (b ++ piece) false old.trace new.trace)
    (TraceGrewBy (plan_tree old.plan) lim b false (b ++ piece) false old.trace new.trace)

-- the answer is the first fault of the bytes, or none
abbrev pub AnswersPiece : {C : Type 0} → (C → Tree → Type 0) → EngineView C → Result ⊤ DocFault → (piece : List ℕ) → Type 0
AnswersPiece stands old r piece = (lim : Limits) (b : List ℕ) → StandsOf stands lim old b false → old.refused ≡ None → Answers r lim (b ++ piece) false

-- the same at the end of the document
abbrev pub FeedsEnd : {C : Type 0} → (C → Tree → Type 0) → (on : (lost kept : Type 0) → Type 0) → (old new : EngineView C) → Type 0
FeedsEnd stands on old new = (lim : Limits) (b : List ℕ) (ended : Bool) → StandsOf stands lim old b ended → old.refused ≡ None
    → on (Lost lim old new b ended b true) (Kept stands lim old new b ended b true)

abbrev pub TellsEnd : {C : Type 0} → (C → Tree → Type 0) → (on : (lost kept : Type 0) → Type 0) → (old new : EngineView C) → Type 0
TellsEnd stands on old new = (lim : Limits) (b : List ℕ) (ended : Bool) → StandsOf stands lim old b ended → old.refused ≡ None → IsTold old
    → on (TraceGrewWithin (plan_tree old.plan) lim b ended b true old.trace new.trace)
    (TraceGrewBy (plan_tree old.plan) lim b ended b true old.trace new.trace)

abbrev pub AnswersEnd : {C : Type 0} → (C → Tree → Type 0) → EngineView C → Result ⊤ DocFault → Type 0
AnswersEnd stands old r = (lim : Limits) (b : List ℕ) (ended : Bool) → StandsOf stands lim old b ended → old.refused ≡ None → Answers r lim b true

-- Behind the whole document no row is left, and as many roles were taken back as given.
pub record IsEmptied {C : Type 0} (e : EngineView C) : Type 0 where
  pub rows : e.actors.buffer.rows ≡ []
  pub balance : e.actors.counts.given ≡ e.actors.buffer.taken

-- It is an engine of the same plan, of groups as long, with a trace or none as before, and over the same loans.
pub record SameRun {C : Type 0} (old new : EngineView C) : Type 0 where
  pub plan : new.plan ≡ old.plan
  pub ahead : new.ahead ≡ old.ahead
  pub tracing : new.tracing ≡ old.tracing
  pub silent : IsSilent old → IsSilent new
  pub loans : new.actors.buffer.loans ≡ old.actors.buffer.loans

-- The rest is said of private functions.

-- ---- the tokens that wait

-- all that is lent was taken
abbrev pub TakesLent : (old new : ReaderView) → Type 0
TakesLent old new = new ≡ behind_lent (length (lent_next old)) old

-- whatever its parts stood for, this holds of it
abbrev pub OfParts : {C : Type 0} → (C → Tree → Type 0) → EngineView C → (Limits → List ℕ → Bool → List Token → Type 0) → Type 0
OfParts stands e holds = (lim : Limits) (b : List ℕ) (ended : Bool) (given : List Token) → PartsStand stands lim e b ended given → holds lim b ended given

-- all tokens that waited were fed, or memory ran out
abbrev pub FeedsAllFrom : {C : Type 0} → (C → Tree → Type 0) → (old new : EngineView C) → Type 0
FeedsAllFrom stands old new = OfParts stands old (λ lim b ended given. GoesOn stands lim old new b ended given)

-- more tokens were fed
abbrev pub FeedsFrom : {C : Type 0} → (C → Tree → Type 0) → (old new : EngineView C) → Type 0
FeedsFrom stands old new = OfParts stands old (λ lim b ended given. FeedsOn stands lim old new b ended given)

-- memory ran out on the way
abbrev pub BreaksFrom : {C : Type 0} → (C → Tree → Type 0) → (old new : EngineView C) → Type 0
BreaksFrom stands old new = OfParts stands old (λ lim b ended given. Breaks lim old new b ended given)

-- the lines of tokens fed to P, each with every action that is possible behind it
abbrev pub more_lines : PlanTree → Tree → List Token → List Line
more_lines plan P ts = demand plan (map said_of ts) P

-- Of the tokens that waited the first ones were fed to P, and told.
pub record ToldSome (plan : PlanTree) (P : Tree) (was now : List Token) (before after : List ℕ) : Type 0 where
  pub more : List Token
  pub waited : was ≡ more ++ now
  pub told : after ≡ before ++ text_of_lines (more_lines plan P more)

-- the text of the lines of all tokens that wait, behind those given
abbrev pub waiting_text : {C : Type 0} → EngineView C → List Token → List ℕ
waiting_text e given = text_of_lines (more_lines (plan_tree e.plan) (seen_tree (map said_of given)) (waiting e.reader))

-- all of it was told, or a front of it
abbrev pub TellsWaiting : {C : Type 0} → (C → Tree → Type 0) → (on : (lost kept : Type 0) → Type 0) → (old new : EngineView C) → Type 0
TellsWaiting stands on old new = IsTold old → OfParts stands old (λ lim b ended given.
    on (GrewPart old.trace new.trace (waiting_text old given)) (new.trace ≡ old.trace ++ waiting_text old given))

abbrev pub TellsWithin : {C : Type 0} → (C → Tree → Type 0) → (old new : EngineView C) → Type 0
TellsWithin stands old new = IsTold old → OfParts stands old (λ lim b ended given. GrewPart old.trace new.trace (waiting_text old given))

-- the lines of those that were fed, with the actions behind each
abbrev pub TellsTokens : {C : Type 0} → (C → Tree → Type 0) → (old new : EngineView C) → Type 0
TellsTokens stands old new = IsTold old → OfParts stands old (λ lim b ended given.
    ToldSome (plan_tree old.plan) (seen_tree (map said_of given)) (waiting old.reader) (waiting new.reader) old.trace new.trace)

-- What feeding tokens leaves as it is.
pub record GoesAlone {C : Type 0} (old new : EngineView C) : Type 0 where
  pub rest : new ≡ record old { reader = new.reader; actors = new.actors; out = new.out; trace = new.trace }
  pub keeps : KeepsAnswer old.reader new.reader
  pub silent : IsSilent old → IsSilent new
  pub loans : new.actors.buffer.loans ≡ old.actors.buffer.loans
