-- How the parts of an engine go on from one state to a later one (this project's). This follows the code: beside what is refused of a slice
-- no public clause speaks of it.
use Rattle.std.specs.Prelude.{◌≡◌, ℕ, Bool, List, [], ◌++◌, map, Option, Some, None, Result, Ok, Err, ⊤}
use Rattle.gcx_base.specs.declared.limits.Limits.{Limits}
use Rattle.gcx_base.specs.declared.memory.Memory.{Memory as Lack}
use Rattle.gcx_model.specs.declared.fault.DocFault.{DocFault}
use Rattle.gcx_model.specs.declared.fault.DocFault.TheVariants.{Memory}
use Rattle.gcx_model.specs.Tree.{Tree, TreeToken as Said}
use Rattle.gcx_model.specs.PlanView.{plan_tree}
use Rattle.gcx_model.specs.Seen.{SeenIs, seen_tree}
use Rattle.doc_reader.specs.Standing.{Token, waiting, said_of}
use Rattle.engine.specs.View.{EngineView}
use Rattle.engine.specs.Engine.{Balanced, KeepsMost, PartsStand, OnRefusal}
use Rattle.run_part.specs.Actors.{Goes, all_of, bytes_at}

-- what an answer of the reader refuses
abbrev pub refusal_of : Result ⊤ DocFault → Option DocFault
refusal_of (Ok u) = None
refusal_of (Err f) = Some f

-- the refusal that is kept: want of memory, or else this one
abbrev pub lacking : Option DocFault → Result ⊤ Lack → Option DocFault
lacking o (Ok u) = o
lacking o (Err m) = Some Memory

-- the parts of an engine stand for some tokens
pub record SomeParts {C : Type 0} (stands : C → Tree → Type 0) (e : EngineView C) : Type 0 where
  pub limits : Limits
  pub read : List ℕ
  pub ended : Bool
  pub given : List Token
  pub of : PartsStand stands limits e read ended given

-- more tokens were fed
pub record FeedsOn {C : Type 0} (stands : C → Tree → Type 0) (lim : Limits) (old new : EngineView C) (b : List ℕ) (ended : Bool) (given : List Token) : Type 0 where
  pub more : List Token
  pub waited : waiting old.reader ≡ more ++ waiting new.reader
  pub parts : PartsStand stands lim new b ended (given ++ more)
  pub most : KeepsMost old new
  pub goes : Goes (plan_tree old.plan) (seen_tree (map said_of given)) (all_of (plan_tree old.plan) (seen_tree (map said_of given))) (seen_tree (map said_of (given ++ more))) (all_of (plan_tree old.plan) (seen_tree (map said_of (given ++ more)))) old.out new.out

-- Memory ran out on the way: what was written more is a front of what the run over the tree of all tokens writes more.
pub record Breaks {C : Type 0} (lim : Limits) (old new : EngineView C) (b : List ℕ) (ended : Bool) (given : List Token) : Type 0 where
  pub balance : Balanced new
  pub written : (us : List Said) → SeenIs lim b ended us → (part : List ℕ) × (rest : List ℕ)
      × (bytes_at (plan_tree old.plan) (seen_tree us) (all_of (plan_tree old.plan) (seen_tree us)) ≡ bytes_at (plan_tree old.plan) (seen_tree (map said_of given)) (all_of (plan_tree old.plan) (seen_tree (map said_of given))) ++ (part ++ rest))
      × (new.out ≡ old.out ++ part)

-- all tokens that waited were fed, and the reader's refusal is kept
pub record FedAll {C : Type 0} (stands : C → Tree → Type 0) (lim : Limits) (old new : EngineView C) (b : List ℕ) (ended : Bool) (given : List Token) : Type 0 where
  pub fed : FeedsOn stands lim old new b ended given
  pub none : waiting new.reader ≡ []
  pub refused : new.refused ≡ old.reader.refused

-- or memory ran out
abbrev pub GoesOn : {C : Type 0} → (C → Tree → Type 0) → Limits → (old new : EngineView C) → List ℕ → Bool → List Token → Type 0
GoesOn stands lim old new b ended given = OnRefusal new.refused (Breaks lim old new b ended given) (FedAll stands lim old new b ended given)
