-- How the parts go on from some tokens to more (this project's). This follows the code: no public clause speaks of it.
use Rattle.std.specs.Prelude.{◌≡◌, ℕ, Bool, List, [], ◌++◌, map}
use Rattle.gcx_base.specs.declared.limits.Limits.{Limits}
use Rattle.gcx_model.specs.Tree.{Tree, TreeToken as Said, opening}
use Rattle.gcx_model.specs.PlanView.{plan_tree}
use Rattle.gcx_model.specs.Seen.{SeenIs}
use Rattle.gcx_model.specs.declared.plan.Plan.{Plan}
use Rattle.doc_reader.specs.Standing.{Stands, Token, said_of, waiting}
use Rattle.run_part.specs.Actors.{all_of, bytes_at}
use Rattle.engine.specs.Engine.{MayLimit, OnRefusal}
use Rattle.many_run.specs.Each.{OfEach}
use Rattle.many_run.specs.Many.{EachGrew}
use Rattle.run_part.specs.Part.{PartStands, PartGoes, PartBreaks}
use Rattle.many_run.specs.View.{ManyView}
use Rattle.run_part.specs.View.{PartView}

-- There is a part for each plan, before any token, with what its run writes then.
pub record BeginsParts {C : Type 0} (stands : C → Tree → Type 0) (plans : List Plan) (parts : List (PartView C)) : Type 0 where
  pub plans_are : map (λ p. p.plan) parts ≡ plans
  pub stand : OfEach (PartStands stands 1 []) parts
  pub written : OfEach (λ p. p.out ≡ bytes_at (plan_tree p.plan) opening (all_of (plan_tree p.plan) opening)) parts

-- The reader was fed these bytes and gave these tokens, and the parts stand for them.
pub record TokensGiven {C : Type 0} (stands : C → Tree → Type 0) (m : ManyView C) (lim : Limits) (b : List ℕ) (ended : Bool) (given : List Token) : Type 0 where
  pub limits : MayLimit lim
  pub reader : Stands m.reader lim b ended given
  pub parts : OfEach (PartStands stands 1 (map said_of given)) m.parts

-- They stand for some tokens.
pub record SomeTokensGiven {C : Type 0} (stands : C → Tree → Type 0) (m : ManyView C) : Type 0 where
  pub limits : Limits
  pub read : List ℕ
  pub ended : Bool
  pub given : List Token
  pub of : TokensGiven stands m limits read ended given

-- whatever they stand for, this holds of it
abbrev pub OfGiven : {C : Type 0} → (C → Tree → Type 0) → ManyView C → (Limits → List ℕ → Bool → List Token → Type 0) → Type 0
OfGiven stands m holds = (lim : Limits) (b : List ℕ) (ended : Bool) (given : List Token) → TokensGiven stands m lim b ended given → holds lim b ended given

-- Some of the tokens that waited were taken, and fed to each part.
pub record FedSome {C : Type 0} (stands : C → Tree → Type 0) (old new : ManyView C) (lim : Limits) (b : List ℕ) (ended : Bool) (given : List Token) : Type 0 where
  pub more : List Token
  pub waited : waiting old.reader ≡ more ++ waiting new.reader
  pub has : TokensGiven stands new lim b ended (given ++ more)
  pub goes : EachGrew (λ plan. PartGoes plan (map said_of given) (map said_of (given ++ more))) old new

-- all of them
pub record FedEach {C : Type 0} (stands : C → Tree → Type 0) (old new : ManyView C) (lim : Limits) (b : List ℕ) (ended : Bool) (given : List Token) : Type 0 where
  pub has : TokensGiven stands new lim b ended (given ++ waiting old.reader)
  pub none : waiting new.reader ≡ []
  pub goes : EachGrew (λ plan. PartGoes plan (map said_of given) (map said_of (given ++ waiting old.reader))) old new

-- Memory ran out on the way: what each wrote more is a front of what its run over the tree of all tokens writes more.
abbrev pub BreaksEach : {C : Type 0} → (old new : ManyView C) → Limits → List ℕ → Bool → List Token → Type 0
BreaksEach old new lim b ended given =
    (us : List Said) → SeenIs lim b ended us → EachGrew (λ plan. PartBreaks plan (map said_of given) us) old new

-- All were fed and the reader's refusal is kept, or memory ran out.
pub record FedWith {C : Type 0} (stands : C → Tree → Type 0) (old new : ManyView C) (lim : Limits) (b : List ℕ) (ended : Bool) (given : List Token) : Type 0 where
  pub fed : FedEach stands old new lim b ended given
  pub refused : new.refused ≡ old.reader.refused

abbrev pub FedBy : {C : Type 0} → (C → Tree → Type 0) → (old new : ManyView C) → Limits → List ℕ → Bool → List Token → Type 0
FedBy stands old new lim b ended given =
    OnRefusal new.refused (BreaksEach old new lim b ended given) (FedWith stands old new lim b ended given)
