-- Outputs over the tokens taken, and how they grow (this project's).
use Rattle.std.specs.Prelude.{◌≡◌, ℕ, List, ◌++◌}
use Rattle.gcx_model.specs.Tree.{TreeToken as Said}
use Rattle.outside.specs.Tokens.{ComeBehind}

-- what an output is, over the tokens taken
abbrev pub OutputText : Type 0
OutputText = List Said → List ℕ

-- with more tokens the text is longer
pub record SettlesMore (text : OutputText) (ts us : List Said) : Type 0 where
  pub more : List ℕ
  pub is : text (ts ++ us) ≡ text ts ++ more

-- From the first tokens to the others an output grew by exactly what became settled.
pub record OutputGrewBy (text : OutputText) (ts us : List Said) (old new : List ℕ) : Type 0 where
  pub more : List ℕ
  pub settles : text us ≡ text ts ++ more
  pub grew : new ≡ old ++ more

-- It grew by a front of that.
pub record OutputGrewWithin (text : OutputText) (ts us : List Said) (old new : List ℕ) : Type 0 where
  pub part : List ℕ
  pub rest : List ℕ
  pub settles : text us ≡ text ts ++ (part ++ rest)
  pub grew : new ≡ old ++ part

-- each output did
abbrev pub EachGrewBy : (texts : ℕ → OutputText) → (ts us : List Said) → (old new : ℕ → List ℕ) → Type 0
EachGrewBy texts ts us old new = (i : ℕ) → OutputGrewBy (texts i) ts us (old i) (new i)

abbrev pub EachGrewWithin : (texts : ℕ → OutputText) → (ts us : List Said) → (old new : ℕ → List ℕ) → Type 0
EachGrewWithin texts ts us old new = (i : ℕ) → OutputGrewWithin (texts i) ts us (old i) (new i)

-- there are as many outputs, and each is of the same text
pub record SameOutputs {A : Type 0} (count : A → ℕ) (texts : A → ℕ → OutputText) (old new : A) : Type 0 where
  pub count_is : count new ≡ count old
  pub texts_are : (i : ℕ) → texts new i ≡ texts old i

-- It stands for some tokens behind which these may come.
pub record MayTakeTokens (stands : List Said → Type 0) (more : List Said) : Type 0 where
  pub given : List Said
  pub of : stands given
  pub come : ComeBehind given more

-- These tokens were taken behind those: each output grew by what they settle, and the peak is kept.
pub record TookBehind {A : Type 0} (stands : A → List Said → Type 0) (texts : A → ℕ → OutputText) (outs : A → ℕ → List ℕ)
    (keeps_peak : A → A → Type 0) (old new : A) (given more : List Said) : Type 0 where
  pub stand : stands new (given ++ more)
  pub grew : EachGrewBy (texts old) given (given ++ more) (outs old) (outs new)
  pub peak : keeps_peak old new

-- whatever it stood for, all of these tokens were taken
abbrev pub TakesAll : {A : Type 0} → (stands : A → List Said → Type 0) → (texts : A → ℕ → OutputText) → (outs : A → ℕ → List ℕ)
    → (keeps_peak : A → A → Type 0) → (old new : A) → (more : List Said) → Type 0
TakesAll stands texts outs keeps_peak old new more =
    (given : List Said) → stands old given → ComeBehind given more → TookBehind stands texts outs keeps_peak old new given more

-- or some of them, before memory ran out
abbrev pub TakesSome : {A : Type 0} → (stands : A → List Said → Type 0) → (texts : A → ℕ → OutputText) → (outs : A → ℕ → List ℕ)
    → (old new : A) → (more : List Said) → Type 0
TakesSome stands texts outs old new more =
    (given : List Said) → stands old given → ComeBehind given more → EachGrewWithin (texts old) given (given ++ more) (outs old) (outs new)
