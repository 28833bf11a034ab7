-- In which order outputs are taken (this project's).
use Rattle.std.specs.Prelude.{◌≡◌, ℕ, List, ◌++◌, Option}
use Rattle.gcx_model.specs.Tree.{TreeToken as Said}
use Rattle.outside.specs.Tokens.{ComeBehind}
use Rattle.outside.specs.Outputs.{OutputText}
use Rattle.outside.specs.Places.{PlaceView, flow, took_at}

-- Since the places had taken this, what was taken of the outputs is in order, as the taker says of these tokens.
pub record OrderedAt {A W : Type 0} (places : A → ℕ → Option ℕ) (ordered : A → List Said → (ℕ → List ℕ) → Type 0) (sinks : W → ℕ → PlaceView)
    (base : ℕ → List ℕ) (p : A × W) (given : List Said) : Type 0 where
  pub x : ℕ → List ℕ
  pub since : (i : ℕ) → took_at (sinks p.1) (places p.0 i) ≡ base i ++ x i
  pub is : ordered p.0 given x

-- Since then each output flowed as these tokens settle it.
abbrev pub FlowsFrom : {A W : Type 0} → (texts : A → ℕ → OutputText) → (places : A → ℕ → Option ℕ) → (outs : A → ℕ → List ℕ) → (sinks : W → ℕ → PlaceView)
    → (base : ℕ → List ℕ) → A × W → List Said → Type 0
FlowsFrom texts places outs sinks base p given = (i : ℕ) → flow places outs sinks p i ≡ base i ++ texts p.0 i given

-- a call from the first tokens to the others keeps the order
abbrev pub OrdersCall : {A W : Type 0} → (texts : A → ℕ → OutputText) → (places : A → ℕ → Option ℕ) → (outs : A → ℕ → List ℕ)
    → (ordered : A → List Said → (ℕ → List ℕ) → Type 0) → (sinks : W → ℕ → PlaceView) → (old new : A × W) → (ts us : List Said) → Type 0
OrdersCall texts places outs ordered sinks old new ts us = (base : ℕ → List ℕ) → FlowsFrom texts places outs sinks base old ts
    → OrderedAt places ordered sinks base old ts → OrderedAt places ordered sinks base new us

-- so it was whatever a taker stood for, where it was handed these tokens
abbrev pub OrdersTokens : {A W : Type 0} → (stands : A → List Said → Type 0) → (texts : A → ℕ → OutputText) → (places : A → ℕ → Option ℕ) → (outs : A → ℕ → List ℕ)
    → (ordered : A → List Said → (ℕ → List ℕ) → Type 0) → (sinks : W → ℕ → PlaceView) → (old new : A × W) → (more : List Said) → Type 0
OrdersTokens stands texts places outs ordered sinks old new more = (given : List Said) → stands old.0 given → ComeBehind given more
    → OrdersCall texts places outs ordered sinks old new given (given ++ more)

-- or where what waited was written
abbrev pub OrdersWrites : {A W : Type 0} → (stands : A → List Said → Type 0) → (texts : A → ℕ → OutputText) → (places : A → ℕ → Option ℕ) → (outs : A → ℕ → List ℕ)
    → (ordered : A → List Said → (ℕ → List ℕ) → Type 0) → (sinks : W → ℕ → PlaceView) → (old new : A × W) → Type 0
OrdersWrites stands texts places outs ordered sinks old new = (given : List Said) → stands old.0 given
    → OrdersCall texts places outs ordered sinks old new given given
