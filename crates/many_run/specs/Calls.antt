-- What the calls of several plans make, a record or a statement for each (this project's).
use Rattle.std.specs.Prelude.{◌≡◌, ◌≢◌, ℕ, Bool, true, false, List, [], ◌++◌, length, slice_get, None, Some, Result, ⊤}
use Rattle.gcx_base.specs.declared.limits.Limits.{Limits}
use Rattle.gcx_model.specs.declared.fault.DocFault.{DocFault}
use Rattle.gcx_model.specs.Tree.{Tree}
use Rattle.doc_reader.specs.Standing.{Answers}
use Rattle.many_run.specs.Many.{ManyKept, ManyLost, ManyStand}
use Rattle.many_run.specs.View.{ManyView}
use Rattle.run_part.specs.View.{PartView}

-- With the piece the plans stand for the bytes so far, or memory ran out on the way. `on` tells which.
abbrev pub TakesDocPiece : {C : Type 0} → (C → Tree → Type 0) → (on : (lost kept : Type 0) → Type 0) → (old new : ManyView C) → (piece : List ℕ) → Type 0
TakesDocPiece stands on old new piece = (lim : Limits) (b : List ℕ) → ManyStand stands lim old b false → old.refused ≡ None
    → on (ManyLost lim old new b false (b ++ piece) false) (ManyKept stands lim old new b false (b ++ piece) false)

-- the answer is the first fault of the bytes, or none
abbrev pub JudgesDocPiece : {C : Type 0} → (C → Tree → Type 0) → ManyView C → Result ⊤ DocFault → (piece : List ℕ) → Type 0
JudgesDocPiece stands old r piece = (lim : Limits) (b : List ℕ) → ManyStand stands lim old b false → old.refused ≡ None → Answers r lim (b ++ piece) false

-- the same at the end of the document
abbrev pub TakesDocEnd : {C : Type 0} → (C → Tree → Type 0) → (on : (lost kept : Type 0) → Type 0) → (old new : ManyView C) → Type 0
TakesDocEnd stands on old new = (lim : Limits) (b : List ℕ) (ended : Bool) → ManyStand stands lim old b ended → old.refused ≡ None
    → on (ManyLost lim old new b ended b true) (ManyKept stands lim old new b ended b true)

abbrev pub JudgesDocEnd : {C : Type 0} → (C → Tree → Type 0) → ManyView C → Result ⊤ DocFault → Type 0
JudgesDocEnd stands old r = (lim : Limits) (b : List ℕ) (ended : Bool) → ManyStand stands lim old b ended → old.refused ≡ None → Answers r lim b true

-- Of one plan the output is written; all else is as it was.
pub record ClearsOutput {C : Type 0} (query : ℕ) (old new : ManyView C) : Type 0 where
  pub rest : new ≡ record old { parts = new.parts }
  pub count : length new.parts ≡ length old.parts
  pub others : (i : ℕ) → i ≢ query → slice_get new.parts i ≡ slice_get old.parts i
  pub cleared : (p : PartView C) → slice_get old.parts query ≡ Some p → slice_get new.parts query ≡ Some (record p { out = [] })
