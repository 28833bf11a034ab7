-- What contracts see of an engine (this project's).
use Rattle.std.specs.Prelude.{ℕ, Bool, List, Option}
use Rattle.gcx_model.specs.declared.fault.DocFault.{DocFault}
use Rattle.gcx_model.specs.declared.plan.Plan.{Plan}
use Rattle.doc_reader.specs.Standing.{ReaderView}
use Rattle.run_part.specs.View.{ActorsView, PartView}
use Rattle.engine.specs.declared.any_part.AnyPart.{AnyPart}
use Rattle.engine.specs.declared.any_part.AnyPart.TheVariants.{WithoutLines, WithLines}

-- An engine: its plan, the most tokens of a group, whether a trace is wanted, the reader, the actors, the output and the trace that
-- aren't written yet, how many bytes were fed, what is refused, and whether the input ended.
pub record EngineView (C : Type 0) : Type 0 where
  pub plan : Plan
  pub ahead : ℕ
  pub tracing : Bool
  pub reader : ReaderView
  pub actors : ActorsView C
  pub out : List ℕ
  pub trace : List ℕ
  pub bytes : ℕ
  pub refused : Option DocFault
  pub ended : Bool

-- what is seen of the part of an engine, with lines or without
abbrev pub seen_part : {N C : Type 0} → AnyPart N C → PartView C
seen_part (WithoutLines p) = p
seen_part (WithLines p) = p

-- an engine over this part
abbrev pub over_part : {C : Type 0} → PartView C → ReaderView → (bytes : ℕ) → (refused : Option DocFault) → (ended : Bool) → EngineView C
over_part p r bytes refused ended = record {
  plan = p.plan;
  ahead = p.ahead;
  tracing = p.tracing;
  reader = r;
  actors = p.actors;
  out = p.out;
  trace = p.trace;
  bytes = bytes;
  refused = refused;
  ended = ended;
}
