-- What an engine stands for, whatever of its output is written.
use Rattle.std.proofs.Common.{◌≡◌, ℕ, ◌≤◌, Bool, false, List, length, sym, ◌∙◌, ap, subst, None, Option}
use Rattle.gcx_base.specs.declared.limits.Limits.{Limits}
use Rattle.gcx_model.specs.declared.fault.DocFault.{DocFault}
use Rattle.gcx_model.specs.Tree.{Tree}
use Rattle.gcx_model.specs.Faults.{FaultIs}
use Rattle.doc_reader.specs.Standing.{IsFault}
use Rattle.engine.specs.View.{EngineView}
use Rattle.engine.specs.Engine.{StandsOf}
use Rattle.engine.specs.Runs.{GoesOnFrom}
use Rattle.engine.proofs.Nothing.{none_within}

-- ---- output and trace don't matter to what an engine stands for

module _ {C : Type 0} (stands : C → Tree → Type 0) (lim : Limits) where
  pub stands_written : (e d : EngineView C) (b : List ℕ) (ended : Bool) → d ≡ record e { out = d.out; trace = d.trace } → StandsOf stands lim e b ended → StandsOf stands lim d b ended
  stands_written e d b ended same s = subst (λ (z : EngineView C). StandsOf stands lim z b ended) (sym same) (record {
    given = s.given;
    seen = s.seen;
    parts = record { limits = s.parts.limits; reader = s.parts.reader; actors = s.parts.actors; counts = s.parts.counts };
    none = s.none;
    closing = s.closing;
    bytes = s.bytes;
    fault = s.fault;
    lasting = s.lasting;
    kept = s.kept;
  })

  pub goes_written : (e d : EngineView C) → d ≡ record e { out = d.out; trace = d.trace } → GoesOnFrom stands lim e → GoesOnFrom stands lim d
  goes_written e d same s = record {
    read = s.read;
    of = stands_written e d s.read false same s.of;
    fresh = ap (λ (z : EngineView C). z.refused) same ∙ s.fresh;
  }

  -- bytes without a fault are few
  pub bytes_few : (e : EngineView C) (b : List ℕ) (ended : Bool) → StandsOf stands lim e b ended → e.refused ≡ None → FaultIs lim b ended None × (length b ≤ lim.bytes)
  bytes_few e b ended s fresh = let f : FaultIs lim b ended None = subst (λ (z : Option DocFault). IsFault z lim b ended) fresh s.fault in (f, none_within lim b ended f)
