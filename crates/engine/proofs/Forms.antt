-- What a call leaves of an engine as it is.
use Rattle.std.proofs.Common.{◌≡◌, refl, ◌∙◌, subst}
use Rattle.doc_reader.specs.Standing.{ReaderView, KeepsAnswer}
use Rattle.engine.specs.View.{EngineView}
use Rattle.engine.specs.Calls.{GoesAlone, SameRun}

pub keeps_none : (r : ReaderView) → KeepsAnswer r r
keeps_none r = record { finished = refl; answer = refl }

pub keeps_on : (a b c : ReaderView) → KeepsAnswer a b → KeepsAnswer b c → KeepsAnswer a c
keeps_on a b c p q = record { finished = q.finished ∙ p.finished; answer = q.answer ∙ p.answer }

module _ {C : Type 0} where
  -- tokens taken from the reader and fed, and actions taken
  abbrev pub all_form : (old e : EngineView C) → EngineView C
  all_form old e = record old { reader = e.reader; actors = e.actors; out = e.out; trace = e.trace }

  pub alone_on : (old e d : EngineView C) → GoesAlone old e → GoesAlone e d → GoesAlone old d
  alone_on old e d a b = record {
    rest = subst (λ (z : EngineView C). d ≡ all_form z d) a.rest b.rest;
    keeps = keeps_on old.reader e.reader d.reader a.keeps b.keeps;
    silent = λ s. b.silent (a.silent s);
    loans = b.loans ∙ a.loans;
  }

  -- ---- whole calls

  pub same_none : (e : EngineView C) → SameRun e e
  same_none e = record { plan = refl; ahead = refl; tracing = refl; silent = λ s. s; loans = refl }

  pub same_on : (a b c : EngineView C) → SameRun a b → SameRun b c → SameRun a c
  same_on a b c p q = record { plan = q.plan ∙ p.plan; ahead = q.ahead ∙ p.ahead; tracing = q.tracing ∙ p.tracing; silent = λ s. q.silent (p.silent s); loans = q.loans ∙ p.loans }
