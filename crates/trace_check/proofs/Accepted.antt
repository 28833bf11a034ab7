-- What a run wrote of its trace is judged with yes.
use Rattle.std.proofs.Common.{◌≡◌, ℕ, true, List, refl, ◌∙◌, ap}
use Rattle.doc_laws.proofs.LastTag.{seen_one}
use Rattle.time_laws.specs.Checking.{fitted, line_ends}
use Rattle.trace_check.specs.Accepting.{TracesAreAccepted}
use Rattle.trace_check.specs.Judging.{trace_of}

pub traces_are_accepted : TracesAreAccepted
traces_are_accepted plan lim b ts us took s e u =
    let same : took ≡ trace_of plan us = e ∙ ap (trace_of plan) (seen_one lim b true ts us s u) in
    (refl, same, ap (λ (t : List ℕ). fitted (line_ends t)) same)
