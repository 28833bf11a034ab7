use Rattle.std.proofs.Common.{◌≡◌, ap, refl, subst, sym}
use Rattle.run_part.specs.View.{PartView}
use Rattle.engine.specs.View.{EngineView, over_part, seen_part}
use Rattle.engine.proofs.engine.Engine.clear_trace.Goals as goal

pub returns-clause-rest : goal.returns-clause-rest
returns-clause-rest g c =
    let p = seen_part c.self.inside.part in
    let q = seen_part c.clear_trace.new.self in
    let r = c.self.inside.reader in
    let n = c.self.inside.bytes in
    let o = c.self.inside.refused in
    let z = c.self.inside.ended in
    let h : over_part q r n o z ≡ record (over_part p r n o z) { trace = q.trace }
    = subst (λ (x : PartView g.row.C.Denot). over_part x r n o z ≡ record (over_part p r n o z) { trace = x.trace }) (sym c.clear_trace.ensures) refl in
    subst (λ (x : EngineView g.row.C.Denot). over_part q r n o z ≡ record x { trace = q.trace }) c.self.view_is h

pub returns-clause-empty : goal.returns-clause-empty
returns-clause-empty g c = ap (λ (x : PartView g.row.C.Denot). x.trace) c.clear_trace.ensures
