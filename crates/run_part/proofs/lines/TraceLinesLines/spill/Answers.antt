use Rattle.std.proofs.Common.{◌≡◌, ℕ, List, Some, ap, refl, subst, sym}
use Rattle.run_part.specs.Flows.{SpilledAt}
use Rattle.run_part.proofs.lines.TraceLinesLines.spill.Goals as goal

-- they go to place 1
pub spill-requires : goal.spill-requires
spill-requires g c = c.requires 1 refl

pub returns-clause-spilled : goal.returns-clause-spilled
returns-clause-spilled g c =
    let a = g.O.Outside.sinks c.args.to.now in
    let b = g.O.Outside.sinks c.spill.new.self in
    let left = c.spill.new.waiting.items in
    let s = c.spill.ensures.spilled in
    let h : SpilledAt (Some 1) a b c.self.inside.text.items left = record { flows = s.flows; others = λ k off. s.others k (λ e. off (ap Some (sym e))) } in
    subst (λ (z : List ℕ). SpilledAt (Some 1) a b z left) c.self.view_is h
