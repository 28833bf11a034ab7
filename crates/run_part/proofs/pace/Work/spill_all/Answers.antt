use Rattle.std.proofs.Common.{◌≡◌, ◌∙◌, ◌++◌, [], ℕ, true, List, Option, length, ap, subst, sym}
use Rattle.outside.specs.Places.{Few, Spilled}
use Rattle.run_part.proofs.InOrder.{lines_order, lines_stay, no_waits, order_at, order_none, out_stays, output_order, trace_stays}
use Rattle.run_part.proofs.pace.Work.spill_all.Goals as goal

pub spill-requires : goal.spill-requires
spill-requires g c = subst (λ (n : ℕ). g.O.Outside.may c.args.to.now n) (sym c.output_place.ensures) c.requires.out

pub spill-requires-2 : goal.spill-requires-2
spill-requires-2 g c = λ p e.
    let v = c.args.to.now in
    let m = c.spill.new.self in
    g.met.O.Outside.keeps_may v m p (g.met.O.Outside.writes_keeps v m c.spill.ensures.writes) (c.requires.lines p e)

pub returns-clause-flows : goal.returns-clause-flows
returns-clause-flows g c =
    let l = g.L.Lines.seen c.args.lines.now in
    let r = g.L.Lines.seen c.spill-2.new.self in
    let a = g.O.Outside.sinks c.args.to.now in
    let b = g.O.Outside.sinks c.spill.new.self in
    let d = g.O.Outside.sinks c.spill-2.new.to in
    let out = c.args.self.now.out.items in
    let left = c.spill.new.waiting.items in
    let apart = g.met.L.Lines.apart c.args.lines.now in
    let s : Spilled l.output_at a b out left = subst (λ (n : ℕ). Spilled n a b out left) c.output_place.ensures c.spill.ensures.spilled in
    let t = c.spill-2.ensures.spilled in
    let same = c.spill-2.ensures.places in
    record { out = out_stays a b d l r out left apart s t same; trace = trace_stays a b d l r out left apart s t same }

pub returns-clause-few : goal.returns-clause-few
returns-clause-few g c =
    let m = c.spill.new.self in
    let z = c.spill-2.new.to in
    let left = c.spill.new.waiting.items in
    let still : g.O.Outside.most z true ≡ g.O.Outside.most m true = g.met.O.Outside.keeps_most m z true (g.met.O.Outside.writes_keeps m z c.spill-2.ensures.writes) in
    (subst (λ (k : Option ℕ). Few k (length left)) (sym still) c.spill.ensures.few, c.spill-2.ensures.few)

pub returns-clause-others : goal.returns-clause-others
returns-clause-others g c = λ k far off.
    let l = g.L.Lines.seen c.args.lines.now in
    let a = g.O.Outside.sinks c.args.to.now in
    let b = g.O.Outside.sinks c.spill.new.self in
    let out = c.args.self.now.out.items in
    let left = c.spill.new.waiting.items in
    let s : Spilled l.output_at a b out left = subst (λ (n : ℕ). Spilled n a b out left) c.output_place.ensures c.spill.ensures.spilled in
    c.spill-2.ensures.spilled.others k off ∙ s.others k far

-- the lines are written where the whole output was, or nothing is
pub returns-clause-order : goal.returns-clause-order
returns-clause-order g c = λ none base0 base1 bytes ls f i.
    let v = c.args.to.now in
    let m = c.spill.new.self in
    let z = c.spill-2.new.to in
    let l = g.L.Lines.seen c.args.lines.now in
    let r = g.L.Lines.seen c.spill-2.new.self in
    let a = g.O.Outside.sinks v in
    let b = g.O.Outside.sinks m in
    let d = g.O.Outside.sinks z in
    let out = c.args.self.now.out.items in
    let left = c.spill.new.waiting.items in
    let apart = g.met.L.Lines.apart c.args.lines.now in
    let s : Spilled l.output_at a b out left = subst (λ (n : ℕ). Spilled n a b out left) c.output_place.ensures c.spill.ensures.spilled in
    let first = g.met.O.Outside.writes_wrote v m c.spill.ensures.writes in
    let second = g.met.O.Outside.writes_wrote m z c.spill-2.ensures.writes in
    let still : g.O.Outside.most m true ≡ g.O.Outside.most v true = g.met.O.Outside.keeps_most v m true (g.met.O.Outside.writes_keeps v m c.spill.ensures.writes) in
    let whole : left ≡ [] = no_waits (g.O.Outside.most m true) left (still ∙ none) c.spill.ensures.few in
    order_none d r base0 base1 ls
    (order_at d l r base0 base1 ls c.spill-2.ensures.places
    (lines_order b d (g.O.Outside.broken m) (g.O.Outside.broken z) l left l.waits r.waits apart second (λ e. g.met.O.Outside.whole_drops m l.output_at e) whole c.spill-2.ensures.spilled base0 base1 bytes ls
    (s.flows ∙ f.out) (ap (λ (k : List ℕ). k ++ l.waits) (lines_stay a b l out left apart s) ∙ f.trace) f.fewer
    (output_order a b (g.O.Outside.broken v) (g.O.Outside.broken m) l out left apart first s base0 base1 ls i)))

pub returns-clause-writes : goal.returns-clause-writes
returns-clause-writes g c = g.met.O.Outside.writes_on c.args.to.now c.spill.new.self c.spill-2.new.to c.spill.ensures.writes c.spill-2.ensures.writes
